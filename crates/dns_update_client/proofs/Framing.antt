-- How a frame is made of the two bytes of its length and what stands behind them.
use Rattle.std.proofs.Common.{◌≡◌, ℕ, ◌+◌, ◌*◌, ◌<◌, List, [], ◌∷◌, ◌++◌, length, get_or, refl, sym, ap, arith}
use Rattle.std.proofs.lemmas.Nat.{be_bytes_2}
use Rattle.std.specs.Int.{w16, to_be_bytes}
use Rattle.dns_wire.specs.declared.message.Message.{Message}
use Rattle.dns_wire.specs.MessageBytes.{message_bytes}
use Rattle.dns_update_client.specs.Exchange.{message_frame}
use Rattle.dns_update_client.specs.Framed.{frame}

pub frame-is : (bytes : List ℕ) → frame bytes ≡ to_be_bytes w16 (length bytes) ++ bytes
unfolding frame
frame-is bytes = refl

pub frame-made : (made bytes : List ℕ) → made ≡ to_be_bytes w16 (length bytes) ++ bytes → made ≡ frame bytes
unfolding frame
frame-made made bytes is = is

pub message_frame-is : (m : Message) → message_frame m ≡ frame (message_bytes m)
unfolding message_frame
message_frame-is m = refl

length-bytes : (prefix body : List ℕ) → ((i : ℕ) → get_or prefix i 0 < 256) → length prefix ≡ 2 → length body ≡ get_or prefix 0 0 * 256 + get_or prefix 1 0 → to_be_bytes w16 (length body) ≡ prefix
length-bytes [] body fits two is = absurd (omega (arith, two))
length-bytes (high ∷ []) body fits two is = absurd (omega (arith, two))
length-bytes (high ∷ low ∷ []) body fits two is = be_bytes_2 (high ∷ low ∷ []) (length body) refl fits (omega (arith, is))
length-bytes (high ∷ low ∷ byte ∷ bytes) body fits two is = absurd (omega (arith, two))

-- a frame, by its two parts
pub frame-of-parts : (prefix body : List ℕ) → ((i : ℕ) → get_or prefix i 0 < 256) → length prefix ≡ 2 → length body ≡ get_or prefix 0 0 * 256 + get_or prefix 1 0 → prefix ++ body ≡ frame body
unfolding frame
frame-of-parts prefix body fits two is = ap (λ (p : List ℕ). p ++ body) (sym (length-bytes prefix body fits two is))
