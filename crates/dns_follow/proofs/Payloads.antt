-- The payload of a frame is read back as the frame.
use Rattle.std.proofs.Common.{◌≡◌, ℕ, ◌+◌, List, [], ◌∷◌, ◌++◌, length, false, Some, refl, ap, arith}
use Rattle.std.specs.Prelude.{nat_lt}
use Rattle.std.proofs.lemmas.List.{append_assoc}
use Rattle.std.proofs.lemmas.Bool.Decides.{nat_tests}
use Rattle.std.proofs.lemmas.Nat.{from_be_bytes-to_be_bytes_4, from_be_bytes-to_be_bytes_8}
use Rattle.dns_follow.specs.declared.frame.Frame.{Frame}
use Rattle.dns_follow.specs.Feed.{payload_of, frame_at, frame_in, IsInRange}

-- a frame by its parts
same : (f g : Frame) → f.id ≡ g.id → f.client ≡ g.client → f.serial ≡ g.serial → f.mark ≡ g.mark → f.bytes ≡ g.bytes → f ≡ g
same f g i c s m b = λ j. record { id = i j; client = c j; serial = s j; mark = m j; bytes = b j }

at_back : (f : Frame) → IsInRange f → frame_at (payload_of f) ≡ f
at_back f fits = same (frame_at (payload_of f)) f (from_be_bytes-to_be_bytes_8 f.id fits.id) (from_be_bytes-to_be_bytes_4 f.client fits.client) (from_be_bytes-to_be_bytes_4 f.serial fits.serial) refl refl

pub payload_size : (f : Frame) → length (payload_of f) ≡ 17 + length f.bytes
payload_size f = omega arith

long : (f : Frame) → nat_lt (length (payload_of f)) 17 ≡ false
long f = grind (arith, nat_tests, payload_size f)

pub read_back : (f : Frame) → IsInRange f → frame_in (payload_of f) ≡ Some f
read_back f fits = rw (long f) (ap Some (at_back f fits))

-- parts that are added one after another
pub joined : (o p q r s t u z a b c d : List ℕ) (m : ℕ) → p ≡ o ++ z → q ≡ p ++ a → r ≡ q ++ b → s ≡ r ++ c → t ≡ s ++ m ∷ [] → u ≡ t ++ d → u ≡ o ++ (z ++ (a ++ (b ++ (c ++ m ∷ d))))
joined o p q r s t u z a b c d m e1 e2 e3 e4 e5 e6 = rw (e6, e5, e4, e3, e2, e1) (simp append_assoc)
