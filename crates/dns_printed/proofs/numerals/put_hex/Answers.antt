use Rattle.std.proofs.Common.{◌≡◌, ℕ, List, [], ◌∷◌, ◌++◌, ◌∙◌, ap, drop, arith}
use Rattle.std.specs.List.{flat_map}
use Rattle.std.proofs.lemmas.Grind.{common_steps}
use Rattle.hex.specs.Hex.{encode_lower}
use Rattle.dns_printed.proofs.Putting.{one_stopped, same_text, ended, hex_bytes}
use Rattle.dns_printed.proofs.numerals.put_hex.Goals as goal

pub returns-in_err-put_hex_byte : goal.returns-in_err-put_hex_byte
returns-in_err-put_hex_byte c =
    same_text c.args.out.now.items c.put_hex_byte.new.out.items (flat_map (λ byte. encode_lower (byte ∷ [])) c.args.bytes.now) (encode_lower c.args.bytes.now) c.from_residual.result (hex_bytes c.args.bytes.now)
    (one_stopped (λ byte. encode_lower (byte ∷ [])) c.args.out.now.items c.loop-byte.out.items c.put_hex_byte.new.out.items (flat_map (λ byte. encode_lower (byte ∷ [])) c.args.bytes.now) c.args.bytes.now c.loop-byte.byte-index c.from_residual.result c.loop-byte-test.true c.loop-byte.invariant c.from_residual.ensures.0 c.in_err-put_hex_byte.ensures)

pub returns : goal.returns
returns c =
    let none : drop c.loop-byte.byte-index c.args.bytes.now ≡ [] = grind (arith, common_steps) in
    ended c.args.out.now.items c.loop-byte.out.items (flat_map (λ byte. encode_lower (byte ∷ [])) c.args.bytes.now) (flat_map (λ byte. encode_lower (byte ∷ [])) (drop c.loop-byte.byte-index c.args.bytes.now)) (ap (flat_map (λ byte. encode_lower (byte ∷ []))) none) c.loop-byte.invariant
    ∙ ap (λ (text : List ℕ). c.args.out.now.items ++ text) (hex_bytes c.args.bytes.now)
