use Rattle.std.proofs.Common.{drop, ◌∷◌, []}
use Rattle.std.specs.List.{flat_map}
use Rattle.dns_printed.specs.Appending.{IsPutUpTo}
use Rattle.hex.specs.Hex.{encode_lower}
use Rattle.dns_printed.proofs.numerals.put_hex.Given as goal

abbrev pub invariant-loop-byte : goal.invariant-loop-byte
invariant-loop-byte l = IsPutUpTo l.fn.out.items l.out.items (flat_map (λ byte. encode_lower (byte ∷ [])) l.bytes) (flat_map (λ byte. encode_lower (byte ∷ [])) (drop l.byte-index l.bytes))
