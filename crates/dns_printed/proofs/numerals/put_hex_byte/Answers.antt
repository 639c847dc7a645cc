use Rattle.std.proofs.Common.{[], ◌∷◌, arith}
use Rattle.hex.specs.Hex.{encode_lower}
use Rattle.dns_printed.proofs.Putting.{same_text, hex_byte}
use Rattle.dns_printed.proofs.numerals.put_hex_byte.Goals as goal

pub returns : goal.returns
returns c =
    same_text c.args.out.now.items c.put_bytes.new.out.items (c.digit-high.result ∷ c.digit-low.result ∷ []) (encode_lower (c.args.byte ∷ [])) c.put_bytes.result
    (rw (c.digit-high.ensures, c.digit-low.ensures) (hex_byte c.args.byte (omega (arith, c.ranges.byte.fits))))
    c.put_bytes.ensures
