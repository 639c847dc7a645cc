use Rattle.std.proofs.Common.{ℕ, suc, ◌<◌, List, [], ◌∷◌, get_or, arith}
use Rattle.dns_wire.specs.Kept.{AreBytes}
use Rattle.dns_wire.proofs.kept.kept_bytes.Goals as goal

-- numbers, each of which is a byte
each_byte : (bytes : List ℕ) → ((k : ℕ) → get_or bytes k 0 < 256) → AreBytes bytes
each_byte [] each = tt
each_byte (byte ∷ bytes) each = (each 0, each_byte bytes (λ k. each (suc k)))

pub returns : goal.returns
returns c = each_byte c.args.bytes.now (λ k. omega (arith, c.type_inv.bytes k))
