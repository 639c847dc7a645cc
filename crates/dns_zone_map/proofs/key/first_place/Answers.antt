use Rattle.std.proofs.Common.{arith, length-append, ◌∷◌, []}
use Rattle.dns_name.specs.Name.{labels_bytes}
use Rattle.dns_name.proofs.Wire.{length-labels_bytes}
use Rattle.dns_zone_map.proofs.Written.{fewer_name_bytes}
use Rattle.dns_zone_map.proofs.key.first_place.Goals as goal

pub overflow_sub-result : goal.overflow_sub-result
overflow_sub-result c =
    omega (arith, fewer_name_bytes c.args.origin.now c.args.name.now c.requires, length-labels_bytes c.args.name.now, length-labels_bytes c.args.origin.now, c.len.ensures.written, length-append (labels_bytes c.args.name.now) (0 ∷ []), c.len-2.ensures.bytes)

pub returns-clause-is : goal.returns-clause-is
returns-clause-is c =
    omega (
      arith,
      fewer_name_bytes c.args.origin.now c.args.name.now c.requires,
      length-labels_bytes c.args.name.now,
      length-labels_bytes c.args.origin.now,
      c.len.ensures.written,
      length-append (labels_bytes c.args.name.now) (0 ∷ []),
      c.len-2.ensures.bytes,
      c.len.ensures.name.short,
    )
