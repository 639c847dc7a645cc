use Rattle.std.proofs.Common.{ap, sym, ◌∙◌}
use Rattle.std.proofs.lemmas.Bool.Decides.{same_from_decides}
use Rattle.std.proofs.lemmas.Slice.Eq.{bytes_eq-Decides}
use Rattle.dns_name.specs.Name.{labels_bytes}
use Rattle.dns_name.proofs.Wire.{labels_bytes_same}
use Rattle.dns_zone_map.proofs.SameData.{lists_eq-Decides}
use Rattle.dns_update.proofs.changing.same_labels.Goals as goal

pub returns : goal.returns
returns c =
    let a = c.args.one.now in
    let b = c.args.other.now in
    let d = bytes_eq-Decides (labels_bytes a) (labels_bytes b) in
    same_from_decides c.eq.result _ (λ passed. labels_bytes_same a b (d.0 (sym c.eq.ensures ∙ passed)), λ same. c.eq.ensures ∙ d.1 (ap labels_bytes same)) (lists_eq-Decides a b)
