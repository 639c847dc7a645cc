use Rattle.std.proofs.Common.{ap}
use Rattle.std.proofs.lemmas.Slice.Eq.{bytes_eq-Decides}
use Rattle.dns_name.specs.Name.{labels_bytes}
use Rattle.dns_name.proofs.Wire.{labels_bytes_same}
use Rattle.dns_name.proofs.name_laws.equal_names.Goals as goal

pub returns : goal.returns
returns c a b =
    let d = bytes_eq-Decides (labels_bytes a) (labels_bytes b) in
    (λ e. labels_bytes_same a b (d.0 e), λ e. d.1 (ap labels_bytes e))
