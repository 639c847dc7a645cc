-- Names, and lists of byte strings, are equal where the bytes that they are kept as are.
use Rattle.std.proofs.Common.{◌≡◌, ℕ, List, Bool, sym, ap, ◌∙◌}
use Rattle.std.specs.Bool.{IsTrue}
use Rattle.std.proofs.lemmas.Slice.Eq.{bytes_eq-Decides}
use Rattle.dns_name.specs.Name.{labels_bytes}
use Rattle.dns_name.specs.NameEquality.{name_eq}
use Rattle.dns_name.proofs.Wire.{labels_bytes_same}

pub same_wire : (r : Bool) (a b : List (List ℕ)) → r ≡ name_eq a b → (IsTrue r → b ≡ a) × (b ≡ a → IsTrue r)
same_wire r a b e =
    let d = bytes_eq-Decides (labels_bytes a) (labels_bytes b) in
    (λ t. sym (labels_bytes_same a b (d.0 (sym e ∙ t))), λ f. e ∙ d.1 (ap labels_bytes (sym f)))
