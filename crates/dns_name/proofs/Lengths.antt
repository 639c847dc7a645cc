use Rattle.std.proofs.Common.{◌≡◌, ℕ, List, [], ◌∷◌, length, arith, length-append}
use Rattle.dns_name.specs.Name.{name_len, name_bytes, labels_bytes}
use Rattle.dns_name.proofs.Wire.{length-labels_bytes}

pub length_name_bytes : (labels : List (List ℕ)) → length (name_bytes labels) ≡ name_len labels
length_name_bytes labels = omega (arith, length-append (labels_bytes labels) (0 ∷ []), length-labels_bytes labels)
