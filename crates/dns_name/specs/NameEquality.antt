-- What `==` answers at two names.
use Rattle.std.specs.Prelude.{ℕ, List, Bool, nat_eq}
use Rattle.std.specs.Ordering.{on}
use Rattle.std.specs.Cmp.{IsEquivalence, on_equiv}
use Rattle.std.specs.Cmp.Lexicographic.{pointwise, nat_list_eq_equiv}
use Rattle.dns_name.specs.Name.{labels_bytes}

-- the bytes of the two names in a message are equal, so their letters are too, also in case
abbrev pub name_eq : List (List ℕ) → List (List ℕ) → Bool
name_eq = on labels_bytes (pointwise nat_eq)

-- that is an equivalence
pub name_eq_laws : IsEquivalence name_eq
name_eq_laws = on_equiv labels_bytes nat_list_eq_equiv
