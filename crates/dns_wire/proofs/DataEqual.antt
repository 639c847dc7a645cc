-- What `==` answers at two values of an enum: whether the variants are one, and the fields equal.
use Rattle.std.proofs.Common.{◌≡◌, ℕ, Bool, true, false, List, [], ◌∷◌, refl, sym, ap, subst}
use Rattle.std.specs.Bool.{Decides}
use Rattle.std.specs.Prelude.{◌&&◌}
use Rattle.std.proofs.lemmas.Bool.Decides.{Decides-eqb, Decides-and, Decides-like}
use Rattle.std.proofs.lemmas.Slice.Eq.{bytes_eq-Decides}
use mathlib.Core.Logic.{◌⊎◌, inl, inr}
use denote.Struct.Field.{Field}
use denote.Struct.Values.{Values}
use denote.Enum.Compared.{Each, by}
use denote.Enum.Declared.{Choice, left_or, right_or, intoss}
use Rattle.dns_name.specs.Name.{labels_bytes}
use Rattle.dns_name.specs.NameEquality.{name_eq}
use Rattle.dns_name.proofs.Wire.{labels_bytes_same}
use Rattle.dns_wire.specs.declared.rdata.Data.{Data}
use Rattle.dns_wire.specs.contracts.rdata.Data.{the_type, the_parts, as_values}
use Rattle.dns_wire.specs.contracts.rdata.DataPartialEq.TheImpl.{ghosts}

-- the comparison of each variant decides whether the fields are equal
abbrev pub EachDecides : (Fss : List (List Field)) → Each Bool Fss → Type 0
EachDecides [] each = Unit {0}
EachDecides (Fs ∷ Fss) each = ((x y : Values Fs) → Decides (each.0 x y) (x ≡ y)) × EachDecides Fss each.1

abbrev IsLeft : {A B : Type 0} → A ⊎ B → Type 0
IsLeft (inl x) = Unit {0}
IsLeft (inr y) = ⊥

abbrev IsTrueBool : Bool → Type 0
IsTrueBool true = Unit {0}
IsTrueBool false = ⊥

pub by-Decides : (Fss : List (List Field)) (each : Each Bool Fss) → EachDecides Fss each → (c d : Choice Fss) → Decides (by false false Fss each c d) (c ≡ d)
by-Decides [] each h c d = absurd c
by-Decides (Fs ∷ Fss) each h (inl x) (inl y) = let one = h.0 x y in (λ e. ap inl (one.0 e), λ e. one.1 (ap (left_or x) e))
by-Decides (Fs ∷ Fss) each h (inl x) (inr y) = (λ e. absurd (subst IsTrueBool (sym e) tt), λ e. absurd (subst IsLeft e tt))
by-Decides (Fs ∷ Fss) each h (inr x) (inl y) = (λ e. absurd (subst IsTrueBool (sym e) tt), λ e. absurd (subst IsLeft (sym e) tt))
by-Decides (Fs ∷ Fss) each h (inr x) (inr y) = let one = by-Decides Fss each.1 h.1 x y in (λ e. ap inr (one.0 e), λ e. one.1 (ap (right_or x) e))

-- values of one field
one : {A : Type 0} (r : Bool) (x y : A × Unit {0}) → Decides r (x.0 ≡ y.0) → Decides r (x ≡ y)
one {A} r x y d = (λ e. ap (λ (z : A). (z, tt)) (d.0 e), λ e. d.1 (ap (λ (z : A × Unit {0}). z.0) e))

-- values of a field and others
more : {A B : Type 0} (r s : Bool) (x y : A × B) → Decides r (x.0 ≡ y.0) → Decides s (x.1 ≡ y.1) → Decides (r && s) (x ≡ y)
more {A} {B} r s x y d e = Decides-like (r && s) together apart (Decides-and r s d e)
  where
    together : ((x.0 ≡ y.0) × (x.1 ≡ y.1)) → x ≡ y
    together p = λ i. (p.0 i, p.1 i)

    apart : x ≡ y → (x.0 ≡ y.0) × (x.1 ≡ y.1)
    apart p = (ap (λ (z : A × B). z.0) p, ap (λ (z : A × B). z.1) p)

name : (a b : List (List ℕ)) → Decides (name_eq a b) (a ≡ b)
name a b = let d = bytes_eq-Decides (labels_bytes a) (labels_bytes b) in (λ e. labels_bytes_same a b (d.0 e), λ e. d.1 (ap labels_bytes e))

pub Data-Decides : (a b : Data) → Decides (ghosts.eq a b) (a ≡ b)
Data-Decides a b = (λ e. the_type.to_one a b (ap (intoss the_parts) ((values a b).0 e)), λ e. subst (λ (z : Data). ghosts.eq a z ≡ true) e ((values a a).1 refl))
  where
    values : (x y : Data) → Decides (ghosts.eq x y) (as_values x ≡ as_values y)
    values x y = by-Decides the_parts _ (
      λ x y. one _ x y (Decides-eqb x.0 y.0),
      (
        λ x y. one _ x y (Decides-eqb x.0 y.0),
        (
          λ x y. one _ x y (name x.0 y.0),
          (
            λ x y. one _ x y (name x.0 y.0),
            (
              λ x y. one _ x y (name x.0 y.0),
              (
                λ x y. more _ _ x y (Decides-eqb x.0 y.0) (one _ x.1 y.1 (name x.1.0 y.1.0)),
                (
                  λ x y. more _ _ x y (Decides-eqb x.0 y.0) (more _ _ x.1 y.1 (Decides-eqb x.1.0 y.1.0) (more _ _ x.1.1 y.1.1 (Decides-eqb x.1.1.0 y.1.1.0) (one _ x.1.1.1 y.1.1.1 (name x.1.1.1.0 y.1.1.1.0)))),
                  (
                    λ x y. more _ _ x y (Decides-eqb x.0 y.0) (more _ _ x.1 y.1 (name x.1.0 y.1.0) (more _ _ x.1.1 y.1.1 (name x.1.1.0 y.1.1.0) (more _ _ x.1.1.1 y.1.1.1 (Decides-eqb x.1.1.1.0 y.1.1.1.0) (more _ _ x.1.1.1.1 y.1.1.1.1 (Decides-eqb x.1.1.1.1.0 y.1.1.1.1.0) (more _ _ x.1.1.1.1.1 y.1.1.1.1.1 (Decides-eqb x.1.1.1.1.1.0 y.1.1.1.1.1.0) (one _ x.1.1.1.1.1.1 y.1.1.1.1.1.1 (Decides-eqb x.1.1.1.1.1.1.0 y.1.1.1.1.1.1.0))))))),
                    (
                      λ x y. one _ x y (name x.0 y.0),
                      (
                        λ x y. one _ x y (bytes_eq-Decides x.0 y.0),
                        (
                          λ x y. (λ e. refl, λ e. refl),
                          tt,
                        ),
                      ),
                    ),
                  ),
                ),
              ),
            ),
          ),
        ),
      ),
    ) (as_values x) (as_values y)
