-- The first label of a name in its buffer.
use Rattle.std.proofs.Common.{◌≡◌, ℕ, suc, ◌+◌, ◌-◌, ◌<◌, ◌≤◌, true, false, List, [], ◌∷◌, ◌++◌, length, get_or, take, drop, refl, sym, ap, subst, ◌∙◌, arith}
use Rattle.std.specs.Prelude.{◌==◌}
use Rattle.std.proofs.lemmas.Bool.{eqb-true, eqb-false}
use Rattle.std.proofs.lemmas.List.{take_all, nil_from_length, take_at, drop_at}
use Rattle.dns_name.specs.Name.{IsName, label_bytes, labels_bytes}
use Rattle.dns_name.specs.NameBuffer.{labels_of, IsWire}
use Rattle.dns_name.proofs.Wire.{IsWire-spelled, labels_of-spelled}
use Rattle.dns_name.proofs.Walk.{Spells-whole, Spells-next, IsName-tail}

cut_at : (bytes l : List ℕ) (ls : List (List ℕ)) (k : ℕ) → k ≡ suc (length l) → bytes ≡ length l ∷ (l ++ labels_bytes ls) → (take k bytes ≡ label_bytes l) × (drop k bytes ≡ labels_bytes ls)
cut_at bytes l ls k size e = rw (size, e) (ap (λ x. length l ∷ x) (take_at l (labels_bytes ls) (length l) refl), drop_at l (labels_bytes ls) (length l) refl)

-- the first label of bytes, and the labels of the others
pub record Head (bytes : List ℕ) : Type 0 where
  pub first : List ℕ
  pub others : List (List ℕ)
  pub is : labels_of bytes ≡ first ∷ others
  pub front : take (1 + get_or bytes 0 0) bytes ≡ label_bytes first
  pub within : 1 + get_or bytes 0 0 ≤ length bytes
  pub rest : IsWire (drop (1 + get_or bytes 0 0) bytes)
  pub rest_is : labels_of (drop (1 + get_or bytes 0 0) bytes) ≡ others

pub head_of : (bytes : List ℕ) → IsWire bytes → 0 < length bytes → Head bytes
head_of bytes w h =
    let s = Spells-whole bytes w in
    let n = Spells-next bytes 0 (labels_of bytes) s h in
    let size : 1 + get_or bytes 0 0 ≡ suc (length n.first) = omega (arith, n.size) in
    let spelled : bytes ≡ length n.first ∷ (n.first ++ labels_bytes n.others) = w.spelled ∙ ap labels_bytes n.is in
    let cut = cut_at bytes n.first n.others (1 + get_or bytes 0 0) size spelled in
    let whole : IsName (n.first ∷ n.others) = subst IsName n.is w.name in
    record {
      first = n.first;
      others = n.others;
      is = n.is;
      front = cut.0;
      within = omega (arith, n.after.within, n.size);
      rest = IsWire-spelled _ n.others (IsName-tail n.first n.others whole) cut.1;
      rest_is = labels_of-spelled _ n.others cut.1;
    }

pub some_bytes : (bytes : List ℕ) → false ≡ (length bytes == 0) → 0 < length bytes
some_bytes bytes e = let n = eqb-false (length bytes) 0 (sym e) in omega arith

pub no_labels : (bytes : List ℕ) (self : List (List ℕ)) → labels_of bytes ≡ self → true ≡ (length bytes == 0) → self ≡ []
no_labels bytes self v e = sym v ∙ labels_of-spelled bytes [] (nil_from_length bytes (eqb-true (length bytes) 0 (sym e)))

-- one step of the labels
pub labels_step : (bytes front rest : List ℕ) (self : List (List ℕ)) → IsWire bytes → labels_of bytes ≡ self → 0 < length bytes → front ≡ take (1 + get_or bytes 0 0) bytes → rest ≡ drop (1 + get_or bytes 0 0) bytes → self ≡ take (length front - 1) (drop 1 front) ∷ labels_of rest
labels_step bytes front rest self w v h f r =
    let d = head_of bytes w h in
    let e : front ≡ label_bytes d.first = f ∙ d.front in
    let one : length (label_bytes d.first) - 1 ≡ length d.first = omega arith in
    sym v ∙ d.is ∙ rw (e, one, take_all (length d.first) d.first (omega arith), r, d.rest_is) refl
