use Rattle.std.proofs.Common.{◌≡◌, ℕ, ◌+◌, ◌<◌, ◌≤◌, List, [], ◌∷◌, ◌++◌, length, map, drop, refl, sym, ap, ◌∙◌, arith, length-append}
use Rattle.std.specs.Prelude.{◌↔◌}
use Rattle.std.specs.Char.{to_ascii_lowercase}
use Rattle.std.proofs.lemmas.List.{length-map}
use Rattle.std.proofs.lemmas.List.Concat.{flat_map-append}
use Rattle.dns_name.specs.Name.{IsAtOrBelow, fold_of, label_bytes, labels_bytes}
use Rattle.dns_name.specs.NameBuffer.{labels_of, IsWire}
use Rattle.dns_name.proofs.Wire.{labels_bytes-fold_of, labels_bytes_same, folded_bytes}
use Rattle.dns_name.proofs.Walk.{Spells, Spells-length}

pub length-fold_of : (ls : List (List ℕ)) → length (labels_bytes (fold_of ls)) ≡ length (labels_bytes ls)
length-fold_of [] = refl
length-fold_of (l ∷ ls) = omega (arith, length-append l (labels_bytes ls), length-append (map to_ascii_lowercase l) (labels_bytes (fold_of ls)), length-fold_of ls, length-map l to_ascii_lowercase)

-- a name that is too long to equal another is below it where the name without its first label is at or below it
module _ (l : List ℕ) (ls os : List (List ℕ)) (longer : length (labels_bytes os) < length (labels_bytes (l ∷ ls))) where
  shorter : (front : List (List ℕ)) → fold_of (l ∷ ls) ≡ front ++ fold_of os → IsAtOrBelow ls os
  shorter [] e = absurd (omega (arith, ap (λ x. length (labels_bytes x)) e, length-fold_of os, length-fold_of (l ∷ ls)))
  shorter (f ∷ fs) e = (fs, ap (drop 1) e)

  pub IsAtOrBelow-next : IsAtOrBelow ls os ↔ IsAtOrBelow (l ∷ ls) os
  IsAtOrBelow-next = (λ h. (map to_ascii_lowercase l ∷ h.0, ap (λ xs. map to_ascii_lowercase l ∷ xs) h.1), λ h. shorter h.0 h.1)

-- a name that is no longer than another is at or below it where the two are equal
pub same_from_below : (ls os front : List (List ℕ)) → length (labels_bytes ls) ≤ length (labels_bytes os) → fold_of ls ≡ front ++ fold_of os → fold_of ls ≡ fold_of os
same_from_below ls os [] h e = e
same_from_below ls os (f ∷ fs) h e =
    absurd (omega (
      arith,
      ap (λ x. length (labels_bytes x)) e,
      length-fold_of os,
      length-fold_of ls,
      ap length (flat_map-append label_bytes fs (fold_of os)),
      length-append (labels_bytes fs) (labels_bytes (fold_of os)),
      length-append f (labels_bytes (fs ++ fold_of os)),
    ))

-- and that is where the bytes are equal, folded
pub IsAtOrBelow-bytes : (bytes other : List ℕ) (at : ℕ) (rest : List (List ℕ)) (P : Type 0) → IsWire other → Spells bytes at rest → length bytes ≤ at + length other → (P ↔ (map to_ascii_lowercase (drop at bytes) ≡ map to_ascii_lowercase other)) → P ↔ IsAtOrBelow rest (labels_of other)
IsAtOrBelow-bytes bytes other at rest P w s h p =
    let left : map to_ascii_lowercase (drop at bytes) ≡ labels_bytes (fold_of rest) = ap (map to_ascii_lowercase) s.left ∙ labels_bytes-fold_of rest s.each in
    let short : length (labels_bytes rest) ≤ length (labels_bytes (labels_of other)) = omega (arith, Spells-length bytes at rest s, ap length w.spelled) in (
      λ x. ([], labels_bytes_same _ _ (sym left ∙ p.0 x ∙ folded_bytes other w)),
      λ b. p.1 (left ∙ ap labels_bytes (same_from_below rest (labels_of other) b.0 short b.1) ∙ sym (folded_bytes other w)),
    )

pub iff_along : {P Q R : Type 0} → (P ↔ Q) → (Q ↔ R) → P ↔ R
iff_along f g = (λ x. g.0 (f.0 x), λ z. f.1 (g.1 z))
