use Rattle.std.proofs.Common.{◌≡◌, ℕ, zero, suc, ◌+◌, ◌≤◌, List, [], ◌∷◌, length, map, refl, sym, ap, ◌∙◌, arith, length-append}
use Rattle.std.specs.List.{sum_by, AllByRecursion}
use Rattle.std.specs.Char.{to_ascii_lowercase}
use Rattle.std.proofs.lemmas.List.Sums.{sum_by-cons}
use Rattle.std.proofs.lemmas.List.{take_at, drop_at, map-append, length-map}
use Rattle.std.proofs.lemmas.Str.Ascii.{lowercase_is}
use Rattle.dns_name.specs.Name.{IsLabel, IsName, fold_of, labels_bytes}
use Rattle.dns_name.specs.NameBuffer.{cut_labels, labels_of, IsWire}

-- what labels spell is cut into them again
pub cut_labels-labels_bytes : (labels : List (List ℕ)) (most : ℕ) → length (labels_bytes labels) ≤ most → cut_labels most (labels_bytes labels) ≡ labels
unfolding cut_labels
cut_labels-labels_bytes [] zero h = refl
cut_labels-labels_bytes [] (suc most) h = refl
cut_labels-labels_bytes (l ∷ ls) zero h = absurd (omega arith)
cut_labels-labels_bytes (l ∷ ls) (suc most) h =
    let rest : length (labels_bytes ls) ≤ most = omega (arith, length-append l (labels_bytes ls)) in
    rw (take_at l (labels_bytes ls) (length l) refl, drop_at l (labels_bytes ls) (length l) refl, cut_labels-labels_bytes ls most rest) refl

pub labels_of-labels_bytes : (labels : List (List ℕ)) → labels_of (labels_bytes labels) ≡ labels
unfolding labels_of
labels_of-labels_bytes labels = cut_labels-labels_bytes labels (length (labels_bytes labels)) (omega arith)

pub labels_of-spelled : (bytes : List ℕ) (labels : List (List ℕ)) → bytes ≡ labels_bytes labels → labels_of bytes ≡ labels
labels_of-spelled bytes labels e = ap labels_of e ∙ labels_of-labels_bytes labels

pub IsWire-spelled : (bytes : List ℕ) (labels : List (List ℕ)) → IsName labels → bytes ≡ labels_bytes labels → IsWire bytes
IsWire-spelled bytes labels n e =
    let same : labels_of bytes ≡ labels = labels_of-spelled bytes labels e in
    record { name = rw same n; spelled = rw same e }

-- one spelling is of one name
pub labels_bytes_same : (a b : List (List ℕ)) → labels_bytes a ≡ labels_bytes b → a ≡ b
labels_bytes_same a b e = sym (labels_of-labels_bytes a) ∙ ap labels_of e ∙ labels_of-labels_bytes b

-- folding the bytes leaves a length as it is
pub labels_bytes-fold_of : (labels : List (List ℕ)) → AllByRecursion IsLabel labels → map to_ascii_lowercase (labels_bytes labels) ≡ labels_bytes (fold_of labels)
labels_bytes-fold_of [] h = refl
labels_bytes-fold_of (l ∷ ls) h =
    rw (map-append to_ascii_lowercase l (labels_bytes ls), labels_bytes-fold_of ls h.1, (lowercase_is (length l)).1 (omega arith), length-map l to_ascii_lowercase) refl

pub AllByRecursion-fold_of : (labels : List (List ℕ)) → AllByRecursion IsLabel labels → AllByRecursion IsLabel (fold_of labels)
AllByRecursion-fold_of [] h = tt
AllByRecursion-fold_of (l ∷ ls) h = (rw (length-map l to_ascii_lowercase) h.0, AllByRecursion-fold_of ls h.1)

-- how long the spelling is
pub length-labels_bytes : (labels : List (List ℕ)) → length (labels_bytes labels) ≡ sum_by length labels + length labels
length-labels_bytes [] = refl
length-labels_bytes (l ∷ ls) = omega (arith, length-append l (labels_bytes ls), length-labels_bytes ls, sum_by-cons length l ls)

pub IsName-fold_of : (labels : List (List ℕ)) → IsName labels → IsName (fold_of labels)
IsName-fold_of labels n =
    let same : length (labels_bytes (fold_of labels)) ≡ length (labels_bytes labels) = ap length (sym (labels_bytes-fold_of labels n.each)) ∙ length-map (labels_bytes labels) to_ascii_lowercase in
    record { each = AllByRecursion-fold_of labels n.each; short = omega (arith, n.short, length-labels_bytes labels, length-labels_bytes (fold_of labels)) }

pub IsName-nil : IsName []
IsName-nil = record { each = tt; short = omega arith }

-- the bytes of a name, folded
pub folded_bytes : (bytes : List ℕ) → IsWire bytes → map to_ascii_lowercase bytes ≡ labels_bytes (fold_of (labels_of bytes))
folded_bytes bytes w = ap (map to_ascii_lowercase) w.spelled ∙ labels_bytes-fold_of (labels_of bytes) w.name.each

-- how many bytes the labels of a name take
pub length-wire : (bytes : List ℕ) → IsWire bytes → length bytes ≤ 254
length-wire bytes w = omega (arith, ap length w.spelled, length-labels_bytes (labels_of bytes), w.name.short)
