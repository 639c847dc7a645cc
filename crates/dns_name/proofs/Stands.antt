use Rattle.std.proofs.Common.{◌≡◌, ℕ, zero, suc, ◌+◌, ◌-◌, ◌*◌, ◌≤◌, List, [], ◌∷◌, ◌++◌, length, take, drop, refl, sym, ap, subst, ◌∙◌, arith, append_assoc, length-append, length-drop, Some}
use Rattle.std.specs.Prelude.{slice_get}
use Rattle.std.specs.List.{AllByRecursion}
use Rattle.std.proofs.lemmas.List.{take_at, drop_at, drop-drop}
use Rattle.std.proofs.lemmas.Option.{same_Some, slice_get_within}
use Rattle.dns_name.specs.Name.{IsLabel, IsName, name_len, labels_bytes, name_bytes}
use Rattle.dns_name.specs.NameInMessage.{NameAt, ends, goes_on, points, StandsAt}
use Rattle.dns_name.proofs.Wire.{length-labels_bytes}
use Rattle.dns_name.proofs.NameRead.{NameAt-label, NameAt-points}

NameAt-ends : {m : List ℕ} {s i : ℕ} {labels : List (List ℕ)} {j : ℕ} → NameAt m s i labels j → slice_get m i ≡ Some 0 → ([] ≡ labels) × (i + 1 ≡ j)
NameAt-ends (ends e) is = (refl, refl)
NameAt-ends (goes_on x e l h within r) is = absurd (let same : x ≡ 0 = cc in omega arith)
NameAt-ends (points a b k e l f t r) is = absurd (let same : a ≡ 0 = cc in omega arith)

NameAt-points_end : {m : List ℕ} {s i : ℕ} {labels : List (List ℕ)} {j : ℕ} (n : ℕ) → NameAt m s i labels j → slice_get m i ≡ Some n → 64 ≤ n → i + 2 ≡ j
NameAt-points_end n (ends e) is low = absurd (let same : 0 ≡ n = cc in omega arith)
NameAt-points_end n (goes_on x e l h within r) is low = absurd (let same : x ≡ n = cc in omega arith)
NameAt-points_end n (points a b k e l f t r) is low = refl

-- at most one name stands at a place
pub NameAt-one : {m : List ℕ} {s i : ℕ} {labels : List (List ℕ)} {j : ℕ} → NameAt m s i labels j → (others : List (List ℕ)) (k : ℕ) → NameAt m s i others k → (labels ≡ others) × (j ≡ k)
NameAt-one (ends e) others k y = NameAt-ends y e
NameAt-one {m} {s} {i} (goes_on n e l h within r) others k y =
    let g = NameAt-label n y e l h in
    let q = NameAt-one r g.more k g.rest in
    (ap (λ ls. take n (drop (i + 1) m) ∷ ls) q.0 ∙ sym g.is, q.1)
NameAt-one {m} (points a b x e l f t r) others k y =
    let p = (NameAt-points a y e (omega arith)).1 in
    let same : p.b ≡ b = same_Some _ _ (sym p.second ∙ f) in
    let q = NameAt-one r others p.k (subst (λ (z : ℕ). NameAt m ((a - 192) * 256 + z) ((a - 192) * 256 + z) others p.k) same p.rest) in
    (q.0, NameAt-points_end a y e (omega arith))

pub StandsAt-one : (m : List ℕ) (i j k : ℕ) (labels others : List (List ℕ)) → StandsAt m i labels j → StandsAt m i others k → (labels ≡ others) × (j ≡ k)
StandsAt-one m i j k labels others a b = NameAt-one a.stands others k b.stands

head_at : (m : List ℕ) (i x : ℕ) (xs : List ℕ) → drop i m ≡ x ∷ xs → (slice_get m i ≡ Some x) × (drop (i + 1) m ≡ xs)
head_at [] zero x xs e = cc
head_at [] (suc i) x xs e = cc
head_at (y ∷ ys) zero x xs e = (let f : y ≡ x = cc in ap Some f, ap (drop 1) e)
head_at (y ∷ ys) (suc i) x xs e =
    let h = head_at ys i x xs e in
    let more : suc i + 1 ≡ suc (i + 1) = omega arith in
    (h.0, rw more h.1)

-- what is written stands there
pub NameAt-written : (m after : List ℕ) (s i : ℕ) (labels : List (List ℕ)) → AllByRecursion IsLabel labels → drop i m ≡ name_bytes labels ++ after → NameAt m s i labels (i + length (name_bytes labels))
NameAt-written m after s i [] a e = ends (head_at m i 0 after e).0
NameAt-written m after s i (l ∷ ls) a e =
    let h = head_at m i (length l) (((l ++ labels_bytes ls) ++ 0 ∷ []) ++ after) e in
    let tail : drop (i + 1) m ≡ l ++ (name_bytes ls ++ after) = h.1 ∙ simp append_assoc in
    let left : drop (i + 1 + length l) m ≡ name_bytes ls ++ after = sym (drop-drop (length l) (i + 1) m) ∙ ap (drop (length l)) tail ∙ drop_at l (name_bytes ls ++ after) (length l) refl in
    let label : take (length l) (drop (i + 1) m) ≡ l = ap (take (length l)) tail ∙ take_at l (name_bytes ls ++ after) (length l) refl in
    let within : i + 1 + length l ≤ length m = omega (arith, length-drop (i + 1) m, ap length tail, length-append l (name_bytes ls ++ after), a.0.0) in
    let size : i + 1 + length l + length (name_bytes ls) ≡ i + length (name_bytes (l ∷ ls)) = omega (arith, length-append (l ++ labels_bytes ls) (0 ∷ []), length-append l (labels_bytes ls), length-append (labels_bytes ls) (0 ∷ [])) in
    subst (λ (x : List ℕ). NameAt m s i (x ∷ ls) (i + length (name_bytes (l ∷ ls)))) label
    (rw (← size) (goes_on (length l) h.0 a.0.0 a.0.1 within (NameAt-written m after s (i + 1 + length l) ls a.1 left)))

pub StandsAt-written : (before after : List ℕ) (labels : List (List ℕ)) → IsName labels → StandsAt (before ++ (name_bytes labels ++ after)) (length before) labels (length before + name_len labels)
StandsAt-written before after labels n =
    let size : length (name_bytes labels) ≡ name_len labels = omega (arith, length-append (labels_bytes labels) (0 ∷ []), length-labels_bytes labels) in
    record { name = n; stands = rw (← size) (NameAt-written _ after (length before) (length before) labels n.each (drop_at before (name_bytes labels ++ after) (length before) refl)) }

pub NameAt-within : {m : List ℕ} {s i : ℕ} {labels : List (List ℕ)} {j : ℕ} → NameAt m s i labels j → j ≤ length m
NameAt-within {m} {s} {i} (ends e) = omega (arith, slice_get_within m i 0 e)
NameAt-within (goes_on n e l h within r) = NameAt-within r
NameAt-within {m} {s} {i} (points a b k e l f t r) = omega (arith, slice_get_within m (i + 1) b f)
