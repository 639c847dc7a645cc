use Rattle.std.proofs.Common.{◌≡◌, ℕ, suc, ◌+◌, ◌-◌, ◌*◌, ◌<◌, ◌≤◌, List, [], ◌∷◌, ◌++◌, length, get_or, take, drop, refl, sym, ap, subst, ◌∙◌, arith, append_assoc, length-append, length-drop, Option, Some, None}
use Rattle.std.specs.Prelude.{slice_get, unwrap_or}
use Rattle.std.proofs.lemmas.List.{append-nil, length-take-le, drop_more}
use Rattle.std.proofs.lemmas.List.Concat.{flat_map-append}
use Rattle.std.proofs.lemmas.Option.{slice_get-get_or, slice_get_past, same_Some}
use Rattle.dns_name.specs.Name.{name_len, label_bytes, labels_bytes}
use Rattle.dns_name.specs.NameBuffer.{labels_of, IsWire}
use Rattle.dns_name.specs.NameInMessage.{NameAt, ends, goes_on, points, StandsAt}
use Rattle.dns_name.proofs.Wire.{IsWire-spelled, labels_of-spelled, IsName-nil, length-labels_bytes}
use Rattle.dns_name.proofs.Walk.{IsName-push, labels_bytes-push}

-- what a byte says of the labels that stand there
pub record GoesOn (m : List ℕ) (s i n : ℕ) (labels : List (List ℕ)) (j : ℕ) : Type 0 where
  pub more : List (List ℕ)
  pub is : labels ≡ take n (drop (i + 1) m) ∷ more
  pub inside : i + 1 + n ≤ length m
  pub rest : NameAt m s (i + 1 + n) more j

pub NameAt-label : {m : List ℕ} {s i : ℕ} {labels : List (List ℕ)} {j : ℕ} (n : ℕ) → NameAt m s i labels j → slice_get m i ≡ Some n → 0 < n → n < 64 → GoesOn m s i n labels j
NameAt-label n (ends e) is low high = absurd (let same : 0 ≡ n = cc in omega arith)
NameAt-label {m} {s} {i} {labels} {j} n (goes_on x e l h within r) is low high =
    let same : x ≡ n = cc in
    subst (λ (y : ℕ). GoesOn m s i y labels j) same (record { more = _; is = refl; inside = within; rest = r })
NameAt-label n (points a b k e l f t r) is low high = absurd (let same : a ≡ n = cc in omega arith)

pub record Points (m : List ℕ) (s i a : ℕ) (labels : List (List ℕ)) (j : ℕ) : Type 0 where
  pub b : ℕ
  pub second : slice_get m (i + 1) ≡ Some b
  pub before : (a - 192) * 256 + b < s
  pub k : ℕ
  pub rest : NameAt m ((a - 192) * 256 + b) ((a - 192) * 256 + b) labels k

pub NameAt-points : {m : List ℕ} {s i : ℕ} {labels : List (List ℕ)} {j : ℕ} (n : ℕ) → NameAt m s i labels j → slice_get m i ≡ Some n → 64 ≤ n → (192 ≤ n) × Points m s i n labels j
NameAt-points n (ends e) is low = absurd (let same : 0 ≡ n = cc in omega arith)
NameAt-points n (goes_on x e l h within r) is low = absurd (let same : x ≡ n = cc in omega arith)
NameAt-points {m} {s} {i} {labels} {j} n (points a b k e l f t r) is low =
    let same : a ≡ n = cc in
    subst (λ (y : ℕ). (192 ≤ y) × Points m s i y labels j) same (l, record { b = b; second = f; before = t; k = k; rest = r })

pub NameAt-inside : {m : List ℕ} {s i : ℕ} {labels : List (List ℕ)} {j : ℕ} → NameAt m s i labels j → slice_get m i ≡ None → ⊥
NameAt-inside (ends e) is = cc
NameAt-inside (goes_on x e l h within r) is = cc
NameAt-inside (points a b k e l f t r) is = cc

-- in the middle of reading a name: what stands here completes the bytes that were read to what stands at its place
pub record Reading (m : List ℕ) (place : ℕ) (start : ℕ) (at : ℕ) (end : Option ℕ) (bytes : List ℕ) : Type 0 where
  pub wire : IsWire bytes
  pub forth : (more : List (List ℕ)) (k : ℕ) → NameAt m start at more k → NameAt m place place (labels_of bytes ++ more) (unwrap_or end k)
  pub back : (labels : List (List ℕ)) (j : ℕ) → NameAt m place place labels j → (more : List (List ℕ)) × (k : ℕ) × (labels ≡ labels_of bytes ++ more) × NameAt m start at more k

pub Reading-start : (m : List ℕ) (place : ℕ) (bytes : List ℕ) → bytes ≡ [] → Reading m place place place None bytes
Reading-start m place bytes e =
    let none : labels_of bytes ≡ [] = labels_of-spelled bytes [] e in
    record {
      wire = IsWire-spelled bytes [] IsName-nil e;
      forth = λ more k x. rw none x;
      back = λ labels j x. (labels, j, rw none refl, x);
    }

module _ {m : List ℕ} {place start at : ℕ} {end : Option ℕ} {bytes : List ℕ} (r : Reading m place start at end bytes) where
  pub Reading-ends : (after : ℕ) → at < length m → get_or m at 0 ≡ 0 → after ≡ unwrap_or end (at + 1) → StandsAt m place (labels_of bytes) after
  Reading-ends after h z e =
      let x : NameAt m place place (labels_of bytes ++ []) (unwrap_or end (at + 1)) = r.forth [] (at + 1) (ends (slice_get-get_or m at 0 h ∙ ap Some z)) in
      record { name = r.wire.name; stands = rw e (rw append-nil at x) }

  -- nothing stands here
  pub Reading-none : ((more : List (List ℕ)) (k : ℕ) → NameAt m start at more k → ⊥) → (labels : List (List ℕ)) (j : ℕ) → StandsAt m place labels j → ⊥
  Reading-none f labels j s = let b = r.back labels j s.stands in f b.0 b.1 b.3

  pub Reading-past : length m ≤ at → (labels : List (List ℕ)) (j : ℕ) → StandsAt m place labels j → ⊥
  Reading-past h = Reading-none (λ more k x. NameAt-inside x (slice_get_past m at h))

  -- a label
  module _ (n : ℕ) (h : at < length m) (is : get_or m at 0 ≡ n) (low : 0 < n) (high : n < 64) where
    first : slice_get m at ≡ Some n
    first = slice_get-get_or m at 0 h ∙ ap Some is

    pub Reading-cut_off : length m ≤ at + n → (labels : List (List ℕ)) (j : ℕ) → StandsAt m place labels j → ⊥
    Reading-cut_off over = Reading-none (λ more k x. let g = NameAt-label n x first low high in omega (arith, g.inside))

    pub Reading-long : 254 ≤ length bytes + n → (labels : List (List ℕ)) (j : ℕ) → StandsAt m place labels j → ⊥
    Reading-long over labels j s =
        let b = r.back labels j s.stands in
        let g = NameAt-label n b.3 first low high in
        let l : List ℕ = take n (drop (at + 1) m) in
        let size : length l ≡ n = length-take-le n (drop (at + 1) m) (omega (arith, g.inside, length-drop (at + 1) m)) in
        let e : labels ≡ labels_of bytes ++ (l ∷ g.more) = b.2 ∙ ap (λ y. labels_of bytes ++ y) g.is in
        omega (arith, s.name.short, length-labels_bytes labels, ap (λ x. length (labels_bytes x)) e, ap length (flat_map-append label_bytes (labels_of bytes) (l ∷ g.more)), length-append (labels_bytes (labels_of bytes)) (labels_bytes (l ∷ g.more)), length-append l (labels_bytes g.more), ap length r.wire.spelled)

    pub Reading-label : (new : List ℕ) → at + 1 + n ≤ length m → length bytes + n < 254 → new ≡ bytes ++ take (1 + n) (drop at m) → Reading m place start (at + (1 + n)) end new
    Reading-label new within room e =
        let l : List ℕ = take n (drop (at + 1) m) in
        let size : length l ≡ n = length-take-le n (drop (at + 1) m) (omega (arith, length-drop (at + 1) m)) in
        let more_one : 1 + n ≡ suc n = omega arith in
        let cut : take (1 + n) (drop at m) ≡ label_bytes l = rw (more_one, drop_more m at 0 h, is, size) refl in
        let spelled : new ≡ labels_bytes (labels_of bytes ++ l ∷ []) = e ∙ ap (λ x. bytes ++ x) cut ∙ ap (λ x. x ++ label_bytes l) r.wire.spelled ∙ sym (labels_bytes-push (labels_of bytes) l) in
        let now : labels_of new ≡ labels_of bytes ++ l ∷ [] = labels_of-spelled new _ spelled in
        let fits : name_len (labels_of bytes) + length l + 1 ≤ 255 = omega (arith, length-labels_bytes (labels_of bytes), ap length r.wire.spelled) in
        let step : at + (1 + n) ≡ at + 1 + n = omega arith in
        record {
          wire = IsWire-spelled new _ (IsName-push (labels_of bytes) l r.wire.name (omega arith, omega arith) fits) spelled;
          forth = λ more k x. rw (now, append_assoc) (r.forth (l ∷ more) k (goes_on n first low high within (rw step at x)));
          back = λ labels j x.
              let b = r.back labels j x in
              let g = NameAt-label n b.3 first low high in
              (g.more, b.1, b.2 ∙ ap (λ y. labels_of bytes ++ y) g.is ∙ sym (append_assoc (labels_of bytes) (l ∷ []) g.more) ∙ ap (λ y. y ++ g.more) (sym now), rw step g.rest);
        }

  -- a pointer
  module _ (h : at < length m) (high : 64 ≤ get_or m at 0) where
    pub Reading-reserved : get_or m at 0 < 192 → (labels : List (List ℕ)) (j : ℕ) → StandsAt m place labels j → ⊥
    Reading-reserved low = Reading-none (λ more k x. let p = NameAt-points _ x (slice_get-get_or m at 0 h) high in omega (arith, p.0))

    pub Reading-half : length m ≤ at + 1 → (labels : List (List ℕ)) (j : ℕ) → StandsAt m place labels j → ⊥
    Reading-half over = Reading-none (λ more k x. let p = (NameAt-points _ x (slice_get-get_or m at 0 h) high).1.second in let q = slice_get_past m (at + 1) over in cc)

    module _ (t : ℕ) (two : at + 1 < length m) (is : t ≡ (get_or m at 0 - 192) * 256 + get_or m (at + 1) 0) where
      pub Reading-ahead : start ≤ t → (labels : List (List ℕ)) (j : ℕ) → StandsAt m place labels j → ⊥
      Reading-ahead over = Reading-none (λ more k x.
          let p = (NameAt-points _ x (slice_get-get_or m at 0 h) high).1 in
          let same : p.b ≡ get_or m (at + 1) 0 = same_Some _ _ (sym p.second ∙ slice_get-get_or m (at + 1) 0 two) in
          omega (arith, p.before))

      pub Reading-points : (after : ℕ) → 192 ≤ get_or m at 0 → t < start → after ≡ unwrap_or end (at + 2) → Reading m place t t (Some after) bytes
      Reading-points after pointer before e = record {
        wire = r.wire;
        forth = λ more k x.
            rw e (r.forth more (at + 2) (points _ _ k (slice_get-get_or m at 0 h) pointer (slice_get-get_or m (at + 1) 0 two) (rw (← is) before) (rw is at x)));
        back = λ labels j x.
            let b = r.back labels j x in
            let p = (NameAt-points _ b.3 (slice_get-get_or m at 0 h) high).1 in
            let same : p.b ≡ get_or m (at + 1) 0 = same_Some _ _ (sym p.second ∙ slice_get-get_or m (at + 1) 0 two) in
            (b.0, p.k, b.2, rw (is, ← same) p.rest);
      }
