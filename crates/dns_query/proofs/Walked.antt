-- An uncompressed name, label by label.
use Rattle.std.proofs.Common.{◌≡◌, ℕ, zero, suc, ◌+◌, ◌-◌, ◌<◌, ◌≤◌, List, [], ◌∷◌, ◌++◌, length, map, get_or, take, drop, refl, sym, ap, subst, ◌∙◌, arith, append_assoc, length-append, length-drop}
use Rattle.std.specs.List.{AllByRecursion}
use Rattle.std.specs.Char.{to_ascii_lowercase}
use Rattle.std.proofs.lemmas.List.{take-append-drop, take-take, length-take-le, drop-drop, drop_more, take_at, drop_at, length-map}
use Rattle.dns_name.specs.Name.{IsLabel, IsName, fold_of, label_bytes, labels_bytes, name_bytes}
use Rattle.dns_name.specs.NameBuffer.{labels_of, IsWire}
use Rattle.dns_name.specs.NameInMessage.{NameAt, StandsAt}
use Rattle.dns_wire.specs.Standing.{between}
use Rattle.dns_name.proofs.Wire.{length-labels_bytes, IsWire-spelled, labels_of-spelled, labels_bytes-fold_of}
use Rattle.dns_name.proofs.Walk.{AllByRecursion-append, labels_bytes-push}
use Rattle.dns_name.proofs.Stands.{NameAt-written, StandsAt-one}
use Rattle.dns_query.specs.Query.{SpelledAt}

-- labels stand without a pointer from one place to another
pub record Walked (m : List ℕ) (place at : ℕ) : Type 0 where
  pub labels : List (List ℕ)
  pub each : AllByRecursion IsLabel labels
  pub order : place ≤ at
  pub within : place ≤ length m → at ≤ length m
  pub spelled : between m place at ≡ labels_bytes labels

pub Walked-start : (m : List ℕ) (place : ℕ) → Walked m place place
Walked-start m place = record { labels = []; each = tt; order = omega arith; within = λ h. h; spelled = ap (λ n. take n (drop place m)) (let e : place - place ≡ 0 = omega arith in e) }

take-nil : (b : ℕ) → ◌≡◌ {A = List ℕ} [] (take b [])
take-nil zero = refl
take-nil (suc b) = refl

take-add : (a b : ℕ) (xs : List ℕ) → take (a + b) xs ≡ take a xs ++ take b (drop a xs)
take-add zero b xs = ap (λ n. take n xs) (let e : 0 + b ≡ b = omega arith in e)
take-add (suc a) b [] = let e : suc a + b ≡ suc (a + b) = omega arith in rw e (take-nil b)
take-add (suc a) b (x ∷ xs) = let e : suc a + b ≡ suc (a + b) = omega arith in rw e (ap (λ ys. x ∷ ys) (take-add a b xs))

between-more : (m : List ℕ) (place at more : ℕ) → place ≤ at → between m place (at + more) ≡ between m place at ++ take more (drop at m)
between-more m place at more order =
    let e : at + more - place ≡ (at - place) + more = omega arith in
    let d : place + (at - place) ≡ at = omega arith in
    ap (λ n. take n (drop place m)) e ∙ take-add (at - place) more (drop place m) ∙ ap (λ (xs : List ℕ). between m place at ++ take more xs) (drop-drop (at - place) place m ∙ ap (λ n. drop n m) d)

first_of : (m : List ℕ) (at n : ℕ) → at < length m → n ≡ get_or m at 0 → take 1 (drop at m) ≡ n ∷ []
first_of m at n h is = ap (take 1) (drop_more m at 0 h) ∙ ap (λ k. k ∷ []) (sym is)

pub Walked-label : (m : List ℕ) (place at n : ℕ) → Walked m place at → at < length m → n ≡ get_or m at 0 → 0 < n → n < 64 → n < length m - at → Walked m place (at + (1 + n))
Walked-label m place at n w h is some short room =
    let label : List ℕ = take n (drop (at + 1) m) in
    let size : length label ≡ n = length-take-le n (drop (at + 1) m) (omega (arith, length-drop (at + 1) m)) in
    let cut : take (1 + n) (drop at m) ≡ label_bytes label =
    take-add 1 n (drop at m) ∙ ap (λ (xs : List ℕ). xs ++ take n (drop 1 (drop at m))) (first_of m at n h is) ∙ ap (λ (xs : List ℕ). n ∷ take n xs) (drop-drop 1 at m) ∙ ap (λ k. k ∷ label) (sym size) in
    record {
      labels = w.labels ++ label ∷ [];
      each = AllByRecursion-append w.labels (label ∷ []) w.each ((omega arith, omega arith), tt);
      order = omega (arith, w.order);
      within = λ i. omega arith;
      spelled = between-more m place at (1 + n) w.order ∙ ap (λ (xs : List ℕ). xs ++ take (1 + n) (drop at m)) w.spelled ∙ ap (λ (xs : List ℕ). labels_bytes w.labels ++ xs) cut ∙ sym (labels_bytes-push w.labels label);
    }

length-between : (m : List ℕ) (place at : ℕ) → place ≤ at → at ≤ length m → length (between m place at) ≡ at - place
length-between m place at order within = length-take-le (at - place) (drop place m) (omega (arith, length-drop place m))

pub Walked-end : (m : List ℕ) (place at n : ℕ) → Walked m place at → at < length m → n ≡ get_or m at 0 → n ≡ 0 → at - place ≤ 254 → (labels : List (List ℕ)) × SpelledAt m place labels (at + 1)
Walked-end m place at n w h is end few =
    let size : length (labels_bytes w.labels) ≡ at - place = ap length (sym w.spelled) ∙ length-between m place at w.order (omega arith) in (
      w.labels,
      record {
        name = record { each = w.each; short = omega (arith, size, length-labels_bytes w.labels) };
        order = omega (arith, w.order);
        within = omega arith;
        spelled = between-more m place at 1 w.order ∙ ap (λ (xs : List ℕ). xs ++ take 1 (drop at m)) w.spelled ∙ ap (λ (xs : List ℕ). labels_bytes w.labels ++ xs) (first_of m at n h is ∙ ap (λ k. k ∷ []) end);
      },
    )

length-name_bytes : (labels : List (List ℕ)) → length (name_bytes labels) ≡ length (labels_bytes labels) + 1
length-name_bytes labels = length-append (labels_bytes labels) (0 ∷ [])

-- how long the name is
spelled_size : (m : List ℕ) (place end : ℕ) (labels : List (List ℕ)) → SpelledAt m place labels end → place + length (name_bytes labels) ≡ end
spelled_size m place end labels p =
    let size : length (name_bytes labels) ≡ end - place = ap length (sym p.spelled) ∙ length-between m place end p.order p.within in
    omega (arith, size, p.order)

-- the message goes on behind it
spelled_rest : (m : List ℕ) (place end : ℕ) (labels : List (List ℕ)) → SpelledAt m place labels end → drop place m ≡ name_bytes labels ++ drop end m
spelled_rest m place end labels p =
    let e : place + (end - place) ≡ end = omega (arith, p.order) in
    sym (take-append-drop (end - place) (drop place m)) ∙ ap (λ (xs : List ℕ). xs ++ drop (end - place) (drop place m)) p.spelled ∙ ap (λ (xs : List ℕ). name_bytes labels ++ xs) (drop-drop (end - place) place m ∙ ap (λ n. drop n m) e)

-- a name stands there
pub spelled_stands : (m : List ℕ) (place end : ℕ) (labels : List (List ℕ)) → SpelledAt m place labels end → StandsAt m place labels end
spelled_stands m place end labels p =
    record { name = p.name; stands = subst (λ j. NameAt m place place labels j) (spelled_size m place end labels p) (NameAt-written m (drop end m) place place labels p.name.each (spelled_rest m place end labels p)) }

-- and one alone
pub spelled_one : (m : List ℕ) (place i j : ℕ) (labels others : List (List ℕ)) → SpelledAt m place labels i → SpelledAt m place others j → i ≡ j
spelled_one m place i j labels others p q = (StandsAt-one m place i j labels others (spelled_stands m place i labels p) (spelled_stands m place j others q)).1

-- and its labels are those of its bytes without the last
pub spelled_labels : (m : List ℕ) (place end : ℕ) (labels : List (List ℕ)) → SpelledAt m place labels end → between m place (end - 1) ≡ labels_bytes labels
spelled_labels m place end labels p =
    let size : length (name_bytes labels) ≡ end - place = ap length (sym p.spelled) ∙ length-between m place end p.order p.within in
    let count : length (labels_bytes labels) ≡ end - 1 - place = omega (arith, size, length-name_bytes labels) in
    let less : end - 1 - place ≤ end - place = omega arith in
    sym (take-take (end - 1 - place) (end - place) (drop place m) less) ∙ ap (take (end - 1 - place)) p.spelled ∙ take_at (labels_bytes labels) (0 ∷ []) (end - 1 - place) count

-- a name's end is behind its beginning
pub spelled_some : (m : List ℕ) (place end : ℕ) (labels : List (List ℕ)) → SpelledAt m place labels end → place + 1 ≤ end
spelled_some m place end labels p = omega (arith, spelled_size m place end labels p, length-name_bytes labels)

-- of a name that stands there, labels are left from a place on
pub record Left (m : List ℕ) (place at end : ℕ) : Type 0 where
  pub labels : List (List ℕ)
  pub each : AllByRecursion IsLabel labels
  pub size : at + length (name_bytes labels) ≡ end
  pub rest : drop at m ≡ name_bytes labels ++ drop end m
  pub within : end ≤ length m
  pub short : end ≤ place + 255

pub Left-start : (m : List ℕ) (place end : ℕ) (labels : List (List ℕ)) → SpelledAt m place labels end → Left m place place end
Left-start m place end labels p = record {
  labels = labels;
  each = p.name.each;
  size = spelled_size m place end labels p;
  rest = spelled_rest m place end labels p;
  within = p.within;
  short = omega (arith, spelled_size m place end labels p, length-name_bytes labels, length-labels_bytes labels, p.name.short);
}

-- there is a byte
pub Left-some : (m : List ℕ) (place at end : ℕ) → Left m place at end → at < length m
Left-some m place at end l = omega (arith, l.size, l.within, length-name_bytes l.labels)

-- what that byte says
pub record Step (m : List ℕ) (place at end n : ℕ) : Type 0 where
  pub short : n < 64
  pub ends : n ≡ 0 → at + 1 ≡ end
  pub within : at + 1 + n ≤ length m
  pub more : 0 < n → Left m place (at + (1 + n)) end

step_of : (m : List ℕ) (place at end n : ℕ) (labels : List (List ℕ)) → AllByRecursion IsLabel labels → at + length (name_bytes labels) ≡ end → drop at m ≡ name_bytes labels ++ drop end m → end ≤ length m → end ≤ place + 255
    → at < length m → n ≡ get_or m at 0 → Step m place at end n
step_of m place at end n [] each size rest within short inside is =
    let same : n ≡ 0 = is ∙ sym (ap (λ xs. get_or xs 0 0) (drop_more m at 0 inside)) ∙ ap (λ xs. get_or xs 0 0) rest in
    record { short = omega (arith, same); ends = λ z. size; within = omega (arith, same); more = λ some. absurd (omega (arith, same)) }
step_of m place at end n (l ∷ ls) each size rest within short inside is =
    let whole : get_or m at 0 ∷ drop (at + 1) m ≡ length l ∷ (l ++ (name_bytes ls ++ drop end m)) = sym (drop_more m at 0 inside) ∙ rest ∙ simp append_assoc in
    let same : n ≡ length l = is ∙ ap (λ xs. get_or xs 0 0) whole in
    let tail : drop (at + 1) m ≡ l ++ (name_bytes ls ++ drop end m) = ap (drop 1) whole in
    let e : at + (1 + n) ≡ at + 1 + length l = omega (arith, same) in
    let left : drop (at + 1 + length l) m ≡ name_bytes ls ++ drop end m = sym (drop-drop (length l) (at + 1) m) ∙ ap (drop (length l)) tail ∙ drop_at l (name_bytes ls ++ drop end m) (length l) refl in
    let sizes : at + 1 + length l + length (name_bytes ls) ≡ end = omega (arith, size, length-append (l ++ labels_bytes ls) (0 ∷ []), length-append l (labels_bytes ls), length-append (labels_bytes ls) (0 ∷ [])) in
    record {
      short = omega (arith, same, each.0.1);
      ends = λ z. absurd (omega (arith, same, each.0.0));
      within = omega (arith, same, sizes);
      more = λ some. record { labels = ls; each = each.1; size = rw e sizes; rest = rw e left; within = within; short = short };
    }

pub Left-step : (m : List ℕ) (place at end n : ℕ) → Left m place at end → at < length m → n ≡ get_or m at 0 → Step m place at end n
Left-step m place at end n l inside is = step_of m place at end n l.labels l.each l.size l.rest l.within l.short inside is

-- labels stand up to a place, and of a name that stands there some are left from it on
pub record Walking (m : List ℕ) (place at : ℕ) : Type 0 where
  pub walked : Walked m place at
  pub left : (labels : List (List ℕ)) (end : ℕ) → SpelledAt m place labels end → Left m place at end

pub Walking-start : (m : List ℕ) (place : ℕ) → Walking m place place
Walking-start m place = record { walked = Walked-start m place; left = λ labels end p. Left-start m place end labels p }

pub Walking-label : (m : List ℕ) (place at n : ℕ) → Walking m place at → at < length m → n ≡ get_or m at 0 → 0 < n → n < 64 → n < length m - at → Walking m place (at + (1 + n))
Walking-label m place at n w h is some short room = record {
  walked = Walked-label m place at n w.walked h is some short room;
  left = λ labels end p. (Left-step m place at end n (w.left labels end p) h is).more some;
}

-- no name stands there where its bytes are too many
pub none_long : (m : List ℕ) (place at n : ℕ) → Walking m place at → at < length m → n ≡ get_or m at 0 → n ≡ 0 → 254 < at - place → (labels : List (List ℕ)) (end : ℕ) → SpelledAt m place labels end → ⊥
none_long m place at n w h is zero_ many labels end p =
    let l = w.left labels end p in
    omega (arith, (Left-step m place at end n l h is).ends zero_, l.short)

-- nor where a byte is no length
pub none_high : (m : List ℕ) (place at n : ℕ) → Walking m place at → at < length m → n ≡ get_or m at 0 → 63 < n → (labels : List (List ℕ)) (end : ℕ) → SpelledAt m place labels end → ⊥
none_high m place at n w h is high labels end p = omega (arith, (Left-step m place at end n (w.left labels end p) h is).short)

-- nor where a label leaves the message
pub none_cut : (m : List ℕ) (place at n : ℕ) → Walking m place at → at < length m → n ≡ get_or m at 0 → length m - at ≤ n → (labels : List (List ℕ)) (end : ℕ) → SpelledAt m place labels end → ⊥
none_cut m place at n w h is cut labels end p = omega (arith, (Left-step m place at end n (w.left labels end p) h is).within)

-- nor where the message ends before it
pub none_left : (m : List ℕ) (place at : ℕ) → Walking m place at → length m ≤ at → (labels : List (List ℕ)) (end : ℕ) → SpelledAt m place labels end → ⊥
none_left m place at w h labels end p = omega (arith, Left-some m place at end (w.left labels end p))

-- the bytes of a name without the zero byte
pub spelled_wire : (m : List ℕ) (place end : ℕ) (bytes : List ℕ) → ((labels : List (List ℕ)) × SpelledAt m place labels end) → bytes ≡ between m place (end - 1) → IsWire bytes
spelled_wire m place end bytes s is = IsWire-spelled bytes s.0 s.1.name (is ∙ spelled_labels m place end s.0 s.1)

pub spelled_read : (m : List ℕ) (place end : ℕ) (bytes : List ℕ) → ((labels : List (List ℕ)) × SpelledAt m place labels end) → bytes ≡ between m place (end - 1) → SpelledAt m place (labels_of bytes) end
spelled_read m place end bytes s is = rw (labels_of-spelled bytes s.0 (is ∙ spelled_labels m place end s.0 s.1)) s.1

pub wire_short : (bytes : List ℕ) → IsWire bytes → length bytes ≤ 254
wire_short bytes w = omega (arith, ap length w.spelled, length-labels_bytes (labels_of bytes), w.name.short)

-- a name that is folded at the front of a room
pub folded_front : (labels : List (List ℕ)) (wire new rest : List ℕ) → IsName labels → wire ≡ labels_bytes labels → new ≡ map to_ascii_lowercase wire → take (length wire) (new ++ rest) ≡ labels_bytes (fold_of labels)
folded_front labels wire new rest n is folded =
    let size : length new ≡ length wire = ap length folded ∙ length-map wire to_ascii_lowercase in
    take_at new rest (length wire) size ∙ folded ∙ ap (map to_ascii_lowercase) is ∙ labels_bytes-fold_of labels n.each

pub folded_rest : (wire new rest : List ℕ) → new ≡ map to_ascii_lowercase wire → drop (length wire) (new ++ rest) ≡ rest
folded_rest wire new rest folded = drop_at new rest (length wire) (ap length folded ∙ length-map wire to_ascii_lowercase)
