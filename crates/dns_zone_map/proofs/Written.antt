-- The key of a name as it is written, label by label, and the fronts of it that are the keys of the names above.
use Rattle.std.proofs.Common.{◌≡◌, ℕ, zero, suc, ◌+◌, ◌-◌, ◌<◌, ◌≤◌, Bool, true, List, [], ◌∷◌, ◌++◌, length, map, take, drop, reverse, refl, sym, ap, ◌∙◌, subst, arith, inl, inr, append_assoc, length-append, length-drop}
use Rattle.std.specs.List.{AllByRecursion}
use Rattle.std.specs.Char.{to_ascii_lowercase}
use Rattle.std.proofs.lemmas.List.{take_at, drop_at, append-nil, reverse-append, length-take-le, drop-drop, length-map}
use Rattle.std.proofs.lemmas.List.Concat.{flat_map-append}
use Rattle.std.specs.Prelude.{◌⊎◌, ◌&&◌, nat_le, false}
use Rattle.std.proofs.lemmas.Bool.{leb-true, le-leb}
use Rattle.dns_name.specs.Name.{IsLabel, IsName, IsAtOrBelow, is_at_or_below, fold_of, label_bytes, labels_bytes}
use Rattle.dns_name.proofs.SameNames.{is_at_or_below-Decides, is_at_or_below-is}
use Rattle.dns_name.proofs.Wire.{length-labels_bytes}
use Rattle.dns_name.proofs.Below.{length-fold_of}
use Rattle.dns_zone_map.specs.Keys.{key_of, Placed}
use Rattle.dns_zone_map.specs.KeyRoom.{HasKey}
use Rattle.dns_zone_map.proofs.Keyed.{same_end}

-- the key of a name is that of the name above it, and its first label
pub key_step : (origin : List (List ℕ)) (l : List ℕ) (ls : List (List ℕ)) → length origin ≤ length ls → key_of origin (l ∷ ls) ≡ key_of origin ls ++ label_bytes (map to_ascii_lowercase l)
key_step origin l ls h =
    let small : List ℕ = map to_ascii_lowercase l in
    let front : List (List ℕ) = fold_of (take (length ls - length origin) ls) in
    let one_more : suc (length ls) - length origin ≡ suc (length ls - length origin) = omega arith in
    ap (λ k. labels_bytes (reverse (fold_of (take k (l ∷ ls))))) one_more ∙ ap labels_bytes (reverse-append (small ∷ []) front) ∙ flat_map-append label_bytes (reverse front) (small ∷ [])
    ∙ ap (λ (bytes : List ℕ). labels_bytes (reverse front) ++ bytes) (append-nil (label_bytes small))

-- the origin has the empty key
pub key_none : (origin ls : List (List ℕ)) → length ls ≤ length origin → key_of origin ls ≡ []
key_none origin ls h =
    let none : length ls - length origin ≡ 0 = omega arith in
    ap (λ k. labels_bytes (reverse (fold_of (take k ls)))) none

-- the key of a name above is a front of the key, which is shorter by the labels between
pub record Fronts (origin name : List (List ℕ)) (at : ℕ) : Type 0 where
  pub rest : List ℕ
  pub is : key_of origin name ≡ key_of origin (drop at name) ++ rest
  pub size : length rest + length (labels_bytes (drop at name)) ≡ length (labels_bytes name)

pub fronts : (origin name : List (List ℕ)) (at : ℕ) → length origin + at ≤ length name → Fronts origin name at
fronts origin name zero h = record { rest = []; is = sym (append-nil (key_of origin name)); size = omega arith }
fronts origin [] (suc at) h = absurd (omega arith)
fronts origin (l ∷ ls) (suc at) h =
    let up : Fronts origin ls at = fronts origin ls at (omega arith) in
    record {
      rest = up.rest ++ label_bytes (map to_ascii_lowercase l);
      is =
          key_step origin l ls (omega arith) ∙ ap (λ (bytes : List ℕ). bytes ++ label_bytes (map to_ascii_lowercase l)) up.is ∙ append_assoc (key_of origin (drop at ls)) up.rest (label_bytes (map to_ascii_lowercase l));
      size = omega (
        arith,
        up.size,
        length-append up.rest (label_bytes (map to_ascii_lowercase l)),
        length-append l (labels_bytes ls),
        length-map l to_ascii_lowercase,
      );
    }

-- the labels that are left of a name behind its first ones
next_left : (name rest : List (List ℕ)) (label : List ℕ) (at : ℕ) → label ∷ rest ≡ drop at name → rest ≡ drop (at + 1) name
next_left name rest label at e = ap (drop 1) e ∙ drop-drop 1 at name

each_left : (name : List (List ℕ)) (at : ℕ) → AllByRecursion IsLabel name → AllByRecursion IsLabel (drop at name)
each_left name zero h = h
each_left [] (suc at) h = tt
each_left (l ∷ ls) (suc at) h = each_left ls at h.1

-- a label that is next
pub next_label : (name rest : List (List ℕ)) (label : List ℕ) (at : ℕ) → IsName name → label ∷ rest ≡ drop at name → length label < 64
next_label name rest label at n e =
    let h : AllByRecursion IsLabel (label ∷ rest) = subst (AllByRecursion IsLabel) (sym e) (each_left name at n.each) in
    h.0.1

-- the key is written from its end, as far as the first labels
pub record Filled (origin name left : List (List ℕ)) (room : List ℕ) (at start : ℕ) : Type 0 where
  pub left_is : left ≡ drop at name
  pub named : IsName name
  pub size : length room ≡ 255
  pub inside : start ≤ 255
  pub fits : length (labels_bytes (drop at name)) ≤ start
  pub key : key_of origin name ≡ key_of origin (drop at name) ++ drop start room

none_left : (room : List ℕ) (n : ℕ) → length room ≤ n → drop n room ≡ []
none_left [] zero h = refl
none_left [] (suc n) h = refl
none_left (x ∷ xs) zero h = absurd (omega arith)
none_left (x ∷ xs) (suc n) h = none_left xs n (omega arith)

pub name_short : (name : List (List ℕ)) → IsName name → length (labels_bytes name) ≤ 254
name_short name n = omega (arith, n.short, length-labels_bytes name)

pub Filled-start : (origin name : List (List ℕ)) (room : List ℕ) → IsName name → length room ≡ 255 → Filled origin name name room 0 255
Filled-start origin name room n size = record {
  left_is = refl;
  named = n;
  size = size;
  inside = omega arith;
  fits = omega (arith, name_short name n);
  key = sym (ap (λ (bytes : List ℕ). key_of origin name ++ bytes) (none_left room 255 (omega arith)) ∙ append-nil (key_of origin name));
}

pub Filled-label : (origin name left rest : List (List ℕ)) (room : List ℕ) (label : List ℕ) (at start : ℕ) → Filled origin name left room at start → left ≡ label ∷ rest → length label + 1 ≤ start
Filled-label origin name left rest room label at start f e =
    let size : length (labels_bytes (label ∷ rest)) ≡ length (labels_bytes (drop at name)) = ap (λ ls. length (labels_bytes ls)) (sym e ∙ f.left_is) in
    omega (arith, f.fits, size, length-append label (labels_bytes rest))

pub Filled-next : (origin name left rest : List (List ℕ)) (room new label : List ℕ) (at start next : ℕ) → Filled origin name left room at start → left ≡ label ∷ rest → length origin + at < length name → next ≡ start - (length label + 1)
    → new ≡ take next room ++ (label_bytes (map to_ascii_lowercase label) ++ drop start room) → Filled origin name rest new (at + 1) next
Filled-next origin name left rest room new label at start next f e h less put =
    let is : label ∷ rest ≡ drop at name = sym e ∙ f.left_is in
    let after : rest ≡ drop (at + 1) name = next_left name rest label at is in
    let more : length label + 1 ≤ start = Filled-label origin name left rest room label at start f e in
    let small : List ℕ = map to_ascii_lowercase label in
    let front : length (take next room) ≡ next = length-take-le next room (omega (arith, f.size, f.inside, less)) in
    let count : length (label ∷ rest) ≡ length name - at = ap length is ∙ length-drop at name in
    let step : key_of origin (drop at name) ≡ key_of origin rest ++ label_bytes small = ap (key_of origin) (sym is) ∙ key_step origin label rest (omega (arith, count)) in
    let written : drop next new ≡ label_bytes small ++ drop start room = ap (drop next) put ∙ drop_at (take next room) (label_bytes small ++ drop start room) next front in
    let bytes : length (labels_bytes (label ∷ rest)) ≡ length (labels_bytes (drop at name)) = ap (λ ls. length (labels_bytes ls)) is in
    let bytes_after : length (labels_bytes rest) ≡ length (labels_bytes (drop (at + 1) name)) = ap (λ ls. length (labels_bytes ls)) after in
    record {
      left_is = after;
      named = f.named;
      size = ap length put ∙ omega (
        arith,
        length-append (take next room) (label_bytes small ++ drop start room),
        length-append (label_bytes small) (drop start room),
        length-map label to_ascii_lowercase,
        length-drop start room,
        front,
        f.size,
        f.inside,
        less,
        more,
      );
      inside = omega (arith, f.inside, less);
      fits = omega (arith, f.fits, less, bytes, bytes_after, length-append label (labels_bytes rest));
      key =
          f.key ∙ ap (λ (bytes : List ℕ). bytes ++ drop start room) step ∙ append_assoc (key_of origin rest) (label_bytes small) (drop start room) ∙ ap (λ (bytes : List ℕ). key_of origin rest ++ bytes) (sym written)
          ∙ ap (λ (ls : List (List ℕ)). key_of origin ls ++ drop next new) after;
    }

pub Filled-end : (origin name left : List (List ℕ)) (room : List ℕ) (at start : ℕ) → Filled origin name left room at start → length name ≤ length origin + at → drop start room ≡ key_of origin name
Filled-end origin name left room at start f h =
    let few : length (drop at name) ≤ length origin = omega (arith, length-drop at name) in
    sym (f.key ∙ ap (λ (bytes : List ℕ). bytes ++ drop start room) (key_none origin (drop at name) few))

no_more_bytes : (name : List (List ℕ)) (at : ℕ) → length (labels_bytes (drop at name)) ≤ length (labels_bytes name)
no_more_bytes name zero = omega arith
no_more_bytes [] (suc at) = omega arith
no_more_bytes (l ∷ ls) (suc at) = omega (arith, no_more_bytes ls at, length-append l (labels_bytes ls))

-- each label takes bytes
fewer_bytes : (name : List (List ℕ)) (at next : ℕ) → at < next → next ≤ length name → length (labels_bytes (drop next name)) < length (labels_bytes (drop at name))
fewer_bytes name at zero less within = absurd (omega (arith, less))
fewer_bytes [] at (suc next) less within = absurd (omega (arith, within))
fewer_bytes (l ∷ ls) zero (suc next) less within = omega (arith, no_more_bytes ls next, length-append l (labels_bytes ls))
fewer_bytes (l ∷ ls) (suc at) (suc next) less within = fewer_bytes ls at next (omega (arith, less)) (omega (arith, within))

less_or_same : (a b : ℕ) → a ≤ b → (a < b) ⊎ (a ≡ b)
less_or_same zero zero h = inr refl
less_or_same zero (suc b) h = inl (omega arith)
less_or_same (suc a) zero h = absurd (omega (arith, h))
less_or_same (suc a) (suc b) h = below (less_or_same a b (omega (arith, h)))
  where
    below : (a < b) ⊎ (a ≡ b) → (suc a < suc b) ⊎ (suc a ≡ suc b)
    below (inl less) = inl (omega (arith, less))
    below (inr same) = inr (ap suc same)

-- a key in the course of being written: its first labels, and no label of the origin
pub record Writing (origin name left : List (List ℕ)) (room : List ℕ) (depth start : ℕ) : Type 0 where
  pub filled : Filled origin name left room depth start
  pub place : start + length (labels_bytes name) ≡ 255 + length (labels_bytes (drop depth name))
  pub within : length origin + depth ≤ length name

module _ (origin name : List (List ℕ)) (inside : is_at_or_below name origin ≡ true) where
  pub fewer_labels : length origin ≤ length name
  fewer_labels = leb-true (length origin) (length name) (and-first (nat_le (length origin) (length name)) _ inside)
    where
      and-first : (a b : Bool) → (a && b) ≡ true → a ≡ true
      and-first true b h = refl
      and-first false b h = absurd cc

  -- the bytes of the origin's labels are those of as many labels of the name
  end_bytes : length (labels_bytes (drop (length name - length origin) name)) ≡ length (labels_bytes origin)
  end_bytes = sym (length-fold_of (drop (length name - length origin) name)) ∙ ap (λ (ls : List (List ℕ)). length (labels_bytes ls)) (same_end origin name inside) ∙ length-fold_of origin

  pub fewer_name_bytes : length (labels_bytes origin) ≤ length (labels_bytes name)
  fewer_name_bytes = omega (arith, end_bytes, no_more_bytes name (length name - length origin))

  pub Writing-start : (room : List ℕ) → IsName name → length room ≡ 255 → Writing origin name name room 0 255
  Writing-start room named size = record { filled = Filled-start origin name room named size; place = refl; within = omega (arith, fewer_labels) }

  -- where bytes are left, a label below the origin is
  pub Writing-more : (left : List (List ℕ)) (room : List ℕ) (depth start first : ℕ) → Writing origin name left room depth start → first + length (labels_bytes name) ≡ 255 + length (labels_bytes origin) → first < start → length origin + depth < length name
  Writing-more left room depth start first w at more = by_case (less_or_same (length origin + depth) (length name) w.within)
    where
      by_case : (length origin + depth < length name) ⊎ (length origin + depth ≡ length name) → length origin + depth < length name
      by_case (inl less) = less
      by_case (inr same) =
          let all : length (labels_bytes (drop depth name)) ≡ length (labels_bytes origin) = ap (λ (n : ℕ). length (labels_bytes (drop n name))) (let e : depth ≡ length name - length origin = omega (arith, same) in e) ∙ end_bytes in
          absurd (omega (arith, all, w.place, at, more))

  -- where none are, none is
  pub Writing-all : (left : List (List ℕ)) (room : List ℕ) (depth start first : ℕ) → Writing origin name left room depth start → first + length (labels_bytes name) ≡ 255 + length (labels_bytes origin) → start ≤ first → length origin + depth ≡ length name
  Writing-all left room depth start first w at none = by_case (less_or_same (length origin + depth) (length name) w.within)
    where
      by_case : (length origin + depth < length name) ⊎ (length origin + depth ≡ length name) → length origin + depth ≡ length name
      by_case (inl less) =
          let fewer : length (labels_bytes (drop (length name - length origin) name)) < length (labels_bytes (drop depth name)) = fewer_bytes name depth (length name - length origin) (omega (arith, less)) (omega arith) in
          absurd (omega (arith, end_bytes, fewer, w.place, at, none))
      by_case (inr same) = same

  pub Writing-next : (left rest : List (List ℕ)) (room new label : List ℕ) (depth start next : ℕ) → Writing origin name left room depth start → left ≡ label ∷ rest → length origin + depth < length name → next ≡ start - (length label + 1)
      → new ≡ take next room ++ (label_bytes (map to_ascii_lowercase label) ++ drop start room) → Writing origin name rest new (depth + 1) next
  Writing-next left rest room new label depth start next w e less put back =
      let is : label ∷ rest ≡ drop depth name = sym e ∙ w.filled.left_is in
      let after : rest ≡ drop (depth + 1) name = next_left name rest label depth is in
      let more : length label + 1 ≤ start = Filled-label origin name left rest room label depth start w.filled e in
      let bytes : length (labels_bytes (label ∷ rest)) ≡ length (labels_bytes (drop depth name)) = ap (λ ls. length (labels_bytes ls)) is in
      let bytes_after : length (labels_bytes rest) ≡ length (labels_bytes (drop (depth + 1) name)) = ap (λ ls. length (labels_bytes ls)) after in
      record {
        filled = Filled-next origin name left rest room new label depth start next w.filled e less put back;
        place = omega (arith, w.place, bytes, bytes_after, put, more, length-append label (labels_bytes rest));
        within = omega (arith, less);
      }

pub some_left : (name left : List (List ℕ)) (at : ℕ) → left ≡ drop at name → left ≡ [] → at < length name → ⊥
some_left name left at is none h = omega (arith, length-drop at name, ap length is, ap length none)

-- the place that is before the end by the labels that were passed over
pub record Passed (name left : List (List ℕ)) (at place end : ℕ) : Type 0 where
  pub left_is : left ≡ drop at name
  pub place_is : place + length (labels_bytes name) ≡ end + length (labels_bytes (drop at name))

pub Passed-next : (name left rest : List (List ℕ)) (label : List ℕ) (at place end : ℕ) → Passed name left at place end → left ≡ label ∷ rest → length (labels_bytes name) ≤ end → Passed name rest (at + 1) (place - (length label + 1)) end
Passed-next name left rest label at place end p e fits =
    let is : label ∷ rest ≡ drop at name = sym e ∙ p.left_is in
    let after : rest ≡ drop (at + 1) name = next_left name rest label at is in
    let bytes : length (labels_bytes (label ∷ rest)) ≡ length (labels_bytes (drop at name)) = ap (λ ls. length (labels_bytes ls)) is in
    let bytes_after : length (labels_bytes rest) ≡ length (labels_bytes (drop (at + 1) name)) = ap (λ ls. length (labels_bytes ls)) after in
    record { left_is = after; place_is = omega (arith, p.place_is, bytes, bytes_after, fits, length-append label (labels_bytes rest)) }

pub Passed-label : (name left rest : List (List ℕ)) (label : List ℕ) (at place end : ℕ) → Passed name left at place end → left ≡ label ∷ rest → length (labels_bytes name) ≤ end → length label + 1 ≤ place
Passed-label name left rest label at place end p e fits =
    let bytes : length (labels_bytes (label ∷ rest)) ≡ length (labels_bytes (drop at name)) = ap (λ ls. length (labels_bytes ls)) (sym e ∙ p.left_is) in
    omega (arith, p.place_is, bytes, fits, length-append label (labels_bytes rest))

-- the bytes from the start of a key to that place are the key of the name above
pub front_is : (origin name : List (List ℕ)) (room : List ℕ) (start depth at place : ℕ) → HasKey origin name room start depth → length origin + at ≤ length name → place + length (labels_bytes name) ≡ 255 + length (labels_bytes (drop at name)) → (start ≤ place) × (place ≤ 255) × (take (place - start) (drop start room) ≡ key_of origin (drop at name))
front_is origin name room start depth at place k h where_ =
    let f : Fronts origin name at = fronts origin name at h in
    let long : 255 - start ≡ length (key_of origin (drop at name)) + length f.rest = omega (arith, k.size, length-drop start room, ap length (k.key ∙ f.is), length-append (key_of origin (drop at name)) f.rest) in
    let short : length (labels_bytes name) ≤ 254 = name_short name k.named in
    let width : place - start ≡ length (key_of origin (drop at name)) = omega (arith, long, f.size, where_, k.inside) in (
      omega (arith, long, f.size, where_, k.inside),
      omega (arith, f.size, where_),
      ap (take (place - start)) (k.key ∙ f.is) ∙ take_at (key_of origin (drop at name)) f.rest (place - start) (sym width),
    )

-- that a name has labels enough, seen at its parts
pub placed : (origin name : List (List ℕ)) (at : ℕ) (seen : Placed) → record { origin = origin; name = name } ≡ seen → length seen.origin + at ≤ length seen.name → length origin + at ≤ length name
placed origin name at seen view h = subst (λ (p : Placed). length p.origin + at ≤ length p.name) (sym view) h

and-second : (a b : Bool) → (a && b) ≡ true → b ≡ true
and-second true b h = h
and-second false b h = absurd cc

-- the names above a name of the zone, down to the origin, are of the zone
pub above_in : (origin name : List (List ℕ)) (at : ℕ) → is_at_or_below name origin ≡ true → length origin + at ≤ length name → is_at_or_below (drop at name) origin ≡ true
above_in origin name at within h =
    let size : length (drop at name) ≡ length name - at = length-drop at name in
    let a : nat_le (length origin) (length (drop at name)) ≡ true = le-leb (length origin) (length (drop at name)) (omega (arith, size)) in
    let d : drop (length (drop at name) - length origin) (drop at name) ≡ drop (length name - length origin) name =
    drop-drop (length (drop at name) - length origin) at name ∙ ap (λ n. drop n name) (let e : at + (length (drop at name) - length origin) ≡ length name - length origin = omega (arith, size) in e) in
    rw (a, d) (and-second (nat_le (length origin) (length name)) _ within)

pub within_above : (origin name : List (List ℕ)) (at : ℕ) (seen : Placed) → record { origin = origin; name = name } ≡ seen → is_at_or_below name origin ≡ true → length seen.origin + at ≤ length seen.name → is_at_or_below (drop at seen.name) seen.origin ≡ true
within_above origin name at seen view within h = subst (λ (p : Placed). is_at_or_below (drop at p.name) p.origin ≡ true) view (above_in origin name at within (placed origin name at seen view h))

-- and so is each name below one of the zone
pub within_below : (origin name : List (List ℕ)) (l : List ℕ) → is_at_or_below name origin ≡ true → is_at_or_below (l ∷ name) origin ≡ true
within_below origin name l within =
    let b : IsAtOrBelow name origin = (is_at_or_below-Decides name origin).0 within in
    sym (is_at_or_below-is true (l ∷ name) origin ((λ _. (map to_ascii_lowercase l ∷ b.0, ap (λ (ls : List (List ℕ)). map to_ascii_lowercase l ∷ ls) b.1)), (λ _. refl)))

-- the key of `*` under a name
pub star_key : (origin name : List (List ℕ)) (bytes key : List ℕ) → is_at_or_below name origin ≡ true → key ≡ key_of origin name → bytes ≡ key ++ 1 ∷ 42 ∷ [] → bytes ≡ key_of origin ((42 ∷ []) ∷ name)
star_key origin name bytes key within is e =
    e ∙ ap (λ (k : List ℕ). k ++ 1 ∷ 42 ∷ []) is ∙ sym (key_step origin (42 ∷ []) name (fewer_labels origin name within))
