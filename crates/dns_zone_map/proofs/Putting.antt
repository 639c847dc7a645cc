-- What a change of the map is to the list.
use Rattle.std.proofs.Common.{◌≡◌, ℕ, ◌<◌, Bool, true, false, List, [], ◌∷◌, ◌++◌, map, length, get_or, take, drop, zero, suc, refl, sym, ap, ◌∙◌, arith, if◌then◌else◌}
use Rattle.std.specs.Prelude.{◌||◌, nat_lt, slice_set, Some, None}
use Rattle.std.specs.List.{AllByRecursion, list_any}
use Rattle.std.proofs.lemmas.Bool.{lt-ltb}
use Rattle.std.proofs.lemmas.Bool.Decides.{nat_tests}
use Rattle.std.proofs.lemmas.List.{map-append}
use Rattle.dns_wire.specs.declared.record.Record.{Record}
use Rattle.dns_zone_map.specs.Order.{Numbered, into, by_number, plain, list_of, AreBelow}
use Rattle.dns_zone_map.specs.Changes.{put_over, first_that, replace_if, AtMostOne, at_record, at_number, KeepsOrder}

end_if : (b : Bool) (test : Record → Bool) (r s : Record) (records : List Record) → (b || list_any test records) ≡ false → (list_any test records ≡ false → put_over test r records ≡ records ++ r ∷ [])
    → (if b then r ∷ records else s ∷ put_over test r records) ≡ s ∷ (records ++ r ∷ [])
end_if true test r s records h ih = absurd cc
end_if false test r s records h ih = ap (λ xs. s ∷ xs) (ih h)

-- a record that nothing passes for goes to the end
pub put_end : (test : Record → Bool) (r : Record) (records : List Record) → list_any test records ≡ false → put_over test r records ≡ records ++ r ∷ []
put_end test r [] h = refl
put_end test r (s ∷ records) h = end_if (test s) test r s records h (put_end test r records)

none_replaced : (test : Record → Bool) (r : Record) (records : List Record) → AllByRecursion (λ t. test t ≡ false) records → map (replace_if test r) records ≡ records
none_replaced test r [] h = refl
none_replaced test r (s ∷ records) h = rw h.0 (ap (λ xs. s ∷ xs) (none_replaced test r records h.1))

place_if : (b : Bool) (test : Record → Bool) (r s : Record) (records : List Record) → (b || list_any test records) ≡ true → (b ≡ true → AllByRecursion (λ t. test t ≡ false) records)
    → (list_any test records ≡ true → put_over test r records ≡ map (replace_if test r) records) → (if b then r ∷ records else s ∷ put_over test r records) ≡ (if b then r else s) ∷ map (replace_if test r) records
place_if true test r s records h one ih = ap (λ xs. r ∷ xs) (sym (none_replaced test r records (one refl)))
place_if false test r s records h one ih = ap (λ xs. s ∷ xs) (ih h)

-- where one passes, it comes in the place of the one
pub put_place : (test : Record → Bool) (r : Record) (records : List Record) → AtMostOne test records → list_any test records ≡ true → put_over test r records ≡ map (replace_if test r) records
put_place test r [] one h = absurd cc
put_place test r (s ∷ records) one h = place_if (test s) test r s records h one.0 (put_place test r records one.1)

map_if : (b : Bool) (f : Record → Record) (x y : Numbered) (ys : List Numbered) → map (at_record f) (into x ys) ≡ into (at_record f x) (map (at_record f) ys)
    → map (at_record f) (if b then y ∷ into x ys else x ∷ y ∷ ys) ≡ (if b then at_record f y ∷ into (at_record f x) (map (at_record f) ys) else at_record f x ∷ at_record f y ∷ map (at_record f) ys)
map_if true f x y ys ih = ap (λ zs. at_record f y ∷ zs) ih
map_if false f x y ys ih = refl

map_into : (f : Record → Record) (x : Numbered) (ys : List Numbered) → map (at_record f) (into x ys) ≡ into (at_record f x) (map (at_record f) ys)
map_into f x [] = refl
map_into f x (y ∷ ys) = map_if (nat_lt y.number x.number) f x y ys (map_into f x ys)

map_sorted : (f : Record → Record) (xs : List Numbered) → map (at_record f) (by_number xs) ≡ by_number (map (at_record f) xs)
map_sorted f [] = refl
map_sorted f (x ∷ xs) = map_into f x (by_number xs) ∙ ap (into (at_record f x)) (map_sorted f xs)

map_plain : (f : Record → Record) (xs : List Numbered) → map plain (map (at_record f) xs) ≡ map f (map plain xs)
map_plain f [] = refl
map_plain f (x ∷ xs) = ap (λ zs. f x.one ∷ zs) (map_plain f xs)

-- the list of records that keep their numbers is changed in place
pub list_map : (f : Record → Record) (xs : List Numbered) → list_of (map (at_record f) xs) ≡ map f (list_of xs)
list_map f xs = ap (map plain) (sym (map_sorted f xs)) ∙ map_plain f (by_number xs)

-- what has the greatest number goes to the end
into_last : (x : Numbered) (ys : List Numbered) → AllByRecursion (λ y. y.number < x.number) ys → into x ys ≡ ys ++ x ∷ []
into_last x [] h = refl
into_last x (y ∷ ys) h = rw (lt-ltb y.number x.number h.0) (ap (λ zs. y ∷ zs) (into_last x ys h.1))

before_if : (b : Bool) (x last y : Numbered) (ys : List Numbered) → into x (ys ++ last ∷ []) ≡ into x ys ++ last ∷ [] → (if b then y ∷ into x (ys ++ last ∷ []) else x ∷ y ∷ (ys ++ last ∷ [])) ≡ (if b then y ∷ into x ys else x ∷ y ∷ ys) ++ last ∷ []
before_if true x last y ys ih = ap (λ zs. y ∷ zs) ih
before_if false x last y ys ih = refl

into_before : (x last : Numbered) (ys : List Numbered) → x.number < last.number → into x (ys ++ last ∷ []) ≡ into x ys ++ last ∷ []
into_before x last [] h = let no_less : nat_lt last.number x.number ≡ false = grind (arith, nat_tests) in rw no_less refl
into_before x last (y ∷ ys) h = before_if (nat_lt y.number x.number) x last y ys (into_before x last ys h)

all_if : (P : Numbered → Type 0) (b : Bool) (x y : Numbered) (ys : List Numbered) → P x → P y → AllByRecursion P ys → AllByRecursion P (into x ys) → AllByRecursion P (if b then y ∷ into x ys else x ∷ y ∷ ys)
all_if P true x y ys h k p ih = (k, ih)
all_if P false x y ys h k p ih = (h, (k, p))

all_into_of : (P : Numbered → Type 0) (x : Numbered) (ys : List Numbered) → P x → AllByRecursion P ys → AllByRecursion P (into x ys)
all_into_of P x [] h p = (h, tt)
all_into_of P x (y ∷ ys) h p = all_if P (nat_lt y.number x.number) x y ys h p.0 p.1 (all_into_of P x ys h p.1)

all_sorted : (P : Numbered → Type 0) (xs : List Numbered) → AllByRecursion P xs → AllByRecursion P (by_number xs)
all_sorted P [] h = tt
all_sorted P (x ∷ xs) h = all_into_of P x (by_number xs) h.0 (all_sorted P xs h.1)

sorted_new : (front back : List Numbered) (x : Numbered) → AreBelow x.number front → AreBelow x.number back → by_number (front ++ x ∷ back) ≡ by_number (front ++ back) ++ x ∷ []
sorted_new [] back x f b = into_last x (by_number back) (all_sorted (λ y. y.number < x.number) back b)
sorted_new (y ∷ front) back x f b = ap (into y) (sorted_new front back x f.1 b) ∙ into_before y x (by_number (front ++ back)) f.0

-- wherever a record with a number above all others comes in, it stands at the end of the list
pub list_new : (front back : List Numbered) (x : Numbered) → AreBelow x.number front → AreBelow x.number back → list_of (front ++ x ∷ back) ≡ list_of (front ++ back) ++ x.one ∷ []
list_new front back x f b = ap (map plain) (sorted_new front back x f b) ∙ map-append plain (by_number (front ++ back)) (x ∷ [])

-- a record is put in the place of its rival, which keeps its number
pub put_replaced : (test : Record → Bool) (r : Record) (xs : List Numbered) → AtMostOne test (list_of xs) → list_any test (list_of xs) ≡ true → put_over test r (list_of xs) ≡ list_of (map (at_record (replace_if test r)) xs)
put_replaced test r xs one some = put_place test r (list_of xs) one some ∙ sym (list_map (replace_if test r) xs)

-- or it is new
pub put_new : (test : Record → Bool) (x : Numbered) (front back : List Numbered) → AreBelow x.number front → AreBelow x.number back → list_any test (list_of (front ++ back)) ≡ false
    → put_over test x.one (list_of (front ++ back)) ≡ list_of (front ++ x ∷ back)
put_new test x front back f b none = put_end test x.one (list_of (front ++ back)) none ∙ sym (list_new front back x f b)

renumber_if : (b : Bool) (f : ℕ → ℕ) (x y : Numbered) (ys : List Numbered) → map (at_number f) (into x ys) ≡ into (at_number f x) (map (at_number f) ys)
    → map (at_number f) (if b then y ∷ into x ys else x ∷ y ∷ ys) ≡ (if b then at_number f y ∷ into (at_number f x) (map (at_number f) ys) else at_number f x ∷ at_number f y ∷ map (at_number f) ys)
renumber_if true f x y ys ih = ap (λ zs. at_number f y ∷ zs) ih
renumber_if false f x y ys ih = refl

renumber_into : (f : ℕ → ℕ) (x : Numbered) (ys : List Numbered) → AllByRecursion (λ y. nat_lt (f y.number) (f x.number) ≡ nat_lt y.number x.number) ys → map (at_number f) (into x ys) ≡ into (at_number f x) (map (at_number f) ys)
renumber_into f x [] h = refl
renumber_into f x (y ∷ ys) h = rw h.0 (renumber_if (nat_lt y.number x.number) f x y ys (renumber_into f x ys h.1))

renumber_sorted : (f : ℕ → ℕ) (xs : List Numbered) → KeepsOrder f xs → map (at_number f) (by_number xs) ≡ by_number (map (at_number f) xs)
renumber_sorted f [] h = refl
renumber_sorted f (x ∷ xs) h = renumber_into f x (by_number xs) (all_sorted (λ y. nat_lt (f y.number) (f x.number) ≡ nat_lt y.number x.number) xs h.0) ∙ ap (into (at_number f x)) (renumber_sorted f xs h.1)

renumber_plain : (f : ℕ → ℕ) (xs : List Numbered) → map plain (map (at_number f) xs) ≡ map plain xs
renumber_plain f [] = refl
renumber_plain f (x ∷ xs) = ap (λ zs. x.one ∷ zs) (renumber_plain f xs)

-- numbering anew leaves the list
pub list_renumbered : (f : ℕ → ℕ) (xs : List Numbered) → KeepsOrder f xs → list_of (map (at_number f) xs) ≡ list_of xs
list_renumbered f xs h = ap (map plain) (sym (renumber_sorted f xs h)) ∙ renumber_plain f (by_number xs)

-- where the record at a place passes, it is replaced
pub over_here : (test : Record → Bool) (r s : Record) (records : List Record) (place : ℕ) → place < length records → s ≡ get_or records place s → test s ≡ true → slice_set records place r ≡ take place records ++ put_over test r (drop place records)
over_here test r s [] place within at passed = absurd (omega arith)
over_here test r s (x ∷ records) zero within at passed =
    let here : test x ≡ true = rw (← at) passed in
    rw here refl
over_here test r s (x ∷ records) (suc place) within at passed = ap (λ (others : List Record). x ∷ others) (over_here test r s records place (omega arith) at passed)

none_if : (b : Bool) (test : Record → Bool) (s : Record) (records : List Record) → (b || list_any test records) ≡ false → (list_any test records ≡ false → first_that test records ≡ None) → (if b then Some s else first_that test records) ≡ None
none_if true test s records h ih = absurd cc
none_if false test s records h ih = ih h

-- where none passes, there is no first one
pub first_none : (test : Record → Bool) (records : List Record) → list_any test records ≡ false → first_that test records ≡ None
first_none test [] h = refl
first_none test (s ∷ records) h = none_if (test s) test s records h (first_none test records)
