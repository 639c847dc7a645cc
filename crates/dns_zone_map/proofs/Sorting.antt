use Rattle.std.proofs.Common.{◌≡◌, ℕ, ◌<◌, ◌≤◌, List, [], ◌∷◌, refl, sym, ap, ◌∙◌, arith, Bool, true, false}
use Rattle.std.specs.Prelude.{map, filter, nat_lt, if◌then◌else◌}
use Rattle.std.specs.List.{AllByRecursion}
use Rattle.std.proofs.lemmas.Bool.{ltb-true, ltb-false}
use Rattle.dns_wire.specs.declared.record.Record.{Record}
use Rattle.dns_zone_map.specs.Order.{Numbered, into, by_number, plain, list_of, of_plain}

abbrev pub IsAscending : List Numbered → Type 0
IsAscending [] = Unit {0}
IsAscending (x ∷ xs) = AllByRecursion (λ y. x.number ≤ y.number) xs × IsAscending xs

weaker : (a b : ℕ) (xs : List Numbered) → a ≤ b → AllByRecursion (λ y. b ≤ y.number) xs → AllByRecursion (λ y. a ≤ y.number) xs
weaker a b [] h p = tt
weaker a b (x ∷ xs) h p = (let q = p.0 in omega arith, weaker a b xs h p.1)

if_into : (b : Bool) (a : ℕ) (x y : Numbered) (ys : List Numbered) → a ≤ x.number → a ≤ y.number → AllByRecursion (λ z. a ≤ z.number) ys → AllByRecursion (λ z. a ≤ z.number) (into x ys)
    → AllByRecursion (λ z. a ≤ z.number) (if b then y ∷ into x ys else x ∷ y ∷ ys)
if_into true a x y ys h k p ih = (k, ih)
if_into false a x y ys h k p ih = (h, (k, p))

all_into : (a : ℕ) (x : Numbered) (ys : List Numbered) → a ≤ x.number → AllByRecursion (λ z. a ≤ z.number) ys → AllByRecursion (λ z. a ≤ z.number) (into x ys)
all_into a x [] h p = (h, tt)
all_into a x (y ∷ ys) h p = if_into (nat_lt y.number x.number) a x y ys h p.0 p.1 (all_into a x ys h p.1)

if_ascending : (b : Bool) (x y : Numbered) (ys : List Numbered) → nat_lt y.number x.number ≡ b → AllByRecursion (λ z. y.number ≤ z.number) ys → IsAscending ys → IsAscending (into x ys) → IsAscending (if b then y ∷ into x ys else x ∷ y ∷ ys)
if_ascending true x y ys e p a ih = (all_into y.number x ys (let l : y.number < x.number = ltb-true y.number x.number e in omega arith) p, ih)
if_ascending false x y ys e p a ih =
    let l : x.number ≤ y.number = ltb-false y.number x.number e in
    ((l, weaker x.number y.number ys l p), (p, a))

ascending_into : (x : Numbered) (ys : List Numbered) → IsAscending ys → IsAscending (into x ys)
ascending_into x [] a = (tt, tt)
ascending_into x (y ∷ ys) a = if_ascending (nat_lt y.number x.number) x y ys refl a.0 a.1 (ascending_into x ys a.1)

pub ascending : (xs : List Numbered) → IsAscending (by_number xs)
ascending [] = tt
ascending (x ∷ xs) = ascending_into x (by_number xs) (ascending xs)

-- in front of what is not smaller
if_front : (b : Bool) (x y : Numbered) (ys : List Numbered) → nat_lt y.number x.number ≡ b → x.number ≤ y.number → (if b then y ∷ into x ys else x ∷ y ∷ ys) ≡ x ∷ y ∷ ys
if_front true x y ys e h = let l : y.number < x.number = ltb-true y.number x.number e in absurd (omega arith)
if_front false x y ys e h = refl

front : (x : Numbered) (ys : List Numbered) → AllByRecursion (λ z. x.number ≤ z.number) ys → into x ys ≡ x ∷ ys
front x [] p = refl
front x (y ∷ ys) p = if_front (nat_lt y.number x.number) x y ys refl p.0

pub sorted_stays : (xs : List Numbered) → IsAscending xs → by_number xs ≡ xs
sorted_stays [] a = refl
sorted_stays (x ∷ xs) a = rw (sorted_stays xs a.1) (front x xs a.0)

if_kept : (P : Numbered → Type 0) (b : Bool) (y : Numbered) (ys : List Numbered) → P y → AllByRecursion P ys → AllByRecursion P (if b then y ∷ ys else ys)
if_kept P true y ys p a = (p, a)
if_kept P false y ys p a = a

all_kept : (P : Numbered → Type 0) (t : Numbered → Bool) (ys : List Numbered) → AllByRecursion P ys → AllByRecursion P (filter t ys)
all_kept P t [] a = tt
all_kept P t (y ∷ ys) a = if_kept P (t y) y (filter t ys) a.0 (all_kept P t ys a.1)

-- a filter of an insertion
if_inserted : (b c d : Bool) (t : Numbered → Bool) (x y : Numbered) (ys : List Numbered) → nat_lt y.number x.number ≡ b → t x ≡ c → t y ≡ d → AllByRecursion (λ z. y.number ≤ z.number) ys
    → filter t (into x ys) ≡ (if c then into x (filter t ys) else filter t ys)
    → filter t (if b then y ∷ into x ys else x ∷ y ∷ ys) ≡ (if c then into x (if d then y ∷ filter t ys else filter t ys) else (if d then y ∷ filter t ys else filter t ys))
if_inserted true true true t x y ys e f g p ih = rw (g, ih, e) refl
if_inserted true true false t x y ys e f g p ih = rw (g, ih) refl
if_inserted true false true t x y ys e f g p ih = rw (g, ih) refl
if_inserted true false false t x y ys e f g p ih = rw (g, ih) refl
if_inserted false true true t x y ys e f g p ih = rw (f, g, e) refl
if_inserted false true false t x y ys e f g p ih =
    let l : x.number ≤ y.number = ltb-false y.number x.number e in
    rw (f, g) (sym (front x (filter t ys) (all_kept (λ z. x.number ≤ z.number) t ys (weaker x.number y.number ys l p))))
if_inserted false false true t x y ys e f g p ih = rw (f, g) refl
if_inserted false false false t x y ys e f g p ih = rw (f, g) refl

inserted : (t : Numbered → Bool) (x : Numbered) (ys : List Numbered) → IsAscending ys → filter t (into x ys) ≡ (if t x then into x (filter t ys) else filter t ys)
inserted t x [] a = refl
inserted t x (y ∷ ys) a = if_inserted (nat_lt y.number x.number) (t x) (t y) t x y ys refl refl refl a.0 (inserted t x ys a.1)

if_sorted : (c : Bool) (x : Numbered) (xs : List Numbered) → (if c then into x (by_number xs) else by_number xs) ≡ by_number (if c then x ∷ xs else xs)
if_sorted true x xs = refl
if_sorted false x xs = refl

-- what passes of the sorted is the sorted of what passes
pub filter_sorted : (t : Numbered → Bool) (xs : List Numbered) → filter t (by_number xs) ≡ by_number (filter t xs)
filter_sorted t [] = refl
filter_sorted t (x ∷ xs) = inserted t x (by_number xs) (ascending xs) ∙ rw (filter_sorted t xs) (if_sorted (t x) x (filter t xs))

if_plain : (b : Bool) (x : Numbered) (xs : List Numbered) → (if b then x.one ∷ map plain xs else map plain xs) ≡ map plain (if b then x ∷ xs else xs)
if_plain true x xs = refl
if_plain false x xs = refl

filter_plain : (p : Record → Bool) (xs : List Numbered) → filter p (map plain xs) ≡ map plain (filter (of_plain p) xs)
filter_plain p [] = refl
filter_plain p (x ∷ xs) = rw (filter_plain p xs) (if_plain (p x.one) x (filter (of_plain p) xs))

-- a filter of the list is the list of what passes
pub filter_list : (p : Record → Bool) (xs : List Numbered) → filter p (list_of xs) ≡ list_of (filter (of_plain p) xs)
filter_list p xs = filter_plain p (by_number xs) ∙ ap (map plain) (filter_sorted (of_plain p) xs)
