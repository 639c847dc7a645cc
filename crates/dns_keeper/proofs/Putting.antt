-- A batch that is put in its place: where that is, and that batches stay by ascending first.
use Rattle.std.proofs.Common.{◌≡◌, ◌<◌, ◌+◌, inl, inr, ℕ, ℤ, ◌-◌, List, [], ◌∷◌, ◌++◌, length, take, drop, get_or, append_assoc, true, false, suc, refl, sym, ap, ◌∙◌, arith}
use Rattle.std.proofs.Math.Seq.{drop-cons}
use Rattle.std.proofs.lemmas.List.{take_more}
use Rattle.std.specs.List.{AllByRecursion}
use Rattle.std.specs.Ordering.{int_eq}
use Rattle.std.specs.Int.Signed.{le_z}
use Rattle.std.proofs.lemmas.Int.{ints}
use Rattle.std.proofs.lemmas.Bool.{cases_Bool}
use Rattle.std.proofs.lemmas.Bool.Decides.{nat_tests}
use Rattle.dns_keeper.specs.declared.batch_row.BatchRow.{BatchRow}
use Rattle.dns_keeper.specs.Batches.{is_below_batches, AreByFirst, begins_at, put_batch}
use Rattle.dns_keeper.specs.Memory.{ends_below}

-- ---- behind all others

-- the last of two batches and more is that of all but the first
ends_below-next : (id : ℤ) (b c : BatchRow) (batches : List BatchRow) → ends_below id (b ∷ c ∷ batches) ≡ ends_below id (c ∷ batches)
ends_below-next id b c batches =
    let long : suc (suc (length batches)) - 1 ≡ suc (length batches) = omega arith in
    let short : suc (length batches) - 1 ≡ length batches = omega arith in
    rw (long, short) refl

lower : (a b c : ℤ) → le_z b a ≡ false → le_z c b ≡ false → le_z c a ≡ false
lower a b c p q = grind (arith, ints, nat_tests)

other : (a b : ℤ) → le_z b a ≡ false → int_eq a b ≡ false
other a b p = grind (arith, ints, nat_tests)

-- of batches by ascending first all begin below what the last begins below
abbrev pub AllBelow : ℤ → List BatchRow → Type 0
AllBelow id batches = AllByRecursion (λ (c : BatchRow). le_z id c.first ≡ false) batches

step_of : (b c : BatchRow) (batches : List BatchRow) → AreByFirst (b ∷ c ∷ batches) → (le_z c.first b.first ≡ false) × AreByFirst (c ∷ batches)
step_of b c batches up = elim (cases_Bool (le_z c.first b.first)) [
  | inl is_so ↦ absurd (let it = rw is_so at up in cc)
  | inr is_not ↦ (is_not, rw is_not at up)
]

last_of : (id : ℤ) (b : BatchRow) → ends_below id (b ∷ []) ≡ true → le_z id b.first ≡ false
last_of id b e = elim (cases_Bool (le_z id b.first)) [
  | inl is_so ↦ absurd (let it = rw is_so at e in cc)
  | inr is_not ↦ is_not
]

all_below : (id : ℤ) (batches : List BatchRow) → AreByFirst batches → ends_below id batches ≡ true → AllBelow id batches
all_below id [] up e = tt
all_below id (b ∷ []) up e = (last_of id b e, tt)
all_below id (b ∷ c ∷ batches) up e =
    let step = step_of b c batches up in
    let rest = all_below id (c ∷ batches) step.1 (sym (ends_below-next id b c batches) ∙ e) in
    (lower b.first c.first id step.0 rest.0, rest)

pub put_behind : (b : BatchRow) (batches : List BatchRow) → AllBelow b.first batches → put_batch b batches ≡ batches ++ b ∷ []
put_behind b [] all = refl
put_behind b (c ∷ batches) all = rw (all.0, put_behind b batches all.1) refl

free_behind : (id : ℤ) (batches : List BatchRow) → AllBelow id batches → begins_at id batches ≡ false
free_behind id [] all = refl
free_behind id (c ∷ batches) all = rw (other c.first id all.0) (free_behind id batches all.1)

pub behind_is : (b : BatchRow) (batches : List BatchRow) → AreByFirst batches → ends_below b.first batches ≡ true → put_batch b batches ≡ batches ++ b ∷ []
behind_is b batches up e = put_behind b batches (all_below b.first batches up e)

pub behind_free : (id : ℤ) (batches : List BatchRow) → AreByFirst batches → ends_below id batches ≡ true → begins_at id batches ≡ false
behind_free id batches up e = free_behind id batches (all_below id batches up e)

-- ---- they stay by ascending first

above : (a b : ℤ) → le_z a b ≡ true → int_eq b a ≡ false → le_z b a ≡ false
above a b p q = grind (arith, ints, nat_tests)

below_put : (low : ℤ) (b : BatchRow) (batches : List BatchRow) → le_z b.first low ≡ false → is_below_batches low batches ≡ true → is_below_batches low (put_batch b batches) ≡ true
below_put low b [] p q = rw p refl
below_put low b (c ∷ batches) p q = elim (cases_Bool (le_z b.first c.first)) [
  | inl front ↦ rw (front, p) refl
  | inr back ↦ rw back q
]

free_of : (id : ℤ) (c : BatchRow) (batches : List BatchRow) → begins_at id (c ∷ batches) ≡ false → (int_eq c.first id ≡ false) × (begins_at id batches ≡ false)
free_of id c batches e = elim (cases_Bool (int_eq c.first id)) [
  | inl is_so ↦ absurd (let it = rw is_so at e in cc)
  | inr is_not ↦ (is_not, rw is_not at e)
]

-- what is below the first of batches is below its first
pub begins_above : (id : ℤ) (b : BatchRow) (batches : List BatchRow) → is_below_batches id (b ∷ batches) ≡ true → le_z b.first id ≡ false
begins_above id b batches e = elim (cases_Bool (le_z b.first id)) [
  | inl is_so ↦ absurd (let it = rw is_so at e in cc)
  | inr is_not ↦ is_not
]

-- a batch begins below those behind it, which stand by ascending first
pub parts_of : (b : BatchRow) (batches : List BatchRow) → AreByFirst (b ∷ batches) → (is_below_batches b.first batches ≡ true) × AreByFirst batches
parts_of b batches up = elim (cases_Bool (is_below_batches b.first batches)) [
  | inl is_so ↦ (is_so, rw is_so at up)
  | inr is_not ↦ absurd (let it = rw is_not at up in cc)
]

pub by_first_put : (b : BatchRow) (batches : List BatchRow) → AreByFirst batches → begins_at b.first batches ≡ false → AreByFirst (put_batch b batches)
by_first_put b [] up free = refl
by_first_put b (c ∷ batches) up free =
    let parts = parts_of c batches up in
    let frees = free_of b.first c batches free in
    elim (cases_Bool (le_z b.first c.first)) [
      | inl front ↦ rw (front, above b.first c.first front frees.0) up
      | inr back ↦ rw (back, below_put c.first b batches back parts.0) (by_first_put b batches parts.1 frees.1)
    ]

-- ---- the place of a batch, as a loop finds it

module _ (b : BatchRow) (batches : List BatchRow) (i : ℕ) (d : BatchRow) (within : i < length batches) (was : take i batches ++ put_batch b (drop i batches) ≡ put_batch b batches) where
  one_here : drop i batches ≡ get_or batches i d ∷ drop (i + 1) batches
  one_here = let next : i + 1 ≡ suc i = omega arith in drop-cons batches i d within ∙ ap (λ n. get_or batches i d ∷ drop n batches) (sym next)

  -- it comes behind the batch that stands there
  pub passes_one : le_z b.first (get_or batches i d).first ≡ false → take (i + 1) batches ++ put_batch b (drop (i + 1) batches) ≡ put_batch b batches
  passes_one above =
      let x = get_or batches i d in
      let rest = put_batch b (drop (i + 1) batches) in
      let one : put_batch b (x ∷ drop (i + 1) batches) ≡ x ∷ rest = rw above refl in
      ap (λ xs. xs ++ rest) (take_more batches i d within) ∙ append_assoc (take i batches) (x ∷ []) rest ∙ ap (λ xs. take i batches ++ xs) (sym (ap (put_batch b) one_here ∙ one)) ∙ was

  -- or before it
  pub stops_at : le_z b.first (get_or batches i d).first ≡ true → take i batches ++ b ∷ drop i batches ≡ put_batch b batches
  stops_at below =
      let x = get_or batches i d in
      let one : put_batch b (x ∷ drop (i + 1) batches) ≡ b ∷ x ∷ drop (i + 1) batches = rw below refl in
      ap (λ xs. take i batches ++ xs) (sym (ap (put_batch b) one_here ∙ one ∙ ap (λ xs. b ∷ xs) (sym one_here))) ∙ was

-- or behind all
pub stops_behind : (b : BatchRow) (batches : List BatchRow) (i : ℕ) → drop i batches ≡ [] → take i batches ++ put_batch b (drop i batches) ≡ put_batch b batches → take i batches ++ b ∷ drop i batches ≡ put_batch b batches
stops_behind b batches i none was = ap (λ xs. take i batches ++ xs) (sym (ap (put_batch b) none ∙ ap (λ xs. b ∷ xs) (sym none))) ∙ was
