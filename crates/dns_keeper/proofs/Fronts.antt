-- A batch covers the rows from its place on where it is a front of their first run.
use Rattle.std.proofs.Common.{◌≡◌, inl, inr, ◌+ℤ◌, ◌-ℤ◌, ◌&&◌, ℕ, ℤ, zero, suc, pos, negsuc, nat_abs, nat_le, List, [], ◌∷◌, length, take, drop, Bool, true, false, if◌then◌else◌, refl, sym, ap, subst, ◌∙◌, arith}
use Rattle.std.proofs.lemmas.Int.{ints}
use Rattle.std.proofs.lemmas.Bool.{cases_Bool, and_parts}
use Rattle.std.proofs.lemmas.Bool.Decides.{nat_tests}
use Rattle.std.specs.List.{list_all}
use Rattle.std.specs.Ordering.{int_eq}
use Rattle.std.specs.Int.Signed.{le_z}
use Rattle.dns_keeper.specs.declared.row.Row.{Row}
use Rattle.dns_keeper.specs.declared.batch_row.BatchRow.{BatchRow}
use Rattle.dns_keeper.specs.Batches.{are_alike, begun_with, runs_of, is_batch, AreNumbered}
use Rattle.dns_keeper.specs.Cutting.{is_front, cut}

-- how many rows in front are like this one
abbrev alike_count : Row → List Row → ℕ
alike_count r [] = 0
alike_count r (s ∷ rows) = if are_alike r s then suc (alike_count r rows) else 0

alike_is : (r s : Row) → are_alike r s ≡ true → (r.client ≡ s.client) × (r.serial ≡ s.serial)
alike_is r s e = let both = and_parts (int_eq r.client s.client) (int_eq r.serial s.serial) e in (grind (arith, both.0), grind (arith, both.1))

same_alike : (r s x : Row) → are_alike r s ≡ true → are_alike s x ≡ are_alike r x
same_alike r s x e = let both = alike_is r s e in rw (both.0, both.1) refl

same_count : (r s : Row) (rows : List Row) → are_alike r s ≡ true → alike_count s rows ≡ alike_count r rows
same_count r s [] e = refl
same_count r s (x ∷ rows) e = rw (same_alike r s x e, same_count r s rows e) refl

-- the first run, and those behind it
pub first_run : (r : Row) (rows : List Row) → runs_of (r ∷ rows) ≡ record { first = r.id; count = pos (suc (alike_count r rows)) } ∷ runs_of (drop (alike_count r rows) rows)
first_run r [] = refl
first_run r (s ∷ rows) = elim (cases_Bool (are_alike r s)) [
  | inl like ↦
      let later = first_run s rows in
      let more = same_count r s rows like in
      let joined : begun_with r (s ∷ rows) (record { first = s.id; count = pos (suc (alike_count s rows)) } ∷ runs_of (drop (alike_count s rows) rows)) ≡ record { first = r.id; count = pos (suc (alike_count s rows)) +ℤ pos 1 } ∷ runs_of (drop (alike_count s rows) rows) = rw like refl in
      let up : pos (suc (alike_count s rows)) +ℤ pos 1 ≡ pos (suc (suc (alike_count s rows))) = omega (arith, ints) in
      ap (begun_with r (s ∷ rows)) later ∙ joined ∙ rw (up, like, more) refl
  | inr other ↦
      let later = first_run s rows in
      let apart : begun_with r (s ∷ rows) (record { first = s.id; count = pos (suc (alike_count s rows)) } ∷ runs_of (drop (alike_count s rows) rows)) ≡ record { first = r.id; count = pos 1 } ∷ record { first = s.id; count = pos (suc (alike_count s rows)) } ∷ runs_of (drop (alike_count s rows) rows) = rw other refl in
      ap (begun_with r (s ∷ rows)) later ∙ apart ∙ ap (λ bs. record { first = r.id; count = pos 1 } ∷ bs) (sym later) ∙ rw other refl
]

-- ---- so many rows are of the first run where so many are like the first

le_none : (k : ℕ) → nat_le (suc k) zero ≡ false
le_none k = grind (arith, nat_tests)

le_both : (k m : ℕ) → nat_le (suc k) (suc m) ≡ nat_le k m
le_both k m = elim (cases_Bool (nat_le k m)) [
  | inl within ↦ let more : nat_le (suc k) (suc m) ≡ true = grind (arith, nat_tests, within) in more ∙ sym within
  | inr beyond ↦ let more : nat_le (suc k) (suc m) ≡ false = grind (arith, nat_tests, beyond) in more ∙ sym beyond
]

le_zero : (m : ℕ) → nat_le zero m ≡ true
le_zero m = grind (arith, nat_tests)

le_one : (k : ℕ) → le_z (pos 1) (pos (suc k)) ≡ true
le_one k = grind (arith, ints, nat_tests)

le_long : (k m : ℕ) → le_z (pos (suc k)) (pos (suc m)) ≡ nat_le k m
le_long k m = elim (cases_Bool (nat_le k m)) [
  | inl within ↦ let more : le_z (pos (suc k)) (pos (suc m)) ≡ true = grind (arith, ints, nat_tests, within) in more ∙ sym within
  | inr beyond ↦ let more : le_z (pos (suc k)) (pos (suc m)) ≡ false = grind (arith, ints, nat_tests, beyond) in more ∙ sym beyond
]

as_many : (r : Row) (rows : List Row) (k : ℕ) → (nat_le k (length rows) && list_all (are_alike r) (take k rows)) ≡ nat_le k (alike_count r rows)
as_many r [] zero = refl
as_many r [] (suc k) = rw (le_none k) refl
as_many r (s ∷ rows) zero = rw (le_zero (suc (length rows)), le_zero (alike_count r (s ∷ rows))) refl
as_many r (s ∷ rows) (suc k) = elim (cases_Bool (are_alike r s)) [
  | inl like ↦ rw (like, le_both k (length rows), le_both k (alike_count r rows)) (as_many r rows k)
  | inr other ↦ rw (other, le_none k) (and_false (nat_le (suc k) (suc (length rows))))
]
  where
    and_false : (b : Bool) → (b && false) ≡ false
    and_false true = refl
    and_false false = refl

like_itself : (r : Row) → are_alike r r ≡ true
like_itself r = grind arith

pub front_is : (e : ℤ) (rows : List Row) (b : BatchRow) → is_batch e rows b ≡ is_front e (runs_of rows) b
front_is e [] b = refl
front_is e (r ∷ rows) b = elim (cases_Bool (int_eq b.first e)) [
  | inl at ↦ rw (at, first_run r rows, at) (by b.count)
  | inr away ↦ rw (away, first_run r rows, away) refl
]
  where
    by : (count : ℤ) → (le_z (pos 1) count && nat_le (nat_abs count) (length (r ∷ rows)) && list_all (are_alike r) (take (nat_abs count) (r ∷ rows)))
        ≡ (if le_z (pos 1) count then le_z count (pos (suc (alike_count r rows))) else false)
    by (pos zero) = refl
    by (negsuc k) = refl
    by (pos (suc k)) = rw (le_one k, le_both k (length rows), le_long k (alike_count r rows), like_itself r) (as_many r rows k)

-- ---- the runs behind a front

batch_same : (a b m n : ℤ) → a ≡ b → m ≡ n → ◌≡◌ {A = BatchRow} (record { first = a; count = m }) (record { first = b; count = n })
batch_same a b m n p q = rw (p, q) refl

shorter_eq : (k m : ℕ) → int_eq (pos (suc (suc k))) (pos (suc (suc m))) ≡ int_eq (pos (suc k)) (pos (suc m))
shorter_eq k m = elim (cases_Bool (int_eq (pos (suc k)) (pos (suc m)))) [
  | inl same ↦ let it : k ≡ m = grind (arith, ints, same) in rw (same, it) (grind arith)
  | inr other ↦ let it : int_eq (pos (suc (suc k))) (pos (suc (suc m))) ≡ false = grind (arith, ints, other) in it ∙ sym other
]

not_one : (m : ℕ) → int_eq (pos 1) (pos (suc (suc m))) ≡ false
not_one m = grind (arith, ints)

one_less : (m : ℕ) → pos (suc (suc m)) -ℤ pos 1 ≡ pos (suc m)
one_less m = omega (arith, ints)

one_on : (id : ℤ) (k : ℕ) → (id +ℤ pos 1) +ℤ pos (suc k) ≡ id +ℤ pos (suc (suc k))
one_on id k = omega (arith, ints)

less_by : (k m : ℕ) → pos (suc m) -ℤ pos (suc k) ≡ pos (suc (suc m)) -ℤ pos (suc (suc k))
less_by k m = omega (arith, ints)

-- a run of one row more, and a front of one row more
cut_shifted : (id other : ℤ) (k m : ℕ) (runs : List BatchRow) → other ≡ id +ℤ pos 1 → cut (pos (suc k)) (record { first = other; count = pos (suc m) } ∷ runs) ≡ cut (pos (suc (suc k))) (record { first = id; count = pos (suc (suc m)) } ∷ runs)
cut_shifted id other k m runs is = elim (cases_Bool (int_eq (pos (suc k)) (pos (suc m)))) [
  | inl same ↦ rw (shorter_eq k m, same) refl
  | inr more ↦ rw (shorter_eq k m, more) (ap (λ b. b ∷ runs) (batch_same (other +ℤ pos (suc k)) (id +ℤ pos (suc (suc k))) (pos (suc m) -ℤ pos (suc k)) (pos (suc (suc m)) -ℤ pos (suc (suc k))) (ap (λ n. n +ℤ pos (suc k)) is ∙ one_on id k) (less_by k m)))
]

runs_behind : (e : ℤ) (r : Row) (rows : List Row) (k : ℕ) → AreNumbered e (r ∷ rows) → nat_le k (alike_count r rows) ≡ true
    → runs_of (drop k rows) ≡ cut (pos (suc k)) (record { first = r.id; count = pos (suc (alike_count r rows)) } ∷ runs_of (drop (alike_count r rows) rows))
runs_behind e r [] zero num within = refl
runs_behind e r [] (suc k) num within = absurd (let it : true ≡ false = sym within ∙ le_none k in cc)
runs_behind e r (s ∷ rows) zero num within = elim (cases_Bool (are_alike r s)) [
  | inl like ↦
      let next : s.id ≡ r.id +ℤ pos 1 = num.1.0 ∙ ap (λ n. n +ℤ pos 1) (sym num.0) in
      let m = alike_count s rows in
      let cut_one : cut (pos 1) (record { first = r.id; count = pos (suc (suc m)) } ∷ runs_of (drop m rows)) ≡ record { first = r.id +ℤ pos 1; count = pos (suc (suc m)) -ℤ pos 1 } ∷ runs_of (drop m rows) = rw (not_one m) refl in
      rw (like, ← same_count r s rows like)
      (first_run s rows ∙ ap (λ b. b ∷ runs_of (drop m rows)) (batch_same s.id (r.id +ℤ pos 1) (pos (suc m)) (pos (suc (suc m)) -ℤ pos 1) next (sym (one_less m))) ∙ sym cut_one)
  | inr other ↦ rw other refl
]
runs_behind e r (s ∷ rows) (suc k) num within = elim (cases_Bool (are_alike r s)) [
  | inl like ↦
      let next : s.id ≡ r.id +ℤ pos 1 = num.1.0 ∙ ap (λ n. n +ℤ pos 1) (sym num.0) in
      let m = alike_count s rows in
      let fits : nat_le k (alike_count s rows) ≡ true = sym (le_both k (alike_count s rows)) ∙ (rw (like, ← same_count r s rows like) at within) in
      rw (like, ← same_count r s rows like) (runs_behind (e +ℤ pos 1) s rows k num.1 fits ∙ cut_shifted r.id s.id k m (runs_of (drop m rows)) next)
  | inr other ↦ absurd (let it = rw (other, le_none k) at within in cc)
]

numbered_on : (e : ℤ) (rows : List Row) (k : ℕ) → nat_le k (length rows) ≡ true → AreNumbered e rows → AreNumbered (e +ℤ pos k) (drop k rows)
numbered_on e rows zero within num = let same : e +ℤ pos 0 ≡ e = omega (arith, ints) in subst (λ n. AreNumbered n rows) (sym same) num
numbered_on e [] (suc k) within num = tt
numbered_on e (r ∷ rows) (suc k) within num =
    let on : (e +ℤ pos 1) +ℤ pos k ≡ e +ℤ pos (suc k) = omega (arith, ints) in
    subst (λ n. AreNumbered n (drop k rows)) on (numbered_on (e +ℤ pos 1) rows k (sym (le_both k (length rows)) ∙ within) num.1)

within_all : (r : Row) (rows : List Row) (k : ℕ) → nat_le k (alike_count r rows) ≡ true → nat_le k (length rows) ≡ true
within_all r rows k e = (and_parts (nat_le k (length rows)) (list_all (are_alike r) (take k rows)) (as_many r rows k ∙ e)).0

pub record Cut (e : ℤ) (rows : List Row) (b : BatchRow) : Type 0 where
  pub runs : runs_of (drop (nat_abs b.count) rows) ≡ cut b.count (runs_of rows)
  pub numbered : AreNumbered (e +ℤ b.count) (drop (nat_abs b.count) rows)

pub cut_is : (e : ℤ) (rows : List Row) (first count : ℤ) → AreNumbered e rows → is_front e (runs_of rows) (record { first = first; count = count }) ≡ true → Cut e rows (record { first = first; count = count })
cut_is e [] first count num front = absurd (cc)
cut_is e (r ∷ rows) first count num front = elim (cases_Bool (int_eq first e)) [
  | inl at ↦ by count (rw (first_run r rows, at) at front)
  | inr away ↦ absurd (let it = rw (first_run r rows, away) at front in cc)
]
  where
    by : (count : ℤ) → (if le_z (pos 1) count then le_z count (pos (suc (alike_count r rows))) else false) ≡ true → Cut e (r ∷ rows) (record { first = first; count = count })
    by (pos zero) h = absurd (cc)
    by (negsuc k) h = absurd (cc)
    by (pos (suc k)) h =
        let fits : nat_le k (alike_count r rows) ≡ true = sym (le_long k (alike_count r rows)) ∙ (rw (le_one k) at h) in
        record {
          runs = runs_behind e r rows k num fits ∙ ap (cut (pos (suc k))) (sym (first_run r rows));
          numbered = numbered_on e (r ∷ rows) (suc k) (le_both k (length rows) ∙ within_all r rows k fits) num;
        }
