-- Where no place is left uncovered, the batches cover the rows, and the other way round.
use Rattle.std.proofs.Common.{◌≡◌, inl, inr, ◌+ℤ◌, ◌≤◌, ◌&&◌, ◌++◌, ℕ, ℤ, zero, suc, pos, negsuc, nat_abs, nat_le, List, [], ◌∷◌, length, take, drop, take-append-drop, length-append, true, None, refl, sym, ap, ◌∙◌, arith}
use Rattle.std.proofs.lemmas.List.{length-take-le}
use Rattle.std.proofs.lemmas.Int.{ints}
use Rattle.std.proofs.lemmas.Bool.{cases_Bool, and_parts}
use Rattle.std.proofs.lemmas.Bool.Decides.{nat_tests}
use Rattle.std.specs.List.{list_all}
use Rattle.std.specs.Ordering.{int_eq}
use Rattle.std.specs.Int.Signed.{le_z}
use Rattle.dns_keeper.specs.declared.row.Row.{Row}
use Rattle.dns_keeper.specs.declared.batch_row.BatchRow.{BatchRow}
use Rattle.dns_keeper.specs.Batches.{are_alike, IsRun, Covers, is_batch, uncovered}

-- ---- what the test of a batch says

pub record Tested (e : ℤ) (r : Row) (rows : List Row) (b : BatchRow) : Type 0 where
  pub n : ℕ
  pub first : b.first ≡ e
  pub count : b.count ≡ pos (suc n)
  pub low : suc n ≤ length (r ∷ rows)
  pub alike : list_all (are_alike r) (take n rows) ≡ true

tested : (e : ℤ) (r : Row) (rows : List Row) (first count : ℤ) → is_batch e (r ∷ rows) (record { first = first; count = count }) ≡ true → Tested e r rows (record { first = first; count = count })
tested e r rows first count h =
    let p = and_parts (int_eq first e && le_z (pos 1) count && nat_le (nat_abs count) (length (r ∷ rows))) (list_all (are_alike r) (take (nat_abs count) (r ∷ rows))) h in
    let q = and_parts (int_eq first e && le_z (pos 1) count) (nat_le (nat_abs count) (length (r ∷ rows))) p.0 in
    let s = and_parts (int_eq first e) (le_z (pos 1) count) q.0 in
    by count s.0 s.1 q.1 p.1
  where
    by : (count : ℤ) → int_eq first e ≡ true → le_z (pos 1) count ≡ true → nat_le (nat_abs count) (length (r ∷ rows)) ≡ true → list_all (are_alike r) (take (nat_abs count) (r ∷ rows)) ≡ true → Tested e r rows (record { first = first; count = count })
    by (pos zero) a b c d = absurd (cc)
    by (negsuc k) a b c d = absurd (cc)
    by (pos (suc n)) a b c d = record { n = n; first = grind (arith, a); count = refl; low = grind (arith, nat_tests, c); alike = (and_parts (are_alike r r) (list_all (are_alike r) (take n rows)) d).1 }

covers_one : (e : ℤ) (r : Row) (rows : List Row) (b : BatchRow) (batches : List BatchRow) (t : Tested e r rows b) → Covers (e +ℤ b.count) (drop (nat_abs b.count) (r ∷ rows)) batches → Covers e (r ∷ rows) (b ∷ batches)
covers_one e r rows b batches t later =
    let n = t.n in
    let len : length (take (suc n) (r ∷ rows)) ≡ suc n = length-take-le (suc n) (r ∷ rows) t.low in
    let is : b ≡ record { first = e; count = pos (length (take (suc n) (r ∷ rows))) } = whole b e (pos (length (take (suc n) (r ∷ rows)))) t.first (t.count ∙ ap pos (sym len)) in
    let rest : Covers (e +ℤ pos (length (take (suc n) (r ∷ rows)))) (drop (suc n) (r ∷ rows)) batches = rw len (rw t.count at later) in
    (take (suc n) (r ∷ rows), drop (suc n) (r ∷ rows), sym (take-append-drop (suc n) (r ∷ rows)), t.alike, is, rest)
  where
    whole : (b : BatchRow) (e n : ℤ) → b.first ≡ e → b.count ≡ n → b ≡ record { first = e; count = n }
    whole b e n p q = rw (← p, ← q) refl

pub covered : (e : ℤ) (rows : List Row) (batches : List BatchRow) → uncovered e rows batches ≡ None → Covers e rows batches
covered e [] [] h = refl
covered e (r ∷ rows) [] h = absurd (cc)
covered e [] (b ∷ batches) h = absurd (cc)
covered e (r ∷ rows) (b ∷ batches) h = elim (cases_Bool (is_batch e (r ∷ rows) b)) [
  | inl fits ↦
      let t = tested e r rows b.first b.count fits in
      covers_one e r rows b batches t (covered (e +ℤ b.count) (drop (nat_abs b.count) (r ∷ rows)) batches (rw fits at h))
  | inr other ↦ absurd (let it = rw other at h in cc)
]

-- ---- and the other way round

same_alike : (r : Row) → are_alike r r ≡ true
same_alike r = grind arith

front_take : (run rest : List Row) → take (length run) (run ++ rest) ≡ run
front_take [] rest = refl
front_take (x ∷ run) rest = ap (λ xs. x ∷ xs) (front_take run rest)

front_drop : (run rest : List Row) → drop (length run) (run ++ rest) ≡ rest
front_drop [] rest = refl
front_drop (x ∷ run) rest = front_drop run rest

fits_one : (e : ℤ) (r : Row) (run rest : List Row) → IsRun (r ∷ run) → is_batch e (r ∷ run ++ rest) (record { first = e; count = pos (length (r ∷ run)) }) ≡ true
fits_one e r run rest h =
    let a : int_eq e e ≡ true = grind arith in
    let b : le_z (pos 1) (pos (length (r ∷ run))) ≡ true = grind (arith, ints, nat_tests) in
    let c : nat_le (length (r ∷ run)) (length (r ∷ run ++ rest)) ≡ true = grind (arith, nat_tests, length-append run rest) in
    rw (a, b, c, front_take run rest, same_alike r) h

pub covering : (e : ℤ) (batches : List BatchRow) (rows : List Row) → Covers e rows batches → uncovered e rows batches ≡ None
covering e [] rows h = rw h refl
covering e (b ∷ batches) rows h = go h.0 h.1 h.2 h.3 h.4 (covering (e +ℤ pos (length h.0)) batches h.1 h.5)
  where
    go : (run rest : List Row) → rows ≡ run ++ rest → IsRun run → b ≡ record { first = e; count = pos (length run) } → uncovered (e +ℤ pos (length run)) rest batches ≡ None → uncovered e rows (b ∷ batches) ≡ None
    go [] rest is run at later = absurd run
    go (r ∷ run) rest is run_is at later = rw (is, at, fits_one e r run rest run_is, front_drop run rest) later
