-- Runs of rows cover them, and a batch that is added keeps that.
use Rattle.std.proofs.Common.{◌≡◌, inl, inr, ◌+ℤ◌, ◌++◌, ◌+◌, ℕ, ℤ, pos, List, [], ◌∷◌, length, append-nil, append_assoc, length-append, true, refl, sym, ap, subst, ◌∙◌, arith}
use Rattle.std.proofs.lemmas.Int.{ints}
use Rattle.std.proofs.lemmas.Bool.{cases_Bool, and_parts}
use Rattle.std.specs.List.{list_all}
use Rattle.std.specs.Ordering.{int_eq}
use Rattle.dns_keeper.specs.declared.row.Row.{Row}
use Rattle.dns_keeper.specs.declared.batch_row.BatchRow.{BatchRow}
use Rattle.dns_keeper.specs.Batches.{are_alike, begun_with, runs_of, IsRun, Covers, AreNumbered}

-- ---- a batch that is added

pub next_id : (e : ℤ) (m n : ℕ) → (e +ℤ pos m) +ℤ pos n ≡ e +ℤ pos (m + n)
next_id e m n = omega (arith, ints)

no_step : (e : ℤ) → e +ℤ pos 0 ≡ e
no_step e = omega (arith, ints)

-- one run is covered by its batch
one_run : (e : ℤ) (new : List Row) → IsRun new → Covers e new (record { first = e; count = pos (length new) } ∷ [])
one_run e new run = (new, [], sym (append-nil new), run, refl, refl)

-- rows that are covered, and a run behind them: the batch of the run comes behind
pub covers_more : (e : ℤ) (rows new : List Row) (batches : List BatchRow) → Covers e rows batches → IsRun new
    → Covers e (rows ++ new) (batches ++ record { first = e +ℤ pos (length rows); count = pos (length new) } ∷ [])
covers_more e rows new [] none run = rw (none, no_step e) (one_run e new run)
covers_more e rows new (b ∷ batches) c run =
    let front = c.0 in
    let rest = c.1 in
    let later = covers_more (e +ℤ pos (length front)) rest new batches c.5 run in
    let at : (e +ℤ pos (length front)) +ℤ pos (length rest) ≡ e +ℤ pos (length rows) = next_id e (length front) (length rest) ∙ ap (λ n. e +ℤ pos n) (sym (length-append front rest) ∙ ap length (sym c.2)) in
    (front, rest ++ new, ap (λ xs. xs ++ new) c.2 ∙ append_assoc front rest new, c.3, c.4, subst (λ k. Covers (e +ℤ pos (length front)) (rest ++ new) (batches ++ record { first = k; count = pos (length new) } ∷ [])) at later)

-- ---- the runs of rows

alike_is : (r s : Row) → are_alike r s ≡ true → (r.client ≡ s.client) × (r.serial ≡ s.serial)
alike_is r s e = let both = and_parts (int_eq r.client s.client) (int_eq r.serial s.serial) e in (grind (arith, both.0), grind (arith, both.1))

same_alike : (r s x : Row) → are_alike r s ≡ true → are_alike s x ≡ are_alike r x
same_alike r s x e = let both = alike_is r s e in rw (both.0, both.1) refl

all_alike : (r s : Row) (rows : List Row) → are_alike r s ≡ true → list_all (are_alike s) rows ≡ list_all (are_alike r) rows
all_alike r s [] e = refl
all_alike r s (x ∷ rows) e = rw (same_alike r s x e, all_alike r s rows e) refl

batch_is : (a b m n : ℤ) → a ≡ b → m ≡ n → ◌≡◌ {A = BatchRow} (record { first = a; count = m }) (record { first = b; count = n })
batch_is a b m n p q = rw (p, q) refl

-- a run that stands in front begins with the first row
no_run : (run rest : List Row) → IsRun run → ¬ ([] ≡ run ++ rest)
no_run [] rest h e = h
no_run (x ∷ run) rest h e = absurd (cc)

pub record Front (s : Row) (rows run rest : List Row) : Type 0 where
  pub tail : List Row
  pub is : run ≡ s ∷ tail
  pub rows_is : rows ≡ tail ++ rest

front_of : (s : Row) (rows run rest : List Row) → IsRun run → s ∷ rows ≡ run ++ rest → Front s rows run rest
front_of s rows [] rest h e = absurd h
front_of s rows (x ∷ tail) rest h e = let same : x ≡ s = cc in let more : rows ≡ tail ++ rest = cc in record { tail = tail; is = ap (λ y. y ∷ tail) same; rows_is = more }

longer : (r s : Row) (run tail : List Row) → are_alike r s ≡ true → run ≡ s ∷ tail → IsRun run → IsRun (r ∷ run)
longer r s run tail like is h =
    let rest : list_all (are_alike s) tail ≡ true = rw is at h in
    let same = all_alike r s tail like in
    rw (is, like, ← same) rest

joins : (e : ℤ) (r s : Row) (rows : List Row) (b : BatchRow) (batches : List BatchRow) → r.id ≡ e → are_alike r s ≡ true → Covers (e +ℤ pos 1) (s ∷ rows) (b ∷ batches)
    → Covers e (r ∷ s ∷ rows) (record { first = r.id; count = b.count +ℤ pos 1 } ∷ batches)
joins e r s rows b batches id like c =
    let run = c.0 in
    let front = front_of s rows run c.1 c.3 c.2 in
    let more : length (r ∷ run) ≡ length run + 1 = omega arith in
    let count : b.count +ℤ pos 1 ≡ pos (length (r ∷ run)) = ap (λ (x : BatchRow). x.count +ℤ pos 1) c.4 ∙ omega (arith, ints, more) in
    let at : (e +ℤ pos 1) +ℤ pos (length run) ≡ e +ℤ pos (length (r ∷ run)) = omega (arith, ints, more) in
    (r ∷ run, c.1, ap (λ xs. r ∷ xs) c.2, longer r s run front.tail like front.is c.3, batch_is r.id e (b.count +ℤ pos 1) (pos (length (r ∷ run))) id count, subst (λ k. Covers k c.1 batches) at c.5)

-- a row in front of rows that are covered
covers_front : (e : ℤ) (r : Row) (rows : List Row) (batches : List BatchRow) → r.id ≡ e → Covers (e +ℤ pos 1) rows batches → Covers e (r ∷ rows) (begun_with r rows batches)
covers_front e r [] [] id c = (r ∷ [], [], refl, refl, ap (λ n. record { first = n; count = pos 1 }) id, refl)
covers_front e r (s ∷ rows) [] id c = absurd (cc)
covers_front e r [] (b ∷ batches) id c = absurd (no_run c.0 c.1 c.3 c.2)
covers_front e r (s ∷ rows) (b ∷ batches) id c = elim (cases_Bool (are_alike r s)) [
  | inl like ↦ rw like (joins e r s rows b batches id like c)
  | inr other ↦ rw other (r ∷ [], s ∷ rows, refl, refl, batch_is r.id e (pos 1) (pos 1) id refl, c)
]

pub runs_cover : (e : ℤ) (rows : List Row) → AreNumbered e rows → Covers e rows (runs_of rows)
runs_cover e [] num = refl
runs_cover e (r ∷ rows) num = covers_front e r rows (runs_of rows) num.0 (runs_cover (e +ℤ pos 1) rows num.1)
