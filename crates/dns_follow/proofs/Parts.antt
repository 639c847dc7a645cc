-- Batches that cover rows, by numbers: each takes so many rows from the front, which are of one client and one serial.
use Rattle.std.proofs.Common.{◌≡◌, ℕ, ℤ, pos, ◌+ℤ◌, ◌+◌, ◌<◌, ◌≤◌, List, [], ◌∷◌, ◌++◌, length, take, drop, Bool, true, false, refl, sym, ap, ◌∙◌, subst, arith}
use Rattle.std.specs.Prelude.{◌&&◌}
use Rattle.std.specs.Ordering.{int_eq}
use Rattle.std.specs.List.{All, list_all}
use Rattle.std.proofs.lemmas.Int.{ints}
use Rattle.std.proofs.lemmas.List.{length-append, take_at, drop_at}
use Rattle.std.proofs.lemmas.List.Elements.{All-nil, All-cons}
use Rattle.std.proofs.lemmas.Bool.Decides.{Decides-int_eq}
use Rattle.dns_keeper.specs.declared.row.Row.{Row}
use Rattle.dns_keeper.specs.declared.batch_row.BatchRow.{BatchRow}
use Rattle.dns_keeper.specs.Batches.{are_alike, IsRun, AreNumbered, Covers}

-- ids count up from this one
abbrev pub NumberedFrom : ℕ → List Row → Type 0
NumberedFrom id [] = Unit {0}
NumberedFrom id (row ∷ rows) = (row.id ≡ pos id) × NumberedFrom (id + 1) rows

-- all rows are of one client and one serial
abbrev pub AreOneBatch : List Row → Type 0
AreOneBatch rows = (client : ℤ) × (serial : ℤ) × All (λ row. (row.client ≡ client) × (row.serial ≡ serial)) rows

-- the batches part the rows from this id on: each begins where the one before ended
abbrev pub Parts : ℕ → List Row → List BatchRow → Type 0
Parts id rows [] = rows ≡ []
Parts id rows (b ∷ batches) =
    (count : ℕ) × (b.first ≡ pos id) × (b.count ≡ pos count) × (0 < count) × (count ≤ length rows) × AreOneBatch (take count rows)
    × Parts (id + count) (drop count rows) batches

pub numbered_by : (n : ℕ) (rows : List Row) → AreNumbered (pos n) rows → NumberedFrom n rows
numbered_by n [] h = tt
numbered_by n (row ∷ rows) h =
    let next : pos n +ℤ pos 1 ≡ pos (n + 1) = omega (arith, ints) in
    (h.0, numbered_by (n + 1) rows (subst (λ (z : ℤ). AreNumbered z rows) next h.1))

both : (p q : Bool) → (p && q) ≡ true → (p ≡ true) × (q ≡ true)
both true q e = (refl, e)
both false q e = absurd cc

alike_all : (r : Row) (rows : List Row) → list_all (are_alike r) rows ≡ true → All (λ row. (row.client ≡ r.client) × (row.serial ≡ r.serial)) rows
alike_all r [] h = All-nil (λ row. (row.client ≡ r.client) × (row.serial ≡ r.serial))
alike_all r (s ∷ rows) h =
    let tests = both (are_alike r s) (list_all (are_alike r) rows) h in
    let same = both (int_eq r.client s.client) (int_eq r.serial s.serial) tests.0 in
    All-cons (λ row. (row.client ≡ r.client) × (row.serial ≡ r.serial)) s rows
    (sym ((Decides-int_eq r.client s.client).0 same.0), sym ((Decides-int_eq r.serial s.serial).0 same.1))
    (alike_all r rows tests.1)

one_batch : (run : List Row) → IsRun run → AreOneBatch run
one_batch [] h = absurd h
one_batch (r ∷ rows) h =
    (r.client, r.serial, All-cons (λ row. (row.client ≡ r.client) × (row.serial ≡ r.serial)) r rows (refl, refl) (alike_all r rows h))

some_run : (run : List Row) → IsRun run → 0 < length run
some_run [] h = absurd h
some_run (r ∷ rows) h = omega arith

pub parts_by : (n : ℕ) (rows : List Row) (batches : List BatchRow) → Covers (pos n) rows batches → Parts n rows batches
parts_by n rows [] h = h
parts_by n rows (b ∷ batches) h =
    let run = h.0 in
    let rest = h.1 in
    let is : rows ≡ run ++ rest = h.2 in
    let front : take (length run) rows ≡ run = ap (λ (l : List Row). take (length run) l) is ∙ take_at run rest (length run) refl in
    let behind : drop (length run) rows ≡ rest = ap (λ (l : List Row). drop (length run) l) is ∙ drop_at run rest (length run) refl in
    let size : length rows ≡ length run + length rest = ap length is ∙ length-append run rest in
    let next : pos n +ℤ pos (length run) ≡ pos (n + length run) = omega (arith, ints) in (
      length run,
      ap (λ (x : BatchRow). x.first) h.4,
      ap (λ (x : BatchRow). x.count) h.4,
      some_run run h.3,
      omega arith,
      subst AreOneBatch (sym front) (one_batch run h.3),
      subst (λ (l : List Row). Parts (n + length run) l batches) (sym behind)
          (parts_by (n + length run) rest batches (subst (λ (z : ℤ). Covers z rest batches) next h.5)),
    )
