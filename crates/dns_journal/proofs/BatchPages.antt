-- What a page of batches holds when it is made, when a batch is taken, and when its first batch is passed.
use Rattle.std.proofs.Common.{◌≡◌, ◌+ℤ◌, ◌≤ℤ◌, ◌<ℤ◌, ℤ, pos, List, [], ◌∷◌, ◌++◌, Option, Some, None, IfSome, IfNone, true, false, inl, inr, refl, sym, ap, subst, ◌∙◌, arith}
use Rattle.std.specs.Int.Signed.{le_z}
use Rattle.std.proofs.lemmas.Int.{ints}
use Rattle.std.proofs.lemmas.Bool.{cases_Bool}
use Rattle.std.proofs.lemmas.Bool.Decides.{nat_tests}
use Rattle.sqlite.specs.Order.{Row as Shown}
use Rattle.sqlite.specs.State.{State, HasCleanDisk}
use Rattle.dns_keeper.specs.declared.batch_row.BatchRow.{BatchRow}
use Rattle.dns_keeper.specs.Batches.{first_batch, batch_from}
use Rattle.dns_keeper.proofs.Ascends.{AscendAbove, ascends}
use Rattle.dns_sqlite.specs.Reads.{batches_from, AreBatchesIn}
use Rattle.dns_journal.specs.BatchPages.{batches_left, IsBatchIn, HoldsAhead, HoldsBatches, HoldsBatchesOf, IsBatchStoredIn}
use Rattle.dns_journal.specs.declared.batch_page.BatchPage.{BatchPage}

-- ---- batches from an id on

pub first_is : (id : ℤ) (batches : List BatchRow) → batch_from id batches ≡ first_batch (batches_from id batches)
first_is id [] = refl
first_is id (b ∷ batches) = elim (cases_Bool (le_z id b.first)) [ inl there ↦ rw there refl | inr away ↦ rw away (first_is id batches) ]

-- those from a greater id on are those of them from there on
from_from : (low id : ℤ) (batches : List BatchRow) → low ≤ℤ id → batches_from id (batches_from low batches) ≡ batches_from id batches
from_from low id [] le = refl
from_from low id (b ∷ batches) le = elim (cases_Bool (le_z low b.first)) [
  | inl there ↦ rw there refl
  | inr away ↦
      let less : le_z id b.first ≡ false = grind (arith, ints, nat_tests, le) in
      rw (away, less) (from_from low id batches le)
]

-- the first of them is not below the id
not_below : (id : ℤ) (batches more : List BatchRow) (b : BatchRow) → batches_from id batches ≡ b ∷ more → id ≤ℤ b.first
not_below id [] more b is = absurd (cc)
not_below id (c ∷ batches) more b is = elim (cases_Bool (le_z id c.first)) [
  | inl there ↦
      let it : c ∷ batches ≡ b ∷ more = rw there at is in
      let same : c.first ≡ b.first = cc in
      let le : id ≤ℤ c.first = grind (arith, ints, nat_tests) in
      subst (λ n. id ≤ℤ n) same le
  | inr away ↦ let it : batches_from id batches ≡ b ∷ more = rw away at is in not_below id batches more b it
]

from_ascends : (id low : ℤ) (batches : List BatchRow) → AscendAbove low batches → (above : ℤ) × AscendAbove above (batches_from id batches)
from_ascends id low [] up = (low, tt)
from_ascends id low (b ∷ batches) up = elim (cases_Bool (le_z id b.first)) [
  | inl there ↦ rw there (low, up)
  | inr away ↦ rw away (from_ascends id b.first batches up.1)
]

-- behind the first of them stand those from the id after its own on
behind_first : (low : ℤ) (b c : BatchRow) (more : List BatchRow) → AscendAbove low (b ∷ c ∷ more) → batches_from (b.first +ℤ pos 1) (b ∷ c ∷ more) ≡ c ∷ more
behind_first low b c more up =
    let one : le_z (b.first +ℤ pos 1) b.first ≡ false = grind (arith, ints, nat_tests) in
    let two : le_z (b.first +ℤ pos 1) c.first ≡ true = grind (arith, ints, nat_tests, up.1.0) in
    rw (one, two) refl

-- ---- a page

-- the first batch of a page is the one that is asked for, where the page goes on from an id that is not above this one, and the batch is not below it
pub taken_is : (next id : ℤ) (table : List Shown) (b : BatchRow) (rest : List BatchRow) → next ≤ℤ id → id ≤ℤ b.first → HoldsAhead next table (b ∷ rest) → IsBatchIn id table (Some b)
taken_is next id table b rest low high holds batches up is =
    let front = holds batches up is in
    let all : batches_from id batches ≡ batches_from id (b ∷ rest ++ front.0) = sym (from_from next id batches low) ∙ ap (batches_from id) front.1 in
    let at : le_z id b.first ≡ true = grind (arith, ints, nat_tests, high) in
    let it : batches_from id (b ∷ rest ++ front.0) ≡ b ∷ rest ++ front.0 = rw at refl in
    sym (first_is id batches ∙ ap first_batch (all ∙ it))

-- A page goes on behind its first batch.
pub passed_is : (next : ℤ) (table : List Shown) (b : BatchRow) (rest : List BatchRow) → HoldsAhead next table (b ∷ rest) → HoldsAhead (b.first +ℤ pos 1) table rest
passed_is next table b [] holds = tt
passed_is next table b (c ∷ rest) holds = λ batches up is.
    let front = holds batches up is in
    let low = ascends batches up in
    let above = from_ascends next low.0 batches low.1 in
    let there = not_below next batches (c ∷ rest ++ front.0) b front.1 in
    let all : batches_from (b.first +ℤ pos 1) batches ≡ batches_from (b.first +ℤ pos 1) (b ∷ c ∷ rest ++ front.0) =
    sym (from_from next (b.first +ℤ pos 1) batches (omega (arith, ints, there))) ∙ ap (batches_from (b.first +ℤ pos 1)) front.1 in
    (front.0, all ∙ behind_first above.0 b c (rest ++ front.0) (subst (AscendAbove above.0) front.1 above.1))

-- where none were read there is none
pub none_is : (id : ℤ) (table : List Shown) → AreBatchesIn id table [] → IsBatchIn id table None
none_is id table read batches up is = sym (first_is id batches ∙ ap first_batch (read batches up is))

-- what was read from an id on begins with no batch below it
pub no_lower : (id : ℤ) (table : List Shown) (b : BatchRow) (rest : List BatchRow) → b.first <ℤ id → AreBatchesIn id table (b ∷ rest) → IsBatchIn id table None
no_lower id table b rest lower read batches up is =
    let front = read batches up is in
    let there = not_below id batches (rest ++ front.0) b front.1 in
    absurd (omega (arith, ints, there, lower))

-- The batches that were read make a page.
pub opened_batches : (id : ℤ) (table : List Shown) (batches : List BatchRow) → AreBatchesIn id table batches → HoldsAhead id table batches
opened_batches id table [] read = tt
opened_batches id table (b ∷ batches) read = read

pub holds_no_batch : (page : BatchPage) (table : List Shown) → batches_left page ≡ [] → HoldsBatches page table
holds_no_batch page table none = subst (HoldsAhead page.next table) (sym none) tt

-- what was read is the page
pub opens_batches : (page : BatchPage) (id : ℤ) (table : List Shown) (batches : List BatchRow) → batches_left page ≡ batches → page.next ≡ id → AreBatchesIn id table batches → HoldsBatches page table
opens_batches page id table batches left next read =
    let it : HoldsAhead id table batches = opened_batches id table batches read in
    subst (λ n. HoldsAhead n table (batches_left page)) (sym next) (subst (HoldsAhead id table) (sym left) it)

-- the first of what was read, or none where there is none
pub begins_with : (page : BatchPage) (id : ℤ) (s : State) (batches : List BatchRow) (found : Option BatchRow) → batches_left page ≡ batches → page.next ≡ id
    → (HasCleanDisk s → AreBatchesIn id (s.now.trees 2) batches) → IfSome found (λ batch. (table : List Shown) → HoldsBatches page table → IsBatchIn id table (Some batch))
    → IfNone found (page.next ≡ id → (table : List Shown) → AreBatchesIn id table (batches_left page) → IsBatchIn id table None) → IsBatchStoredIn id s found
begins_with page id s batches None left next read some none clean = none next (s.now.trees 2) (subst (AreBatchesIn id (s.now.trees 2)) (sym left) (read clean))
begins_with page id s batches (Some batch) left next read some none clean = some (s.now.trees 2) (opens_batches page id (s.now.trees 2) batches left next (read clean))

-- a batch that a page goes on with is the one of the connection
pub stored_if : (page : BatchPage) (id : ℤ) (s : State) (found : Option BatchRow) → HoldsBatchesOf page s → IfSome found (λ batch. (table : List Shown) → HoldsBatches page table → IsBatchIn id table (Some batch))
    → IfSome found (λ batch. IsBatchStoredIn id s (Some batch))
stored_if page id s None holds some = tt
stored_if page id s (Some batch) holds some = λ clean. some (s.now.trees 2) (holds clean)
