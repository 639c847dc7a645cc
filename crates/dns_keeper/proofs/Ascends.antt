-- Batches by ascending first, each above the one before it.
use Rattle.std.proofs.Common.{◌≡◌, ◌<ℤ◌, ◌-ℤ◌, ℤ, pos, List, [], ◌∷◌, true, false, refl, arith}
use Rattle.std.specs.Int.Signed.{le_z}
use Rattle.std.proofs.lemmas.Int.{ints}
use Rattle.std.proofs.lemmas.Bool.Decides.{nat_tests}
use Rattle.dns_keeper.specs.declared.batch_row.BatchRow.{BatchRow}
use Rattle.dns_keeper.specs.Batches.{is_below_batches, AreByFirst}
use Rattle.dns_keeper.proofs.Putting.{parts_of, begins_above}

-- firsts that ascend, all above this one
abbrev pub AscendAbove : ℤ → List BatchRow → Type 0
AscendAbove low [] = Unit {0}
AscendAbove low (b ∷ batches) = (low <ℤ b.first) × AscendAbove b.first batches

less : (low first : ℤ) → le_z first low ≡ false → low <ℤ first
less low first e = grind (arith, ints, nat_tests)

pub ascends_above : (low : ℤ) (batches : List BatchRow) → is_below_batches low batches ≡ true → AreByFirst batches → AscendAbove low batches
ascends_above low [] below up = tt
ascends_above low (b ∷ batches) below up =
    let parts = parts_of b batches up in
    (less low b.first (begins_above low b batches below), ascends_above b.first batches parts.0 parts.1)

one_less : (n : ℤ) → (n -ℤ pos 1) <ℤ n
one_less n = omega (arith, ints)

pub ascends : (batches : List BatchRow) → AreByFirst batches → (low : ℤ) × AscendAbove low batches
ascends [] up = (pos 0, tt)
ascends (b ∷ batches) up = let parts = parts_of b batches up in (b.first -ℤ pos 1, (one_less b.first, ascends_above b.first batches parts.0 parts.1))

-- ---- and the other way round

not_above : (low first : ℤ) → low <ℤ first → le_z first low ≡ false
not_above low first e = grind (arith, ints, nat_tests)

pub above_by_first : (low : ℤ) (batches : List BatchRow) → AscendAbove low batches → (is_below_batches low batches ≡ true) × AreByFirst batches
above_by_first low [] up = (refl, refl)
above_by_first low (b ∷ batches) up =
    let more = above_by_first b.first batches up.1 in
    (rw (not_above low b.first up.0) refl, rw more.0 more.1)
