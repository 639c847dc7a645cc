use Rattle.std.proofs.Common.{◌≡◌, ℤ, pos, ◌+ℤ◌, true, sym, ap, ◌∙◌, subst, arith, w64, to_z, of_z}
use Rattle.std.specs.Prelude.{IfSome, Ok}
use Rattle.std.specs.Int.Signed.{le_z}
use Rattle.std.proofs.lemmas.Int.{ints, to_z-of_z}
use Rattle.dns_keeper.specs.Batches.{batch_from}
use Rattle.dns_follow.specs.Scanning.{IsIdIn, IsNextEnd, end_before}
use Rattle.dns_follow.proofs.FedReads.{if_told, both_told, carried}
use Rattle.dns_follow.proofs.MarkedRows.{last_end, next_end}
use Rattle.dns_follow.proofs.marking.end_of.Goals as goal

pub returns-then-last-row-clause-ok : goal.returns-then-last-row-clause-ok
returns-then-last-row-clause-ok g c =
    let told = g.K.Keeper.keeper.told c.args.keeper.now in
    let id = c.args.row.now.id in
    let last = c.args.last in
    let high : le_z last id ≡ true = grind (arith, ints, c.if-last-row.true) in
    subst (λ (z : ℤ). IfSome told.rows (λ all. IsNextEnd told.batches id z)) (sym (to_z-of_z w64 last c.ranges.last))
    (if_told told.rows (λ l within. last_end id last told.batches l within high) c.requires.within)

pub returns-clause-ok : goal.returns-clause-ok
returns-clause-ok g c =
    let keeper = g.K.Keeper.keeper in
    let told = keeper.told c.find_batch.new.keeper in
    let id = c.args.row.now.id in
    let last = c.args.last in
    let found = c.in_ok-found.found in
    let end = c.end_before.result in
    let next : to_z w64 (of_z w64 (to_z w64 (of_z w64 id) +ℤ pos 1)) ≡ id +ℤ pos 1 = omega (arith, ints) in
    let within : IfSome told.rows (IsIdIn id last told.batches) =
    carried keeper (λ bs l. IsIdIn id last bs l) c.args.keeper.now c.find_batch.new.keeper (Ok found) c.in_ok-found.ensures.reads c.requires.within in
    let same : to_z w64 (of_z w64 end) ≡ end = omega (arith, ints) in
    let end_is : end ≡ end_before found id last =
    c.end_before.ensures ∙ ap (λ (z : ℤ). end_before found z (to_z w64 (of_z w64 last))) (omega (arith, ints)) ∙ ap (end_before found id) (omega (arith, ints)) in
    subst (λ (z : ℤ). IfSome told.rows (λ all. IsNextEnd told.batches id z)) (sym same)
    (both_told told.rows (λ l at is. next_end id last told.batches l found end at (is ∙ ap (λ (z : ℤ). batch_from z told.batches) next) end_is) within c.in_ok-found.ensures.ok)
