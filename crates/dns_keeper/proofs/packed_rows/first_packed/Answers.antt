use Rattle.std.proofs.Common.{◌≡◌, ◌+◌, ◌++◌, drop, Some, None, sym, ap, ◌∙◌}
use Rattle.std.specs.Int.{w64}
use Rattle.std.proofs.lemmas.Int.{to_z-of_z}
use Rattle.dns_keeper.specs.Packed.{joined, IsFound}
use Rattle.dns_keeper.proofs.Packing.{found_further, found_here, joined_from}
use Rattle.dns_keeper.proofs.packed_rows.first_packed.Goals as goal

pub returns-in-Some : goal.returns-in-Some
returns-in-Some c =
    let lists = c.args.packed.now in
    let at = c.loop-rows.rows-index in
    let left : joined (drop at lists) ≡ c.rows-item.result ++ joined (drop (at + 1) lists) =
    joined_from lists at c.rows-item.result c.loop-rows-test.true ∙ ap (λ rows. rows ++ joined (drop (at + 1) lists)) (sym c.rows-item.is) in
    let here : IsFound c.args.id c.rows-item.result (Some c.in-Some.row) = rw (to_z-of_z w64 c.args.id c.ranges.id, c.in-Some.is) at c.in_ok-row.ensures in
    (rw (to_z-of_z w64 c.args.id c.ranges.id) at c.loop-rows.invariant) (Some c.in-Some.row)
    (rw left (found_here c.args.id c.rows-item.result (joined (drop (at + 1) lists)) c.in-Some.row here))

pub loop-rows-preserved : goal.loop-rows-preserved
loop-rows-preserved c = λ found further.
    let lists = c.args.packed.now in
    let at = c.loop-rows.rows-index in
    let fits = to_z-of_z w64 c.args.id c.ranges.id in
    let left : joined (drop at lists) ≡ c.rows-item.result ++ joined (drop (at + 1) lists) =
    joined_from lists at c.rows-item.result c.loop-rows-test.true ∙ ap (λ rows. rows ++ joined (drop (at + 1) lists)) (sym c.rows-item.is) in
    let none : IsFound c.args.id c.rows-item.result None = rw (fits, c.in_default.is) at c.in_ok-row.ensures in
    let rest : IsFound c.args.id (joined (drop (at + 1) lists)) found = rw fits at further in
    rw fits ((rw fits at c.loop-rows.invariant) found (rw left (found_further c.args.id c.rows-item.result (joined (drop (at + 1) lists)) found none rest)))
