use Rattle.std.proofs.Common.{◌≡◌, ◌+ℤ◌, ◌-ℤ◌, ℤ, pos, nat_le, Option, Some, Ok, true, refl, sym, ◌∙◌, subst, arith, of_z, to_z, w64}
use Rattle.std.specs.Prelude.{IfSome}
use Rattle.std.specs.Ordering.{int_eq}
use Rattle.std.proofs.lemmas.Int.{ints}
use Rattle.std.proofs.lemmas.Bool.Decides.{Decides-int_eq}
use Rattle.std.proofs.lemmas.Result.{err_from_is_err_and}
use Rattle.dns_keeper.specs.declared.row.Row.{Row}
use Rattle.dns_follow.specs.Feeding.{out_of_place}
use Rattle.dns_follow.specs.Scanning.{IsScannedUpTo}
use Rattle.dns_follow.proofs.FedReads.{told_back, reads_on, reads_as_well, reads_wanting}
use Rattle.dns_follow.proofs.ScannedRows.{scan_goes_on, scan_strays, scan_ends}
use Rattle.dns_follow.proofs.scanning.scan.Goals as goal

pub returns-then-not-stands_at-clause-err : goal.returns-then-not-stands_at-clause-err
returns-then-not-stands_at-clause-err g c =
    let was = c.loop-place in
    let keeper = g.K.Keeper.keeper in
    let told = keeper.told was.keeper in
    let place = was.place in
    let same : to_z w64 place ≡ pos place = omega (arith, ints) in
    let read = subst (λ (next : Option Row). IsScannedUpTo c.args.from was.runs was.rows.items was.unfit place next told.rows) c.in-Some.is was.invariant.read in
    let strays : IfSome told.rows (λ rows. out_of_place rows told.batches ≡ Some (to_z w64 place)) =
    subst (λ (z : ℤ). IfSome told.rows (λ rows. out_of_place rows told.batches ≡ Some z)) (sym same)
    (scan_strays c.args.from was.runs was.rows.items was.unfit place c.in-Some.row told read (sym c.stands_at.ensures ∙ c.if-not-stands_at.true)) in
    told_back keeper (λ bs l. out_of_place l bs ≡ Some (to_z w64 place)) c.args.keeper.now was.keeper (Ok tt) was.invariant.reads strays

pub loop-place-preserved : goal.loop-place-preserved
loop-place-preserved g c =
    let was = c.loop-place in
    let keeper = g.K.Keeper.keeper in
    let told = keeper.told was.keeper in
    let place = was.place in
    let row = c.in-Some.row in
    let found = c.in_ok-next-2.next in
    let now = c.read_behind.new.keeper in
    let read = subst (λ (next : Option Row). IsScannedUpTo c.args.from was.runs was.rows.items was.unfit place next told.rows) c.in-Some.is was.invariant.read in
    let test : int_eq row.id (pos place) ≡ true = sym c.stands_at.ensures ∙ c.if-not-stands_at.false in
    let id : row.id ≡ pos place = (Decides-int_eq row.id (pos place)).0 test in
    record {
      read = scan_goes_on c.args.from was.runs c.count_row.new.self was.rows.items c.keep_row.new.rows.items was.unfit c.first_unfit-unfit.result place (nat_le c.args.from place) row found told.rows (keeper.told now).rows
          c.requires.from read c.read_behind.ensures.reads.kept id c.in_ok-count_row.ensures c.first_unfit-unfit.ensures refl c.in_ok-keep_row.ensures c.in_ok-next-2.ensures.found;
      reads = reads_on keeper c.args.keeper.now was.keeper now tt (Ok tt) was.invariant.reads
          (reads_as_well keeper was.keeper now found tt c.in_ok-next-2.ensures.reads);
    }

pub returns-in_err-count_row-clause-reads : goal.returns-in_err-count_row-clause-reads
returns-in_err-count_row-clause-reads g c =
    let was = c.loop-place in
    let keeper = g.K.Keeper.keeper in
    let now = c.read_behind.new.keeper in
    let found = c.in_ok-next-2.next in
    let p = err_from_is_err_and c.from_residual-in_err-count_row.result c.from_residual-in_err-count_row.ensures.1 in
    rw (p.1, p.2)
    (reads_wanting keeper c.args.keeper.now now found (reads_on keeper c.args.keeper.now was.keeper now tt (Ok found) was.invariant.reads c.in_ok-next-2.ensures.reads))

pub returns-in_err-keep_row-clause-reads : goal.returns-in_err-keep_row-clause-reads
returns-in_err-keep_row-clause-reads g c =
    let was = c.loop-place in
    let keeper = g.K.Keeper.keeper in
    let now = c.read_behind.new.keeper in
    let found = c.in_ok-next-2.next in
    let p = err_from_is_err_and c.from_residual-in_err-keep_row.result c.from_residual-in_err-keep_row.ensures.1 in
    rw (p.1, p.2)
    (reads_wanting keeper c.args.keeper.now now found (reads_on keeper c.args.keeper.now was.keeper now tt (Ok found) was.invariant.reads c.in_ok-next-2.ensures.reads))

pub returns-in_default-clause-ok : goal.returns-in_default-clause-ok
returns-in_default-clause-ok g c =
    let was = c.loop-place in
    let told = g.K.Keeper.keeper.told was.keeper in
    let read = subst (λ (next : Option Row). IsScannedUpTo c.args.from was.runs was.rows.items was.unfit was.place next told.rows) c.in_default.is was.invariant.read in
    let last = to_z w64 (of_z w64 (to_z w64 was.place -ℤ pos 1)) in
    let is : last +ℤ pos 1 ≡ pos was.place = omega (arith, ints) in
    scan_ends c.args.from was.runs was.rows.items was.unfit was.place last told.rows read is
