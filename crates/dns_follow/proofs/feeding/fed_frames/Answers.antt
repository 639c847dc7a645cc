use Rattle.std.proofs.Common.{◌≡◌, ℤ, List, sym, ap, ◌∙◌, subst, arith, w64, to_z, of_z}
use Rattle.std.proofs.lemmas.Int.{ints}
use Rattle.std.proofs.lemmas.Result.{err_from_is_err_and}
use Rattle.dns_keeper.specs.declared.row.Row.{Row}
use Rattle.dns_follow.specs.declared.feed_fault.FeedFault.TheVariants as fault
use Rattle.dns_follow.specs.Feeding.{unfit, ReadsNoFed}
use Rattle.dns_follow.specs.Scanning.{IsScanned}
use Rattle.dns_follow.proofs.SentFeeds.{seen_runs, not_covered, not_fit, kept_fit, fed_all}
use Rattle.dns_follow.proofs.feeding.fed_frames.Goals as goal

pub look-requires : goal.look-requires
look-requires g c =
    let seen = c.in_ok-runs.field-0 in
    record { runs = seen_runs c.args.from seen.runs seen.rows.items seen.last seen.unfit (g.K.Keeper.keeper.told c.scan.new.keeper).rows c.in_ok-runs.ensures.ok }

pub returns-in_err-look-clause-err : goal.returns-in_err-look-clause-err
returns-in_err-look-clause-err g c =
    let keeper = g.K.Keeper.keeper in
    let seen = c.in_ok-runs.field-0 in
    let p = err_from_is_err_and c.from_residual-in_err-look.result c.from_residual-in_err-look.ensures.1 in
    rw (p.1, p.2)
    (not_covered keeper c.args.from seen.runs seen.rows.items seen.last seen.unfit c.args.keeper.now c.scan.new.keeper c.look.new.keeper seen c.in_ok-runs.ensures.reads c.in_ok-runs.ensures.ok
    c.in_err-look.field-0.0 c.in_err-look.ensures.reads c.in_err-look.ensures.err)

pub returns-in-Some-clause-err : goal.returns-in-Some-clause-err
returns-in-Some-clause-err g c =
    let keeper = g.K.Keeper.keeper in
    let seen = c.in_ok-runs.field-0 in
    let row = c.in-Some.row in
    let same : to_z w64 (of_z w64 row) ≡ row = omega (arith, ints) in
    subst (λ (z : ℤ). ReadsNoFed (keeper.told c.args.keeper.now) (keeper.told c.look.new.keeper) (fault.OutOfPlace z)) (sym same)
    (not_fit keeper c.args.from seen.runs seen.rows.items seen.last seen.unfit c.args.keeper.now c.scan.new.keeper c.look.new.keeper seen c.in_ok-runs.ensures.reads c.in_ok-runs.ensures.ok
    c.in_ok-look.ensures.reads c.in_ok-look.ensures.ok row c.in-Some.is)

pub marked-requires-clause-fit : goal.marked-requires-clause-fit
marked-requires-clause-fit g c =
    let keeper = g.K.Keeper.keeper in
    let seen = c.in_ok-runs.field-0 in
    let same : c.as_slice.result.now ≡ seen.rows.items = cc in
    ap unfit same
    ∙ kept_fit keeper c.args.from seen.runs seen.rows.items seen.last seen.unfit c.args.keeper.now c.scan.new.keeper c.look.new.keeper seen c.in_ok-runs.ensures.reads c.in_ok-runs.ensures.ok
    c.in_ok-look.ensures.reads c.in_ok-look.ensures.ok c.in_default.is

pub returns-clause-ok : goal.returns-clause-ok
returns-clause-ok g c =
    let keeper = g.K.Keeper.keeper in
    let seen = c.in_ok-runs.field-0 in
    let rows = c.as_slice.result.now in
    let same : rows ≡ seen.rows.items = cc in
    let all : IsScanned c.args.from seen.runs rows seen.last seen.unfit (keeper.told c.scan.new.keeper).rows =
    subst (λ (l : List Row). IsScanned c.args.from seen.runs l seen.last seen.unfit (keeper.told c.scan.new.keeper).rows) (sym same) c.in_ok-runs.ensures.ok in
    fed_all keeper c.args.from seen.runs rows seen.last seen.unfit c.args.keeper.now c.scan.new.keeper c.look.new.keeper seen c.in_ok-runs.ensures.reads all
    c.in_ok-look.ensures.reads c.in_ok-look.ensures.ok c.marked.new.keeper c.marked.result (λ frames. frames.items) c.in_default.is c.marked.ensures.reads c.marked.ensures.ok
