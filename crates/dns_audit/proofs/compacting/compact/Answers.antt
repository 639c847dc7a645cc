use Rattle.dns_edges.specs.Edges.{around}
use Rattle.dns_store.proofs.Opened.{on_ok}
use Rattle.dns_audit.specs.Compacting.{Compacts, GetsZone}
use Rattle.dns_audit.proofs.Compacted.{compacts_to, leaves_in_append}
use Rattle.dns_audit.proofs.compacting.compact.Goals as goal

pub returns-clause-ok : goal.returns-clause-ok
returns-clause-ok g c =
    let keeper = g.K.Keeper.keeper in
    let into = g.L.Keeper.keeper in
    on_ok (GetsZone (into.told c.see_no_row.new.into) (into.told c.write_zone.new.into) c.in_ok-zone.zone c.args.moment)
    (Compacts c.args.origin.now c.args.moment (around keeper.told c.args.keeper.now c.whole_zone.new.keeper) (around into.told c.args.into.now c.write_zone.new.into)) c.write_zone.result
    (λ written gets. compacts_to keeper into c.args.origin.now c.args.moment written c.args.keeper.now c.whole_zone.new.keeper c.args.into.now c.see_no_row.new.into c.write_zone.new.into c.in_ok-zone.zone tt
    c.in_ok-see_no_row.ensures.reads c.in_ok-zone.ensures.reads c.in_ok-zone.ensures.ok gets)
    c.write_zone.ensures.ok

pub returns-clause-left_into : goal.returns-clause-left_into
returns-clause-left_into g c =
    leaves_in_append g.L.Keeper.keeper c.args.origin.now c.args.moment (g.K.Keeper.keeper.told c.whole_zone.new.keeper).rows c.args.into.now c.see_no_row.new.into c.write_zone.new.into c.in_ok-zone.zone tt
    c.in_ok-see_no_row.ensures.reads c.in_ok-zone.ensures.ok c.write_zone.ensures.left
