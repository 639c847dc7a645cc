use Rattle.std.proofs.Common.{ap}
use Rattle.std.specs.Prelude.{not}
use Rattle.dns_update.proofs.Changed.{ignored_changes, added_changes, any_changes, none_changes}
use Rattle.dns_update.proofs.changing.makes_change.Goals as goal

pub returns-then-not-is_ignored : goal.returns-then-not-is_ignored
returns-then-not-is_ignored c =
    let z = c.args.map.now in
    added_changes z.origin z.records c.args.one.now c.is_ignored.result c.has_record.result c.requires.zone.distinct c.if-one-eq-IN.true c.is_ignored.ensures (ap not c.if-not-is_ignored.true) c.has_record.ensures

pub returns-else-not-is_ignored : goal.returns-else-not-is_ignored
returns-else-not-is_ignored c =
    let z = c.args.map.now in
    ignored_changes z.origin z.records c.args.one.now c.is_ignored.result c.requires.zone.distinct c.if-one-eq-IN.true c.is_ignored.ensures (ap not c.if-not-is_ignored.false)

pub returns-then-one-eq-ANY : goal.returns-then-one-eq-ANY
returns-then-one-eq-ANY c =
    let z = c.args.map.now in
    any_changes z.origin z.records c.args.one.now c.takes_by_any.result c.if-one-eq-ANY.true c.takes_by_any.ensures

pub returns : goal.returns
returns c =
    let z = c.args.map.now in
    none_changes z.origin z.records c.args.one.now c.takes_by_none.result c.if-one-eq-IN.false c.if-one-eq-ANY.false c.takes_by_none.ensures
