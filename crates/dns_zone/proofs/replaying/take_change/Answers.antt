use Rattle.std.proofs.Common.{refl, ◌∷◌, [], sym, subst, List, ℕ, Ok}
use Rattle.dns_wire.specs.declared.record.Record.{Record}
use Rattle.dns_keeper.specs.declared.row.Row.{Row}
use Rattle.dns_update.specs.declared.row_change.RowEffect.TheVariants.{Snapshot, Change, Refused}
use Rattle.dns_update.specs.Replay.{RunsTo, Does}
use Rattle.dns_zone.specs.Replaying.{TellsEnd}
use Rattle.dns_zone.proofs.replaying.take_change.Goals as goal

pub returns-in-Snapshot-clause-snapshot : goal.returns-in-Snapshot-clause-snapshot
returns-in-Snapshot-clause-snapshot c =
    let z = c.args.map.now in
    let does : Does z.origin c.args.place c.args.row.now Snapshot =
    subst (Does z.origin c.args.place c.args.row.now) c.in-Snapshot.is (subst (λ (o : List (List ℕ)). Does o c.args.place c.args.row.now c.in_ok-read_row.field-0) c.origin.ensures c.in_ok-read_row.ensures) in
    λ e. (refl, does z.records)

pub returns-in_ok-change-in-Change-clause-taken : goal.returns-in_ok-change-in-Change-clause-taken
returns-in_ok-change-in-Change-clause-taken c =
    let z = c.args.map.now in
    let does : Does z.origin c.args.place c.args.row.now (Change c.in-Change.one c.in-Change.serial) =
    subst (Does z.origin c.args.place c.args.row.now) c.in-Change.is (subst (λ (o : List (List ℕ)). Does o c.args.place c.args.row.now c.in_ok-read_row.field-0) c.origin.ensures c.in_ok-read_row.ensures) in
    λ e. subst (λ (l : List Record). RunsTo z.origin c.args.place z.records (c.args.row.now ∷ []) (Ok l)) (sym c.in_ok-change-in-Change.ensures.records) (does.1 z.records)

pub returns-in-Refused-clause-fault : goal.returns-in-Refused-clause-fault
returns-in-Refused-clause-fault c =
    let z = c.args.map.now in
    let does : Does z.origin c.args.place c.args.row.now (Refused c.in-Refused.kind) =
    subst (Does z.origin c.args.place c.args.row.now) c.in-Refused.is (subst (λ (o : List (List ℕ)). Does o c.args.place c.args.row.now c.in_ok-read_row.field-0) c.origin.ensures c.in_ok-read_row.ensures) in
    subst (TellsEnd (λ end. (more : List Row) → RunsTo z.origin c.args.place z.records (c.args.row.now ∷ more) end)) (sym c.refused.ensures) (λ more. does z.records more)
