use Rattle.std.proofs.Common.{◌∙◌, ◌∷◌, [], ap, subst, List, Ok, sym}
use Rattle.dns_wire.specs.declared.record.Record.{Record}
use Rattle.dns_keeper.specs.declared.row.Row.{Row}
use Rattle.dns_update.specs.Replay.{RunsTo}
use Rattle.dns_zone.specs.Growing.{GrowingOf}
use Rattle.dns_zone.specs.Replaying.{TellsEnd}
use Rattle.dns_zone.proofs.TakenRows.{more_taken, tells_there}
use Rattle.dns_zone.proofs.growing.Growing.take.Goals as goal

pub returns-in-Err-clause-fault : goal.returns-in-Err-clause-fault
returns-in-Err-clause-fault c =
    let place = c.place-place in
    tells_there c.args.self.now.now place.result c.args.row.now c.in-Err.fault (λ n last. place.ensures n last)
    (subst (λ (s : GrowingOf). TellsEnd (λ end. (more : List Row) → RunsTo s.now.origin place.result s.now.records (c.args.row.now ∷ more) end) c.in-Err.fault) c.self.view_is c.in-Err.ensures.fault)

pub returns-in-Ok-clause-taken : goal.returns-in-Ok-clause-taken
returns-in-Ok-clause-taken c = λ e rows h.
    let place = c.place-place in
    let was = c.args.self.now.now in
    let runs : RunsTo was.origin place.result was.records (c.args.row.now ∷ []) (Ok c.take_change.new.map.records) =
    subst (λ (s : GrowingOf). RunsTo s.now.origin place.result s.now.records (c.args.row.now ∷ []) (Ok c.take_change.new.map.records)) c.self.view_is (c.in-Ok.ensures.taken e) in
    more_taken was place.result rows c.args.row.now h (place.ensures _ h.last) c.pass.new.self.now
    (c.pass.ensures.origin ∙ c.take_change.ensures.origin ∙ ap (λ (s : GrowingOf). s.now.origin) c.self.view_is)
    (subst (λ (l : List Record). RunsTo was.origin place.result was.records (c.args.row.now ∷ []) (Ok l)) (sym c.pass.ensures.records) runs)
    c.pass.ensures.last
