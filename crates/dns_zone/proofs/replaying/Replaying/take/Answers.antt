use Rattle.std.proofs.Common.{◌∙◌, ◌∷◌, [], ap, subst, List, Ok, sym}
use Rattle.dns_wire.specs.declared.record.Record.{Record}
use Rattle.dns_keeper.specs.declared.row.Row.{Row}
use Rattle.dns_update.specs.Replay.{RunsTo}
use Rattle.dns_zone.specs.Replayed.{Replayed}
use Rattle.dns_zone.specs.Replaying.{TellsEnd}
use Rattle.dns_zone.proofs.TakenRows.{more_taken, tells_there}
use Rattle.dns_zone.proofs.replaying.Replaying.take.Goals as goal

pub returns-in-Err-clause-fault : goal.returns-in-Err-clause-fault
returns-in-Err-clause-fault c =
    let place = c.place-place in
    tells_there c.args.self.now place.result c.args.row.now c.in-Err.fault (λ n last. place.ensures n last)
    (subst (λ (s : Replayed). TellsEnd (λ end. (more : List Row) → RunsTo s.origin place.result s.records (c.args.row.now ∷ more) end) c.in-Err.fault) c.self.view_is c.in-Err.ensures.fault)

pub returns-in-Ok-clause-taken : goal.returns-in-Ok-clause-taken
returns-in-Ok-clause-taken c = λ rows h.
    let place = c.place-place in
    let runs : RunsTo c.args.self.now.origin place.result c.args.self.now.records (c.args.row.now ∷ []) (Ok c.take_row.new.map.records) =
    subst (λ (s : Replayed). RunsTo s.origin place.result s.records (c.args.row.now ∷ []) (Ok c.take_row.new.map.records)) c.self.view_is c.in-Ok.ensures.taken in
    more_taken c.args.self.now place.result rows c.args.row.now h (place.ensures _ h.last) c.pass.new.self
    (c.pass.ensures.origin ∙ c.take_row.ensures.origin ∙ ap (λ (s : Replayed). s.origin) c.self.view_is)
    (subst (λ (l : List Record). RunsTo c.args.self.now.origin place.result c.args.self.now.records (c.args.row.now ∷ []) (Ok l)) (sym c.pass.ensures.records) runs)
    c.pass.ensures.last
