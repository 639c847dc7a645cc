use Rattle.std.proofs.Common.{◌≡◌, Ok, Err, OnOk, ap, sym, subst, ◌∙◌}
use Rattle.dns_presentation.specs.declared.entry.Entry.TheVariants as entry
use Rattle.dns_presentation.specs.Entries.{entry_of, context_after}
use Rattle.dns_zone.specs.Contexts.{IsSound}
use Rattle.dns_zone.proofs.Placing.{IsEntry-read}
use Rattle.dns_zone.proofs.Entering.{IsEntered-entry_of, IsSound-after}
use Rattle.dns_zone.proofs.zone_text.take_line.Goals as goal

pub place-requires-clause-entry : goal.place-requires-clause-entry
place-requires-clause-entry c =
    let is : entry_of c.args.context.now c.args.line.now ≡ Ok (entry.Record c.in-Record.one c.in-Record._stated) = c.in-Ok.ensures ∙ ap Ok c.in-Record.is in
    let said = IsEntered-entry_of c.args.context.now c.args.line.now (entry.Record c.in-Record.one c.in-Record._stated) c.requires.sound is in
    IsEntry-read c.args.map.now.origin c.in-Record.one said.0

pub returns-in-Origin-clause-sound : goal.returns-in-Origin-clause-sound
returns-in-Origin-clause-sound c =
    let said = IsEntered-entry_of c.args.context.now c.args.line.now c.in-Ok.entry c.requires.sound c.in-Ok.ensures in
    let after : c.pass.new.self ≡ context_after c.args.context.now c.in-Ok.entry = c.in_ok-pass-in-Ok.ensures in
    subst IsSound (sym after) (IsSound-after c.args.context.now c.in-Ok.entry c.requires.sound said)

pub returns-in-Record-clause-sound : goal.returns-in-Record-clause-sound
returns-in-Record-clause-sound c =
    let said = IsEntered-entry_of c.args.context.now c.args.line.now c.in-Ok.entry c.requires.sound c.in-Ok.ensures in
    let after : c.pass.new.self ≡ context_after c.args.context.now c.in-Ok.entry = c.in_ok-pass-in-Ok.ensures in
    let sound = subst IsSound (sym after) (IsSound-after c.args.context.now c.in-Ok.entry c.requires.sound said) in
    elim c.place.result as (λ result. OnOk result (IsSound c.pass.new.self)) [
      | Ok x ↦ sound
      | Err wrong ↦ tt
    ]
