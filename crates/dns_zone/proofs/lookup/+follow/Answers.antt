use Rattle.std.proofs.Common.{◌≡◌, ◌∙◌, sym, ap, List, Some}
use Rattle.dns_wire.specs.declared.question.Question.{Question}
use Rattle.dns_wire.specs.declared.record.Record.{Record}
use Rattle.dns_zone.specs.declared.look.Look.TheVariants.{Alias}
use Rattle.dns_zone.specs.Lookup.{asked_along, next_look}
use Rattle.dns_zone.proofs.Aliases.{chain_next}
use Rattle.dns_zone.proofs.lookup.+follow.Goals as goal

pub returns-in_ok-follow-in-Some-Alias-clause-is : goal.returns-in_ok-follow-in-Some-Alias-clause-is
returns-in_ok-follow-in-Some-Alias-clause-is t c =
    let found : next_look c.args.more c.args.zone.now c.args.question.now.qtype (asked_along c.args.question.now.name c.args.aliases.items) c.args.last ≡ Some (Alias c.in-Some-Alias.next) =
    sym (ap (λ (q : Question). next_look c.args.more c.args.zone.now q.qtype (asked_along q.name c.args.aliases.items) c.args.last) c.question.view_is)
    ∙ sym (ap (λ (rs : List Record). next_look c.args.more c.args.zone.now c.question.inside.qtype (asked_along c.question.inside.name rs) c.args.last) c.deref.ensures.value)
    ∙ sym c.in_ok-next_look.ensures ∙ c.in-Some-Alias.is ∙ ap Some c.in-Some-Alias.field-0-is in
    let k = c.follow.new.answer in
    chain_next c.args.more c.args.zone.now c.args.question.now.qtype c.args.question.now.name c.args.aliases.items c.args.last c.in-Some-Alias.next (record { code = k.code; answers = k.answers; authority = k.authority }) found
    (rw c.in_ok-push-in-Some-Alias.ensures.items at c.in_ok-follow-in-Some-Alias.ensures.is)
