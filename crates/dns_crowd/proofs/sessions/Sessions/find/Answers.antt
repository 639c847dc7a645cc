-- One that is open stands among those that are.
use Rattle.std.proofs.Common.{◌∙◌, List, ap, subst, sym}
use Rattle.dns_server_core.specs.Connections.{Connection}
use Rattle.dns_crowd.specs.Slots.{IsOneOf}
use Rattle.dns_crowd.specs.declared.sessions.Slot.{Slot}
use Rattle.dns_crowd.proofs.Placed.{opened}
use Rattle.dns_crowd.proofs.sessions.Sessions.find.Goals as goal

pub returns-clause-some : goal.returns-clause-some
returns-clause-some c =
    let ss : List Slot = c.self.inside.slots.items in
    let d = c.index.result.now in
    let inside = rw c.as_slice.ensures.value at c.in-Some.ensures.inside in
    let found = rw c.as_slice.ensures.value at c.in-Some.ensures.found d in
    let stands = rw c.as_slice.ensures.value at c.in-Some.ensures.stands d in
    let p = opened ss c.in-Some.place d inside stands in
    subst (λ (l : List Connection). IsOneOf l d.session c.args.number) c.self.view_is
    (record {
      at = p.at;
      inside = p.inside;
      is = λ k. p.is k ∙ ap (λ (s : Slot). s.session) (sym c.index.ensures);
      of_number = ap (λ (s : Slot). s.session.number) c.index.ensures ∙ found;
    })
