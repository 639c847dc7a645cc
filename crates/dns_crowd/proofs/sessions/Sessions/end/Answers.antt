-- The connection of the number goes, and no other.
use Rattle.std.proofs.Common.{◌≡◌, List, refl, subst, sym}
use Rattle.std.specs.List.{filter_map}
use Rattle.dns_server_core.specs.declared.event.Event.TheVariants.{Ended}
use Rattle.dns_server_core.specs.Connections.{Connection}
use Rattle.dns_server_core.specs.Order.{Climbs}
use Rattle.dns_server_core.specs.Steps.{step}
use Rattle.dns_server_core.proofs.ConnectionTurns.{ended_none}
use Rattle.dns_crowd.specs.Slots.{all_in, open_in, vacated}
use Rattle.dns_crowd.specs.declared.sessions.Slot.{Slot}
use Rattle.dns_crowd.proofs.Placed.{gone_ended, pick, set_climbs}
use Rattle.dns_crowd.proofs.sessions.Sessions.end.Goals as goal

pub returns-in_default : goal.returns-in_default
returns-in_default c =
    let none = rw c.as_slice.ensures.value at c.in_default.ensures.none in
    subst (λ (l : List Connection). l ≡ filter_map (step (Ended c.args.at c.args.number)) l) c.self.view_is
    (ended_none c.args.at c.args.number (open_in c.self.inside.slots.items) (none c.self.invariant))

pub invariant_of-self : goal.invariant_of-self
invariant_of-self c =
    let ss : List Slot = c.self.inside.slots.items in
    let inside = rw c.as_slice.ensures.value at c.in-Some.ensures.inside in
    let d : Slot = pick ss c.in-Some.place inside in
    let found = rw c.as_slice.ensures.value at c.in-Some.ensures.found d in
    subst (λ (l : List Slot). Climbs (all_in l)) (sym (c.vacate.ensures d)) (set_climbs ss c.in-Some.place d (vacated c.args.number _) (sym found) c.self.invariant)

pub returns : goal.returns
returns c =
    let ss : List Slot = c.self.inside.slots.items in
    let inside = rw c.as_slice.ensures.value at c.in-Some.ensures.inside in
    let d : Slot = pick ss c.in-Some.place inside in
    let found = rw c.as_slice.ensures.value at c.in-Some.ensures.found d in
    let stands = rw c.as_slice.ensures.value at c.in-Some.ensures.stands d in
    subst (λ (l : List Connection). open_in c.vacate.new.slots.items ≡ filter_map (step (Ended c.args.at c.args.number)) l) c.self.view_is
    (gone_ended ss c.vacate.new.slots.items c.in-Some.place d (vacated c.args.number _) c.args.at c.args.number c.self.invariant inside found stands refl (c.vacate.ensures d))
