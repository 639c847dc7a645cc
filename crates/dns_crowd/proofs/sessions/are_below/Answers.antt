-- The last has the greatest number.
use Rattle.std.proofs.Common.{◌≡◌, ◌∙◌, get_or, length, suc, ap, sym, arith}
use Rattle.std.proofs.lemmas.Bool.{ltb-true}
use Rattle.dns_server_core.specs.Connections.{Connection}
use Rattle.dns_crowd.specs.Slots.{all_in}
use Rattle.dns_crowd.proofs.Placed.{in_all, last_below, length_all}
use Rattle.dns_crowd.proofs.sessions.are_below.Goals as goal

pub returns : goal.returns
returns c =
    let slot = c.index-slots-last.result in
    let long = length_all c.args.slots.now in
    let all : length (all_in c.args.slots.now) ≡ suc c.in-Some.last = omega (arith, long, c.in-Some.ensures) in
    let number : c.number.result ≡ (get_or (all_in c.args.slots.now) c.in-Some.last slot.session).number =
    c.number.ensures ∙ ap (λ (k : Connection). k.number) (sym (in_all c.args.slots.now c.in-Some.last slot)) in
    λ e climbs.
    let less = ltb-true c.number.result c.args.number e in
    last_below (all_in c.args.slots.now) c.in-Some.last slot.session c.args.number climbs all (omega (arith, less, number))
