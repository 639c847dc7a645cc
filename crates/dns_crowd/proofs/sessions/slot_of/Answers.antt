-- The half where the number can be.
use Rattle.std.proofs.Common.{◌≡◌, ◌<◌, ◌+◌, ◌-◌, ◌/◌, ◌∙◌, ℕ, ap, drop, get_or, subst, sym, arith}
use Rattle.std.specs.List.{AllByRecursion}
use Rattle.dns_server_core.specs.Connections.{Connection}
use Rattle.dns_server_core.proofs.NumberPlaces.{all_before, all_behind, all_other}
use Rattle.dns_crowd.specs.Slots.{all_in}
use Rattle.dns_crowd.proofs.Placed.{in_all, length_all}
use Rattle.dns_crowd.proofs.sessions.slot_of.Goals as goal

pub loop-low-preserved-then-here-number-2 : goal.loop-low-preserved-then-here-number-2
loop-low-preserved-then-here-number-2 c =
    let middle : ℕ = c.loop-low.low + (c.loop-low.high - c.loop-low.low) / 2 in
    let inside : middle < c.loop-low.high = omega (arith, c.loop-low-test.true) in
    let slot = c.index-slots-middle.result in
    let long = length_all c.args.slots.now in
    let number : c.number-here.result ≡ (get_or (all_in c.args.slots.now) middle slot.session).number =
    c.number-here.ensures ∙ ap (λ (k : Connection). k.number) (sym (in_all c.args.slots.now middle slot)) in
    record {
      order = omega (arith, inside);
      inside = c.loop-low.invariant.inside;
      before = λ climbs. all_before (all_in c.args.slots.now) middle slot.session c.args.number climbs
          (omega (arith, inside, long, c.loop-low.invariant.inside)) (subst (λ (m : ℕ). m < c.args.number) number c.if-here-number-2.true);
      behind = c.loop-low.invariant.behind;
    }

pub loop-low-preserved : goal.loop-low-preserved
loop-low-preserved c =
    let middle : ℕ = c.loop-low.low + (c.loop-low.high - c.loop-low.low) / 2 in
    let inside : middle < c.loop-low.high = omega (arith, c.loop-low-test.true) in
    let slot = c.index-slots-middle.result in
    let long = length_all c.args.slots.now in
    let number : c.number-here.result ≡ (get_or (all_in c.args.slots.now) middle slot.session).number =
    c.number-here.ensures ∙ ap (λ (k : Connection). k.number) (sym (in_all c.args.slots.now middle slot)) in
    record {
      order = omega arith;
      inside = omega (arith, inside, c.loop-low.invariant.inside);
      before = c.loop-low.invariant.before;
      behind = λ climbs. all_behind (all_in c.args.slots.now) middle slot.session c.args.number climbs
          (omega (arith, inside, long, c.loop-low.invariant.inside)) (omega (arith, c.if-here-number.false, c.if-here-number-2.false, number));
    }

pub returns-clause-none : goal.returns-clause-none
returns-clause-none c =
    let met : c.loop-low.high ≡ c.loop-low.low = omega (arith, c.loop-low-test.false, c.loop-low.invariant.order) in
    λ climbs. all_other (all_in c.args.slots.now) c.loop-low.low c.args.number (c.loop-low.invariant.before climbs)
    (subst (λ (i : ℕ). AllByRecursion (λ (k : Connection). c.args.number < k.number) (drop i (all_in c.args.slots.now))) met (c.loop-low.invariant.behind climbs))
