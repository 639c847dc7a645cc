use Rattle.std.proofs.Common.{◌≡◌, ◌∙◌, ◌-◌, ◌<◌, sym, ap, arith, rules, take}
use Rattle.dns_zone_map.specs.Former.{restored}
use Rattle.dns_zone_map.proofs.Formers.{next_back, all_given}
use Rattle.dns_zone_map.proofs.former.put_all_back.Goals as goal

pub loop-left-preserved : goal.loop-left-preserved
loop-left-preserved c =
    let was = c.loop-left in
    let some : 0 < was.left = search rules in
    record {
      within = omega (arith, was.invariant.within, c.put_back_at.ensures.long);
      same =
          next_back was.formers.items c.put_back_at.new.formers.items was.names c.put_back_at.new.names (was.left - 1) was.left (omega (arith, some)) was.invariant.within c.put_back_at.ensures.apart
          c.put_back_at.ensures.names c.put_back_at.ensures.before
          ∙ was.invariant.same;
    }

pub returns : goal.returns
returns c =
    let was = c.loop-left in
    let none : 0 ≡ was.left = omega (arith, c.loop-left-test.false) in
    sym (all_given was.names) ∙ ap (λ n. restored (take n was.formers.items) was.names) none ∙ was.invariant.same
