-- From one to the next, until none stands in the order before the moment.
use Rattle.std.proofs.Common.{◌∙◌, sym}
use Rattle.dns_crowd.proofs.Late.{all_stay, no_numbers, none_late, some_all, some_more, table_more}
use Rattle.dns_crowd.proofs.Unasked.{unasked_more}
use Rattle.dns_crowd.proofs.deadlines.close_late.Goals as goal

pub loop-number-preserved : goal.loop-number-preserved
loop-number-preserved g c =
    let h = c.loop-number.invariant in
    record {
      climbs = c.close_first.ensures.climbs;
      timed = c.close_first.ensures.timed;
      alike = c.close_first.ensures.alike ∙ h.alike;
      shut = some_more _ _ _ _ _ _ h.shut c.in-Ok.ensures.shut;
      kept = table_more c.args.sessions.now c.loop-number.sessions c.close_first.new.sessions h.kept c.close_first.ensures.kept;
      unasked = unasked_more _ _ _ h.unasked c.in-Ok.ensures.unasked;
    }

pub returns-in-Err-clause-kept : goal.returns-in-Err-clause-kept
returns-in-Err-clause-kept g c =
    table_more c.args.sessions.now c.loop-number.sessions c.close_first.new.sessions c.loop-number.invariant.kept c.close_first.ensures.kept

pub returns-clause-left : goal.returns-clause-left
returns-clause-left g c =
    let h = c.loop-number.invariant in
    let all = none_late c.args.last c.loop-number.order c.in_default.ensures.none c.loop-number.sessions h.timed in
    sym (all_stay c.args.last c.loop-number.sessions all) ∙ h.alike

pub returns-clause-all : goal.returns-clause-all
returns-clause-all g c =
    let h = c.loop-number.invariant in
    let all = none_late c.args.last c.loop-number.order c.in_default.ensures.none c.loop-number.sessions h.timed in
    some_all _ _ _ _ (no_numbers c.args.last c.loop-number.sessions all) h.shut
