-- One that is accepted stands in the order at a moment at which it is within its time.
use Rattle.std.proofs.Common.{◌≡◌, ◌≤◌, ℕ, true, ap, subst, sym, arith}
use Rattle.std.specs.List.{Contains}
use Rattle.dns_server_core.specs.declared.event.Event.TheVariants.{Accepted}
use Rattle.dns_server_core.specs.Connections.{Connection, is_within}
use Rattle.dns_crowd.specs.Tables.{IsAboveAll}
use Rattle.dns_crowd.proofs.Timed.{entries_kept, new_timed, pushed_timed, same_timed, times_same, within_own}
use Rattle.dns_crowd.proofs.connections.accept.Goals as goal

pub last_within-until-requires-clause-within : goal.last_within-until-requires-clause-within
last_within-until-requires-clause-within c = subst (λ (k : Connection). is_within k.limit k.base c.args.at ≡ true) (sym c.open-session.ensures) (within_own c.args.limit c.args.at)

pub returns-then-not-is_safe-clause-timed : goal.returns-then-not-is_safe-clause-timed
returns-then-not-is_safe-clause-timed c = same_timed (Accepted c.args.at c.args.number c.args.peer c.args.limit) c.args.order.now c.args.sessions.now

pub push-requires : goal.push-requires
push-requires c = subst (λ (k : Connection). IsAboveAll k.number c.args.sessions.now) (sym c.open-session.ensures) c.requires.above

pub returns-in_err-put_in_order-clause-timed : goal.returns-in_err-put_in_order-clause-timed
returns-in_err-put_in_order-clause-timed c =
    entries_kept (Accepted c.args.at c.args.number c.args.peer c.args.limit) c.args.order.now c.put_in_order.new.order c.args.sessions.now c.put_in_order.ensures.kept

pub returns-in_err-push-clause-timed : goal.returns-in_err-push-clause-timed
returns-in_err-push-clause-timed c =
    let e = Accepted c.args.at c.args.number c.args.peer c.args.limit in
    times_same e c.args.order.now c.put_in_order.new.order c.args.sessions.now c.args.sessions.now c.push.new.self c.in_err-push.ensures.err
    (entries_kept e c.args.order.now c.put_in_order.new.order c.args.sessions.now c.put_in_order.ensures.kept)

pub returns-clause-timed : goal.returns-clause-timed
returns-clause-timed c =
    let e = Accepted c.args.at c.args.number c.args.peer c.args.limit in
    let until = c.last_within-until.result in
    let k : Connection = c.open-session.result in
    let base : k.base ≡ c.args.at = ap (λ (j : Connection). j.base) c.open-session.ensures in
    let number : k.number ≡ c.args.number = ap (λ (j : Connection). j.number) c.open-session.ensures in
    let began : k.base ≤ c.args.at = omega (arith, base) in
    times_same e c.args.order.now c.put_in_order.new.order c.args.sessions.now _ c.push.new.self c.in_ok-push.ensures.ok
    (pushed_timed e c.args.order.now c.put_in_order.new.order c.args.sessions.now k c.put_in_order.ensures.kept
    (new_timed c.args.at until c.put_in_order.new.order k began c.last_within-until.ensures.within
    (subst (λ (n : ℕ). Contains c.put_in_order.new.order (until, n)) (sym number) c.in_ok-put_in_order.ensures.ok)))
