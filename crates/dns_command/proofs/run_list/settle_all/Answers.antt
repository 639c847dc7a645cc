-- Nothing was done, or memory ran out, or every message was settled: a new server was not stopped.
use Rattle.std.proofs.Common.{refl, sym}
use Rattle.dns_command.specs.Parts.{of_invalid}
use Rattle.dns_command.proofs.Settled.{settled_each, cut_short}
use Rattle.dns_command.proofs.run_list.settle_all.Goals as goal

pub returns-then-not-valid_events-clause-err : goal.returns-then-not-valid_events-clause-err
returns-then-not-valid_events-clause-err g c =
    let test = rw c.with_control-server.ensures at c.if-not-valid_events.ensures in
    let left = rw c.with_control-server.ensures at c.given_up.ensures.keeper in
    rw c.given_up.ensures.status (of_invalid (λ valid. let never = test.1 valid in cc) (sym left))

pub returns-in-Ok-clause-ok : goal.returns-in-Ok-clause-ok
returns-in-Ok-clause-ok g c =
    let server = c.with_control-server.ensures in
    let answered = rw server at c.in-Ok.ensures.ok in
    let kept = rw server at c.in-Ok.ensures.after in
    let valid = rw server at (c.valid_events.ensures.0 c.if-not-valid_events.false) in
    settled_each g.K.Keeper.keeper _ _ _ _ _ valid (rw c.new-outs.ensures.items at answered) kept c.failed_updates.ensures.rose c.failed_updates.ensures.calm

pub returns-in-Err-clause-err : goal.returns-in-Err-clause-err
returns-in-Err-clause-err g c =
    let server = c.with_control-server.ensures in
    let leaves = rw server at c.in-Err.ensures.err in
    let valid = rw server at (c.valid_events.ensures.0 c.if-not-valid_events.false) in
    rw c.given_up-in-Err.ensures.status (cut_short g.K.Keeper.keeper _ _ _ _ _ _ _ _ refl valid leaves c.given_up-in-Err.ensures.keeper c.failed_updates.ensures.rose c.failed_updates.ensures.calm)
