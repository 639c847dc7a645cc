-- The first frame, where one is to be taken.
use Rattle.std.proofs.Common.{◌≡◌, ◌+◌, ◌<◌, ℕ, [], length, refl, sym, subst, ap, arith, length-drop}
use Rattle.dns_server_core.specs.FrameRuns.{first_messages}
use Rattle.dns_server_core.proofs.FirstFrames.{behind_next, first_next, first_none}
use Rattle.dns_server_core.proofs.handler.next_frame.Goals as goal

pub returns-then-most-eq0-clause-none : goal.returns-then-most-eq0-clause-none
returns-then-most-eq0-clause-none c = subst (λ (n : ℕ). first_messages n c.args.bytes.now ≡ []) (sym c.if-most-eq0.true) refl

pub returns-in-Some-clause-messages : goal.returns-in-Some-clause-messages
returns-in-Some-clause-messages c =
    let some : 0 < c.args.most = omega (arith, c.if-most-eq0.false) in
    first_next c.args.most c.args.bytes.now c.in-Some.message.now c.in-Some.after.now some c.in-Some.ensures.some

pub returns-in-Some-clause-behind : goal.returns-in-Some-clause-behind
returns-in-Some-clause-behind c =
    let some : 0 < c.args.most = omega (arith, c.if-most-eq0.false) in
    behind_next c.args.most c.args.bytes.now c.in-Some.message.now c.in-Some.after.now some c.in-Some.ensures.some c.in-Some.ensures.left

pub returns-in-Some-clause-inside : goal.returns-in-Some-clause-inside
returns-in-Some-clause-inside c = omega (arith, c.in-Some.ensures.inside, ap length c.in-Some.ensures.left, length-drop (2 + length c.in-Some.message.now) c.args.bytes.now)

pub returns-in-None-clause-none : goal.returns-in-None-clause-none
returns-in-None-clause-none c = first_none c.args.most c.args.bytes.now c.in-None.ensures.none
