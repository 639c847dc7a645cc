use Rattle.std.proofs.Common.{ℕ, ◌+◌, ◌-◌, ◌*◌, ◌<◌, ◌++◌, take, drop, length, ap, ◌∙◌, refl, arith}
use Rattle.std.proofs.Math.Nat.{mul-le-mul_left}
use Rattle.dns_name.proofs.NameRead.{Reading-start, Reading-ends, Reading-past, Reading-cut_off, Reading-long, Reading-label, Reading-reserved, Reading-half, Reading-ahead, Reading-points}
use Rattle.dns_name.proofs.Stands.{StandsAt-one, NameAt-within}
use Rattle.dns_name.proofs.name.Name.read.Goals as goal

pub loop-at-init : goal.loop-at-init
loop-at-init c = Reading-start _ _ _ c.new-wire.ensures.items

pub returns-then-n-eq0-clause-found : goal.returns-then-n-eq0-clause-found
returns-then-n-eq0-clause-found c = Reading-ends c.loop-at.invariant _ c.loop-at-test.true c.if-n-eq0.true c.unwrap_or.ensures

pub returns-then-n-eq0-clause-only : goal.returns-then-n-eq0-clause-only
returns-then-n-eq0-clause-only c labels j s = StandsAt-one _ _ _ _ _ _ (Reading-ends c.loop-at.invariant _ c.loop-at-test.true c.if-n-eq0.true c.unwrap_or.ensures) s

pub returns-then-n-eq0-clause-within : goal.returns-then-n-eq0-clause-within
returns-then-n-eq0-clause-within c = NameAt-within (Reading-ends c.loop-at.invariant _ c.loop-at-test.true c.if-n-eq0.true c.unwrap_or.ensures).stands

pub returns-then-n-message-clause-only : goal.returns-then-n-message-clause-only
returns-then-n-message-clause-only c = Reading-cut_off c.loop-at.invariant _ c.loop-at-test.true refl (omega arith) (omega arith) (omega arith)

pub returns-then-len-n-ge-MAX_WIRE_LEN-clause-only : goal.returns-then-len-n-ge-MAX_WIRE_LEN-clause-only
returns-then-len-n-ge-MAX_WIRE_LEN-clause-only c = Reading-long c.loop-at.invariant _ c.loop-at-test.true refl (omega arith) (omega arith) (omega (arith, c.loop-at.wire.ok.0, c.len.ensures))

pub loop-at-preserved-then-n-le-MAX_LABEL_LEN : goal.loop-at-preserved-then-n-le-MAX_LABEL_LEN
loop-at-preserved-then-n-le-MAX_LABEL_LEN c =
    Reading-label c.loop-at.invariant _ c.loop-at-test.true refl (omega arith) (omega arith) _ (omega arith) (omega (arith, c.loop-at.wire.ok.0, c.len.ensures)) (let e = c.in_ok-extend_from_slice.ensures.items in e ∙ ap (λ k. c.loop-at.wire.items ++ take k (drop c.loop-at.at c.args.message.now)) (omega arith))

pub returns-then-n-lt192-clause-only : goal.returns-then-n-lt192-clause-only
returns-then-n-lt192-clause-only c = Reading-reserved c.loop-at.invariant c.loop-at-test.true (omega arith) c.if-n-lt192.true

pub returns-then-at-message-clause-only : goal.returns-then-at-message-clause-only
returns-then-at-message-clause-only c = Reading-half c.loop-at.invariant c.loop-at-test.true (omega arith) c.if-at-message.true

pub returns-then-target-start-clause-only : goal.returns-then-target-start-clause-only
returns-then-target-start-clause-only c =
    Reading-ahead c.loop-at.invariant c.loop-at-test.true (omega arith) _ c.if-at-message.false refl c.if-target-start.true

smaller : (len start at t : ℕ) → t < start → t * (len + 1) + (len - t) < start * (len + 1) + (len - at)
smaller len start at t h = omega (arith, mul-le-mul_left (len + 1) h)

pub loop-at-smaller : goal.loop-at-smaller
loop-at-smaller c = smaller (length c.args.message.now) c.loop-at.start c.loop-at.at _ c.if-target-start.false

pub loop-at-preserved : goal.loop-at-preserved
loop-at-preserved c =
    Reading-points c.loop-at.invariant c.loop-at-test.true (omega arith) _ c.if-at-message.false refl _ c.if-n-lt192.false c.if-target-start.false c.unwrap_or-in-loop-at.ensures

pub returns-clause-only : goal.returns-clause-only
returns-clause-only c = Reading-past c.loop-at.invariant c.loop-at-test.false
