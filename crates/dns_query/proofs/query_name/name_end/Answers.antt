use Rattle.std.proofs.Common.{refl, arith}
use Rattle.dns_query.proofs.Walked.{Walking-start, Walking-label, Walked-end, none_long, none_high, none_cut, none_left}
use Rattle.dns_query.proofs.query_name.name_end.Goals as goal

pub loop-at-init : goal.loop-at-init
loop-at-init c = Walking-start _ _

pub loop-at-preserved : goal.loop-at-preserved
loop-at-preserved c = Walking-label _ _ _ _ c.loop-at.invariant c.loop-at-test.true refl (omega (arith, c.if-n-eq0.false)) (omega (arith, c.if-n-gt-MAX_LABEL_LEN.false)) c.if-n-m.false

pub returns-then-n-eq0-clause-found : goal.returns-then-n-eq0-clause-found
returns-then-n-eq0-clause-found c = Walked-end _ _ _ _ c.loop-at.invariant.walked c.loop-at-test.true refl c.if-n-eq0.true c.if-at-place-gt-MAX_WIRE_LEN.false

pub returns-then-at-place-gt-MAX_WIRE_LEN-clause-none : goal.returns-then-at-place-gt-MAX_WIRE_LEN-clause-none
returns-then-at-place-gt-MAX_WIRE_LEN-clause-none c = none_long _ _ _ _ c.loop-at.invariant c.loop-at-test.true refl c.if-n-eq0.true c.if-at-place-gt-MAX_WIRE_LEN.true

pub returns-then-n-gt-MAX_LABEL_LEN-clause-none : goal.returns-then-n-gt-MAX_LABEL_LEN-clause-none
returns-then-n-gt-MAX_LABEL_LEN-clause-none c = none_high _ _ _ _ c.loop-at.invariant c.loop-at-test.true refl c.if-n-gt-MAX_LABEL_LEN.true

pub returns-then-n-m-clause-none : goal.returns-then-n-m-clause-none
returns-then-n-m-clause-none c = none_cut _ _ _ _ c.loop-at.invariant c.loop-at-test.true refl c.if-n-m.true

pub returns-clause-none : goal.returns-clause-none
returns-clause-none c = none_left _ _ _ c.loop-at.invariant c.loop-at-test.false
