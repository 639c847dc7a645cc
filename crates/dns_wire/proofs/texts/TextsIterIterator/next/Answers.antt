use Rattle.std.proofs.Common.{length, ap, arith}
use Rattle.dns_wire.proofs.FirstText.{head_of, some_bytes, no_texts, texts_step}
use Rattle.dns_wire.proofs.texts.TextsIterIterator.next.Goals as goal

pub returns-then-is_empty-clause-steps : goal.returns-then-is_empty-clause-steps
returns-then-is_empty-clause-steps c = let n = no_texts _ _ c.self.view_is c.if-is_empty.ensures in (n, n)

pub split_at-requires : goal.split_at-requires
split_at-requires c = (head_of c.self.inside.left.now c.self.invariant (some_bytes _ c.if-is_empty.ensures)).within

pub invariant_of-self : goal.invariant_of-self
invariant_of-self c = rw c.split_at.ensures.back (head_of c.self.inside.left.now c.self.invariant (some_bytes _ c.if-is_empty.ensures)).rest

pub returns-clause-steps : goal.returns-clause-steps
returns-clause-steps c = texts_step _ _ _ _ c.self.invariant c.self.view_is (some_bytes _ c.if-is_empty.ensures) c.split_at.ensures.front c.split_at.ensures.back

pub returns-clause-goes : goal.returns-clause-goes
returns-clause-goes c =
    let e = ap length (texts_step _ _ _ _ c.self.invariant c.self.view_is (some_bytes _ c.if-is_empty.ensures) c.split_at.ensures.front c.split_at.ensures.back) in
    record { on = λ f. (tt, tt, omega (arith, e)); keeps = tt; rests = λ f. tt }
