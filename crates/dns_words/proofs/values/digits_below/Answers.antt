-- A number past the limit stays past it.
use Rattle.std.proofs.Common.{sym, ◌∙◌, arith}
use Rattle.std.proofs.lemmas.List.{drop_more}
use Rattle.dns_words.proofs.Decimals.{below-digit}
use Rattle.dns_words.proofs.values.digits_below.Goals as goal

pub returns-then-next-limit-clause-value : goal.returns-then-next-limit-clause-value
returns-then-next-limit-clause-value c =
    sym (below-digit _ c.loop-digit.number _ _ _ (drop_more c.args.digits.now c.loop-digit.digit-index 0 c.loop-digit-test.true) (omega arith)) ∙ c.loop-digit.invariant.same
