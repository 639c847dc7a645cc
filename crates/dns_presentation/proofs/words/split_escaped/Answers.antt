use Rattle.std.proofs.Common.{◌∙◌, sym}
use Rattle.dns_presentation.proofs.Wording.{plain_past}
use Rattle.dns_presentation.proofs.words.split_escaped.Goals as goal

pub loop-place-preserved-then-escaped : goal.loop-place-preserved-then-escaped
loop-place-preserved-then-escaped c =
    sym (plain_past c.args.line.now c.loop-place.place c.loop-place-test.true)
    ∙ (rw c.if-escaped.true at c.loop-place.invariant)
