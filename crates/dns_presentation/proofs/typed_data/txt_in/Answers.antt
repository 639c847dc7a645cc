use Rattle.std.proofs.Common.{arith}
use Rattle.dns_wire.proofs.Cuts.{Cut-short, Cut-next, cell, empty}
use Rattle.dns_presentation.proofs.TypedData.{txt_in-none, txt_in-cut}
use Rattle.dns_presentation.proofs.typed_data.txt_in.Goals as goal

pub returns-then-tail-size : goal.returns-then-tail-size
returns-then-tail-size c =
    txt_in-none c.args.bytes.now (Cut-short c.loop-rest.invariant _ _ (cell _ c.in-len1-up.len_at_least) c.if-tail-size.true)

pub loop-rest-preserved : goal.loop-rest-preserved
loop-rest-preserved c =
    rw (c.split_at.ensures.back, c.in_ok-push.ensures.ok, c.split_at.ensures.front) (Cut-next c.loop-rest.invariant _ _ (cell _ c.in-len1-up.len_at_least) (omega arith) c.if-tail-size.false)

pub returns : goal.returns
returns c = txt_in-cut c.loop-rest.invariant (empty _ c.in_default.len_below)
