use Rattle.std.proofs.Common.{◌++◌, arith, length-append}
use Rattle.dns_io.proofs.ToldContents.{Takes-more}
use Rattle.dns_quic.proofs.Pieces.{on-err, took-part}
use Rattle.dns_quic.proofs.receiving.read_up_to.Goals as goal

pub returns-in_err-bytes-clause-part : goal.returns-in_err-bytes-clause-part
returns-in_err-bytes-clause-part g c =
    let within = rw c.in-Some.is at c.in_ok-piece.ensures.told.within in
    let given = rw c.in-Some.is at c.in_ok-piece.ensures.told.given in
    on-err _
    (took-part _ _ (c.loop-half.bytes ++ c.in-Some.piece) c.args.count (Takes-more _ _ _ _ _ c.loop-half.invariant.taken given)
    (omega (arith, length-append c.loop-half.bytes c.in-Some.piece, c.len-in-loop-half.ensures, c.loop-half.invariant.within, within.1)))
