use Rattle.dns_quic.proofs.Pieces.{broke-in-message}
use Rattle.dns_quic.proofs.receiving.receive_frame.Goals as goal

pub returns-in-Err-clause-told : goal.returns-in-Err-clause-told
returns-in-Err-clause-told g c =
    broke-in-message _ c.in_ok-prefix.prefix _ _ _ c.in-Err.ensures.kind (rw c.as_slice.ensures at c.in-Some.ensures.two) c.in_ok-prefix.ensures.given
    (rw (rw c.as_slice.ensures at c.in-Some.ensures.said) at c.in-Err.ensures.part)
