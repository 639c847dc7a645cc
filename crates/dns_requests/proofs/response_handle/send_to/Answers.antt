-- The sink refused, or memory ran out.
use Rattle.dns_requests.proofs.Replies.{counts_by, ends_by}
use Rattle.dns_requests.proofs.response_handle.send_to.Goals as goal

pub returns-clause-err : goal.returns-clause-err
returns-clause-err g c =
    let h = c.in-Err.ensures.err in
    ends_by c.in-Err.fault c.from.result c.from.ensures c.args.protocol c.args.reply.now c.args.limit _ _ (c.in_ok-bytes.bytes, c.in_ok-bytes.ensures, (h.0, rw (c.as_slice-2.ensures, c.in_ok-sent.ensures) at h.1))

pub returns-clause-counts : goal.returns-clause-counts
returns-clause-counts g c = counts_by c.in-Err.fault c.from.result c.from.ensures _ _ (rw c.in-Err.is at c.write_all.ensures.cause.counts)
