use Rattle.dns_frames.proofs.Cutting.{frames-short, frames-partial_at, frames-whole_at}
use Rattle.dns_frames.proofs.frames.first_frame.Goals as goal

pub returns-then-more-length-clause-none : goal.returns-then-more-length-clause-none
returns-then-more-length-clause-none c = frames-partial_at _ c.in-len2-up.len_at_least c.if-more-length.true

pub returns-in_default-clause-none : goal.returns-in_default-clause-none
returns-in_default-clause-none c = frames-short _ c.in_default.len_below

pub returns-else-more-length-clause-some : goal.returns-else-more-length-clause-some
returns-else-more-length-clause-some c = rw (c.split_at.ensures.front, c.split_at.ensures.back) (frames-whole_at _ c.in-len2-up.len_at_least c.if-more-length.false)
