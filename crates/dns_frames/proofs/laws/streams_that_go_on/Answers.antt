use Rattle.dns_frames.proofs.Cutting.{frames-more, frames-rest}
use Rattle.dns_frames.proofs.laws.streams_that_go_on.Goals as goal

pub returns-clause-more : goal.returns-clause-more
returns-clause-more c = frames-more

pub returns-clause-rest : goal.returns-clause-rest
returns-clause-rest c = frames-rest
