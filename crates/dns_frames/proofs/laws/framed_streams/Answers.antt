use Rattle.dns_frames.proofs.Cutting.{frames-nil, frames-one, frames-partial, frames-whole}
use Rattle.dns_frames.proofs.laws.framed_streams.Goals as goal

pub returns-clause-empty : goal.returns-clause-empty
returns-clause-empty c = frames-nil

pub returns-clause-one : goal.returns-clause-one
returns-clause-one c = frames-one

pub returns-clause-partial : goal.returns-clause-partial
returns-clause-partial c = frames-partial

pub returns-clause-whole : goal.returns-clause-whole
returns-clause-whole c = frames-whole
