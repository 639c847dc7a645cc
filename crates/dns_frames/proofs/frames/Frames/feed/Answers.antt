-- What was fed and given goes on by the piece.
use Rattle.dns_frames.proofs.Cutting.{fed_ok}
use Rattle.dns_frames.proofs.frames.Frames.feed.Goals as goal

pub returns-clause-accounts : goal.returns-clause-accounts
returns-clause-accounts c = fed_ok c.append.result c.args.self.now c.append.new.self c.args.piece.now (rw c.forget.ensures at c.append.ensures.ok)
