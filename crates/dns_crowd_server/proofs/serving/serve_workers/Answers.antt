-- How the workers ended.
use Rattle.std.proofs.Common.{rules}
use Rattle.dns_crowd_server.proofs.serving.serve_workers.Goals as goal

pub returns-clause-ended : goal.returns-clause-ended
returns-clause-ended g c = record { reading = c.serve_crew-reading.result; ended = c.serve_crew-reading.ensures.ended; answer = search rules }
