-- Without room for a read nothing is done.
use Rattle.std.proofs.Common.{refl}
use Rattle.dns_crowd.proofs.Wanting.{Working-none}
use Rattle.dns_crowd.proofs.worker.serve_crowd.Goals as goal

pub returns-in_default : goal.returns-in_default
returns-in_default g c = record {
  work = Working-none (g.H.RequestHandler.serves c.args.access.now) g.H.RequestHandler.skips g.C.Crowd.told c.args.handler.now c.args.crowd.now;
  ends = refl;
}
