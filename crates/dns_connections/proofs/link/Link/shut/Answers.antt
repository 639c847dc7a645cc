use Rattle.std.proofs.Common.{rules, true}
use Rattle.dns_connections.specs.Links.{LinkSeen}
use Rattle.dns_connections.specs.declared.stage.Stage.TheVariants.{Draining}
use Rattle.dns_connections.proofs.Own.{acts_shut, watched_shut}
use Rattle.dns_connections.proofs.link.Link.shut.Goals as goal

pub returns-clause-acts : goal.returns-clause-acts
returns-clause-acts g c = acts_shut _ _ c.args.now c.shut-shut.result _ _ (search rules) (search rules) c.requires.stage c.requires.owed

pub returns-clause-watched : goal.returns-clause-watched
returns-clause-watched g c =
    let later : LinkSeen = record {
      number = c.self.inside.number;
      stands = true;
      stage = Draining c.args.now;
      untold = c.self.inside.untold;
      heard = c.self.inside.heard;
      owed = c.self.inside.owed;
    } in
    λ w. watched_shut (g.N.Network.calls c.args.network.now) (g.N.Network.calls c.shut-shut.new.self) c.args.now c.shut-shut.result c.args.self.now later (search rules) (search rules) w
