use Rattle.std.specs.Prelude.{option_map}
use Rattle.dns_name.specs.Name.{fold_of}
use Rattle.dns_wire.proofs.Putting.{given_put}
use Rattle.dns_wire.proofs.lent_records.put_given.Goals as goal

pub returns-clause-ok : goal.returns-clause-ok
returns-clause-ok c =
    let owner = option_map fold_of c.args.owner.now in
    given_put owner c.args.is_negative c.args.one.now _ _ _ _ _ c.in_ok-put_owner.ensures.ok (c.given_ttl-ttl.ensures owner) c.put_rest.ensures.ok
