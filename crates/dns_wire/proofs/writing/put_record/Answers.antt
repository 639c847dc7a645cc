use Rattle.std.proofs.Common.{◌++◌, ap, ◌∙◌}
use Rattle.dns_wire.proofs.Putting.{record_put}
use Rattle.dns_wire.proofs.writing.put_record.Goals as goal

pub returns-clause-ok : goal.returns-clause-ok
returns-clause-ok c =
    record_put _ _ _ _ c.args.one.now (c.in_ok-extend_from_slice.ensures.items ∙ ap (λ b. c.args.out.now.items ++ b) c.as_wire.ensures.bytes) c.put_rest.ensures.ok
