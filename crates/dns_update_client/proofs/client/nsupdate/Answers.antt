use Rattle.dns_update_client.proofs.Endings.{refused, answered}
use Rattle.dns_update_client.proofs.Counting.{answered_counts, ends_so, of_refusing, of_writing, refused_counts}
use Rattle.dns_update_client.proofs.client.nsupdate.Goals as goal

pub returns-in-Ok-clause-ends : goal.returns-in-Ok-clause-ends
returns-in-Ok-clause-ends g c =
    ends_so g.O.Sink.sink c.args.out.now c.finish.new.out _ _ (answered _ _ _ _ c.in-Ok.ensures.ok c.finish.ensures.ends)
    (answered_counts _ _ _ _ _ _ _ c.in-Ok.ensures.ok (of_writing _ _ _ _ c.finish.ensures.ends))

pub returns-in-Err-clause-ends : goal.returns-in-Err-clause-ends
returns-in-Err-clause-ends g c =
    ends_so g.O.Sink.sink c.args.out.now c.refuse.new.out _ _ (refused _ _ _ c.in-Err.ensures.err c.refuse.ensures.ends)
    (refused_counts _ _ _ _ _ _ c.in-Err.ensures.err c.refuse.ensures.ends c.refuse.ensures.wanted (of_refusing _ _ _ c.refuse.ensures.ends))
