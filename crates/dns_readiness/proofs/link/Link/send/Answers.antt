-- What the peer did not take at once is owed.
use Rattle.std.proofs.Common.{inl}
use Rattle.std.proofs.lemmas.Result.{on_ok_weaker}
use Rattle.dns_readiness.proofs.link.Link.send.Goals as goal

pub returns-clause-sent : goal.returns-clause-sent
returns-clause-sent c =
    let back = c.split_at.ensures.back in
    let same = c.write_some.ensures.same in
    on_ok_weaker c.keep.result (λ kept. record {
      taken = c.in-Some.taken;
      order = c.in-Some.ensures.order;
      left = inl cc;
    }) c.keep.ensures.kept
