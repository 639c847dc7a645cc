use Rattle.std.proofs.Common.{[], refl, ◌∙◌}
use Rattle.dns_io.specs.Told.{begun, went_on}
use Rattle.dns_io.proofs.ToldContents.{Keeps-same, Keeps-more, Grows-nothing, GrowsByPrefix-more}
use Rattle.dns_edges.proofs.sink.write_all.Goals as goal

pub loop-rest-init : goal.loop-rest-init
loop-rest-init g c =
    record {
      grown = record { front = []; parts = refl; grown = Grows-nothing _ };
      unflushed = Keeps-same _;
      written = begun;
      calm = refl;
      none_wanted = refl;
    }

pub loop-rest-preserved : goal.loop-rest-preserved
loop-rest-preserved g c =
    record {
      grown = rw c.split_at.ensures.back (GrowsByPrefix-more _ _ _ _ _ _ c.loop-rest.invariant.grown c.in_ok-count.ensures.told.grows);
      unflushed = Keeps-more _ _ _ c.loop-rest.invariant.unflushed c.write.ensures.told.unflushed;
      written = rw c.split_at.ensures.back (went_on c.loop-rest.invariant.written c.in_ok-count.ensures.told.some c.in_ok-count.ensures.told.count c.in_ok-count.ensures.next);
      calm = c.in_ok-count.ensures.told.cause.counts ∙ c.loop-rest.invariant.calm;
      none_wanted = c.in_ok-count.ensures.wanted ∙ c.loop-rest.invariant.none_wanted;
    }
