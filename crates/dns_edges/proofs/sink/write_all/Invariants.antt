use Rattle.std.proofs.Common.{◌≡◌, length}
use Rattle.dns_io.specs.Told.{Keeps, GrowsByPrefix, WritesUpTo}
use Rattle.dns_edges.proofs.sink.write_all.Given as goal

abbrev pub invariant-loop-rest : goal.invariant-loop-rest
invariant-loop-rest g l =
    let before = g.W.Sink.sink.told l.fn.sink in
    let now = g.W.Sink.sink.told l.sink in
    record {
      grown : GrowsByPrefix before.taken now.taken l.bytes l.rest;
      unflushed : Keeps before.flushed now.flushed;
      written : WritesUpTo g.W.Sink.sink.writes l.fn.sink l.bytes l.sink l.rest;
      calm : now.faults ≡ before.faults;
      none_wanted : g.W.Sink.sink.wants l.sink ≡ g.W.Sink.sink.wants l.fn.sink;
    }

abbrev pub decreases-loop-rest : goal.decreases-loop-rest
decreases-loop-rest g l = length l.rest
