use Rattle.std.proofs.Common.{◌≡◌, drop}
use Rattle.dns_io.specs.Told.{Keeps, GrowsByPrefix}
use Rattle.dns_printed.specs.Printed.{zone_text}
use Rattle.dns_printed.proofs.zone_lines.ZoneLines.write.Given as goal

abbrev pub invariant-loop-place : goal.invariant-loop-place
invariant-loop-place g l =
    let before = g.W.Sink.sink.told l.fn.sink in
    let now = g.W.Sink.sink.told l.sink in
    record {
      grown : GrowsByPrefix before.taken now.taken (zone_text l.self) (zone_text (drop l.place l.self));
      unflushed : Keeps before.flushed now.flushed;
      calm : now.faults ≡ before.faults;
    }
