use Rattle.std.proofs.Common.{◌≡◌, ◌+◌, ◌≤◌, length, None}
use Rattle.dns_zone_map.specs.Zone.{IsSoFar}
use Rattle.dns_presentation.specs.LogicalLines.{logical_lines}
use Rattle.dns_zone.specs.Contexts.{IsSound}
use Rattle.dns_zone.specs.ZoneText.{records_from, zone_of}
use Rattle.dns_zone.proofs.zone_text.zone_under.Given as goal

abbrev pub invariant-loop-line : goal.invariant-loop-line
invariant-loop-line l = record {
  counted : l.line.next + length l.rest ≤ length l.text + 1;
  under : l.map.origin ≡ l.fn.origin;
  sound : IsSound l.context;
  so_far : IsSoFar l.map.origin l.map.records;
  settled : l.map.before ≡ None;
  left : records_from l.map.origin l.context l.map.records (logical_lines l.line.next l.rest) ≡ zone_of l.map.origin l.text;
}

abbrev pub decreases-loop-line : goal.decreases-loop-line
decreases-loop-line l = length l.rest
