-- The sendings so far are ahead of those of the lines that are left, which take fewer bytes with each line.
use Rattle.std.proofs.Common.{◌≡◌, ◌+◌, ◌≤◌, length}
use Rattle.dns_presentation.specs.Lines.{lines_of}
use Rattle.dns_update_script.specs.Script.{script_of}
use Rattle.dns_update_script.specs.Reading.{given_by}
use Rattle.dns_update_script.proofs.script.read_script.Given as goal

abbrev pub invariant-loop-line : goal.invariant-loop-line
invariant-loop-line l = record {
  counted : l.state.lines + length l.rest ≤ length l.text;
  same : given_by l.state (lines_of l.rest) ≡ script_of l.text;
}

abbrev pub decreases-loop-line : goal.decreases-loop-line
decreases-loop-line l = length l.rest
