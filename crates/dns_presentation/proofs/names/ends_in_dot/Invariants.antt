use Rattle.std.proofs.Common.{◌≡◌, false, drop}
use Rattle.dns_presentation.specs.Values.{ends_in_dot}
use Rattle.dns_presentation.proofs.names.ends_in_dot.Given as goal

abbrev pub invariant-loop-byte : goal.invariant-loop-byte
invariant-loop-byte l = ends_in_dot l.escaped l.dot (drop l.byte-index l.text) ≡ ends_in_dot false false l.text
