use Rattle.std.proofs.Common.{length}
use Rattle.dns_wire.proofs.Cuts.{Cut}
use Rattle.dns_presentation.proofs.typed_data.txt_in.Given as goal

abbrev pub invariant-loop-rest : goal.invariant-loop-rest
invariant-loop-rest l = Cut l.bytes l.texts l.rest

abbrev pub decreases-loop-rest : goal.decreases-loop-rest
decreases-loop-rest l = length l.rest
