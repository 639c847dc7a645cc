-- The lines of the replies so far are written.
use Rattle.std.proofs.Common.{Ok, take}
use Rattle.std.specs.List.{flat_map}
use Rattle.dns_edges.specs.Edges.{around}
use Rattle.dns_command.specs.Lines.{out_line}
use Rattle.dns_words.specs.Writing.{Writes}
use Rattle.dns_command.proofs.output.put_outs.Given as goal

abbrev pub invariant-loop-one : goal.invariant-loop-one
invariant-loop-one g l =
    Writes (around g.W.Sink.sink.told l.fn.out l.out) (flat_map out_line (take l.one-index l.outs)) (Ok tt)
