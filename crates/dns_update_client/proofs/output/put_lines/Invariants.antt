-- The lines of the codes so far are written.
use Rattle.std.proofs.Common.{◌≡◌, ◌+◌, ◌%◌, Ok, take}
use Rattle.dns_edges.specs.Edges.{around}
use Rattle.dns_words.specs.Writing.{Writes}
use Rattle.dns_update_client.specs.Lines.{code_lines}
use Rattle.dns_update_client.proofs.output.put_lines.Given as goal

abbrev pub invariant-loop-code : goal.invariant-loop-code
invariant-loop-code g l =
    record {
      id : l.id ≡ (l.first_id + l.code-index) % 65536;
      written : Writes (around g.O.Sink.sink.told l.fn.out l.out) (code_lines l.first_id (take l.code-index l.codes)) (Ok tt);
    }
