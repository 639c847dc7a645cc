-- The events so far are those of the messages so far.
use Rattle.std.proofs.Common.{◌≡◌}
use Rattle.dns_generator.specs.Draws.{state_after}
use Rattle.dns_generator.specs.Loaded.{loaded}
use Rattle.dns_generator.proofs.events.loaded.Given as goal

abbrev pub invariant-loop-number : goal.invariant-loop-number
invariant-loop-number l =
    record {
      state : l.state ≡ state_after l.seed l.number;
      so_far : l.list.items ≡ loaded l.seed l.number;
    }
