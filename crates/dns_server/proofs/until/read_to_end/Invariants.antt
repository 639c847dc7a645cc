-- What was read so far.
use Rattle.std.proofs.Common.{◌≡◌, ℕ, List}
use Rattle.dns_io.specs.Told.{Takes}
use Rattle.dns_server.proofs.until.read_to_end.Given as goal

abbrev pub invariant-loop : goal.invariant-loop
invariant-loop g l =
    ((goal.iterator-loop g).can_next l.iterator' × (goal.iterator-loop g).is_finite l.iterator')
    × ((bytes : List ℕ) × Takes (g.E.Source.source.told l.fn.until).left (g.E.Source.source.told l.until).left bytes)
    × ((g.E.Source.source.told l.until).faults ≡ (g.E.Source.source.told l.fn.until).faults)
