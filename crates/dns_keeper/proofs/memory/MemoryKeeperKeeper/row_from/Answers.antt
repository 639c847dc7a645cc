use Rattle.std.proofs.Common.{None, Some, rules}
use Rattle.std.specs.Int.{w64}
use Rattle.std.proofs.lemmas.Int.{to_z-of_z}
use Rattle.dns_keeper.specs.Packed.{joined, IsFound}
use Rattle.dns_keeper.proofs.Packing.{found_further, found_here}
use Rattle.dns_keeper.proofs.memory.MemoryKeeperKeeper.row_from.Goals as goal

pub returns-in-Some-clause-read : goal.returns-in-Some-clause-read
returns-in-Some-clause-read c =
    let k = c.self.inside in
    let id = c.args.id in
    let here : IsFound id k.given.items (Some c.in_ok-copied.field-0) = record { first = search rules; least = search rules } in
    let found = found_here id k.given.items (joined k.added.items) c.in_ok-copied.field-0 here in
    rw (← c.self.view_is) (record {
      found = found.first;
      first = found.least;
      ascending = c.self.invariant.0;
      kept = search rules;
      batches = search rules;
      left = search rules;
      cause = search rules;
    })

pub returns-clause-read : goal.returns-clause-read
returns-clause-read c =
    let k = c.self.inside in
    let id = c.args.id in
    let none : IsFound id k.given.items None = record { first = search rules; least = search rules } in
    let rest : IsFound id (joined k.added.items) c.in_ok-first_packed.field-0 = rw (to_z-of_z w64 id c.ranges.id, c.as_slice-2.ensures.value) at c.in_ok-first_packed.ensures in
    let found = found_further id k.given.items (joined k.added.items) c.in_ok-first_packed.field-0 none rest in
    rw (← c.self.view_is) (record {
      found = found.first;
      first = found.least;
      ascending = c.self.invariant.0;
      kept = search rules;
      batches = search rules;
      left = search rules;
      cause = search rules;
    })
