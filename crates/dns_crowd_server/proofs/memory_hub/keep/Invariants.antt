-- The first items were added.
use Rattle.std.proofs.Common.{◌≡◌, ◌++◌, length}
use Rattle.std.specs.Vec.{vec_capacity}
use Rattle.std.specs.Vec.Iter.{into_iter_items, into_iter_len}
use Rattle.dns_crowd_server.proofs.memory_hub.keep.Given as goal

abbrev pub invariant-loop-item : goal.invariant-loop-item
invariant-loop-item g l =
    ((goal.iterator-loop-item g).can_next l.item-iterator × (goal.iterator-loop-item g).is_finite l.item-iterator)
    × (l.yielded ++ into_iter_items l.item-iterator ≡ l.fn.items.items)
    × (into_iter_len l.item-iterator ≡ length (into_iter_items l.item-iterator))
    × (l.all.items ≡ l.fn.all.items ++ l.yielded)
    × (vec_capacity l.all ≡ vec_capacity l.fn.all)
