use Rattle.std.proofs.Common.{◌≡◌, ◌≢◌, ℕ, ◌<◌}
use mathlib.Core.Option.{some}
use lib.ListN.{get_elem?}
use Rattle.dns_ticket_lock.specs.Passes.{PassSeen}
use Rattle.dns_ticket_lock.proofs.closing.place_of.Given as goal

abbrev pub invariant-loop-place : goal.invariant-loop-place
invariant-loop-place l = (m : ℕ) (p : PassSeen) → m < l.place → get_elem? l.passes.items m ≡ some p → p.number ≢ l.number
