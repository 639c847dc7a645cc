use Rattle.std.proofs.Common.{◌≡◌, ◌⊎◌, ℕ, ◌+◌, ◌-◌, ◌<◌, length, []}
use mathlib.Core.Option.{some}
use lib.ListN.{get_elem?}
use Rattle.dns_ticket_lock.specs.declared.view.Phase.TheVariants.{Idle}
use Rattle.dns_ticket_lock.specs.Lists.{total}
use Rattle.dns_ticket_lock.specs.Rule.{faults_of}
use Rattle.dns_ticket_lock.specs.Passes.{PassSeen, AreAll, pass_faults}
use Rattle.dns_ticket_lock.proofs.closing.join_all.Given as goal

abbrev pub invariant-loop-number : goal.invariant-loop-number
invariant-loop-number g l = record {
  table : l.all.table_id ≡ l.board.table_id;
  bare : l.all.me.1 ≡ [];
  rests : l.all.me.0.phase ≡ Idle;
  more : 0 < l.number;
  at : l.all.me.0.low + 1 ≡ l.number;
  many : length l.all.me.0.accounts + l.number ≡ l.seats + 1;
  left : AreAll l.board.table_id (l.number - 1) l.passes.items;
  found : (i : ℕ) (p : PassSeen) → get_elem? l.fn.passes.items i ≡ some p → ((k : ℕ) × (get_elem? l.passes.items k ≡ some p)) ⊎ ((d : ℕ) × (p.number ≡ l.number + d) × (get_elem? l.all.me.0.accounts d ≡ some p.account));
  sum : total pass_faults l.fn.passes.items ≡ total pass_faults l.passes.items + total faults_of l.all.me.0.accounts;
}

abbrev pub decreases-loop-number : goal.decreases-loop-number
decreases-loop-number g l = l.number
