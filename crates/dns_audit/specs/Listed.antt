-- The batches of a journal, and why they are not listed.
use Rattle.std.specs.Prelude.{◌≡◌, ℕ, List}
use Rattle.dns_keeper.specs.Keeping.{KeeperTold}
use Rattle.dns_edges.specs.Edges.{Around}
use Rattle.dns_store.specs.declared.opening.OpenKind.{OpenKind}
use Rattle.dns_store.specs.declared.listing.ListedBatch.{ListedBatch}
use Rattle.dns_store.specs.Covered.{IsCovered}
use Rattle.dns_store.specs.Listing.{ListsBy, AreSound, IsUnsound}
use Rattle.dns_audit.specs.declared.fault.AuditFault.{AuditFault}
use Rattle.dns_audit.specs.Faults.{of_kind}
use Rattle.dns_audit.specs.Reading.{CountsByFault}

-- the batches were listed: the rows stand for a zone of this origin, or there are none, and the batches cover them
pub record Lists (journal : Around KeeperTold) (origin : List (List ℕ)) (listed : List ListedBatch) : Type 0 where
  pub is : ListsBy journal.after listed
  pub sound : AreSound origin journal.after
  pub covered : IsCovered journal.after
  pub still : journal.after.faults ≡ journal.before.faults

-- why they were not: the rows are no zone's; they are, or there are none, but the batches do not cover them; the journal failed; or memory
-- ran out
pub record ListsNot (journal : Around KeeperTold) (origin : List (List ℕ)) (f : AuditFault) : Type 0 where
  pub kind : OpenKind
  pub is : f ≡ of_kind kind
  pub unsound : IsUnsound journal.before journal.after origin kind
  pub counts : CountsByFault journal.before.faults journal.after.faults f
