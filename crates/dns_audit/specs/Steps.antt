-- The steps of the program, in the order of the work, and the causes for which each of them is refused.
use Rattle.std.specs.Prelude.{◌≡◌, ℕ, List, Some, None, IfSome}
use Rattle.dns_keeper.specs.Keeping.{KeeperTold}
use Rattle.dns_edges.specs.Edges.{Around}
use Rattle.dns_words.specs.Writing.{IsUntouched}
use Rattle.dns_zone_map.specs.Zone.{Contents}
use Rattle.dns_store.specs.declared.listing.ListedBatch.{ListedBatch}
use Rattle.dns_audit.specs.declared.fault.AuditFault.{AuditFault}
use Rattle.dns_audit.specs.declared.status.AuditStatus.{AuditStatus}
use Rattle.dns_audit.specs.declared.status.AuditStatus.TheVariants as status
use Rattle.dns_audit.specs.declared.commands.Command.TheVariants.{PrintZone, ListBatches, Compact}
use Rattle.dns_audit.specs.Commands.{command_of}
use Rattle.dns_audit.specs.Lines.{zone_output, batch_lines, rows_line}
use Rattle.dns_audit.specs.Reading.{CountsByFault, IsZoneAt, HasNoZoneAt}
use Rattle.dns_audit.specs.Listed.{Lists, ListsNot}
use Rattle.dns_audit.specs.Printing.{IsPrintable, TellsPrint}
use Rattle.dns_audit.specs.Compacting.{Compacts, CompactsNot}
use Rattle.dns_audit.specs.Status.{status_of}
use Rattle.dns_audit.specs.World.{World, IsStill}

-- a zone was found that has a text: the first rows, so many, stand for it where they are told
pub record FindsZone (journal : Around KeeperTold) (origin : List (List ℕ)) (count : ℕ) (zone : Contents) : Type 0 where
  pub at : IfSome journal.after.rows (IsZoneAt origin count zone)
  pub printable : IsPrintable zone
  pub still : IsStill journal

-- why no zone was found that has a text: there is none at this length; or there is one, and it has none
pub data FindsNoZone (journal : Around KeeperTold) (origin : List (List ℕ)) (count : ℕ) : AuditFault → Type 0 where
  no_zone : {f : AuditFault} → HasNoZoneAt origin count journal.after.rows f → CountsByFault journal.before.faults journal.after.faults f
      → FindsNoZone journal origin count f
  no_text : {f : AuditFault} → (zone : Contents)
      → IfSome journal.after.rows (IsZoneAt origin count zone) → TellsPrint zone f → IsStill journal
      → FindsNoZone journal origin count f

-- only the journal that is read was used, and the clock was not asked
pub record UsesJournal (w : World) : Type 0 where
  pub into : IsUntouched w.into
  pub unasked : w.moment ≡ None

-- what legal words ask for was done, and this is the output
pub data IsDone (w : World) : List ℕ → Type 0 where
  printed : (origin : List (List ℕ)) (count : ℕ) (zone : Contents) → command_of w.words ≡ Some (PrintZone origin count)
      → FindsZone w.journal origin count zone → UsesJournal w → IsDone w (zone_output count zone)
  listed : (origin : List (List ℕ)) (batches : List ListedBatch) → command_of w.words ≡ Some (ListBatches origin)
      → Lists w.journal origin batches → UsesJournal w → IsDone w (batch_lines batches)
  compacted : (origin : List (List ℕ)) (moment written : ℕ) → command_of w.words ≡ Some (Compact origin) → w.moment ≡ Some moment
      → Compacts origin moment w.journal w.into written → IsDone w (rows_line written)

-- A refusal, by the first step in the order of the work that was refused. What comes after that step was not done.
pub data IsRefused (w : World) : AuditStatus → Type 0 where
  at_words : command_of w.words ≡ None → IsUntouched w.journal → UsesJournal w → IsRefused w status.Usage
  without_memory : IsUntouched w.journal → UsesJournal w → IsRefused w status.OutOfMemory
  at_zone : {f : AuditFault} → (origin : List (List ℕ)) (count : ℕ) → command_of w.words ≡ Some (PrintZone origin count)
      → FindsNoZone w.journal origin count f → UsesJournal w → IsRefused w (status_of f)
  at_list : {f : AuditFault} → (origin : List (List ℕ)) → command_of w.words ≡ Some (ListBatches origin)
      → ListsNot w.journal origin f → UsesJournal w → IsRefused w (status_of f)
  at_compact : {f : AuditFault} → (origin : List (List ℕ)) (moment : ℕ)
      → command_of w.words ≡ Some (Compact origin) → w.moment ≡ Some moment
      → CompactsNot origin w.journal w.into f → IsRefused w (status_of f)
