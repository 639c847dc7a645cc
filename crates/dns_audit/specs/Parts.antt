-- What the parts of the top call say of its end.
use Rattle.std.specs.Prelude.{◌≡◌, ℕ, List}
use Rattle.dns_keeper.specs.Keeping.{KeeperTold}
use Rattle.dns_edges.specs.Edges.{Around, around, SinkOf}
use Rattle.dns_words.specs.Writing.{WantedMemory}
use Rattle.dns_zone_map.specs.Zone.{Contents}
use Rattle.dns_store.specs.declared.listing.ListedBatch.{ListedBatch}
use Rattle.dns_audit.specs.declared.fault.AuditFault.{AuditFault}
use Rattle.dns_audit.specs.declared.status.AuditStatus.{AuditStatus}
use Rattle.dns_audit.specs.declared.status.AuditStatus.TheVariants as status
use Rattle.dns_audit.specs.Lines.{zone_output, batch_lines, rows_line}
use Rattle.dns_audit.specs.Listed.{Lists, ListsNot}
use Rattle.dns_audit.specs.Printing.{IsPrintable, TellsPrint}
use Rattle.dns_audit.specs.Compacting.{Compacts, CompactsNot}
use Rattle.dns_audit.specs.Status.{status_of, refusal_line}
use Rattle.dns_audit.specs.Writing.{EndsWriting, EndsRefusing}
use Rattle.dns_audit.specs.Steps.{FindsZone, FindsNoZone}
use Rattle.dns_audit.specs.World.{World}
use Rattle.dns_audit.specs.Ends.{Ends}
use Rattle.dns_audit.specs.Completeness.{Completes}
use Rattle.dns_audit.specs.Counts.{Counts}

-- a call wrote the output of what it did, or the line of a refusal; where this is that of a journal that failed, it gave way to want of
-- memory only where the output wanted it for the line
pub data Finishes {S : Type 0} (sink : SinkOf S) (before after : S) (Does : List ℕ → Type 0) (Refuses : AuditStatus → Type 0)
    (s : AuditStatus) : Type 0 where
  did : (text : List ℕ) → Does text → EndsWriting (around sink.told before after) text status.Ok s
      → Finishes sink before after Does Refuses s
  refused : (meant : AuditStatus) → Refuses meant → EndsRefusing (around sink.told before after) meant s
      → (meant ≡ status.KeeperFault → s ≡ status.OutOfMemory → WantedMemory sink before (refusal_line status.KeeperFault) after)
      → Finishes sink before after Does Refuses s

-- the text of a zone, and its length and serial
pub record PrintsText (zone : Contents) (count : ℕ) (text : List ℕ) : Type 0 where
  pub printable : IsPrintable zone
  pub is : text ≡ zone_output count zone

-- or why it has none
pub record PrintsNoText (zone : Contents) (meant : AuditStatus) : Type 0 where
  pub f : AuditFault
  pub told : TellsPrint zone f
  pub is : meant ≡ status_of f

-- the zone at a length, printed
pub record PrintsZone (journal : Around KeeperTold) (origin : List (List ℕ)) (count : ℕ) (text : List ℕ) : Type 0 where
  pub zone : Contents
  pub found : FindsZone journal origin count zone
  pub is : text ≡ zone_output count zone

-- or why there is none
pub record PrintsNoZone (journal : Around KeeperTold) (origin : List (List ℕ)) (count : ℕ) (meant : AuditStatus) : Type 0 where
  pub f : AuditFault
  pub none : FindsNoZone journal origin count f
  pub is : meant ≡ status_of f

-- the lines of the batches
pub record PrintsBatches (journal : Around KeeperTold) (origin : List (List ℕ)) (text : List ℕ) : Type 0 where
  pub listed : List ListedBatch
  pub lists : Lists journal origin listed
  pub is : text ≡ batch_lines listed

-- or why there are none
pub record PrintsNoBatches (journal : Around KeeperTold) (origin : List (List ℕ)) (meant : AuditStatus) : Type 0 where
  pub f : AuditFault
  pub none : ListsNot journal origin f
  pub is : meant ≡ status_of f

-- the number of rows that were written into the other journal
pub record PrintsRows (origin : List (List ℕ)) (moment : ℕ) (journal other : Around KeeperTold) (text : List ℕ) : Type 0 where
  pub written : ℕ
  pub compacts : Compacts origin moment journal other written
  pub is : text ≡ rows_line written

-- or why none were
pub record PrintsNoRows (origin : List (List ℕ)) (journal other : Around KeeperTold) (meant : AuditStatus) : Type 0 where
  pub f : AuditFault
  pub none : CompactsNot origin journal other f
  pub is : meant ≡ status_of f

-- all that is told of the end of the top call
pub record Tells {S : Type 0} (sink : SinkOf S) (before after : S) (w : World) (s : AuditStatus) : Type 0 where
  pub ends : Ends w s
  pub completes : Completes w s
  pub counts : Counts sink before after w s
