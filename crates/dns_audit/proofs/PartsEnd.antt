-- How the parts of the top call end.
use Rattle.std.proofs.Common.{◌≡◌, ℕ, ◌++◌, List, Result, Ok, Err, refl}
use Rattle.std.specs.Prelude.{IfSome}
use Rattle.dns_io.specs.declared.io_fault.IoFault.{IoFault}
use Rattle.dns_wire.specs.declared.record.Record.{Record}
use Rattle.dns_keeper.specs.Keeping.{KeeperTold, KeeperOf}
use Rattle.dns_edges.specs.Edges.{Around, around, SinkOf}
use Rattle.dns_words.specs.Writing.{WritesWhole, WantedMemory}
use Rattle.dns_zone_map.specs.Zone.{Contents, serial_of}
use Rattle.dns_store.specs.declared.listing.ListedBatch.{ListedBatch}
use Rattle.dns_printed.specs.Printed.{zone_text}
use Rattle.dns_audit.specs.declared.fault.AuditFault.{AuditFault}
use Rattle.dns_audit.specs.declared.status.AuditStatus.{AuditStatus}
use Rattle.dns_audit.specs.declared.status.AuditStatus.TheVariants as status
use Rattle.dns_audit.specs.Lines.{length_line, zone_output, batch_lines, rows_line}
use Rattle.dns_audit.specs.Reading.{ReadsJournal, IsZoneAt, HasNoZoneAt}
use Rattle.dns_audit.specs.Listed.{Lists, ListsNot}
use Rattle.dns_audit.specs.Printing.{IsPrintable, TellsPrint}
use Rattle.dns_audit.specs.Compacting.{Compacts, CompactsNot}
use Rattle.dns_audit.specs.Status.{status_of, refusal_line}
use Rattle.dns_audit.specs.Writing.{after_writing, EndsWriting, EndsRefusing}
use Rattle.dns_audit.specs.Steps.{no_zone, no_text}
use Rattle.dns_audit.specs.Parts.{Finishes, did, refused, PrintsText, PrintsNoText, PrintsZone, PrintsNoZone, PrintsBatches, PrintsNoBatches, PrintsRows, PrintsNoRows}

module _ {S : Type 0} (sink : SinkOf S) (before after : S) where
  -- a text was written, or not to its end
  writes : (text : List ℕ) (s : AuditStatus) (r : Result (Unit {0}) IoFault) → WritesWhole (around sink.told before after) text r → s ≡ after_writing status.Ok r
      → EndsWriting (around sink.told before after) text status.Ok s
  writes text s r written is = record { result = r; written = written; status = is }

  abbrev Gives : AuditStatus → AuditStatus → Type 0
  Gives meant s = meant ≡ status.KeeperFault → s ≡ status.OutOfMemory → WantedMemory sink before (refusal_line status.KeeperFault) after

  -- the text of a zone
  pub text_did : (zone : Contents) (count serial : ℕ) (lines : List Record) (s : AuditStatus) (r : Result (Unit {0}) IoFault) → lines ≡ zone.records → serial ≡ serial_of zone.records → IsPrintable zone
      → WritesWhole (around sink.told before after) (zone_text lines ++ length_line count serial) r → s ≡ after_writing status.Ok r
      → Finishes sink before after (PrintsText zone count) (PrintsNoText zone) s
  text_did zone count serial lines s r same numbered printable written is =
      did (zone_output count zone) (record { printable = printable; is = refl })
      (writes (zone_output count zone) s r (rw (same, numbered) at written) is)

  pub text_refused : (zone : Contents) (count : ℕ) (f : AuditFault) (meant s : AuditStatus) → TellsPrint zone f → meant ≡ status_of f → EndsRefusing (around sink.told before after) meant s → Gives meant s
      → Finishes sink before after (PrintsText zone count) (PrintsNoText zone) s
  text_refused zone count f meant s told is ends wanted = refused meant (record { f = f; told = told; is = is }) ends wanted

  -- the zone at a length
  pub zone_did : {K : Type 0} (keeper : KeeperOf K) (old new : K) (origin : List (List ℕ)) (count : ℕ) (zone : Contents) (s : AuditStatus) → IfSome (keeper.told new).rows (IsZoneAt origin count zone)
      → ReadsJournal keeper old new (Ok zone) → Finishes sink before after (PrintsText zone count) (PrintsNoText zone) s
      → Finishes sink before after (PrintsZone (around keeper.told old new) origin count) (PrintsNoZone (around keeper.told old new) origin count) s
  zone_did keeper old new origin count zone s at read (did text p ends) = did text (record { zone = zone; found = record { at = at; printable = p.printable; still = read.counts }; is = p.is }) ends
  zone_did keeper old new origin count zone s at read (refused meant p ends wanted) = refused meant (record { f = p.f; none = no_text zone at p.told read.counts; is = p.is }) ends wanted

  pub zone_refused : {K T : Type 0} (keeper : KeeperOf K) (old new : K) (origin : List (List ℕ)) (count : ℕ) (f : AuditFault) (meant s : AuditStatus) → HasNoZoneAt origin count (keeper.told new).rows f
      → ReadsJournal {T = T} keeper old new (Err f) → meant ≡ status_of f → EndsRefusing (around sink.told before after) meant s → Gives meant s
      → Finishes sink before after (PrintsZone (around keeper.told old new) origin count) (PrintsNoZone (around keeper.told old new) origin count) s
  zone_refused keeper old new origin count f meant s none read is ends wanted = refused meant (record { f = f; none = no_zone none read.counts; is = is }) ends wanted

  -- the list of batches
  pub list_did : (journal : Around KeeperTold) (origin : List (List ℕ)) (listed : List ListedBatch) (s : AuditStatus) (r : Result (Unit {0}) IoFault) → Lists journal origin listed
      → WritesWhole (around sink.told before after) (batch_lines listed) r → s ≡ after_writing status.Ok r → Finishes sink before after (PrintsBatches journal origin) (PrintsNoBatches journal origin) s
  list_did journal origin listed s r lists written is = did (batch_lines listed) (record { listed = listed; lists = lists; is = refl }) (writes (batch_lines listed) s r written is)

  pub list_refused : (journal : Around KeeperTold) (origin : List (List ℕ)) (f : AuditFault) (meant s : AuditStatus) → ListsNot journal origin f → meant ≡ status_of f
      → EndsRefusing (around sink.told before after) meant s → Gives meant s → Finishes sink before after (PrintsBatches journal origin) (PrintsNoBatches journal origin) s
  list_refused journal origin f meant s none is ends wanted = refused meant (record { f = f; none = none; is = is }) ends wanted

  -- the rows of the other journal
  pub rows_did : (origin : List (List ℕ)) (moment written : ℕ) (journal other : Around KeeperTold) (s : AuditStatus) (r : Result (Unit {0}) IoFault) → Compacts origin moment journal other written
      → WritesWhole (around sink.told before after) (rows_line written) r → s ≡ after_writing status.Ok r → Finishes sink before after (PrintsRows origin moment journal other) (PrintsNoRows origin journal other) s
  rows_did origin moment written journal other s r compacts wrote is = did (rows_line written) (record { written = written; compacts = compacts; is = refl }) (writes (rows_line written) s r wrote is)

  pub rows_refused : (origin : List (List ℕ)) (moment : ℕ) (journal other : Around KeeperTold) (f : AuditFault) (meant s : AuditStatus) → CompactsNot origin journal other f → meant ≡ status_of f
      → EndsRefusing (around sink.told before after) meant s → Gives meant s → Finishes sink before after (PrintsRows origin moment journal other) (PrintsNoRows origin journal other) s
  rows_refused origin moment journal other f meant s none is ends wanted = refused meant (record { f = f; none = none; is = is }) ends wanted
