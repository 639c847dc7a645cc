-- Of what the program was given one status is due: and that comes, where no object fails and memory does not run out.
use Rattle.std.proofs.Common.{◌≡◌, ◌⊎◌, inl, inr, ℕ, pos, List, [], false, Option, Some, None, IsSome, Ok, Err, refl, sym, ap, ◌∙◌, subst}
use Rattle.std.specs.Prelude.{IfSome, ◌≢◌}
use Rattle.std.proofs.lemmas.Option.{same_Some}
use Rattle.dns_io.specs.Told.{Keeps, Told}
use Rattle.dns_name.specs.Name.{fold_of}
use Rattle.dns_keeper.specs.declared.row.Row.{Row}
use Rattle.dns_keeper.specs.declared.batch_row.BatchRow.{BatchRow}
use Rattle.dns_keeper.specs.Batches.{Covers, uncovered}
use Rattle.dns_keeper.specs.Keeping.{KeepsBatches}
use Rattle.dns_zone_map.specs.Zone.{Contents}
use Rattle.dns_update.specs.declared.replay_kind.ReplayKind.{ReplayKind}
use Rattle.dns_update.specs.declared.replay_kind.ReplayKind.TheVariants.{BatchOutOfPlace}
use Rattle.dns_update.specs.Replay.{Replays}
use Rattle.dns_store.specs.declared.opening.OpenKind.{OpenKind}
use Rattle.dns_store.specs.declared.opening.OpenKind.TheVariants as kind
use Rattle.dns_store.specs.Covered.{StandOrNone}
use Rattle.dns_store.specs.Listing.{IsUnsound}
use Rattle.dns_printed.specs.Lone.{has_alias_beside_other}
use Rattle.dns_audit.specs.declared.fault.AuditFault.{AuditFault}
use Rattle.dns_audit.specs.declared.fault.AuditFault.TheVariants as fault
use Rattle.dns_audit.specs.declared.status.AuditStatus.{AuditStatus}
use Rattle.dns_audit.specs.declared.status.AuditStatus.TheVariants as status
use Rattle.dns_audit.specs.declared.commands.Command.TheVariants.{PrintZone, ListBatches, Compact}
use Rattle.dns_audit.specs.Commands.{command_of}
use Rattle.dns_audit.specs.Faults.{of_kind}
use Rattle.dns_audit.specs.Reading.{CountsByFault, IsZoneAt, IsShort, IsRefusedAt, HasNoZoneAt}
use Rattle.dns_audit.specs.Listed.{Lists}
use Rattle.dns_audit.specs.Printing.{TellsPrint}
use Rattle.dns_audit.specs.Compacting.{CompactsNot, CountsBoth}
use Rattle.dns_audit.specs.Status.{status_of}
use Rattle.dns_audit.specs.World.{World}
use Rattle.dns_audit.specs.Steps.{no_zone, no_text, IsDone, printed, listed, compacted, IsRefused, at_words, without_memory, at_zone, at_list, at_compact}
use Rattle.dns_audit.specs.Ends.{Ends, with_output, with_refusal, without_line, with_write_fault, cut_for_memory}
use Rattle.dns_audit.specs.Completeness.{ZoneDue, ListDue, IsDue, by_words, by_zone, by_list, by_compact, IsFaultless, IsTold, Completes}
use Rattle.dns_audit.specs.Completeness.{ZoneDue as zone}
use Rattle.dns_audit.specs.Completeness.{ListDue as list}
use Rattle.dns_audit.specs.Completeness.{CompactDue as compact}

-- ---- what is told

-- content that is told after a call that kept it was told before it
kept_at : {A : Type 0} (before after : Option A) → Keeps before after → IsSome after → (a : A) × (before ≡ Some a) × (after ≡ Some a)
kept_at before None kept some = absurd cc
kept_at None (Some a) kept some = absurd kept
kept_at (Some b) (Some a) kept some = (b, refl, ap Some kept)

-- and what holds of it
holds_at : {A : Type 0} (P : A → Type 0) (after : Option A) (a : A) → after ≡ Some a → IfSome after P → P a
holds_at P None a is holds = absurd cc
holds_at P (Some x) a is holds = subst P (same_Some _ _ is) holds

told_at : {A B : Type 0} (R : A → B → Type 0) (before : Option A) (after : Option B) → Told R before after → IsSome after → (a : A) × (b : B) × (before ≡ Some a) × (after ≡ Some b) × R a b
told_at R before None told some = absurd cc
told_at R None (Some b) told some = absurd told
told_at R (Some a) (Some b) told some = (a, b, refl, refl, told)

-- so of two contents that were told alike
told_of : {A B : Type 0} (R : A → B → Type 0) (before : Option A) (after : Option B) (a : A) → before ≡ Some a → Told R before after → IsSome after → (b : B) × R a b
told_of R before after a is told some =
    let t = told_at R before after told some in
    (t.1, subst (λ x. R x t.1) (same_Some _ _ (sym t.2 ∙ is)) t.4)

-- ---- the zone at a length

zone_found : (origin : List (List ℕ)) (count : ℕ) (rows : List Row) (z : Contents) → IsZoneAt origin count z rows → has_alias_beside_other z.records ≡ false → ZoneDue origin count rows status.Ok
zone_found origin count rows z at alone = zone.printed z.records at.there at.replays alone

zone_short : (origin : List (List ℕ)) (count some : ℕ) (rows : List Row) → IsShort count some rows → ZoneDue origin count rows (status.Short some)
zone_short origin count some rows at = subst (λ (n : ℕ). ZoneDue origin count rows (status.Short n)) (sym at.all) (zone.short at.fewer)

module _ (w : World) (kept : Keeps w.journal.before.rows w.journal.after.rows) (same : KeepsBatches w.journal.before w.journal.after) (faultless : IsFaultless w) (told : IsTold w) where
  rows_of : (rows : List Row) × (w.journal.before.rows ≡ Some rows) × (w.journal.after.rows ≡ Some rows)
  rows_of = kept_at w.journal.before.rows w.journal.after.rows kept told.journal

  due_zone : (f : AuditFault) (origin : List (List ℕ)) (count : ℕ) → command_of w.words ≡ Some (PrintZone origin count) → HasNoZoneAt origin count w.journal.after.rows f
      → CountsByFault w.journal.before.faults w.journal.after.faults f → IsDue w (status_of f) ⊎ (status_of f ≡ status.OutOfMemory)
  due_zone fault.KeeperFault origin count legal none counts = absurd (faultless.journal counts)
  due_zone (fault.Short some) origin count legal none counts =
      inl (by_zone origin count rows_of.0 legal rows_of.1 (zone_short origin count some rows_of.0 (holds_at (IsShort count some) w.journal.after.rows rows_of.0 rows_of.2 none)))
  due_zone (fault.Recovery row why) origin count legal none counts =
      let at : IsRefusedAt origin count row why rows_of.0 = holds_at (IsRefusedAt origin count row why) w.journal.after.rows rows_of.0 rows_of.2 none in
      inl (by_zone origin count rows_of.0 legal rows_of.1 (zone.refused row why at.there at.replays))
  due_zone fault.AliasBesideOther origin count legal none counts = absurd none
  due_zone fault.NotEmpty origin count legal none counts = absurd none
  due_zone fault.OutOfMemory origin count legal none counts = inr refl

  due_text : (f : AuditFault) (origin : List (List ℕ)) (count : ℕ) (z : Contents) → command_of w.words ≡ Some (PrintZone origin count) → IfSome w.journal.after.rows (IsZoneAt origin count z)
      → TellsPrint z f → IsDue w (status_of f) ⊎ (status_of f ≡ status.OutOfMemory)
  due_text fault.KeeperFault origin count z legal at none = absurd none
  due_text (fault.Short some) origin count z legal at none = absurd none
  due_text (fault.Recovery row why) origin count z legal at none = absurd none
  due_text fault.AliasBesideOther origin count z legal at none =
      let is : IsZoneAt origin count z rows_of.0 = holds_at (IsZoneAt origin count z) w.journal.after.rows rows_of.0 rows_of.2 at in
      inl (by_zone origin count rows_of.0 legal rows_of.1 (zone.alias z.records is.there is.replays none))
  due_text fault.NotEmpty origin count z legal at none = absurd none
  due_text fault.OutOfMemory origin count z legal at none = inr refl

  -- ---- the list of batches

  due_list : (k : OpenKind) (origin : List (List ℕ)) → command_of w.words ≡ Some (ListBatches origin) → IsUnsound w.journal.before w.journal.after origin k
      → CountsByFault w.journal.before.faults w.journal.after.faults (of_kind k) → IsDue w (status_of (of_kind k)) ⊎ (status_of (of_kind k) ≡ status.OutOfMemory)
  due_list (kind.Recovery row why) origin legal (inl refused) counts =
      let some = told_of (λ (old new : List Row). old ≢ []) w.journal.before.rows w.journal.after.rows rows_of.0 rows_of.1 refused.0 told.journal in
      let ends = told_of (λ (old new : List Row). Replays (fold_of origin) old (Err (record { row = row; kind = why }))) w.journal.before.rows w.journal.after.rows rows_of.0 rows_of.1 refused.1 told.journal in
      inl (by_list origin rows_of.0 legal rows_of.1 (list.refused row why some.1 ends.1))
  due_list (kind.Recovery row why) origin legal (inr uncovered_is) counts =
      let t = told_of (λ (old new : List Row). StandOrNone origin old × (why ≡ BatchOutOfPlace) × (uncovered (pos 1) old w.journal.before.batches ≡ Some row))
      w.journal.before.rows w.journal.after.rows rows_of.0 rows_of.1 uncovered_is told.journal in
      let out : IsDue w (status.Recovery row BatchOutOfPlace) = by_list origin rows_of.0 legal rows_of.1 (list.uncovered_at row t.1.0 t.1.2) in
      inl (subst (λ (k : ReplayKind). IsDue w (status.Recovery row k)) (sym t.1.1) out)
  due_list kind.KeeperFault origin legal unsound counts = absurd (faultless.journal counts)
  due_list kind.NoZone origin legal unsound counts = absurd unsound
  due_list kind.OutOfMemory origin legal unsound counts = inr refl

  listed_due : (origin : List (List ℕ)) (batches : List _) → Lists w.journal origin batches → ListDue origin rows_of.0 w.journal.before.batches status.Ok
  listed_due origin batches is =
      let sound : StandOrNone origin rows_of.0 = holds_at (StandOrNone origin) w.journal.after.rows rows_of.0 rows_of.2 is.sound in
      let covers : Covers (pos 1) rows_of.0 w.journal.after.batches = holds_at (λ rows. Covers (pos 1) rows w.journal.after.batches) w.journal.after.rows rows_of.0 rows_of.2 is.covered in
      let alike = told_of (λ (old new : List Row). w.journal.after.batches ≡ w.journal.before.batches) w.journal.before.rows w.journal.after.rows rows_of.0 rows_of.1 same told.journal in
      list.listed sound (subst (λ (bs : List BatchRow). Covers (pos 1) rows_of.0 bs) alike.1 covers)

  -- ---- the other journal

  unfailed : CountsBoth w.journal.before.faults w.journal.after.faults w.into.before.faults w.into.after.faults fault.KeeperFault → ⊥
  unfailed (inl a) = faultless.journal a.0
  unfailed (inr b) = faultless.into b.1

  due_compact : (f : AuditFault) (origin : List (List ℕ)) → command_of w.words ≡ Some (Compact origin) → CompactsNot origin w.journal w.into f → IsDue w (status_of f) ⊎ (status_of f ≡ status.OutOfMemory)
  due_compact fault.KeeperFault origin legal none = absurd (unfailed none.counts)
  due_compact (fault.Short some) origin legal none = absurd none.cause
  due_compact (fault.Recovery row why) origin legal none =
      let empty = told_at (λ (old new : List Row). old ≡ []) w.into.before.rows w.into.after.rows none.cause.0 (told.into origin legal) in
      let ends = holds_at (λ l. Replays (fold_of origin) l (Err (record { row = row; kind = why }))) w.journal.after.rows rows_of.0 rows_of.2 none.cause.1 in
      inl (by_compact origin rows_of.0 empty.0 legal rows_of.1 empty.2 (compact.refused row why empty.4 ends))
  due_compact fault.AliasBesideOther origin legal none = absurd none.cause
  due_compact fault.NotEmpty origin legal none =
      let some = told_at (λ (old new : List Row). old ≢ []) w.into.before.rows w.into.after.rows none.cause (told.into origin legal) in
      inl (by_compact origin rows_of.0 some.0 legal rows_of.1 some.2 (compact.full some.4))
  due_compact fault.OutOfMemory origin legal none = inr refl

  -- ---- all commands

  due_done : (text : List ℕ) → IsDone w text → IsDue w status.Ok
  due_done text (printed origin count z legal found uses) =
      by_zone origin count rows_of.0 legal rows_of.1 (zone_found origin count rows_of.0 z (holds_at (IsZoneAt origin count z) w.journal.after.rows rows_of.0 rows_of.2 found.at) found.printable.alone)
  due_done text (listed origin batches legal lists uses) = by_list origin rows_of.0 legal rows_of.1 (listed_due origin batches lists)
  due_done text (compacted origin moment written legal asked done) =
      let empty = told_at (λ (old new : List Row). old ≡ []) w.into.before.rows w.into.after.rows done.gets.empty (told.into origin legal) in
      let ends = holds_at (λ l. Replays (fold_of origin) l (Ok done.zone.records)) w.journal.after.rows rows_of.0 rows_of.2 done.is.replays in
      by_compact origin rows_of.0 empty.0 legal rows_of.1 empty.2 (compact.compacted done.zone.records empty.4 ends)

  due_refused : (s : AuditStatus) → IsRefused w s → IsDue w s ⊎ (s ≡ status.OutOfMemory)
  due_refused s (at_words none unread uses) = inl (by_words none)
  due_refused s (without_memory unread uses) = inr refl
  due_refused s (at_zone {f} origin count legal (no_zone none counts) uses) = due_zone f origin count legal none counts
  due_refused s (at_zone {f} origin count legal (no_text z at none still) uses) = due_text f origin count z legal at none
  due_refused s (at_list {f} origin legal none uses) =
      subst (λ (g : AuditFault). IsDue w (status_of g) ⊎ (status_of g ≡ status.OutOfMemory)) (sym none.is)
      (due_list none.kind origin legal none.unsound (subst (CountsByFault w.journal.before.faults w.journal.after.faults) none.is none.counts))
  due_refused s (at_compact {f} origin moment legal asked none) = due_compact f origin legal none

  due_ends : (s : AuditStatus) → Ends w s → IsDue w s ⊎ (s ≡ status.OutOfMemory)
  due_ends s (with_output text done written) = inl (due_done text done)
  due_ends s (with_refusal line refused written) = due_refused _ refused
  due_ends s (without_line none refused untouched) = due_refused _ refused
  due_ends s (with_write_fault rose cut) = absurd (faultless.output rose)
  due_ends s (cut_for_memory cut) = inr refl

pub completes : (w : World) (s : AuditStatus) → Keeps w.journal.before.rows w.journal.after.rows → KeepsBatches w.journal.before w.journal.after → Ends w s → Completes w s
completes w s kept same ends faultless told = due_ends w kept same faultless told s ends
