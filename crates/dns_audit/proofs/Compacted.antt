-- A journal that was compacted into another one, or was not.
use Rattle.std.proofs.Common.{◌≡◌, inl, inr, ℕ, ℤ, pos, ◌+ℤ◌, List, [], ◌∷◌, length, Option, Some, None, Result, Ok, Err, refl, sym, ap, ◌∙◌, subst}
use Rattle.std.specs.Prelude.{IfSome, ◌≢◌}
use Rattle.dns_io.specs.Told.{Keeps, Told}
use Rattle.dns_name.specs.Name.{fold_of}
use Rattle.dns_wire.specs.declared.record.Record.{Record}
use Rattle.dns_edges.specs.Edges.{around}
use Rattle.dns_keeper.specs.declared.row.Row.{Row}
use Rattle.dns_keeper.specs.declared.batch_row.BatchRow.{BatchRow}
use Rattle.dns_keeper.specs.declared.keeper.KeepFault.{KeepFault}
use Rattle.dns_keeper.specs.declared.keeper.KeepFault.TheVariants as keep
use Rattle.dns_keeper.specs.Rows.{last_id, appended}
use Rattle.dns_keeper.specs.Batches.{Covers, batches_with}
use Rattle.dns_keeper.specs.Keeping.{KeeperOf, KeeperTold, IsFirstRow, HasBatch, GrowsByBatch, GrowsByRun, KeepsBatches, HasCause}
use Rattle.dns_keeper.specs.Calls.{ReadsRow}
use Rattle.dns_keeper.specs.Crash.{LeavesWhole}
use Rattle.dns_zone_map.specs.Zone.{Contents, serial_of}
use Rattle.dns_update.specs.Replay.{Refusal, Replays, opening_of}
use Rattle.dns_store.specs.declared.opening.OpenKind.{OpenKind}
use Rattle.dns_store.specs.declared.opening.OpenKind.TheVariants as kind
use Rattle.dns_store.specs.Store.{StandFor}
use Rattle.dns_store.specs.Covered.{IsCovered}
use Rattle.dns_store.specs.Opening.{HadNoRow, AreUnread}
use Rattle.dns_store.proofs.Opened.{since, HasRows-begun, StandFor-begun}
use Rattle.dns_store.proofs.ToldBatches.{covered_begun, since_both, batches_on, whole_since}
use Rattle.dns_store.proofs.ReadRows.{kept_on}
use Rattle.dns_audit.specs.declared.fault.AuditFault.{AuditFault}
use Rattle.dns_audit.specs.declared.fault.AuditFault.TheVariants as fault
use Rattle.dns_audit.specs.declared.commands.Command.TheVariants.{Compact}
use Rattle.dns_audit.specs.Commands.{command_of}
use Rattle.dns_audit.specs.Faults.{of_kind, of_keeper}
use Rattle.dns_audit.specs.Reading.{CountsByFault, ReadsJournal}
use Rattle.dns_audit.specs.Compacting.{IsWholeZone, GetsZone, GetsNoZone, HasNoWholeZone, SeesRow, IsOfKeeper, Compacts, CompactsNot, IsUncompacted, CountsBoth, LeavesCompacted, in_append, LeavesInto, unused, by_compact}

-- ---- the look at the other journal

pub seen_empty : (old new : Option (List Row)) (found : Option Row) → found ≡ None → Keeps old new → IsFirstRow new found → HadNoRow old new
seen_empty old None found is kept seen = tt
seen_empty None (Some rows) found is kept seen = absurd kept
seen_empty (Some before) (Some []) found is kept seen = sym kept
seen_empty (Some before) (Some (row ∷ rows)) found is kept seen = absurd (let none = seen in let no = is in cc)

some_rows : (rows before : List Row) (row : Row) (found : Option Row) → found ≡ Some row → rows ≡ before → IsFirstRow (Some rows) found → before ≢ []
some_rows [] before row found is same seen none = absurd (let some = is in let no = seen in cc)
some_rows (r ∷ rows) before row found is same seen none = absurd (let a = same in let b = none in cc)

pub seen_full : (old new : Option (List Row)) (row : Row) (found : Option Row) → found ≡ Some row → Keeps old new → IsFirstRow new found → SeesRow old new fault.NotEmpty
seen_full old None row found is kept seen = tt
seen_full None (Some rows) row found is kept seen = absurd kept
seen_full (Some before) (Some rows) row found is kept seen = some_rows rows before row found is kept seen

pub unseen : (old new : Option (List Row)) (f : KeepFault) (g : AuditFault) → g ≡ of_keeper f → SeesRow old new g
unseen old new keep.Failed g is = subst (SeesRow old new) (sym is) tt
unseen old new keep.OutOfMemory g is = subst (SeesRow old new) (sym is) tt

module _ {K T : Type 0} (keeper : KeeperOf K) (old new : K) (id : ℤ) where
  pub look_well : (found : Option Row) (value : T) → ReadsRow keeper old new id (Ok found) → ReadsJournal keeper old new (Ok value)
  look_well found value read = record { kept = read.kept; batches = read.batches; left = read.left; later = read.cause.later; counts = read.cause.counts }

  pub look_full : (found : Option Row) → ReadsRow keeper old new id (Ok found) → ReadsJournal {T = T} keeper old new (Err fault.NotEmpty)
  look_full found read = record { kept = read.kept; batches = read.batches; left = read.left; later = read.cause.later; counts = read.cause.counts }

  pub look_ill : (f : KeepFault) (g : AuditFault) → g ≡ of_keeper f → ReadsRow keeper old new id (Err f) → ReadsJournal {T = T} keeper old new (Err g)
  look_ill f g is read = subst (λ (h : AuditFault). ReadsJournal {T = T} keeper old new (Err h)) (sym is) (by f read)
    where
      by : (f : KeepFault) → ReadsRow keeper old new id (Err f) → ReadsJournal {T = T} keeper old new (Err (of_keeper f))
      by keep.Failed read = record { kept = read.kept; batches = read.batches; left = read.left; later = read.cause.later; counts = read.cause.counts }
      by keep.OutOfMemory read = record { kept = read.kept; batches = read.batches; left = read.left; later = read.cause.later; counts = read.cause.counts }

-- ---- the zone of all rows

stands_by : (origin : List (List ℕ)) (rows : Option (List Row)) (zone : Contents) → zone.origin ≡ fold_of origin → StandFor rows zone → IfSome rows (λ l. Replays (fold_of origin) l (Ok zone.records))
stands_by origin None zone named stand = tt
stands_by origin (Some rows) zone named stand = subst (λ (o : List (List ℕ)). Replays o rows (Ok zone.records)) named stand

pub whole_zone_is : (origin : List (List ℕ)) (rows : Option (List Row)) (zone : Contents) → zone.origin ≡ fold_of origin → StandFor rows zone → IsWholeZone origin rows zone
whole_zone_is origin rows zone named stand = record { named = named; replays = stands_by origin rows zone named stand }

refused_by : (origin : List (List ℕ)) (old new : Option (List Row)) (end : Result (List Record) Refusal) → Keeps old new → Told (λ (o n : List Row). Replays (fold_of origin) o end) old new → IfSome new (λ l. Replays (fold_of origin) l end)
refused_by origin old None end kept told = tt
refused_by origin None (Some rows) end kept told = absurd kept
refused_by origin (Some before) (Some rows) end kept told = subst (λ (l : List Row). Replays (fold_of origin) l end) (sym kept) told

pub no_whole_zone : (origin : List (List ℕ)) (old new : Option (List Row)) (k : OpenKind) (f : AuditFault) → f ≡ of_kind k → Keeps old new → AreUnread old new origin k → HasNoWholeZone origin new f
no_whole_zone origin old new (kind.Recovery row why) f is kept told =
    subst (HasNoWholeZone origin new) (sym is) (refused_by origin old new (Err (record { row = row; kind = why })) kept told)
no_whole_zone origin old new kind.KeeperFault f is kept told = subst (HasNoWholeZone origin new) (sym is) tt
no_whole_zone origin old new kind.NoZone f is kept told = absurd told
no_whole_zone origin old new kind.OutOfMemory f is kept told = subst (HasNoWholeZone origin new) (sym is) tt

-- ---- the append

nothing_of : (rows : Option (List Row)) (batches : List BatchRow) → HadNoRow rows rows → batches ≡ [] → Told (λ (o s : List Row). (o ≡ []) × (batches ≡ [])) rows rows
nothing_of None batches none empty = tt
nothing_of (Some rows) batches none empty = (none, empty)

none_since : (before after : Option (List Row)) (client serial moment : ℕ) (records : List Record) → HadNoRow before before → GrowsByBatch before after client serial moment records → HadNoRow before after
none_since before None client serial moment records none grew = tt
none_since None (Some after) client serial moment records none grew = absurd grew
none_since (Some before) (Some after) client serial moment records none grew = none

pub gets_zone : (before after : KeeperTold) (zone : Contents) (moment serial written : ℕ) (records : List Record) → HadNoRow before.rows before.rows → GrowsByBatch before.rows after.rows 0 serial moment records
    → GrowsByRun before after records → after.faults ≡ before.faults → serial ≡ serial_of zone.records → records ≡ opening_of zone → written ≡ length records
    → ((client : ℕ) (stamp : List ℕ) → Replays zone.origin (appended [] client (serial_of zone.records) stamp records) (Ok zone.records)) → GetsZone before after zone moment written
gets_zone before after zone moment serial written records none grew run still numbered is count replay = record {
  empty = none_since before.rows after.rows 0 serial moment records none grew;
  grown = subst (λ (l : List Record). GrowsByBatch before.rows after.rows 0 (serial_of zone.records) moment l) is
      (subst (λ (n : ℕ). GrowsByBatch before.rows after.rows 0 n moment records) numbered grew);
  run = subst (λ (l : List Record). GrowsByRun before after l) is run;
  stands = StandFor-begun before.rows after.rows 0 serial moment zone records none grew
      (λ stamp. subst (λ (n : ℕ). Replays zone.origin (appended [] 0 n stamp records) (Ok zone.records)) (sym numbered) (replay 0 stamp));
  number = HasRows-begun before.rows after.rows 0 serial moment records written none grew count;
  count = count ∙ ap length is;
  covered = λ empty. covered_begun before after 0 serial moment records (nothing_of before.rows before.batches none empty) grew run;
  uncounted = still;
}

pub gets_no_zone : (before after : KeeperTold) (f : KeepFault) (g : AuditFault) → g ≡ of_keeper f → Keeps before.rows after.rows → KeepsBatches before after
    → HasCause {T = Unit {0}} before.faults after.faults (Err f) → GetsNoZone before after g
gets_no_zone before after f g is kept batches cause = subst (GetsNoZone before after) (sym is) (by f cause)
  where
    by : (f : KeepFault) → HasCause {T = Unit {0}} before.faults after.faults (Err f) → GetsNoZone before after (of_keeper f)
    by keep.Failed cause = record { cause = tt; kept = kept; batches = batches; counts = cause.counts }
    by keep.OutOfMemory cause = record { cause = tt; kept = kept; batches = batches; counts = cause.counts }

-- ---- the whole, since the look

pub empty_still : (old new : Option (List Row)) → HadNoRow old new → Keeps old new → HadNoRow new new
empty_still old None none kept = tt
empty_still None (Some rows) none kept = absurd kept
empty_still (Some before) (Some rows) none kept = kept ∙ none

covered_since : (o b a : Option (List Row)) (ob bb : List BatchRow) (after : KeeperTold) (client serial moment : ℕ) (records : List Record) → a ≡ after.rows → Told (λ (x y : List Row). bb ≡ ob) o b
    → GrowsByBatch b a client serial moment records → ob ≡ [] → (bb ≡ [] → IsCovered after) → IsCovered after
covered_since o b None ob bb after client serial moment records is same grew empty covers =
    subst (λ (rows : Option (List Row)). IfSome rows (λ l. Covers (pos 1) l after.batches)) is tt
covered_since o None (Some a) ob bb after client serial moment records is same grew empty covers = absurd grew
covered_since None (Some b) (Some a) ob bb after client serial moment records is same grew empty covers = absurd same
covered_since (Some o) (Some b) (Some a) ob bb after client serial moment records is same grew empty covers = covers (same ∙ empty)

gets_since : (before between after : KeeperTold) (zone : Contents) (moment written : ℕ) → Keeps before.rows between.rows → KeepsBatches before between → between.faults ≡ before.faults
    → GetsZone between after zone moment written → GetsZone before after zone moment written
gets_since before between after zone moment written kept same still gets = record {
  empty = since (λ old new. old ≡ []) before.rows between.rows after.rows kept gets.empty;
  grown = since (λ old new. HasBatch old 0 (serial_of zone.records) moment (opening_of zone) new) before.rows between.rows after.rows kept gets.grown;
  run = since_both (λ o bs s. after.batches ≡ batches_with (last_id o +ℤ pos 1) (opening_of zone) bs) before.rows between.rows after.rows before.batches between.batches kept same gets.run;
  stands = gets.stands;
  number = gets.number;
  count = gets.count;
  covered = λ empty. covered_since before.rows between.rows after.rows before.batches between.batches after 0 (serial_of zone.records) moment (opening_of zone) refl same gets.grown empty gets.covered;
  uncounted = gets.uncounted ∙ still;
}

pub compacts_to : {K L T : Type 0} (keeper : KeeperOf K) (into : KeeperOf L) (origin : List (List ℕ)) (moment written : ℕ) (old new : K) (before between after : L) (zone : Contents) (a : T)
    → ReadsJournal into before between (Ok a) → ReadsJournal keeper old new (Ok zone) → IsWholeZone origin (keeper.told new).rows zone
    → GetsZone (into.told between) (into.told after) zone moment written → Compacts origin moment (around keeper.told old new) (around into.told before after) written
compacts_to keeper into origin moment written old new before between after zone a looked read is gets = record {
  zone = zone;
  is = is;
  gets = gets_since (into.told before) (into.told between) (into.told after) zone moment written looked.kept looked.batches looked.counts gets;
  uncounted = read.counts;
}

-- ---- or it was not

look_cause : (origin : List (List ℕ)) (rows old new : Option (List Row)) (f : AuditFault) → SeesRow old new f → IsUncompacted origin rows old new f
look_cause origin rows old new fault.KeeperFault sees = tt
look_cause origin rows old new (fault.Short some) sees = absurd sees
look_cause origin rows old new (fault.Recovery row why) sees = absurd sees
look_cause origin rows old new fault.AliasBesideOther sees = absurd sees
look_cause origin rows old new fault.NotEmpty sees = sees
look_cause origin rows old new fault.OutOfMemory sees = tt

counts_other : (n before now : ℕ) (f : AuditFault) → CountsByFault before now f → CountsBoth n n before now f
counts_other n before now fault.KeeperFault counts = inr (refl, counts)
counts_other n before now (fault.Short some) counts = (refl, counts)
counts_other n before now (fault.Recovery row why) counts = (refl, counts)
counts_other n before now fault.AliasBesideOther counts = (refl, counts)
counts_other n before now fault.NotEmpty counts = (refl, counts)
counts_other n before now fault.OutOfMemory counts = (refl, counts)

counts_after : (n m before now : ℕ) (f : AuditFault) → m ≡ n → CountsByFault before now f → CountsBoth n m before now f
counts_after n m before now f still counts = subst (λ (k : ℕ). CountsBoth n k before now f) (sym still) (counts_other n before now f counts)

counts_first : (before now n m : ℕ) (f : AuditFault) → m ≡ n → CountsByFault before now f → CountsBoth before now n m f
counts_first before now n m fault.KeeperFault still counts = inl (counts, still)
counts_first before now n m (fault.Short some) still counts = (counts, still)
counts_first before now n m (fault.Recovery row why) still counts = (counts, still)
counts_first before now n m fault.AliasBesideOther still counts = (counts, still)
counts_first before now n m fault.NotEmpty still counts = (counts, still)
counts_first before now n m fault.OutOfMemory still counts = (counts, still)

pub compacts_not_seen : {K L T : Type 0} (keeper : KeeperOf K) (into : KeeperOf L) (origin : List (List ℕ)) (old : K) (before after : L) (f : AuditFault) → ReadsJournal {T = T} into before after (Err f)
    → SeesRow (into.told before).rows (into.told after).rows f → CompactsNot origin (around keeper.told old old) (around into.told before after) f
compacts_not_seen keeper into origin old before after f looked sees = record {
  cause = look_cause origin (keeper.told old).rows (into.told before).rows (into.told after).rows f sees;
  kept = looked.kept;
  batches = looked.batches;
  counts = counts_other (keeper.told old).faults (into.told before).faults (into.told after).faults f looked.counts;
}

whole_cause : (origin : List (List ℕ)) (rows old new : Option (List Row)) (f : AuditFault) → HadNoRow old new → HasNoWholeZone origin rows f → IsUncompacted origin rows old new f
whole_cause origin rows old new fault.KeeperFault empty none = tt
whole_cause origin rows old new (fault.Short some) empty none = absurd none
whole_cause origin rows old new (fault.Recovery row why) empty none = (empty, none)
whole_cause origin rows old new fault.AliasBesideOther empty none = absurd none
whole_cause origin rows old new fault.NotEmpty empty none = absurd none
whole_cause origin rows old new fault.OutOfMemory empty none = tt

pub compacts_not_read : {K L T U : Type 0} (keeper : KeeperOf K) (into : KeeperOf L) (origin : List (List ℕ)) (old new : K) (before after : L) (f : AuditFault) (a : U) → ReadsJournal into before after (Ok a)
    → HadNoRow (into.told before).rows (into.told after).rows → ReadsJournal {T = T} keeper old new (Err f) → HasNoWholeZone origin (keeper.told new).rows f
    → CompactsNot origin (around keeper.told old new) (around into.told before after) f
compacts_not_read keeper into origin old new before after f a looked empty read none = record {
  cause = whole_cause origin (keeper.told new).rows (into.told before).rows (into.told after).rows f empty none;
  kept = looked.kept;
  batches = looked.batches;
  counts = counts_first (keeper.told old).faults (keeper.told new).faults (into.told before).faults (into.told after).faults f looked.counts read.counts;
}

keeper_cause : (origin : List (List ℕ)) (rows old new : Option (List Row)) (f : AuditFault) → IsOfKeeper f → IsUncompacted origin rows old new f
keeper_cause origin rows old new fault.KeeperFault is = tt
keeper_cause origin rows old new (fault.Short some) is = absurd is
keeper_cause origin rows old new (fault.Recovery row why) is = absurd is
keeper_cause origin rows old new fault.AliasBesideOther is = absurd is
keeper_cause origin rows old new fault.NotEmpty is = absurd is
keeper_cause origin rows old new fault.OutOfMemory is = tt

pub compacts_not_written : {K L U : Type 0} (keeper : KeeperOf K) (into : KeeperOf L) (origin : List (List ℕ)) (old new : K) (before between after : L) (f : AuditFault) (zone : Contents) (a : U)
    → ReadsJournal into before between (Ok a) → ReadsJournal keeper old new (Ok zone) → GetsNoZone (into.told between) (into.told after) f
    → CompactsNot origin (around keeper.told old new) (around into.told before after) f
compacts_not_written keeper into origin old new before between after f zone a looked read not = record {
  cause = keeper_cause origin (keeper.told new).rows (into.told before).rows (into.told after).rows f not.cause;
  kept = kept_on (into.told before).rows (into.told between).rows (into.told after).rows looked.kept not.kept;
  batches = batches_on (into.told before) (into.told between) (into.told after) looked.kept looked.batches not.batches;
  counts = counts_after (keeper.told old).faults (keeper.told new).faults (into.told before).faults (into.told after).faults f read.counts
      (subst (λ (n : ℕ). CountsByFault n (into.told after).faults f) looked.counts not.counts);
}

-- ---- what a crash may leave

pub leaves_in_append : {L U : Type 0} (into : KeeperOf L) (origin : List (List ℕ)) (moment : ℕ) (rows : Option (List Row)) (before between after : L) (zone : Contents) (a : U) → ReadsJournal into before between (Ok a)
    → IsWholeZone origin rows zone
    → LeavesWhole (into.told between) 0 (serial_of zone.records) moment (opening_of zone) (into.may_leave between) (into.may_leave after) → LeavesCompacted into origin moment rows before after
leaves_in_append into origin moment rows before between after zone a looked is left =
    in_append zone is (whole_since (into.told before) (into.told between) 0 (serial_of zone.records) moment (opening_of zone) (into.may_leave before) (into.may_leave between) (into.may_leave after)
    looked.kept looked.batches looked.left left)

-- at this moment, which is the clock's last reading
pub leaves_into : {L : Type 0} (into : KeeperOf L) (words : List (List ℕ)) (origin : List (List ℕ)) (at last : ℕ) (rows : Option (List Row)) (before after : L) → command_of words ≡ Some (Compact origin) → at ≡ last
    → LeavesCompacted into origin at rows before after → LeavesInto into words last rows before after
leaves_into into words origin at last rows before after legal is left = by_compact origin legal (subst (λ (m : ℕ). LeavesCompacted into origin m rows before after) is left)

-- or it was not used
pub leaves_unused : {L : Type 0} (into : KeeperOf L) (words : List (List ℕ)) (moment : ℕ) (rows : Option (List Row)) (same : L) → LeavesInto into words moment rows same same
leaves_unused into words moment rows same = unused (λ kept left. left)
