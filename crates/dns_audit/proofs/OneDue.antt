-- One status alone is due.
use Rattle.std.proofs.Common.{◌≡◌, inl, inr, ℕ, ℤ, pos, List, [], true, false, take, Option, Some, None, Result, Ok, Err, refl, sym, ap, ◌∙◌, subst, arith}
use Rattle.std.specs.Prelude.{◌≢◌}
use Rattle.std.proofs.lemmas.Option.{same_Some}
use Rattle.dns_name.specs.Name.{fold_of}
use Rattle.dns_wire.specs.declared.record.Record.{Record}
use Rattle.dns_keeper.specs.declared.row.Row.{Row}
use Rattle.dns_keeper.specs.declared.batch_row.BatchRow.{BatchRow}
use Rattle.dns_keeper.specs.Batches.{Covers, uncovered}
use Rattle.dns_keeper.proofs.Covering.{covering}
use Rattle.dns_update.specs.declared.replay_kind.ReplayKind.TheVariants.{BatchOutOfPlace}
use Rattle.dns_update.specs.Replay.{Refusal, Replays}
use Rattle.dns_update.proofs.Replayed.{replays_one}
use Rattle.dns_store.specs.Covered.{StandOrNone}
use Rattle.dns_printed.specs.Lone.{has_alias_beside_other}
use Rattle.dns_audit.specs.declared.status.AuditStatus.{AuditStatus}
use Rattle.dns_audit.specs.declared.status.AuditStatus.TheVariants as status
use Rattle.dns_audit.specs.declared.commands.Command.{Command}
use Rattle.dns_audit.specs.declared.commands.Command.TheVariants.{PrintZone, ListBatches, Compact}
use Rattle.dns_audit.specs.Commands.{command_of}
use Rattle.dns_audit.specs.World.{World}
use Rattle.dns_audit.specs.Completeness.{ZoneDue, ListDue, CompactDue, IsDue, by_words, by_zone, by_list, by_compact}
use Rattle.dns_audit.specs.Completeness.{ZoneDue as zone}
use Rattle.dns_audit.specs.Completeness.{ListDue as list}
use Rattle.dns_audit.specs.Completeness.{CompactDue as compact}

-- rows do not end in two ways
abbrev refusal_or : Refusal → Result (List Record) Refusal → Refusal
refusal_or d (Ok records) = d
refusal_or d (Err refusal) = refusal

abbrev recovery : Refusal → AuditStatus
recovery r = status.Recovery r.row r.kind

one_refusal : (origin : List (List ℕ)) (rows : List Row) (a b : Refusal) → Replays origin rows (Err a) → Replays origin rows (Err b) → recovery a ≡ recovery b
one_refusal origin rows a b p q = ap (λ (r : Result (List Record) Refusal). recovery (refusal_or a r)) (replays_one origin rows (Err a) (Err b) p q)

not_both : (origin : List (List ℕ)) (rows : List Row) (records : List Record) (r : Refusal) → Replays origin rows (Ok records) → Replays origin rows (Err r) → ⊥
not_both origin rows records r p q = let both = replays_one origin rows (Ok records) (Err r) p q in cc

same_alias : (origin : List (List ℕ)) (rows : List Row) (r s : List Record) → Replays origin rows (Ok r) → Replays origin rows (Ok s) → has_alias_beside_other r ≡ true → has_alias_beside_other s ≡ false → ⊥
same_alias origin rows r s p q has lacks =
    let same : r ≡ s = ap (records_or r) (replays_one origin rows (Ok r) (Ok s) p q) in
    let both : has_alias_beside_other s ≡ true = subst (λ (x : List Record). has_alias_beside_other x ≡ true) same has in
    cc
  where
    records_or : List Record → Result (List Record) Refusal → List Record
    records_or d (Ok records) = records
    records_or d (Err refusal) = d

-- ---- the zone at a length

zone_one : (origin : List (List ℕ)) (count : ℕ) (rows : List Row) (a b : AuditStatus) → ZoneDue origin count rows a → ZoneDue origin count rows b → a ≡ b
zone_one origin count rows a b (zone.short fewer) (zone.short few) = refl
zone_one origin count rows a b (zone.short fewer) (zone.refused row why there ends) = absurd (omega (arith, fewer, there))
zone_one origin count rows a b (zone.short fewer) (zone.alias records there stands has) = absurd (omega (arith, fewer, there))
zone_one origin count rows a b (zone.short fewer) (zone.printed records there stands lacks) = absurd (omega (arith, fewer, there))
zone_one origin count rows a b (zone.refused row why there ends) (zone.short fewer) = absurd (omega (arith, fewer, there))
zone_one origin count rows a b (zone.refused row why there ends) (zone.refused id kind at end) =
    one_refusal (fold_of origin) (take count rows) (record { row = row; kind = why }) (record { row = id; kind = kind }) ends end
zone_one origin count rows a b (zone.refused row why there ends) (zone.alias records at stands has) = absurd (not_both (fold_of origin) (take count rows) records _ stands ends)
zone_one origin count rows a b (zone.refused row why there ends) (zone.printed records at stands lacks) = absurd (not_both (fold_of origin) (take count rows) records _ stands ends)
zone_one origin count rows a b (zone.alias records there stands has) (zone.short fewer) = absurd (omega (arith, fewer, there))
zone_one origin count rows a b (zone.alias records there stands has) (zone.refused row why at ends) = absurd (not_both (fold_of origin) (take count rows) records _ stands ends)
zone_one origin count rows a b (zone.alias records there stands has) (zone.alias others at stand too) = refl
zone_one origin count rows a b (zone.alias records there stands has) (zone.printed others at stand lacks) = absurd (same_alias (fold_of origin) (take count rows) records others stands stand has lacks)
zone_one origin count rows a b (zone.printed records there stands lacks) (zone.short fewer) = absurd (omega (arith, fewer, there))
zone_one origin count rows a b (zone.printed records there stands lacks) (zone.refused row why at ends) = absurd (not_both (fold_of origin) (take count rows) records _ stands ends)
zone_one origin count rows a b (zone.printed records there stands lacks) (zone.alias others at stand has) = absurd (same_alias (fold_of origin) (take count rows) others records stand stands has lacks)
zone_one origin count rows a b (zone.printed records there stands lacks) (zone.printed others at stand neither) = refl

-- ---- the list of batches

not_refused : (origin : List (List ℕ)) (rows : List Row) (r : Refusal) → rows ≢ [] → Replays (fold_of origin) rows (Err r) → StandOrNone origin rows → ⊥
not_refused origin rows r some ends (inl none) = some none
not_refused origin rows r some ends (inr stands) = not_both (fold_of origin) rows stands.0 r stands.1 ends

one_place : (rows : List Row) (batches : List BatchRow) (p q : ℤ) → uncovered (pos 1) rows batches ≡ Some p → uncovered (pos 1) rows batches ≡ Some q → p ≡ q
one_place rows batches p q a b = same_Some p q (sym a ∙ b)

not_covered : (rows : List Row) (batches : List BatchRow) (place : ℤ) → uncovered (pos 1) rows batches ≡ Some place → Covers (pos 1) rows batches → ⊥
not_covered rows batches place at covers = let none = covering (pos 1) batches rows covers in let some = at in cc

list_one : (origin : List (List ℕ)) (rows : List Row) (batches : List BatchRow) (a b : AuditStatus) → ListDue origin rows batches a → ListDue origin rows batches b → a ≡ b
list_one origin rows batches a b (list.refused row why some ends) (list.refused id kind too end) =
    one_refusal (fold_of origin) rows (record { row = row; kind = why }) (record { row = id; kind = kind }) ends end
list_one origin rows batches a b (list.refused row why some ends) (list.uncovered_at place stands at) = absurd (not_refused origin rows _ some ends stands)
list_one origin rows batches a b (list.refused row why some ends) (list.listed stands covers) = absurd (not_refused origin rows _ some ends stands)
list_one origin rows batches a b (list.uncovered_at place stands at) (list.refused row why some ends) = absurd (not_refused origin rows _ some ends stands)
list_one origin rows batches a b (list.uncovered_at place stands at) (list.uncovered_at other stand too) = ap (λ (p : ℤ). status.Recovery p BatchOutOfPlace) (one_place rows batches place other at too)
list_one origin rows batches a b (list.uncovered_at place stands at) (list.listed stand covers) = absurd (not_covered rows batches place at covers)
list_one origin rows batches a b (list.listed stands covers) (list.refused row why some ends) = absurd (not_refused origin rows _ some ends stands)
list_one origin rows batches a b (list.listed stands covers) (list.uncovered_at place stand at) = absurd (not_covered rows batches place at covers)
list_one origin rows batches a b (list.listed stands covers) (list.listed stand cover) = refl

-- ---- the other journal

compact_one : (origin : List (List ℕ)) (rows others : List Row) (a b : AuditStatus) → CompactDue origin rows others a → CompactDue origin rows others b → a ≡ b
compact_one origin rows others a b (compact.full some) (compact.full too) = refl
compact_one origin rows others a b (compact.full some) (compact.refused row why none ends) = absurd (some none)
compact_one origin rows others a b (compact.full some) (compact.compacted records none stands) = absurd (some none)
compact_one origin rows others a b (compact.refused row why none ends) (compact.full some) = absurd (some none)
compact_one origin rows others a b (compact.refused row why none ends) (compact.refused id kind too end) =
    one_refusal (fold_of origin) rows (record { row = row; kind = why }) (record { row = id; kind = kind }) ends end
compact_one origin rows others a b (compact.refused row why none ends) (compact.compacted records too stands) = absurd (not_both (fold_of origin) rows records _ stands ends)
compact_one origin rows others a b (compact.compacted records none stands) (compact.full some) = absurd (some none)
compact_one origin rows others a b (compact.compacted records none stands) (compact.refused row why too ends) = absurd (not_both (fold_of origin) rows records _ stands ends)
compact_one origin rows others a b (compact.compacted records none stands) (compact.compacted other too stand) = refl

-- ---- all commands

abbrev origin_in : Option Command → List (List ℕ)
origin_in (Some (PrintZone origin count)) = origin
origin_in (Some (ListBatches origin)) = origin
origin_in (Some (Compact origin)) = origin
origin_in None = []

abbrev count_in : Option Command → ℕ
count_in (Some (PrintZone origin count)) = count
count_in (Some (ListBatches origin)) = 0
count_in (Some (Compact origin)) = 0
count_in None = 0

module _ (w : World) where
  both_zone : (a b : AuditStatus) (o p : List (List ℕ)) (n m : ℕ) (r s : List Row) → command_of w.words ≡ Some (PrintZone o n) → command_of w.words ≡ Some (PrintZone p m)
      → w.journal.before.rows ≡ Some r → w.journal.before.rows ≡ Some s → ZoneDue o n r a → ZoneDue p m s b → a ≡ b
  both_zone a b o p n m r s x y at too da db =
      let origin : p ≡ o = ap origin_in (sym y ∙ x) in
      let count : m ≡ n = ap count_in (sym y ∙ x) in
      let rows : s ≡ r = same_Some s r (sym too ∙ at) in
      zone_one o n r a b da (subst (λ (k : ℕ). ZoneDue o k r b) count (subst (λ (q : List (List ℕ)). ZoneDue q m r b) origin (subst (λ (l : List Row). ZoneDue p m l b) rows db)))

  both_list : (a b : AuditStatus) (o p : List (List ℕ)) (r s : List Row) → command_of w.words ≡ Some (ListBatches o) → command_of w.words ≡ Some (ListBatches p)
      → w.journal.before.rows ≡ Some r → w.journal.before.rows ≡ Some s → ListDue o r w.journal.before.batches a → ListDue p s w.journal.before.batches b → a ≡ b
  both_list a b o p r s x y at too da db =
      let origin : p ≡ o = ap origin_in (sym y ∙ x) in
      let rows : s ≡ r = same_Some s r (sym too ∙ at) in
      list_one o r w.journal.before.batches a b da
      (subst (λ (q : List (List ℕ)). ListDue q r w.journal.before.batches b) origin (subst (λ (l : List Row). ListDue p l w.journal.before.batches b) rows db))

  both_compact : (a b : AuditStatus) (o p : List (List ℕ)) (r s l k : List Row) → command_of w.words ≡ Some (Compact o) → command_of w.words ≡ Some (Compact p)
      → w.journal.before.rows ≡ Some r → w.journal.before.rows ≡ Some s → w.into.before.rows ≡ Some l → w.into.before.rows ≡ Some k → CompactDue o r l a → CompactDue p s k b → a ≡ b
  both_compact a b o p r s l k x y at too there as_well da db =
      let origin : p ≡ o = ap origin_in (sym y ∙ x) in
      let rows : s ≡ r = same_Some s r (sym too ∙ at) in
      let others : k ≡ l = same_Some k l (sym as_well ∙ there) in
      compact_one o r l a b da
      (subst (λ (q : List (List ℕ)). CompactDue q r l b) origin (subst (λ (m : List Row). CompactDue p m l b) rows (subst (λ (m : List Row). CompactDue p s m b) others db)))

  pub due_one : (a b : AuditStatus) → IsDue w a → IsDue w b → a ≡ b
  due_one a b (by_words none) (by_words too) = refl
  due_one a b (by_words none) (by_zone p m s legal too db) = absurd cc
  due_one a b (by_words none) (by_list p s legal too db) = absurd cc
  due_one a b (by_words none) (by_compact p s k legal too there db) = absurd cc
  due_one a b (by_zone o n r legal at da) (by_words none) = absurd cc
  due_one a b (by_zone o n r x at da) (by_zone p m s y too db) = both_zone a b o p n m r s x y at too da db
  due_one a b (by_zone o n r x at da) (by_list p s y too db) = absurd cc
  due_one a b (by_zone o n r x at da) (by_compact p s k y too there db) = absurd cc
  due_one a b (by_list o r x at da) (by_words none) = absurd cc
  due_one a b (by_list o r x at da) (by_zone p m s y too db) = absurd cc
  due_one a b (by_list o r x at da) (by_list p s y too db) = both_list a b o p r s x y at too da db
  due_one a b (by_list o r x at da) (by_compact p s k y too there db) = absurd cc
  due_one a b (by_compact o r l x at there da) (by_words none) = absurd cc
  due_one a b (by_compact o r l x at there da) (by_zone p m s y too db) = absurd cc
  due_one a b (by_compact o r l x at there da) (by_list p s y too db) = absurd cc
  due_one a b (by_compact o r l x at there da) (by_compact p s k y too as_well db) = both_compact a b o p r s l k x y at too there as_well da db
