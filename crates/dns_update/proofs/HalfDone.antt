-- An update that is half done, with one record more.
use Rattle.std.proofs.Common.{◌≡◌, ℕ, List, refl, sym, ap, ◌∙◌, subst, arith, Bool, true, false, append_assoc, length-append, drop, get_or}
use Rattle.std.specs.Prelude.{◌+◌, ◌-◌, ◌<◌, ◌^◌, ◌++◌, [], ◌∷◌, length, nat_lt}
use Rattle.std.specs.List.{AllByRecursion}
use Rattle.std.proofs.lemmas.List.{drop_more}
use Rattle.dns_wire.specs.declared.record.Record.{Record}
use Rattle.dns_wire.specs.WireFormat.{AreShort}
use Rattle.dns_zone_map.specs.Zone.{Contents, IsZone, IsSoFar}
use Rattle.dns_update.specs.declared.verdict.Verdict.TheVariants.{Passes}
use Rattle.dns_update.specs.declared.batch.Modified.{Modified}
use Rattle.dns_zone_map.specs.Changes.{set_serial}
use Rattle.dns_update.specs.Change.{fold_record, step, steps, change, makes_change, batch_of}
use Rattle.dns_update.specs.Modified.{modified_with, sum_of}
use Rattle.dns_update.specs.Verdict.{prescan_rule, prescan}
use Rattle.dns_update.specs.Replay.{IsJournalledAsIs}
use Rattle.dns_update.specs.UnderWay.{IsUnderWay}
use Rattle.dns_update.proofs.Batches.{both_pass}
use Rattle.dns_update.proofs.Doing.{undone, done, batch_on, batch_by, steps_on, modified_on, counted_once}
use Rattle.dns_update.proofs.Zones.{so_far_at, soa_at}

module _ (before now after : Contents) (updates rest batch : List Record) (counts : Modified) (r small : Record) (changed : Bool)
    (is : small ≡ fold_record r) (u : IsUnderWay before updates (r ∷ rest) now batch counts)
    (e : changed ≡ makes_change now.origin now.records small)
    (origin : after.origin ≡ now.origin) (made : after.records ≡ change now.origin now.records small) (zone : IsZone after.origin after.records) where
  change_is : after.records ≡ change before.origin now.records (fold_record r)
  change_is = made ∙ ap (λ (o : List (List ℕ)). change o now.records small) u.origin ∙ ap (change before.origin now.records) is

  changes_is : changed ≡ makes_change before.origin now.records (fold_record r)
  changes_is = e ∙ ap (λ (o : List (List ℕ)). makes_change o now.records small) u.origin ∙ ap (makes_change before.origin now.records) is

  passes : prescan after.origin rest ≡ Passes
  passes =
      subst (λ (o : List (List ℕ)). prescan o rest ≡ Passes) (sym origin)
      (both_pass (prescan_rule now.origin r) (prescan now.origin rest) u.passes).1

  -- it changed nothing
  pub passed_by : changed ≡ false → IsUnderWay before updates rest after batch counts
  passed_by h =
      let same : now.records ≡ after.records = undone before.origin now.records (fold_record r) changed changes_is h ∙ sym change_is in
      record {
        origin = origin ∙ u.origin;
        zone = zone;
        passes = passes;
        back = u.back.1;
        whole =
            ap (λ (l : List Record). batch ++ batch_of before.origin l rest) (sym same)
            ∙ ap (λ (l : List Record). batch ++ l) (sym (batch_by before.origin now.records r rest (sym changes_is ∙ h))) ∙ u.whole;
        made = sym same ∙ u.made;
        counted = u.counted;
      }

  -- it changed the zone
  pub taken_in : changed ≡ true → (more : Modified) → more ≡ modified_with counts small (nat_lt (length now.records) (length after.records))
      → IsUnderWay before updates rest after (batch ++ small ∷ []) more
  taken_in h more counted =
      let stepped : after.records ≡ step before.origin now.records (fold_record r) = change_is ∙ sym (done before.origin now.records (fold_record r) changed changes_is h) in
      let made : after.records ≡ steps before.origin before.records (batch ++ small ∷ []) =
      stepped ∙ ap (λ (s : Record). step before.origin now.records s) (sym is) ∙ ap (λ (l : List Record). step before.origin l small) u.made ∙ sym (steps_on before.origin before.records batch small) in
      let before_is : nat_lt (length now.records) (length after.records) ≡ nat_lt (length (steps before.origin before.records batch)) (length (step before.origin (steps before.origin before.records batch) small)) =
      ap (λ (l : List Record). nat_lt (length l) (length after.records)) u.made
      ∙ ap (λ (l : List Record). nat_lt (length (steps before.origin before.records batch)) (length l)) (made ∙ steps_on before.origin before.records batch small) in
      record {
        origin = origin ∙ u.origin;
        zone = zone;
        passes = passes;
        back = u.back.1;
        whole =
            append_assoc batch (small ∷ []) (batch_of before.origin after.records rest)
            ∙ ap (λ (s : Record). batch ++ s ∷ batch_of before.origin after.records rest) is
            ∙ ap (λ (l : List Record). batch ++ fold_record r ∷ batch_of before.origin l rest) change_is
            ∙ ap (λ (l : List Record). batch ++ l) (sym (batch_on before.origin now.records r rest (sym changes_is ∙ h))) ∙ u.whole;
        made = made;
        counted =
            counted ∙ ap (λ (g : Bool). modified_with counts small g) before_is
            ∙ ap (λ (m : Modified). modified_with m small (nat_lt (length (steps before.origin before.records batch)) (length (step before.origin (steps before.origin before.records batch) small)))) u.counted
            ∙ sym (modified_on before.origin before.records batch small);
      }

-- the records of a batch, and so their counts, are few enough for one more
pub has_room : (sum many : ℕ) (batch : List Record) (r : Record) → sum ≡ length batch → many ≡ length (batch ++ r ∷ []) → many < 2 ^ 64 → sum < 2 ^ 64 - 1
has_room sum many batch r counted is small =
    let more : length (batch ++ r ∷ []) ≡ length batch + 1 = length-append batch (r ∷ []) in
    omega (arith, counted, is, small, more)

pub grew : (counts : Modified) (r : Record) (size more : ℕ) (records after : List Record) → size ≡ length records → more ≡ length after
    → modified_with counts r (nat_lt size more) ≡ modified_with counts r (nat_lt (length records) (length after))
grew counts r size more records after p q = rw (p, q) refl

-- the next of the records that are left
pub next_of : (before now : Contents) (updates xs batch : List Record) (counts : Modified) (i : ℕ) (one : Record) → i < length xs → one ≡ get_or xs i one → IsUnderWay before updates (drop i xs) now batch counts
    → IsUnderWay before updates (one ∷ drop (i + 1) xs) now batch counts
next_of before now updates xs batch counts i one within is u =
    let parts : drop i xs ≡ one ∷ drop (i + 1) xs = drop_more xs i one within ∙ ap (λ (r : Record). r ∷ drop (i + 1) xs) (sym is) in
    subst (λ (rest : List Record). IsUnderWay before updates rest now batch counts) parts u

pub next_passes : (before now : Contents) (updates rest batch : List Record) (counts : Modified) (one : Record) → IsUnderWay before updates (one ∷ rest) now batch counts → prescan_rule now.origin one ≡ Passes
next_passes before now updates rest batch counts one u = (both_pass (prescan_rule now.origin one) (prescan now.origin rest) u.passes).0

pub counted_all : (before now : Contents) (updates rest batch : List Record) (counts : Modified) → IsUnderWay before updates rest now batch counts → sum_of counts ≡ length batch
counted_all before now updates rest batch counts u = ap sum_of u.counted ∙ counted_once before.origin before.records batch

-- a zone with another serial
pub zone_serial : (origin other : List (List ℕ)) (records after : List Record) (serial : ℕ) → IsZone origin records → other ≡ origin → after ≡ set_serial serial records → IsZone other after
zone_serial origin other records after serial zone same is =
    let before : IsSoFar origin records = record { entries = zone.entries; distinct = zone.distinct } in
    let so_far : IsSoFar origin (set_serial serial records) = so_far_at origin serial records before in
    let whole : IsZone origin (set_serial serial records) =
    record { folded = zone.folded; entries = so_far.entries; distinct = so_far.distinct; soa = soa_at serial records ∙ zone.soa } in
    subst (λ (l : List Record). IsZone other l) (sym is) (subst (λ (o : List (List ℕ)). IsZone o (set_serial serial records)) (sym same) whole)

-- what can be journalled is short
pub short_journalled : (origin : List (List ℕ)) (batch : List Record) → AllByRecursion (IsJournalledAsIs origin) batch → AreShort batch
short_journalled origin [] all = tt
short_journalled origin (r ∷ batch) all = (all.0.back.short, short_journalled origin batch all.1)

-- the next record of what is left of a batch, and the others
pub left_of : (origin : List (List ℕ)) (batch : List Record) (i : ℕ) (one : Record) → i < length batch → one ≡ get_or batch i one → AllByRecursion (IsJournalledAsIs origin) (drop i batch)
    → AllByRecursion (IsJournalledAsIs origin) (one ∷ drop (i + 1) batch)
left_of origin batch i one within is left =
    let parts : drop i batch ≡ one ∷ drop (i + 1) batch = drop_more batch i one within ∙ ap (λ (r : Record). r ∷ drop (i + 1) batch) (sym is) in
    subst (AllByRecursion (IsJournalledAsIs origin)) parts left

pub steps_of : (origin : List (List ℕ)) (records batch : List Record) (i : ℕ) (one : Record) → i < length batch → one ≡ get_or batch i one
    → steps origin (step origin records one) (drop (i + 1) batch) ≡ steps origin records (drop i batch)
steps_of origin records batch i one within is =
    let parts : drop i batch ≡ one ∷ drop (i + 1) batch = drop_more batch i one within ∙ ap (λ (r : Record). r ∷ drop (i + 1) batch) (sym is) in
    ap (steps origin records) (sym parts)
