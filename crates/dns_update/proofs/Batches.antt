-- What the records of a batch are, and what they do.
use Rattle.std.proofs.Common.{◌≡◌, ℕ, suc, List, [], ◌∷◌, refl, ap, ◌∙◌, subst, Bool, true, false, arith}
use Rattle.std.specs.Prelude.{◌≤◌, length, not, ◌==◌, ◌&&◌, if◌then◌else◌}
use Rattle.std.specs.List.{list_any, AllByRecursion}
use Rattle.dns_name.specs.Name.{is_same_name, is_at_or_below}
use Rattle.dns_wire.specs.declared.record.Record.{Record}
use Rattle.dns_wire.specs.ReadBack.{ReadsBack}
use Rattle.dns_zone_map.specs.Zone.{serial_or, serial_of}
use Rattle.dns_zone_map.specs.Existence.{owns_type}
use Rattle.dns_update.specs.Change.{fold_record, bears_other, is_newer, is_ignored, step, steps, change, changes, are_same_records, batch_of}
use Rattle.dns_update.specs.Verdict.{is_update, prescan_rule, prescan, demand, and_then}
use Rattle.dns_update.specs.declared.verdict.Verdict.{Verdict}
use Rattle.dns_update.specs.declared.verdict.Verdict.TheVariants.{Fails, Passes}
use Rattle.dns_update.specs.Replay.{is_stray_soa, is_journalled, IsJournalledAsIs}
use Rattle.dns_update.proofs.Folded.{fold_record-fold_record, below_folded, update_folded, back_folded}
use Rattle.dns_update.proofs.SameRecords.{are_same_records-self, are_same_records-true}

stray_if : {X : Type 0} (soa here same newer other : Bool) (l m : X) → (soa && (here && not same)) ≡ true → (if here && (if soa then not (same && newer) else other) then l else m) ≡ l
stray_if false here same newer other l m h = absurd cc
stray_if true false same newer other l m h = absurd cc
stray_if true true true newer other l m h = absurd cc
stray_if true true false newer other l m h = refl

-- an SOA away from the origin changes nothing
stray_changes : (origin : List (List ℕ)) (l : List Record) (r : Record) → is_stray_soa origin r ≡ true → change origin l r ≡ l
stray_changes origin l r h =
    stray_if (r.rtype == 6) (r.class == 1) (is_same_name r.name origin) (is_newer (serial_or r.rdata 0) (serial_of l))
    (if r.rtype == 5 then list_any (bears_other r.name) l else owns_type l r.name 5) l (step origin l r) h

both_ways : (b : Bool) → b ≡ true → b ≡ false → ⊥
both_ways b p q = cc

false_unless : (b : Bool) → (b ≡ true → ⊥) → b ≡ false
false_unless true f = absurd (f refl)
false_unless false f = refl

pub change_if : (b : Bool) (l m : List Record) → are_same_records (if b then l else m) l ≡ false → (if b then l else m) ≡ m
change_if true l m h = absurd (both_ways (are_same_records l l) (are_same_records-self l) h)
change_if false l m h = refl

steps_if : (b : Bool) (origin : List (List ℕ)) (l : List Record) (r : Record) (rs : List Record) → are_same_records (change origin l (fold_record r)) l ≡ b
    → ((m : List Record) → steps origin m (batch_of origin m rs) ≡ changes origin m rs)
    → steps origin l (if b then batch_of origin l rs else fold_record r ∷ batch_of origin (change origin l (fold_record r)) rs) ≡ changes origin (change origin l (fold_record r)) rs
steps_if true origin l r rs e ih = rw (are_same_records-true (change origin l (fold_record r)) l e) (ih l)
steps_if false origin l r rs e ih =
    let s : change origin l (fold_record r) ≡ step origin l (fold_record r) = change_if ((r.class == 1) && is_ignored origin l (fold_record r)) l (step origin l (fold_record r)) e in
    subst (λ (m : List Record). steps origin m (batch_of origin (change origin l (fold_record r)) rs) ≡ changes origin (change origin l (fold_record r)) rs) s (ih (change origin l (fold_record r)))

-- put or deleted one by one, the records of a batch do what the update does
pub steps_changes : (origin : List (List ℕ)) (l : List Record) (rs : List Record) → steps origin l (batch_of origin l rs) ≡ changes origin l rs
steps_changes origin l [] = refl
steps_changes origin l (r ∷ rs) = steps_if (are_same_records (change origin l (fold_record r)) l) origin l r rs refl (λ m. steps_changes origin m rs)

-- what passed a rule
demanded : (b : Bool) (code : ℕ) → demand b code ≡ Passes → b ≡ true
demanded true code h = refl
demanded false code h = absurd cc

scanned_if : (within : Bool) (b : Bool) → (if not within then Fails 10 else demand b 1) ≡ Passes → (within ≡ true) × (b ≡ true)
scanned_if true b h = (refl, demanded b 1 h)
scanned_if false b h = absurd cc

pub scanned : (origin : List (List ℕ)) (r : Record) → prescan_rule origin r ≡ Passes → (is_at_or_below r.name origin ≡ true) × (is_update r ≡ true)
scanned origin r h = scanned_if (is_at_or_below r.name origin) (is_update r) h

pub both_pass : (first next : Verdict) → and_then first next ≡ Passes → (first ≡ Passes) × (next ≡ Passes)
both_pass Passes next h = (refl, h)
both_pass (Fails code) next h = absurd cc

pub not_stray : (origin : List (List ℕ)) (l : List Record) (r : Record) → are_same_records (change origin l r) l ≡ false → is_stray_soa origin r ≡ false
not_stray origin l r e =
    false_unless (is_stray_soa origin r) (λ h. both_ways (are_same_records l l) (are_same_records-self l) (subst (λ (m : List Record). are_same_records m l ≡ false) (stray_changes origin l r h) e))

pub journalled : (origin : List (List ℕ)) (r : Record) → prescan_rule origin r ≡ Passes → is_stray_soa origin (fold_record r) ≡ false → is_journalled origin (fold_record r) ≡ true
journalled origin r passed stray =
    let parts = scanned origin r passed in
    rw (below_folded r.name origin, parts.0, update_folded r, parts.1, stray) refl

batch_if : (b : Bool) (origin : List (List ℕ)) (l : List Record) (r : Record) (rs : List Record) → are_same_records (change origin l (fold_record r)) l ≡ b
    → ReadsBack r → prescan_rule origin r ≡ Passes → ((m : List Record) → AllByRecursion (IsJournalledAsIs origin) (batch_of origin m rs))
    → AllByRecursion (IsJournalledAsIs origin) (if b then batch_of origin l rs else fold_record r ∷ batch_of origin (change origin l (fold_record r)) rs)
batch_if true origin l r rs e back passed ih = ih l
batch_if false origin l r rs e back passed ih = (
  record {
    back = back_folded r back;
    folded = fold_record-fold_record r;
    journalled = journalled origin r passed (not_stray origin l (fold_record r) e);
  },
  ih (change origin l (fold_record r)),
)

-- the records of a batch are changes that their rows give back
pub batch_journalled : (origin : List (List ℕ)) (l : List Record) (rs : List Record) → AllByRecursion ReadsBack rs → prescan origin rs ≡ Passes → AllByRecursion (IsJournalledAsIs origin) (batch_of origin l rs)
batch_journalled origin l [] back passed = tt
batch_journalled origin l (r ∷ rs) back passed =
    let parts = both_pass (prescan_rule origin r) (prescan origin rs) passed in
    batch_if (are_same_records (change origin l (fold_record r)) l) origin l r rs refl back.0 parts.0 (λ m. batch_journalled origin m rs back.1 parts.1)

few_if : (b : Bool) (r : Record) (n : ℕ) (same more : List Record) → length same ≤ n → length more ≤ n → length (if b then same else r ∷ more) ≤ suc n
few_if true r n same more p q = omega (arith, p)
few_if false r n same more p q = omega (arith, q)

-- a batch has no more records than its update
pub batch_few : (origin : List (List ℕ)) (l : List Record) (rs : List Record) → length (batch_of origin l rs) ≤ length rs
batch_few origin l [] = omega arith
batch_few origin l (r ∷ rs) =
    few_if (are_same_records (change origin l (fold_record r)) l) (fold_record r) (length rs) (batch_of origin l rs) (batch_of origin (change origin l (fold_record r)) rs)
    (batch_few origin l rs) (batch_few origin (change origin l (fold_record r)) rs)

-- what can be journalled passes the prescan
journalled_if : (within update home : Bool) → (within && (update && home)) ≡ true → (if not within then Fails 10 else demand update 1) ≡ Passes
journalled_if true true home h = refl
journalled_if true false home h = absurd cc
journalled_if false update home h = absurd cc

prescan_journalled : (origin : List (List ℕ)) (rs : List Record) → AllByRecursion (IsJournalledAsIs origin) rs → prescan origin rs ≡ Passes
prescan_journalled origin [] all = refl
prescan_journalled origin (r ∷ rs) all =
    ap (λ v. and_then v (prescan origin rs)) (journalled_if (is_at_or_below r.name origin) (is_update r) (not (is_stray_soa origin r)) all.0.journalled)
    ∙ prescan_journalled origin rs all.1

pub batch_passes : (origin : List (List ℕ)) (l : List Record) (rs : List Record) → AllByRecursion ReadsBack rs → prescan origin rs ≡ Passes → prescan origin (batch_of origin l rs) ≡ Passes
batch_passes origin l rs back passed = prescan_journalled origin (batch_of origin l rs) (batch_journalled origin l rs back passed)
