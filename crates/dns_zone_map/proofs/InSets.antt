-- A record that is put among the sets of a name: where its set stands.
use Rattle.std.proofs.Common.{◌≡◌, ℕ, zero, suc, ◌<◌, List, [], ◌∷◌, ◌++◌, length, get_or, take, drop, refl, sym, ap, ◌∙◌, arith, inl, inr, subst, Result, Ok, Err, IfOk, OnOk}
use Rattle.std.specs.Prelude.{slice_set, Option, None}
use Rattle.std.specs.List.{AllByRecursion, insert}
use Rattle.std.proofs.lemmas.List.{set_split, set-get_or, take-append-drop}
use Rattle.dns_wire.specs.declared.record.Record.{Record}
use Rattle.dns_zone_map.specs.declared.sets.RecordSet.{RecordSet}
use Rattle.dns_zone_map.specs.Zone.{is_rival}
use Rattle.dns_zone_map.specs.Changes.{first_that}
use Rattle.dns_zone_map.specs.Sets.{TypesRise}
use Rattle.dns_zone_map.specs.Insertion.{put_in_set, new_set, StandsAt, ComesAt, PutInSets}

above : (a b : ℕ) (ss : List RecordSet) → a < b → AllByRecursion (λ t. b < t.rtype) ss → AllByRecursion (λ t. a < t.rtype) ss
above a b [] h l = tt
above a b (s ∷ ss) h l = (let m : b < s.rtype = l.0 in omega arith, above a b ss h l.1)

-- where types rise, those from a greater one on are greater
pub rise_from : (rtype place : ℕ) (sets : List RecordSet) (d : RecordSet) → TypesRise sets → place < length sets → rtype < (get_or sets place d).rtype → AllByRecursion (λ s. rtype < s.rtype) (drop place sets)
rise_from rtype place [] d rise within h = absurd (omega arith)
rise_from rtype zero (s ∷ ss) d rise within h = (h, above rtype s.rtype ss h rise.0)
rise_from rtype (suc place) (s ∷ ss) d rise within h = rise_from rtype place ss d rise.1 (omega arith) h

parts_at : (sets : List RecordSet) (place : ℕ) (d : RecordSet) → place < length sets → sets ≡ take place sets ++ get_or sets place d ∷ drop (suc place) sets
parts_at sets place d within = sym (set-get_or sets place d) ∙ set_split sets place (get_or sets place d) within

pub into_set : (number : ℕ) (one : Record) (before after : List RecordSet) (old : Option Record) (place : ℕ) (d : RecordSet) → StandsAt one.rtype before place → after ≡ slice_set before place (put_in_set number one (get_or before place d)) → old ≡ first_that (is_rival one) (get_or before place d).records
    → PutInSets number one before after old
into_set number one before after old place d at is replaced =
    inl (record {
      front = take place before;
      set = get_or before place d;
      back = drop (suc place) before;
      was = parts_at before place d at.within;
      typed = at.typed d;
      is = is ∙ set_split before place (put_in_set number one (get_or before place d)) at.within;
      replaced = replaced;
    })

pub into_new_set : (number : ℕ) (one : Record) (before after : List RecordSet) (place : ℕ) (set : RecordSet) → ComesAt one.rtype before place → set ≡ new_set number one → after ≡ insert before place set → PutInSets number one before after None
into_new_set number one before after place set at new is =
    inr (record { front = take place before; back = drop place before; was = sym (take-append-drop place before); lower = at.lower; upper = at.upper; is = is ∙ ap (λ s. insert before place s) new; replaced = refl })

-- the same of sets that are seen as their list
pub found_put : {E : Type 0} (number : ℕ) (one : Record) (items read seen after : List RecordSet) (place : ℕ) (result : Result (Option Record) E) → items ≡ seen → read ≡ items → StandsAt one.rtype read place
    → OnOk result ((d : RecordSet) → after ≡ slice_set items place (put_in_set number one (get_or items place d))) → IfOk result (λ old. (d : RecordSet) → old ≡ first_that (is_rival one) (get_or items place d).records) → IfOk result (λ old. PutInSets number one seen after old)
found_put number one items read seen after place (Err e) view same at is replaced = tt
found_put number one items read seen after place (Ok old) view same at is replaced =
    let d : RecordSet = new_set number one in
    subst (λ (before : List RecordSet). PutInSets number one before after old) view (into_set number one items after old place d (subst (λ (before : List RecordSet). StandsAt one.rtype before place) same at) (is d) (replaced d))

pub new_put : (number : ℕ) (one : Record) (items read seen after : List RecordSet) (place : ℕ) (set : RecordSet) → items ≡ seen → read ≡ items → ComesAt one.rtype read place → set ≡ new_set number one → after ≡ insert items place set → PutInSets number one seen after None
new_put number one items read seen after place set view same at new is =
    subst (λ (before : List RecordSet). PutInSets number one before after None) view (into_new_set number one items after place set (subst (λ (before : List RecordSet). ComesAt one.rtype before place) same at) new is)
