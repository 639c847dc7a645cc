-- What a look at the map of a zone says of its list.
use Rattle.std.proofs.Common.{◌≡◌, ℕ, suc, Bool, true, false, List, [], ◌∷◌, length, refl, sym, ap, ◌∙◌, subst, Vec, Global, Bor, eqb, arith, Some, None, Result, Ok, Err, IfOk}
use Rattle.std.specs.Prelude.{Option, ◌&&◌, nat_lt, if◌then◌else◌}
use Rattle.std.specs.Option.{option_copied}
use Rattle.std.specs.List.{list_any, starts_with, AllByRecursion}
use Rattle.std.specs.Map.{lookup}
use Rattle.std.specs.Ordering.{nat_cmp, is_eq}
use Rattle.std.specs.Cmp.Lexicographic.{slice_cmp}
use Rattle.std.proofs.lemmas.List.{length-map}
use Rattle.dns_name.specs.Name.{is_at_or_below}
use Rattle.dns_zone_map.specs.declared.sets.RecordSet.{RecordSet}
use Rattle.dns_zone_map.specs.Keys.{key_of, Placed}
use Rattle.dns_zone_map.specs.Zone.{Contents}
use Rattle.dns_zone_map.specs.Existence.{exists}
use Rattle.dns_zone_map.specs.Presence.{IsPresence, IsPresenceAt}
use Rattle.dns_zone_map.specs.declared.presence.Presence.{Presence}
use Rattle.dns_zone_map.specs.declared.presence.Presence.TheVariants.{Owner, Empty, Absent}
use Rattle.dns_zone_map.specs.Removal.{is_key}
use Rattle.dns_name.proofs.SameNames.{is_at_or_below-Decides}
use Rattle.dns_zone_map.proofs.Written.{key_none}
use Rattle.dns_zone_map.specs.Order.{Numbered, into, by_number, plain, list_of}
use Rattle.dns_zone_map.specs.Sets.{sets_or_none, AreSetsOf, are_some, IsPaired, ArePaired, TypesRise}
use Rattle.dns_zone_map.specs.Tree.{KeysApart, in_entries, AreEntries, IsTree, AreSets, IsSet}
use Rattle.dns_zone_map.proofs.Lent.{sets_are, all_to}
use Rattle.dns_wire.specs.declared.record.Record.{Record}
use Rattle.dns_zone_map.proofs.Exists.{exists_at}

into_if : (b : Bool) (x y : Numbered) (ys : List Numbered) → length (into x ys) ≡ suc (length ys) → length (if b then y ∷ into x ys else x ∷ y ∷ ys) ≡ suc (suc (length ys))
into_if true x y ys e = ap suc e
into_if false x y ys e = refl

length-into : (x : Numbered) (ys : List Numbered) → length (into x ys) ≡ suc (length ys)
length-into x [] = refl
length-into x (y ∷ ys) = into_if (nat_lt y.number x.number) x y ys (length-into x ys)

length-by_number : (xs : List Numbered) → length (by_number xs) ≡ length xs
length-by_number [] = refl
length-by_number (x ∷ xs) = length-into x (by_number xs) ∙ ap suc (length-by_number xs)

-- the list has as many records as the map
pub length-list_of : (xs : List Numbered) → length (list_of xs) ≡ length xs
length-list_of xs = length-map (by_number xs) plain ∙ length-by_number xs

pub count_is : (origin : List (List ℕ)) (es : List (Vec ℕ Global × List RecordSet)) (count : ℕ) (zone : Contents) → record { origin = origin; records = list_of (in_entries es) } ≡ zone → count ≡ length (in_entries es) → count ≡ length zone.records
count_is origin es count zone view is = is ∙ sym (length-list_of (in_entries es)) ∙ ap (λ z. length z.records) view

module _ (origin : List (List ℕ)) (es : List (Vec ℕ Global × List RecordSet)) (next count : ℕ) (zone : Contents) (placed : Placed) (view : record { origin = origin; records = list_of (in_entries es) } ≡ zone) (tree : IsTree origin es next count) (same : placed.origin ≡ zone.origin) (name : List (List ℕ)) (within : is_at_or_below name placed.origin ≡ true) where
  abbrev seen : List ℕ → Option (List RecordSet)
  seen key = lookup (λ k. is_eq (slice_cmp nat_cmp key k.items)) es

  -- the sets at the key of a name
  pub sets_at : (key : List ℕ) (found : Option (Bor (List RecordSet))) → KeysApart es → key ≡ key_of placed.origin name → sets_or_none (option_copied found) ≡ sets_or_none (seen key) → AreSetsOf zone.records name (sets_or_none (option_copied found))
  sets_at key found apart is at =
      subst (AreSetsOf zone.records name) (sym at)
      (sets_are origin name key es zone (seen key) view (subst (λ o. is_at_or_below name o ≡ true) same within) (is ∙ ap (λ o. key_of o name) same) tree.each apart refl)

  -- whether the name exists
  pub there_at : (key : List ℕ) (there : Bool) → key ≡ key_of placed.origin name → there ≡ list_any (λ e. starts_with eqb e.0.items key && are_some e.1) es → there ≡ exists zone.records name
  there_at key there is begun = exists_at origin name key es zone there view (subst (λ o. is_at_or_below name o ≡ true) same within) (is ∙ ap (λ o. key_of o name) same) tree.each begun

  -- what there is at the name
  pub presence_at : (key : List ℕ) (found : Presence) → KeysApart es → key ≡ key_of placed.origin name → IsPresenceAt es key found → IsPresence zone.records name found
  presence_at key (Owner sets) apart is h = (sets_at key (Some sets) apart is h.0, h.1)
  presence_at key Empty apart is h = (sets_at key None apart is h.0, sym (there_at key true is (sym h.1)))
  presence_at key Absent apart is h = sym (there_at key false is (sym h))

-- the sets of the origin are at the empty key
pub top_sets_at : (origin : List (List ℕ)) (es : List (Vec ℕ Global × List RecordSet)) (next count : ℕ) (zone : Contents) → record { origin = origin; records = list_of (in_entries es) } ≡ zone → IsTree origin es next count
    → (found : Option (Bor (List RecordSet))) → KeysApart es → sets_or_none (option_copied found) ≡ sets_or_none (lookup (is_key []) es) → AreSetsOf zone.records zone.origin (sets_or_none (option_copied found))
top_sets_at origin es next count zone view tree found apart at =
    let top : is_at_or_below zone.origin zone.origin ≡ true = (is_at_or_below-Decides zone.origin zone.origin).1 ([], refl) in
    subst (AreSetsOf zone.records zone.origin) (sym at) (sets_are origin zone.origin [] es zone (lookup (is_key []) es) view top (sym (key_none zone.origin zone.origin (omega arith))) tree.each apart refl)

-- each set has a number for each record
pub paired_all : (origin : List (List ℕ)) (es : List (Vec ℕ Global × List RecordSet)) → AreEntries origin es → AllByRecursion (λ e. ArePaired e.1) es
paired_all origin es h = all_to (λ e. AreSets origin e.0.items e.1) (λ e. ArePaired e.1) (λ e p. all_to (IsSet origin e.0.items) IsPaired (λ s q. q.paired) e.1 p.each) es h

-- and the types of the sets of each name rise
pub rising_entries : (origin : List (List ℕ)) (es : List (Vec ℕ Global × List RecordSet)) → AreEntries origin es → AllByRecursion (λ e. TypesRise e.1) es
rising_entries origin es h = all_to (λ e. AreSets origin e.0.items e.1) (λ e. TypesRise e.1) (λ e p. p.rise) es h

pub records_seen : {A E : Type 0} (shown : A → List Record) (origin : List (List ℕ)) (es : List (Vec ℕ Global × List RecordSet)) (zone : Contents) (result : Result A E) → record { origin = origin; records = list_of (in_entries es) } ≡ zone
    → IfOk result (λ records. shown records ≡ list_of (in_entries es)) → IfOk result (λ records. shown records ≡ zone.records)
records_seen shown origin es zone (Err e) view is = tt
records_seen shown origin es zone (Ok records) view is = is ∙ ap (λ z. z.records) view
