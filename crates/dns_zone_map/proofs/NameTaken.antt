-- All sets of a name, taken from the map.
use Rattle.std.proofs.Common.{◌≡◌, ℕ, ◌-◌, ◌≤◌, true, false, List, [], ◌∷◌, length, refl, sym, ap, ◌∙◌, subst, arith, Some, None}
use Rattle.std.specs.Prelude.{filter, not}
use Rattle.std.proofs.lemmas.Slice.Eq.{bytes_eq-Decides}
use Rattle.dns_name.specs.Name.{is_same_name, is_at_or_below}
use Rattle.dns_wire.specs.declared.record.Record.{Record}
use Rattle.dns_zone_map.specs.declared.sets.RecordSet.{RecordSet}
use Rattle.dns_zone_map.specs.Keys.{key_of}
use Rattle.dns_zone_map.specs.Changes.{bears}
use Rattle.dns_zone_map.specs.Zone.{Contents}
use Rattle.dns_zone_map.specs.Order.{list_of}
use Rattle.dns_zone_map.specs.Sets.{in_sets, IsPaired, ArePaired}
use Rattle.dns_zone_map.specs.Tree.{KeysApart, in_entries, Belongs, IsSet, AreSets, IsTree}
use Rattle.dns_zone_map.specs.Removal.{AreCleared, IsClearedFrom, ChangedFrom}
use Rattle.dns_zone_map.proofs.Keyed.{same_keys}
use Rattle.dns_zone_map.proofs.Lent.{all_to}
use Rattle.dns_zone_map.proofs.Rest.{Entries}
use Rattle.dns_zone_map.proofs.Left.{IsLeft, outside_left, here, is_left, whole_sets, absent_stays, list_left, gone_fewer, tree_left}

none_kept : (ss : List RecordSet) → [] ≡ filter (λ s. false) ss
none_kept [] = refl
none_kept (s ∷ ss) = none_kept ss

bears_narrow : (name : List (List ℕ)) (r : Record) → bears name r ≡ true → is_same_name r.name name ≡ true
bears_narrow name r h = h

-- a record that stands at the key of a name is of the name
pub key_bears : (origin name : List (List ℕ)) (r : Record) (kind : ℕ) → is_at_or_below name origin ≡ true → Belongs origin (key_of origin name) kind r → bears name r ≡ true
key_bears origin name r kind within b = same_keys origin r.name name b.within within ∙ (bytes_eq-Decides (key_of origin r.name) (key_of origin name)).1 b.under

module _ (origin name : List (List ℕ)) (es : Entries) (next count : ℕ) (zone : Contents) (view : record { origin = origin; records = list_of (in_entries es) } ≡ zone) (tree : IsTree origin es next count) where
  -- a name outside the zone owns nothing
  pub outside_name : is_at_or_below name origin ≡ false → zone.records ≡ filter (λ r. not (bears name r)) zone.records
  outside_name out = outside_left origin name (bears name) (bears_narrow name) es zone view out tree.each

  module _ (fs : Entries) (key : List ℕ) (within : is_at_or_below name origin ≡ true) (apart : KeysApart es) (keyed : key ≡ key_of origin name) where
    -- there was nothing
    pub none_left : IsClearedFrom key es fs None → list_of (in_entries fs) ≡ filter (λ r. not (bears name r)) zone.records
    none_left none = absent_stays origin name (bears name) (bears_narrow name) es next count zone view tree fs key within keyed none.1 none.0

    -- or its sets were taken
    module _ (sets : List RecordSet) (cleared : IsClearedFrom key es fs (Some sets)) where
      abbrev Went : List RecordSet → List RecordSet → Type 0
      Went = AreCleared sets

      went : ChangedFrom (key_of origin name) Went es fs
      went = subst (λ k. ChangedFrom k Went es fs) keyed cleared

      left : IsLeft origin (bears name) es fs next (length (in_sets sets))
      left =
          let old : AreSets origin (key_of origin name) went.sets = here origin name (bears name) (bears_narrow name) within es fs next Went tree.each tree.below apart went in
          is_left origin name (bears name) (bears_narrow name) within es fs next Went tree.each tree.below apart went
          (whole_sets origin (key_of origin name) (bears name) (λ kind. false) (λ r kind b. key_bears origin name r kind within b) went.sets went.changed old (went.change.1 ∙ none_kept went.sets))
          (length (in_sets sets)) (omega (arith, ap (λ (ss : List RecordSet). length (in_sets ss)) went.change.0, ap (λ (ss : List RecordSet). length (in_sets ss)) went.change.1))

      pub name_left : list_of (in_entries fs) ≡ filter (λ r. not (bears name r)) zone.records
      name_left = list_left origin name (bears name) (bears_narrow name) es next count zone view tree fs (length (in_sets sets)) left

      pub name_paired : ArePaired sets
      name_paired =
          let old : AreSets origin (key_of origin name) went.sets = here origin name (bears name) (bears_narrow name) within es fs next Went tree.each tree.below apart went in
          subst ArePaired went.change.0 (all_to (IsSet origin (key_of origin name)) IsPaired (λ s p. p.paired) went.sets old.each)

      pub name_few : length (in_sets sets) ≤ count
      name_few = gone_fewer origin name (bears name) (bears_narrow name) es next count zone view tree fs (length (in_sets sets)) left

      pub name_tree : (taken : ℕ) → taken ≡ length (in_sets sets) → IsTree origin fs next (count - taken)
      name_tree taken is = subst (λ n. IsTree origin fs next (count - n)) (sym is) (tree_left origin name (bears name) (bears_narrow name) es next count zone view tree fs (length (in_sets sets)) left)
