-- All sets of the origin but those of the SOA and of NS records, taken from the map.
use Rattle.std.proofs.Common.{◌≡◌, ℕ, ◌+◌, ◌-◌, ◌≤◌, Bool, true, false, List, [], ◌∷◌, ◌++◌, length, take, reverse, refl, sym, ap, ◌∙◌, subst, arith, length-append, Some, None}
use Rattle.std.specs.Prelude.{filter, not, Option, IfSome, if◌then◌else◌}
use Rattle.std.specs.List.{AllByRecursion}
use Rattle.std.specs.Map.{lookup}
use Rattle.dns_name.specs.Name.{fold_of, labels_bytes, is_same_name, is_at_or_below}
use Rattle.dns_name.proofs.SameNames.{is_at_or_below-Decides}
use Rattle.dns_wire.specs.declared.record.Record.{Record}
use Rattle.dns_zone_map.specs.declared.sets.RecordSet.{RecordSet}
use Rattle.dns_zone_map.specs.Keys.{key_of}
use Rattle.dns_zone_map.specs.Changes.{bears, is_kept_type, is_free_at}
use Rattle.dns_zone_map.specs.Zone.{Contents}
use Rattle.dns_zone_map.specs.Order.{list_of}
use Rattle.dns_zone_map.specs.Sets.{in_set, in_sets, ArePaired, IsPaired}
use Rattle.dns_zone_map.specs.Tree.{KeysApart, in_entries, Belongs, AreSets, IsTree}
use Rattle.dns_zone_map.specs.Removal.{is_key, AreFreed, ChangedFrom, IsFreedFrom}
use Rattle.dns_zone_map.proofs.Lent.{looked}
use Rattle.dns_zone_map.proofs.Rest.{Entries}
use Rattle.dns_zone_map.proofs.Put.{around_entry}
use Rattle.dns_zone_map.proofs.Reading.{length-list_of}
use Rattle.dns_zone_map.proofs.Taking.{FirstAt, first_at}
use Rattle.dns_zone_map.proofs.Taken.{both}
use Rattle.dns_zone_map.proofs.Left.{IsLeft, all_filtered, here, is_left, whole_sets, absent_stays, list_left, gone_fewer, tree_left}
use Rattle.dns_zone_map.proofs.NameTaken.{key_bears}

fewer_if : (b : Bool) (s : RecordSet) (ss ts : List RecordSet) → length (in_sets ts) ≤ length (in_sets ss) → length (in_sets (if b then s ∷ ts else ts)) ≤ length (in_sets (s ∷ ss))
fewer_if true s ss ts h = omega (arith, h, length-append (in_set s) (in_sets ss), length-append (in_set s) (in_sets ts))
fewer_if false s ss ts h = omega (arith, h, length-append (in_set s) (in_sets ss))

-- some of the sets have no more records than all
pub fewer : (t : RecordSet → Bool) (ss : List RecordSet) → length (in_sets (filter t ss)) ≤ length (in_sets ss)
fewer t [] = omega arith
fewer t (s ∷ ss) = fewer_if (t s) s ss (filter t ss) (fewer t ss)

pub still_paired : (t : RecordSet → Bool) (ss ts : List RecordSet) → ArePaired ss → ts ≡ filter t ss → ArePaired ts
still_paired t ss ts h is = subst ArePaired (sym is) (all_filtered IsPaired t ss h)

-- the sets that are found, among all
pub found_paired : (key : List ℕ) (es : Entries) (sets : List RecordSet) → AllByRecursion (λ e. ArePaired e.1) es → Some sets ≡ lookup (is_key key) es → ArePaired sets
found_paired key es sets h at = subst (λ (f : Option (List RecordSet)). IfSome f ArePaired) (sym at) (looked ArePaired (is_key key) es h)

pub found_few : (key : List ℕ) (es : Entries) (sets : List RecordSet) → Some sets ≡ lookup (is_key key) es → length (in_sets sets) ≤ length (in_entries es)
found_few key es sets at =
    let f : FirstAt key es sets = first_at key es sets (sym at) in
    omega (
      arith,
      ap (λ (gs : Entries). length (in_entries gs)) f.was,
      ap length (around_entry f.front f.back f.stored sets),
      length-append (in_entries f.front) (in_sets sets ++ in_entries f.back),
      length-append (in_sets sets) (in_entries f.back),
    )

free_narrow : (origin : List (List ℕ)) (r : Record) → is_free_at origin r ≡ true → is_same_name r.name origin ≡ true
free_narrow origin r h = (both (bears origin r) (not (is_kept_type r.rtype)) h).0

-- the origin is at itself, and its key is empty
pub at_itself : (origin : List (List ℕ)) → is_at_or_below origin origin ≡ true
at_itself origin = (is_at_or_below-Decides origin origin).1 ([], refl)

pub top_key : (origin : List (List ℕ)) → [] ≡ key_of origin origin
top_key origin = let none : length origin - length origin ≡ 0 = omega arith in sym (ap (λ (n : ℕ). labels_bytes (reverse (fold_of (take n origin)))) none)

module _ (origin : List (List ℕ)) (es fs : Entries) (next count : ℕ) (zone : Contents) (view : record { origin = origin; records = list_of (in_entries es) } ≡ zone) (tree : IsTree origin es next count) (apart : KeysApart es) where
  says : (r : Record) (kind : ℕ) → Belongs origin (key_of origin origin) kind r → is_free_at origin r ≡ not (is_kept_type kind)
  says r kind b = rw (key_bears origin origin r kind (at_itself origin) b) (ap (λ n. not (is_kept_type n)) b.typed)

  pub none_freed : IsFreedFrom [] es fs None → list_of (in_entries fs) ≡ filter (λ r. not (is_free_at zone.origin r)) zone.records
  none_freed none =
      absent_stays origin origin (is_free_at origin) (free_narrow origin) es next count zone view tree fs [] (at_itself origin) (top_key origin) none.1 none.0
      ∙ ap (λ (o : List (List ℕ)). filter (λ r. not (is_free_at o r)) zone.records) (ap (λ z. z.origin) view)

  module _ (gone : ℕ) (freed : IsFreedFrom [] es fs (Some gone)) where
    went : ChangedFrom (key_of origin origin) (AreFreed gone) es fs
    went = subst (λ k. ChangedFrom k (AreFreed gone) es fs) (top_key origin) freed

    left : IsLeft origin (is_free_at origin) es fs next gone
    left =
        let old : AreSets origin (key_of origin origin) went.sets = here origin origin (is_free_at origin) (free_narrow origin) (at_itself origin) es fs next (AreFreed gone) tree.each tree.below apart went in
        is_left origin origin (is_free_at origin) (free_narrow origin) (at_itself origin) es fs next (AreFreed gone) tree.each tree.below apart went
        (whole_sets origin (key_of origin origin) (is_free_at origin) is_kept_type says went.sets went.changed old went.change.is) gone went.change.count

    pub freed_left : list_of (in_entries fs) ≡ filter (λ r. not (is_free_at zone.origin r)) zone.records
    freed_left =
        list_left origin origin (is_free_at origin) (free_narrow origin) es next count zone view tree fs gone left
        ∙ ap (λ (o : List (List ℕ)). filter (λ r. not (is_free_at o r)) zone.records) (ap (λ z. z.origin) view)

    pub freed_few : gone ≤ count
    freed_few = gone_fewer origin origin (is_free_at origin) (free_narrow origin) es next count zone view tree fs gone left

    pub freed_tree : IsTree origin fs next (count - gone)
    freed_tree = tree_left origin origin (is_free_at origin) (free_narrow origin) es next count zone view tree fs gone left

    pub freed_count : gone + length (list_of (in_entries fs)) ≡ length zone.records
    freed_count = omega (arith, left.counted, length-list_of (in_entries es), length-list_of (in_entries fs), ap (λ z. length z.records) view)

-- what `retain` leaves of the sets
module _ (before after : List RecordSet) (was now : ℕ) (is : after ≡ filter (λ s. is_kept_type s.rtype) before) where
  pub freed_fewer : length (in_sets after) ≤ length (in_sets before)
  freed_fewer = subst (λ (ss : List RecordSet). length (in_sets ss) ≤ length (in_sets before)) (sym is) (fewer (λ s. is_kept_type s.rtype) before)

  pub are_freed : was ≡ length (in_sets before) → now ≡ length (in_sets after) → AreFreed (was - now) before after
  are_freed w n = record { is = is; count = omega (arith, w, n, freed_fewer) }
