-- A name without sets is taken from the map.
use Rattle.std.proofs.Common.{◌≡◌, ℕ, ◌<◌, true, false, List, [], ◌∷◌, ◌++◌, length, refl, sym, ap, ◌∙◌, subst, arith, Some, Vec, Global}
use Rattle.std.specs.Map.{lookup, remove_entry}
use Rattle.std.proofs.lemmas.List.Concat.{flat_map-append}
use Rattle.dns_zone_map.specs.declared.sets.RecordSet.{RecordSet}
use Rattle.dns_zone_map.specs.Order.{list_of, AreBelow}
use Rattle.dns_zone_map.specs.Sets.{in_sets, are_some}
use Rattle.dns_zone_map.specs.Tree.{in_entries, AreSets, AreEntries, IsTree, OwnsSame}
use Rattle.dns_zone_map.specs.Removal.{is_key}
use Rattle.dns_zone_map.proofs.Exists.{all_append}
use Rattle.dns_zone_map.proofs.Rest.{Entries, all_front, all_back}
use Rattle.dns_zone_map.proofs.Put.{around_entry}
use Rattle.dns_zone_map.proofs.Taking.{GoneAt, gone_at}

-- sets of which there are none
pub none_there : (ss : List RecordSet) → are_some ss ≡ false → ss ≡ []
none_there [] h = refl
none_there (s ∷ ss) h = absurd cc

pub some_there : (ss : List RecordSet) → are_some ss ≡ true → 0 < length ss
some_there [] h = absurd cc
some_there (s ∷ ss) h = omega arith

pub swept_none : (es fs : Entries) → fs ≡ es → OwnsSame es fs
swept_none es fs same = record { same = ap in_entries same; each = λ origin h. subst (AreEntries origin) (sym same) h }

pub swept_more : (es fs gs : Entries) → OwnsSame es fs → OwnsSame fs gs → OwnsSame es gs
swept_more es fs gs a b = record { same = b.same ∙ a.same; each = λ origin h. b.each origin (a.each origin h) }

pub swept_name : (key : List ℕ) (es fs : Entries) → lookup (is_key key) es ≡ Some [] → fs ≡ remove_entry (is_key key) es → OwnsSame es fs
swept_name key es fs at gone =
    let t : GoneAt key es fs [] = gone_at key es fs [] (sym at) gone in
    record {
      same = ap in_entries t.is ∙ flat_map-append (λ (e : Vec ℕ Global × List RecordSet). in_sets e.1) t.front t.back ∙ sym (ap in_entries t.was ∙ around_entry t.front t.back t.stored []);
      each = λ origin h.
          let all : AreEntries origin (t.front ++ (t.stored, []) ∷ t.back) = subst (AreEntries origin) t.was h in
          subst (AreEntries origin) (sym t.is)
          (all_append (λ e. AreSets origin e.0.items e.1) t.front t.back (all_front (λ e. AreSets origin e.0.items e.1) t.front ((t.stored, []) ∷ t.back) all) (all_back (λ e. AreSets origin e.0.items e.1) t.front ((t.stored, []) ∷ t.back) all).1);
    }

-- the list is the same
pub swept_list : (es fs : Entries) → OwnsSame es fs → list_of (in_entries fs) ≡ list_of (in_entries es)
swept_list es fs s = ap list_of s.same

pub swept_tree : (origin : List (List ℕ)) (es fs : Entries) (next count : ℕ) → OwnsSame es fs → IsTree origin es next count → IsTree origin fs next count
swept_tree origin es fs next count s t = record {
  each = s.each origin t.each;
  below = subst (AreBelow next) (sym s.same) t.below;
  counted = t.counted ∙ ap length (sym s.same);
  few = t.few;
}
