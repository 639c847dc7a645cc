-- A record that was put beside those of its owner in the map of a zone was put so into its list.
use Rattle.std.proofs.Common.{◌≡◌, ℕ, ◌+◌, Bool, true, false, List, refl, sym, ap, ◌∙◌, subst, Some, None}
use Rattle.std.specs.Prelude.{Option}
use Rattle.std.specs.Option.{IsSome}
use Rattle.std.specs.List.{list_any}
use Rattle.std.specs.Map.{lookup}
use Rattle.dns_wire.specs.declared.record.Record.{Record}
use Rattle.dns_zone_map.specs.declared.beside.Beside.TheVariants.{New, Replaced, Clash}
use Rattle.dns_zone_map.specs.Keys.{key_of}
use Rattle.dns_zone_map.specs.Zone.{Contents, IsEntry, IsSoFar}
use Rattle.dns_zone_map.specs.Order.{list_of}
use Rattle.dns_zone_map.specs.Sets.{AreSetsOf, sets_or_none}
use Rattle.dns_zone_map.specs.Tree.{in_entries, IsTree, KeysApart}
use Rattle.dns_zone_map.specs.Insertion.{PutUnder}
use Rattle.dns_zone_map.specs.Removal.{is_key}
use Rattle.dns_zone_map.specs.Beside.{is_beside_alias, stands_beside, PutAlone, IsPutBeside, IsPutAt}
use Rattle.dns_zone_map.proofs.Lent.{sets_are}
use Rattle.dns_zone_map.proofs.Rest.{Entries}
use Rattle.dns_zone_map.proofs.Besides.{beside_is}
use Rattle.dns_zone_map.proofs.Put.{records_after, replaced_is, so_far_after, tree_same, tree_more}

module _ (origin : List (List ℕ)) (es : Entries) (next count : ℕ) (zone : Contents) (one : Record) (view : record { origin = origin; records = list_of (in_entries es) } ≡ zone) (tree : IsTree origin es next count) (entry : IsEntry zone.origin one) (so_far : IsSoFar zone.origin zone.records) (fs : Entries) (key : List ℕ) (apart : KeysApart es) (keyed : key ≡ key_of origin one.name) where
  own : AreSetsOf zone.records one.name (sets_or_none (lookup (is_key key) es))
  own = sets_are origin one.name key es zone (lookup (is_key key) es) view entry.within (keyed ∙ ap (λ (o : List (List ℕ)). key_of o one.name) (ap (λ z. z.origin) view)) tree.each apart refl

  -- whether it may stand beside the records of the list shows in the sets at the key
  may_stand : (stands : Bool) → stands_beside (sets_or_none (lookup (is_key key) es)) one ≡ stands → list_any (is_beside_alias one) zone.records ≡ stands
  may_stand stands h = sym (beside_is zone.records one (sets_or_none (lookup (is_key key) es)) own) ∙ h

  put_alone : (old : Option Record) → stands_beside (sets_or_none (lookup (is_key key) es)) one ≡ false → PutUnder key next one es fs old → PutAlone one zone.records (list_of (in_entries fs))
  put_alone old h put = record { alone = may_stand false h; is = records_after origin es next count zone one view tree entry so_far fs key old apart keyed put }

  -- it is new
  pub new_put : IsPutAt key next one es fs New → IsPutBeside one zone.records (list_of (in_entries fs)) New
  new_put h = (put_alone None h.0 h.1, sym (replaced_is origin es next count zone one view tree entry so_far fs key None apart keyed h.1))

  pub new_tree : IsPutAt key next one es fs New → IsTree origin fs (next + 1) (count + 1)
  new_tree h = tree_more origin es next count zone one view tree entry so_far fs key None apart keyed h.1 refl

  pub new_so_far : IsPutAt key next one es fs New → IsSoFar origin (list_of (in_entries fs))
  new_so_far h = so_far_after origin es next count zone one view tree entry so_far fs key None apart keyed h.1

  -- or took the place of its rival
  pub replaced_put : IsPutAt key next one es fs Replaced → IsPutBeside one zone.records (list_of (in_entries fs)) Replaced
  replaced_put h = (
    put_alone (Some h.1.0) h.0 h.1.1,
    subst IsSome (replaced_is origin es next count zone one view tree entry so_far fs key (Some h.1.0) apart keyed h.1.1) refl,
  )

  pub replaced_tree : IsPutAt key next one es fs Replaced → IsTree origin fs next count
  replaced_tree h = tree_same origin es next count zone one view tree entry so_far fs key (Some h.1.0) apart keyed h.1.1 h.1.0 refl

  pub replaced_so_far : IsPutAt key next one es fs Replaced → IsSoFar origin (list_of (in_entries fs))
  replaced_so_far h = so_far_after origin es next count zone one view tree entry so_far fs key (Some h.1.0) apart keyed h.1.1

  -- or may not stand there
  pub clash_put : IsPutAt key next one es fs Clash → IsPutBeside one zone.records (list_of (in_entries fs)) Clash
  clash_put h = (may_stand true h.0, ap (λ (gs : Entries). list_of (in_entries gs)) h.1 ∙ ap (λ z. z.records) view)
