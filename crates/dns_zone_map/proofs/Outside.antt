-- No record of a zone is of a name outside it.
use Rattle.std.proofs.Common.{◌≡◌, ℕ, ◌==◌, None, Bool, true, false, List, [], ◌∷◌, refl, sym, ap, ◌∙◌, Vec, Global}
use Rattle.std.specs.Prelude.{◌&&◌}
use Rattle.std.specs.List.{AllByRecursion}
use Rattle.dns_name.specs.Name.{SameName, IsAtOrBelow, is_same_name, is_at_or_below}
use Rattle.dns_wire.specs.declared.record.Record.{Record}
use Rattle.dns_name.proofs.SameNames.{is_at_or_below-is}
use Rattle.dns_zone_map.specs.Order.{list_of, of_plain}
use Rattle.dns_zone_map.specs.Sets.{in_set, in_sets, some_of}
use Rattle.dns_zone_map.specs.Tree.{in_entries, Belongs, IsSet, AreEntries}
use Rattle.dns_zone_map.specs.Zone.{Contents, is_in_set, set_of}
use Rattle.dns_zone_map.specs.declared.sets.RecordSet.{RecordSet}
use Rattle.dns_zone_map.proofs.Sorting.{filter_list}
use Rattle.dns_zone_map.proofs.Keyed.{parts, same_name}
use Rattle.dns_zone_map.proofs.Lent.{filter_none, all_to, numbered_all}
use Rattle.dns_zone_map.proofs.Exists.{all_append}

and_false : (a b : Bool) → (b ≡ true → ⊥) → (a && b) ≡ false
and_false a true h = absurd (h refl)
and_false true false h = refl
and_false false false h = refl

-- no record of a zone is of a name outside it
module _ (origin name : List (List ℕ)) (rtype : ℕ) (out : is_at_or_below name origin ≡ false) where
  pub not_same : (r : Record) → is_at_or_below r.name origin ≡ true → is_same_name r.name name ≡ true → ⊥
  not_same r h t =
      let same : SameName r.name name = same_name r.name name t in
      let below : IsAtOrBelow name origin = (_, sym same ∙ parts origin r.name h) in
      let yes_ : true ≡ is_at_or_below name origin = is_at_or_below-is true name origin ((λ _. below), (λ _. refl)) in
      cc

  no_test : (r : Record) → is_at_or_below r.name origin ≡ true → is_in_set name rtype r ≡ false
  no_test r h = and_false (r.rtype == rtype) (is_same_name r.name name) (not_same r h)

  sets_none : (key : List ℕ) (ss : List RecordSet) → AllByRecursion (IsSet origin key) ss → AllByRecursion (λ x. of_plain (is_in_set name rtype) x ≡ false) (in_sets ss)
  sets_none key [] h = tt
  sets_none key (s ∷ ss) h =
      all_append (λ x. of_plain (is_in_set name rtype) x ≡ false) (in_set s) (in_sets ss)
      (numbered_all (λ r. is_in_set name rtype r ≡ false) s.numbers s.records (all_to (Belongs origin key s.rtype) (λ r. is_in_set name rtype r ≡ false) (λ r p. no_test r p.within) s.records h.0.belong))
      (sets_none key ss h.1)

  entries_none : (es : List (Vec ℕ Global × List RecordSet)) → AreEntries origin es → AllByRecursion (λ x. of_plain (is_in_set name rtype) x ≡ false) (in_entries es)
  entries_none [] h = tt
  entries_none (e ∷ es) h = all_append (λ x. of_plain (is_in_set name rtype) x ≡ false) (in_sets e.1) (in_entries es) (sets_none e.0.items e.1 h.0.each) (entries_none es h.1)

  pub outside : (es : List (Vec ℕ Global × List RecordSet)) → AreEntries origin es → set_of (list_of (in_entries es)) name rtype ≡ []
  outside es h = filter_list (is_in_set name rtype) (in_entries es) ∙ ap list_of (filter_none (of_plain (is_in_set name rtype)) (in_entries es) (entries_none es h))

-- the same of a zone that is seen as its list
pub outside_at : (origin name : List (List ℕ)) (rtype : ℕ) (es : List (Vec ℕ Global × List RecordSet)) (zone : Contents) → record { origin = origin; records = list_of (in_entries es) } ≡ zone → is_at_or_below name origin ≡ false → AreEntries origin es
    → None ≡ some_of (set_of zone.records name rtype)
outside_at origin name rtype es zone view out h =
    let e : zone.records ≡ list_of (in_entries es) = sym (ap (λ z. z.records) view) in
    sym (ap (λ (rs : List Record). some_of (set_of rs name rtype)) e ∙ ap some_of (outside origin name rtype out es h))
