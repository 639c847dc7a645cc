-- A record that is taken from the map was taken from its list.
use Rattle.std.proofs.Common.{◌≡◌, ℕ, ◌-◌, ◌≤◌, Bool, true, false, List, [], ◌∷◌, ◌++◌, refl, sym, ap, ◌∙◌, subst, ◌==◌, if◌then◌else◌, Some, None}
use Rattle.std.specs.Prelude.{filter, not, ◌&&◌, ◌||◌, Option, IfSome, option_map}
use Rattle.std.specs.List.{AllByRecursion, list_any}
use Rattle.std.specs.Map.{lookup, set_value}
use Rattle.std.specs.Option.{option_and_then}
use Rattle.std.proofs.lemmas.Bool.Decides.{Decides-eqb}
use Rattle.std.proofs.lemmas.Map.Steps.{set_value_same}
use Rattle.dns_name.specs.Name.{is_same_name, is_at_or_below}
use Rattle.dns_name.proofs.SameNames.{is_same_name-Decides}
use Rattle.dns_wire.specs.declared.record.Record.{Record}
use Rattle.dns_wire.specs.declared.record_type.TheConstants.{CNAME, SOA}
use Rattle.dns_zone_map.specs.declared.sets.RecordSet.{RecordSet}
use Rattle.dns_zone_map.specs.SameData.{data_eq}
use Rattle.dns_zone_map.specs.Keys.{key_of}
use Rattle.dns_zone_map.specs.Changes.{first_that, AtMostOne}
use Rattle.dns_zone_map.specs.Zone.{Contents, is_in_set, set_of, is_equal, is_rival, IsSoFar}
use Rattle.dns_zone_map.specs.Order.{list_of}
use Rattle.dns_zone_map.specs.Sets.{set_in, records_in, some_of}
use Rattle.dns_zone_map.specs.Tree.{KeysApart, in_entries, AreSets, IsTree}
use Rattle.dns_zone_map.specs.Removal.{is_key, ChangedFrom, OneTaken, HasNoEqual, IsOneTaken, IsOneTakenFrom}
use Rattle.dns_zone_map.proofs.Keyed.{same_name}
use Rattle.dns_zone_map.proofs.Lent.{all_to, lent_set}
use Rattle.dns_zone_map.proofs.Rest.{Entries}
use Rattle.dns_zone_map.proofs.Putting.{first_none}
use Rattle.dns_zone_map.proofs.Middle.{none_filtered}
use Rattle.dns_zone_map.proofs.Rivals.{one_rival}
use Rattle.dns_zone_map.proofs.Serials.{none_is, some_is}
use Rattle.dns_zone_map.proofs.Outside.{outside_at}
use Rattle.dns_zone_map.proofs.Taken.{all_stay, IsOut, is_out}
use Rattle.dns_zone_map.proofs.Left.{IsLeft, here, is_left, list_left, gone_fewer, tree_left}
use Rattle.dns_zone_map.proofs.Taking.{changed_from}
use Rattle.dns_zone_map.proofs.EqualTaken.{equal_type, equal_name, one_left, one_count}

turned_name : (a b : List (List ℕ)) → is_same_name a b ≡ true → is_same_name b a ≡ true
turned_name a b h = (is_same_name-Decides b a).1 (sym (same_name a b h))

equal_narrow : (one r : Record) → is_equal one r ≡ true → is_same_name r.name one.name ≡ true
equal_narrow one r h = turned_name one.name r.name (equal_name one r h)

both_hold : (a b : Bool) → a ≡ true → b ≡ true → (a && b) ≡ true
both_hold true true a b = refl
both_hold true false a b = absurd cc
both_hold false b h g = absurd cc

-- a record equal to another is of its set
equal_in : (one r : Record) → is_equal one r ≡ true → is_in_set one.name one.rtype r ≡ true
equal_in one r h = both_hold (r.rtype == one.rtype) (is_same_name r.name one.name) ((Decides-eqb r.rtype one.rtype).1 (sym (equal_type one r h))) (equal_narrow one r h)

rival_if : (typed named same soa cname : Bool) → (typed && (named && same)) ≡ true → (typed && (soa || (named && (cname || same)))) ≡ true
rival_if true true true true cname h = refl
rival_if true true true false true h = refl
rival_if true true true false false h = refl
rival_if true true false soa cname h = absurd cc
rival_if true false same soa cname h = absurd cc
rival_if false named same soa cname h = absurd cc

-- and its rival
equal_rival : (one r : Record) → is_equal one r ≡ true → is_rival one r ≡ true
equal_rival one r h = rival_if (one.rtype == r.rtype) (is_same_name one.name r.name) (data_eq one.rdata r.rdata) (one.rtype == SOA) (one.rtype == CNAME) h

no_pass : (b : Bool) → (b ≡ true → false ≡ true) → b ≡ false
no_pass true h = sym (h refl)
no_pass false h = refl

-- fewer pass a narrower test
few_narrower : (p q : Record → Bool) → ((r : Record) → p r ≡ true → q r ≡ true) → (rs : List Record) → AtMostOne q rs → AtMostOne p rs
few_narrower p q f [] h = tt
few_narrower p q f (r ∷ rs) h = ((λ t. all_to (λ s. q s ≡ false) (λ s. p s ≡ false) (λ s n. no_pass (p s) (λ u. sym n ∙ f s u)) rs (h.0 (f r t))), few_narrower p q f rs h.1)

kept_if : (P : Record → Type 0) (b : Bool) (r : Record) (rs : List Record) → P r → AllByRecursion P rs → AllByRecursion P (if b then r ∷ rs else rs)
kept_if P true r rs h hs = (h, hs)
kept_if P false r rs h hs = hs

all_kept : (P : Record → Type 0) (q : Record → Bool) (rs : List Record) → AllByRecursion P rs → AllByRecursion P (filter q rs)
all_kept P q [] h = tt
all_kept P q (r ∷ rs) h = kept_if P (q r) r (filter q rs) h.0 (all_kept P q rs h.1)

few_if : (b : Bool) (p : Record → Bool) (r : Record) (rs : List Record) → (p r ≡ true → AllByRecursion (λ s. p s ≡ false) rs) → AtMostOne p rs → AtMostOne p (if b then r ∷ rs else rs)
few_if true p r rs h ih = (h, ih)
few_if false p r rs h ih = ih

few_filtered : (p q : Record → Bool) (rs : List Record) → AtMostOne p rs → AtMostOne p (filter q rs)
few_filtered p q [] h = tt
few_filtered p q (r ∷ rs) h = few_if (q r) p r (filter q rs) (λ t. all_kept (λ s. p s ≡ false) q rs (h.0 t)) (few_filtered p q rs h.1)

first_if : (b c : Bool) (p q : Record → Bool) (r : Record) (rs : List Record) → p r ≡ b → q r ≡ c → (b ≡ true → c ≡ true) → first_that p (filter q rs) ≡ first_that p rs → first_that p (if c then r ∷ filter q rs else filter q rs) ≡ (if b then Some r else first_that p rs)
first_if true true p q r rs e f n ih = rw e refl
first_if true false p q r rs e f n ih = let no : false ≡ true = n refl in absurd cc
first_if false true p q r rs e f n ih = rw e ih
first_if false false p q r rs e f n ih = ih

-- the first that passes is the first among those that pass a wider test
first_wider : (p q : Record → Bool) → ((r : Record) → p r ≡ true → q r ≡ true) → (rs : List Record) → first_that p (filter q rs) ≡ first_that p rs
first_wider p q f [] = refl
first_wider p q f (r ∷ rs) = first_if (p r) (q r) p q r rs refl refl (f r) (first_wider p q f rs)

first_here : (p : Record → Bool) (front back : List Record) (r : Record) → AllByRecursion (λ s. p s ≡ false) front → p r ≡ true → first_that p (front ++ r ∷ back) ≡ Some r
first_here p [] back r h t = rw t refl
first_here p (f ∷ front) back r h t = rw h.0 (first_here p front back r h.1 t)

module _ (one : Record) (rs : List Record) where
  -- none is equal
  none_equal : list_any (is_equal one) (set_of rs one.name one.rtype) ≡ false → None ≡ first_that (is_equal one) rs
  none_equal none = sym (sym (first_wider (is_equal one) (is_in_set one.name one.rtype) (equal_in one) rs) ∙ first_none (is_equal one) (set_of rs one.name one.rtype) none)

  pub none_goes : None ≡ first_that (is_equal one) rs → rs ≡ filter (λ r. not (is_equal one r)) rs
  none_goes none = sym (all_stay (is_equal one) rs (none_filtered (is_equal one) rs (sym none)))

module _ (origin : List (List ℕ)) (one : Record) (es : Entries) (next count : ℕ) (zone : Contents) (view : record { origin = origin; records = list_of (in_entries es) } ≡ zone) (tree : IsTree origin es next count) where
  same_records : list_of (in_entries es) ≡ zone.records
  same_records = ap (λ z. z.records) view

  none_any : (rs : List Record) → None ≡ some_of rs → list_any (is_equal one) rs ≡ false
  none_any rs h = ap (list_any (is_equal one)) (none_is rs h)

  pub outside_one : is_at_or_below one.name origin ≡ false → None ≡ first_that (is_equal one) zone.records
  outside_one out = none_equal one zone.records (none_any (set_of zone.records one.name one.rtype) (outside_at origin one.name one.rtype es zone view out tree.each))

  module _ (fs : Entries) (key : List ℕ) (within : is_at_or_below one.name origin ≡ true) (apart : KeysApart es) (keyed : key ≡ key_of origin one.name) (so_far : IsSoFar zone.origin zone.records) where
    in_found : (found : Option RecordSet) → some_of (set_of zone.records one.name one.rtype) ≡ option_map records_in found → IfSome found (HasNoEqual one) → list_any (is_equal one) (set_of zone.records one.name one.rtype) ≡ false
    in_found None is none = none_any (set_of zone.records one.name one.rtype) (sym is)
    in_found (Some s) is none = ap (list_any (is_equal one)) (some_is (set_of zone.records one.name one.rtype) s.records (sym is)) ∙ none

    pub absent_one : IsOneTakenFrom key one es fs None → None ≡ first_that (is_equal one) zone.records
    absent_one none =
        none_equal one zone.records
        (in_found (option_and_then (set_in one.rtype) (lookup (is_key key) es))
        (ap (λ (rs : List Record). some_of (set_of rs one.name one.rtype)) (sym same_records) ∙ lent_set origin one.name one.rtype es within tree.each apart
        ∙ ap (λ (k : List ℕ). option_map records_in (option_and_then (set_in one.rtype) (lookup (is_key k) es))) (sym keyed))
        none.1)

    pub absent_stays : IsOneTakenFrom key one es fs None → list_of (in_entries fs) ≡ filter (λ r. not (is_equal one r)) zone.records
    absent_stays none = ap (λ (gs : Entries). list_of (in_entries gs)) none.0 ∙ same_records ∙ none_goes one zone.records (absent_one none)

    module _ (r : Record) (taken : IsOneTakenFrom key one es fs (Some r)) where
      went : ChangedFrom (key_of origin one.name) (OneTaken one r) es fs
      went = subst (λ k. ChangedFrom k (OneTaken one r) es fs) keyed taken

      -- the set of which it was
      out : IsOut origin one.name one.rtype es (went.front ++ (went.stored, went.change.front ++ went.change.back) ∷ went.back) next went.change.set
      out =
          is_out origin one.name one.rtype within es (went.front ++ (went.stored, went.change.front ++ went.change.back) ∷ went.back) next went.change.set tree.each tree.below apart
          (record {
            front = went.front;
            stored = went.stored;
            sets = went.sets;
            changed = went.change.front ++ went.change.back;
            back = went.back;
            was = went.was;
            keyed = went.keyed;
            is = refl;
            change = record { front = went.change.front; back = went.change.back; was = went.change.was; typed = went.change.typed; is = refl };
          })

      set_was : set_of zone.records one.name one.rtype ≡ went.change.set.records
      set_was = ap (λ (rs : List Record). set_of rs one.name one.rtype) (sym same_records) ∙ out.records

      few : AtMostOne (is_equal one) went.change.set.records
      few =
          subst (AtMostOne (is_equal one)) set_was
          (few_filtered (is_equal one) (is_in_set one.name one.rtype) zone.records (few_narrower (is_equal one) (is_rival one) (equal_rival one) zone.records (one_rival one zone.records so_far.distinct)))

      left : IsLeft origin (is_equal one) es fs next 1
      left =
          let old : AreSets origin (key_of origin one.name) went.sets = here origin one.name (is_equal one) (equal_narrow one) within es fs next (OneTaken one r) tree.each tree.below apart went in
          is_left origin one.name (is_equal one) (equal_narrow one) within es fs next (OneTaken one r) tree.each tree.below apart went (one_left origin (key_of origin one.name) one r went.sets went.changed old went.change few) 1
          (one_count origin (key_of origin one.name) one r went.sets went.changed old went.change few)

      pub record_left : list_of (in_entries fs) ≡ filter (λ r. not (is_equal one r)) zone.records
      record_left = list_left origin one.name (is_equal one) (equal_narrow one) es next count zone view tree fs 1 left

      pub record_few : 1 ≤ count
      record_few = gone_fewer origin one.name (is_equal one) (equal_narrow one) es next count zone view tree fs 1 left

      pub record_tree : IsTree origin fs next (count - 1)
      record_tree = tree_left origin one.name (is_equal one) (equal_narrow one) es next count zone view tree fs 1 left

      pub record_taken : Some r ≡ first_that (is_equal one) zone.records
      record_taken =
          sym
          (sym (first_wider (is_equal one) (is_in_set one.name one.rtype) (equal_in one) zone.records) ∙ ap (first_that (is_equal one)) (set_was ∙ went.change.taken.was)
          ∙ first_here (is_equal one) went.change.taken.front went.change.taken.back r went.change.taken.first went.change.taken.equal)

-- the sets of the name with this key were as they are
module _ (key : List ℕ) (one : Record) (before after : Entries) where
  pub no_such_name : None ≡ lookup (is_key key) before → IfSome (option_and_then (set_in one.rtype) (lookup (is_key key) before)) (HasNoEqual one)
  no_such_name at = subst (λ (found : Option (List RecordSet)). IfSome (option_and_then (set_in one.rtype) found) (HasNoEqual one)) at tt

  pub one_of_name : (sets changed : List RecordSet) (result : Option Record) → Some sets ≡ lookup (is_key key) before → after ≡ set_value (is_key key) before changed → IsOneTaken one sets changed result → IsOneTakenFrom key one before after result
  one_of_name sets changed None at is none =
      (is ∙ ap (set_value (is_key key) before) none.0 ∙ set_value_same (is_key key) before sets (sym at), subst (λ (found : Option (List RecordSet)). IfSome (option_and_then (set_in one.rtype) found) (HasNoEqual one)) at none.1)
  one_of_name sets changed (Some r) at is taken = changed_from key before after (OneTaken one r) sets changed at is taken
