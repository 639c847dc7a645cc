-- What a look finds in the sets of a name is what it finds in the zone's list.
use Rattle.std.proofs.Common.{◌≡◌, ℕ, ◌+◌, ◌-◌, ◌<◌, ◌≤◌, List, [], ◌∷◌, ◌++◌, length, drop, map, suc, slice_get, refl, sym, ap, subst, ◌∙◌, arith, Bool, true, false, if◌then◌else◌}
use Rattle.std.specs.Prelude.{None, Some, Option, IfSome, ◌==◌, ◌||◌}
use Rattle.std.specs.List.{AllByRecursion}
use Rattle.std.proofs.lemmas.Bool.Decides.{Decides-eqb}
use Rattle.std.proofs.lemmas.List.{map-append, append-nil}
use Rattle.std.proofs.lemmas.Option.{same_Some}
use Rattle.dns_name.specs.Name.{fold_of}
use Rattle.dns_wire.specs.declared.record.Record.{Record}
use Rattle.dns_zone_map.specs.declared.sets.RecordSet.{RecordSet}
use Rattle.dns_zone_map.specs.Zone.{set_of}
use Rattle.dns_zone_map.specs.Existence.{exists}
use Rattle.dns_zone_map.specs.Sets.{AreSetsOf, TypesRise, set_in, in_all, of_type, records_or_none}
use Rattle.dns_zone.specs.declared.look.Look.{Look}
use Rattle.dns_zone.specs.declared.look.Look.TheVariants.{Alias, NoData}
use Rattle.dns_wire.specs.Given.{given}
use Rattle.dns_zone.specs.Look.{Owner, found_set, found_from, found_all, found_or_none, alias_of, first_of, look_at, alias_or, star_under, wildcard_under}
use Rattle.dns_zone.specs.Lent.{LastTypeFits, alias_in, found_in, look_in}
use Rattle.dns_zone_map.proofs.Owned.{set_is, not_equal, of_first, of_more, all_next, all_least}
use Rattle.dns_zone.proofs.AllTypes.{found-next, found-end}
use Rattle.dns_zone.proofs.Owned.{sets_exist}

-- no set of a lesser type
absent : (rtype : ℕ) (sets : List RecordSet) → AllByRecursion (λ t. rtype < t.rtype) sets → set_in rtype sets ≡ None
absent rtype [] above = refl
absent rtype (s ∷ sets) above =
    let other : (s.rtype == rtype) ≡ false = not_equal s.rtype rtype (λ same. omega (arith, above.0, same)) in
    rw other (absent rtype sets above.1)

all_above : (a b : ℕ) (sets : List RecordSet) → a ≤ b → AllByRecursion (λ t. b < t.rtype) sets → AllByRecursion (λ t. a < t.rtype) sets
all_above a b [] less above = tt
all_above a b (s ∷ sets) less above = (omega (arith, above.0), all_above a b sets less above.1)

-- a lesser type is none of those of sets that begin with a greater one
of_less : (rtype : ℕ) (s : RecordSet) (sets : List RecordSet) → rtype < s.rtype → AllByRecursion (λ t. s.rtype < t.rtype) sets → of_type (s ∷ sets) rtype ≡ []
of_less rtype s sets less above =
    let other : (s.rtype == rtype) ≡ false = not_equal s.rtype rtype (λ same. omega (arith, less, same)) in
    rw (other, absent rtype sets (all_above rtype s.rtype sets (omega arith) above)) refl

-- types are numbers of 16 bits (RFC 1035 3.2.2)
abbrev TypesFit : List RecordSet → Type 0
TypesFit = AllByRecursion (λ s. s.rtype < 65536)

-- where types rise, and the last fits, all fit
all_fit : (sets : List RecordSet) → TypesRise sets → LastTypeFits sets → TypesFit sets
all_fit [] rise fit = tt
all_fit (s ∷ []) rise fit = (fit, tt)
all_fit (s ∷ t ∷ sets) rise fit =
    let place : length (s ∷ t ∷ sets) - 1 ≡ suc (length (t ∷ sets) - 1) = omega (arith) in
    let last : LastTypeFits (t ∷ sets) = subst (λ k. IfSome (slice_get (s ∷ t ∷ sets) k) (λ u. u.rtype < 65536)) place fit in
    let others : TypesFit (t ∷ sets) = all_fit (t ∷ sets) rise.1 last in
    (omega (arith, rise.0.0, others.0), others)

-- the records of all types, from one on, are those of the sets
module _ (records : List Record) (owner : Owner) where
  all_from : (first : ℕ) (sets : List RecordSet) → first ≤ 65536 → TypesRise sets → TypesFit sets → AllByRecursion (λ t. first ≤ t.rtype) sets
      → ((rtype : ℕ) → first ≤ rtype → set_of records owner.name rtype ≡ of_type sets rtype)
      → map (given owner.synthesized) (in_all sets) ≡ found_from records owner first (65536 - first)
  all_from first [] few rise fit above own = sym (found-end records owner first 65536 few (λ other from below. own other from))
  all_from first (s ∷ sets) few rise fit above own =
      let here : s.records ≡ set_of records owner.name s.rtype = sym (own s.rtype above.0 ∙ of_first s sets) in
      let less : (other : ℕ) → first ≤ other → other < s.rtype → set_of records owner.name other ≡ [] = λ other from below. own other from ∙ of_less other s sets below rise.0 in
      let from_next : (rtype : ℕ) → s.rtype + 1 ≤ rtype → set_of records owner.name rtype ≡ of_type sets rtype =
      λ rtype from. own rtype (omega (arith, above.0, from)) ∙ of_more rtype s sets (omega (arith, from)) in
      let rest : map (given owner.synthesized) (in_all sets) ≡ found_from records owner (s.rtype + 1) (65536 - (s.rtype + 1)) =
      all_from (s.rtype + 1) sets (omega (arith, fit.0)) rise.1 fit.1 (all_next s.rtype sets rise.0) from_next in
      map-append (given owner.synthesized) s.records (in_all sets)
      ∙ ap (λ (rs : List Record). map (given owner.synthesized) rs ++ map (given owner.synthesized) (in_all sets)) here
      ∙ ap (λ (rs : List Record). found_set records owner s.rtype ++ rs) rest
      ∙ found-next records owner first s.rtype 65536 above.0 fit.0 less

module _ (records : List Record) (name : List (List ℕ)) (sets : List RecordSet) (owner : Option (List (List ℕ))) (own : AreSetsOf records name sets) where
  abbrev who : Owner
  who = record { name = name; synthesized = owner }

  alias_is : (rtype : ℕ) → alias_in sets owner rtype ≡ alias_of records who rtype
  alias_is rtype =
      ap (λ (rs : List Record). if (rtype == 5) || (rtype == 255) then None else first_of (map (given owner) rs)) (sym (set_is records name sets 5 own))

  found_by : (any : Bool) (rtype : ℕ) → (rtype == 255) ≡ any → (rtype ≡ 255 → LastTypeFits sets) → map (given owner) (if any then in_all sets else of_type sets rtype) ≡ (if any then found_all records who else found_set records who rtype)
  found_by true rtype is fit =
      all_from records who 0 sets (omega arith) own.rising (all_fit sets own.rising (fit ((Decides-eqb rtype 255).0 is))) (all_least sets) (λ t from. set_is records name sets t own)
  found_by false rtype is fit = ap (λ (rs : List Record). map (given owner) rs) (sym (set_is records name sets rtype own))

  -- a look at the sets of a name is a look at the zone's list
  pub look_in_is : (rtype : ℕ) → (rtype ≡ 255 → LastTypeFits sets) → look_in sets owner rtype ≡ look_at records (Some who) rtype
  unfolding look_in
  look_in_is rtype fit = rw (alias_is rtype, found_by (rtype == 255) rtype refl fit) refl

none_by : (alias any : Bool) (owner : Option (List (List ℕ))) → NoData ≡ alias_or (if alias then None else None) (map (given owner) (if any then [] else []))
none_by true true owner = refl
none_by true false owner = refl
none_by false true owner = refl
none_by false false owner = refl

none_in : (owner : Option (List (List ℕ))) (rtype : ℕ) → NoData ≡ look_in [] owner rtype
unfolding look_in
none_in owner rtype = none_by ((rtype == 5) || (rtype == 255)) (rtype == 255) owner

module _ (records : List Record) (name : List (List ℕ)) (k rtype : ℕ) where
  abbrev star : List (List ℕ)
  star = star_under (drop k name)

  -- a look at the wildcard under the closest encloser
  pub at_star : (sets : List RecordSet) → AreSetsOf records star sets → 0 < length sets → (rtype ≡ 255 → LastTypeFits sets)
      → look_in sets (Some (fold_of name)) rtype ≡ look_at records (wildcard_under records name (Some (drop k name))) rtype
  at_star sets own some fit =
      look_in_is records star sets (Some (fold_of name)) own rtype fit ∙ rw (sets_exist records star sets own some) refl

  -- where that is there by a name below it alone
  pub at_bare_star : AreSetsOf records star [] → exists records star ≡ true → NoData ≡ look_at records (wildcard_under records name (Some (drop k name))) rtype
  at_bare_star own there =
      let none : NoData ≡ look_at records (Some (record { name = star; synthesized = Some (fold_of name) })) rtype =
      none_in (Some (fold_of name)) rtype ∙ look_in_is records star [] (Some (fold_of name)) own rtype (λ any. tt) in
      none ∙ rw there refl

-- what a look finds at sets, from what it finds there for their own name
module _ (sets : List RecordSet) (owner : Option (List (List ℕ))) (rtype : ℕ) where
  given_first : (b : Bool) (rs : List Record) (a : Record) → Some a ≡ (if b then None else first_of (map (given None) rs)) → (if b then None else first_of (map (given owner) rs)) ≡ Some (given owner a)
  given_first true rs a h = absurd cc
  given_first false [] a h = absurd cc
  given_first false (r ∷ rs) a h = ap (λ (x : Record). Some (given owner x)) (sym (same_Some a r h))

  given_none : (b : Bool) (rs : List Record) → None ≡ (if b then None else first_of (map (given None) rs)) → (if b then None else first_of (map (given owner) rs)) ≡ None
  given_none true rs h = refl
  given_none false [] h = refl
  given_none false (r ∷ rs) h = absurd cc

  pub alias_found : (a : Record) → Some a ≡ alias_in sets None rtype → Alias (given owner a) ≡ look_in sets owner rtype
  unfolding look_in
  alias_found a h = sym (ap (λ (x : Option Record). alias_or x (found_in sets owner rtype)) (given_first ((rtype == 5) || (rtype == 255)) (of_type sets 5) a h))

  module _ (no_alias : None ≡ alias_in sets None rtype) (one : rtype ≡ 255 → ⊥) where
    set_only : look_in sets owner rtype ≡ found_or_none (map (given owner) (records_or_none (set_in rtype sets)))
    unfolding look_in
    set_only =
        ap (λ (x : Option Record). alias_or x (found_in sets owner rtype)) (given_none ((rtype == 5) || (rtype == 255)) (of_type sets 5) no_alias)
        ∙ ap (λ any. found_or_none (map (given owner) (if any then in_all sets else of_type sets rtype))) (not_equal rtype 255 one)

    pub none_found : None ≡ set_in rtype sets → NoData ≡ look_in sets owner rtype
    none_found none = ap (λ set. found_or_none (map (given owner) (records_or_none set))) none ∙ sym set_only

    pub set_found : (s : RecordSet) (alone : List RecordSet) (found : List Record) (look : Look) → Some s ≡ set_in rtype sets → alone ≡ s ∷ [] → found ≡ map (given owner) (in_all alone) → look ≡ found_or_none found → look ≡ look_in sets owner rtype
    set_found s alone found look some by_one records is =
        is ∙ ap found_or_none (records ∙ ap (λ (ss : List RecordSet). map (given owner) (in_all ss)) by_one ∙ ap (map (given owner)) (append-nil s.records))
        ∙ ap (λ set. found_or_none (map (given owner) (records_or_none set))) some ∙ sym set_only
