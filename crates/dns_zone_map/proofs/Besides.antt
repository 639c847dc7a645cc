-- Whether a record may stand beside others shows in the sets of its owner.
use Rattle.std.proofs.Common.{◌≡◌, ℕ, ◌+◌, ◌≤◌, List, [], ◌∷◌, refl, sym, ap, ◌∙◌, arith, Bool, true, false, not, if◌then◌else◌, filter, Bor}
use Rattle.std.specs.Prelude.{None, Some, Option, is_some, ◌==◌, ◌||◌, ◌&&◌}
use Rattle.std.specs.Option.{option_copied}
use Rattle.std.specs.List.{list_any, AllByRecursion}
use Rattle.std.proofs.lemmas.Bool.Decides.{Decides-eqb}
use Rattle.std.proofs.lemmas.List.Folds.{list_any-append}
use Rattle.dns_name.specs.Name.{is_same_name}
use Rattle.dns_wire.specs.declared.record.Record.{Record}
use Rattle.dns_zone_map.specs.declared.sets.RecordSet.{RecordSet}
use Rattle.dns_zone_map.specs.SameData.{data_eq}
use Rattle.dns_zone_map.specs.Zone.{is_type, is_in_set, is_equal, set_of, IsEntry, IsSoFar}
use Rattle.dns_zone_map.specs.Sets.{AreSetsOf, TypesRise, set_in, some_of, in_all, of_type, records_or_none}
use Rattle.dns_zone_map.specs.Beside.{is_beside_alias, is_other, stands_beside}
use Rattle.dns_zone_map.proofs.Rivals.{type_turned, data_turned, same_turned}
use Rattle.dns_zone_map.proofs.Owned.{any_filter, owned_is, set_is, of_first, of_more, all_next, all_least}

-- two tests that agree on each record agree on all
any_same : (P : Record → Type 0) (p q : Record → Bool) (records : List Record) → AllByRecursion P records → ((r : Record) → P r → p r ≡ q r) → list_any p records ≡ list_any q records
any_same P p q [] all same = refl
any_same P p q (r ∷ records) all same = rw (same r all.0, any_same P p q records all.1 same) refl

every : (p q : Record → Bool) (records : List Record) → ((r : Record) → p r ≡ q r) → list_any p records ≡ list_any q records
every p q [] same = refl
every p q (r ∷ records) same = rw (same r, every p q records same) refl

soa_by : (soa same : Bool) → (soa ≡ true → same ≡ true) → soa ≡ (soa && same)
soa_by true same at = sym (at refl)
soa_by false same at = refl

-- there is an SOA where the origin owns one
pub soa_is : (origin : List (List ℕ)) (records : List Record) → IsSoFar origin records → list_any (is_type 6) records ≡ is_some (some_of (set_of records origin 6))
soa_is origin records so_far =
    any_same (IsEntry origin) (is_type 6) (is_in_set origin 6) records so_far.entries (λ r entry. soa_by (is_type 6 r) (is_same_name r.name origin) entry.soa)
    ∙ any_filter (is_in_set origin 6) records

both_ways : (a b : Bool) → (a ≡ true → b ≡ true) → (b ≡ true → a ≡ true) → a ≡ b
both_ways true b f g = sym (f refl)
both_ways false true f g = absurd (let e : false ≡ true = g refl in cc)
both_ways false false f g = refl

-- beside a record that is no alias stands an alias of its name
plain_by : (other same_type same_name equal : Bool) → (other ≡ true → same_type ≡ false) → (other && same_name) ≡ ((false || other) && (not (same_type && (same_name && equal)) && same_name))
plain_by true true same_name equal apart = absurd (let e : true ≡ false = apart refl in cc)
plain_by true false same_name equal apart = refl
plain_by false same_type same_name equal apart = refl

types_apart : (r s : Record) → is_type 5 r ≡ false → is_type 5 s ≡ true → (r.rtype == s.rtype) ≡ false
types_apart r s plain alias = by_test (r.rtype == s.rtype) refl
  where
    by_test : (b : Bool) → (r.rtype == s.rtype) ≡ b → b ≡ false
    by_test true same =
        let five : s.rtype ≡ 5 = (Decides-eqb s.rtype 5).0 alias in
        let here : (r.rtype == 5) ≡ true = (Decides-eqb r.rtype 5).1 ((Decides-eqb r.rtype s.rtype).0 same ∙ five) in
        cc
    by_test false same = refl

plain_is : (r s : Record) → is_type 5 r ≡ false → is_in_set r.name 5 s ≡ is_beside_alias r s
plain_is r s plain =
    rw (plain, same_turned s.name r.name) (plain_by (is_type 5 s) (r.rtype == s.rtype) (is_same_name r.name s.name) (data_eq r.rdata s.rdata) (types_apart r s plain))

-- beside an alias stands any other record of its name
alias_by : (same_type same_name equal : Bool) → same_name ≡ true → not (same_type && equal) ≡ (not (same_type && (same_name && equal)) && same_name)
alias_by true true true named = refl
alias_by true true false named = refl
alias_by false true equal named = refl
alias_by same_type false equal named = absurd cc

alias_is : (r s : Record) → is_type 5 r ≡ true → is_same_name s.name r.name ≡ true → is_other r s ≡ is_beside_alias r s
alias_is r s alias named =
    rw (alias, type_turned s r, data_turned s.rdata r.rdata)
    (alias_by (r.rtype == s.rtype) (is_same_name r.name s.name) (data_eq r.rdata s.rdata) (same_turned r.name s.name ∙ named))

and-last : (a b c : Bool) → (a && (b && c)) ≡ true → c ≡ true
and-last true true c h = h
and-last true false c h = absurd cc
and-last false b c h = absurd cc

named_beside : (r s : Record) → is_beside_alias r s ≡ true → is_same_name s.name r.name ≡ true
named_beside r s beside = same_turned s.name r.name ∙ and-last (is_type 5 r || is_type 5 s) (not (is_equal r s)) (is_same_name r.name s.name) beside

and-second : (a b : Bool) → (a && b) ≡ true → b ≡ true
and-second true b h = h
and-second false b h = absurd cc

or-first : (a b : Bool) → a ≡ true → (a || b) ≡ true
or-first true b h = refl
or-first false b h = absurd cc

or-second : (a b : Bool) → b ≡ true → (a || b) ≡ true
or-second true b h = refl
or-second false b h = h

-- some record of those that pass a test passes another, so some record passes a third
from_by : (kept : Bool) (f g : Record → Bool) (x : Record) (rest found : List Record) → (kept ≡ true → f x ≡ true → g x ≡ true) → (list_any f found ≡ true → list_any g rest ≡ true)
    → list_any f (if kept then x ∷ found else found) ≡ true → (g x || list_any g rest) ≡ true
from_by true f g x rest found here later h = by_first (f x) refl h
  where
    by_first : (b : Bool) → f x ≡ b → (b || list_any f found) ≡ true → (g x || list_any g rest) ≡ true
    by_first true is h = or-first (g x) (list_any g rest) (here refl is)
    by_first false is h = or-second (g x) (list_any g rest) (later h)
from_by false f g x rest found here later h = or-second (g x) (list_any g rest) (later h)

any_from : (p f g : Record → Bool) → ((x : Record) → p x ≡ true → f x ≡ true → g x ≡ true) → (records : List Record) → list_any f (filter p records) ≡ true → list_any g records ≡ true
any_from p f g passes [] h = absurd cc
any_from p f g passes (x ∷ records) h = from_by (p x) f g x records (filter p records) (passes x) (any_from p f g passes records) h

-- a record that passes a test stays among those that pass one that it passes too
record Found (g : Record → Bool) (records : List Record) : Type 0 where
  one : Record
  passes : g one ≡ true
  kept : (p f : Record → Bool) → p one ≡ true → f one ≡ true → list_any f (filter p records) ≡ true

kept_by : (b : Bool) (f : Record → Bool) (x : Record) (found : List Record) → list_any f found ≡ true → list_any f (if b then x ∷ found else found) ≡ true
kept_by true f x found h = or-second (f x) (list_any f found) h
kept_by false f x found h = h

found_here : (g : Record → Bool) (x : Record) (records : List Record) → g x ≡ true → Found g (x ∷ records)
found_here g x records is = record {
  one = x;
  passes = is;
  kept = λ p f kept passes. rw kept (or-first (f x) (list_any f (filter p records)) passes);
}

found_later : (g : Record → Bool) (x : Record) (records : List Record) → Found g records → Found g (x ∷ records)
found_later g x records later = record {
  one = later.one;
  passes = later.passes;
  kept = λ p f kept passes. kept_by (p x) f x (filter p records) (later.kept p f kept passes);
}

found_by : (here : Bool) (g : Record → Bool) (x : Record) (records : List Record) → g x ≡ here → (list_any g records ≡ true → Found g records) → (here || list_any g records) ≡ true → Found g (x ∷ records)
found_by true g x records is later h = found_here g x records is
found_by false g x records is later h = found_later g x records (later h)

found_of : (g : Record → Bool) (records : List Record) → list_any g records ≡ true → Found g records
found_of g [] h = absurd cc
found_of g (x ∷ records) h = found_by (g x) g x records refl (found_of g records) h

-- what passes in one of the sets passes in all of them
in_one_by : (b : Bool) (f : Record → Bool) (s : RecordSet) (sets : List RecordSet) (rtype : ℕ) → (list_any f (of_type sets rtype) ≡ true → list_any f (in_all sets) ≡ true)
    → list_any f (records_or_none (if b then Some s else set_in rtype sets)) ≡ true → (list_any f s.records || list_any f (in_all sets)) ≡ true
in_one_by true f s sets rtype later h = or-first (list_any f s.records) (list_any f (in_all sets)) h
in_one_by false f s sets rtype later h = or-second (list_any f s.records) (list_any f (in_all sets)) (later h)

in_one : (f : Record → Bool) (sets : List RecordSet) (rtype : ℕ) → list_any f (of_type sets rtype) ≡ true → list_any f (in_all sets) ≡ true
in_one f [] rtype h = absurd cc
in_one f (s ∷ sets) rtype h = list_any-append f s.records (in_all sets) ∙ in_one_by (s.rtype == rtype) f s sets rtype (in_one f sets rtype) h

-- each set has the records of its type
each_set : (records : List Record) (name : List (List ℕ)) (first : ℕ) (sets : List RecordSet) → TypesRise sets → AllByRecursion (λ t. first ≤ t.rtype) sets
    → ((rtype : ℕ) → first ≤ rtype → set_of records name rtype ≡ of_type sets rtype) → AllByRecursion (λ s. s.records ≡ set_of records name s.rtype) sets
each_set records name first [] rise above own = tt
each_set records name first (s ∷ sets) rise above own = (
  sym (own s.rtype above.0 ∙ of_first s sets),
  each_set records name (s.rtype + 1) sets rise.1 (all_next s.rtype sets rise.0) (λ rtype from. own rtype (omega (arith, above.0, from)) ∙ of_more rtype s sets (omega (arith, from))),
)

module _ (records : List Record) (name : List (List ℕ)) (f g : Record → Bool) (passes : (x : Record) → is_same_name x.name name ≡ true → f x ≡ true → g x ≡ true) where
  in_set_of : (rtype : ℕ) → list_any f (set_of records name rtype) ≡ true → list_any g records ≡ true
  in_set_of rtype h =
      any_from (is_in_set name rtype) f g (λ x kept. passes x (and-second (is_type rtype x) (is_same_name x.name name) kept)) records h

  sets_by : (b : Bool) (s : RecordSet) (rest : List Record) → list_any f s.records ≡ b → s.records ≡ set_of records name s.rtype → (list_any f rest ≡ true → list_any g records ≡ true)
      → (b || list_any f rest) ≡ true → list_any g records ≡ true
  sets_by true s rest is set later h = in_set_of s.rtype (rw set at is)
  sets_by false s rest is set later h = later h

  from_sets : (sets : List RecordSet) → AllByRecursion (λ s. s.records ≡ set_of records name s.rtype) sets → list_any f (in_all sets) ≡ true → list_any g records ≡ true
  from_sets [] each h = absurd cc
  from_sets (s ∷ sets) each h =
      sets_by (list_any f s.records) s (in_all sets) refl each.0 (from_sets sets each.1) (sym (list_any-append f s.records (in_all sets)) ∙ h)

module _ (records : List Record) (r : Record) (sets : List RecordSet) (own : AreSetsOf records r.name sets) where
  alias_in_sets : is_type 5 r ≡ true → list_any (is_other r) (in_all sets) ≡ list_any (is_beside_alias r) records
  alias_in_sets alias =
      both_ways (list_any (is_other r) (in_all sets)) (list_any (is_beside_alias r) records)
      (from_sets records r.name (is_other r) (is_beside_alias r) (λ x named passes. sym (alias_is r x alias named) ∙ passes) sets
      (each_set records r.name 0 sets own.rising (all_least sets) (λ rtype from. set_is records r.name sets rtype own)))
      (λ beside.
      let found = found_of (is_beside_alias r) records beside in
      let named : is_same_name found.one.name r.name ≡ true = named_beside r found.one found.passes in
      let same : (found.one.rtype == found.one.rtype) ≡ true = (Decides-eqb found.one.rtype found.one.rtype).1 refl in
      let in_set : is_in_set r.name found.one.rtype found.one ≡ true = rw (same, named) refl in
      let there : list_any (is_other r) (set_of records r.name found.one.rtype) ≡ true =
      found.kept (is_in_set r.name found.one.rtype) (is_other r) in_set (alias_is r found.one alias named ∙ found.passes) in
      in_one (is_other r) sets found.one.rtype (sym (ap (list_any (is_other r)) (set_is records r.name sets found.one.rtype own)) ∙ there))

  plain_in_sets : is_type 5 r ≡ false → is_some (set_in 5 sets) ≡ list_any (is_beside_alias r) records
  plain_in_sets plain = sym (owned_is records r.name sets 5 own) ∙ every (is_in_set r.name 5) (is_beside_alias r) records (λ s. plain_is r s plain)

  beside_by : (alias : Bool) → is_type 5 r ≡ alias → (if alias then list_any (is_other r) (in_all sets) else is_some (set_in 5 sets)) ≡ list_any (is_beside_alias r) records
  beside_by true is = alias_in_sets is
  beside_by false is = plain_in_sets is

  -- whether it may stand beside others shows in the sets of its owner
  pub beside_is : stands_beside sets r ≡ list_any (is_beside_alias r) records
  beside_is = beside_by (is_type 5 r) refl

none_by : (alias : Bool) → false ≡ (if alias then false else false)
none_by true = refl
none_by false = refl

-- beside nothing it may stand
pub beside_none : (records : List Record) (r : Record) → AreSetsOf records r.name [] → false ≡ list_any (is_beside_alias r) records
beside_none records r own = none_by (is_type 5 r) ∙ beside_is records r [] own

-- what is lent is there where it is
pub copied_some : {X : Type 0} (found : Option (Bor X)) → is_some found ≡ is_some (option_copied found)
copied_some None = refl
copied_some (Some x) = refl
