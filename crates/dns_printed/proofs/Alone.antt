-- Where no name of a zone owns an alias and a record of another type, aliases are alone.
use Rattle.std.proofs.Common.{◌≡◌, ℕ, Bool, true, false, not, ◌==◌, ◌&&◌, ◌||◌, List, [], ◌∷◌, refl, sym, ◌∙◌}
use Rattle.std.specs.List.{AllByRecursion, IsDistinct, list_any}
use Rattle.std.proofs.lemmas.Bool.Decides.{Decides-eqb}
use Rattle.dns_name.specs.Name.{is_same_name}
use Rattle.dns_wire.specs.declared.record.Record.{Record}
use Rattle.dns_zone_map.specs.SameData.{data_eq}
use Rattle.dns_zone_map.specs.Zone.{is_type, is_rival, IsZone}
use Rattle.dns_zone.specs.Owner.{is_of_another_type, owns_another_type}
use Rattle.dns_printed.specs.Lone.{is_alias_pair, HasLoneAliases, has_alias_beside_other}
use Rattle.dns_printed.proofs.Placing.{same_turned}

either : (a b : Bool) → (a || b) ≡ false → (a ≡ false) × (b ≡ false)
either true b none = absurd cc
either false b none = (refl, none)

or-second : (a b : Bool) → b ≡ true → (a || b) ≡ true
or-second true b h = refl
or-second false b h = h

or-first : (a b : Bool) → a ≡ true → (a || b) ≡ true
or-first true b h = refl
or-first false b h = absurd cc

module _ (all : List Record) where
  -- no alias beside the record, and what the record passes some record of all passes
  record Lies (r : Record) : Type 0 where
    none : (is_type 5 r && owns_another_type all r.name 5) ≡ false
    among : (p : Record → Bool) → p r ≡ true → list_any p all ≡ true

  -- an alias and a record of another type of the same name
  mixed : (r s : Record) → Lies r → Lies s → is_same_name s.name r.name ≡ true → is_type 5 r ≡ true → is_type 5 s ≡ false → ⊥
  mixed r s lies other named alias plain =
      let passes : is_of_another_type r.name 5 s ≡ true = rw (plain, named) refl in
      let there : owns_another_type all r.name 5 ≡ true = other.among (is_of_another_type r.name 5) passes in
      let none : (true && true) ≡ false = rw (alias, there) at lies.none in
      cc

  -- two aliases of one name
  rivals : (r s : Record) → is_rival r s ≡ false → is_same_name r.name s.name ≡ true → is_type 5 r ≡ true → is_type 5 s ≡ true → ⊥
  rivals r s apart named one two =
      let first : r.rtype ≡ 5 = (Decides-eqb r.rtype 5).0 one in
      let second : s.rtype ≡ 5 = (Decides-eqb s.rtype 5).0 two in
      let none : true ≡ false = rw (first, second, named) at apart in
      cc

  pair_by : (same alias other : Bool) (r s : Record) → is_same_name r.name s.name ≡ same → is_type 5 r ≡ alias → is_type 5 s ≡ other → Lies r → Lies s → is_rival r s ≡ false → (same && (alias || other)) ≡ false
  pair_by true true true r s named one two lies other apart = absurd (rivals r s apart named one two)
  pair_by true true false r s named one two lies other apart = absurd (mixed r s lies other (same_turned s.name r.name ∙ named) one two)
  pair_by true false true r s named one two lies other apart = absurd (mixed s r other lies named two one)
  pair_by true false false r s named one two lies other apart = refl
  pair_by false alias other_alias r s named one two lies other apart = refl

  pairs : (r : Record) (records : List Record) → Lies r → AllByRecursion Lies records → AllByRecursion (λ s. is_rival r s ≡ false) records → AllByRecursion (λ s. is_alias_pair r s ≡ false) records
  pairs r [] lies others apart = tt
  pairs r (s ∷ records) lies others apart =
      (pair_by (is_same_name r.name s.name) (is_type 5 r) (is_type 5 s) r s refl refl refl lies others.0 apart.0, pairs r records lies others.1 apart.1)

  distinct : (records : List Record) → AllByRecursion Lies records → IsDistinct is_rival records → HasLoneAliases records
  unfolding IsDistinct
  distinct [] lie apart = tt
  distinct (r ∷ records) lie apart = (pairs r records lie.0 lie.1 apart.0, distinct records lie.1 apart.1)

  lie_all : (records : List Record) → ((p : Record → Bool) → list_any p records ≡ true → list_any p all ≡ true) → list_any (λ r. is_type 5 r && owns_another_type all r.name 5) records ≡ false → AllByRecursion Lies records
  lie_all [] among none = tt
  lie_all (r ∷ records) among none =
      let parts = either (is_type 5 r && owns_another_type all r.name 5) (list_any (λ x. is_type 5 x && owns_another_type all x.name 5) records) none in (
        record { none = parts.0; among = λ p passes. among p (or-first (p r) (list_any p records) passes) },
        lie_all records (λ p passes. among p (or-second (p r) (list_any p records) passes)) parts.1,
      )

-- aliases are alone in a zone where no name owns one and a record of another type
pub lone_from : (origin : List (List ℕ)) (records : List Record) → IsZone origin records → has_alias_beside_other records ≡ false → HasLoneAliases records
lone_from origin records zone none = distinct records records (lie_all records records (λ p passes. passes) none) zone.distinct
