-- The records of a zone are placed the one behind the other.
use Rattle.std.proofs.Common.{◌≡◌, ℕ, Bool, true, false, not, ◌==◌, ◌&&◌, ◌||◌, List, [], ◌∷◌, ◌++◌, Ok, refl, sym, ap, ◌∙◌}
use Rattle.std.specs.List.{AllByRecursion, list_any}
use Rattle.std.proofs.lemmas.Bool.Decides.{same_from_decides, Decides-eqb}
use Rattle.dns_name.specs.Name.{is_same_name}
use Rattle.dns_name.proofs.SameNames.{is_same_name-Decides}
use Rattle.dns_wire.specs.declared.record.Record.{Record}
use Rattle.dns_zone_map.specs.SameData.{data_eq}
use Rattle.dns_zone_map.specs.Zone.{is_type, is_equal, is_rival, IsEntry}
use Rattle.dns_zone_map.proofs.Rivals.{is_rival-turned}
use Rattle.dns_zone_map.specs.Beside.{is_beside_alias}
use Rattle.dns_zone.specs.ZoneText.{put_in, placed}
use Rattle.dns_printed.specs.Lone.{is_alias_pair}

-- two records that may stand in one zone
pub record IsApart (s r : Record) : Type 0 where
  pub rival : is_rival s r ≡ false
  pub alias : is_alias_pair s r ≡ false

-- no rival is equal
equal_by : (same_type soa same_name alias same_data : Bool) → (same_type && (soa || (same_name && (alias || same_data)))) ≡ false → (same_type && (same_name && same_data)) ≡ false
equal_by false soa same_name alias same_data none = refl
equal_by true true same_name alias same_data none = absurd cc
equal_by true false false alias same_data none = refl
equal_by true false true true same_data none = absurd cc
equal_by true false true false same_data none = none

not_rival : (s r : Record) → IsApart s r → is_rival r s ≡ false
not_rival s r apart = is_rival-turned r s ∙ apart.rival

not_equal : (s r : Record) → IsApart s r → is_equal r s ≡ false
not_equal s r apart = equal_by (r.rtype == s.rtype) (r.rtype == 6) (is_same_name r.name s.name) (r.rtype == 5) (data_eq r.rdata s.rdata) (not_rival s r apart)

-- the record comes behind those that are there
put_behind : (records : List Record) (r : Record) → AllByRecursion (λ s. IsApart s r) records → put_in records r ≡ records ++ r ∷ []
put_behind [] r apart = refl
put_behind (s ∷ records) r apart = rw (not_equal s r apart.0) (ap (λ (all : List Record). s ∷ all) (put_behind records r apart.1))

none_any : (test : Record → Bool) (records : List Record) → AllByRecursion (λ s. test s ≡ false) records → list_any test records ≡ false
none_any test [] none = refl
none_any test (s ∷ records) none = rw none.0 (none_any test records none.1)

-- two SOAs are rivals
other_type : (s r : Record) (soa : Bool) → (r.rtype == 6) ≡ true → (s.rtype == 6) ≡ soa → IsApart s r → is_type 6 s ≡ false
other_type s r false is other apart = other
other_type s r true is other apart =
    let first : r.rtype ≡ 6 = (Decides-eqb r.rtype 6).0 is in
    let second : s.rtype ≡ 6 = (Decides-eqb s.rtype 6).0 other in
    let same : (r.rtype == s.rtype) ≡ true = (Decides-eqb r.rtype s.rtype).1 (first ∙ sym second) in
    let rival : is_rival r s ≡ true = rw (same, is) refl in
    absurd (cc (rival, not_rival s r apart))

other_types : (r : Record) (records : List Record) → (r.rtype == 6) ≡ true → AllByRecursion (λ s. IsApart s r) records → AllByRecursion (λ s. is_type 6 s ≡ false) records
other_types r [] is apart = tt
other_types r (s ∷ records) is apart = (other_type s r (s.rtype == 6) is refl apart.0, other_types r records is apart.1)

-- an SOA is at the origin, and there is none before it
soa_alone : (origin : List (List ℕ)) (records : List Record) (r : Record) (soa : Bool) → (r.rtype == 6) ≡ soa → IsEntry origin r → AllByRecursion (λ s. IsApart s r) records
    → (is_type 6 r && (not (is_same_name r.name origin) || list_any (is_type 6) records)) ≡ false
soa_alone origin records r false is entry apart = rw is refl
soa_alone origin records r true is entry apart = rw (is, entry.soa is, none_any (is_type 6) records (other_types r records is apart)) refl

pub same_turned : (a b : List (List ℕ)) → is_same_name a b ≡ is_same_name b a
same_turned a b =
    same_from_decides (is_same_name a b) (is_same_name b a) (is_same_name-Decides a b)
    (λ passed. sym ((is_same_name-Decides b a).0 passed), λ same. (is_same_name-Decides b a).1 (sym same))

beside_by : (same alias other equal : Bool) → (same && (other || alias)) ≡ false → ((alias || other) && (not equal && same)) ≡ false
beside_by true true other equal none = absurd (cc (none, true_last other))
  where
    true_last : (b : Bool) → (b || true) ≡ true
    true_last true = refl
    true_last false = refl
beside_by true false true equal none = absurd cc
beside_by true false false equal none = refl
beside_by false true other true none = refl
beside_by false true other false none = refl
beside_by false false true true none = refl
beside_by false false true false none = refl
beside_by false false false equal none = refl

-- none of those that are there is an alias of its name, nor is it an alias beside them
not_beside : (s r : Record) → IsApart s r → is_beside_alias r s ≡ false
not_beside s r apart =
    let pair : (is_same_name r.name s.name && (is_type 5 s || is_type 5 r)) ≡ false = rw (same_turned r.name s.name) apart.alias in
    beside_by (is_same_name r.name s.name) (is_type 5 r) (is_type 5 s) (is_equal r s) pair

not_beside_any : (r : Record) (records : List Record) → AllByRecursion (λ s. IsApart s r) records → AllByRecursion (λ s. is_beside_alias r s ≡ false) records
not_beside_any r [] apart = tt
not_beside_any r (s ∷ records) apart = (not_beside s r apart.0, not_beside_any r records apart.1)

-- the record is placed at the end
pub placed_behind : (origin : List (List ℕ)) (records : List Record) (r : Record) → IsEntry origin r → AllByRecursion (λ s. IsApart s r) records → placed origin records r ≡ Ok (records ++ r ∷ [])
unfolding placed
placed_behind origin records r entry apart =
    rw (entry.within, soa_alone origin records r (r.rtype == 6) refl entry apart, none_any (is_beside_alias r) records (not_beside_any r records apart)) (ap Ok (put_behind records r apart))
