-- A record that comes in the place of its rival keeps the records of a zone apart.
use Rattle.std.proofs.Common.{◌≡◌, ℕ, List, [], ◌∷◌, Bool, true, false, ◌==◌, if◌then◌else◌, refl, sym, ◌∙◌, subst}
use Rattle.std.specs.List.{AllByRecursion, IsDistinct}
use Rattle.std.proofs.lemmas.Bool.Decides.{same_from_decides, Decides-eqb}
use Rattle.dns_wire.specs.declared.rdata.Data.{Data}
use Rattle.dns_wire.specs.declared.record.Record.{Record}
use Rattle.dns_name.specs.Name.{fold_of, is_same_name}
use Rattle.dns_zone_map.specs.SameData.{data_eq}
use Rattle.dns_zone_map.specs.Zone.{is_rival}
use Rattle.dns_zone_map.specs.Changes.{put_over, AtMostOne}
use Rattle.dns_zone_map.proofs.SameData.{lists_eq-Decides, data_eq-Decides}

-- that two names are equal can be said either way round
pub same_turned : (a b : List (List ℕ)) → is_same_name a b ≡ is_same_name b a
same_turned a b =
    same_from_decides (is_same_name a b) (is_same_name b a) (lists_eq-Decides (fold_of a) (fold_of b))
    (λ passed. sym ((lists_eq-Decides (fold_of b) (fold_of a)).0 passed), λ same. (lists_eq-Decides (fold_of b) (fold_of a)).1 (sym same))

-- what equals the one of two equal names equals the other
same_on : (a b c : List (List ℕ)) → is_same_name a b ≡ true → is_same_name b c ≡ is_same_name a c
same_on a b c passed =
    let same : fold_of a ≡ fold_of b = (lists_eq-Decides (fold_of a) (fold_of b)).0 passed in
    rw same refl

-- data is equal either way round
pub data_turned : (a b : Data) → data_eq a b ≡ data_eq b a
data_turned a b =
    same_from_decides (data_eq a b) (data_eq b a) (data_eq-Decides a b)
    (λ passed. sym ((data_eq-Decides b a).0 passed), λ same. (data_eq-Decides b a).1 (sym same))

data_on : (a b c : Data) → data_eq a b ≡ true → data_eq b c ≡ data_eq a c
data_on a b c passed = subst (λ other. data_eq other c ≡ data_eq a c) ((data_eq-Decides a b).0 passed) refl

-- types are equal either way round
pub type_turned : (r s : Record) → (r.rtype == s.rtype) ≡ (s.rtype == r.rtype)
type_turned r s =
    same_from_decides (r.rtype == s.rtype) (s.rtype == r.rtype) (Decides-eqb r.rtype s.rtype)
    (λ passed. sym ((Decides-eqb s.rtype r.rtype).0 passed), λ same. (Decides-eqb s.rtype r.rtype).1 (sym same))

turned_if : (same_type : Bool) (r s : Record) → (r.rtype == s.rtype) ≡ same_type → (s.rtype == r.rtype) ≡ same_type → is_rival r s ≡ is_rival s r
turned_if true r s there back =
    let same : r.rtype ≡ s.rtype = (Decides-eqb r.rtype s.rtype).0 there in
    rw (there, back, same, same_turned r.name s.name, data_turned r.rdata s.rdata) refl
turned_if false r s there back = rw (there, back) refl

-- rivals are rivals either way round
pub is_rival-turned : (r s : Record) → is_rival r s ≡ is_rival s r
is_rival-turned r s = turned_if (r.rtype == s.rtype) r s refl (sym (type_turned r s))

on_if : (same_type soa same_name alias : Bool) (r s o : Record) → (r.rtype == s.rtype) ≡ same_type → (r.rtype == 6) ≡ soa → is_same_name r.name s.name ≡ same_name → (r.rtype == 5) ≡ alias → is_rival r s ≡ true → is_rival s o ≡ is_rival r o
on_if false soa same_name alias r s o e f g h passed = absurd (cc (rw e at passed))
on_if true true same_name alias r s o e f g h passed =
    let same : r.rtype ≡ s.rtype = (Decides-eqb r.rtype s.rtype).0 e in
    rw (← same, f) refl
on_if true false false alias r s o e f g h passed = absurd (cc (rw (e, f, g) at passed))
on_if true false true true r s o e f g h passed =
    let same : r.rtype ≡ s.rtype = (Decides-eqb r.rtype s.rtype).0 e in
    rw (← same, h, same_on r.name s.name o.name g) refl
on_if true false true false r s o e f g h passed =
    let same : r.rtype ≡ s.rtype = (Decides-eqb r.rtype s.rtype).0 e in
    let equal : data_eq r.rdata s.rdata ≡ true = rw (e, f, g, h) at passed in
    rw (← same, h, same_on r.name s.name o.name g, data_on r.rdata s.rdata o.rdata equal) refl

-- the rivals of one of two rivals are the rivals of the other
pub is_rival-on : (r s o : Record) → is_rival r s ≡ true → is_rival s o ≡ is_rival r o
is_rival-on r s o passed = on_if (r.rtype == s.rtype) (r.rtype == 6) (is_same_name r.name s.name) (r.rtype == 5) r s o refl refl refl refl passed

-- what is apart from one of two rivals is apart from the other
apart_on : (r s : Record) (records : List Record) → is_rival r s ≡ true → AllByRecursion (λ o. is_rival s o ≡ false) records → AllByRecursion (λ o. is_rival r o ≡ false) records
apart_on r s [] rival apart = tt
apart_on r s (o ∷ records) rival apart = (sym (is_rival-on r s o rival) ∙ apart.0, apart_on r s records rival apart.1)

apart_if : (test : Bool) (x r s : Record) (records : List Record) → is_rival x r ≡ false → is_rival x s ≡ false → AllByRecursion (λ o. is_rival x o ≡ false) records → AllByRecursion (λ o. is_rival x o ≡ false) (put_over (is_rival r) r records)
    → AllByRecursion (λ o. is_rival x o ≡ false) (if test then r ∷ records else s ∷ put_over (is_rival r) r records)
apart_if true x r s records new old apart put = (new, apart)
apart_if false x r s records new old apart put = (old, put)

-- what is apart from a record and from others is apart from them when the record came to them
apart_put : (x r : Record) (records : List Record) → is_rival x r ≡ false → AllByRecursion (λ o. is_rival x o ≡ false) records → AllByRecursion (λ o. is_rival x o ≡ false) (put_over (is_rival r) r records)
apart_put x r [] new apart = (new, tt)
apart_put x r (s ∷ records) new apart = apart_if (is_rival r s) x r s records new apart.0 apart.1 (apart_put x r records new apart.1)

distinct_if : (test : Bool) (r s : Record) (records : List Record) → is_rival r s ≡ test → AllByRecursion (λ o. is_rival s o ≡ false) records → IsDistinct is_rival records → IsDistinct is_rival (put_over (is_rival r) r records)
    → IsDistinct is_rival (if test then r ∷ records else s ∷ put_over (is_rival r) r records)
unfolding IsDistinct
distinct_if true r s records rival apart distinct put = (apart_on r s records rival apart, distinct)
distinct_if false r s records rival apart distinct put = (apart_put s r records (sym (is_rival-turned r s) ∙ rival) apart, put)

-- a record in the place of its rival keeps records apart
pub distinct_put : (r : Record) (records : List Record) → IsDistinct is_rival records → IsDistinct is_rival (put_over (is_rival r) r records)
unfolding IsDistinct
distinct_put r [] distinct = (tt, tt)
distinct_put r (s ∷ records) distinct = distinct_if (is_rival r s) r s records refl distinct.0 distinct.1 (distinct_put r records distinct.1)

-- of records that are apart at most one is the rival of another
pub one_rival : (r : Record) (records : List Record) → IsDistinct is_rival records → AtMostOne (is_rival r) records
unfolding IsDistinct
one_rival r [] distinct = tt
one_rival r (s ∷ records) distinct = ((λ passed. apart_on r s records passed distinct.0), one_rival r records distinct.1)
