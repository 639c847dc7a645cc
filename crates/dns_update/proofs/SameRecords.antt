-- The tests of records and of their lists for equality.
use Rattle.std.proofs.Common.{◌≡◌, ℕ, List, Bool, true, false, ◌&&◌, ◌==◌, refl, subst}
use Rattle.std.specs.Bool.{Decides}
use Rattle.std.proofs.lemmas.Bool.Decides.{Decides-eqb}
use Rattle.std.proofs.lemmas.Slice.Eq.{slice_eq-Decides}
use Rattle.dns_wire.specs.declared.rdata.Data.{Data}
use Rattle.dns_wire.specs.declared.record.Record.{Record}
use Rattle.dns_zone_map.specs.SameData.{lists_eq, data_eq}
use Rattle.dns_zone_map.proofs.SameData.{lists_eq-Decides, data_eq-Decides}
use Rattle.dns_update.specs.Change.{is_same_record, are_same_records}

-- both of two tests pass
pub both_of : (x y : Bool) → (x && y) ≡ true → (x ≡ true) × (y ≡ true)
both_of true true passed = (refl, refl)
both_of true false passed = absurd cc
both_of false y passed = absurd cc

record_same : (n o : List (List ℕ)) (t u c d l k : ℕ) (a b : Data) → n ≡ o → t ≡ u → c ≡ d → l ≡ k → a ≡ b → ◌≡◌ {A = Record} (record { name = n; rtype = t; class = c; ttl = l; rdata = a }) (record { name = o; rtype = u; class = d; ttl = k; rdata = b })
record_same n o t u c d l k a b p q r s v = rw (p, q, r, s, v) refl

is_same_record-true : (r s : Record) → is_same_record r s ≡ true → r ≡ s
is_same_record-true r s passed =
    let first = both_of (lists_eq r.name s.name) ((r.rtype == s.rtype) && ((r.class == s.class) && ((r.ttl == s.ttl) && data_eq r.rdata s.rdata))) passed in
    let second = both_of (r.rtype == s.rtype) ((r.class == s.class) && ((r.ttl == s.ttl) && data_eq r.rdata s.rdata)) first.1 in
    let third = both_of (r.class == s.class) ((r.ttl == s.ttl) && data_eq r.rdata s.rdata) second.1 in
    let fourth = both_of (r.ttl == s.ttl) (data_eq r.rdata s.rdata) third.1 in
    record_same r.name s.name r.rtype s.rtype r.class s.class r.ttl s.ttl r.rdata s.rdata
    ((lists_eq-Decides r.name s.name).0 first.0) ((Decides-eqb r.rtype s.rtype).0 second.0) ((Decides-eqb r.class s.class).0 third.0)
    ((Decides-eqb r.ttl s.ttl).0 fourth.0) ((data_eq-Decides r.rdata s.rdata).0 fourth.1)

is_same_record-self : (r : Record) → is_same_record r r ≡ true
is_same_record-self r =
    rw (
      (lists_eq-Decides r.name r.name).1 refl,
      (Decides-eqb r.rtype r.rtype).1 refl,
      (Decides-eqb r.class r.class).1 refl,
      (Decides-eqb r.ttl r.ttl).1 refl,
      (data_eq-Decides r.rdata r.rdata).1 refl,
    ) refl

pub is_same_record-Decides : (r s : Record) → Decides (is_same_record r s) (r ≡ s)
is_same_record-Decides r s = (is_same_record-true r s, λ same. subst (λ other. is_same_record r other ≡ true) same (is_same_record-self r))

pub are_same_records-Decides : (a b : List Record) → Decides (are_same_records a b) (a ≡ b)
are_same_records-Decides a b = slice_eq-Decides {E = is_same_record} is_same_record-Decides a b (are_same_records a b) refl

pub are_same_records-self : (l : List Record) → are_same_records l l ≡ true
are_same_records-self l = (are_same_records-Decides l l).1 refl

pub are_same_records-true : (l m : List Record) → are_same_records l m ≡ true → l ≡ m
are_same_records-true l m = (are_same_records-Decides l m).0
