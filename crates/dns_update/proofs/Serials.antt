-- A serial that is set before a step and after it is as if it were set after it alone.
use Rattle.std.proofs.Common.{◌≡◌, ℕ, suc, List, [], ◌∷◌, length, refl, sym, ap, ◌∙◌, Bool, true, false}
use Rattle.std.specs.Prelude.{filter, not, ◌==◌, ◌&&◌, if◌then◌else◌}
use Rattle.std.proofs.lemmas.Bool.Decides.{Decides-eqb}
use Rattle.dns_wire.specs.declared.record.Record.{Record}
use Rattle.dns_wire.specs.declared.rdata.Data.{Data}
use Rattle.dns_wire.specs.declared.rdata.Data.TheVariants.{A, Aaaa, Ns, Cname, Ptr, Mx, Srv, Soa, Txt, Opaque, Empty}
use Rattle.dns_wire.specs.declared.record_type.TheConstants.{SOA, NS}
use Rattle.dns_zone_map.specs.Zone.{is_type, is_in_set, is_equal, is_rival}
use Rattle.dns_zone_map.specs.Changes.{put_over, data_at, at_if, at_serial, set_serial}
use Rattle.dns_update.specs.Change.{put, is_taken_by_any, is_taken_by_none, is_left, ns_count, delete, step, steps, applied}

-- a record's name and type do not change with its serial
name_if : (b : Bool) (k : ℕ) (s : Record) → (at_if b k s).name ≡ s.name
name_if true k s = refl
name_if false k s = refl

pub same_name : (k : ℕ) (s : Record) → (at_serial k s).name ≡ s.name
same_name k s = name_if (is_type SOA s) k s

type_if : (b : Bool) (k : ℕ) (s : Record) → (at_if b k s).rtype ≡ s.rtype
type_if true k s = refl
type_if false k s = refl

pub same_type : (k : ℕ) (s : Record) → (at_serial k s).rtype ≡ s.rtype
same_type k s = type_if (is_type SOA s) k s

-- set twice, a serial is set once
data_twice : (k : ℕ) (d : Data) → data_at k (data_at k d) ≡ data_at k d
data_twice k (A address) = refl
data_twice k (Aaaa address) = refl
data_twice k (Ns host) = refl
data_twice k (Cname target) = refl
data_twice k (Ptr target) = refl
data_twice k (Mx preference exchange) = refl
data_twice k (Srv priority weight port target) = refl
data_twice k (Soa serial mname rname refresh retry expire minimum) = refl
data_twice k (Txt texts) = refl
data_twice k (Opaque bytes) = refl
data_twice k Empty = refl

twice_if : (b : Bool) (k : ℕ) (s : Record) → is_type SOA s ≡ b → at_if (is_type SOA (at_if b k s)) k (at_if b k s) ≡ at_if b k s
twice_if true k s e = rw e (ap (λ d. record { name = s.name; rtype = s.rtype; class = s.class; ttl = s.ttl; rdata = d }) (data_twice k s.rdata))
twice_if false k s e = rw e refl

twice : (k : ℕ) (s : Record) → at_serial k (at_serial k s) ≡ at_serial k s
twice k s = twice_if (is_type SOA s) k s refl

pub set_twice : (k : ℕ) (l : List Record) → set_serial k (set_serial k l) ≡ set_serial k l
set_twice k [] = refl
set_twice k (s ∷ ss) = rw (twice k s, set_twice k ss) refl

-- the rivals of a record do not depend on serials
rival_if : (b t : Bool) (r : Record) (k : ℕ) (s : Record) → is_type SOA s ≡ b → (r.rtype == s.rtype) ≡ t → is_rival r (at_if b k s) ≡ is_rival r s
rival_if false t r k s e f = refl
rival_if true false r k s e f = rw f refl
rival_if true true r k s e f =
    let same : r.rtype ≡ s.rtype = (Decides-eqb r.rtype s.rtype).0 f in
    let soa : (r.rtype == SOA) ≡ true = rw same e in
    rw (f, soa) refl

pub same_rival : (r : Record) (k : ℕ) (s : Record) → is_rival r (at_serial k s) ≡ is_rival r s
same_rival r k s = rival_if (is_type SOA s) (r.rtype == s.rtype) r k s refl refl

over_if : (b : Bool) (t : Record → Bool) (r : Record) (k : ℕ) (s : Record) (ss : List Record) → set_serial k (put_over t r (set_serial k ss)) ≡ set_serial k (put_over t r ss)
    → set_serial k (if b then r ∷ set_serial k ss else at_serial k s ∷ put_over t r (set_serial k ss)) ≡ set_serial k (if b then r ∷ ss else s ∷ put_over t r ss)
over_if true t r k s ss ih = ap (λ xs. at_serial k r ∷ xs) (set_twice k ss)
over_if false t r k s ss ih = rw (twice k s, ih) refl

over_same : (t : Record → Bool) (r : Record) (k : ℕ) → ((s : Record) → t (at_serial k s) ≡ t s) → (l : List Record) → set_serial k (put_over t r (set_serial k l)) ≡ set_serial k (put_over t r l)
over_same t r k h [] = refl
over_same t r k h (s ∷ ss) = rw h (over_if (t s) t r k s ss (over_same t r k h ss))

filter_if : (b : Bool) (t : Record → Bool) (k : ℕ) (s : Record) (ss : List Record) → set_serial k (filter t (set_serial k ss)) ≡ set_serial k (filter t ss)
    → set_serial k (if b then at_serial k s ∷ filter t (set_serial k ss) else filter t (set_serial k ss)) ≡ set_serial k (if b then s ∷ filter t ss else filter t ss)
filter_if true t k s ss ih = rw (twice k s, ih) refl
filter_if false t k s ss ih = ih

filter_same : (t : Record → Bool) (k : ℕ) → ((s : Record) → t (at_serial k s) ≡ t s) → (l : List Record) → set_serial k (filter t (set_serial k l)) ≡ set_serial k (filter t l)
filter_same t k h [] = refl
filter_same t k h (s ∷ ss) = rw h (filter_if (t s) t k s ss (filter_same t k h ss))

count_if : (b : Bool) (t : Record → Bool) (k : ℕ) (s : Record) (ss : List Record) → length (filter t (set_serial k ss)) ≡ length (filter t ss)
    → length (if b then at_serial k s ∷ filter t (set_serial k ss) else filter t (set_serial k ss)) ≡ length (if b then s ∷ filter t ss else filter t ss)
count_if true t k s ss ih = ap suc ih
count_if false t k s ss ih = ih

count_same : (t : Record → Bool) (k : ℕ) → ((s : Record) → t (at_serial k s) ≡ t s) → (l : List Record) → length (filter t (set_serial k l)) ≡ length (filter t l)
count_same t k h [] = refl
count_same t k h (s ∷ ss) = rw h (count_if (t s) t k s ss (count_same t k h ss))

ns_count_same : (origin : List (List ℕ)) (k : ℕ) (l : List Record) → ns_count origin (set_serial k l) ≡ ns_count origin l
ns_count_same origin k l = count_same (is_in_set origin NS) k (λ s. rw (same_name k s, same_type k s) refl) l

-- a deletion takes the same records whatever their serials
and_false : (x : Bool) → (x && false) ≡ false
and_false true = refl
and_false false = refl

none_if : (b : Bool) (origin : List (List ℕ)) (count : ℕ) (r : Record) (k : ℕ) (s : Record) → is_type SOA s ≡ b → is_taken_by_none origin count r (at_if b k s) ≡ is_taken_by_none origin count r s
none_if true origin count r k s e = rw e (and_false (is_equal r (at_if true k s)) ∙ sym (and_false (is_equal r s)))
none_if false origin count r k s e = refl

taken_if : (b : Bool) (origin : List (List ℕ)) (count : ℕ) (r : Record) (k : ℕ) (s : Record)
    → (if b then is_taken_by_any origin r (at_serial k s) else is_taken_by_none origin count r (at_serial k s)) ≡ (if b then is_taken_by_any origin r s else is_taken_by_none origin count r s)
taken_if true origin count r k s = rw (same_name k s, same_type k s) refl
taken_if false origin count r k s = none_if (is_type SOA s) origin count r k s refl

left_same : (origin : List (List ℕ)) (count : ℕ) (r : Record) (k : ℕ) (s : Record) → is_left origin count r (at_serial k s) ≡ is_left origin count r s
left_same origin count r k s = ap not (taken_if (r.class == 255) origin count r k s)

delete_same : (origin : List (List ℕ)) (l : List Record) (r : Record) (k : ℕ) → set_serial k (delete origin (set_serial k l) r) ≡ set_serial k (delete origin l r)
delete_same origin l r k = rw (ns_count_same origin k l) (filter_same (is_left origin (ns_count origin l) r) k (λ s. left_same origin (ns_count origin l) r k s) l)

step_if : (b : Bool) (origin : List (List ℕ)) (l : List Record) (r : Record) (k : ℕ) → set_serial k (if b then put (set_serial k l) r else delete origin (set_serial k l) r) ≡ set_serial k (if b then put l r else delete origin l r)
step_if true origin l r k = over_same (is_rival r) r k (λ s. same_rival r k s) l
step_if false origin l r k = delete_same origin l r k

-- a step on records with a serial, and the serial set again, is the step and the serial set
pub step_same : (origin : List (List ℕ)) (l : List Record) (r : Record) (k : ℕ) → set_serial k (step origin (set_serial k l) r) ≡ set_serial k (step origin l r)
step_same origin l r k = step_if (r.class == 1) origin l r k

-- what rows with one serial do
abbrev pub steps_at : List (List ℕ) → ℕ → List Record → List Record → List Record
steps_at origin k records [] = records
steps_at origin k records (r ∷ rs) = steps_at origin k (set_serial k (step origin records r)) rs

steps_set : (origin : List (List ℕ)) (k : ℕ) (l : List Record) (rs : List Record) → steps_at origin k (set_serial k l) rs ≡ set_serial k (steps origin l rs)
steps_set origin k l [] = refl
steps_set origin k l (r ∷ rs) = rw (step_same origin l r k) (steps_set origin k (step origin l r) rs)

-- they are a batch that is applied
pub steps_applied : (origin : List (List ℕ)) (k : ℕ) (l : List Record) (r : Record) (rs : List Record) → steps_at origin k l (r ∷ rs) ≡ applied origin l (r ∷ rs) k
steps_applied origin k l r rs = steps_set origin k (step origin l r) rs
