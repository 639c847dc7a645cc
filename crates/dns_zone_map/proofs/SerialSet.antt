-- Records of a zone stay those of one when their serial is set.
use Rattle.std.proofs.Common.{◌≡◌, ℕ, List, [], ◌∷◌, ◌++◌, length, refl, ap, ◌∙◌, arith, Bool, true, false, ◌==◌, length-append}
use Rattle.std.specs.List.{AllByRecursion, IsDistinct, flat_map}
use Rattle.std.specs.Int.{w32, to_be_bytes}
use Rattle.std.proofs.lemmas.Bool.Decides.{Decides-eqb}
use Rattle.dns_name.specs.Name.{name_bytes}
use Rattle.dns_wire.specs.declared.record.Record.{Record}
use Rattle.dns_wire.specs.declared.rdata.Data.{Data}
use Rattle.dns_wire.specs.declared.rdata.Data.TheVariants.{A, Aaaa, Ns, Cname, Ptr, Mx, Srv, Soa, Txt, Opaque, Empty}
use Rattle.dns_wire.specs.declared.record_type.TheConstants.{SOA}
use Rattle.dns_wire.specs.Forms.{variant_of}
use Rattle.dns_wire.specs.WireFormat.{data_bytes}
use Rattle.dns_wire.specs.Folds.{fold_data}
use Rattle.dns_zone_map.specs.Zone.{is_type, is_rival, IsEntry, IsSoFar}
use Rattle.dns_zone_map.specs.Changes.{data_at, at_if, at_serial, set_serial}
use Rattle.dns_zone_map.proofs.Rivals.{is_rival-turned}

name_if : (b : Bool) (k : ℕ) (s : Record) → (at_if b k s).name ≡ s.name
name_if true k s = refl
name_if false k s = refl

pub same_name_at : (k : ℕ) (s : Record) → (at_serial k s).name ≡ s.name
same_name_at k s = name_if (is_type SOA s) k s

type_if : (b : Bool) (k : ℕ) (s : Record) → (at_if b k s).rtype ≡ s.rtype
type_if true k s = refl
type_if false k s = refl

pub same_type_at : (k : ℕ) (s : Record) → (at_serial k s).rtype ≡ s.rtype
same_type_at k s = type_if (is_type SOA s) k s

-- the rivals of a record do not depend on serials
rival_if : (b t : Bool) (r : Record) (k : ℕ) (s : Record) → is_type SOA s ≡ b → (r.rtype == s.rtype) ≡ t → is_rival r (at_if b k s) ≡ is_rival r s
rival_if false t r k s e f = refl
rival_if true false r k s e f = rw f refl
rival_if true true r k s e f =
    let same : r.rtype ≡ s.rtype = (Decides-eqb r.rtype s.rtype).0 f in
    let soa : (r.rtype == SOA) ≡ true = rw same e in
    rw (f, soa) refl

pub same_rival : (r : Record) (k : ℕ) (s : Record) → is_rival r (at_serial k s) ≡ is_rival r s
same_rival r k s = rival_if (is_type SOA s) (r.rtype == s.rtype) r k s refl refl

-- a serial that is set leaves an entry one
numbers_length : (n o : List (List ℕ)) (k a b c d e : ℕ) → length (data_bytes (Soa k n o b c d e)) ≡ length (data_bytes (Soa a n o b c d e))
numbers_length n o k a b c d e =
    omega (
      arith,
      length-append (name_bytes n ++ name_bytes o) (flat_map (to_be_bytes w32) (k ∷ b ∷ c ∷ d ∷ e ∷ [])),
      length-append (name_bytes n ++ name_bytes o) (flat_map (to_be_bytes w32) (a ∷ b ∷ c ∷ d ∷ e ∷ [])),
    )

length_at : (k : ℕ) (d : Data) → length (data_bytes (data_at k d)) ≡ length (data_bytes d)
length_at k (A address) = refl
length_at k (Aaaa address) = refl
length_at k (Ns host) = refl
length_at k (Cname target) = refl
length_at k (Ptr target) = refl
length_at k (Mx preference exchange) = refl
length_at k (Srv priority weight port target) = refl
length_at k (Soa serial mname rname refresh retry expire minimum) = numbers_length mname rname k serial refresh retry expire minimum
length_at k (Txt texts) = refl
length_at k (Opaque bytes) = refl
length_at k Empty = refl

variant_at : (k : ℕ) (d : Data) → variant_of (data_at k d) ≡ variant_of d
variant_at k (A address) = refl
variant_at k (Aaaa address) = refl
variant_at k (Ns host) = refl
variant_at k (Cname target) = refl
variant_at k (Ptr target) = refl
variant_at k (Mx preference exchange) = refl
variant_at k (Srv priority weight port target) = refl
variant_at k (Soa serial mname rname refresh retry expire minimum) = refl
variant_at k (Txt texts) = refl
variant_at k (Opaque bytes) = refl
variant_at k Empty = refl

fold_at : (k : ℕ) (d : Data) → fold_data (data_at k d) ≡ data_at k (fold_data d)
fold_at k (A address) = refl
fold_at k (Aaaa address) = refl
fold_at k (Ns host) = refl
fold_at k (Cname target) = refl
fold_at k (Ptr target) = refl
fold_at k (Mx preference exchange) = refl
fold_at k (Srv priority weight port target) = refl
fold_at k (Soa serial mname rname refresh retry expire minimum) = refl
fold_at k (Txt texts) = refl
fold_at k (Opaque bytes) = refl
fold_at k Empty = refl

entry_if : (b : Bool) (origin : List (List ℕ)) (k : ℕ) (s : Record) → IsEntry origin s → IsEntry origin (at_if b k s)
entry_if false origin k s e = e
entry_if true origin k s e = record {
  within = e.within;
  soa = e.soa;
  class = e.class;
  plain = e.plain;
  form = rw (length_at k s.rdata, variant_at k s.rdata) e.form;
  filled = rw (length_at k s.rdata) e.filled;
  short = rw (length_at k s.rdata) e.short;
  owner = e.owner;
  names = fold_at k s.rdata ∙ ap (data_at k) e.names;
}

entries_at : (origin : List (List ℕ)) (k : ℕ) (records : List Record) → AllByRecursion (IsEntry origin) records → AllByRecursion (IsEntry origin) (set_serial k records)
entries_at origin k [] all = tt
entries_at origin k (s ∷ records) all = (entry_if (is_type SOA s) origin k s all.0, entries_at origin k records all.1)

rivals_at : (k : ℕ) (r s : Record) → is_rival (at_serial k r) (at_serial k s) ≡ is_rival r s
rivals_at k r s = same_rival (at_serial k r) k s ∙ is_rival-turned (at_serial k r) s ∙ same_rival s k r ∙ is_rival-turned s r

apart_at : (k : ℕ) (r : Record) (records : List Record) → AllByRecursion (λ o. is_rival r o ≡ false) records → AllByRecursion (λ o. is_rival (at_serial k r) o ≡ false) (set_serial k records)
apart_at k r [] all = tt
apart_at k r (s ∷ records) all = (rivals_at k r s ∙ all.0, apart_at k r records all.1)

distinct_at : (k : ℕ) (records : List Record) → IsDistinct is_rival records → IsDistinct is_rival (set_serial k records)
unfolding IsDistinct
distinct_at k [] distinct = tt
distinct_at k (s ∷ records) distinct = (apart_at k s records distinct.0, distinct_at k records distinct.1)

-- a serial that is set leaves records that may become those of a zone
pub so_far_at : (origin : List (List ℕ)) (k : ℕ) (records : List Record) → IsSoFar origin records → IsSoFar origin (set_serial k records)
so_far_at origin k records before = record { entries = entries_at origin k records before.entries; distinct = distinct_at k records before.distinct }
