-- The serial of a zone is that of its one SOA.
use Rattle.std.proofs.Common.{◌≡◌, ℕ, ◌<◌, ◌^◌, List, [], ◌∷◌, length, refl, sym, ap, ◌∙◌, subst, arith, Bool, true, false}
use Rattle.std.specs.Prelude.{◌==◌, ◌&&◌, if◌then◌else◌}
use Rattle.std.specs.List.{AllByRecursion, IsDistinct}
use Rattle.std.proofs.lemmas.Bool.Decides.{Decides-eqb, nat_tests}
use Rattle.dns_wire.specs.declared.record.Record.{Record}
use Rattle.dns_wire.specs.declared.rdata.Data.{Data}
use Rattle.dns_wire.specs.declared.rdata.Data.TheVariants.{A, Aaaa, Ns, Cname, Ptr, Mx, Srv, Soa, Txt, Opaque, Empty}
use Rattle.dns_wire.specs.declared.rdata.Form.{Form}
use Rattle.dns_wire.specs.declared.rdata.Form.TheVariants as form
use Rattle.dns_wire.specs.Forms.{form_of, variant_of}
use Rattle.dns_wire.specs.WireFormat.{data_bytes}
use Rattle.dns_wire.specs.ReadBack.{IsData, ReadsBack}
use Rattle.dns_zone_map.specs.Zone.{serial_or, serial_of, is_rival, IsEntry}
use Rattle.dns_zone_map.specs.Changes.{data_at, at_if, set_serial}

-- set to its own serial, data stays as it is
data_own : (other : ℕ) (d : Data) → data_at (serial_or d other) d ≡ d
data_own other (A address) = refl
data_own other (Aaaa address) = refl
data_own other (Ns host) = refl
data_own other (Cname target) = refl
data_own other (Ptr target) = refl
data_own other (Mx preference exchange) = refl
data_own other (Srv priority weight port target) = refl
data_own other (Soa serial mname rname refresh retry expire minimum) = refl
data_own other (Txt texts) = refl
data_own other (Opaque bytes) = refl
data_own other Empty = refl

own_if : (b : Bool) (other : ℕ) (r : Record) → at_if b (serial_or r.rdata other) r ≡ r
own_if true other r = ap (λ d. record { name = r.name; rtype = r.rtype; class = r.class; ttl = r.ttl; rdata = d }) (data_own other r.rdata)
own_if false other r = refl

-- the form of a type that is none of an SOA's
abbrev other_form : Bool → Bool → Bool → Bool → Bool → Bool → Bool → Bool → Bool → Bool → Form
other_form opt none a ns cname ptr mx txt aaaa srv =
    if opt then form.Opaque
    else if none then form.Empty
    else if a then form.A
    else if ns then form.Ns
    else if cname then form.Cname
    else if ptr then form.Ptr
    else if mx then form.Mx
    else if txt then form.Txt
    else if aaaa then form.Aaaa
    else if srv then form.Srv
    else form.Opaque

never_soa : (opt none a ns cname ptr mx txt aaaa srv : Bool) → form.Soa ≡ other_form opt none a ns cname ptr mx txt aaaa srv → ⊥
never_soa true none a ns cname ptr mx txt aaaa srv e = cc
never_soa false true a ns cname ptr mx txt aaaa srv e = cc
never_soa false false true ns cname ptr mx txt aaaa srv e = cc
never_soa false false false true cname ptr mx txt aaaa srv e = cc
never_soa false false false false true ptr mx txt aaaa srv e = cc
never_soa false false false false false true mx txt aaaa srv e = cc
never_soa false false false false false false true txt aaaa srv e = cc
never_soa false false false false false false false true aaaa srv e = cc
never_soa false false false false false false false false true srv e = cc
never_soa false false false false false false false false false true e = cc
never_soa false false false false false false false false false false e = cc

-- data of another variant has no serial
no_serial : (d : Data) (other : ℕ) → (form.Soa ≡ variant_of d → ⊥) → serial_or d other ≡ other
no_serial (A address) other h = refl
no_serial (Aaaa address) other h = refl
no_serial (Ns host) other h = refl
no_serial (Cname target) other h = refl
no_serial (Ptr target) other h = refl
no_serial (Mx preference exchange) other h = refl
no_serial (Srv priority weight port target) other h = refl
no_serial (Soa serial mname rname refresh retry expire minimum) other h = absurd (h refl)
no_serial (Txt texts) other h = refl
no_serial (Opaque bytes) other h = refl
no_serial Empty other h = refl

pub other_serial : (origin : List (List ℕ)) (r : Record) (other : ℕ) → IsEntry origin r → (r.rtype == 6) ≡ false → serial_or r.rdata other ≡ other
other_serial origin r other entry soa =
    let n : ℕ = length (data_bytes r.rdata) in
    let is : other_form (r.rtype == 41) (n == 0) (r.rtype == 1) (r.rtype == 2) (r.rtype == 5) (r.rtype == 12) (r.rtype == 15) (r.rtype == 16) (r.rtype == 28) (r.rtype == 33) ≡ variant_of r.rdata =
    rw soa at entry.form in
    no_serial r.rdata other (λ e. never_soa (r.rtype == 41) (n == 0) (r.rtype == 1) (r.rtype == 2) (r.rtype == 5) (r.rtype == 12) (r.rtype == 15) (r.rtype == 16) (r.rtype == 28) (r.rtype == 33) (e ∙ sym is))

-- beside an SOA no other stands
beside_soa : (r o : Record) → (r.rtype == 6) ≡ true → is_rival r o ≡ false → (o.rtype == 6) ≡ false
beside_soa r o soa apart =
    let six : r.rtype ≡ 6 = (Decides-eqb r.rtype 6).0 soa in
    by_type (r.rtype == o.rtype) refl (rw soa at apart)
  where
    by_type : (b : Bool) → (r.rtype == o.rtype) ≡ b → ((r.rtype == o.rtype) && true) ≡ false → (o.rtype == 6) ≡ false
    by_type true e h = absurd cc
    by_type false e h =
        let six : r.rtype ≡ 6 = (Decides-eqb r.rtype 6).0 soa in
        grind (arith, nat_tests)

others_stay : (k : ℕ) (r : Record) (records : List Record) → (r.rtype == 6) ≡ true → AllByRecursion (λ o. is_rival r o ≡ false) records → set_serial k records ≡ records
others_stay k r [] soa apart = refl
others_stay k r (o ∷ records) soa apart = rw (beside_soa r o soa apart.0, others_stay k r records soa apart.1) refl

settled_if : (soa : Bool) (origin : List (List ℕ)) (r : Record) (records : List Record) → (r.rtype == 6) ≡ soa → IsEntry origin r → AllByRecursion (λ o. is_rival r o ≡ false) records
    → set_serial (serial_of records) records ≡ records → set_serial (serial_or r.rdata (serial_of records)) (r ∷ records) ≡ r ∷ records
settled_if true origin r records soa entry apart rest =
    rw (own_if (r.rtype == 6) (serial_of records) r, others_stay (serial_or r.rdata (serial_of records)) r records soa apart) refl
settled_if false origin r records soa entry apart rest =
    let own : set_serial (serial_of records) (r ∷ records) ≡ r ∷ records = rw soa (ap (λ (l : List Record). r ∷ l) rest) in
    subst (λ (k : ℕ). set_serial k (r ∷ records) ≡ r ∷ records) (sym (other_serial origin r (serial_of records) entry soa)) own

-- a zone has its own serial
pub settled : (origin : List (List ℕ)) (records : List Record) → AllByRecursion (IsEntry origin) records → IsDistinct is_rival records → set_serial (serial_of records) records ≡ records
unfolding IsDistinct
settled origin [] entries distinct = refl
settled origin (r ∷ records) entries distinct =
    settled_if (r.rtype == 6) origin r records refl entries.0 distinct.0 (settled origin records entries.1 distinct.1)

small_serial : (d : Data) (other : ℕ) → IsData d → other < 2 ^ 32 → serial_or d other < 2 ^ 32
small_serial (A address) other h small = small
small_serial (Aaaa address) other h small = small
small_serial (Ns host) other h small = small
small_serial (Cname target) other h small = small
small_serial (Ptr target) other h small = small
small_serial (Mx preference exchange) other h small = small
small_serial (Srv priority weight port target) other h small = small
small_serial (Soa serial mname rname refresh retry expire minimum) other h small = h.2
small_serial (Txt texts) other h small = small
small_serial (Opaque bytes) other h small = small
small_serial Empty other h small = small

-- a serial is below 2^32
pub serial_small : (records : List Record) → AllByRecursion ReadsBack records → serial_of records < 2 ^ 32
serial_small [] all = omega arith
serial_small (r ∷ records) all = small_serial r.rdata (serial_of records) all.0.kept.«data» (serial_small records all.1)

-- the data of an SOA is of its form
pub soa_form : (origin : List (List ℕ)) (r : Record) → IsEntry origin r → (r.rtype == 6) ≡ true → form.Soa ≡ variant_of r.rdata
soa_form origin r entry soa =
    let six : r.rtype ≡ 6 = (Decides-eqb r.rtype 6).0 soa in
    let some : (length (data_bytes r.rdata) == 0) ≡ false = not_zero (length (data_bytes r.rdata)) entry.filled in
    let is : form_of 6 (length (data_bytes r.rdata)) ≡ variant_of r.rdata = subst (λ (t : ℕ). form_of t (length (data_bytes r.rdata)) ≡ variant_of r.rdata) six entry.form in
    rw some at is
  where
    not_zero : (n : ℕ) → 0 < n → (n == 0) ≡ false
    not_zero n h = grind (arith, nat_tests)
