-- The serial of a zone is that of the first record of the set of the SOA.
use Rattle.std.proofs.Common.{◌≡◌, ℕ, ◌<◌, Bool, true, false, List, [], ◌∷◌, length, refl, sym, ap, ◌∙◌, arith, ◌==◌, if◌then◌else◌, None, Some}
use Rattle.std.specs.Prelude.{◌&&◌}
use Rattle.std.specs.List.{AllByRecursion}
use Rattle.std.proofs.lemmas.Bool.{ne_eqb}
use Rattle.std.proofs.lemmas.Bool.Decides.{Decides-eqb}
use Rattle.dns_name.specs.Name.{is_same_name}
use Rattle.dns_wire.specs.declared.rdata.Data.{Data}
use Rattle.dns_wire.specs.declared.rdata.Data.TheVariants.{A, Aaaa, Ns, Cname, Ptr, Mx, Srv, Soa, Txt, Opaque, Empty}
use Rattle.dns_wire.specs.declared.rdata.Form.TheVariants as form
use Rattle.dns_wire.specs.declared.record.Record.{Record}
use Rattle.dns_wire.specs.declared.record_type.TheConstants as record_type
use Rattle.dns_wire.specs.declared.record_type.TheConstants.{NS, CNAME, SOA, PTR, MX, TXT, AAAA, SRV, OPT}
use Rattle.dns_wire.specs.Forms.{form_of, variant_of}
use Rattle.dns_wire.specs.WireFormat.{data_bytes}
use Rattle.dns_zone_map.specs.Zone.{Contents, is_type, set_of, serial_or, serial_of, first_serial, IsEntry}
use Rattle.dns_zone_map.specs.Sets.{some_of}

-- data of another form has no serial
other_data : (d : Data) (n : ℕ) → (variant_of d ≡ form.Soa → ⊥) → serial_or d n ≡ n
other_data (A a) n h = refl
other_data (Aaaa a) n h = refl
other_data (Ns a) n h = refl
other_data (Cname a) n h = refl
other_data (Ptr a) n h = refl
other_data (Mx a b) n h = refl
other_data (Srv a b c d) n h = refl
other_data (Soa a b c d e f g) n h = absurd (h refl)
other_data (Txt a) n h = refl
other_data (Opaque a) n h = refl
other_data Empty n h = refl

soa_data : (d : Data) (n : ℕ) → form.Soa ≡ variant_of d → serial_or d n ≡ serial_or d 0
soa_data (A a) n h = absurd cc
soa_data (Aaaa a) n h = absurd cc
soa_data (Ns a) n h = absurd cc
soa_data (Cname a) n h = absurd cc
soa_data (Ptr a) n h = absurd cc
soa_data (Mx a b) n h = absurd cc
soa_data (Srv a b c d) n h = absurd cc
soa_data (Soa a b c d e f g) n h = refl
soa_data (Txt a) n h = absurd cc
soa_data (Opaque a) n h = absurd cc
soa_data Empty n h = absurd cc

no_soa : (opt none a ns cname ptr mx txt aaaa srv : Bool) → (if opt then form.Opaque else if none then form.Empty else if a then form.A else if ns then form.Ns else if cname then form.Cname else if false then form.Soa else if ptr then form.Ptr else if mx then form.Mx else if txt then form.Txt
    else if aaaa then form.Aaaa else if srv then form.Srv else form.Opaque) ≡ form.Soa → ⊥
no_soa true none a ns cname ptr mx txt aaaa srv e = cc
no_soa false true a ns cname ptr mx txt aaaa srv e = cc
no_soa false false true ns cname ptr mx txt aaaa srv e = cc
no_soa false false false true cname ptr mx txt aaaa srv e = cc
no_soa false false false false true ptr mx txt aaaa srv e = cc
no_soa false false false false false true mx txt aaaa srv e = cc
no_soa false false false false false false true txt aaaa srv e = cc
no_soa false false false false false false false true aaaa srv e = cc
no_soa false false false false false false false false true srv e = cc
no_soa false false false false false false false false false true e = cc
no_soa false false false false false false false false false false e = cc

other_form : (rtype size : ℕ) → (rtype == SOA) ≡ false → form_of rtype size ≡ form.Soa → ⊥
other_form rtype size h e =
    no_soa (rtype == OPT) (size == 0) (rtype == record_type.A) (rtype == NS) (rtype == CNAME) (rtype == PTR) (rtype == MX) (rtype == TXT) (rtype == AAAA) (rtype == SRV) (rw h at e)

soa_form : (rtype size : ℕ) → rtype ≡ SOA → 0 < size → form_of rtype size ≡ form.Soa
soa_form rtype size h filled =
    let none : (size == 0) ≡ false = ne_eqb size 0 (λ e. omega (arith, filled, e)) in
    ap (λ (t : ℕ). form_of t size) h ∙ ap (λ (b : Bool). if b then form.Empty else form.Soa) none

module _ (origin : List (List ℕ)) where
  serial_if : (b : Bool) (r : Record) (rs : List Record) → is_type SOA r ≡ b → IsEntry origin r → serial_of rs ≡ first_serial (set_of rs origin SOA) → serial_or r.rdata (serial_of rs) ≡ first_serial (if b && is_same_name r.name origin then r ∷ set_of rs origin SOA else set_of rs origin SOA)
  serial_if true r rs t e ih =
      let typed : r.rtype ≡ SOA = (Decides-eqb r.rtype SOA).0 t in
      let soa : form.Soa ≡ variant_of r.rdata = sym (soa_form r.rtype (length (data_bytes r.rdata)) typed e.filled) ∙ e.form in
      rw (e.soa t) (soa_data r.rdata (serial_of rs) soa)
  serial_if false r rs t e ih = other_data r.rdata (serial_of rs) (λ v. other_form r.rtype (length (data_bytes r.rdata)) t (e.form ∙ v)) ∙ ih

  -- the serial of the records of a zone
  pub serial_is : (rs : List Record) → AllByRecursion (IsEntry origin) rs → serial_of rs ≡ first_serial (set_of rs origin SOA)
  serial_is [] h = refl
  serial_is (r ∷ rs) h = serial_if (is_type SOA r) r rs refl h.0 (serial_is rs h.1)

pub none_is : (rs : List Record) → None ≡ some_of rs → rs ≡ []
none_is [] h = refl
none_is (r ∷ rs) h = absurd cc

pub some_is : (rs found : List Record) → Some found ≡ some_of rs → rs ≡ found
some_is [] found h = absurd cc
some_is (r ∷ rs) found h = cc

pub seen_none : (zone : Contents) (name : List (List ℕ)) → AllByRecursion (IsEntry zone.origin) zone.records → name ≡ zone.origin → None ≡ some_of (set_of zone.records name SOA) → 0 ≡ serial_of zone.records
seen_none zone name h is none = sym (serial_is zone.origin zone.records h ∙ ap first_serial (none_is (set_of zone.records zone.origin SOA) (none ∙ ap (λ n. some_of (set_of zone.records n SOA)) is)))

pub seen_some : (zone : Contents) (name : List (List ℕ)) (found : List Record) → AllByRecursion (IsEntry zone.origin) zone.records → name ≡ zone.origin → Some found ≡ some_of (set_of zone.records name SOA) → first_serial found ≡ serial_of zone.records
seen_some zone name found h is some = sym (serial_is zone.origin zone.records h ∙ ap first_serial (some_is (set_of zone.records zone.origin SOA) found (some ∙ ap (λ n. some_of (set_of zone.records n SOA)) is)))
