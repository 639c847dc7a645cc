-- The data of a type from its bytes is what stands there in a message, and all that stands there is found.
use Rattle.std.proofs.Common.{◌≡◌, ℕ, ◌+◌, ◌-◌, ◌<◌, ◌≤◌, nat_lt, Bool, true, false, ◌&&◌, List, [], ◌∷◌, ◌++◌, length, refl, sym, ap, subst, ◌∙◌, arith, length-append, Option, Some, None, inl, inr}
use Rattle.std.specs.Prelude.{◌==◌, if◌then◌else◌}
use Rattle.std.specs.Bool.{Decides}
use Rattle.std.specs.Int.{w16, w32, to_be_bytes}
use Rattle.std.specs.List.{list_all, flat_map}
use Rattle.std.specs.Str.{bytes_eq}
use Rattle.std.proofs.lemmas.Bool.Decides.{Decides-ltb, Decides-eqb}
use Rattle.std.proofs.lemmas.List.{append-nil, take_all}
use Rattle.std.proofs.lemmas.Slice.Eq.{bytes_eq-Decides}
use Rattle.dns_name.specs.Name.{name_bytes, labels_bytes}
use Rattle.dns_name.proofs.Wire.{labels_of-spelled}
use Rattle.dns_wire.specs.declared.rdata.Data.{Data}
use Rattle.dns_wire.specs.declared.rdata.Data.TheVariants.{A, Aaaa, Ns, Cname, Ptr, Mx, Txt, Opaque}
use Rattle.dns_wire.specs.declared.record_type.TheConstants as record_type
use Rattle.dns_wire.specs.declared.record_type.TheConstants.{NS, CNAME, SOA, PTR, MX, TXT, AAAA, SRV, OPT}
use Rattle.dns_wire.specs.declared.rdata.Form.{Form}
use Rattle.dns_wire.specs.declared.rdata.Form.TheVariants as form
use Rattle.dns_wire.specs.Forms.{form_of, variant_of}
use Rattle.dns_wire.specs.ReadBack.{IsData}
use Rattle.dns_wire.specs.Standing.{word_at, long_at, wide_at, srv_at, soa_at, between, FormAt, SoaAt, DataAt}
use Rattle.dns_wire.specs.Texts.{IsText, AreTexts, texts_bytes, texts_of}
use Rattle.dns_wire.specs.WireFormat.{data_bytes}
use Rattle.dns_wire.proofs.Back.{data_back}
use Rattle.dns_wire.proofs.Cuts.{Cut}
use Rattle.dns_wire.proofs.Shorts.{DataAt-short}
use Rattle.dns_presentation.specs.Values.{◌>>=◌}
use Rattle.dns_presentation.specs.NamesInData.{name_at, last_name}
use Rattle.dns_presentation.specs.TypedData.{a_in, aaaa_in, mx_in, srv_in, soa_in, txt_in, data_in, typed_data}
use Rattle.dns_presentation.proofs.NamesInData.{taken, chosen, some_same, no_value, list_all-Decides, name_at-stands, name_at-found, last_name-stands, last_name-found}

-- the bytes from the first to the last
whole_between : (bytes : List ℕ) → between bytes 0 (length bytes) ≡ bytes
whole_between bytes = take_all (length bytes - 0) bytes (omega arith)

-- the test of byte strings decides it
texts : (bytes : List ℕ) → Decides (list_all (λ text. nat_lt (length text) 256) (texts_of bytes)) (AreTexts (texts_of bytes))
texts bytes = list_all-Decides (λ text. nat_lt (length text) 256) IsText (λ text. Decides-ltb (length text) 256) (texts_of bytes)

both : (one other : Bool) → (one && other) ≡ true → (one ≡ true) × (other ≡ true)
both true true is = (refl, refl)
both true false is = absurd cc
both false other is = absurd cc

-- byte strings that are found
txt_in-are : (bytes : List ℕ) (found : List (List ℕ)) → txt_in bytes ≡ Some found → AreTexts found × (bytes ≡ texts_bytes found)
unfolding txt_in
txt_in-are bytes found is =
    let each : Bool = list_all (λ text. nat_lt (length text) 256) (texts_of bytes) in
    let same : Bool = bytes_eq (texts_bytes (texts_of bytes)) bytes in
    elim (chosen (each && same) (Some (texts_of bytes)) None found is) [
      | inl whole ↦
          let tests = both each same whole.0 in
          let named : texts_of bytes ≡ found = some_same _ _ whole.1 in
          (subst AreTexts named ((texts bytes).0 tests.0), subst (λ (ts : List (List ℕ)). bytes ≡ texts_bytes ts) named (sym ((bytes_eq-Decides (texts_bytes (texts_of bytes)) bytes).0 tests.1)))
      | inr other ↦ absurd (no_value other.1)
    ]

pub txt_in-found : (bytes : List ℕ) (ts : List (List ℕ)) → AreTexts ts → bytes ≡ texts_bytes ts → txt_in bytes ≡ Some ts
unfolding txt_in
txt_in-found bytes ts each is =
    let named : texts_of bytes ≡ ts = labels_of-spelled bytes ts is in
    let short : list_all (λ text. nat_lt (length text) 256) (texts_of bytes) ≡ true = (texts bytes).1 (subst AreTexts (sym named) each) in
    let spelled : texts_bytes (texts_of bytes) ≡ bytes = ap texts_bytes named ∙ sym is in
    let same : bytes_eq (texts_bytes (texts_of bytes)) bytes ≡ true = (bytes_eq-Decides (texts_bytes (texts_of bytes)) bytes).1 spelled in
    rw (short, same) (ap Some named)

pub txt_in-none : (bytes : List ℕ) → ((ts : List (List ℕ)) → AreTexts ts → bytes ≡ texts_bytes ts → ⊥) → txt_in bytes ≡ None
txt_in-none bytes none = by_found (txt_in bytes) refl
  where
    by_found : (found : Option (List (List ℕ))) → txt_in bytes ≡ found → found ≡ None
    by_found None is = refl
    by_found (Some found) is = let are = txt_in-are bytes found is in absurd (none found are.0 are.1)

-- byte strings that were cut off until no bytes were left
pub txt_in-cut : {bytes : List ℕ} {ts : List (List ℕ)} {rest : List ℕ} → Cut bytes ts rest → rest ≡ [] → txt_in bytes ≡ Some ts
txt_in-cut {bytes} {ts} {rest} c is = txt_in-found bytes ts c.each (c.forth ∙ ap (λ (left : List ℕ). texts_bytes ts ++ left) is ∙ append-nil (texts_bytes ts))

-- an SOA
soa_in-stands : (bytes : List ℕ) (d : Data) → soa_in bytes ≡ Some d → SoaAt bytes 0 (length bytes) d
unfolding soa_in
soa_in-stands bytes d is =
    let mname = taken (name_at bytes 0) (λ mname. name_at bytes mname.1 >>= λ rname. if rname.1 + 20 == length bytes then Some (soa_at bytes rname.1 mname.0 rname.0) else None) d is in
    let rname = taken (name_at bytes mname.0.1) (λ rname. if rname.1 + 20 == length bytes then Some (soa_at bytes rname.1 mname.0.0 rname.0) else None) d mname.2 in
    elim (chosen (rname.0.1 + 20 == length bytes) (Some (soa_at bytes rname.0.1 mname.0.0 rname.0.0)) None d rname.2) [
      | inl last ↦ record {
        mname = mname.0.0;
        rname = rname.0.0;
        middle = mname.0.1;
        end = rname.0.1;
        first = name_at-stands bytes 0 mname.0 mname.1;
        second = name_at-stands bytes mname.0.1 rname.0 rname.1;
        after = sym ((Decides-eqb (rname.0.1 + 20) (length bytes)).0 last.0);
        is = sym (some_same _ _ last.1);
      }
      | inr other ↦ absurd (no_value other.1)
    ]

soa_in-found : (bytes : List ℕ) (d : Data) → SoaAt bytes 0 (length bytes) d → soa_in bytes ≡ Some d
unfolding soa_in
soa_in-found bytes d at =
    let last : (at.end + 20 == length bytes) ≡ true = (Decides-eqb (at.end + 20) (length bytes)).1 (sym at.after) in
    rw (name_at-found bytes 0 at.mname at.middle at.first, name_at-found bytes at.middle at.rname at.end at.second, last) (ap Some (sym at.is))

-- data that is found stands there
data_in-stands : (f : Form) (bytes : List ℕ) (d : Data) → data_in f bytes ≡ Some d → FormAt f bytes 0 (length bytes) d
unfolding a_in aaaa_in mx_in srv_in
data_in-stands form.A bytes d is = elim (chosen (length bytes == 4) (Some (A (long_at bytes 0))) None d is) [
  | inl four ↦ ((Decides-eqb (length bytes) 4).0 four.0, sym (some_same _ _ four.1))
  | inr other ↦ absurd (no_value other.1)
]
data_in-stands form.Aaaa bytes d is = elim (chosen (length bytes == 16) (Some (Aaaa (wide_at bytes 0))) None d is) [
  | inl sixteen ↦ ((Decides-eqb (length bytes) 16).0 sixteen.0, sym (some_same _ _ sixteen.1))
  | inr other ↦ absurd (no_value other.1)
]
data_in-stands form.Ns bytes d is =
    let host = taken (last_name bytes 0) (λ host. Some (Ns host)) d is in
    (host.0, last_name-stands bytes 0 host.0 host.1, sym (some_same _ _ host.2))
data_in-stands form.Cname bytes d is =
    let target = taken (last_name bytes 0) (λ target. Some (Cname target)) d is in
    (target.0, last_name-stands bytes 0 target.0 target.1, sym (some_same _ _ target.2))
data_in-stands form.Ptr bytes d is =
    let target = taken (last_name bytes 0) (λ target. Some (Ptr target)) d is in
    (target.0, last_name-stands bytes 0 target.0 target.1, sym (some_same _ _ target.2))
data_in-stands form.Mx bytes d is =
    let exchange = taken (last_name bytes 2) (λ exchange. Some (Mx (word_at bytes 0) exchange)) d is in
    (exchange.0, last_name-stands bytes 2 exchange.0 exchange.1, sym (some_same _ _ exchange.2))
data_in-stands form.Srv bytes d is =
    let target = taken (last_name bytes 6) (λ target. Some (srv_at bytes 0 target)) d is in
    (target.0, last_name-stands bytes 6 target.0 target.1, sym (some_same _ _ target.2))
data_in-stands form.Soa bytes d is = soa_in-stands bytes d is
data_in-stands form.Txt bytes d is =
    let found = taken (txt_in bytes) (λ texts. Some (Txt texts)) d is in
    let are = txt_in-are bytes found.0 found.1 in
    (found.0, are.0, whole_between bytes ∙ are.1, sym (some_same _ _ found.2))
data_in-stands form.Opaque bytes d is = sym (some_same _ _ is) ∙ ap Opaque (sym (whole_between bytes))
data_in-stands form.Empty bytes d is = sym (some_same _ _ is)

-- and data that stands there is found
data_in-found : (f : Form) (bytes : List ℕ) (d : Data) → FormAt f bytes 0 (length bytes) d → data_in f bytes ≡ Some d
unfolding a_in aaaa_in mx_in srv_in
data_in-found form.A bytes d at =
    let four : (length bytes == 4) ≡ true = (Decides-eqb (length bytes) 4).1 at.0 in
    rw four (ap Some (sym at.1))
data_in-found form.Aaaa bytes d at =
    let sixteen : (length bytes == 16) ≡ true = (Decides-eqb (length bytes) 16).1 at.0 in
    rw sixteen (ap Some (sym at.1))
data_in-found form.Ns bytes d at = rw (last_name-found bytes 0 at.0 (length bytes) refl at.1) (ap Some (sym at.2))
data_in-found form.Cname bytes d at = rw (last_name-found bytes 0 at.0 (length bytes) refl at.1) (ap Some (sym at.2))
data_in-found form.Ptr bytes d at = rw (last_name-found bytes 0 at.0 (length bytes) refl at.1) (ap Some (sym at.2))
data_in-found form.Mx bytes d at = rw (last_name-found bytes 2 at.0 (length bytes) refl at.1) (ap Some (sym at.2))
data_in-found form.Srv bytes d at = rw (last_name-found bytes 6 at.0 (length bytes) refl at.1) (ap Some (sym at.2))
data_in-found form.Soa bytes d at = soa_in-found bytes d at
data_in-found form.Txt bytes d at = rw (txt_in-found bytes at.0 at.1 (sym (whole_between bytes) ∙ at.2)) (ap Some (sym at.3))
data_in-found form.Opaque bytes d at = ap Some (ap Opaque (sym (whole_between bytes)) ∙ sym at)
data_in-found form.Empty bytes d at = ap Some (sym at)

-- the type gives the form
sized_form : (type : ℕ) (bytes : List ℕ) → form_of type (length bytes - 0) ≡ form_of type (length bytes)
sized_form type bytes = ap (form_of type) (omega arith)

pub typed_data-stands : (type : ℕ) (bytes : List ℕ) (d : Data) → typed_data type bytes ≡ Some d → DataAt bytes type 0 (length bytes) d
unfolding typed_data
typed_data-stands type bytes d is =
    subst (λ (f : Form). FormAt f bytes 0 (length bytes) d) (sym (sized_form type bytes)) (data_in-stands (form_of type (length bytes)) bytes d is)

pub typed_data-found : (type : ℕ) (bytes : List ℕ) (d : Data) → DataAt bytes type 0 (length bytes) d → typed_data type bytes ≡ Some d
unfolding typed_data
typed_data-found type bytes d at =
    data_in-found (form_of type (length bytes)) bytes d (subst (λ (f : Form). FormAt f bytes 0 (length bytes) d) (sized_form type bytes) at)

-- data that was written without pointers is found
pub typed_data-written : (type : ℕ) (d : Data) → IsData d → form_of type (length (data_bytes d)) ≡ variant_of d → typed_data type (data_bytes d) ≡ Some d
unfolding typed_data
typed_data-written type d kept form_is =
    let bytes : List ℕ = data_bytes d in
    let end : 0 + length bytes ≡ length bytes = omega arith in
    let at : FormAt (variant_of d) bytes 0 (length bytes) d = subst (λ (j : ℕ). FormAt (variant_of d) bytes 0 j d) end (data_back bytes 0 d [] kept (sym (append-nil bytes))) in
    data_in-found (form_of type (length bytes)) bytes d (subst (λ (f : Form). FormAt f bytes 0 (length bytes) d) (sym form_is) at)

-- data is of the form that it stands in
variant_at : (f : Form) (m : List ℕ) (i j : ℕ) (d : Data) → FormAt f m i j d → variant_of d ≡ f
variant_at form.A m i j d x = ap variant_of x.1
variant_at form.Aaaa m i j d x = ap variant_of x.1
variant_at form.Ns m i j d x = ap variant_of x.2
variant_at form.Cname m i j d x = ap variant_of x.2
variant_at form.Ptr m i j d x = ap variant_of x.2
variant_at form.Mx m i j d x = ap variant_of x.2
variant_at form.Srv m i j d x = ap variant_of x.2
variant_at form.Soa m i j d x = ap variant_of x.is
variant_at form.Txt m i j d x = ap variant_of x.3
variant_at form.Opaque m i j d x = ap variant_of x
variant_at form.Empty m i j d x = ap variant_of x

some_name : (name : List (List ℕ)) → 0 < length (name_bytes name)
some_name name = omega (arith, length-append (labels_bytes name) (0 ∷ []))

filled : (d e : Data) → d ≡ e → 0 < length (data_bytes e) → 0 < length (data_bytes d)
filled d e is some = omega (arith, ap (λ (z : Data). length (data_bytes z)) is, some)

-- data that takes bytes takes some when it is written
form_filled : (f : Form) (bytes : List ℕ) (d : Data) → (f ≡ form.Empty → ⊥) → 0 < length bytes → FormAt f bytes 0 (length bytes) d → 0 < length (data_bytes d)
form_filled form.A bytes d full some x = filled d _ x.1 (omega arith)
form_filled form.Aaaa bytes d full some x = filled d _ x.1 (omega arith)
form_filled form.Ns bytes d full some x = filled d _ x.2 (some_name x.0)
form_filled form.Cname bytes d full some x = filled d _ x.2 (some_name x.0)
form_filled form.Ptr bytes d full some x = filled d _ x.2 (some_name x.0)
form_filled form.Mx bytes d full some x = filled d _ x.2 (omega (arith, length-append (to_be_bytes w16 (word_at bytes 0)) (name_bytes x.0), some_name x.0))
form_filled form.Srv bytes d full some x =
    let numbers : List ℕ = to_be_bytes w16 (word_at bytes 0) ++ to_be_bytes w16 (word_at bytes 2) ++ to_be_bytes w16 (word_at bytes 4) in
    filled d _ x.2 (omega (arith, length-append numbers (name_bytes x.0), some_name x.0))
form_filled form.Soa bytes d full some x =
    let numbers : List ℕ = flat_map (to_be_bytes w32) (long_at bytes x.end ∷ long_at bytes (x.end + 4) ∷ long_at bytes (x.end + 8) ∷ long_at bytes (x.end + 12) ∷ long_at bytes (x.end + 16) ∷ []) in
    filled d _ x.is (omega (arith, length-append (name_bytes x.mname ++ name_bytes x.rname) numbers, length-append (name_bytes x.mname) (name_bytes x.rname), some_name x.mname))
form_filled form.Txt bytes d full some x = filled d _ x.3 (omega (arith, some, ap length (sym (whole_between bytes) ∙ x.2)))
form_filled form.Opaque bytes d full some x = filled d _ x (omega (arith, some, ap length (whole_between bytes)))
form_filled form.Empty bytes d full some x = absurd (full refl)

-- what has bytes is of the form of its type, whatever their number
form_any : (type size other : ℕ) → 0 < size → 0 < other → form_of type size ≡ form_of type other
form_any type size other some more =
    let a : (size == 0) ≡ false = grind arith in
    let b : (other == 0) ≡ false = grind arith in
    rw (a, b) refl

not_empty : (none opt a ns cname soa ptr mx txt aaaa srv : Bool) → none ≡ false
    → (if opt then form.Opaque else if none then form.Empty else if a then form.A else if ns then form.Ns else if cname then form.Cname else if soa then form.Soa else if ptr then form.Ptr else if mx then form.Mx else if txt then form.Txt else if aaaa then form.Aaaa else if srv then form.Srv else form.Opaque) ≡ form.Empty → ⊥
not_empty none true a ns cname soa ptr mx txt aaaa srv some is = absurd cc
not_empty true false a ns cname soa ptr mx txt aaaa srv some is = absurd cc
not_empty false false true ns cname soa ptr mx txt aaaa srv some is = absurd cc
not_empty false false false true cname soa ptr mx txt aaaa srv some is = absurd cc
not_empty false false false false true soa ptr mx txt aaaa srv some is = absurd cc
not_empty false false false false false true ptr mx txt aaaa srv some is = absurd cc
not_empty false false false false false false true mx txt aaaa srv some is = absurd cc
not_empty false false false false false false false true txt aaaa srv some is = absurd cc
not_empty false false false false false false false false true aaaa srv some is = absurd cc
not_empty false false false false false false false false false true srv some is = absurd cc
not_empty false false false false false false false false false false true some is = absurd cc
not_empty false false false false false false false false false false false some is = absurd cc

form_full : (type size : ℕ) → 0 < size → form_of type size ≡ form.Empty → ⊥
form_full type size some is =
    let full : (size == 0) ≡ false = grind arith in
    not_empty (size == 0) (type == OPT) (type == record_type.A) (type == NS) (type == CNAME) (type == SOA) (type == PTR) (type == MX) (type == TXT) (type == AAAA) (type == SRV) full is

-- what holds of data when it is written
pub record IsWhole (type : ℕ) (d : Data) : Type 0 where
  pub form : form_of type (length (data_bytes d)) ≡ variant_of d
  pub filled : 0 < length (data_bytes d)
  pub short : length (data_bytes d) ≤ 65535

pub typed_data-whole : (type : ℕ) (bytes : List ℕ) (d : Data) → 0 < length bytes → length bytes ≤ 65535 → typed_data type bytes ≡ Some d → IsWhole type d
typed_data-whole type bytes d some short is =
    let at = typed_data-stands type bytes d is in
    let f : Form = form_of type (length bytes - 0) in
    let size : 0 < length bytes - 0 = omega (arith, some) in
    let full : 0 < length (data_bytes d) = form_filled f bytes d (form_full type (length bytes - 0) size) some at in
    record {
      form = form_any type (length (data_bytes d)) (length bytes - 0) full size ∙ sym (variant_at f bytes 0 (length bytes) d at);
      filled = full;
      short = DataAt-short bytes type 0 (length bytes) d (omega (arith, short)) at;
    }
