-- The data of a record that stands in bytes is the variant of its type.
use Rattle.std.proofs.Common.{◌≡◌, ℕ, ◌+◌, ◌-◌, ◌<◌, ◌≤◌, List, [], ◌∷◌, ◌++◌, length, drop, refl, sym, ap, arith, length-append, length-drop, Bool, true, false}
use Rattle.std.specs.Prelude.{◌==◌, if◌then◌else◌}
use Rattle.std.specs.Int.{w16, w32, to_be_bytes}
use Rattle.std.specs.List.{flat_map}
use Rattle.std.proofs.lemmas.Bool.Decides.{nat_tests}
use Rattle.std.proofs.lemmas.List.{length-take-le}
use Rattle.dns_name.specs.Name.{labels_bytes, name_bytes}
use Rattle.dns_wire.specs.declared.record.Record.{Record}
use Rattle.dns_wire.specs.declared.rdata.Data.{Data}
use Rattle.dns_wire.specs.declared.rdata.Data.TheVariants.{Soa}
use Rattle.dns_wire.specs.declared.rdata.Form.{Form}
use Rattle.dns_wire.specs.declared.rdata.Form.TheVariants as form
use Rattle.dns_wire.specs.Forms.{variant_of}
use Rattle.dns_wire.specs.Standing.{RecordAt, FormAt, between, word_at, long_at}
use Rattle.dns_wire.specs.WireFormat.{data_bytes}
use Rattle.dns_wire.specs.ReadBack.{IsOfItsType}

-- data of a form is that variant
variant_at : (f : Form) (m : List ℕ) (i j : ℕ) (d : Data) → FormAt f m i j d → variant_of d ≡ f
variant_at form.A m i j d x = ap variant_of x.1
variant_at form.Aaaa m i j d x = ap variant_of x.1
variant_at form.Ns m i j d x = ap variant_of x.2
variant_at form.Cname m i j d x = ap variant_of x.2
variant_at form.Ptr m i j d x = ap variant_of x.2
variant_at form.Mx m i j d x = ap variant_of x.2
variant_at form.Srv m i j d x = ap variant_of x.2
variant_at form.Soa m i j d x = ap variant_of x.is
variant_at form.Txt m i j d x = ap variant_of x.3
variant_at form.Opaque m i j d x = ap variant_of x
variant_at form.Empty m i j d x = ap variant_of x

has_size : (d e : Data) → d ≡ e → 0 < length (data_bytes e) → 0 < length (data_bytes d)
has_size d e is h = omega (arith, ap (λ (z : Data). length (data_bytes z)) is, h)

name_size : (n : List (List ℕ)) → 0 < length (name_bytes n)
name_size n = omega (arith, length-append (labels_bytes n) (0 ∷ []))

soa_size : (n o : List (List ℕ)) (a b c d e : ℕ) → 0 < length (data_bytes (Soa a n o b c d e))
soa_size n o a b c d e = omega (arith, length-append (name_bytes n ++ name_bytes o) (flat_map (to_be_bytes w32) (a ∷ b ∷ c ∷ d ∷ e ∷ [])))

part_size : (m : List ℕ) (i j : ℕ) → j ≤ length m → length (between m i j) ≡ j - i
part_size m i j h = length-take-le (j - i) (drop i m) (omega (arith, length-drop i m))

-- data that takes bytes and is not empty is written in bytes
filled_at : (f : Form) (m : List ℕ) (i j : ℕ) (d : Data) → j ≤ length m → 0 < j - i → (f ≡ form.Empty → ⊥) → FormAt f m i j d → 0 < length (data_bytes d)
filled_at form.A m i j d h some full x = has_size d _ x.1 (omega arith)
filled_at form.Aaaa m i j d h some full x = has_size d _ x.1 (omega arith)
filled_at form.Ns m i j d h some full x = has_size d _ x.2 (name_size x.0)
filled_at form.Cname m i j d h some full x = has_size d _ x.2 (name_size x.0)
filled_at form.Ptr m i j d h some full x = has_size d _ x.2 (name_size x.0)
filled_at form.Mx m i j d h some full x = has_size d _ x.2 (omega (arith, name_size x.0, length-append (to_be_bytes w16 (word_at m i)) (name_bytes x.0)))
filled_at form.Srv m i j d h some full x =
    has_size d _ x.2 (omega (arith, name_size x.0, length-append (to_be_bytes w16 (word_at m i) ++ to_be_bytes w16 (word_at m (i + 2)) ++ to_be_bytes w16 (word_at m (i + 4))) (name_bytes x.0)))
filled_at form.Soa m i j d h some full x =
    has_size d _ x.is (soa_size x.mname x.rname (long_at m x.end) (long_at m (x.end + 4)) (long_at m (x.end + 8)) (long_at m (x.end + 12)) (long_at m (x.end + 16)))
filled_at form.Txt m i j d h some full x = has_size d _ x.3 (omega (arith, some, part_size m i j h, ap length x.2))
filled_at form.Opaque m i j d h some full x = has_size d _ x (omega (arith, some, part_size m i j h))
filled_at form.Empty m i j d h some full x = absurd (full refl)

-- the form of a type where there are bytes
abbrev by_type : Bool → Bool → Bool → Bool → Bool → Bool → Bool → Bool → Bool → Form
by_type a ns cname soa ptr mx txt aaaa srv =
    if a then form.A
    else if ns then form.Ns
    else if cname then form.Cname
    else if soa then form.Soa
    else if ptr then form.Ptr
    else if mx then form.Mx
    else if txt then form.Txt
    else if aaaa then form.Aaaa
    else if srv then form.Srv
    else form.Opaque

never_empty : (a ns cname soa ptr mx txt aaaa srv : Bool) → by_type a ns cname soa ptr mx txt aaaa srv ≡ form.Empty → ⊥
never_empty true ns cname soa ptr mx txt aaaa srv e = cc
never_empty false true cname soa ptr mx txt aaaa srv e = cc
never_empty false false true soa ptr mx txt aaaa srv e = cc
never_empty false false false true ptr mx txt aaaa srv e = cc
never_empty false false false false true mx txt aaaa srv e = cc
never_empty false false false false false true txt aaaa srv e = cc
never_empty false false false false false false true aaaa srv e = cc
never_empty false false false false false false false true srv e = cc
never_empty false false false false false false false false true e = cc
never_empty false false false false false false false false false e = cc

-- the form depends on the number of bytes only where there are none
abbrev by_size : Bool → Bool → Form → Form
by_size opt none full = if opt then form.Opaque else if none then form.Empty else full

form_kept : (opt none : Bool) (full : Form) (m : List ℕ) (i j : ℕ) (d : Data) → j ≤ length m → (j - i == 0) ≡ none → (full ≡ form.Empty → ⊥)
    → FormAt (by_size opt none full) m i j d → by_size opt (length (data_bytes d) == 0) full ≡ variant_of d
form_kept true none full m i j d h size filled x = sym (variant_at form.Opaque m i j d x)
form_kept false true full m i j d h size filled x =
    let zero : length (data_bytes d) ≡ 0 = ap (λ (z : Data). length (data_bytes z)) x in
    let test : (length (data_bytes d) == 0) ≡ true = rw zero refl in
    rw test (sym (variant_at form.Empty m i j d x))
form_kept false false full m i j d h size filled x =
    let some : 0 < j - i = positive (j - i) size in
    let test : (length (data_bytes d) == 0) ≡ false = not_zero (length (data_bytes d)) (filled_at full m i j d h some filled x) in
    rw test (sym (variant_at full m i j d x))
  where
    positive : (n : ℕ) → (n == 0) ≡ false → 0 < n
    positive n e = grind (arith, nat_tests)

    not_zero : (n : ℕ) → 0 < n → (n == 0) ≡ false
    not_zero n h = grind (arith, nat_tests)

-- a record that stands in bytes has the data of its type, whether its names were compressed or not
pub form_at : (m : List ℕ) (i j : ℕ) (r : Record) → RecordAt m i r j → IsOfItsType r
form_at m i j r x =
    form_kept (r.rtype == 41) (j - (x.end + 10) == 0) (by_type (r.rtype == 1) (r.rtype == 2) (r.rtype == 5) (r.rtype == 6) (r.rtype == 12) (r.rtype == 15) (r.rtype == 16) (r.rtype == 28) (r.rtype == 33))
    m (x.end + 10) j r.rdata x.within refl (never_empty (r.rtype == 1) (r.rtype == 2) (r.rtype == 5) (r.rtype == 6) (r.rtype == 12) (r.rtype == 15) (r.rtype == 16) (r.rtype == 28) (r.rtype == 33)) x.«data»
