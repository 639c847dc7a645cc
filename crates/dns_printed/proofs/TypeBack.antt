-- A type is read as itself, by its name or by its number.
use Rattle.std.proofs.Common.{◌≡◌, ℕ, ◌^◌, ◌<◌, Bool, true, false, ◌==◌, ◌||◌, nat_lt, if◌then◌else◌, List, ◌∷◌, ◌++◌, length, Option, Some, None, refl, sym, ap, subst, arith, codes}
use Rattle.std.specs.Fmt.{decimal}
use Rattle.std.proofs.lemmas.Bool.Decides.{Decides-eqb}
use Rattle.dns_wire.specs.declared.rdata.Form.{Form}
use Rattle.dns_wire.specs.declared.rdata.Form.TheVariants as form
use Rattle.dns_wire.specs.Forms.{form_of}
use Rattle.dns_presentation.specs.Words.{Word}
use Rattle.dns_presentation.specs.DataText.{is_meta_type, number_behind_type, numbered_type, typed, type_of}
use Rattle.dns_printed.specs.Printed.{type_text}
use Rattle.dns_printed.proofs.Numbers.{AreDigits-decimal, number_up_to-decimal}
use Rattle.dns_printed.proofs.Escaping.{ordinary_alphanumeric}
use Rattle.dns_printed.proofs.Spans.{Passes-append, Passes-ordinary, ordinary_digits, Writes, Writes-plain}
use Rattle.dns_printed.proofs.WordsBack.{bare}

-- what the tests of a type say where its data has a form
abbrev pub IsChosen : Form → (a ns cname soa ptr mx txt aaaa srv : Bool) → Type 0
IsChosen form.A a ns cname soa ptr mx txt aaaa srv = a ≡ true
IsChosen form.Ns a ns cname soa ptr mx txt aaaa srv = ns ≡ true
IsChosen form.Cname a ns cname soa ptr mx txt aaaa srv = cname ≡ true
IsChosen form.Soa a ns cname soa ptr mx txt aaaa srv = soa ≡ true
IsChosen form.Ptr a ns cname soa ptr mx txt aaaa srv = ptr ≡ true
IsChosen form.Mx a ns cname soa ptr mx txt aaaa srv = mx ≡ true
IsChosen form.Txt a ns cname soa ptr mx txt aaaa srv = txt ≡ true
IsChosen form.Aaaa a ns cname soa ptr mx txt aaaa srv = aaaa ≡ true
IsChosen form.Srv a ns cname soa ptr mx txt aaaa srv = srv ≡ true
IsChosen form.Opaque a ns cname soa ptr mx txt aaaa srv = (a || (ns || (cname || (soa || (ptr || (mx || (txt || (aaaa || srv)))))))) ≡ false
IsChosen form.Empty a ns cname soa ptr mx txt aaaa srv = ⊥

-- data that is not empty, of a type that is not OPT
chosen : (opt none a ns cname soa ptr mx txt aaaa srv : Bool) (f : Form) → opt ≡ false → none ≡ false
    → (if opt then form.Opaque else if none then form.Empty else if a then form.A else if ns then form.Ns else if cname then form.Cname else if soa then form.Soa else if ptr then form.Ptr else if mx then form.Mx else if txt then form.Txt else if aaaa then form.Aaaa else if srv then form.Srv else form.Opaque) ≡ f
    → IsChosen f a ns cname soa ptr mx txt aaaa srv
chosen true none a ns cname soa ptr mx txt aaaa srv f no_opt some is = absurd cc
chosen false true a ns cname soa ptr mx txt aaaa srv f no_opt some is = absurd cc
chosen false false true ns cname soa ptr mx txt aaaa srv f no_opt some is = subst (λ g. IsChosen g true ns cname soa ptr mx txt aaaa srv) is refl
chosen false false false true cname soa ptr mx txt aaaa srv f no_opt some is = subst (λ g. IsChosen g false true cname soa ptr mx txt aaaa srv) is refl
chosen false false false false true soa ptr mx txt aaaa srv f no_opt some is = subst (λ g. IsChosen g false false true soa ptr mx txt aaaa srv) is refl
chosen false false false false false true ptr mx txt aaaa srv f no_opt some is = subst (λ g. IsChosen g false false false true ptr mx txt aaaa srv) is refl
chosen false false false false false false true mx txt aaaa srv f no_opt some is = subst (λ g. IsChosen g false false false false true mx txt aaaa srv) is refl
chosen false false false false false false false true txt aaaa srv f no_opt some is = subst (λ g. IsChosen g false false false false false true txt aaaa srv) is refl
chosen false false false false false false false false true aaaa srv f no_opt some is = subst (λ g. IsChosen g false false false false false false true aaaa srv) is refl
chosen false false false false false false false false false true srv f no_opt some is = subst (λ g. IsChosen g false false false false false false false true srv) is refl
chosen false false false false false false false false false false true f no_opt some is = subst (λ g. IsChosen g false false false false false false false false true) is refl
chosen false false false false false false false false false false false f no_opt some is = subst (λ g. IsChosen g false false false false false false false false false) is refl

-- what the tests say of a type whose data, of this size, has a form
pub chosen_form : (number size : ℕ) (f : Form) → (number == 41) ≡ false → 0 < size → form_of number size ≡ f
    → IsChosen f (number == 1) (number == 2) (number == 5) (number == 6) (number == 12) (number == 15) (number == 16) (number == 28) (number == 33)
chosen_form number size f no_opt some is =
    let filled : (size == 0) ≡ false = grind arith in
    chosen (number == 41) (size == 0) (number == 1) (number == 2) (number == 5) (number == 6) (number == 12) (number == 15) (number == 16) (number == 28) (number == 33) f no_opt filled is

pub same_number : (number k : ℕ) → (number == k) ≡ true → number ≡ k
same_number number k same = (Decides-eqb number k).0 same

-- a choice none of whose tests passes
last_of : {X : Type 0} (a ns cname soa ptr mx txt aaaa srv : Bool) (one two three four five six seven eight nine other : X) → (a || (ns || (cname || (soa || (ptr || (mx || (txt || (aaaa || srv)))))))) ≡ false
    → (if a then one else if ns then two else if cname then three else if soa then four else if ptr then five else if mx then six else if txt then seven else if aaaa then eight else if srv then nine else other) ≡ other
last_of true ns cname soa ptr mx txt aaaa srv one two three four five six seven eight nine other none = absurd cc
last_of false true cname soa ptr mx txt aaaa srv one two three four five six seven eight nine other none = absurd cc
last_of false false true soa ptr mx txt aaaa srv one two three four five six seven eight nine other none = absurd cc
last_of false false false true ptr mx txt aaaa srv one two three four five six seven eight nine other none = absurd cc
last_of false false false false true mx txt aaaa srv one two three four five six seven eight nine other none = absurd cc
last_of false false false false false true txt aaaa srv one two three four five six seven eight nine other none = absurd cc
last_of false false false false false false true aaaa srv one two three four five six seven eight nine other none = absurd cc
last_of false false false false false false false true srv one two three four five six seven eight nine other none = absurd cc
last_of false false false false false false false false true one two three four five six seven eight nine other none = absurd cc
last_of false false false false false false false false false one two three four five six seven eight nine other none = refl

-- one of the types that are written by their names
abbrev pub is_named : ℕ → Bool
is_named number =
    (number == 1) || ((number == 2) || ((number == 5) || ((number == 6) || ((number == 12) || ((number == 15) || ((number == 16) || ((number == 28) || (number == 33))))))))

-- any other type is written by its number
type_text-numbered : (number : ℕ) → is_named number ≡ false → type_text number ≡ codes "TYPE" ++ decimal number
type_text-numbered number none =
    last_of (number == 1) (number == 2) (number == 5) (number == 6) (number == 12) (number == 15) (number == 16) (number == 28) (number == 33)
    (codes "A") (codes "NS") (codes "CNAME") (codes "SOA") (codes "PTR") (codes "MX") (codes "TXT") (codes "AAAA") (codes "SRV") (codes "TYPE" ++ decimal number) none

-- the word of a type is read as it
pub record IsTypeBack (number : ℕ) (by_number : Bool) : Type 0 where
  pub word : Word
  pub writes : Writes (type_text number) word
  pub read : type_of word ≡ Some (record { number = number; by_number = by_number })

behind_type : (digits : List ℕ) (number : ℕ) → number < 2 ^ 16 → digits ≡ decimal number → number_behind_type (84 ∷ 89 ∷ 80 ∷ 69 ∷ digits) ≡ Some number
behind_type digits number below is =
    let long : nat_lt (length (84 ∷ 89 ∷ 80 ∷ 69 ∷ digits)) 4 ≡ false = grind arith in
    rw (long, is) (number_up_to-decimal 65535 number (omega arith) (omega arith))

numbered_read : (number : ℕ) → number < 2 ^ 16 → is_meta_type number ≡ false → numbered_type (bare (codes "TYPE" ++ decimal number)) ≡ Some number
unfolding numbered_type
numbered_read number below plain = rw (behind_type (decimal number) number below refl, plain) refl

numbered_type_of : (number : ℕ) → number < 2 ^ 16 → is_meta_type number ≡ false → type_of (bare (codes "TYPE" ++ decimal number)) ≡ Some (record { number = number; by_number = true })
unfolding type_of
numbered_type_of number below plain = ap (λ (read : Option ℕ). typed None read) (numbered_read number below plain)

pub IsTypeBack-numbered : (number : ℕ) → number < 2 ^ 16 → is_meta_type number ≡ false → is_named number ≡ false → IsTypeBack number true
IsTypeBack-numbered number below plain none = record {
  word = bare (codes "TYPE" ++ decimal number);
  writes = subst (λ text. Writes text (bare (codes "TYPE" ++ decimal number))) (sym (type_text-numbered number none))
      (Writes-plain (codes "TYPE" ++ decimal number) refl (Passes-append (codes "TYPE") (decimal number) (Passes-ordinary (codes "TYPE") (ordinary_alphanumeric (codes "TYPE") refl)) (Passes-ordinary (decimal number) (ordinary_digits (decimal number) (AreDigits-decimal number (omega arith))))));
  read = numbered_type_of number below plain;
}

-- the types that have names
named_word : (number : ℕ) → Writes (type_text number) (bare (type_text number)) → type_of (bare (type_text number)) ≡ Some (record { number = number; by_number = false }) → IsTypeBack number false
named_word number writes read = record { word = bare (type_text number); writes = writes; read = read }

pub IsTypeBack-a : IsTypeBack 1 false
unfolding type_of
IsTypeBack-a = named_word 1 (Writes-plain (codes "A") refl (Passes-ordinary (codes "A") (ordinary_alphanumeric (codes "A") refl))) refl

pub IsTypeBack-ns : IsTypeBack 2 false
unfolding type_of
IsTypeBack-ns = named_word 2 (Writes-plain (codes "NS") refl (Passes-ordinary (codes "NS") (ordinary_alphanumeric (codes "NS") refl))) refl

pub IsTypeBack-cname : IsTypeBack 5 false
unfolding type_of
IsTypeBack-cname = named_word 5 (Writes-plain (codes "CNAME") refl (Passes-ordinary (codes "CNAME") (ordinary_alphanumeric (codes "CNAME") refl))) refl

pub IsTypeBack-soa : IsTypeBack 6 false
unfolding type_of
IsTypeBack-soa = named_word 6 (Writes-plain (codes "SOA") refl (Passes-ordinary (codes "SOA") (ordinary_alphanumeric (codes "SOA") refl))) refl

pub IsTypeBack-ptr : IsTypeBack 12 false
unfolding type_of
IsTypeBack-ptr = named_word 12 (Writes-plain (codes "PTR") refl (Passes-ordinary (codes "PTR") (ordinary_alphanumeric (codes "PTR") refl))) refl

pub IsTypeBack-mx : IsTypeBack 15 false
unfolding type_of
IsTypeBack-mx = named_word 15 (Writes-plain (codes "MX") refl (Passes-ordinary (codes "MX") (ordinary_alphanumeric (codes "MX") refl))) refl

pub IsTypeBack-txt : IsTypeBack 16 false
unfolding type_of
IsTypeBack-txt = named_word 16 (Writes-plain (codes "TXT") refl (Passes-ordinary (codes "TXT") (ordinary_alphanumeric (codes "TXT") refl))) refl

pub IsTypeBack-aaaa : IsTypeBack 28 false
unfolding type_of
IsTypeBack-aaaa = named_word 28 (Writes-plain (codes "AAAA") refl (Passes-ordinary (codes "AAAA") (ordinary_alphanumeric (codes "AAAA") refl))) refl

pub IsTypeBack-srv : IsTypeBack 33 false
unfolding type_of
IsTypeBack-srv = named_word 33 (Writes-plain (codes "SRV") refl (Passes-ordinary (codes "SRV") (ordinary_alphanumeric (codes "SRV") refl))) refl
