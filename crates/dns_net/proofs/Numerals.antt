-- Decimal numerals: as facts and as tests, and that they are visible.
use Rattle.std.proofs.Common.{◌≡◌, ℕ, ◌<◌, ◌^◌, Bool, true, false, ◌&&◌, List, [], ◌∷◌, length, Some, None, refl, sym, ap, ◌∙◌, arith, ◌==◌, if◌then◌else◌, nat_lt, cond, drop}
use Rattle.std.proofs.lemmas.Bool.Decides.{nat_tests}
use Rattle.std.proofs.lemmas.Str.Parse.{digit_from_value}
use Rattle.std.specs.List.{list_all}
use Rattle.std.specs.Char.{digit_value}
use Rattle.std.specs.Str.Parse.{AllDigits, IsNumeral, without_leading_plus, digits_value}
use Rattle.http_header.specs.Token.{is_visible_or_blank}
use Rattle.http_header.specs.FieldValue.{is_visible_text}
use Rattle.dns_net.specs.Checks.{is_digits, bytes_said}

both : (a b : Bool) → (a && b) ≡ true → (a ≡ true) × (b ≡ true)
both true b h = (refl, h)
both false b h = absurd cc

below : (m n : ℕ) → m < n → nat_lt m n ≡ true
below m n h = grind (arith, nat_tests)

above : (m n : ℕ) → nat_lt m n ≡ true → m < n
above m n h = grind (arith, nat_tests)

digits-pass : (ds : List ℕ) → AllDigits 10 ds → list_all (λ b. nat_lt (digit_value b) 10) ds ≡ true
digits-pass [] h = refl
digits-pass (d ∷ ds) h = rw (below _ _ h.0) (digits-pass ds h.1)

pass-digits : (ds : List ℕ) → list_all (λ b. nat_lt (digit_value b) 10) ds ≡ true → AllDigits 10 ds
pass-digits [] h = tt
pass-digits (d ∷ ds) h = let parts = both (nat_lt (digit_value d) 10) _ h in (above _ _ parts.0, pass-digits ds parts.1)

chosen : (test : Bool) (n : ℕ) → (test ≡ true → ⊥) → (if test then Some n else None) ≡ None
chosen true n never = absurd (never refl)
chosen false n never = refl

said : (bs : List ℕ) → IsNumeral 10 (without_leading_plus bs) × (digits_value 10 (without_leading_plus bs) < 2 ^ 64) → bytes_said bs ≡ Some (digits_value 10 (without_leading_plus bs))
said bs h = rw (below 0 _ h.0.0, digits-pass _ h.0.1, below _ _ h.1) refl

unsaid : (bs : List ℕ) → ¬ (IsNumeral 10 (without_leading_plus bs) × (digits_value 10 (without_leading_plus bs) < 2 ^ 64)) → bytes_said bs ≡ None
unsaid bs never =
    let ds = without_leading_plus bs in
    chosen (is_digits ds && nat_lt (digits_value 10 ds) (2 ^ 64)) (digits_value 10 ds)
    (λ e.
    let parts = both (is_digits ds) (nat_lt (digits_value 10 ds) (2 ^ 64)) e in
    let inner = both (nat_lt 0 (length ds)) _ parts.0 in
    never ((above 0 (length ds) inner.0, pass-digits ds inner.1), above _ _ parts.1))

digit-visible : (d : ℕ) → digit_value d < 10 → is_visible_or_blank d ≡ true
digit-visible d h = let r = digit_from_value d h in grind (arith, nat_tests)

digits-visible : (ds : List ℕ) → AllDigits 10 ds → list_all is_visible_or_blank ds ≡ true
digits-visible [] h = refl
digits-visible (d ∷ ds) h = rw (digit-visible d h.0) (digits-visible ds h.1)

plus-visible : (plus : Bool) (b : ℕ) (bs : List ℕ) → (b == 43) ≡ plus → AllDigits 10 (drop (cond plus 1 0) (b ∷ bs)) → list_all is_visible_or_blank (b ∷ bs) ≡ true
plus-visible true b bs e h = let is : b ≡ 43 = grind (arith, nat_tests) in rw is (digits-visible bs h)
plus-visible false b bs e h = digits-visible (b ∷ bs) h

numeral-visible : (bs : List ℕ) → IsNumeral 10 (without_leading_plus bs) → is_visible_text bs ≡ true
numeral-visible [] h = refl
numeral-visible (b ∷ bs) h = plus-visible (b == 43) b bs refl h.1

-- what a numeral in range says
pub said-Some : (text bytes : List ℕ) (count : ℕ) → text ≡ bytes → IsNumeral 10 (without_leading_plus text) × (digits_value 10 (without_leading_plus text) < 2 ^ 64) → count ≡ digits_value 10 (without_leading_plus text) → Some count ≡ bytes_said bytes
said-Some text bytes count same h is = ap Some is ∙ sym (said text h) ∙ ap bytes_said same

-- any other text says nothing
pub said-None : (text bytes : List ℕ) → text ≡ bytes → ¬ (IsNumeral 10 (without_leading_plus text) × (digits_value 10 (without_leading_plus text) < 2 ^ 64)) → None ≡ bytes_said bytes
said-None text bytes same never = sym (unsaid text never) ∙ ap bytes_said same

-- and so does a text that is not visible
pub said-hidden : (bs : List ℕ) → is_visible_text bs ≡ false → None ≡ bytes_said bs
said-hidden bs hidden = sym (unsaid bs (λ h. let seen = numeral-visible bs h.0 in absurd cc))
