-- A decimal number is read as itself, and digits are what it is made of.
use Rattle.std.proofs.Common.{◌≡◌, ℕ, ◌+◌, ◌*◌, ◌-◌, ◌/◌, ◌%◌, ◌^◌, ◌<◌, ◌≤◌, Bool, true, false, not, ◌==◌, ◌&&◌, nat_lt, if◌then◌else◌, List, [], ◌∷◌, ◌++◌, length, get_or, Option, Some, None, refl, sym, ap, ◌∙◌, subst, arith, inl, inr, ◌⊎◌, eq-zero-or-pos}
use Rattle.std.specs.Fmt.{decimal}
use Rattle.std.specs.List.{AllByRecursion}
use Rattle.std.proofs.lemmas.Fmt.{decimal_by_steps, decimal_digit, decimal_nonempty, first_decimal}
use Rattle.dns_name.specs.Escapes.{is_digit}
use Rattle.dns_presentation.specs.Values.{◌>>=◌, number_from, number_of, number_up_to}

-- what holds of the elements of two lists holds of those of both
pub All-append : {X : Type 0} (P : X → Type 0) (xs ys : List X) → AllByRecursion P xs → AllByRecursion P ys → AllByRecursion P (xs ++ ys)
All-append P [] ys front back = back
All-append P (x ∷ xs) ys front back = (front.0, All-append P xs ys front.1 back)

-- what holds of some elements holds of them by another name
pub All-map : {X : Type 0} (P Q : X → Type 0) (xs : List X) → ((x : X) → P x → Q x) → AllByRecursion P xs → AllByRecursion Q xs
All-map P Q [] turn all = tt
All-map P Q (x ∷ xs) turn all = (turn x all.0, All-map P Q xs turn all.1)

-- digits
abbrev pub AreDigits : List ℕ → Type 0
AreDigits = AllByRecursion (λ byte. is_digit byte ≡ true)

pub is_digit-of : (byte : ℕ) → 48 ≤ byte → byte ≤ 57 → is_digit byte ≡ true
is_digit-of byte low high = grind arith

pub digit_bounds : (byte : ℕ) → is_digit byte ≡ true → (48 ≤ byte) × (byte ≤ 57)
digit_bounds byte digit = (grind arith, grind arith)

-- the last digit comes behind the others
number_push : (n last : ℕ) (digits : List ℕ) → number_from n (digits ++ last ∷ []) ≡ (number_from n digits >>= λ m. number_from m (last ∷ []))
number_push n last [] = refl
number_push n last (digit ∷ digits) = by_test (is_digit digit && nat_lt (10 * n + (digit - 48)) (2 ^ 32)) (number_push (10 * n + (digit - 48)) last digits)
  where
    by_test : (test : Bool) → number_from (10 * n + (digit - 48)) (digits ++ last ∷ []) ≡ (number_from (10 * n + (digit - 48)) digits >>= λ m. number_from m (last ∷ []))
        → (if test then number_from (10 * n + (digit - 48)) (digits ++ last ∷ []) else None) ≡ ((if test then number_from (10 * n + (digit - 48)) digits else None) >>= λ m. number_from m (last ∷ []))
    by_test true rest = rest
    by_test false rest = refl

-- one digit more
number_step : (m last n : ℕ) → is_digit last ≡ true → 10 * m + (last - 48) ≡ n → n < 2 ^ 32 → number_from m (last ∷ []) ≡ Some n
number_step m last n digit is below =
    let small : nat_lt n (2 ^ 32) ≡ true = grind arith in
    rw (is, digit, small) refl

abbrev ReadsAs : ℕ → List ℕ → Type 0
ReadsAs n digits = n < 2 ^ 32 → number_from 0 digits ≡ Some n

reads_one : (n : ℕ) → n < 10 → ReadsAs n ((48 + n) ∷ [])
reads_one n small below = number_step 0 (48 + n) n (is_digit-of (48 + n) (omega arith) (omega arith)) (omega arith) below

reads_more : (n : ℕ) (digits : List ℕ) → 10 ≤ n → ReadsAs (n / 10) digits → ReadsAs n (digits ++ ((48 + n % 10) ∷ []))
reads_more n digits large front below =
    number_push 0 (48 + n % 10) digits
    ∙ ap (λ (read : Option ℕ). read >>= λ m. number_from m ((48 + n % 10) ∷ [])) (front (omega arith))
    ∙ number_step (n / 10) (48 + n % 10) n (is_digit-of (48 + n % 10) (omega arith) (omega arith)) (omega arith) below

-- a decimal number below 2^32 is read from its digits
pub number_from-decimal : (n : ℕ) → n < 2 ^ 32 → number_from 0 (decimal n) ≡ Some n
number_from-decimal n below = decimal_by_steps ReadsAs reads_one reads_more n (omega arith) below

digits_one : (n : ℕ) → n < 10 → AreDigits ((48 + n) ∷ [])
digits_one n small = (is_digit-of (48 + n) (omega arith) (omega arith), tt)

digits_more : (n : ℕ) (digits : List ℕ) → 10 ≤ n → AreDigits digits → AreDigits (digits ++ ((48 + n % 10) ∷ []))
digits_more n digits large front =
    All-append (λ byte. is_digit byte ≡ true) digits ((48 + n % 10) ∷ []) front (is_digit-of (48 + n % 10) (omega arith) (omega arith), tt)

-- a decimal number is digits
pub AreDigits-decimal : (n : ℕ) → n < 2 ^ 32 → AreDigits (decimal n)
AreDigits-decimal n below = decimal_by_steps (λ m digits. AreDigits digits) digits_one digits_more n (omega arith)

-- the first digit of a decimal number and the others; there are none behind a zero
pub record Led (digits : List ℕ) : Type 0 where
  pub first : ℕ
  pub rest : List ℕ
  pub is : digits ≡ first ∷ rest
  pub digit : is_digit first ≡ true
  pub zero_alone : ((first == 48) && not (length rest == 0)) ≡ false

led_from : (n : ℕ) (digits : List ℕ) → n < 2 ^ 32 → decimal n ≡ digits → AreDigits digits → Led digits
led_from n [] below is digits =
    let some : 0 < length (decimal n) = decimal_nonempty n (omega arith) in
    absurd (omega (arith, some, ap length is))
led_from n (first ∷ rest) below is digits = record {
  first = first;
  rest = rest;
  is = refl;
  digit = digits.0;
  zero_alone = by_size (eq-zero-or-pos n);
}
  where
    by_size : (n ≡ 0) ⊎ (0 < n) → ((first == 48) && not (length rest == 0)) ≡ false
    by_size (inl none) =
        let alone : first ∷ rest ≡ 48 ∷ [] = sym is ∙ ap decimal none ∙ decimal_digit 0 (omega arith) in
        let empty : rest ≡ [] = cc in
        let zero : first ≡ 48 = cc in
        rw (empty, zero) refl
    by_size (inr some) =
        let above : 48 < get_or (decimal n) 0 0 = first_decimal n some (omega arith) in
        let head : 48 < first = subst (λ (digits : List ℕ). 48 < get_or digits 0 0) is above in
        let other : (first == 48) ≡ false = grind arith in
        rw other refl

pub Led-decimal : (n : ℕ) → n < 2 ^ 32 → Led (decimal n)
Led-decimal n below = led_from n (decimal n) below refl (AreDigits-decimal n below)

-- a decimal number below 2^32 is read
pub number_of-decimal : (n : ℕ) → n < 2 ^ 32 → number_of (decimal n) ≡ Some n
unfolding number_of
number_of-decimal n below =
    let led = Led-decimal n below in
    let shift : number_of (led.first ∷ led.rest) ≡ number_from 0 (led.first ∷ led.rest) = refl in
    ap number_of led.is ∙ shift ∙ ap (number_from 0) (sym led.is) ∙ number_from-decimal n below

-- one that is no greater than the bound is read where zeros may not lead
pub number_up_to-decimal : (most n : ℕ) → n < 2 ^ 32 → n ≤ most → number_up_to most (decimal n) ≡ Some n
unfolding number_up_to
number_up_to-decimal most n below within =
    let led = Led-decimal n below in
    let read : number_from 0 (led.first ∷ led.rest) ≡ Some n = ap (number_from 0) (sym led.is) ∙ number_from-decimal n below in
    let small : nat_lt most n ≡ false = grind arith in
    let whole : number_up_to most (led.first ∷ led.rest) ≡ Some n = rw (led.zero_alone, read, small) refl in
    ap (number_up_to most) led.is ∙ whole
