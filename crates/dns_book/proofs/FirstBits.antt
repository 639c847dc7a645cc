-- The first bits of a number are what is left of it once the others are shifted out.
use Rattle.std.proofs.Common.{◌≡◌, ℕ, ◌+◌, ◌*◌, ◌/◌, ◌%◌, ◌^◌, ◌-◌, ◌<◌, ◌≤◌, List, ◌∷◌, take, drop, replicate, mul_assoc, refl, sym, ap, ◌∙◌, subst, arith, true, ◌==◌, zero, suc}
use Rattle.std.specs.Str.{bytes_eq}
use Rattle.std.proofs.lemmas.Nat.{shr-shr, shl-shr, pow-add, div_below}
use Rattle.std.proofs.lemmas.Bool.Decides.{same_from_decides, Decides-eqb}
use Rattle.std.proofs.lemmas.Slice.Eq.{bytes_eq-Decides}
use Rattle.dns_book.specs.Bits.{bits_of, front_of}

-- the first bits of a number
abbrev first_bits : ℕ → ℕ → ℕ → List ℕ
first_bits width count n = take count (bits_of width n)

-- a shift by more
further : (n w j k : ℕ) → j + k ≡ w → n / 2 ^ w ≡ n / 2 ^ j / 2 ^ k
further n w j k e = ap (λ (x : ℕ). n / 2 ^ x) (sym e) ∙ sym (shr-shr n j k)

further_same : (a b w j k : ℕ) → j + k ≡ w → a / 2 ^ j ≡ b / 2 ^ j → a / 2 ^ w ≡ b / 2 ^ w
further_same a b w j k e same = further a w j k e ∙ ap (λ (x : ℕ). x / 2 ^ k) same ∙ sym (further b w j k e)

cons_head : {x y : ℕ} {xs ys : List ℕ} → x ∷ xs ≡ y ∷ ys → x ≡ y
cons_head e = cc

cons_tail : {x y : ℕ} {xs ys : List ℕ} → x ∷ xs ≡ y ∷ ys → xs ≡ ys
cons_tail e = cc

-- nothing stands above the bits of a number
none_above : (n w : ℕ) → n < 2 ^ w → n / 2 ^ w ≡ 0
none_above n w small =
    let some : 0 < 2 ^ w = omega (arith, small) in
    let room : n < 1 * 2 ^ w = omega (arith, small) in
    let little : n / 2 ^ w < 1 = div_below n (2 ^ w) 1 some room in
    omega (arith, little)

-- what is left by the shift tells the first bits
first_bits-forth : (w p low a b : ℕ) → low ≡ w - p → a / 2 ^ low ≡ b / 2 ^ low → first_bits w p a ≡ first_bits w p b
unfolding bits_of
first_bits-forth w zero low a b is e = refl
first_bits-forth zero (suc p) low a b is e = refl
first_bits-forth (suc w) (suc p) low a b is e =
    let rest : low ≡ w - p = omega (arith, is) in
    let sum : low + (w - low) ≡ w = omega (arith, rest) in
    let head : a / 2 ^ w % 2 ≡ b / 2 ^ w % 2 = ap (λ (x : ℕ). x % 2) (further_same a b w low (w - low) sum e) in
    let tail : first_bits w p a ≡ first_bits w p b = first_bits-forth w p low a b rest e in
    cc

-- a number is told by its half and its last bit
by_half : (x y : ℕ) → x / 2 ≡ y / 2 → x % 2 ≡ y % 2 → x ≡ y
by_half x y half last = omega (arith, half, last)

-- the first bits tell what is left by the shift, where nothing stands above them
first_bits-back : (w p low a b : ℕ) → low ≡ w - p → a / 2 ^ w ≡ b / 2 ^ w → first_bits w p a ≡ first_bits w p b → a / 2 ^ low ≡ b / 2 ^ low
unfolding bits_of
first_bits-back w zero low a b is top e = let same : low ≡ w = omega (arith, is) in subst (λ (x : ℕ). a / 2 ^ x ≡ b / 2 ^ x) (sym same) top
first_bits-back zero (suc p) low a b is top e = let same : low ≡ 0 = omega (arith, is) in subst (λ (x : ℕ). a / 2 ^ x ≡ b / 2 ^ x) (sym same) top
first_bits-back (suc w) (suc p) low a b is top e =
    let rest : low ≡ w - p = omega (arith, is) in
    let sum : w + 1 ≡ suc w = omega arith in
    let half : a / 2 ^ w / 2 ≡ b / 2 ^ w / 2 = sym (further a (suc w) w 1 sum) ∙ top ∙ further b (suc w) w 1 sum in
    let last : a / 2 ^ w % 2 ≡ b / 2 ^ w % 2 = cons_head e in
    first_bits-back w p low a b rest (by_half (a / 2 ^ w) (b / 2 ^ w) half last) (cons_tail e)

-- two numbers with nothing above their bits have the same first ones exactly where the same is left by the shift
pub front_test : (w p low a b : ℕ) → low ≡ w - p → a < 2 ^ w → b < 2 ^ w → (a / 2 ^ low == b / 2 ^ low) ≡ bytes_eq (take p (bits_of w a)) (take p (bits_of w b))
front_test w p low a b is small little =
    let top : a / 2 ^ w ≡ b / 2 ^ w = none_above a w small ∙ sym (none_above b w little) in
    same_from_decides _ _ (
      (λ (t : (a / 2 ^ low == b / 2 ^ low) ≡ true). first_bits-forth w p low a b is ((Decides-eqb (a / 2 ^ low) (b / 2 ^ low)).0 t)),
      (λ (t : first_bits w p a ≡ first_bits w p b). (Decides-eqb (a / 2 ^ low) (b / 2 ^ low)).1 (first_bits-back w p low a b is top t)),
    ) (bytes_eq-Decides (first_bits w p a) (first_bits w p b))

-- clearing the other bits leaves the first ones
pub front_kept : (w p n : ℕ) → take p (bits_of w (front_of w p n)) ≡ take p (bits_of w n)
front_kept w p n = first_bits-forth w p (w - p) (front_of w p n) n refl (shl-shr (n / 2 ^ (w - p)) (w - p))

-- the bits behind the first ones
drop-bits : (w p n : ℕ) → drop p (bits_of w n) ≡ bits_of (w - p) n
unfolding bits_of
drop-bits w zero n = let e : w - 0 ≡ w = omega arith in rw e refl
drop-bits zero (suc p) n = let e : 0 - suc p ≡ 0 = omega arith in rw e refl
drop-bits (suc w) (suc p) n = let e : suc w - suc p ≡ w - p = omega arith in rw e (drop-bits w p n)

-- a bit below those that were shifted in
low_bit : (w r q : ℕ) → q * 2 ^ (w + 1 + r) / 2 ^ w % 2 ≡ 0
low_bit w r q =
    let sum : w + 1 + r ≡ r + 1 + w = omega arith in
    let parts : 2 ^ (w + 1 + r) ≡ 2 ^ r * 2 * 2 ^ w = ap (λ (x : ℕ). 2 ^ x) sum ∙ pow-add 2 (r + 1) w ∙ ap (λ (x : ℕ). x * 2 ^ w) (pow-add 2 r 1) in
    let moved : q * 2 ^ (w + 1 + r) ≡ q * (2 ^ r * 2) * 2 ^ w = ap (λ (x : ℕ). q * x) parts ∙ sym (mul_assoc q (2 ^ r * 2) (2 ^ w)) in
    let left : q * 2 ^ (w + 1 + r) / 2 ^ w ≡ q * (2 ^ r * 2) = ap (λ (x : ℕ). x / 2 ^ w) moved ∙ shl-shr (q * (2 ^ r * 2)) w in
    let even : q * (2 ^ r * 2) % 2 ≡ 0 = omega arith in
    ap (λ (x : ℕ). x % 2) left ∙ even

zero_bits : (w k q : ℕ) → w ≤ k → bits_of w (q * 2 ^ k) ≡ replicate w 0
unfolding bits_of
zero_bits zero k q small = refl
zero_bits (suc w) k q small =
    let sum : k ≡ w + 1 + (k - w - 1) = omega (arith, small) in
    let head : q * 2 ^ k / 2 ^ w % 2 ≡ 0 = ap (λ (x : ℕ). q * 2 ^ x / 2 ^ w % 2) sum ∙ low_bit w (k - w - 1) q in
    let tail : bits_of w (q * 2 ^ k) ≡ replicate w 0 = zero_bits w k q (omega (arith, small)) in
    rw (head, tail) refl

-- clearing the other bits clears them
pub rest_cleared : (w p n : ℕ) → drop p (bits_of w (front_of w p n)) ≡ replicate (w - p) 0
rest_cleared w p n = drop-bits w p (front_of w p n) ∙ zero_bits (w - p) (w - p) (n / 2 ^ (w - p)) (omega arith)
