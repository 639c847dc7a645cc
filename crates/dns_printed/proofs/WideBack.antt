-- An IPv6 address of eight groups is read as itself.
use Rattle.std.proofs.Common.{◌≡◌, ℕ, zero, suc, ◌+◌, ◌*◌, ◌/◌, ◌%◌, ◌^◌, ◌<◌, Bool, true, false, cond, nat_lt, nat_le, List, [], ◌∷◌, ◌++◌, length, drop, Some, refl, ap, ◌∙◌, arith, inl}
use Rattle.std.specs.Char.{digit_char, digit_value}
use Rattle.std.specs.Int.{w128, from_be_bytes}
use Rattle.std.specs.List.{AllByRecursion, flat_map}
use Rattle.std.specs.Net.Addr.{octets_of, ipv6_bits}
use Rattle.std.specs.Net.Grammar.{IsGroup, IsGroupsAfter, IsGroups}
use Rattle.std.specs.Net.Text.{leading_zero_digits, hex, groups_text}
use Rattle.std.proofs.Math.Nat.{div-div-eq-div-mul}
use Rattle.std.proofs.lemmas.Str.{digit_value-digit_char}
use Rattle.dns_presentation.specs.Words.{begins_plain}
use Rattle.dns_presentation.specs.Values.{wide_address_of}
use Rattle.dns_presentation.proofs.Addresses.{address_read}
use Rattle.dns_printed.specs.Printed.{groups_of, wide_address_text}
use Rattle.dns_printed.proofs.Escaping.{IsOrdinary}
use Rattle.dns_printed.proofs.Spans.{Passes, Passes-none, Passes-append, Passes-byte, Passes-ordinary, Writes, Writes-plain}

IsOrdinary-digit_char : (d : ℕ) → d < 16 → IsOrdinary (digit_char d)
IsOrdinary-digit_char d below = by_size (nat_lt d 10) refl
  where
    by_size : (small : Bool) → nat_lt d 10 ≡ small → IsOrdinary (cond small (48 + d) (87 + d))
    by_size true is = record { stop = grind arith; slash = grind arith; dot = grind arith; dollar = grind arith; at = grind arith; seen = omega arith }
    by_size false is = record { stop = grind arith; slash = grind arith; dot = grind arith; dollar = grind arith; at = grind arith; seen = omega arith }

-- the digits behind the first of ordinary ones
ordinary_behind : (k : ℕ) (text : List ℕ) → AllByRecursion IsOrdinary text → AllByRecursion IsOrdinary (drop k text)
ordinary_behind zero text all = all
ordinary_behind (suc k) [] all = tt
ordinary_behind (suc k) (byte ∷ text) all = ordinary_behind k text all.1

-- the digits of a group
ordinary_group : (n : ℕ) → n < 2 ^ 16 → AllByRecursion IsOrdinary (hex n)
unfolding hex
ordinary_group n below =
    ordinary_behind (leading_zero_digits n) (digit_char (n / 4096) ∷ digit_char (n / 256 % 16) ∷ digit_char (n / 16 % 16) ∷ digit_char (n % 16) ∷ [])
    (IsOrdinary-digit_char (n / 4096) (omega arith), (IsOrdinary-digit_char (n / 256 % 16) (omega arith), (IsOrdinary-digit_char (n / 16 % 16) (omega arith), (IsOrdinary-digit_char (n % 16) (omega arith), tt))))

-- a group is the number that its digits write; how many digits it has depends on its size
module _ (n : ℕ) (below : n < 2 ^ 16) where
  thousands : digit_value (digit_char (n / 4096)) ≡ n / 4096
  thousands = digit_value-digit_char (n / 4096) (omega arith)

  hundreds : digit_value (digit_char (n / 256 % 16)) ≡ n / 256 % 16
  hundreds = digit_value-digit_char (n / 256 % 16) (omega arith)

  tens : digit_value (digit_char (n / 16 % 16)) ≡ n / 16 % 16
  tens = digit_value-digit_char (n / 16 % 16) (omega arith)

  units : digit_value (digit_char (n % 16)) ≡ n % 16
  units = digit_value-digit_char (n % 16) (omega arith)

  one_digit : nat_le 4096 n ≡ false → nat_le 256 n ≡ false → nat_le 16 n ≡ false → IsGroup (hex n) n
  unfolding hex
  one_digit four three two =
      let small : n < 16 = grind arith in
      rw (four, three, two) (omega (arith, units, small))

  two_digits : nat_le 4096 n ≡ false → nat_le 256 n ≡ false → nat_le 16 n ≡ true → IsGroup (hex n) n
  unfolding hex
  two_digits four three two =
      let small : n < 256 = grind arith in
      rw (four, three, two) (omega (arith, tens, units, small))

  three_digits : nat_le 4096 n ≡ false → nat_le 256 n ≡ true → IsGroup (hex n) n
  unfolding hex
  three_digits four three =
      let small : n < 4096 = grind arith in
      rw (four, three) (omega (arith, hundreds, tens, units, small))

  four_digits : nat_le 4096 n ≡ true → IsGroup (hex n) n
  unfolding hex
  four_digits four = rw four (omega (arith, thousands, hundreds, tens, units))

  IsGroup-hex : IsGroup (hex n) n
  IsGroup-hex = by_four (nat_le 4096 n) refl
    where
      by_two : (large : Bool) → nat_le 4096 n ≡ false → nat_le 256 n ≡ false → nat_le 16 n ≡ large → IsGroup (hex n) n
      by_two true four three two = two_digits four three two
      by_two false four three two = one_digit four three two

      by_three : (large : Bool) → nat_le 4096 n ≡ false → nat_le 256 n ≡ large → IsGroup (hex n) n
      by_three true four three = three_digits four three
      by_three false four three = by_two (nat_le 16 n) four three refl

      by_four : (large : Bool) → nat_le 4096 n ≡ large → IsGroup (hex n) n
      by_four true four = four_digits four
      by_four false four = by_three (nat_le 256 n) four refl

more_groups : (groups : List ℕ) → AllByRecursion (λ n. n < 2 ^ 16) groups → IsGroupsAfter true (58 ∷ []) (flat_map (λ n. 58 ∷ hex n) groups) groups
more_groups [] below = refl
more_groups (n ∷ groups) below = inl (hex n, flat_map (λ n. 58 ∷ hex n) groups, refl, IsGroup-hex n below.0, more_groups groups below.1)

-- the text of groups is one of them
IsGroups-text : (first : ℕ) (groups : List ℕ) → first < 2 ^ 16 → AllByRecursion (λ n. n < 2 ^ 16) groups → IsGroups true (groups_text (first ∷ groups)) (first ∷ groups)
IsGroups-text first groups below others = inl (hex first, flat_map (λ n. 58 ∷ hex n) groups, refl, IsGroup-hex first below, more_groups groups others)

passes_colon : Passes (58 ∷ [])
passes_colon = Passes-byte 58 (record { stop = refl; slash = refl; dot = refl; dollar = refl; at = refl; seen = omega arith })

passes_rest : (groups : List ℕ) → AllByRecursion (λ n. n < 2 ^ 16) groups → Passes (flat_map (λ n. 58 ∷ hex n) groups)
passes_rest [] below = Passes-none
passes_rest (n ∷ groups) below =
    Passes-append (58 ∷ hex n) (flat_map (λ n. 58 ∷ hex n) groups) (Passes-append (58 ∷ []) (hex n) passes_colon (Passes-ordinary (hex n) (ordinary_group n below.0))) (passes_rest groups below.1)

-- a text begins with its first byte, which is ordinary
begins_ordinary : (text rest : List ℕ) → 0 < length text → AllByRecursion IsOrdinary text → begins_plain (text ++ rest) ≡ true
begins_ordinary [] rest some all = absurd (omega (arith, some))
begins_ordinary (byte ∷ text) rest some all = rw all.0.stop refl

Writes-groups : (first : ℕ) (groups : List ℕ) → first < 2 ^ 16 → AllByRecursion (λ n. n < 2 ^ 16) groups → Writes (groups_text (first ∷ groups)) (record { quoted = false; text = groups_text (first ∷ groups) })
Writes-groups first groups below others =
    let begins = begins_ordinary (hex first) (flat_map (λ n. 58 ∷ hex n) groups) (IsGroup-hex first below).0.0.0 (ordinary_group first below) in
    Writes-plain (groups_text (first ∷ groups)) begins (Passes-append (hex first) (flat_map (λ n. 58 ∷ hex n) groups) (Passes-ordinary (hex first) (ordinary_group first below)) (passes_rest groups others))

-- the number of groups, the high one first
number_of_groups : (a b c d e f g h : ℕ) → from_be_bytes w128 (octets_of (a ∷ b ∷ c ∷ d ∷ e ∷ f ∷ g ∷ h ∷ [])) ≡ ((((((a * 65536 + b) * 65536 + c) * 65536 + d) * 65536 + e) * 65536 + f) * 65536 + g) * 65536 + h
number_of_groups a b c d e f g h = omega arith

-- a group behind the number of those before it
group_more : (address unit : ℕ) → address / (unit * 65536) * 65536 + address / unit % 65536 ≡ address / unit
group_more address unit = rw (← div-div-eq-div-mul address unit 65536) (omega arith)

-- an address
module _ (address : ℕ) (below : address < 2 ^ 128) where
  groups_below : AllByRecursion (λ n. n < 2 ^ 16) (groups_of address)
  groups_below = (omega arith, (omega arith, (omega arith, (omega arith, (omega arith, (omega arith, (omega arith, (omega arith, tt))))))))

  whole : from_be_bytes w128 (octets_of (groups_of address)) ≡ address
  whole =
      let a = group_more address (2 ^ 96) in
      let b = group_more address (2 ^ 80) in
      let c = group_more address (2 ^ 64) in
      let d = group_more address (2 ^ 48) in
      let e = group_more address (2 ^ 32) in
      let f = group_more address (2 ^ 16) in
      number_of_groups (address / 2 ^ 112) (address / 2 ^ 96 % 2 ^ 16) (address / 2 ^ 80 % 2 ^ 16) (address / 2 ^ 64 % 2 ^ 16) (address / 2 ^ 48 % 2 ^ 16) (address / 2 ^ 32 % 2 ^ 16) (address / 2 ^ 16 % 2 ^ 16) (address % 2 ^ 16)
      ∙ rw (a, b, c, d, e, f) (omega arith)

  -- the text of an address is read as that address
  pub wide_address_back : wide_address_of (wide_address_text address) ≡ Some address
  unfolding ipv6_bits
  wide_address_back =
      address_read (wide_address_text address) (record { segments = groups_of address }) (inl (IsGroups-text (address / 2 ^ 112) (drop 1 (groups_of address)) groups_below.0 groups_below.1, refl)) ∙ ap Some whole

  -- it is one word
  pub Writes-wide_address : Writes (wide_address_text address) (record { quoted = false; text = wide_address_text address })
  Writes-wide_address = Writes-groups (address / 2 ^ 112) (drop 1 (groups_of address)) groups_below.0 groups_below.1
