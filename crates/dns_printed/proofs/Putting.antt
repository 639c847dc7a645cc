-- Texts that are put at the end of a buffer one behind another.
use Rattle.std.proofs.Common.{◌≡◌, ℕ, zero, suc, ◌+◌, ◌-◌, ◌/◌, ◌%◌, ◌<◌, ◌≤◌, List, [], ◌∷◌, ◌++◌, length, take, drop, get_or, slice_index, add-one, add-zero, zero-add, drop-cons, arith, refl, sym, ap, subst, ◌∙◌, append_assoc, Result, Ok, Err, IsErr}
use Rattle.std.specs.Char.{digit_char}
use Rattle.std.specs.List.{flat_map}
use Rattle.std.specs.Net.Text.{dotted_text, leading_zero_digits, hex, groups_text}
use Rattle.std.specs.Fmt.{decimal}
use Rattle.std.proofs.lemmas.List.{append-nil}
use Rattle.std.proofs.lemmas.List.Concat.{flat_map-append}
use Rattle.std.proofs.Math.Seq.{take-length}
use Rattle.hex.specs.Hex.{lower_digits, encode_with, encode_lower}
use Rattle.dns_io.specs.declared.fault.OutOfMemory.{OutOfMemory}
use Rattle.dns_printed.specs.Appending.{IsPutUpTo, IsCutShort, Puts}
use Rattle.dns_printed.specs.Printed.{spaced}

-- what holds where memory ran out holds of the answer that says so
pub stopped : (a b text : List ℕ) (result : Result (Unit {0}) OutOfMemory) → IsErr result → IsCutShort a b text → Puts a b text result
stopped a b text (Ok done) failed cut = absurd cc
stopped a b text (Err fault) failed cut = cut

-- memory ran out before another text
more : (a b xs ys : List ℕ) → IsCutShort a b xs → IsCutShort a b (xs ++ ys)
more a b xs ys cut = (cut.0 ++ ys, record { front = cut.1.front; parts = ap (λ (l : List ℕ). l ++ ys) cut.1.parts ∙ append_assoc cut.1.front cut.0 ys; is = cut.1.is })

pub first_stopped : (a b xs ys : List ℕ) (result : Result (Unit {0}) OutOfMemory) → IsErr result → IsCutShort a b xs → Puts a b (xs ++ ys) result
first_stopped a b xs ys result failed cut = stopped a b (xs ++ ys) result failed (more a b xs ys cut)

-- a text behind another
pub behind : (a b c xs ys : List ℕ) (result : Result (Unit {0}) OutOfMemory) → b ≡ a ++ xs → Puts b c ys result → Puts a c (xs ++ ys) result
behind a b c xs ys (Ok done) p q = q ∙ ap (λ (l : List ℕ). l ++ ys) p ∙ append_assoc a xs ys
behind a b c xs ys (Err fault) p q = (
  q.0,
  record {
    front = xs ++ q.1.front;
    parts = ap (λ (l : List ℕ). xs ++ l) q.1.parts ∙ sym (append_assoc xs q.1.front q.0);
    is = q.1.is ∙ ap (λ (l : List ℕ). l ++ q.1.front) p ∙ append_assoc a xs q.1.front;
  },
)

-- the same text, written otherwise
pub same_text : (a b xs ys : List ℕ) (result : Result (Unit {0}) OutOfMemory) → xs ≡ ys → Puts a b xs result → Puts a b ys result
same_text a b xs ys result e p = subst (λ (t : List ℕ). Puts a b t result) e p

-- a word behind its space
pub word : (a b c w : List ℕ) (result : Result (Unit {0}) OutOfMemory) → b ≡ a ++ 32 ∷ [] → Puts b c w result → Puts a c (spaced (w ∷ [])) result
word a b c w result p q = behind a b c (32 ∷ []) (w ++ []) result p (same_text b c w (w ++ []) result (sym (append-nil w)) q)

pub word_stopped : (a b w : List ℕ) (result : Result (Unit {0}) OutOfMemory) → IsErr result → IsCutShort a b (32 ∷ []) → Puts a b (spaced (w ∷ [])) result
word_stopped a b w result failed cut = first_stopped a b (32 ∷ []) (w ++ []) result failed cut

-- words behind words
spaced-append : (xs ys : List (List ℕ)) → spaced xs ++ spaced ys ≡ spaced (xs ++ ys)
spaced-append xs ys = sym (flat_map-append (λ (w : List ℕ). 32 ∷ w) xs ys)

pub words : (a b c : List ℕ) (xs ys : List (List ℕ)) (result : Result (Unit {0}) OutOfMemory) → b ≡ a ++ spaced xs → Puts b c (spaced ys) result → Puts a c (spaced (xs ++ ys)) result
words a b c xs ys result p q = same_text a c (spaced xs ++ spaced ys) (spaced (xs ++ ys)) result (spaced-append xs ys) (behind a b c (spaced xs) (spaced ys) result p q)

pub words_stopped : (a b : List ℕ) (xs ys : List (List ℕ)) (result : Result (Unit {0}) OutOfMemory) → IsErr result → IsCutShort a b (spaced xs) → Puts a b (spaced (xs ++ ys)) result
words_stopped a b xs ys result failed cut =
    same_text a b (spaced xs ++ spaced ys) (spaced (xs ++ ys)) result (spaced-append xs ys) (first_stopped a b (spaced xs) (spaced ys) result failed cut)

-- a text of which a part was put before
pub went_on : (a b c text xs rest : List ℕ) → IsPutUpTo a b text (xs ++ rest) → c ≡ b ++ xs → IsPutUpTo a c text rest
went_on a b c text xs rest p e = record {
  front = p.front ++ xs;
  parts = p.parts ∙ sym (append_assoc p.front xs rest);
  is = e ∙ ap (λ (l : List ℕ). l ++ xs) p.is ∙ append_assoc a p.front xs;
}

pub part_stopped : (a b c text xs rest : List ℕ) (result : Result (Unit {0}) OutOfMemory) → IsPutUpTo a b text (xs ++ rest) → IsErr result → IsCutShort b c xs → Puts a c text result
part_stopped a b c text xs rest result p failed q = stopped a c text result failed (
  q.0 ++ rest,
  record {
    front = p.front ++ q.1.front;
    parts =
        p.parts ∙ ap (λ (l : List ℕ). p.front ++ (l ++ rest)) q.1.parts ∙ ap (λ (l : List ℕ). p.front ++ l) (append_assoc q.1.front q.0 rest)
        ∙ sym (append_assoc p.front q.1.front (q.0 ++ rest));
    is = q.1.is ∙ ap (λ (l : List ℕ). l ++ q.1.front) p.is ∙ append_assoc a p.front q.1.front;
  },
)

pub ended : (a b text rest : List ℕ) → rest ≡ [] → IsPutUpTo a b text rest → b ≡ a ++ text
ended a b text rest none p =
    let all : text ≡ p.front = p.parts ∙ ap (λ (l : List ℕ). p.front ++ l) none ∙ append-nil p.front in
    p.is ∙ ap (λ (l : List ℕ). a ++ l) (sym all)

-- the text of each number of a list
pub one_stopped : (f : ℕ → List ℕ) (a b c text xs : List ℕ) (i : ℕ) (result : Result (Unit {0}) OutOfMemory) → i < length xs → IsPutUpTo a b text (flat_map f (drop i xs)) → IsErr result → IsCutShort b c (f (get_or xs i 0)) → Puts a c text result
one_stopped f a b c text xs i result within before failed cut =
    let next : drop i xs ≡ get_or xs i 0 ∷ drop (i + 1) xs = rw (add-one) (drop-cons xs i 0 within) in
    part_stopped a b c text (f (get_or xs i 0)) (flat_map f (drop (i + 1) xs)) result (subst (λ (l : List ℕ). IsPutUpTo a b text (flat_map f l)) next before) failed cut

-- hex digits
abbrev AreDigitsFrom : ℕ → List ℕ → Type 0
AreDigitsFrom k [] = Unit {0}
AreDigitsFrom k (digit ∷ digits) = (digit ≡ digit_char k) × AreDigitsFrom (suc k) digits

digit_from : (k : ℕ) (digits : List ℕ) → AreDigitsFrom k digits → (place : ℕ) → place < length digits → slice_index digits place ≡ digit_char (k + place)
digit_from k [] are place within = absurd (omega arith)
digit_from k (digit ∷ digits) are zero within = are.0 ∙ ap digit_char (sym (add-zero k))
digit_from k (digit ∷ digits) are (suc place) within =
    let next : suc k + place ≡ k + suc place = omega arith in
    digit_from (suc k) digits are.1 place (omega arith) ∙ ap digit_char next

digit_at : (number : ℕ) → number < 16 → slice_index lower_digits number ≡ digit_char number
digit_at number below =
    digit_from 0 lower_digits
    (refl, (refl, (refl, (refl, (refl, (refl, (refl, (refl, (refl, (refl, (refl, (refl, (refl, (refl, (refl, (refl, tt)))))))))))))))) number (omega arith)
    ∙ ap digit_char (zero-add number)

pub hex_byte : (byte : ℕ) → byte < 256 → digit_char (byte / 16) ∷ digit_char (byte % 16) ∷ [] ≡ encode_lower (byte ∷ [])
unfolding encode_with
hex_byte byte below =
    let high : digit_char (byte / 16) ≡ slice_index lower_digits (byte / 16) = sym (digit_at (byte / 16) (omega arith)) in
    let low : digit_char (byte % 16) ≡ slice_index lower_digits (byte % 16) = sym (digit_at (byte % 16) (omega arith)) in
    ap (λ (d : ℕ). d ∷ digit_char (byte % 16) ∷ []) high ∙ ap (λ (d : ℕ). slice_index lower_digits (byte / 16) ∷ d ∷ []) low

pub hex_bytes : (bytes : List ℕ) → flat_map (λ byte. encode_lower (byte ∷ [])) bytes ≡ encode_lower bytes
unfolding encode_with
hex_bytes [] = refl
hex_bytes (byte ∷ bytes) = ap (λ (l : List ℕ). slice_index lower_digits (byte / 16) ∷ slice_index lower_digits (byte % 16) ∷ l) (hex_bytes bytes)

pub hex_group : (group dropped : ℕ) (digits shown : List ℕ) → digits ≡ digit_char (group / 4096) ∷ digit_char (group / 256 % 16) ∷ digit_char (group / 16 % 16) ∷ digit_char (group % 16) ∷ []
    → dropped ≡ leading_zero_digits group → shown ≡ drop dropped digits → shown ≡ hex group
unfolding hex
hex_group group dropped digits shown are many is = is ∙ ap (λ (k : ℕ). drop k digits) many ∙ ap (drop (leading_zero_digits group)) are

-- four numbers, each but the last before a dot
pub dotted_is : (a b c d : ℕ) → (decimal a ++ 46 ∷ []) ++ ((decimal b ++ 46 ∷ []) ++ ((decimal c ++ 46 ∷ []) ++ decimal d)) ≡ dotted_text a b c d
dotted_is a b c d = simp append_assoc refl

-- the first group, and those behind it
pub groups_are : (groups : List ℕ) → 1 ≤ length groups → hex (get_or groups 0 0) ++ flat_map (λ group. 58 ∷ hex group) (take (length groups - 1) (drop 1 groups)) ≡ groups_text groups
groups_are [] some = absurd (omega (arith, some))
groups_are (group ∷ groups) some =
    let size : suc (length groups) - 1 ≡ length groups = omega arith in
    ap (λ (l : List ℕ). hex group ++ flat_map (λ g. 58 ∷ hex g) l) (ap (λ (n : ℕ). take n groups) size ∙ take-length groups)
