-- A loop over the pairs of a reply's answers counts the code of one after the other.
use Rattle.std.proofs.Common.{◌≡◌, ◌≢◌, ℕ, ◌+◌, ◌<◌, ◌≤◌, List, [], ◌∷◌, length, true, false, ◌==◌, get_or, drop, sym, ◌∙◌, arith}
use Rattle.std.proofs.Math.ListN.{drop_of_length-le}
use Rattle.std.proofs.lemmas.List.{drop_more}
use Rattle.std.proofs.lemmas.Bool.Decides.{eqb_tells}
use Rattle.dns_counts.specs.Counting.{grown, seen_or_unknown}
use Rattle.dns_counts.specs.Counters.{types_in, classes_in, classed}
use Rattle.dns_counts.proofs.Counted.{counted-more, counted-none}

pub type-first : (pairs : List (ℕ × ℕ)) (i : ℕ) (d : ℕ × ℕ) → i < length pairs
    → types_in (drop i pairs) ≡ (get_or pairs i d).0 ∷ types_in (drop (i + 1) pairs)
type-first pairs i d within = rw (drop_more pairs i d within)

pub eqb-same : (a b : ℕ) → a ≡ b → (a == b) ≡ true
eqb-same a b same = grind (arith, eqb_tells a b)

pub eqb-other : (a b : ℕ) → a ≢ b → (a == b) ≡ false
eqb-other a b other = grind (arith, eqb_tells a b)

pub class-first : (pairs : List (ℕ × ℕ)) (i : ℕ) (d : ℕ × ℕ) → i < length pairs → (get_or pairs i d).0 ≢ 41
    → classes_in (classed (drop i pairs)) ≡ (get_or pairs i d).1 ∷ classes_in (classed (drop (i + 1) pairs))
class-first pairs i d within other = rw (drop_more pairs i d within, eqb-other _ _ other)

-- one code is counted, and others stay to be counted
pub counted-next : (codes before after whole others : List ℕ) (s : ℕ) (front : List ℕ) → front ≡ s ∷ others
    → after ≡ grown before (seen_or_unknown codes (s ∷ []))
    → grown before (seen_or_unknown codes front) ≡ whole → grown after (seen_or_unknown codes others) ≡ whole
counted-next codes before after whole others s front first counted all =
    rw counted (counted-more codes before others s ∙ (rw first at all))

-- none stays to be counted
pub types-end : (codes counts whole : List ℕ) (pairs : List (ℕ × ℕ)) (i : ℕ) → length pairs ≤ i
    → grown counts (seen_or_unknown codes (types_in (drop i pairs))) ≡ whole → counts ≡ whole
types-end codes counts whole pairs i past all = sym (counted-none codes counts) ∙ (rw (drop_of_length-le pairs past) at all)

pub classes-end : (codes counts whole : List ℕ) (pairs : List (ℕ × ℕ)) (i : ℕ) → length pairs ≤ i
    → grown counts (seen_or_unknown codes (classes_in (classed (drop i pairs)))) ≡ whole → counts ≡ whole
classes-end codes counts whole pairs i past all = sym (counted-none codes counts) ∙ (rw (drop_of_length-le pairs past) at all)
