-- A code that is seen several times raises one count by that number.
use Rattle.std.proofs.Common.{◌≡◌, ℕ, zero, suc, ◌<◌, List, [], ◌∷◌, length, false, true, ◌==◌, get_or, set, replicate, refl, sym, ◌∙◌, ap, arith, set-set, get_or-set_same, length-set, Option, Some, None}
use Rattle.std.specs.Prelude.{unwrap_or}
use Rattle.std.specs.List.{position_from}
use Rattle.std.proofs.lemmas.List.{set-get_or}
use Rattle.dns_counts.specs.Counting.{raised, grown, seen_or_unknown, are_distinct}
use Rattle.dns_counts.specs.Counters.{types_in, classes_in, classed}
use Rattle.dns_counts.proofs.Counted.{counted-more, counted-none, counted-place, counted-nowhere}
use Rattle.dns_counts.proofs.Following.{eqb-same}

no-more : (counts : List ℕ) (at : ℕ) → set counts at (raised (get_or counts at 0) 0) ≡ counts
no-more counts at =
    let same : raised (get_or counts at 0) 0 ≡ get_or counts at 0 = omega arith in
    rw same (set-get_or counts at 0)

-- raised by one and then by a number
one-more : (counts : List ℕ) (at k : ℕ) → at < length counts
    → set (set counts at (raised (get_or counts at 0) 1)) at (raised (get_or (set counts at (raised (get_or counts at 0) 1)) at 0) k)
    ≡ set counts at (raised (get_or counts at 0) (suc k))
one-more counts at k within =
    let read : get_or (set counts at (raised (get_or counts at 0) 1)) at 0 ≡ raised (get_or counts at 0) 1 = get_or-set_same counts at (raised (get_or counts at 0) 1) 0 within in
    let both : raised (raised (get_or counts at 0) 1) k ≡ raised (get_or counts at 0) (suc k) = omega arith in
    rw (read, both) (set-set counts at _ _)

pub counted-run : (s k at : ℕ) (codes counts : List ℕ) → at < length counts
    → ((ns : List ℕ) → set ns at (raised (get_or ns at 0) 1) ≡ grown ns (seen_or_unknown codes (s ∷ [])))
    → set counts at (raised (get_or counts at 0) k) ≡ grown counts (seen_or_unknown codes (replicate k s))
counted-run s zero at codes counts within one = no-more counts at ∙ sym (counted-none codes counts)
counted-run s (suc k) at codes counts within one =
    let once : List ℕ = set counts at (raised (get_or counts at 0) 1) in
    let ih : set once at (raised (get_or once at 0) k) ≡ grown once (seen_or_unknown codes (replicate k s)) =
    counted-run s k at codes once (rw (length-set counts at (raised (get_or counts at 0) 1)) within) one in
    sym (one-more counts at k within) ∙ ih ∙ ap (λ ns. grown ns (seen_or_unknown codes (replicate k s))) (one counts)
    ∙ counted-more codes counts (replicate k s) s

-- the types of a run
pub types-run : (k : ℕ) (pair : ℕ × ℕ) → types_in (replicate k pair) ≡ replicate k pair.0
types-run zero pair = refl
types-run (suc k) pair = ap (λ rest. pair.0 ∷ rest) (types-run k pair)

-- the classes of a run, where they are none of OPT
pub classes-run : (k : ℕ) (pair : ℕ × ℕ) → (pair.0 == 41) ≡ false → classes_in (classed (replicate k pair)) ≡ replicate k pair.1
classes-run zero pair other = refl
classes-run (suc k) pair other = let ih = classes-run k pair other in rw other (ap (λ rest. pair.1 ∷ rest) ih)

-- those of OPT
pub classes-none : (k : ℕ) (pair : ℕ × ℕ) → (pair.0 == 41) ≡ true → classes_in (classed (replicate k pair)) ≡ []
classes-none zero pair same = refl
classes-none (suc k) pair same = let ih = classes-none k pair same in rw same ih

-- counted once at the place of a code, or at the last
pub counted-there : (s : ℕ) (codes counts : List ℕ) (place : Option ℕ) → position_from (λ one. s == one) 0 codes ≡ place → are_distinct codes ≡ true
    → set counts (unwrap_or place (length codes)) (raised (get_or counts (unwrap_or place (length codes)) 0) 1) ≡ grown counts (seen_or_unknown codes (s ∷ []))
counted-there s codes counts (Some at) found distinct = counted-place s codes counts at found distinct
counted-there s codes counts None absent distinct = counted-nowhere s codes counts absent distinct

-- the first code is found at once
pub first-place : (s d : ℕ) (codes : List ℕ) → 0 < length codes → s ≡ get_or codes 0 d → position_from (λ one. s == one) 0 codes ≡ Some 0
first-place s d [] some same = absurd (omega arith)
first-place s d (c ∷ cs) some same = let e : (s == c) ≡ true = eqb-same s c same in rw e refl
