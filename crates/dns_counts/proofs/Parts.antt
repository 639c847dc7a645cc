-- The types and classes of the first records of parts, counted part by part.
use Rattle.std.proofs.Common.{◌≡◌, ℕ, zero, suc, ◌+◌, ◌-◌, ◌<◌, ◌≤◌, List, [], ◌∷◌, ◌++◌, length, get_or, map, take, drop, min, replicate, not, refl, ◌==◌, sym, ap, ◌∙◌, arith}
use Rattle.std.proofs.Math.ListN.{drop_of_length-le}
use Rattle.std.proofs.Math.Seq.{take-length}
use Rattle.std.proofs.lemmas.List.{take-map, map-append, take_min, drop_more}
use Rattle.std.proofs.lemmas.List.Elements.{filter-append}
use Rattle.dns_wire.specs.declared.record.Record.{Record}
use Rattle.dns_wire.specs.Given.{in_parts, kinds}
use Rattle.dns_wire.proofs.Fitting.{take_both}
use Rattle.dns_counts.specs.Counting.{grown, seen_or_unknown}
use Rattle.dns_counts.specs.Counters.{types_in, classes_in, classed}
use Rattle.dns_counts.proofs.Counted.{counted-more, counted-none}
use Rattle.dns_counts.proofs.Runs.{types-run}

-- those of the first records are those of what is kept
kinds-kept : (count : ℕ) (kept part : List Record) → kinds kept ≡ kinds part → kinds (take count kept) ≡ kinds (take count part)
kinds-kept count kept part same =
    sym (take-map (λ (r : Record). (r.rtype, r.class)) count kept) ∙ ap (take count) same ∙ take-map (λ (r : Record). (r.rtype, r.class)) count part

taken : (parts : List (List Record)) (i left : ℕ) (part : List Record) → i < length parts → part ≡ get_or parts i part
    → take left (in_parts (drop i parts)) ≡ take left part ++ take (left - length part) (in_parts (drop (suc i) parts))
taken [] i left part h is = absurd (omega (arith, h))
taken (p ∷ ps) zero left part h is = ap (λ (x : List Record). take left (x ++ in_parts ps)) (sym is) ∙ take_both left part (in_parts ps)
taken (p ∷ ps) (suc i) left part h is = taken ps i left part (omega (arith, h)) is

-- part by part
pub kinds-next : (parts : List (List Record)) (i left : ℕ) (part kept : List Record) → i < length parts → part ≡ get_or parts i part → kinds kept ≡ kinds part
    → kinds (take left (in_parts (drop i parts))) ≡ kinds (take left kept) ++ kinds (take (left - length part) (in_parts (drop (i + 1) parts)))
kinds-next parts i left part kept h is same =
    let k : Record → ℕ × ℕ = λ r. (r.rtype, r.class) in
    let next : suc i ≡ i + 1 = omega arith in
    ap (map k) (taken parts i left part h is) ∙ map-append k (take left part) (take (left - length part) (in_parts (drop (suc i) parts)))
    ∙ ap (λ (x : List (ℕ × ℕ)). x ++ kinds (take (left - length part) (in_parts (drop (suc i) parts)))) (sym (kinds-kept left kept part same))
    ∙ ap (λ (n : ℕ). kinds (take left kept) ++ kinds (take (left - length part) (in_parts (drop n parts)))) next

-- codes that are counted, and then others
pub counted-append : (codes counts first others : List ℕ)
    → grown (grown counts (seen_or_unknown codes first)) (seen_or_unknown codes others) ≡ grown counts (seen_or_unknown codes (first ++ others))
counted-append codes counts [] others = ap (λ (ns : List ℕ). grown ns (seen_or_unknown codes others)) (counted-none codes counts)
counted-append codes counts (s ∷ first) others =
    let once : List ℕ = grown counts (seen_or_unknown codes (s ∷ [])) in
    ap (λ (ns : List ℕ). grown ns (seen_or_unknown codes others)) (sym (counted-more codes counts first s))
    ∙ counted-append codes once first others
    ∙ counted-more codes counts (first ++ others) s

types-append : (first others : List (ℕ × ℕ)) → types_in (first ++ others) ≡ types_in first ++ types_in others
types-append first others = map-append (λ (one : ℕ × ℕ). one.0) first others

classes-append : (first others : List (ℕ × ℕ)) → classes_in (classed (first ++ others)) ≡ classes_in (classed first) ++ classes_in (classed others)
classes-append first others =
    ap classes_in (filter-append (λ (one : ℕ × ℕ). not (one.0 == 41)) first others)
    ∙ map-append (λ (one : ℕ × ℕ). one.1) (classed first) (classed others)

-- the types of a front were counted, and others stay to be counted
pub types-next : (codes before after whole : List ℕ) (all first others : List (ℕ × ℕ)) → all ≡ first ++ others
    → after ≡ grown before (seen_or_unknown codes (types_in first))
    → grown before (seen_or_unknown codes (types_in all)) ≡ whole → grown after (seen_or_unknown codes (types_in others)) ≡ whole
types-next codes before after whole all first others is counted done =
    ap (λ (ns : List ℕ). grown ns (seen_or_unknown codes (types_in others))) counted
    ∙ counted-append codes before (types_in first) (types_in others)
    ∙ ap (λ (ts : List ℕ). grown before (seen_or_unknown codes ts)) (sym (types-append first others))
    ∙ ap (λ (ps : List (ℕ × ℕ)). grown before (seen_or_unknown codes (types_in ps))) (sym is)
    ∙ done

-- so were the classes
pub classes-next : (codes before after whole : List ℕ) (all first others : List (ℕ × ℕ)) → all ≡ first ++ others
    → after ≡ grown before (seen_or_unknown codes (classes_in (classed first)))
    → grown before (seen_or_unknown codes (classes_in (classed all))) ≡ whole → grown after (seen_or_unknown codes (classes_in (classed others))) ≡ whole
classes-next codes before after whole all first others is counted done =
    ap (λ (ns : List ℕ). grown ns (seen_or_unknown codes (classes_in (classed others)))) counted
    ∙ counted-append codes before (classes_in (classed first)) (classes_in (classed others))
    ∙ ap (λ (cs : List ℕ). grown before (seen_or_unknown codes cs)) (sym (classes-append first others))
    ∙ ap (λ (ps : List (ℕ × ℕ)). grown before (seen_or_unknown codes (classes_in (classed ps)))) (sym is)
    ∙ done

-- no part stays
pub parts-end : (parts : List (List Record)) (i left : ℕ) → length parts ≤ i → kinds (take left (in_parts (drop i parts))) ≡ []
parts-end parts i zero past = refl
parts-end parts i (suc left) past = ap (λ (ps : List (List Record)). kinds (take (suc left) (in_parts ps))) (drop_of_length-le parts past)

-- none stays to be counted
pub types-none : (codes counts whole : List ℕ) (left : List (ℕ × ℕ)) → left ≡ [] → grown counts (seen_or_unknown codes (types_in left)) ≡ whole → counts ≡ whole
types-none codes counts whole left none all =
    sym (counted-none codes counts) ∙ ap (λ (ps : List (ℕ × ℕ)). grown counts (seen_or_unknown codes (types_in ps))) (sym none) ∙ all

pub classes-none : (codes counts whole : List ℕ) (left : List (ℕ × ℕ)) → left ≡ [] → grown counts (seen_or_unknown codes (classes_in (classed left))) ≡ whole → counts ≡ whole
classes-none codes counts whole left none all =
    sym (counted-none codes counts) ∙ ap (λ (ps : List (ℕ × ℕ)). grown counts (seen_or_unknown codes (classes_in (classed ps)))) (sym none) ∙ all

-- one record, and those behind it
pub kinds-first : (records : List Record) (i : ℕ) (one : Record) → i < length records → one ≡ get_or records i one
    → kinds (drop i records) ≡ ((one.rtype, one.class) ∷ []) ++ kinds (drop (i + 1) records)
kinds-first records i one within is =
    ap kinds (drop_more records i one within) ∙ ap (λ (r : Record). (r.rtype, r.class) ∷ kinds (drop (i + 1) records)) (sym is)

pub kinds-past : (records : List Record) (i : ℕ) → length records ≤ i → kinds (drop i records) ≡ []
kinds-past records i past = ap kinds (drop_of_length-le records past)

pub kinds-empty : (records : List Record) → length records < 1 → kinds records ≡ []
kinds-empty [] few = refl
kinds-empty (r ∷ rs) few = absurd (omega (arith, few))

-- the types of records of one type and class
pub types-of-run : (records : List Record) (rtype class : ℕ) → kinds records ≡ replicate (length records) (rtype, class) → types_in (kinds records) ≡ replicate (length records) rtype
types-of-run records rtype class same = ap types_in same ∙ types-run (length records) (rtype, class)

-- records of one type and class, by the first and those behind it
pub kinds-rest : (records : List Record) (one : Record) → 1 ≤ length records → one ≡ get_or records 0 one
    → kinds (take (length records - 1) (drop 1 records)) ≡ replicate (length (take (length records - 1) (drop 1 records))) (one.rtype, one.class)
    → kinds records ≡ replicate (length records) (one.rtype, one.class)
kinds-rest [] one some is same = absurd (omega (arith, some))
kinds-rest (r ∷ rs) one some is same =
    let less : length (r ∷ rs) - 1 ≡ length rs = omega arith in
    let all : take (length (r ∷ rs) - 1) rs ≡ rs = ap (λ (n : ℕ). take n rs) less ∙ take-length rs in
    let others : kinds rs ≡ replicate (length rs) (one.rtype, one.class) =
    ap kinds (sym all) ∙ same ∙ ap (λ (x : List Record). replicate (length x) (one.rtype, one.class)) all
    in
    ap (λ (x : Record). (x.rtype, x.class) ∷ kinds rs) (sym is) ∙ ap (λ (x : List (ℕ × ℕ)). (one.rtype, one.class) ∷ x) others

-- a front that is no longer than what is kept
pub kinds-front : (kept front : List Record) (left most : ℕ) → front ≡ take most kept → most ≡ min (length kept) left → kinds front ≡ kinds (take left kept)
kinds-front kept front left most is least =
    let swap : most ≡ min left (length kept) = omega (arith, least) in
    ap kinds (is ∙ ap (λ (n : ℕ). take n kept) swap ∙ take_min left kept)
