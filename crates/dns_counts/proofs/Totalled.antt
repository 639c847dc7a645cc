-- Replies one after the other raise each count by their sum.
use Rattle.std.proofs.Common.{◌≡◌, ℕ, List, [], ◌∷◌, refl, sym, ◌∙◌, ap, add_comm}
use Rattle.dns_counts.specs.declared.asked.Asked.{Asked}
use Rattle.dns_counts.specs.declared.asked.Replied.{Replied}
use Rattle.dns_counts.specs.Counting.{grown}
use Rattle.dns_counts.specs.Counters.{Counter, each, counters, recorded}
use Rattle.dns_counts.specs.Totals.{together, total_growth, recorded_all}
use Rattle.dns_counts.proofs.Counted.{raised-raised, grown-nil}

grown-together : (counts more others : List ℕ) → grown (grown counts more) others ≡ grown counts (together more others)
grown-together [] more others = refl
grown-together (n ∷ ns) [] others = refl
grown-together (n ∷ ns) (m ∷ ms) [] = refl
grown-together (n ∷ ns) (m ∷ ms) (k ∷ ks) =
    let twice = raised-raised n m k in
    let rest = grown-together ns ms ks in cc

together-comm : (more others : List ℕ) → together more others ≡ together others more
together-comm [] [] = refl
together-comm [] (k ∷ ks) = refl
together-comm (m ∷ ms) [] = refl
together-comm (m ∷ ms) (k ∷ ks) = let sum = add_comm m k in let rest = together-comm ms ks in cc

-- a step that changes nothing
each-same : (step : Counter → List ℕ → List ℕ) (cs : List Counter) (all : List (List ℕ)) → ((c : Counter) (ns : List ℕ) → step c ns ≡ ns) → each step cs all ≡ all
each-same step [] all same = refl
each-same step (c ∷ cs) [] same = refl
each-same step (c ∷ cs) (ns ∷ all) same = let first = same c ns in let rest = each-same step cs all same in cc

-- two steps, one after the other, are one that does both
each-each : (first then both : Counter → List ℕ → List ℕ) (cs : List Counter) (all : List (List ℕ))
    → ((c : Counter) (ns : List ℕ) → then c (first c ns) ≡ both c ns) → each then cs (each first cs all) ≡ each both cs all
each-each first then both [] all same = refl
each-each first then both (c ∷ cs) [] same = refl
each-each first then both (c ∷ cs) (ns ∷ all) same = let one = same c ns in let rest = each-each first then both cs all same in cc

recorded-total : (cs : List Counter) (replies : List (Asked × Replied)) (before : List (List ℕ))
    → (one : Asked × Replied)
    → each (λ c ns. grown ns (total_growth c replies)) cs (each (λ c ns. grown ns (c.growth one.0 one.1)) cs before)
    ≡ each (λ c ns. grown ns (total_growth c (one ∷ replies))) cs before
recorded-total cs replies before one =
    each-each (λ c ns. grown ns (c.growth one.0 one.1)) (λ c ns. grown ns (total_growth c replies)) (λ c ns. grown ns (total_growth c (one ∷ replies))) cs before
    (λ c ns. grown-together ns (c.growth one.0 one.1) (total_growth c replies))

pub recorded_all-total : (replies : List (Asked × Replied)) (before : List (List ℕ))
    → recorded_all replies before ≡ each (λ c ns. grown ns (total_growth c replies)) counters before
recorded_all-total [] before = sym (each-same (λ c ns. grown ns []) counters before (λ c ns. grown-nil ns))
recorded_all-total (one ∷ others) before = recorded_all-total others (recorded one.0 one.1 before) ∙ recorded-total counters others before one

-- the order of two replies
pub recorded-recorded : (a c : Asked) (b d : Replied) (before : List (List ℕ)) → recorded c d (recorded a b before) ≡ recorded a b (recorded c d before)
recorded-recorded a c b d before =
    each-each (λ k ns. grown ns (k.growth a b)) (λ k ns. grown ns (k.growth c d)) (λ k ns. grown ns (together (k.growth a b) (k.growth c d))) counters before
    (λ k ns. grown-together ns (k.growth a b) (k.growth c d))
    ∙ sym (each-each (λ k ns. grown ns (k.growth c d)) (λ k ns. grown ns (k.growth a b)) (λ k ns. grown ns (together (k.growth a b) (k.growth c d))) counters before
    (λ k ns. grown-together ns (k.growth c d) (k.growth a b) ∙ ap (λ more. grown ns more) (together-comm (k.growth c d) (k.growth a b))))
