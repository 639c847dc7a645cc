-- Counts that are raised at places known beforehand.
use Rattle.std.proofs.Common.{◌≡◌, ℕ, zero, suc, List, [], ◌∷◌, ◌++◌, get_or, set, replicate, refl, sym, ap, ◌∙◌, arith}
use Rattle.std.proofs.lemmas.List.{set-get_or}
use Rattle.dns_counts.specs.Counting.{raised, grown}
use Rattle.dns_counts.proofs.Counted.{grown-nil}

-- the counts with one raised by a number
abbrev pub raised_in : List ℕ → ℕ → ℕ → List ℕ
raised_in counts at more = set counts at (raised (get_or counts at 0) more)

raised-none : (n : ℕ) → raised n 0 ≡ n
raised-none n = omega arith

grown-zeros : (j : ℕ) (counts : List ℕ) → grown counts (replicate j 0) ≡ counts
grown-zeros zero counts = grown-nil counts
grown-zeros (suc j) [] = refl
grown-zeros (suc j) (n ∷ ns) = let none = raised-none n in let ih = grown-zeros j ns in cc

-- one count, with zeros around its number
pub raised-among : (i j k : ℕ) (counts : List ℕ) → raised_in counts i k ≡ grown counts (replicate i 0 ++ k ∷ replicate j 0)
raised-among i j k [] = refl
raised-among zero j k (n ∷ ns) = ap (λ rest. raised n k ∷ rest) (sym (grown-zeros j ns))
raised-among (suc i) j k (n ∷ ns) = let none = raised-none n in let ih = raised-among i j k ns in cc

-- six counts, one after the other
pub raised-six : (counts : List ℕ) (a b c d e f : ℕ)
    → raised_in (raised_in (raised_in (raised_in (raised_in (raised_in counts 0 a) 1 b) 2 c) 3 d) 4 e) 5 f
    ≡ grown counts (a ∷ b ∷ c ∷ d ∷ e ∷ f ∷ [])
raised-six [] a b c d e f = refl
raised-six (u ∷ []) a b c d e f = refl
raised-six (u ∷ v ∷ []) a b c d e f = refl
raised-six (u ∷ v ∷ w ∷ []) a b c d e f = refl
raised-six (u ∷ v ∷ w ∷ x ∷ []) a b c d e f = refl
raised-six (u ∷ v ∷ w ∷ x ∷ y ∷ []) a b c d e f = refl
raised-six (u ∷ v ∷ w ∷ x ∷ y ∷ z ∷ rest) a b c d e f =
    ap (λ ns. raised u a ∷ raised v b ∷ raised w c ∷ raised x d ∷ raised y e ∷ raised z f ∷ ns) (sym (grown-nil rest))

-- nothing that is raised
pub raised-nothing : (counts : List ℕ) (at : ℕ) → raised_in counts at 0 ≡ counts
raised-nothing counts at = let same : raised (get_or counts at 0) 0 ≡ get_or counts at 0 = raised-none _ in rw same (set-get_or counts at 0)

-- two counts, and then the others of six
pub raised-others : (counts : List ℕ) (a b c d e f : ℕ)
    → grown (raised_in (raised_in counts 0 a) 4 e) (0 ∷ b ∷ c ∷ d ∷ 0 ∷ f ∷ []) ≡ grown counts (a ∷ b ∷ c ∷ d ∷ e ∷ f ∷ [])
raised-others [] a b c d e f = refl
raised-others (u ∷ []) a b c d e f = ap (λ n. n ∷ []) (raised-none (raised u a))
raised-others (u ∷ v ∷ []) a b c d e f = ap (λ n. n ∷ raised v b ∷ []) (raised-none (raised u a))
raised-others (u ∷ v ∷ w ∷ []) a b c d e f = ap (λ n. n ∷ raised v b ∷ raised w c ∷ []) (raised-none (raised u a))
raised-others (u ∷ v ∷ w ∷ x ∷ []) a b c d e f = ap (λ n. n ∷ raised v b ∷ raised w c ∷ raised x d ∷ []) (raised-none (raised u a))
raised-others (u ∷ v ∷ w ∷ x ∷ y ∷ rest) a b c d e f =
    ap (λ n. n ∷ raised v b ∷ raised w c ∷ raised x d ∷ raised (raised y e) 0 ∷ grown rest (f ∷ [])) (raised-none (raised u a))
    ∙ ap (λ n. raised u a ∷ raised v b ∷ raised w c ∷ raised x d ∷ n ∷ grown rest (f ∷ [])) (raised-none (raised y e))

-- one count, and then the others of six
pub raised-fifth : (counts : List ℕ) (a b c d e f : ℕ) → grown (raised_in counts 4 e) (a ∷ b ∷ c ∷ d ∷ 0 ∷ f ∷ []) ≡ grown counts (a ∷ b ∷ c ∷ d ∷ e ∷ f ∷ [])
raised-fifth [] a b c d e f = refl
raised-fifth (u ∷ []) a b c d e f = refl
raised-fifth (u ∷ v ∷ []) a b c d e f = refl
raised-fifth (u ∷ v ∷ w ∷ []) a b c d e f = refl
raised-fifth (u ∷ v ∷ w ∷ x ∷ []) a b c d e f = refl
raised-fifth (u ∷ v ∷ w ∷ x ∷ y ∷ rest) a b c d e f =
    ap (λ n. raised u a ∷ raised v b ∷ raised w c ∷ raised x d ∷ n ∷ grown rest (f ∷ [])) (raised-none (raised y e))

-- zeros that are added
pub grown-six : (counts : List ℕ) → grown counts (0 ∷ 0 ∷ 0 ∷ 0 ∷ 0 ∷ 0 ∷ []) ≡ counts
grown-six counts = grown-zeros 6 counts
