-- One code that is seen raises one count: that at its place, or the last.
use Rattle.std.proofs.Common.{◌≡◌, ℕ, zero, suc, ◌+◌, ◌<◌, List, [], ◌∷◌, ◌++◌, length, map, filter, Some, None, Bool, true, false, not, cond, ◌==◌, ◌&&◌, ◌||◌, get_or, set, take, refl, sym, ◌∙◌, ap, arith, add-one}
use Rattle.std.specs.List.{list_any, position_from}
use Rattle.std.proofs.lemmas.Bool.{eqb-true}
use Rattle.dns_counts.specs.Counting.{raised, grown, seen_of, seen_or_unknown, are_distinct}

-- the counts with one more at the first code that passes, or behind the codes
abbrev pub bumped : (ℕ → Bool) → List ℕ → List ℕ → List ℕ
bumped p codes [] = []
bumped p [] (n ∷ ns) = raised n 1 ∷ ns
bumped p (c ∷ cs) (n ∷ ns) = cond (p c) (raised n 1 ∷ ns) (n ∷ bumped p cs ns)

not-true : (b : Bool) → not b ≡ true → b ≡ false
not-true true h = absurd cc
not-true false h = refl

and-not : (a b : Bool) → (not a && b) ≡ true → a ≡ false
and-not true b h = absurd cc
and-not false b h = refl

and-rest : (a b : Bool) → (not a && b) ≡ true → b ≡ true
and-rest true b h = absurd cc
and-rest false b h = h

-- a count and nothing more
raised-zero : (n : ℕ) → raised n 0 ≡ n
raised-zero n = omega arith

-- the place of the first code that passes
pub set-place : (p : ℕ → Bool) (codes counts : List ℕ) (from at : ℕ) → position_from p from codes ≡ Some at
    → (d : ℕ) × (at ≡ from + d) × (set counts d (raised (get_or counts d 0) 1) ≡ bumped p codes counts)
set-place p [] counts from at h = absurd cc
set-place p (c ∷ cs) [] from at h =
    elim (p c) as (λ b. cond b (Some from) (position_from p (from + 1) cs) ≡ Some at → (d : ℕ) × (at ≡ from + d) × (set [] d (raised (get_or [] d 0) 1) ≡ [])) [
      | true ↦ (λ e. (0, let f : from ≡ at = cc in omega arith, refl))
      | false ↦ (λ e. let ih = set-place p cs [] (from + 1) at e in (suc ih.0, omega arith, refl))
    ] h
set-place p (c ∷ cs) (n ∷ ns) from at h =
    elim (p c) as (λ b. cond b (Some from) (position_from p (from + 1) cs) ≡ Some at
    → (d : ℕ) × (at ≡ from + d) × (set (n ∷ ns) d (raised (get_or (n ∷ ns) d 0) 1) ≡ cond b (raised n 1 ∷ ns) (n ∷ bumped p cs ns))) [
      | true ↦ (λ e. (0, let f : from ≡ at = cc in omega arith, refl))
      | false ↦ (λ e. let ih = set-place p cs ns (from + 1) at e in (suc ih.0, omega arith, ap (λ rest. n ∷ rest) ih.2))
    ] h

-- no code passes
pub set-length : (p : ℕ → Bool) (codes counts : List ℕ) (from : ℕ) → position_from p from codes ≡ None
    → set counts (length codes) (raised (get_or counts (length codes) 0) 1) ≡ bumped p codes counts
set-length p [] [] from h = refl
set-length p [] (n ∷ ns) from h = refl
set-length p (c ∷ cs) [] from h = refl
set-length p (c ∷ cs) (n ∷ ns) from h =
    elim (p c) as (λ b. cond b (Some from) (position_from p (from + 1) cs) ≡ None
    → set (n ∷ ns) (suc (length cs)) (raised (get_or (n ∷ ns) (suc (length cs)) 0) 1) ≡ cond b (raised n 1 ∷ ns) (n ∷ bumped p cs ns)) [
      | true ↦ (λ e. absurd cc)
      | false ↦ (λ e. ap (λ rest. n ∷ rest) (set-length p cs ns (from + 1) e))
    ] h

-- at most one code passes
abbrev pub is_single : (ℕ → Bool) → List ℕ → Bool
is_single p [] = true
is_single p (c ∷ cs) = cond (p c) (not (list_any p cs)) (is_single p cs)

-- what one code that is seen adds at each code, and a number behind them
abbrev pub added_by : ℕ → (ℕ → Bool) → List ℕ → ℕ → List ℕ
added_by s p codes last = map (λ c. length (cond (p c) (s ∷ []) [])) codes ++ last ∷ []

-- nothing is added where no code passes
grown-none : (s : ℕ) (p : ℕ → Bool) (codes counts : List ℕ) → list_any p codes ≡ false → grown counts (added_by s p codes 0) ≡ counts
grown-none s p [] [] h = refl
grown-none s p [] (n ∷ []) h = ap (λ m. m ∷ []) (raised-zero n)
grown-none s p [] (n ∷ m ∷ ns) h = ap (λ k. k ∷ m ∷ ns) (raised-zero n)
grown-none s p (c ∷ cs) [] h = refl
grown-none s p (c ∷ cs) (n ∷ ns) h =
    elim (p c) as (λ b. (b || list_any p cs) ≡ false → raised n (length (cond b (s ∷ []) [])) ∷ grown ns (added_by s p cs 0) ≡ n ∷ ns) [
      | true ↦ (λ e. absurd cc)
      | false ↦ (λ e. let ih = grown-none s p cs ns e in let z = raised-zero n in cc)
    ] h

grown-one : (s : ℕ) (p : ℕ → Bool) (codes counts : List ℕ) → list_any p codes ≡ true → is_single p codes ≡ true
    → bumped p codes counts ≡ grown counts (added_by s p codes 0)
grown-one s p [] counts h single = absurd cc
grown-one s p (c ∷ cs) [] h single = refl
grown-one s p (c ∷ cs) (n ∷ ns) h single =
    elim (p c) as (λ b. (b || list_any p cs) ≡ true → cond b (not (list_any p cs)) (is_single p cs) ≡ true
    → cond b (raised n 1 ∷ ns) (n ∷ bumped p cs ns) ≡ raised n (length (cond b (s ∷ []) [])) ∷ grown ns (added_by s p cs 0)) [
      | true ↦ (λ e f. let none : list_any p cs ≡ false = not-true _ f in let g = grown-none s p cs ns none in ap (λ rest. raised n 1 ∷ rest) (sym g))
      | false ↦ (λ e f. let ih = grown-one s p cs ns e f in let z = raised-zero n in cc)
    ] h single

grown-last : (s : ℕ) (p : ℕ → Bool) (codes counts : List ℕ) → list_any p codes ≡ false → bumped p codes counts ≡ grown counts (added_by s p codes 1)
grown-last s p [] [] h = refl
grown-last s p [] (n ∷ []) h = refl
grown-last s p [] (n ∷ m ∷ ns) h = refl
grown-last s p (c ∷ cs) [] h = refl
grown-last s p (c ∷ cs) (n ∷ ns) h =
    elim (p c) as (λ b. (b || list_any p cs) ≡ false
    → cond b (raised n 1 ∷ ns) (n ∷ bumped p cs ns) ≡ raised n (length (cond b (s ∷ []) [])) ∷ grown ns (added_by s p cs 1)) [
      | true ↦ (λ e. absurd cc)
      | false ↦ (λ e. let ih = grown-last s p cs ns e in let z = raised-zero n in cc)
    ] h

-- one code that is seen raises the count of its label
grown-bumped : (s : ℕ) (p : ℕ → Bool) (codes counts : List ℕ) → is_single p codes ≡ true
    → bumped p codes counts ≡ grown counts (added_by s p codes (length (cond (not (list_any p codes)) (s ∷ []) [])))
grown-bumped s p codes counts single =
    elim (list_any p codes) as (λ b. list_any p codes ≡ b → bumped p codes counts ≡ grown counts (added_by s p codes (length (cond (not b) (s ∷ []) [])))) [
      | true ↦ (λ e. grown-one s p codes counts e single)
      | false ↦ (λ e. grown-last s p codes counts e)
    ] refl

-- where a code is in the list once, it is the only one that passes
single-tail : (s c : ℕ) (cs : List ℕ) → (s == c) ≡ true → list_any (λ other. c == other) cs ≡ false → list_any (λ one. s == one) cs ≡ false
single-tail s c cs same h = rw (eqb-true s c same) h

pub single-distinct : (s : ℕ) (codes : List ℕ) → are_distinct codes ≡ true → is_single (λ one. s == one) codes ≡ true
single-distinct s [] h = refl
single-distinct s (c ∷ cs) h =
    let first : list_any (λ other. c == other) cs ≡ false = and-not _ _ h in
    let rest : are_distinct cs ≡ true = and-rest _ _ h in
    elim (s == c) as (λ b. (s == c) ≡ b → cond b (not (list_any (λ one. s == one) cs)) (is_single (λ one. s == one) cs) ≡ true) [
      | true ↦ (λ e. ap not (single-tail s c cs e first))
      | false ↦ (λ e. single-distinct s cs rest)
    ] refl

-- one code that is seen, at each label
pub counted-one : (s : ℕ) (codes counts : List ℕ) → are_distinct codes ≡ true
    → bumped (λ one. s == one) codes counts ≡ grown counts (seen_or_unknown codes (s ∷ []))
unfolding seen_of seen_or_unknown
counted-one s codes counts h = grown-bumped s (λ one. s == one) codes counts (single-distinct s codes h)

-- a count raised twice
pub raised-raised : (n a b : ℕ) → raised (raised n a) b ≡ raised n (a + b)
raised-raised n a b = omega arith

pub grown-grown : (f g h : ℕ → ℕ) (u v w : ℕ) (codes counts : List ℕ) → ((c : ℕ) → f c + g c ≡ h c) → u + v ≡ w
    → grown (grown counts (map f codes ++ u ∷ [])) (map g codes ++ v ∷ []) ≡ grown counts (map h codes ++ w ∷ [])
grown-grown f g h u v w [] [] each last = refl
grown-grown f g h u v w [] (n ∷ []) each last = rw (← last) (ap (λ m. m ∷ []) (raised-raised n u v))
grown-grown f g h u v w [] (n ∷ m ∷ ns) each last = rw (← last) (ap (λ k. k ∷ m ∷ ns) (raised-raised n u v))
grown-grown f g h u v w (c ∷ cs) [] each last = refl
grown-grown f g h u v w (c ∷ cs) (n ∷ ns) each last =
    let ih = grown-grown f g h u v w cs ns each last in
    let twice = raised-raised n (f c) (g c) in
    let both = each c in cc

pub counted-place : (s : ℕ) (codes counts : List ℕ) (at : ℕ) → position_from (λ one. s == one) 0 codes ≡ Some at → are_distinct codes ≡ true
    → set counts at (raised (get_or counts at 0) 1) ≡ grown counts (seen_or_unknown codes (s ∷ []))
counted-place s codes counts at found distinct =
    let place = set-place (λ one. s == one) codes counts 0 at found in
    let same : at ≡ place.0 = omega (arith, place.1) in
    rw same (place.2 ∙ counted-one s codes counts distinct)

pub counted-nowhere : (s : ℕ) (codes counts : List ℕ) → position_from (λ one. s == one) 0 codes ≡ None → are_distinct codes ≡ true
    → set counts (length codes) (raised (get_or counts (length codes) 0) 1) ≡ grown counts (seen_or_unknown codes (s ∷ []))
counted-nowhere s codes counts absent distinct = set-length (λ one. s == one) codes counts 0 absent ∙ counted-one s codes counts distinct

-- no number raises nothing
pub grown-nil : (counts : List ℕ) → grown counts [] ≡ counts
grown-nil [] = refl
grown-nil (n ∷ ns) = refl

-- a zero behind the others raises nothing
grown-zero : (f : ℕ → ℕ) (codes counts : List ℕ) → grown counts (map f codes ++ 0 ∷ []) ≡ grown counts (map f codes)
grown-zero f [] [] = refl
grown-zero f [] (n ∷ []) = ap (λ m. m ∷ []) (raised-zero n)
grown-zero f [] (n ∷ m ∷ ns) = ap (λ k. k ∷ m ∷ ns) (raised-zero n)
grown-zero f (c ∷ cs) [] = refl
grown-zero f (c ∷ cs) (n ∷ ns) = ap (λ rest. raised n (f c) ∷ rest) (grown-zero f cs ns)

any-place : (p : ℕ → Bool) (codes : List ℕ) (from at : ℕ) → position_from p from codes ≡ Some at → list_any p codes ≡ true
any-place p [] from at h = absurd cc
any-place p (c ∷ cs) from at h =
    elim (p c) as (λ b. cond b (Some from) (position_from p (from + 1) cs) ≡ Some at → (b || list_any p cs) ≡ true)
    [ true ↦ (λ e. refl) | false ↦ (λ e. any-place p cs (from + 1) at e) ] h

any-nowhere : (p : ℕ → Bool) (codes : List ℕ) (from : ℕ) → position_from p from codes ≡ None → list_any p codes ≡ false
any-nowhere p [] from h = refl
any-nowhere p (c ∷ cs) from h =
    elim (p c) as (λ b. cond b (Some from) (position_from p (from + 1) cs) ≡ None → (b || list_any p cs) ≡ false)
    [ true ↦ (λ e. absurd cc) | false ↦ (λ e. any-nowhere p cs (from + 1) e) ] h

-- the same where no label counts the rest
pub known-place : (s : ℕ) (codes counts : List ℕ) (at : ℕ) → position_from (λ one. s == one) 0 codes ≡ Some at → are_distinct codes ≡ true
    → set counts at (raised (get_or counts at 0) 1) ≡ grown counts (seen_of codes (s ∷ []))
unfolding seen_of seen_or_unknown
known-place s codes counts at found distinct =
    let place = set-place (λ one. s == one) codes counts 0 at found in
    let same : at ≡ place.0 = omega (arith, place.1) in
    let one = grown-one s (λ one. s == one) codes counts (any-place _ codes 0 at found) (single-distinct s codes distinct) in
    rw same (place.2 ∙ (one ∙ grown-zero _ codes counts))

pub known-nowhere : (s : ℕ) (codes counts : List ℕ) → position_from (λ one. s == one) 0 codes ≡ None
    → counts ≡ grown counts (seen_of codes (s ∷ []))
unfolding seen_of seen_or_unknown
known-nowhere s codes counts absent =
    sym (grown-none s (λ one. s == one) codes counts (any-nowhere _ codes 0 absent)) ∙ grown-zero _ codes counts

-- a front of the numbers has raised the counts; the next one raises the next count
pub grown-take : (counts more : List ℕ) (i : ℕ) → i < length more
    → set (grown counts (take i more)) i (raised (get_or (grown counts (take i more)) i 0) (get_or more i 0)) ≡ grown counts (take (i + 1) more)
grown-take counts more i h = rw (add-one i) (grown-suc counts more i h)
  where
    grown-suc : (counts more : List ℕ) (i : ℕ) → i < length more
        → set (grown counts (take i more)) i (raised (get_or (grown counts (take i more)) i 0) (get_or more i 0)) ≡ grown counts (take (suc i) more)
    grown-suc counts [] i h = absurd (omega arith)
    grown-suc [] (m ∷ ms) i h = refl
    grown-suc (n ∷ ns) (m ∷ ms) zero h = ap (λ rest. raised n m ∷ rest) (sym (grown-nil ns))
    grown-suc (n ∷ ns) (m ∷ ms) (suc i) h = ap (λ rest. raised n m ∷ rest) (grown-suc ns ms i (omega arith))

length-cond : (b : Bool) (s : ℕ) (xs : List ℕ) → length (cond b (s ∷ []) []) + length xs ≡ length (cond b (s ∷ xs) xs)
length-cond true s xs = omega arith
length-cond false s xs = omega arith

-- one code and then others
pub counted-more : (codes counts others : List ℕ) (s : ℕ)
    → grown (grown counts (seen_or_unknown codes (s ∷ []))) (seen_or_unknown codes others) ≡ grown counts (seen_or_unknown codes (s ∷ others))
unfolding seen_of seen_or_unknown
counted-more codes counts others s =
    grown-grown _ _ _ _ _ _ codes counts (λ c. length-cond (s == c) s (filter (λ one. one == c) others))
    (length-cond (not (list_any (λ code. s == code) codes)) s (filter (λ one. not (list_any (λ code. one == code) codes)) others))

-- nothing that is seen
pub counted-none : (codes counts : List ℕ) → grown counts (seen_or_unknown codes []) ≡ counts
unfolding seen_of seen_or_unknown
counted-none [] [] = refl
counted-none [] (n ∷ []) = ap (λ m. m ∷ []) (raised-zero n)
counted-none [] (n ∷ m ∷ ns) = ap (λ k. k ∷ m ∷ ns) (raised-zero n)
counted-none (c ∷ cs) [] = refl
counted-none (c ∷ cs) (n ∷ ns) = let z = raised-zero n in let ih = counted-none cs ns in cc

pub known-none : (codes counts : List ℕ) → grown counts (seen_of codes []) ≡ counts
unfolding seen_of seen_or_unknown
known-none codes [] = refl
known-none [] (n ∷ ns) = refl
known-none (c ∷ cs) (n ∷ ns) = let z = raised-zero n in let ih = known-none cs ns in cc
