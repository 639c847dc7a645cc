use Rattle.std.proofs.Common.{◌≡◌, ℕ, zero, suc, ◌<◌, ◌≤◌, ◌-◌, Bool, true, false, ◌==◌, ◌&&◌, get_or, refl, arith}
use Rattle.std.specs.Prelude.{unwrap_or}
use Rattle.std.specs.List.{position_from}
use Rattle.std.proofs.lemmas.Bool.{eqb-true}
use Rattle.dns_counts.specs.declared.labels.TheConstants.{TYPE_CODES, TYPE_PLACES}
use Rattle.dns_counts.proofs.kinds.place_of_type.Goals as goal

-- whether each number below another passes
abbrev passes_below : (ℕ → Bool) → ℕ → Bool
passes_below p zero = true
passes_below p (suc n) = p 0 && passes_below (λ m. p (suc m)) n

and-first : (a b : Bool) → (a && b) ≡ true → a ≡ true
and-first true b h = refl
and-first false b h = absurd cc

and-second : (a b : Bool) → (a && b) ≡ true → b ≡ true
and-second true b h = h
and-second false b h = absurd cc

passes-at : (p : ℕ → Bool) (n k : ℕ) → passes_below p n ≡ true → k < n → p k ≡ true
passes-at p zero k h within = absurd (omega arith)
passes-at p (suc n) zero h within = and-first _ _ h
passes-at p (suc n) (suc k) h within = passes-at (λ m. p (suc m)) n k (and-second _ _ h) (omega arith)

-- the table of places has the place of each type
is_place : ℕ → Bool
is_place k = get_or TYPE_PLACES k 0 == unwrap_or (position_from (λ one. k == one) 0 TYPE_CODES) 38

are_places : passes_below is_place 66 ≡ true
unfolding is_place
are_places = refl

-- none is behind the last one
is_within : ℕ → Bool
is_within k = get_or TYPE_PLACES k 0 - 38 == 0

are_within : passes_below is_within 66 ≡ true
unfolding is_within
are_within = refl

place-at : (k : ℕ) → k < 66 → get_or TYPE_PLACES k 0 ≡ unwrap_or (position_from (λ one. k == one) 0 TYPE_CODES) 38
unfolding is_place
place-at k within = eqb-true _ _ (passes-at is_place 66 k are_places within)

within-at : (k : ℕ) → k < 66 → get_or TYPE_PLACES k 0 - 38 ≡ 0
unfolding is_within
within-at k within = eqb-true _ _ (passes-at is_within 66 k are_within within)

pub returns-then-index-lt66-clause-place : goal.returns-then-index-lt66-clause-place
returns-then-index-lt66-clause-place c =
    let below : c.args.code < 66 = rw c.from-index.ensures at c.if-index-lt66.true in
    rw (c.from.ensures, c.from-index.ensures) (place-at c.args.code below)

pub returns-then-index-lt66-clause-within : goal.returns-then-index-lt66-clause-within
returns-then-index-lt66-clause-within c =
    let below : c.args.code < 66 = rw c.from-index.ensures at c.if-index-lt66.true in
    let small : get_or TYPE_PLACES c.args.code 0 ≤ 38 = omega (arith, within-at c.args.code below) in
    rw (c.from.ensures, c.from-index.ensures) small
