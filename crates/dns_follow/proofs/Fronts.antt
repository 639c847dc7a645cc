-- Fronts of lists, and what stands behind them.
use Rattle.std.proofs.Common.{◌≡◌, ℕ, pos, zero, suc, ◌+◌, ◌<◌, List, [], ◌∷◌, ◌++◌, length, get_or, drop, Some, refl, sym, ap, ◌∙◌, subst, arith}
use Rattle.std.specs.List.{Contains}
use Rattle.std.proofs.lemmas.List.{drop_at}
use Rattle.dns_keeper.specs.declared.row.Row.{Row}
use Rattle.dns_follow.proofs.Parts.{NumberedFrom}
use Rattle.dns_follow.specs.Following.{last_of}
use Rattle.dns_follow.proofs.Holding.{last_of-next}

-- an element of a list stands at some place
pub record Found {X : Type 0} (xs : List X) (x : X) : Type 0 where
  pub front : List X
  pub back : List X
  pub parts : xs ≡ front ++ x ∷ back

found_at : {X : Type 0} (xs : List X) (y : X) (k : ℕ) → k < length xs → get_or xs k y ≡ y → Found xs y
found_at [] y k within at = absurd (omega arith)
found_at (x ∷ xs) y zero within at = record { front = []; back = xs; parts = ap (λ z. z ∷ xs) at }
found_at (x ∷ xs) y (suc k) within at =
    let less : k < length xs = omega arith in
    let more = found_at xs y k less at in
    record { front = x ∷ more.front; back = more.back; parts = ap (λ l. x ∷ l) more.parts }

pub found : {X : Type 0} (xs : List X) (y : X) → Contains xs y → Found xs y
found xs y h = found_at xs y h.0 h.1 h.2

-- behind fronts of one length the same stands
pub same_rest : {X : Type 0} (a b c d : List X) → a ++ b ≡ c ++ d → length a ≡ length c → b ≡ d
same_rest a b c d e long = sym (drop_at a b (length a) refl) ∙ ap (λ l. drop (length a) l) e ∙ drop_at c d (length a) (sym long)

-- the id of a row, where ids count up
pub id_at : (n : ℕ) (front : List Row) (row : Row) (back : List Row) → NumberedFrom n (front ++ row ∷ back) → row.id ≡ pos (n + length front)
id_at n [] row back h = let e : n ≡ n + 0 = omega arith in h.0 ∙ ap pos e
id_at n (x ∷ front) row back h = let e : n + 1 + length front ≡ n + suc (length front) = omega arith in id_at (n + 1) front row back h.1 ∙ ap pos e

-- so they do behind a front
pub numbered_drop : (n c : ℕ) (rows : List Row) → NumberedFrom n rows → NumberedFrom (n + c) (drop c rows)
numbered_drop n zero rows h = let e : n + 0 ≡ n = omega arith in subst (λ (k : ℕ). NumberedFrom k rows) (sym e) h
numbered_drop n (suc c) [] h = tt
numbered_drop n (suc c) (x ∷ rows) h =
    let e : n + 1 + c ≡ n + suc c = omega arith in
    subst (λ (k : ℕ). NumberedFrom k (drop c rows)) e (numbered_drop (n + 1) c rows h.1)

-- the last of rows, and those before it
pub record Ends (rows : List Row) : Type 0 where
  pub init : List Row
  pub last : Row
  pub parts : rows ≡ init ++ last ∷ []
  pub is : last_of rows ≡ Some last

pub ends : (x : Row) (xs : List Row) → Ends (x ∷ xs)
ends x [] = record { init = []; last = x; parts = refl; is = refl }
ends x (y ∷ ys) =
    let more = ends y ys in
    record { init = x ∷ more.init; last = more.last; parts = ap (λ l. x ∷ l) more.parts; is = last_of-next x y ys ∙ more.is }
