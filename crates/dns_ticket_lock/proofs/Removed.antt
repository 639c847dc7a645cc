-- A list without its j-th.
use Rattle.std.proofs.Common.{◌≡◌, ◌≢◌, ◌⊎◌, inl, inr, ℕ, zero, suc, ◌+◌, List, [], ◌∷◌, ◌++◌, take, drop, length, refl, sym, ap, ◌∙◌, arith}
use mathlib.Core.Option.{some, some-injective, some-ne-none}
use native.Mathlib.Decide.{ℕ_discrete}
use mathlib.Core.Logic.{dite}
use lib.ListN.{get_elem?}
use Rattle.dns_ticket_lock.specs.Passes.{BookId, PassSeen, IsSame, AreAll, InOrder, pass_faults}
use Rattle.dns_ticket_lock.specs.declared.view.Account.{Account}
use Rattle.dns_ticket_lock.specs.Lists.{total}
use Rattle.dns_ticket_lock.specs.Rule.{own}
use Rattle.dns_ticket_lock.proofs.Seats.{same_at, there}

pub removed_at : {X : Type 0} (l : List X) (j i : ℕ) (p : X) → i ≢ j → get_elem? l i ≡ some p → (k : ℕ) × (get_elem? (take j l ++ drop (suc j) l) k ≡ some p)
removed_at [] j i p n e = absurd (some-ne-none p (sym e))
removed_at (y ∷ ys) zero zero p n e = absurd (n refl)
removed_at (y ∷ ys) zero (suc i) p n e = (i, e)
removed_at (y ∷ ys) (suc j) zero p n e = (0, e)
removed_at (y ∷ ys) (suc j) (suc i) p n e = let rest = removed_at ys j i p (λ same. n (ap suc same)) e in (suc rest.0, rest.1)

pub removed_from : {X : Type 0} (l : List X) (j k : ℕ) (p : X) → get_elem? (take j l ++ drop (suc j) l) k ≡ some p → (i : ℕ) × (get_elem? l i ≡ some p)
removed_from [] zero k p e = absurd (some-ne-none p (sym e))
removed_from [] (suc j) k p e = absurd (some-ne-none p (sym e))
removed_from (y ∷ ys) zero k p e = (suc k, e)
removed_from (y ∷ ys) (suc j) zero p e = (0, e)
removed_from (y ∷ ys) (suc j) (suc k) p e = let rest = removed_from ys j k p e in (suc rest.0, rest.1)

pub total_removed : {X : Type 0} (f : X → ℕ) (l : List X) (j : ℕ) (x : X) → get_elem? l j ≡ some x → total f l ≡ f x + total f (take j l ++ drop (suc j) l)
total_removed f [] j x e = absurd (some-ne-none x (sym e))
total_removed f (y ∷ ys) zero x e = ap (λ (z : _). f z + total f ys) (some-injective y x e)
total_removed f (y ∷ ys) (suc j) x e = let rest = total_removed f ys j x e in omega arith

pub length_removed : {X : Type 0} (l : List X) (j : ℕ) (x : X) → get_elem? l j ≡ some x → length l ≡ length (take j l ++ drop (suc j) l) + 1
length_removed [] j x e = absurd (some-ne-none x (sym e))
length_removed (y ∷ ys) zero x e = omega arith
length_removed (y ∷ ys) (suc j) x e = let rest = length_removed ys j x e in omega arith

pub all_but : (book : BookId) (low : ℕ) (ps : List PassSeen) (j : ℕ) (x : PassSeen) → AreAll book (low + 1) ps → get_elem? ps j ≡ some x → x.number ≡ low + 1 → AreAll book low (take j ps ++ drop (suc j) ps)
all_but book low ps j x all at is = record {
  many = (let one = length_removed ps j x at in let m = all.many in omega arith);
  same = λ i p e. (let old = removed_from ps j i p e in all.same old.0 p old.1);
  each = λ k small.
      let old = all.each k (omega arith) in
      let apart : old.0 ≢ j = λ same. (let number_is = ap (λ (y : PassSeen). y.number) (same_at ps old.0 j old.1 x same old.2 at) in let its = old.3 in omega arith) in
      let new = removed_at ps j old.0 old.1 apart old.2 in
      (new.0, old.1, new.1, old.3);
}

pub still_found : (ps : List PassSeen) (j : ℕ) (x : PassSeen) → get_elem? ps j ≡ some x → (i : ℕ) (p : PassSeen) → get_elem? ps i ≡ some p → ((k : ℕ) × (get_elem? (take j ps ++ drop (suc j) ps) k ≡ some p)) ⊎ (p ≡ x)
still_found ps j x at i p e = dite (ℕ_discrete i j)
    (λ same. inr (same_at ps i j p x same e at))
    (λ apart. inl (removed_at ps j i p apart e))

pub single : (l : List Account) → length l ≡ 1 → l ≡ own l ∷ []
single [] e = absurd (omega arith)
single (a ∷ []) e = refl
single (a ∷ b ∷ l) e = absurd (omega arith)

-- passes in order are all of them
pub all_of_order : (book : BookId) (count : ℕ) (ps : List PassSeen) → InOrder book ps → length ps ≡ count → AreAll book count ps
all_of_order book count ps order many = record {
  many = many;
  same = λ i p e. (order i p e).0;
  each = λ k small. (let p = there ps k (omega arith) in (k, p.0, p.1, (order k p.0 p.1).1));
}

-- all passes of a book, which stand in another order and have settled since
pub all_moved : (book : BookId) (count : ℕ) (old new : List PassSeen) → length new ≡ length old
    → ((i : ℕ) (q : PassSeen) → get_elem? new i ≡ some q → (j : ℕ) × (p : PassSeen) × (get_elem? old j ≡ some p) × IsSame p q)
    → ((j : ℕ) (p : PassSeen) → get_elem? old j ≡ some p → (i : ℕ) × (q : PassSeen) × (get_elem? new i ≡ some q) × IsSame p q)
    → AreAll book count old → AreAll book count new
all_moved book count old new same_length from to all = record {
  many = same_length ∙ all.many;
  same = λ i q e. (let p = from i q e in p.3.book ∙ all.same p.0 p.1 p.2);
  each = λ k small. (let p = all.each k small in let q = to p.0 p.1 p.2 in (q.0, q.1, q.2, q.3.number ∙ p.3));
}

-- no pass is left
pub none_left : (ps : List PassSeen) (i : ℕ) (p : PassSeen) → length ps ≡ 0 → get_elem? ps i ≡ some p → ⊥
none_left [] i p none e = some-ne-none p (sym e)
none_left (x ∷ xs) i p none e = absurd (omega arith)

pub no_faults : (ps : List PassSeen) → length ps ≡ 0 → total pass_faults ps ≡ 0
no_faults [] none = refl
no_faults (x ∷ xs) none = absurd (omega arith)
