-- Those that ended are let go of, one behind the other.
use Rattle.std.proofs.Common.{◌≡◌, ◌<◌, ℕ, zero, suc, List, [], ◌∷◌, ◌++◌, length, take, drop, get_or, Bool, true, false, cond, refl, sym, ap, ◌∙◌, append_assoc, append-nil, arith}
use Rattle.std.specs.List.{filter}
use Rattle.dns_connections.specs.Links.{LinkSeen, is_kept}

record Split (all : List LinkSeen) (done : ℕ) (d : LinkSeen) : Type 0 where
  pub rest : drop done all ≡ get_or all done d ∷ drop (suc done) all
  pub front : take (suc done) all ≡ take done all ++ get_or all done d ∷ []

split : (all : List LinkSeen) (done : ℕ) (d : LinkSeen) → done < length all → Split all done d
split [] done d l = absurd (omega (arith, l))
split (o ∷ os) zero d l = record { rest = refl; front = refl }
split (o ∷ os) (suc i) d l =
    let s = split os i d (omega (arith, l)) in
    record { rest = s.rest; front = ap (λ (xs : List LinkSeen). o ∷ xs) s.front }

push_by : (b : Bool) (o x : LinkSeen) (xs : List LinkSeen) (more : List LinkSeen) → cond b (o ∷ (xs ++ more)) (xs ++ more) ≡ cond b (o ∷ xs) xs ++ more
push_by true o x xs more = refl
push_by false o x xs more = refl

filter_push : (f : LinkSeen → Bool) (xs : List LinkSeen) (x : LinkSeen) → filter f (xs ++ x ∷ []) ≡ filter f xs ++ cond (f x) (x ∷ []) []
filter_push f [] x = refl
filter_push f (o ∷ os) x =
    ap (λ (l : List LinkSeen). cond (f o) (o ∷ l) l) (filter_push f os x) ∙ push_by (f o) o x (filter f os) (cond (f x) (x ∷ []) [])

cons_first : (a b : LinkSeen) (xs ys : List LinkSeen) → a ∷ xs ≡ b ∷ ys → a ≡ b
cons_first a b xs ys e = ap (λ (l : List LinkSeen). get_or l 0 a) e

cons_rest : (a b : LinkSeen) (xs ys : List LinkSeen) → a ∷ xs ≡ b ∷ ys → xs ≡ ys
cons_rest a b xs ys e = ap (λ (l : List LinkSeen). drop 1 l) e

module _ (all items left : List LinkSeen) (done : ℕ) (x : LinkSeen) (l : done < length all)
    (before : items ≡ drop done all ++ filter is_kept (take done all)) (popped : items ≡ x ∷ left) where
  here : x ∷ left ≡ get_or all done x ∷ (drop (suc done) all ++ filter is_kept (take done all))
  here = sym popped ∙ before ∙ ap (λ (r : List LinkSeen). r ++ filter is_kept (take done all)) (split all done x l).rest

  is_here : x ≡ get_or all done x
  is_here = cons_first x (get_or all done x) left _ here

  left_is : left ≡ drop (suc done) all ++ filter is_kept (take done all)
  left_is = cons_rest x (get_or all done x) left _ here

  filtered : filter is_kept (take (suc done) all) ≡ filter is_kept (take done all) ++ cond (is_kept x) (x ∷ []) []
  filtered =
      ap (λ (r : List LinkSeen). filter is_kept r) ((split all done x l).front ∙ ap (λ (o : LinkSeen). take done all ++ o ∷ []) (sym is_here))
      ∙ filter_push is_kept (take done all) x

  pub is_put_back : is_kept x ≡ true → left ++ x ∷ [] ≡ drop (suc done) all ++ filter is_kept (take (suc done) all)
  is_put_back k =
      ap (λ (r : List LinkSeen). r ++ x ∷ []) left_is ∙ append_assoc (drop (suc done) all) (filter is_kept (take done all)) (x ∷ [])
      ∙ ap (λ (r : List LinkSeen). drop (suc done) all ++ r) (sym (filtered ∙ ap (λ (b : Bool). filter is_kept (take done all) ++ cond b (x ∷ []) []) k))

  pub is_gone : is_kept x ≡ false → left ≡ drop (suc done) all ++ filter is_kept (take (suc done) all)
  is_gone k =
      left_is
      ∙ ap (λ (r : List LinkSeen). drop (suc done) all ++ r) (sym (filtered ∙ ap (λ (b : Bool). filter is_kept (take done all) ++ cond b (x ∷ []) []) k ∙ append-nil (filter is_kept (take done all))))
