-- The passes of a book, wherever they are.
use Rattle.std.proofs.Common.{◌≡◌, ◌<◌, ◌+◌, ◌∙◌, ◌==◌, ℕ, zero, suc, List, [], ◌∷◌, ◌++◌, length, slice_index_or, Bool, true, false, Result, Ok, Err, refl, sym, ap, subst, arith, length-append}
use Rattle.std.specs.Prelude.{if◌then◌else◌}
use Rattle.std.specs.List.{AllByRecursion}
use Rattle.std.proofs.lemmas.List.{length-map, map-append}
use Rattle.std.proofs.lemmas.Bool.Decides.{nat_tests}
use mathlib.Core.Option.{some, some-injective, some-ne-none}
use lib.ListN.{get_elem?}
use Rattle.dns_book.specs.Access.{Access}
use Rattle.dns_ticket_lock.specs.Passes.{AreAll, ArePasses, BookSeen, PassSeen, IsSame}
use Rattle.dns_server.specs.declared.worker.Worker.{Worker}
use Rattle.dns_server.specs.Servers.{IsOf, IsWhole, Matches, MayTakeOn, having, their_passes}

pub having_append : (n : ℕ) (xs ys : List PassSeen) → having n (xs ++ ys) ≡ having n xs + having n ys
having_append n [] ys = omega arith
having_append n (x ∷ xs) ys = let rest = having_append n xs ys in omega arith

-- where one has a number
abbrev Found : ℕ → List PassSeen → Type 0
Found n ps = (i : ℕ) × (p : PassSeen) × (get_elem? ps i ≡ some p) × (p.number ≡ n)

found_by : (n : ℕ) (p : PassSeen) (ps : List PassSeen) → (0 < having n ps → Found n ps) → (b : Bool) → (p.number == n) ≡ b → 0 < (if b then 1 else 0) + having n ps → Found n (p ∷ ps)
found_by n p ps later true e some_of = (0, p, refl, grind (arith, nat_tests, e))
found_by n p ps later false e some_of = let rest = later (omega (arith, some_of)) in (suc rest.0, rest.1, rest.2, rest.3)

pub found : (n : ℕ) (ps : List PassSeen) → 0 < having n ps → Found n ps
found n [] some_of = absurd (omega (arith, some_of))
found n (p ∷ ps) some_of = found_by n p ps (found n ps) (p.number == n) refl some_of

counts_by : (a n rest : ℕ) (b : Bool) → (a == n) ≡ b → a ≡ n → 0 < (if b then 1 else 0) + rest
counts_by a n rest true e same = omega arith
counts_by a n rest false e same = absurd (grind (arith, nat_tests, e, same))

counts : (n i : ℕ) (p : PassSeen) (ps : List PassSeen) → get_elem? ps i ≡ some p → p.number ≡ n → 0 < having n ps
counts n i p [] e same = absurd (some-ne-none p (sym e))
counts n zero p (x ∷ ps) e same = counts_by x.number n (having n ps) (x.number == n) refl (ap (λ (q : PassSeen). q.number) (some-injective x p e) ∙ same)
counts n (suc i) p (x ∷ ps) e same = let rest = counts n i p ps e same in omega arith

pub there : {X : Type 0} (xs : List X) (k : ℕ) → k < length xs → (x : X) × (get_elem? xs k ≡ some x)
there [] k small = absurd (omega (arith, small))
there (x ∷ xs) zero small = (x, refl)
there (x ∷ xs) (suc k) small = there xs k (omega (arith, small))

all_append : {X : Type 0} (P : X → Type 0) (xs ys : List X) → AllByRecursion P xs → AllByRecursion P ys → AllByRecursion P (xs ++ ys)
all_append P [] ys a b = b
all_append P (x ∷ xs) ys a b = (a.0, all_append P xs ys a.1 b)

pub all_at : {X : Type 0} (P : X → Type 0) (xs : List X) → ((i : ℕ) (x : X) → get_elem? xs i ≡ some x → P x) → AllByRecursion P xs
all_at P [] f = tt
all_at P (x ∷ xs) f = (f 0 x refl, all_at P xs (λ i. f (suc i)))

pub at_of : {X : Type 0} (P : X → Type 0) (xs : List X) → AllByRecursion P xs → (i : ℕ) (x : X) → get_elem? xs i ≡ some x → P x
at_of P [] a i x e = absurd (some-ne-none x (sym e))
at_of P (y ∷ xs) a zero x e = subst P (some-injective y x e) a.0
at_of P (y ∷ xs) a (suc i) x e = at_of P xs a.1 i x e

their_longer : {P : Type 0} (n : ℕ) (workers : List (Worker P)) (w : Worker P) → having n (their_passes (workers ++ w ∷ [])) ≡ having n (their_passes workers) + having n (w.pass ∷ [])
their_longer n workers w = ap (having n) (map-append (λ (x : Worker _). x.pass) workers (w ∷ [])) ∙ having_append n (their_passes workers) (w.pass ∷ [])

module _ (U T : Type 0) (book : BookSeen) (access : Access) where
  abbrev pub Whole : List PassSeen → List (Worker U) → List (Worker T) → Type 0
  Whole free sockets listeners = IsWhole {U = U} {T = T} (record { book = book; access = access; free = free; sockets = sockets; listeners = listeners })

  -- at first all are free
  pub whole_first : (free : List PassSeen) → ArePasses book free → Whole free [] []
  whole_first free a = record {
    many = omega (arith, a.many);
    theirs = (all_at (IsOf book) free (λ i p e. ((a.order i p e).0, (a.new i p e).0)), tt, tt);
    each = λ k small. let at = there free k (omega (arith, a.many, small)) in let one = counts (k + 1) k at.0 free at.1 (a.order k at.0 at.1).1 in omega (arith, one);
  }

  -- one goes to a worker of a socket
  pub whole_socket : (free : List PassSeen) (sockets : List (Worker U)) (listeners : List (Worker T)) (port : U) (limit : ℕ) (left : List PassSeen) (now : List (Worker U)) (result : Result (Unit {0}) U)
      → Whole free sockets listeners → MayTakeOn port limit free sockets left now result → Whole left now listeners
  whole_socket free sockets listeners port limit left now (Err given) w t = rw (t.1, t.2) w
  whole_socket free sockets listeners port limit left now (Ok done) w t =
      let one : Worker U = record { pass = t.pass; port = port; limit = limit; answer = Ok tt } in
      let all = subst (AllByRecursion (IsOf book)) t.first w.theirs.0 in
      record {
        many = omega (arith, w.many, ap length t.first, ap length t.last, length-append sockets (one ∷ []));
        theirs = (all.1, subst (λ (l : List (Worker U)). AllByRecursion (IsOf book) (their_passes l)) (sym t.last) (rw (map-append (λ (x : Worker U). x.pass) sockets (one ∷ [])) (all_append (IsOf book) (their_passes sockets) (t.pass ∷ []) w.theirs.1 (all.0, tt))), w.theirs.2);
        each = λ k small. omega (arith, w.each k small, ap (having (k + 1)) t.first, ap (λ (l : List (Worker U)). having (k + 1) (their_passes l)) t.last, their_longer (k + 1) sockets one);
      }

  -- one goes to a worker of a listener
  pub whole_listener : (free : List PassSeen) (sockets : List (Worker U)) (listeners : List (Worker T)) (port : T) (limit : ℕ) (left : List PassSeen) (now : List (Worker T)) (result : Result (Unit {0}) T)
      → Whole free sockets listeners → MayTakeOn port limit free listeners left now result → Whole left sockets now
  whole_listener free sockets listeners port limit left now (Err given) w t = rw (t.1, t.2) w
  whole_listener free sockets listeners port limit left now (Ok done) w t =
      let one : Worker T = record { pass = t.pass; port = port; limit = limit; answer = Ok tt } in
      let all = subst (AllByRecursion (IsOf book)) t.first w.theirs.0 in
      record {
        many = omega (arith, w.many, ap length t.first, ap length t.last, length-append listeners (one ∷ []));
        theirs = (all.1, w.theirs.1, subst (λ (l : List (Worker T)). AllByRecursion (IsOf book) (their_passes l)) (sym t.last) (rw (map-append (λ (x : Worker T). x.pass) listeners (one ∷ [])) (all_append (IsOf book) (their_passes listeners) (t.pass ∷ []) w.theirs.2 (all.0, tt))));
        each = λ k small. omega (arith, w.each k small, ap (having (k + 1)) t.first, ap (λ (l : List (Worker T)). having (k + 1) (their_passes l)) t.last, their_longer (k + 1) listeners one);
      }

  -- those of sockets come back
  pub whole_sockets : (free : List PassSeen) (sockets : List (Worker U)) (listeners : List (Worker T)) → Whole free sockets listeners → Whole (free ++ their_passes sockets) [] listeners
  whole_sockets free sockets listeners w = record {
    many = omega (arith, w.many, length-append free (their_passes sockets), length-map sockets (λ (x : Worker U). x.pass));
    theirs = (all_append (IsOf book) free (their_passes sockets) w.theirs.0 w.theirs.1, tt, w.theirs.2);
    each = λ k small. omega (arith, w.each k small, having_append (k + 1) free (their_passes sockets));
  }

  -- those of listeners come back
  pub whole_listeners : (free : List PassSeen) (sockets : List (Worker U)) (listeners : List (Worker T)) → Whole free sockets listeners → Whole (free ++ their_passes listeners) sockets []
  whole_listeners free sockets listeners w = record {
    many = omega (arith, w.many, length-append free (their_passes listeners), length-map listeners (λ (x : Worker T). x.pass));
    theirs = (all_append (IsOf book) free (their_passes listeners) w.theirs.0 w.theirs.2, w.theirs.1, tt);
    each = λ k small. omega (arith, w.each k small, having_append (k + 1) free (their_passes listeners));
  }

  -- at the end they are all
  pub are_all : (free : List PassSeen) → Whole free [] [] → AreAll book.id book.terms.seats free
  are_all free w = record {
    many = omega (arith, w.many);
    same = λ i p e. (at_of (IsOf book) free w.theirs.0 i p e).0;
    each = λ k small. found (k + 1) free (omega (arith, w.each k small));
  }

-- one for the number
abbrev weight : ℕ → ℕ → ℕ
weight k n = if k == n then 1 else 0

-- as many as before, among those that are free and those of workers
pub taken_count : {P : Type 0} (port : P) (limit : ℕ) (free : List PassSeen) (workers : List (Worker P)) (left : List PassSeen) (now : List (Worker P)) (result : Result (Unit {0}) P)
    → MayTakeOn port limit free workers left now result → length left + length now ≡ length free + length workers
taken_count port limit free workers left now (Err given) t = omega (arith, ap length t.1, ap length t.2)
taken_count {P} port limit free workers left now (Ok done) t =
    let one : Worker P = record { pass = t.pass; port = port; limit = limit; answer = Ok tt } in
    omega (arith, ap length t.first, ap length t.last, length-append workers (one ∷ []))

pub given_count : {P : Type 0} (free : List PassSeen) (workers : List (Worker P)) → length (free ++ their_passes workers) ≡ length free + length workers
given_count {P} free workers = omega (arith, length-append free (their_passes workers), length-map workers (λ (x : Worker P). x.pass))

-- the same passes, which may have seen and done more
module _ {P : Type 0} (R : Worker P → Worker P → Type 0) (same : (a b : Worker P) → R a b → IsSame a.pass b.pass) where
  pub as_many : (xs ys : List (Worker P)) → Matches R xs ys → length ys ≡ length xs
  as_many [] [] m = refl
  as_many [] (y ∷ ys) m = absurd m
  as_many (x ∷ xs) [] m = absurd m
  as_many (x ∷ xs) (y ∷ ys) m = let rest = as_many xs ys m.1 in omega arith

  pub having_same : (n : ℕ) (xs ys : List (Worker P)) → Matches R xs ys → having n (their_passes ys) ≡ having n (their_passes xs)
  having_same n [] [] m = refl
  having_same n [] (y ∷ ys) m = absurd m
  having_same n (x ∷ xs) [] m = absurd m
  having_same n (x ∷ xs) (y ∷ ys) m = let rest = having_same n xs ys m.1 in let one = ap (λ (k : ℕ). weight k n) (same x y m.0).number in omega (arith, rest, one)

  pub of_same : (book : BookSeen) (xs ys : List (Worker P)) → Matches R xs ys → AllByRecursion (IsOf book) (their_passes xs) → AllByRecursion (IsOf book) (their_passes ys)
  of_same book [] [] m a = tt
  of_same book [] (y ∷ ys) m a = absurd m
  of_same book (x ∷ xs) [] m a = absurd m
  of_same book (x ∷ xs) (y ∷ ys) m a = let s = same x y m.0 in ((s.book ∙ a.0.0, s.terms ∙ a.0.1), of_same book xs ys m.1 a.1)

-- whatever the workers did
pub whole_ran : {U T : Type 0} (book : BookSeen) (access : Access) (free : List PassSeen) (sockets sockets' : List (Worker U)) (listeners listeners' : List (Worker T))
    (R : Worker U → Worker U → Type 0) (S : Worker T → Worker T → Type 0) → ((a b : Worker U) → R a b → IsSame a.pass b.pass) → ((a b : Worker T) → S a b → IsSame a.pass b.pass)
    → IsWhole (record { book = book; access = access; free = free; sockets = sockets; listeners = listeners }) → Matches R sockets sockets' → Matches S listeners listeners'
    → IsWhole (record { book = book; access = access; free = free; sockets = sockets'; listeners = listeners' })
whole_ran book access free sockets sockets' listeners listeners' R S r s w m n = record {
  many = omega (arith, w.many, as_many R r sockets sockets' m, as_many S s listeners listeners' n);
  theirs = (w.theirs.0, of_same R r book sockets sockets' m w.theirs.1, of_same S s book listeners listeners' n w.theirs.2);
  each = λ k small. omega (arith, w.each k small, having_same R r (k + 1) sockets sockets' m, having_same S s (k + 1) listeners listeners' n);
}

-- of each of the workers
pub book_at : {P : Type 0} (book : BookSeen) (ws : List (Worker P)) → AllByRecursion (IsOf book) (their_passes ws) → (i : ℕ) (w : Worker P) → i < length ws → w ≡ slice_index_or ws i w → w.pass.book ≡ book.id
book_at book [] a i w small e = absurd (omega (arith, small))
book_at book (x ∷ ws) a zero w small e = ap (λ (y : Worker _). y.pass.book) e ∙ a.0.0
book_at book (x ∷ ws) a (suc i) w small e = book_at book ws a.1 i w (omega (arith, small)) e

-- what holds at each place
pub matches_at : {A : Type 0} (R : A → A → Type 0) (xs ys : List A) → length ys ≡ length xs → ((i : ℕ) (d : A) → i < length xs → R (slice_index_or xs i d) (slice_index_or ys i d)) → Matches R xs ys
matches_at R [] [] e f = tt
matches_at R [] (y ∷ ys) e f = absurd (omega (arith, e))
matches_at R (x ∷ xs) [] e f = absurd (omega (arith, e))
matches_at R (x ∷ xs) (y ∷ ys) e f = (f 0 x (omega arith), matches_at R xs ys (omega (arith, e)) (λ i d small. f (suc i) d (omega (arith, small))))
