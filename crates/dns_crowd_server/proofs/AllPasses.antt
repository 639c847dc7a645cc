-- The passes of a crew are all passes of its book.
use Rattle.std.proofs.Common.{◌≡◌, ◌<◌, ◌≤◌, ◌+◌, ◌∙◌, ℕ, zero, suc, List, [], ◌∷◌, ◌++◌, length, refl, sym, ap, subst, arith}
use Rattle.std.specs.List.{AllByRecursion}
use Rattle.std.proofs.lemmas.List.{append-nil, length-append, length-map}
use mathlib.Core.Option.{some, some-injective, some-ne-none}
use lib.ListN.{get_elem?}
use Rattle.dns_ticket_lock.specs.declared.view.Account.{Account}
use Rattle.dns_ticket_lock.specs.declared.view.Terms.{Terms}
use Rattle.dns_ticket_lock.specs.Lists.{total}
use Rattle.dns_ticket_lock.specs.Rule.{fresh}
use Rattle.dns_ticket_lock.specs.Passes.{AreAll, AreNew, ArePasses, BookSeen, PassSeen, IsSame, pass_faults}
use Rattle.dns_server.specs.declared.worker.Worker.{Worker}
use Rattle.dns_server.specs.Servers.{IsOf, Matches, their_passes, their_ports}
use Rattle.dns_server.proofs.AllPasses.{all_at, there}
use Rattle.dns_server.proofs.SamePasses.{free_same}
use Rattle.dns_crowd_server.specs.Serving.{IsNewWorker}

-- what holds of each of two lists
pub both_all : {X : Type 0} (P : X → Type 0) (xs ys : List X) → AllByRecursion P (xs ++ ys) → AllByRecursion P xs × AllByRecursion P ys
both_all P [] ys a = (tt, a)
both_all P (x ∷ xs) ys a = let rest = both_all P xs ys a.1 in ((a.0, rest.0), rest.1)

-- a pass that has seen the opening rows, and settled nothing
abbrev pub IsNewPass : Terms → PassSeen → Type 0
IsNewPass t p = (p.terms ≡ t) × (p.account ≡ fresh t)

pub new_passes : (t : Terms) (ps : List PassSeen) → AreNew t ps → AllByRecursion (IsNewPass t) ps
new_passes t ps new = all_at (IsNewPass t) ps new

-- all of them are of the book
pub of_book : (book : BookSeen) (ps : List PassSeen) → ArePasses book ps → AllByRecursion (IsOf book) ps
of_book book ps a = all_at (IsOf book) ps (λ i p e. ((a.order i p e).0, (a.new i p e).0))

-- they have counted nothing
pub none_counted : (t : Terms) (ps : List PassSeen) → AllByRecursion (IsNewPass t) ps → total pass_faults ps ≡ 0
none_counted t [] a = refl
none_counted t (p ∷ ps) a =
    let one : p.account.faults ≡ 0 = ap (λ (x : Account). x.faults) a.0.1 in
    let others : total pass_faults ps ≡ 0 = none_counted t ps a.1 in
    omega (arith, one, others)

-- workers by whom they are settled, each of whose ports was not used
pub new_workers : {P : Type 0} (t : Terms) (IsFresh : P → Type 0) (ws : List (Worker P)) → AllByRecursion (IsNewPass t) (their_passes ws) → AllByRecursion IsFresh (their_ports ws)
    → AllByRecursion (IsNewWorker t IsFresh) ws
new_workers t IsFresh [] a b = tt
new_workers t IsFresh (w ∷ ws) a b = (record { terms = a.0.0; account = a.0.1; port = b.0 }, new_workers t IsFresh ws a.1 b.1)

none_left : (ps : List PassSeen) → length ps ≡ 0 → ps ≡ []
none_left [] e = refl
none_left (p ∷ ps) e = absurd (omega (arith, e))

-- how many ports there are
pub port_count : {P : Type 0} (ws : List (Worker P)) (ports : List P) → their_ports ws ≡ ports → length ws ≡ length ports
port_count {P} ws ports e = omega (arith, length-map ws (λ (w : Worker P). w.port), ap length e)

pub pass_count : {P : Type 0} (ws : List (Worker P)) → length (their_passes ws) ≡ length ws
pass_count {P} ws = length-map ws (λ (w : Worker P). w.pass)

-- there was one more port, and so there is one more pass
pub some_left : {X : Type 0} (done left rest all : List X) (x : X) → done ++ left ≡ all → left ≡ x ∷ rest → length done + 1 ≤ length all
some_left done left rest all x e is =
    let a = ap length e in
    let b = length-append done left in
    let c = ap length is in
    omega (arith, a, b, c)

pub some_free : {P : Type 0} (ws : List (Worker P)) (done ports : List P) (free left : List PassSeen) → their_ports ws ≡ done → length done + 1 ≤ length ports
    → free ≡ their_passes ws ++ left → length ports ≤ length free → 0 < length left
some_free ws done ports free left theirs more parts enough = omega (arith, port_count ws done theirs, more, ap length parts, length-append (their_passes ws) left, pass_count ws, enough)

-- those that are left for others
pub free_count : {P : Type 0} (ws : List (Worker P)) (free left : List PassSeen) → free ≡ their_passes ws ++ left → length free ≡ length ws + length left
free_count ws free left parts = omega (arith, ap length parts, length-append (their_passes ws) left, pass_count ws)

-- where as many workers as passes were taken on, none is left
pub none_free : {P Q : Type 0} (passes left rest : List PassSeen) (xs : List (Worker P)) (ys : List (Worker Q)) → passes ≡ their_passes xs ++ left → left ≡ their_passes ys ++ rest
    → length passes ≡ length xs + length ys → rest ≡ []
none_free passes left rest xs ys first second many =
    none_left rest (omega (arith, many, ap length first, ap length second, length-append (their_passes xs) left, length-append (their_passes ys) rest, pass_count xs, pass_count ys))

pub all_out : {P Q : Type 0} (passes left rest : List PassSeen) (xs : List (Worker P)) (ys : List (Worker Q)) → passes ≡ their_passes xs ++ left → left ≡ their_passes ys ++ rest
    → rest ≡ [] → passes ≡ their_passes xs ++ their_passes ys
all_out passes left rest xs ys first second none =
    let whole : their_passes ys ++ rest ≡ their_passes ys = ap (λ (l : List PassSeen). their_passes ys ++ l) none ∙ append-nil (their_passes ys) in
    first ∙ ap (λ (l : List PassSeen). their_passes xs ++ l) (second ∙ whole)

-- what comes back where none was left
pub all_back : {P Q : Type 0} (free first all : List PassSeen) (xs : List (Worker P)) (ys : List (Worker Q)) → free ≡ [] → first ≡ free ++ their_passes xs → all ≡ first ++ their_passes ys
    → all ≡ their_passes xs ++ their_passes ys
all_back free first all xs ys none one two =
    two ∙ ap (λ (l : List PassSeen). l ++ their_passes ys) (one ∙ ap (λ (l : List PassSeen). l ++ their_passes xs) none)

-- passes that are the same ones, each at its place
as_many : (ps qs : List PassSeen) → Matches IsSame ps qs → length qs ≡ length ps
as_many [] [] m = refl
as_many [] (q ∷ qs) m = absurd m
as_many (p ∷ ps) [] m = absurd m
as_many (p ∷ ps) (q ∷ qs) m = let rest = as_many ps qs m.1 in omega (arith, rest)

at_first : (ps qs : List PassSeen) → Matches IsSame ps qs → (i : ℕ) (q : PassSeen) → get_elem? qs i ≡ some q → (p : PassSeen) × (get_elem? ps i ≡ some p) × IsSame p q
at_first [] [] m i q e = absurd (some-ne-none q (sym e))
at_first [] (x ∷ qs) m i q e = absurd m
at_first (p ∷ ps) [] m i q e = absurd m
at_first (p ∷ ps) (x ∷ qs) m zero q e = (p, refl, subst (IsSame p) (some-injective x q e) m.0)
at_first (p ∷ ps) (x ∷ qs) m (suc i) q e = at_first ps qs m.1 i q e

at_last : (ps qs : List PassSeen) → Matches IsSame ps qs → (i : ℕ) (p : PassSeen) → get_elem? ps i ≡ some p → (q : PassSeen) × (get_elem? qs i ≡ some q) × IsSame p q
at_last [] [] m i p e = absurd (some-ne-none p (sym e))
at_last [] (q ∷ qs) m i p e = absurd m
at_last (x ∷ ps) [] m i p e = absurd m
at_last (x ∷ ps) (q ∷ qs) m zero p e = (q, refl, subst (λ (y : PassSeen). IsSame y q) (some-injective x p e) m.0)
at_last (x ∷ ps) (q ∷ qs) m (suc i) p e = at_last ps qs m.1 i p e

-- they are all of the book
pub still_all : (book : BookSeen) (ps qs : List PassSeen) → ArePasses book ps → Matches IsSame ps qs → AreAll book.id book.terms.seats qs
still_all book ps qs a m = record {
  many = as_many ps qs m ∙ a.many;
  same = λ i q e. let one = at_first ps qs m i q e in one.2.book ∙ (a.order i one.0 one.1).0;
  each = λ k small. let first = there ps k (omega (arith, a.many, small)) in let one = at_last ps qs m k first.0 first.1 in (k, one.0, one.1, one.2.number ∙ (a.order k first.0 first.1).1);
}

pub first_all : (book : BookSeen) (ps : List PassSeen) → ArePasses book ps → AreAll book.id book.terms.seats ps
first_all book ps a = still_all book ps ps a (free_same ps)
