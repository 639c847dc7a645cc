-- Which connections are closed at each event, and that they are closed in that order.
use Rattle.std.proofs.Common.{◌≡◌, ◌≢◌, ◌<◌, ◌∙◌, not, ℕ, zero, suc, List, [], ◌∷◌, ◌++◌, length, get_or, Bool, true, false, Option, Some, None, Result, Ok, Err, cond, refl, sym, ap, subst, append-nil, append_assoc, arith}
use Rattle.std.specs.Prelude.{IfOk}
use Rattle.std.specs.List.{AllByRecursion}
use Rattle.std.specs.List.Sorted.{IsPermutation}
use Rattle.std.proofs.lemmas.List.Sorted.{IsPermutation-append_right}
use Rattle.dns_io.specs.declared.fault.OutOfMemory.{OutOfMemory}
use Rattle.dns_io.specs.Told.{Grows, Keeps}
use Rattle.dns_io.proofs.ToldContents.{Grows-Keeps, Grows-more, Grows-nothing, Keeps-Grows}
use Rattle.dns_server_core.specs.declared.event.Event.{Event}
use Rattle.dns_server_core.specs.declared.event.Event.TheVariants.{Bytes}
use Rattle.dns_server_core.specs.Connections.{Connection, Piece}
use Rattle.dns_server_core.specs.Order.{Climbs}
use Rattle.dns_server_core.specs.Steps.{moved, step}
use Rattle.dns_server_core.proofs.ConnectionTurns.{own_turn}
use Rattle.dns_server_core.proofs.KeptOrder.{all_at, all_weaker, bytes_others}
use Rattle.dns_readiness.specs.declared.came.Came.{Came}
use Rattle.dns_readiness.specs.declared.came.Came.TheVariants as came
use Rattle.dns_crowd.specs.Crowds.{event_of}
use Rattle.dns_crowd.specs.Turns.{ClosesAs, ClosesEach, ShutsAll, closed_at, done_by, gone_number, late_by, stands_behind, stays_by}

-- of the connections of other numbers none goes
gone_others : (at n : ℕ) (piece : List ℕ) (k : Connection) → k.number ≢ n → gone_number (step (Bytes at n piece) k) k.number ≡ []
gone_others at n piece k h = ap (λ (o : Option Connection). gone_number o k.number) (bytes_others at n piece k h)

pub none_done : (at n : ℕ) (piece : List ℕ) (ks : List Connection) → AllByRecursion (λ k. k.number ≢ n) ks → done_by (Bytes at n piece) ks ≡ []
none_done at n piece [] h = refl
none_done at n piece (k ∷ ks) h = ap (λ (l : List ℕ). l ++ done_by (Bytes at n piece) ks) (gone_others at n piece k h.0) ∙ none_done at n piece ks h.1

one_done : (at n : ℕ) (piece : List ℕ) (ks : List Connection) (i : ℕ) (d : Connection) → Climbs ks → i < length ks → (get_or ks i d).number ≡ n
    → done_by (Bytes at n piece) ks ≡ gone_number (step (Bytes at n piece) (get_or ks i d)) (get_or ks i d).number
one_done at n piece [] i d c l e = absurd (omega arith)
one_done at n piece (k ∷ ks) zero d c l e =
    ap (λ (l : List ℕ). gone_number (step (Bytes at n piece) k) k.number ++ l)
    (none_done at n piece ks (all_weaker (λ j. k.number < j.number) (λ j. j.number ≢ n) (λ j p q. omega (arith, p, q, e)) ks c.0))
    ∙ append-nil (gone_number (step (Bytes at n piece) k) k.number)
one_done at n piece (k ∷ ks) (suc i) d c l e =
    let p = all_at (λ j. k.number < j.number) ks i d (omega arith) c.0 in
    ap (λ (m : List ℕ). m ++ done_by (Bytes at n piece) ks) (gone_others at n piece k (λ q. omega (arith, p, q, e))) ∙ one_done at n piece ks i d c.1 (omega arith) e

stepped : (at n : ℕ) (piece : List ℕ) (ks : List Connection) (i : ℕ) (k : Connection) (o : Option Connection) → k ≡ get_or ks i k → (get_or ks i k).number ≡ n → moved k (Piece (record { at = at; piece = piece })) ≡ o
    → step (Bytes at n piece) (get_or ks i k) ≡ o
stepped at n piece ks i k o e m g =
    subst (λ (j : Connection). step (Bytes at n piece) j ≡ o) e (ap (moved k) (own_turn at n piece k (ap (λ (j : Connection). j.number) e ∙ m)) ∙ g)

-- the one that goes, and the one that stays
pub goes_done : (at n : ℕ) (piece : List ℕ) (ks : List Connection) (i : ℕ) (k : Connection) → Climbs ks → i < length ks → k ≡ get_or ks i k → (get_or ks i k).number ≡ n
    → moved k (Piece (record { at = at; piece = piece })) ≡ None → done_by (Bytes at n piece) ks ≡ n ∷ []
goes_done at n piece ks i k c l e m g =
    one_done at n piece ks i k c l m
    ∙ ap (λ (o : Option Connection). gone_number o (get_or ks i k).number) (stepped at n piece ks i k None e m g)
    ∙ ap (λ (j : ℕ). j ∷ []) m

pub stays_done : (at n : ℕ) (piece : List ℕ) (ks : List Connection) (i : ℕ) (k new : Connection) → Climbs ks → i < length ks → k ≡ get_or ks i k → (get_or ks i k).number ≡ n
    → moved k (Piece (record { at = at; piece = piece })) ≡ Some new → done_by (Bytes at n piece) ks ≡ []
stays_done at n piece ks i k new c l e m g =
    one_done at n piece ks i k c l m ∙ ap (λ (o : Option Connection). gone_number o (get_or ks i k).number) (stepped at n piece ks i k (Some new) e m g)

-- one from a peer that is not safe
unsafe_one : (is_done safe : Bool) (n : ℕ) → is_done ≡ not safe → cond safe [] (n ∷ []) ≡ cond is_done (n ∷ []) []
unsafe_one is_done true n e = sym (ap (λ (b : Bool). cond b (n ∷ []) []) e)
unsafe_one is_done false n e = sym (ap (λ (b : Bool). cond b (n ∷ []) []) e)

pub unsafe_shuts : (result : Result Bool OutOfMemory) (safe : Bool) (n : ℕ) → IfOk result (λ is_done. is_done ≡ not safe) → IfOk result (λ is_done. cond safe [] (n ∷ []) ≡ cond is_done (n ∷ []) [])
unsafe_shuts (Ok is_done) safe n e = unsafe_one is_done safe n e
unsafe_shuts (Err fault) safe n e = tt

-- the room is nothing to those that are late
pub stays_room : (room : List ℕ) (c : Came) (last : ℕ) (ks : List Connection) → stays_by (event_of [] c) last ks ≡ stays_by (event_of room c) last ks
stays_room room (came.Accepted at conn peer limit) last ks = refl
stays_room room (came.Bytes at conn count) last ks = refl
stays_room room (came.Ended at conn) last ks = refl
stays_room room (came.Tick at) last ks = refl

pub late_room : (room : List ℕ) (c : Came) (last : ℕ) (ks : List Connection) → late_by (event_of [] c) last ks ≡ late_by (event_of room c) last ks
late_room room (came.Accepted at conn peer limit) last ks = refl
late_room room (came.Bytes at conn count) last ks = refl
late_room room (came.Ended at conn) last ks = refl
late_room room (came.Tick at) last ks = refl

-- those that one event closes
pub shuts_with : (a b c d : Option (List ℕ)) (xs ys all : List ℕ) → xs ++ ys ≡ all → Keeps a b → Grows b c xs → ShutsAll c d ys → ShutsAll a d all
shuts_with a b c d xs ys all e k g q = record {
  closed = xs ++ q.closed;
  grown = Grows-more a c d xs q.closed (Keeps-Grows a b c xs k g) q.grown;
  all = subst (λ (l : List ℕ). IsPermutation l (xs ++ q.closed)) e (IsPermutation-append_right xs ys q.closed q.all);
}

-- what the events leave open, and one event more
abbrev pub stood : List Connection → List Event → List Connection
stood ks [] = ks
stood ks (e ∷ es) = stood (stands_behind e ks) es

pub stood_push : (ks : List Connection) (es : List Event) (e : Event) → stood ks (es ++ e ∷ []) ≡ stands_behind e (stood ks es)
stood_push ks [] e = refl
stood_push ks (x ∷ es) e = stood_push (stands_behind x ks) es e

each_push : (ks : List Connection) (es : List Event) (cs ds : List ℕ) (e : Event) → ClosesEach ks es cs → IsPermutation (closed_at e (stood ks es)) ds → ClosesEach ks (es ++ e ∷ []) (cs ++ ds)
each_push ks [] cs ds e h m = (ds, [], ap (λ (l : List ℕ). l ++ ds) h ∙ sym (append-nil ds), m, refl)
each_push ks (x ∷ es) cs ds e h m = (
  h.0,
  h.1 ++ ds,
  ap (λ (l : List ℕ). l ++ ds) h.2 ∙ append_assoc h.0 h.1 ds,
  h.3,
  each_push (stands_behind x ks) es h.1 ds e h.4 m,
)

pub closes_none : (a : Option (List ℕ)) → ClosesAs a a []
closes_none a = record { closed = []; grown = Grows-nothing a; each = refl }

pub closes_more : (a b c d : Option (List ℕ)) (es : List Event) (e : Event) (ks : List Connection) → ks ≡ stood [] es → ClosesAs a b es → Keeps b c → ShutsAll c d (closed_at e ks) → ClosesAs a d (es ++ e ∷ [])
closes_more a b c d es e ks t p k q = record {
  closed = p.closed ++ q.closed;
  grown = Grows-more a b d p.closed q.closed p.grown (Keeps-Grows b c d q.closed k q.grown);
  each = each_push [] es p.closed q.closed e p.each (subst (λ (l : List Connection). IsPermutation (closed_at e l) q.closed) t q.all);
}

pub closes_kept : (a b c : Option (List ℕ)) (es : List Event) → ClosesAs a b es → Keeps b c → ClosesAs a c es
closes_kept a b c es p k = record { closed = p.closed; grown = Grows-Keeps a b c p.closed p.grown k; each = p.each }
