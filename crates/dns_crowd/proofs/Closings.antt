-- Connections that are closed: each was among those that there were, and is not among those that are open.
use Rattle.std.proofs.Common.{◌≡◌, ◌≢◌, ◌<◌, ◌+◌, ◌⊎◌, not, Result, Ok, Err, ℕ, zero, suc, List, [], ◌∷◌, ◌++◌, length, get_or, Bool, true, false, Option, Some, None, cond, inl, inr, refl, sym, ap, subst, append-nil, arith}
use Rattle.std.specs.List.{AllByRecursion, Contains, filter_map, remove}
use Rattle.std.proofs.lemmas.List.Elements.{Contains-append_cases, Contains-append_left, Contains-append_right}
use Rattle.dns_server_core.specs.declared.event.Event.{Event}
use Rattle.dns_server_core.specs.declared.event.Event.TheVariants.{Accepted, Bytes, Ended, Datagram, Tick, Stop}
use Rattle.dns_server_core.specs.Connections.{Connection, Kept, accepted, is_safe, is_within, new_connection}
use Rattle.dns_server_core.specs.Events.{last_number, number_in}
use Rattle.dns_server_core.specs.Order.{Climbs, IsGoing, IsKept, IsRest, IsUpTo, next}
use Rattle.dns_server_core.specs.Steps.{open_next, step}
use Rattle.dns_server_core.specs.Valid.{IsAbove, Rises}
use Rattle.dns_server_core.proofs.KeptOrder.{all_at, all_kept, all_push, all_weaker, IsKept-next, step-number}
use Rattle.std.specs.Prelude.{IfOk}
use Rattle.dns_io.specs.declared.fault.OutOfMemory.{OutOfMemory}
use Rattle.dns_io.specs.Told.{Grows, Keeps}
use Rattle.dns_io.proofs.ToldContents.{Grows-Keeps, Grows-more, Grows-nothing, Keeps-Grows}
use Rattle.dns_laws.proofs.InTurn.{twice}
use Rattle.dns_readiness.specs.declared.came.Came.{Came}
use Rattle.dns_readiness.specs.declared.came.Came.TheVariants as came
use Rattle.dns_readiness.specs.Came.{number_of}
use Rattle.dns_crowd.specs.Crowds.{event_of}
use Rattle.dns_crowd.specs.Turns.{IsDone, IsShut, LetsGo, late_number, late_numbers, next_lost, numbers_of, Shuts, stays_by, timely}

-- those that are in time are among all
in_time_one : (P : Connection → Type 0) (k : Connection) (b : Bool) (ks : List Connection) → P k → AllByRecursion P ks → AllByRecursion P (cond b (k ∷ ks) ks)
in_time_one P k true ks p h = (p, h)
in_time_one P k false ks p h = h

pub all_timely : (P : Connection → Type 0) (at : ℕ) (ks : List Connection) → AllByRecursion P ks → AllByRecursion P (timely at ks)
all_timely P at [] h = tt
all_timely P at (k ∷ ks) h = in_time_one P k (is_within k.limit k.base at) (timely at ks) h.0 (all_timely P at ks h.1)

pub all_left : (P : Connection → Type 0) (at : ℕ) (before after : List Connection) → LetsGo at before after → AllByRecursion P before → AllByRecursion P after
all_left P at before after (inl e) h = subst (AllByRecursion P) (sym e) h
all_left P at before after (inr e) h = subst (AllByRecursion P) (sym e) (all_timely P at before h)

-- a list of numbers, and what holds of each
pub all_numbers : (P Q : ℕ → Type 0) → ((n : ℕ) → P n → Q n) → (ns : List ℕ) → AllByRecursion P ns → AllByRecursion Q ns
all_numbers P Q f [] h = tt
all_numbers P Q f (n ∷ ns) h = (f n h.0, all_numbers P Q f ns h.1)

pub numbers_push : (P : ℕ → Type 0) (ns ms : List ℕ) → AllByRecursion P ns → AllByRecursion P ms → AllByRecursion P (ns ++ ms)
numbers_push P [] ms h i = i
numbers_push P (n ∷ ns) ms h i = (h.0, numbers_push P ns ms h.1 i)

contains_one : (P : ℕ → Type 0) (ns : List ℕ) (n i : ℕ) → AllByRecursion P ns → i < length ns → get_or ns i n ≡ n → P n
contains_one P [] n i h l e = absurd (omega arith)
contains_one P (m ∷ ns) n zero h l e = subst P e h.0
contains_one P (m ∷ ns) n (suc i) h l e = contains_one P ns n i h.1 (omega arith) e

pub of_contained : (P : ℕ → Type 0) (ns : List ℕ) (n : ℕ) → AllByRecursion P ns → Contains ns n → P n
of_contained P ns n h at = contains_one P ns n at.0 h at.1 at.2

by_number : (P : ℕ → Type 0) (ks : List Connection) → AllByRecursion (λ k. P k.number) ks → AllByRecursion P (numbers_of ks)
by_number P [] h = tt
by_number P (k ∷ ks) h = (h.0, by_number P ks h.1)

-- each connection is among their numbers
pub owns : (ks : List Connection) → AllByRecursion (λ k. Contains (numbers_of ks) k.number) ks
owns [] = tt
owns (k ∷ ks) = (
  (0, omega arith, refl),
  all_weaker (λ j. Contains (numbers_of ks) j.number) (λ j. Contains (k.number ∷ numbers_of ks) j.number) (λ j c. Contains-append_right (k.number ∷ []) (numbers_of ks) j.number c) ks (owns ks),
)

-- the numbers of those that an event leaves open were there, or are accepted by it
safe_one : (P : Connection → Type 0) (b : Bool) (k : Connection) → P k → AllByRecursion P (cond b (k ∷ []) [])
safe_one P true k h = (h, tt)
safe_one P false k h = tt

accepted_number : (P : ℕ → Type 0) (e : Event) → AllByRecursion P (number_in e) → AllByRecursion (λ k. P k.number) (accepted e)
accepted_number P (Accepted at conn peer limit) h = safe_one (λ k. P k.number) (is_safe peer) (new_connection conn peer limit at) h.0
accepted_number P (Bytes at conn piece) h = tt
accepted_number P (Ended at conn) h = tt
accepted_number P (Datagram at peer bytes) h = tt
accepted_number P (Tick at) h = tt
accepted_number P (Stop at) h = tt

pub next_numbers : (P : ℕ → Type 0) (e : Event) (ks : List Connection) → AllByRecursion (λ k. P k.number) ks → AllByRecursion P (number_in e) → AllByRecursion (λ k. P k.number) (open_next e ks)
next_numbers P e ks h n =
    all_push (λ k. P k.number) (filter_map (step e) ks) (accepted e)
    (all_kept (λ k. P k.number) (step e) (λ k l f p. subst P (sym (step-number e k l f)) p) ks h)
    (accepted_number P e n)

numbers_in_order : (e : Event) → AllByRecursion (Contains (number_in e)) (number_in e)
numbers_in_order (Accepted at conn peer limit) = ((0, omega arith, refl), tt)
numbers_in_order (Bytes at conn piece) = tt
numbers_in_order (Ended at conn) = tt
numbers_in_order (Datagram at peer bytes) = tt
numbers_in_order (Tick at) = tt
numbers_in_order (Stop at) = tt

pub known_next : (known : List ℕ) (e : Event) (ks : List Connection) → AllByRecursion (λ k. Contains known k.number) ks
    → AllByRecursion (λ k. Contains (known ++ number_in e) k.number) (open_next e ks)
known_next known e ks h =
    next_numbers (Contains (known ++ number_in e)) e ks
    (all_weaker (λ k. Contains known k.number) (λ k. Contains (known ++ number_in e) k.number) (λ k c. Contains-append_left known (number_in e) k.number c) ks h)
    (all_numbers (Contains (number_in e)) (Contains (known ++ number_in e)) (λ n c. Contains-append_right known (number_in e) n c) (number_in e) (numbers_in_order e))

-- a number of these connections, each of which is known, is known
pub known_number : (known : List ℕ) (ks : List Connection) (n : ℕ) → AllByRecursion (λ k. Contains known k.number) ks → Contains (numbers_of ks) n → Contains known n
known_number known ks n h c = of_contained (Contains known) (numbers_of ks) n (by_number (Contains known) ks h) c

either_known : (known now more : List ℕ) (n : ℕ) → (Contains now n → Contains known n) → (Contains now n ⊎ Contains more n) → Contains (known ++ more) n
either_known known now more n f (inl c) = Contains-append_left known more n (f c)
either_known known now more n f (inr c) = Contains-append_right known more n c

pub known_with : (known more : List ℕ) (ks : List Connection) (n : ℕ) → AllByRecursion (λ k. Contains known k.number) ks → Contains (numbers_of ks ++ more) n → Contains (known ++ more) n
known_with known more ks n h c =
    either_known known (numbers_of ks) more n (λ d. known_number known ks n h d) (Contains-append_cases (numbers_of ks) more n c)

-- no connection of a number is open, when that of the number was removed
pub removed_gone : (ks : List Connection) (i : ℕ) (n : ℕ) (d : Connection) → Climbs ks → i < length ks → (get_or ks i d).number ≡ n → AllByRecursion (λ k. k.number ≢ n) (remove ks i)
removed_gone [] i n d c l e = absurd (omega arith)
removed_gone (k ∷ ks) zero n d c l e = all_weaker (λ j. k.number < j.number) (λ j. j.number ≢ n) (λ j p q. omega (arith, p, q, e)) ks c.0
removed_gone (k ∷ ks) (suc i) n d c l e =
    let p = all_at (λ j. k.number < j.number) ks i d (omega arith) c.0 in
    (λ q. omega (arith, p, q, e), removed_gone ks i n d c.1 (omega arith) e)

number_at : (ks : List Connection) (i : ℕ) (d : Connection) (n : ℕ) → i < length ks → (get_or ks i d).number ≡ n → get_or (numbers_of ks) i n ≡ n
number_at [] i d n l e = absurd (omega arith)
number_at (k ∷ ks) zero d n l e = e
number_at (k ∷ ks) (suc i) d n l e = number_at ks i d n (omega arith) e

numbers_long : (ks : List Connection) → length (numbers_of ks) ≡ length ks
numbers_long [] = refl
numbers_long (k ∷ ks) = ap suc (numbers_long ks)

pub number_contained : (ks : List Connection) (i : ℕ) (d : Connection) (n : ℕ) → i < length ks → (get_or ks i d).number ≡ n → Contains (numbers_of ks) n
number_contained ks i d n l e = (i, omega (arith, numbers_long ks), number_at ks i d n l e)

pub removed_shut : (ks : List Connection) (i : ℕ) (n : ℕ) (d : Connection) → Climbs ks → i < length ks → (get_or ks i d).number ≡ n → IsShut (numbers_of ks) (remove ks i) n
removed_shut ks i n d c l e = record { among = number_contained ks i d n l e; gone = removed_gone ks i n d c l e }

-- those that are late
shut_cons : (k : Connection) (known : List ℕ) (ks : List Connection) (b : Bool) (n : ℕ) → k.number < n → IsShut known ks n → IsShut (k.number ∷ known) (cond b (k ∷ ks) ks) n
shut_cons k known ks b n l s = record {
  among = Contains-append_right (k.number ∷ []) known n s.among;
  gone = in_time_one (λ j. j.number ≢ n) k b ks (λ q. omega (arith, l, q)) s.gone;
}

shut_late : (last : ℕ) (k : Connection) (ks : List Connection) (b : Bool) → is_within k.limit k.base last ≡ b → AllByRecursion (λ j. k.number < j.number) ks
    → AllByRecursion (IsShut (numbers_of (k ∷ ks)) (cond b (k ∷ timely last ks) (timely last ks))) (cond b [] (k.number ∷ []))
shut_late last k ks true e c = tt
shut_late last k ks false e c = (
  record {
    among = (0, omega arith, refl);
    gone = all_timely (λ j. j.number ≢ k.number) last ks (all_weaker (λ j. k.number < j.number) (λ j. j.number ≢ k.number) (λ j p q. omega (arith, p, q)) ks c);
  },
  tt,
)

shut_others : (last : ℕ) (k : Connection) (ks : List Connection) (b : Bool) (ns : List ℕ) → AllByRecursion (λ j. k.number < j.number) ks
    → AllByRecursion (IsShut (numbers_of ks) (timely last ks)) ns → AllByRecursion (IsShut (numbers_of (k ∷ ks)) (cond b (k ∷ timely last ks) (timely last ks))) ns
shut_others last k ks b ns c h =
    all_numbers (IsShut (numbers_of ks) (timely last ks)) (IsShut (numbers_of (k ∷ ks)) (cond b (k ∷ timely last ks) (timely last ks)))
    (λ n s. shut_cons k (numbers_of ks) (timely last ks) b n (of_contained (λ m. k.number < m) (numbers_of ks) n (by_number (λ m. k.number < m) ks c) s.among) s) ns h

pub late_shut : (last : ℕ) (ks : List Connection) → Climbs ks → AllByRecursion (IsShut (numbers_of ks) (timely last ks)) (late_numbers last ks)
late_shut last [] c = tt
late_shut last (k ∷ ks) c =
    numbers_push (IsShut (numbers_of (k ∷ ks)) (timely last (k ∷ ks))) (late_number last k) (late_numbers last ks)
    (shut_late last k ks (is_within k.limit k.base last) refl c.0)
    (shut_others last k ks (is_within k.limit k.base last) (late_numbers last ks) c.0 (late_shut last ks c.1))

-- those that stay open as time passes
pub stays_alike : (e : Event) (last : ℕ) (ks : List Connection) → timely last (stays_by e last ks) ≡ timely last ks
stays_alike (Accepted at conn peer limit) last ks = refl
stays_alike (Bytes at conn piece) last ks = refl
stays_alike (Ended at conn) last ks = refl
stays_alike (Datagram at peer bytes) last ks = refl
stays_alike (Tick at) last ks = sym (twice last ks)
stays_alike (Stop at) last ks = refl

pub stays_lets : (e : Event) (last : ℕ) (ks : List Connection) → LetsGo last ks (stays_by e last ks)
stays_lets (Accepted at conn peer limit) last ks = inl refl
stays_lets (Bytes at conn piece) last ks = inl refl
stays_lets (Ended at conn) last ks = inl refl
stays_lets (Datagram at peer bytes) last ks = inl refl
stays_lets (Tick at) last ks = inr refl
stays_lets (Stop at) last ks = inl refl

-- one that was shut before an event is so behind it, and behind those that are let go
pub shut_left : (known : List ℕ) (at : ℕ) (before after : List Connection) (n : ℕ) → LetsGo at before after → IsShut known before n → IsShut known after n
shut_left known at before after n g s = record { among = s.among; gone = all_left (λ k. k.number ≢ n) at before after g s.gone }

above_all : (greatest : Option ℕ) (n m : ℕ) → IsUpTo greatest n → IsAbove greatest m → n < m
above_all None n m p q = absurd p
above_all (Some g) n m p q = omega arith

others_new : (greatest : Option ℕ) (n : ℕ) (ms : List ℕ) → IsUpTo greatest n → Rises greatest ms → AllByRecursion (λ m. m ≢ n) ms
others_new greatest n [] u r = tt
others_new greatest n (m ∷ ms) u r = let l = above_all greatest n m u r.0 in (λ q. omega (arith, l, q), others_new (Some m) n ms (omega (arith, l)) r.1)

pub gone_next : (greatest : Option ℕ) (e : Event) (ks : List Connection) (n : ℕ) → IsUpTo greatest n → Rises greatest (number_in e) → AllByRecursion (λ k. k.number ≢ n) ks
    → AllByRecursion (λ k. k.number ≢ n) (open_next e ks)
gone_next greatest e ks n u r h = next_numbers (λ m. m ≢ n) e ks h (others_new greatest n (number_in e) u r)

-- all numbers are up to the greatest
up_more : (greatest : Option ℕ) (n m : ℕ) → IsAbove greatest m → IsUpTo greatest n → IsUpTo (Some m) n
up_more greatest n m a u = let l = above_all greatest n m u a in omega (arith, l)

pub up_next : (greatest : Option ℕ) (e : Event) (ns : List ℕ) → Rises greatest (number_in e) → AllByRecursion (IsUpTo greatest) ns
    → AllByRecursion (IsUpTo (last_number greatest (number_in e))) (ns ++ number_in e)
up_next greatest (Accepted at conn peer limit) ns r h =
    numbers_push (IsUpTo (Some conn)) ns (conn ∷ []) (all_numbers (IsUpTo greatest) (IsUpTo (Some conn)) (λ n u. up_more greatest n conn r.0 u) ns h) (omega arith, tt)
up_next greatest (Bytes at conn piece) ns r h = numbers_push (IsUpTo greatest) ns [] h tt
up_next greatest (Ended at conn) ns r h = numbers_push (IsUpTo greatest) ns [] h tt
up_next greatest (Datagram at peer bytes) ns r h = numbers_push (IsUpTo greatest) ns [] h tt
up_next greatest (Tick at) ns r h = numbers_push (IsUpTo greatest) ns [] h tt
up_next greatest (Stop at) ns r h = numbers_push (IsUpTo greatest) ns [] h tt

-- lists of numbers that were closed
pub shuts_none : (a : Option (List ℕ)) (known : List ℕ) (alive : List Connection) → Shuts a a known alive
shuts_none a known alive = record { closed = []; grown = Grows-nothing a; shut = tt }

pub shuts_more : (a b c : Option (List ℕ)) (known : List ℕ) (alive : List Connection) → Shuts a b known alive → Shuts b c known alive → Shuts a c known alive
shuts_more a b c known alive p q = record {
  closed = p.closed ++ q.closed;
  grown = Grows-more a b c p.closed q.closed p.grown q.grown;
  shut = numbers_push (IsShut known alive) p.closed q.closed p.shut q.shut;
}

pub shuts_weaker : (a b : Option (List ℕ)) (known known_now : List ℕ) (alive open_now : List Connection) → ((n : ℕ) → IsShut known alive n → IsShut known_now open_now n)
    → Shuts a b known alive → Shuts a b known_now open_now
shuts_weaker a b known known_now alive open_now f p = record {
  closed = p.closed;
  grown = p.grown;
  shut = all_numbers (IsShut known alive) (IsShut known_now open_now) f p.closed p.shut;
}

pub shuts_kept : (a b c : Option (List ℕ)) (known : List ℕ) (alive : List Connection) → Shuts a b known alive → Keeps b c → Shuts a c known alive
shuts_kept a b c known alive p k = record { closed = p.closed; grown = Grows-Keeps a b c p.closed p.grown k; shut = p.shut }

pub kept_shuts : (a b c : Option (List ℕ)) (known : List ℕ) (alive : List Connection) → Keeps a b → Shuts b c known alive → Shuts a c known alive
kept_shuts a b c known alive k p = record { closed = p.closed; grown = Keeps-Grows a b c p.closed k p.grown; shut = p.shut }

-- one that is done was closed
pub shuts_done : (a b : Option (List ℕ)) (known : List ℕ) (alive : List Connection) (number : ℕ) (is_done : Bool) → Grows a b (cond is_done (number ∷ []) [])
    → (is_done ≡ true → IsShut known alive number) → Shuts a b known alive
shuts_done a b known alive number true g f = record { closed = number ∷ []; grown = g; shut = (f refl, tt) }
shuts_done a b known alive number false g f = record { closed = []; grown = g; shut = tt }

pub shuts_same : (a b : Option (List ℕ)) (known known_now : List ℕ) (alive open_now : List Connection) → known ≡ known_now → alive ≡ open_now → Shuts a b known alive → Shuts a b known_now open_now
shuts_same a b known known_now alive open_now e f p =
    subst (λ (l : List Connection). Shuts a b known_now l) f (subst (λ (ns : List ℕ). Shuts a b ns alive) e p)

-- those that one event closes
pub attended : (a b c d : Option (List ℕ)) (e : Event) (kept between now : Kept) (number : ℕ) (is_done : Bool) → between ≡ next kept e
    → LetsGo between.last between.connections now.connections → Keeps a b → Grows b c (cond is_done (number ∷ []) [])
    → (is_done ≡ true → IsShut (numbers_of kept.connections ++ number_in e) between.connections number)
    → Shuts c d (numbers_of between.connections) now.connections → Shuts a d (numbers_of kept.connections ++ number_in e) now.connections
attended a b c d e kept between now number is_done same part k g f s =
    let known : List ℕ = numbers_of kept.connections ++ number_in e in
    let all : AllByRecursion (λ (j : Connection). Contains known j.number) between.connections =
    subst (λ (m : Kept). AllByRecursion (λ (j : Connection). Contains known j.number) m.connections) (sym same)
    (known_next (numbers_of kept.connections) e kept.connections (owns kept.connections))
    in
    shuts_more a c d known now.connections
    (kept_shuts a b c known now.connections k
    (shuts_done b c known now.connections number is_done g (λ h. shut_left known between.last between.connections now.connections number part (f h))))
    (shuts_weaker c d (numbers_of between.connections) known now.connections now.connections
    (λ n t. record { among = known_number known between.connections n all t.among; gone = t.gone }) s)

-- one that is to be closed is not open
none_safe : (P : Connection → Type 0) (b : Bool) (k : Connection) → b ≡ false → AllByRecursion P (cond b (k ∷ []) [])
none_safe P true k h = absurd cc
none_safe P false k h = tt

pub done_shut : (greatest : Option ℕ) (room : List ℕ) (came : Came) (ks : List Connection) → AllByRecursion (λ k. IsUpTo greatest k.number) ks
    → Rises greatest (number_in (event_of room came)) → IsDone (event_of room came) ks (open_next (event_of room came) ks)
    → IsShut (numbers_of ks ++ number_in (event_of room came)) (open_next (event_of room came) ks) (number_of came)
done_shut greatest room (came.Accepted at conn peer limit) ks u r h =
    let e = Accepted at conn peer limit in
    record {
      among = Contains-append_right (numbers_of ks) (conn ∷ []) conn (0, omega arith, refl);
      gone = all_push (λ k. k.number ≢ conn) (filter_map (step e) ks) (accepted e)
          (all_kept (λ k. k.number ≢ conn) (step e) (λ k l f p. subst (λ (n : ℕ). n ≢ conn) (sym (step-number e k l f)) p) ks
          (all_weaker (λ k. IsUpTo greatest k.number) (λ k. k.number ≢ conn) (λ k v q. let l = above_all greatest k.number conn v r.0 in omega (arith, l, q)) ks u))
          (none_safe (λ k. k.number ≢ conn) (is_safe peer) (new_connection conn peer limit at) h);
    }
done_shut greatest room (came.Bytes at conn count) ks u r h = record { among = Contains-append_left (numbers_of ks) [] conn h.among; gone = h.gone }
done_shut greatest room (came.Ended at conn) ks u r h = absurd h
done_shut greatest room (came.Tick at) ks u r h = absurd h

-- one from a peer that is not safe is to be closed
pub unsafe_done : (result : Result Bool OutOfMemory) (safe : Bool) → IfOk result (λ is_done. is_done ≡ not safe) → IfOk result (λ is_done. is_done ≡ true → safe ≡ false)
unsafe_done (Ok is_done) true e = λ h. absurd (let f : is_done ≡ false = e in cc)
unsafe_done (Ok is_done) false e = λ h. refl
unsafe_done (Err fault) safe e = tt

-- what is kept where no memory was found for an event
pub kept_lost : (kept : Kept) (e : Event) → Rises kept.greatest (number_in e) → IsKept kept → IsKept (next_lost kept e)
kept_lost kept (Accepted at conn peer limit) r h = record {
  rests = h.rests;
  going = h.going;
  climbs = h.climbs;
  below = all_weaker (λ k. IsUpTo kept.greatest k.number) (λ k. IsUpTo (Some conn) k.number) (λ k u. up_more kept.greatest k.number conn r.0 u) kept.connections h.below;
}
kept_lost kept (Bytes at conn piece) r h =
    let n = IsKept-next kept (Ended at conn) tt h in
    let same = append-nil (filter_map (step (Ended at conn)) kept.connections) in
    record {
      rests = subst (AllByRecursion IsRest) same n.rests;
      going = subst (AllByRecursion IsGoing) same n.going;
      climbs = subst Climbs same n.climbs;
      below = subst (AllByRecursion (λ (k : Connection). IsUpTo kept.greatest k.number)) same n.below;
    }
kept_lost kept (Ended at conn) r h = record { rests = h.rests; going = h.going; climbs = h.climbs; below = h.below }
kept_lost kept (Datagram at peer bytes) r h = record { rests = h.rests; going = h.going; climbs = h.climbs; below = h.below }
kept_lost kept (Tick at) r h = record { rests = h.rests; going = h.going; climbs = h.climbs; below = h.below }
kept_lost kept (Stop at) r h = record { rests = h.rests; going = h.going; climbs = h.climbs; below = h.below }
