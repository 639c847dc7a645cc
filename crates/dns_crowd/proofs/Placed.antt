-- Connections that are open, among the places of all.
use Rattle.std.proofs.Common.{◌≡◌, ◌≢◌, ◌<◌, ◌∙◌, ℕ, zero, suc, List, [], ◌∷◌, ◌++◌, length, get_or, set, Result, Ok, Err, Bool, true, false, not, cond, eqb, Option, Some, None, refl, sym, ap, subst, arith}
use Rattle.std.specs.List.{AllByRecursion, cons_option, filter, filter_map, remove}
use Rattle.std.proofs.lemmas.Bool.{eq-eqb, ne_eqb}
use Rattle.dns_server_core.specs.Connections.{Connection, Piece}
use Rattle.dns_server_core.specs.Order.{Climbs, IsUpTo}
use Rattle.dns_server_core.specs.Steps.{moved, step}
use Rattle.dns_server_core.specs.declared.event.Event.TheVariants.{Accepted, Bytes, Ended, Datagram, Tick, Stop}
use Rattle.dns_server_core.specs.declared.event.Event.{Event}
use Rattle.dns_server_core.specs.Events.{number_in}
use Rattle.dns_server_core.specs.Valid.{IsAbove, Rises}
use Rattle.dns_crowd.specs.Tables.{IsAboveAll}
use Rattle.dns_server_core.proofs.ConnectionTurns.{ended_goes, own_turn}
use Rattle.dns_server_core.proofs.KeptOrder.{all_at, all_weaker, climbs_push, step-number}
use Rattle.dns_io.specs.declared.fault.OutOfMemory.{OutOfMemory}
use Rattle.std.specs.Result.{OnErr, OnOk}
use Rattle.dns_crowd.specs.declared.sessions.Slot.{Slot}
use Rattle.dns_crowd.specs.Slots.{all_in, has_number, open_in}

-- what holds of all holds of those that are open
all_one : (P : Connection → Type 0) (gone : Bool) (k : Connection) (ks : List Connection) → P k → AllByRecursion P ks → AllByRecursion P (cons_option (cond gone None (Some k)) ks)
all_one P true k ks p h = h
all_one P false k ks p h = (p, h)

pub all_open : (P : Connection → Type 0) (ss : List Slot) → AllByRecursion P (all_in ss) → AllByRecursion P (open_in ss)
all_open P [] h = tt
all_open P (s ∷ ss) h = all_one P s.gone s.session (open_in ss) h.0 (all_open P ss h.1)

climb_one : (gone : Bool) (k : Connection) (ks : List Connection) → AllByRecursion (λ j. k.number < j.number) ks → Climbs ks → Climbs (cons_option (cond gone None (Some k)) ks)
climb_one true k ks a c = c
climb_one false k ks a c = (a, c)

pub open_climbs : (ss : List Slot) → Climbs (all_in ss) → Climbs (open_in ss)
open_climbs [] c = tt
open_climbs (s ∷ ss) c = climb_one s.gone s.session (open_in ss) (all_open (λ j. s.session.number < j.number) ss c.0) (open_climbs ss c.1)

pub in_all : (ss : List Slot) (i : ℕ) (d : Slot) → get_or (all_in ss) i d.session ≡ (get_or ss i d).session
in_all [] i d = refl
in_all (s ∷ ss) zero d = refl
in_all (s ∷ ss) (suc i) d = in_all ss i d

pub length_all : (ss : List Slot) → length (all_in ss) ≡ length ss
length_all [] = refl
length_all (s ∷ ss) = let e = length_all ss in omega (arith, e)

-- where a connection that is open stands among those that are, and what becomes of them where its place is written
pub record PlaceOf (ss : List Slot) (i : ℕ) (k : Connection) : Type 0 where
  pub at : ℕ
  pub inside : at < length (open_in ss)
  pub is : (d : Connection) → get_or (open_in ss) at d ≡ k
  pub stays : (s : Slot) → s.gone ≡ false → open_in (set ss i s) ≡ set (open_in ss) at s.session
  pub goes : (s : Slot) → s.gone ≡ true → open_in (set ss i s) ≡ remove (open_in ss) at

first : (gone : Bool) (k : Connection) (ss : List Slot) → gone ≡ false → PlaceOf (record { session = k; gone = gone } ∷ ss) 0 k
first true k ss e = absurd cc
first false k ss e = record {
  at = 0;
  inside = omega arith;
  is = λ d. refl;
  stays = λ s g. ap (λ (b : Bool). cons_option (cond b None (Some s.session)) (open_in ss)) g;
  goes = λ s g. ap (λ (b : Bool). cons_option (cond b None (Some s.session)) (open_in ss)) g;
}

later : (gone : Bool) (k : Connection) (ss : List Slot) (i : ℕ) (j : Connection) → PlaceOf ss i j → PlaceOf (record { session = k; gone = gone } ∷ ss) (suc i) j
later true k ss i j p = record { at = p.at; inside = p.inside; is = p.is; stays = p.stays; goes = p.goes }
later false k ss i j p = record {
  at = suc p.at;
  inside = let l = p.inside in omega (arith, l);
  is = p.is;
  stays = λ s g. ap (λ (l : List Connection). k ∷ l) (p.stays s g);
  goes = λ s g. ap (λ (l : List Connection). k ∷ l) (p.goes s g);
}

pub opened : (ss : List Slot) (i : ℕ) (d : Slot) → i < length ss → (get_or ss i d).gone ≡ false → PlaceOf ss i (get_or ss i d).session
opened [] i d l g = absurd (omega arith)
opened (s ∷ ss) zero d l g = first s.gone s.session ss g
opened (s ∷ ss) (suc i) d l g = later s.gone s.session ss i (get_or ss i d).session (opened ss i d (omega arith) g)

-- where the place of a number is of one that is gone, none that is open has it
pub gone_none : (ss : List Slot) (i : ℕ) (d : Slot) (n : ℕ) → Climbs (all_in ss) → i < length ss → (get_or ss i d).session.number ≡ n → (get_or ss i d).gone ≡ true
    → AllByRecursion (λ k. k.number ≢ n) (open_in ss)
gone_none [] i d n c l e g = absurd (omega arith)
gone_none (s ∷ ss) zero d n c l e g =
    let same : open_in ss ≡ open_in (s ∷ ss) = ap (λ (b : Bool). cons_option (cond b None (Some s.session)) (open_in ss)) (sym g) in
    subst (AllByRecursion (λ (k : Connection). k.number ≢ n)) same
    (all_open (λ k. k.number ≢ n) ss (all_weaker (λ j. s.session.number < j.number) (λ j. j.number ≢ n) (λ j p q. omega (arith, p, q, e)) (all_in ss) c.0))
gone_none (s ∷ ss) (suc i) d n c l e g =
    let long = length_all ss in
    let p = subst (λ (j : Connection). s.session.number < j.number) (in_all ss i d) (all_at (λ j. s.session.number < j.number) (all_in ss) i d.session (omega (arith, l, long)) c.0) in
    all_one (λ k. k.number ≢ n) s.gone s.session (open_in ss) (λ q. omega (arith, p, q, e)) (gone_none ss i d n c.1 (omega arith) e g)

-- a place that is written keeps its number
all_set : (P : Connection → Type 0) (ss : List Slot) (i : ℕ) (d s : Slot) → (P (get_or ss i d).session → P s.session) → AllByRecursion P (all_in ss) → AllByRecursion P (all_in (set ss i s))
all_set P [] i d s f h = tt
all_set P (x ∷ ss) zero d s f h = (f h.0, h.1)
all_set P (x ∷ ss) (suc i) d s f h = (h.0, all_set P ss i d s f h.1)

pub set_climbs : (ss : List Slot) (i : ℕ) (d s : Slot) → s.session.number ≡ (get_or ss i d).session.number → Climbs (all_in ss) → Climbs (all_in (set ss i s))
set_climbs [] i d s e c = tt
set_climbs (x ∷ ss) zero d s e c = (subst (λ (n : ℕ). AllByRecursion (λ (j : Connection). n < j.number) (all_in ss)) (sym e) c.0, c.1)
set_climbs (x ∷ ss) (suc i) d s e c = (all_set (λ j. x.session.number < j.number) ss i d s (λ p. omega (arith, p, e)) c.0, set_climbs ss i d s e c.1)

-- the places of those that are gone are let go of
swept_open_one : (gone : Bool) (k : Connection) (ss ts : List Slot) → open_in ts ≡ open_in ss → open_in (cond (not gone) (record { session = k; gone = gone } ∷ ts) ts) ≡ open_in (record { session = k; gone = gone } ∷ ss)
swept_open_one true k ss ts e = e
swept_open_one false k ss ts e = ap (λ (l : List Connection). k ∷ l) e

pub swept_open : (ss : List Slot) → open_in (filter (λ s. not s.gone) ss) ≡ open_in ss
swept_open [] = refl
swept_open (s ∷ ss) = swept_open_one s.gone s.session ss (filter (λ s. not s.gone) ss) (swept_open ss)

swept_all_one : (gone : Bool) (k : Connection) (ss ts : List Slot) → all_in ts ≡ open_in ss → all_in (cond (not gone) (record { session = k; gone = gone } ∷ ts) ts) ≡ open_in (record { session = k; gone = gone } ∷ ss)
swept_all_one true k ss ts e = e
swept_all_one false k ss ts e = ap (λ (l : List Connection). k ∷ l) e

pub swept_all : (ss : List Slot) → all_in (filter (λ s. not s.gone) ss) ≡ open_in ss
swept_all [] = refl
swept_all (s ∷ ss) = swept_all_one s.gone s.session ss (filter (λ s. not s.gone) ss) (swept_all ss)

-- one more at the end
put_one : (gone : Bool) (j k : Connection) (ks ls : List Connection) → ks ≡ ls ++ k ∷ [] → cons_option (cond gone None (Some j)) ks ≡ cons_option (cond gone None (Some j)) ls ++ k ∷ []
put_one true j k ks ls e = e
put_one false j k ks ls e = ap (λ (l : List Connection). j ∷ l) e

pub put_open : (ss : List Slot) (k : Connection) → open_in (ss ++ record { session = k; gone = false } ∷ []) ≡ open_in ss ++ k ∷ []
put_open [] k = refl
put_open (s ∷ ss) k = put_one s.gone s.session k (open_in (ss ++ record { session = k; gone = false } ∷ [])) (open_in ss) (put_open ss k)

pub put_all : (ss : List Slot) (k : Connection) → all_in (ss ++ record { session = k; gone = false } ∷ []) ≡ all_in ss ++ k ∷ []
put_all [] k = refl
put_all (s ∷ ss) k = ap (λ (l : List Connection). s.session ∷ l) (put_all ss k)

-- where the last of them is below a number, all are
pub last_below : (ks : List Connection) (i : ℕ) (d : Connection) (n : ℕ) → Climbs ks → length ks ≡ suc i → (get_or ks i d).number < n → AllByRecursion (λ k. k.number < n) ks
last_below [] i d n c l p = absurd (omega arith)
last_below (k ∷ []) zero d n c l p = (p, tt)
last_below (k ∷ j ∷ ks) zero d n c l p = absurd (omega arith)
last_below (k ∷ ks) (suc i) d n c l p =
    let q = all_at (λ j. k.number < j.number) ks i d (omega arith) c.0 in
    (omega (arith, p, q), last_below ks i d n c.1 (omega arith) p)

-- whether one has a number
any_one : (mine : Bool) (k : Connection) (ks : List Connection) (n : ℕ) → eqb k.number n ≡ mine → has_number ks n ≡ true → has_number (k ∷ ks) n ≡ true
any_one true k ks n e h = rw e refl
any_one false k ks n e h = rw e h

pub has_at : (ks : List Connection) (i : ℕ) (d : Connection) (n : ℕ) → i < length ks → (get_or ks i d).number ≡ n → has_number ks n ≡ true
has_at [] i d n l e = absurd (omega arith)
has_at (k ∷ ks) zero d n l e = rw (eq-eqb k.number n e) refl
has_at (k ∷ ks) (suc i) d n l e = any_one (eqb k.number n) k ks n refl (has_at ks i d n (omega arith) e)

pub has_none : (ks : List Connection) (n : ℕ) → AllByRecursion (λ k. k.number ≢ n) ks → has_number ks n ≡ false
has_none [] n a = refl
has_none (k ∷ ks) n a = rw (ne_eqb k.number n a.0) (has_none ks n a.1)

-- each has its own
pub each_own : (Q : ℕ → Type 0) (ks : List Connection) → ((n : ℕ) → has_number ks n ≡ true → Q n) → AllByRecursion (λ k. Q k.number) ks
each_own Q [] f = tt
each_own Q (k ∷ ks) f = (f k.number (has_at (k ∷ ks) 0 k k.number (omega arith) refl), each_own Q ks (λ n h. f n (any_one (eqb k.number n) k ks n refl h)))

set_twice : (ss : List Slot) (i : ℕ) (a b : Slot) → set (set ss i a) i b ≡ set ss i b
set_twice [] i a b = refl
set_twice (s ∷ ss) zero a b = refl
set_twice (s ∷ ss) (suc i) a b = ap (λ (l : List Slot). s ∷ l) (set_twice ss i a b)

-- a place in a list that has it
pub pick : (ss : List Slot) (i : ℕ) → i < length ss → Slot
pick [] i l = absurd (omega arith)
pick (s ∷ ss) i l = s

-- the connection of a number that is open, in its place
pub record Found (ss : List Slot) (i : ℕ) (d : Slot) (n : ℕ) : Type 0 where
  pub at : ℕ
  pub inside : at < length (open_in ss)
  pub value : d.session ≡ get_or (open_in ss) at d.session
  pub number : (get_or (open_in ss) at d.session).number ≡ n
  pub stays : (j : Connection) → open_in (set ss i (record { session = j; gone = d.gone })) ≡ set (open_in ss) at j
  pub stays_climbs : (j : Connection) → j.number ≡ n → Climbs (all_in (set ss i (record { session = j; gone = d.gone })))
  pub goes : (s x : Slot) (ts : List Slot) → s.gone ≡ true → ts ≡ set (set ss i x) i s → open_in ts ≡ remove (open_in ss) at
  pub goes_climbs : (s x : Slot) (ts : List Slot) → s.session.number ≡ n → ts ≡ set (set ss i x) i s → Climbs (all_in ts)

pub found_open : (ss : List Slot) (i : ℕ) (d : Slot) (n : ℕ) → Climbs (all_in ss) → i < length ss → (get_or ss i d).session.number ≡ n → (get_or ss i d).gone ≡ false → d ≡ get_or ss i d → Found ss i d n
found_open ss i d n c l e g v =
    let p = opened ss i d l g in
    record {
      at = p.at;
      inside = p.inside;
      value = ap (λ (s : Slot). s.session) v ∙ sym (p.is d.session);
      number = ap (λ (k : Connection). k.number) (p.is d.session) ∙ e;
      stays = λ j. p.stays (record { session = j; gone = d.gone }) (ap (λ (s : Slot). s.gone) v ∙ g);
      stays_climbs = λ j m. set_climbs ss i d (record { session = j; gone = d.gone }) (m ∙ sym e) c;
      goes = λ s x ts h is. ap open_in (is ∙ set_twice ss i x s) ∙ p.goes s h;
      goes_climbs = λ s x ts m is. subst (λ (l : List Slot). Climbs (all_in l)) (sym (is ∙ set_twice ss i x s)) (set_climbs ss i d s (m ∙ sym e) c);
    }

pub gone_ended : (ss ts : List Slot) (i : ℕ) (d s : Slot) (at n : ℕ) → Climbs (all_in ss) → i < length ss → (get_or ss i d).session.number ≡ n → (get_or ss i d).gone ≡ false → s.gone ≡ true → ts ≡ set ss i s
    → open_in ts ≡ filter_map (step (Ended at n)) (open_in ss)
gone_ended ss ts i d s at n c l e g h is =
    let p = opened ss i d l g in
    let k : Connection = (get_or ss i d).session in
    ap open_in is ∙ p.goes s h ∙ ended_goes at n (open_in ss) p.at k (open_climbs ss c) p.inside (ap (λ (j : Connection). j.number) (p.is k) ∙ e)

-- one more is put behind those that are below it
pub put_climbs : (result : Result (Unit {0}) OutOfMemory) (ss ts : List Slot) (k : Connection) (n : ℕ) → OnOk result (all_in ts ≡ all_in ss ++ k ∷ []) → OnErr result (ts ≡ ss) → n ≡ k.number
    → Climbs (all_in ss) → AllByRecursion (λ j. j.number < n) (all_in ss) → Climbs (all_in ts)
put_climbs (Ok x) ss ts k n a e m c b =
    subst Climbs (sym a) (climbs_push (all_in ss) k c (subst (λ (i : ℕ). AllByRecursion (λ (j : Connection). j.number < i) (all_in ss)) m b))
put_climbs (Err fault) ss ts k n a e m c b = subst (λ (l : List Slot). Climbs (all_in l)) (sym e) c

-- a connection keeps its number
pub moved_number : (at n : ℕ) (piece : List ℕ) (k new : Connection) → k.number ≡ n → moved k (Piece (record { at = at; piece = piece })) ≡ Some new → new.number ≡ n
moved_number at n piece k new e g = step-number (Bytes at n piece) k new (ap (moved k) (own_turn at n piece k e) ∙ g) ∙ e

-- a number that comes is greater than those that came
up_to : (g : Option ℕ) (n m : ℕ) → IsUpTo g n → IsAbove g m → n < m
up_to None n m p q = absurd p
up_to (Some g) n m p q = omega arith

pub above_all : (g : Option ℕ) (e : Event) (ks : List Connection) → Rises g (number_in e) → AllByRecursion (λ k. IsUpTo g k.number) ks → AllByRecursion (λ n. IsAboveAll n ks) (number_in e)
above_all g (Accepted at conn peer limit) ks r h = (all_weaker (λ k. IsUpTo g k.number) (λ k. k.number < conn) (λ k u. up_to g k.number conn u r.0) ks h, tt)
above_all g (Bytes at conn piece) ks r h = tt
above_all g (Ended at conn) ks r h = tt
above_all g (Datagram at peer bytes) ks r h = tt
above_all g (Tick at) ks r h = tt
above_all g (Stop at) ks r h = tt
