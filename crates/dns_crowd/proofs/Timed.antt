-- Connections stand in the order of the moments at which they are still within their time.
use Rattle.std.proofs.Common.{◌≡◌, ◌≢◌, ◌≤◌, ◌<◌, ◌+◌, ◌||◌, ◌⊎◌, ℕ, zero, suc, List, [], ◌∷◌, ◌++◌, get_or, Bool, true, false, Some, None, Result, Ok, Err, cond, leb, inl, inr, refl, sym, ap, subst, arith}
use Rattle.std.specs.List.{AllByRecursion, Contains, filter, filter_map}
use Rattle.std.specs.Result.{OnErr, OnOk}
use Rattle.dns_io.specs.declared.fault.OutOfMemory.{OutOfMemory}
use Rattle.std.specs.List.Sorted.{IsPermutation}
use Rattle.std.proofs.lemmas.Bool.{leb-true, le-leb}
use Rattle.std.proofs.lemmas.List.Elements.{Contains-append_cases, Contains-append_right}
use Rattle.std.proofs.lemmas.List.Sorted.{Contains-permutation}
use Rattle.dns_server_core.specs.declared.event.Event.{Event}
use Rattle.dns_server_core.specs.declared.event.Event.TheVariants.{Accepted, Bytes, Ended, Datagram, Tick, Stop}
use Rattle.dns_server_core.specs.Connections.{Connection, Piece, Over, Other, is_within}
use Rattle.dns_server_core.specs.Events.{moment}
use Rattle.dns_server_core.specs.Steps.{base_by, fed_by, messages_in, moved, step}
use Rattle.dns_server_core.proofs.KeptOrder.{all_kept, all_push, all_weaker}
use Rattle.dns_crowd.specs.Tables.{IsTimed, KeepsEntries, KeepsTimes}

-- what is within a limit is so at each earlier moment, and behind a later base
within_so : (no_limit : Bool) (at later bound farther : ℕ) → (no_limit || leb later bound) ≡ true → at ≤ later → bound ≤ farther → (no_limit || leb at farther) ≡ true
within_so true at later bound farther h l m = refl
within_so false at later bound farther h l m = le-leb at farther (omega (arith, leb-true later bound h, l, m))

pub within_earlier : (limit base at later : ℕ) → is_within limit base later ≡ true → at ≤ later → is_within limit base at ≡ true
within_earlier limit base at later h l = within_so _ at later (base + limit) (base + limit) h l (omega arith)

own : (no_limit : Bool) (at limit : ℕ) → (no_limit || leb at (at + limit)) ≡ true
own true at limit = refl
own false at limit = le-leb at (at + limit) (omega arith)

-- a moment is within the time that begins then
pub within_own : (limit at : ℕ) → is_within limit at at ≡ true
within_own limit at = own _ at limit

-- an order that has more
pub timed_wider : (last : ℕ) (o p : List (ℕ × ℕ)) → ((x : ℕ × ℕ) → Contains o x → Contains p x) → (k : Connection) → IsTimed last o k → IsTimed last p k
timed_wider last o p f k t = record { base = t.base; at = t.at; within = t.within; stands = f (t.at, k.number) t.stands }

pub timed_later : (last later : ℕ) (o : List (ℕ × ℕ)) → last ≤ later → (k : Connection) → IsTimed last o k → IsTimed later o k
timed_later last later o l k t = record { base = omega (arith, l, t.base); at = t.at; within = t.within; stands = t.stands }

base_between : (base at : ℕ) (ms : List (List ℕ)) → base ≤ at → (base ≤ base_by base at ms) × (base_by base at ms ≤ at)
base_between base at [] l = (omega arith, l)
base_between base at (m ∷ ms) l = (l, omega arith)

fed_timed : (last at : ℕ) (o : List (ℕ × ℕ)) (k : Connection) (bytes : List ℕ) → last ≤ at → IsTimed last o k → IsTimed at o (fed_by k at bytes)
fed_timed last at o k bytes l t =
    let b = base_between k.base at (messages_in k bytes) (omega (arith, l, t.base)) in
    record {
      base = b.1;
      at = t.at;
      within = within_so _ t.at t.at (k.base + k.limit) (base_by k.base at (messages_in k bytes) + k.limit) t.within (omega arith) (omega (arith, b.0));
      stands = t.stands;
    }

fed_same : (b over : Bool) (k l : Connection) → cond b (cond over None (Some k)) None ≡ Some l → k ≡ l
fed_same true true k l e = absurd cc
fed_same true false k l e = cc
fed_same false over k l e = absurd cc

moved_timed : (last at : ℕ) (o : List (ℕ × ℕ)) (piece : List ℕ) (mine : Bool) → last ≤ at → (k l : Connection) → moved k (cond mine (Piece (record { at = at; piece = piece })) Other) ≡ Some l → IsTimed last o k
    → IsTimed at o l
moved_timed last at o piece true l k j e t = subst (IsTimed at o) (fed_same _ _ _ _ e) (fed_timed last at o k (k.rest ++ piece) l t)
moved_timed last at o piece false l k j e t = let f : k ≡ j = cc in subst (IsTimed at o) f (timed_later last at o l k t)

ended_timed : (last at : ℕ) (o : List (ℕ × ℕ)) (mine : Bool) → last ≤ at → (k l : Connection) → moved k (cond mine Over Other) ≡ Some l → IsTimed last o k → IsTimed at o l
ended_timed last at o true l k j e t = absurd cc
ended_timed last at o false l k j e t = let f : k ≡ j = cc in subst (IsTimed at o) f (timed_later last at o l k t)

-- a step keeps a connection's place
pub step_timed : (e : Event) (last : ℕ) (o : List (ℕ × ℕ)) → last ≤ moment e → (k l : Connection) → step e k ≡ Some l → IsTimed last o k → IsTimed (moment e) o l
step_timed (Accepted at conn peer limit) last o l k j e t = let f : k ≡ j = cc in subst (IsTimed at o) f (timed_later last at o l k t)
step_timed (Bytes at conn piece) last o l k j e t = moved_timed last at o piece _ l k j e t
step_timed (Ended at conn) last o l k j e t = ended_timed last at o _ l k j e t
step_timed (Datagram at peer bytes) last o l k j e t = let f : k ≡ j = cc in subst (IsTimed at o) f (timed_later last at o l k t)
step_timed (Tick at) last o l k j e t = let f : k ≡ j = cc in subst (IsTimed at o) f (timed_later last at o l k t)
step_timed (Stop at) last o l k j e t = let f : k ≡ j = cc in subst (IsTimed at o) f (timed_later last at o l k t)

pub kept_timed : (e : Event) (o : List (ℕ × ℕ)) (ks : List Connection) → KeepsTimes e o ks o (filter_map (step e) ks)
kept_timed e o ks = λ last l h.
    all_kept (IsTimed (moment e) o) (step e) (step_timed e (moment e) o (omega arith)) ks (all_weaker (IsTimed last o) (IsTimed (moment e) o) (timed_later last (moment e) o l) ks h)

-- nothing changed, or the order has more
pub same_timed : (e : Event) (o : List (ℕ × ℕ)) (ks : List Connection) → KeepsTimes e o ks o ks
same_timed e o ks = λ last l h. all_weaker (IsTimed last o) (IsTimed (moment e) o) (timed_later last (moment e) o l) ks h

pub put_wider : (y : ℕ × ℕ) (o p : List (ℕ × ℕ)) → IsPermutation (y ∷ o) p → (x : ℕ × ℕ) → Contains o x → Contains p x
put_wider y o p m x h = Contains-permutation (y ∷ o) p x m (Contains-append_right (y ∷ []) o x h)

pub put_has : (y : ℕ × ℕ) (o p : List (ℕ × ℕ)) → IsPermutation (y ∷ o) p → Contains p y
put_has y o p m = Contains-permutation (y ∷ o) p y m (0, omega arith, refl)

-- what stood in the order stands there still
entries_timed : (last : ℕ) (o p : List (ℕ × ℕ)) (ks : List Connection) → KeepsEntries ks o p → AllByRecursion (IsTimed last o) ks → AllByRecursion (IsTimed last p) ks
entries_timed last o p [] e h = tt
entries_timed last o p (k ∷ ks) e h = (
  record { base = h.0.base; at = h.0.at; within = h.0.within; stands = e.0 h.0.at h.0.stands },
  entries_timed last o p ks e.1 h.1,
)

pub entries_kept : (e : Event) (o p : List (ℕ × ℕ)) (ks : List Connection) → KeepsEntries ks o p → KeepsTimes e o ks p ks
entries_kept e o p ks m = λ last l h. entries_timed (moment e) o p ks m (same_timed e o ks last l h)

pub pushed_timed : (e : Event) (o p : List (ℕ × ℕ)) (ks : List Connection) (k : Connection) → KeepsEntries ks o p → IsTimed (moment e) p k → KeepsTimes e o ks p (ks ++ k ∷ [])
pushed_timed e o p ks k m t = λ last l h. all_push (IsTimed (moment e) p) ks (k ∷ []) (entries_kept e o p ks m last l h) (t, tt)

pub all_entries : (o p : List (ℕ × ℕ)) → ((x : ℕ × ℕ) → Contains o x → Contains p x) → (ks : List Connection) → KeepsEntries ks o p
all_entries o p f [] = tt
all_entries o p f (k ∷ ks) = (λ at c. f (at, k.number) c, all_entries o p f ks)

pub entries_more : (o p q : List (ℕ × ℕ)) (ks : List Connection) → KeepsEntries ks o p → KeepsEntries ks p q → KeepsEntries ks o q
entries_more o p q [] e f = tt
entries_more o p q (k ∷ ks) e f = (λ at c. f.0 at (e.0 at c), entries_more o p q ks e.1 f.1)

pub put_entries : (result : Result (Unit {0}) OutOfMemory) (x : ℕ × ℕ) (o p : List (ℕ × ℕ)) (ks : List Connection) → OnOk result (IsPermutation (x ∷ o) p) → OnErr result (p ≡ o) → KeepsEntries ks o p
put_entries (Ok y) x o p ks m e = all_entries o p (put_wider x o p m) ks
put_entries (Err fault) x o p ks m e = all_entries o p (λ y c. subst (λ (l : List (ℕ × ℕ)). Contains {X = ℕ × ℕ} l y) (sym e) c) ks

pub put_stands : (result : Result (Unit {0}) OutOfMemory) (x : ℕ × ℕ) (o p : List (ℕ × ℕ)) → OnOk result (IsPermutation (x ∷ o) p) → OnOk result (Contains p x)
put_stands (Ok y) x o p m = put_has x o p m
put_stands (Err fault) x o p m = tt

-- one that begins
pub new_timed : (at until : ℕ) (p : List (ℕ × ℕ)) (k : Connection) → k.base ≤ at → is_within k.limit k.base until ≡ true → Contains {X = ℕ × ℕ} p (until, k.number) → IsTimed at p k
new_timed at until p k b w h = record { base = b; at = until; within = w; stands = h }

-- the one at the front of the order
only_at : (x y : ℕ × ℕ) (i : ℕ) → i < 1 → get_or (x ∷ []) i y ≡ y → x ≡ y
only_at x y zero l e = e
only_at x y (suc i) l e = absurd (omega arith)

other_front : (at n till m : ℕ) (p : List (ℕ × ℕ)) → m ≢ n → (Contains {X = ℕ × ℕ} ((at, n) ∷ []) (till, m) ⊎ Contains {X = ℕ × ℕ} p (till, m)) → Contains {X = ℕ × ℕ} p (till, m)
other_front at n till m p ne (inl h) = absurd (ne (sym (ap (λ (x : ℕ × ℕ). x.1) (only_at (at, n) (till, m) h.0 h.1 h.2))))
other_front at n till m p ne (inr h) = h

pub behind_front : (at n till m : ℕ) (p : List (ℕ × ℕ)) → m ≢ n → Contains {X = ℕ × ℕ} ((at, n) ∷ p) (till, m) → Contains {X = ℕ × ℕ} p (till, m)
behind_front at n till m p ne h = other_front at n till m p ne (Contains-append_cases ((at, n) ∷ []) p (till, m) h)

ended_same : (mine : Bool) (k l : Connection) → moved k (cond mine Over Other) ≡ Some l → k ≡ l
ended_same true k l e = absurd cc
ended_same false k l e = cc

-- a connection that ends is among the others no more
pub ended_kept : (last at n : ℕ) (o : List (ℕ × ℕ)) (ks : List Connection) → AllByRecursion (IsTimed last o) ks → AllByRecursion (IsTimed last o) (filter_map (step (Ended at n)) ks)
ended_kept last at n o ks h = all_kept (IsTimed last o) (step (Ended at n)) (λ k l e t. subst (IsTimed last o) (ended_same _ k l e) t) ks h

pub times_same : (e : Event) (o p : List (ℕ × ℕ)) (ks ls ms : List Connection) → ms ≡ ls → KeepsTimes e o ks p ls → KeepsTimes e o ks p ms
times_same e o p ks ls ms s h = subst (KeepsTimes e o ks p) (sym s) h

-- those of which a test says `true` stay
stays_one : (b : Bool) (test : ℕ × ℕ → Bool) (x y : ℕ × ℕ) (o : List (ℕ × ℕ)) → test y ≡ b → test x ≡ true → (Contains {X = ℕ × ℕ} (y ∷ []) x ⊎ Contains o x) → (Contains o x → Contains (filter test o) x)
    → Contains {X = ℕ × ℕ} (cond b (y ∷ filter test o) (filter test o)) x
stays_one true test x y o e h (inl c) f = (0, omega arith, only_at y x c.0 c.1 c.2)
stays_one true test x y o e h (inr c) f = Contains-append_right (y ∷ []) (filter test o) x (f c)
stays_one false test x y o e h (inl c) f = absurd (let same : y ≡ x = only_at y x c.0 c.1 c.2 in cc)
stays_one false test x y o e h (inr c) f = f c

pub stays_in : (test : ℕ × ℕ → Bool) (o : List (ℕ × ℕ)) (x : ℕ × ℕ) → test x ≡ true → Contains o x → Contains (filter test o) x
stays_in test [] x h c = absurd (let l = c.1 in omega (arith, l))
stays_in test (y ∷ o) x h c = stays_one (test y) test x y o refl h (Contains-append_cases (y ∷ []) o x c) (stays_in test o x h)
