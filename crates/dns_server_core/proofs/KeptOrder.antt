-- What one event keeps.
use Rattle.std.proofs.Common.{◌≡◌, ◌≢◌, ◌<◌, ℕ, List, [], ◌∷◌, ◌++◌, length, get_or, set, refl, sym, ap, cond, Bool, true, false, Option, Some, None, arith, zero, suc, subst, append-nil}
use Rattle.std.specs.List.{filter_map, cons_option, AllByRecursion, remove}
use Rattle.std.proofs.lemmas.Bool.{leb-false, ne_eqb}
use Rattle.dns_server_core.specs.declared.event.Event.{Event}
use Rattle.dns_server_core.specs.declared.event.Event.TheVariants.{Accepted, Bytes, Ended, Datagram, Tick, Stop}
use Rattle.dns_server_core.specs.Events.{number_in}
use Rattle.dns_server_core.specs.Valid.{IsAbove, Rises}
use Rattle.dns_server_core.specs.Connections.{Connection, is_safe, Turn, Piece, Over, Other, turn_of, accepted, Kept, new_connection}
use Rattle.dns_server_core.specs.Steps.{moved, step}
use Rattle.dns_server_core.specs.Order.{IsGoing, IsRest, Climbs, IsUpTo, IsKept, next}
use Rattle.dns_frames.proofs.Cutting.{frames-nil}
use Rattle.dns_server_core.proofs.FirstFrames.{fed_rest}

one : (P : Connection → Type 0) (o : Option Connection) (ks : List Connection) → ((l : Connection) → o ≡ Some l → P l) → AllByRecursion P ks → AllByRecursion P (cons_option o ks)
one P None ks h a = a
one P (Some l) ks h a = (h l refl, a)

climb : (o : Option Connection) (k : Connection) (ks : List Connection) → ((l : Connection) → o ≡ Some l → l.number ≡ k.number) → AllByRecursion (λ j. k.number < j.number) ks → Climbs ks → Climbs (cons_option o ks)
climb None k ks h a c = c
climb (Some l) k ks h a c = (subst (λ (n : ℕ). AllByRecursion (λ (j : Connection). n < j.number) ks) (sym (h l refl)) a, c)

pub all_kept : (P : Connection → Type 0) (f : Connection → Option Connection) → ((k l : Connection) → f k ≡ Some l → P k → P l) → (ks : List Connection) → AllByRecursion P ks → AllByRecursion P (filter_map f ks)
all_kept P f h [] a = tt
all_kept P f h (k ∷ ks) a = one P (f k) (filter_map f ks) (λ l e. h k l e a.0) (all_kept P f h ks a.1)

pub climbs_kept : (f : Connection → Option Connection) → ((k l : Connection) → f k ≡ Some l → l.number ≡ k.number) → (ks : List Connection) → Climbs ks → Climbs (filter_map f ks)
climbs_kept f h [] a = tt
climbs_kept f h (k ∷ ks) a = climb (f k) k (filter_map f ks) (h k) (all_kept (λ j. k.number < j.number) f (λ i j e l. subst (λ (n : ℕ). k.number < n) (sym (h i j e)) l) ks a.0) (climbs_kept f h ks a.1)

pub all_push : (P : Connection → Type 0) (ks ls : List Connection) → AllByRecursion P ks → AllByRecursion P ls → AllByRecursion P (ks ++ ls)
all_push P [] ls a b = b
all_push P (k ∷ ks) ls a b = (a.0, all_push P ks ls a.1 b)

pub all_weaker : (P Q : Connection → Type 0) → ((k : Connection) → P k → Q k) → (ks : List Connection) → AllByRecursion P ks → AllByRecursion Q ks
all_weaker P Q h [] a = tt
all_weaker P Q h (k ∷ ks) a = (h k a.0, all_weaker P Q h ks a.1)

pub climbs_push : (ks : List Connection) (l : Connection) → Climbs ks → AllByRecursion (λ k. k.number < l.number) ks → Climbs (ks ++ l ∷ [])
climbs_push [] l a b = (tt, tt)
climbs_push (k ∷ ks) l a b = (all_push (λ j. k.number < j.number) ks (l ∷ []) a.0 (b.0, tt), climbs_push ks l a.1 b.1)

-- what a step keeps of a connection
fed_is : (b over : Bool) (k l : Connection) → cond b (cond over None (Some k)) None ≡ Some l → (over ≡ false) × (k ≡ l)
fed_is true true k l e = absurd cc
fed_is true false k l e = (refl, cc)
fed_is false over k l e = absurd cc

moved-number : (k l : Connection) (t : Turn) → moved k t ≡ Some l → l.number ≡ k.number
moved-number k l (Piece a) e = ap (λ (c : Connection). c.number) (sym (fed_is _ _ _ _ e).1)
moved-number k l Over e = absurd cc
moved-number k l Other e = let f : k ≡ l = cc in ap (λ (c : Connection). c.number) (sym f)

moved-rest : (k l : Connection) (t : Turn) → moved k t ≡ Some l → IsRest k → IsRest l
moved-rest k l (Piece a) e r = let f = fed_is _ _ _ _ e in subst IsRest f.1 (fed_rest k a.at (k.rest ++ a.piece) f.0)
moved-rest k l Over e r = absurd cc
moved-rest k l Other e r = let f : k ≡ l = cc in subst IsRest f r

moved-going : (k l : Connection) (t : Turn) → moved k t ≡ Some l → IsGoing k → IsGoing l
moved-going k l (Piece a) e g = let f = fed_is _ _ _ _ e in subst IsGoing f.1 (leb-false _ _ f.0)
moved-going k l Over e g = absurd cc
moved-going k l Other e g = let f : k ≡ l = cc in subst IsGoing f g

pub step-number : (e : Event) (k l : Connection) → step e k ≡ Some l → l.number ≡ k.number
step-number e k l h = moved-number k l (turn_of k.number e) h

pub step-rest : (e : Event) (k l : Connection) → step e k ≡ Some l → IsRest k → IsRest l
step-rest e k l h r = moved-rest k l (turn_of k.number e) h r

pub step-going : (e : Event) (k l : Connection) → step e k ≡ Some l → IsGoing k → IsGoing l
step-going e k l h g = moved-going k l (turn_of k.number e) h g

-- the invariant, one event later
safe_new : (b : Bool) (P : Connection → Type 0) (k : Connection) → P k → AllByRecursion P (cond b (k ∷ []) [])
safe_new true P k h = (h, tt)
safe_new false P k h = tt

up_to : (g : Option ℕ) (n m : ℕ) → IsUpTo g n → IsAbove g m → n < m
up_to None n m p q = absurd p
up_to (Some g) n m p q = omega arith

climbs_new : (b : Bool) (ks : List Connection) (l : Connection) → Climbs ks → AllByRecursion (λ k. k.number < l.number) ks → Climbs (ks ++ cond b (l ∷ []) [])
climbs_new true ks l a h = climbs_push ks l a h
climbs_new false ks l a h = subst Climbs (sym (append-nil ks)) a

record IsStepped (kept : Kept) (connections : List Connection) : Type 0 where
  pub rests : AllByRecursion IsRest connections
  pub going : AllByRecursion IsGoing connections
  pub climbs : Climbs connections
  pub below : AllByRecursion (λ k. IsUpTo kept.greatest k.number) connections

stepped_up : (kept : Kept) (e : Event) → IsKept kept → IsStepped kept (filter_map (step e) kept.connections)
stepped_up kept e h = record {
  rests = all_kept IsRest (step e) (step-rest e) kept.connections h.rests;
  going = all_kept IsGoing (step e) (step-going e) kept.connections h.going;
  climbs = climbs_kept (step e) (step-number e) kept.connections h.climbs;
  below = all_kept (λ k. IsUpTo kept.greatest k.number) (step e) (λ k l f u. subst (λ (n : ℕ). IsUpTo kept.greatest n) (sym (step-number e k l f)) u) kept.connections h.below;
}

same_next : (kept : Kept) (e : Event) → accepted e ≡ [] → number_in e ≡ [] → IsKept kept → IsKept (next kept e)
same_next kept e a n h =
    let s = stepped_up kept e h in
    rw (a, n, append-nil (filter_map (step e) kept.connections)) (record { rests = s.rests; going = s.going; climbs = s.climbs; below = s.below })

pub IsKept-next : (kept : Kept) (e : Event) → Rises kept.greatest (number_in e) → IsKept kept → IsKept (next kept e)
IsKept-next kept (Accepted at conn peer limit) r h =
    let e = Accepted at conn peer limit in
    let k : Connection = new_connection conn peer limit at in
    let s = stepped_up kept e h in
    record {
      rests = all_push IsRest (filter_map (step e) kept.connections) (accepted e) s.rests (safe_new (is_safe peer) IsRest k frames-nil);
      going = all_push IsGoing (filter_map (step e) kept.connections) (accepted e) s.going (safe_new (is_safe peer) IsGoing k (omega arith));
      climbs = climbs_new (is_safe peer) (filter_map (step e) kept.connections) k s.climbs (all_weaker (λ j. IsUpTo kept.greatest j.number) (λ j. j.number < conn) (λ j u. up_to kept.greatest j.number conn u r.0) (filter_map (step e) kept.connections) s.below);
      below = all_push (λ j. IsUpTo (Some conn) j.number) (filter_map (step e) kept.connections) (accepted e)
          (all_weaker (λ j. IsUpTo kept.greatest j.number) (λ j. IsUpTo (Some conn) j.number) (λ j u. let l = up_to kept.greatest j.number conn u r.0 in omega (arith, l)) (filter_map (step e) kept.connections) s.below)
          (safe_new (is_safe peer) (λ j. IsUpTo (Some conn) j.number) k (omega arith));
    }
IsKept-next kept (Bytes at conn piece) r h = same_next kept (Bytes at conn piece) refl refl h
IsKept-next kept (Ended at conn) r h = same_next kept (Ended at conn) refl refl h
IsKept-next kept (Datagram at peer bytes) r h = same_next kept (Datagram at peer bytes) refl refl h
IsKept-next kept (Tick at) r h = same_next kept (Tick at) refl refl h
IsKept-next kept (Stop at) r h = same_next kept (Stop at) refl refl h

-- one connection's turn, by its place
pub others_same : (f : Connection → Option Connection) (n : ℕ) → ((k : Connection) → k.number ≢ n → f k ≡ Some k) → (ks : List Connection) → AllByRecursion (λ k. k.number ≢ n) ks → filter_map f ks ≡ ks
others_same f n h [] a = refl
others_same f n h (k ∷ ks) a = rw (h k a.0, others_same f n h ks a.1) refl

pub all_at : (P : Connection → Type 0) (ks : List Connection) (i : ℕ) (d : Connection) → i < length ks → AllByRecursion P ks → P (get_or ks i d)
all_at P [] i d l a = absurd (omega arith)
all_at P (k ∷ ks) zero d l a = a.0
all_at P (k ∷ ks) (suc i) d l a = all_at P ks i d (omega arith) a.1

pub turn_stays : (f : Connection → Option Connection) (n : ℕ) → ((k : Connection) → k.number ≢ n → f k ≡ Some k) → (ks : List Connection) (i : ℕ) (d new : Connection) → Climbs ks → i < length ks
    → (get_or ks i d).number ≡ n → f (get_or ks i d) ≡ Some new → filter_map f ks ≡ set ks i new
turn_stays f n h [] i d new c l e g = absurd (omega arith)
turn_stays f n h (k ∷ ks) zero d new c l e g =
    rw (g, others_same f n h ks (all_weaker (λ j. k.number < j.number) (λ j. j.number ≢ n) (λ j p q. omega (arith, p, q, e)) ks c.0)) refl
turn_stays f n h (k ∷ ks) (suc i) d new c l e g =
    let p = all_at (λ j. k.number < j.number) ks i d (omega arith) c.0 in
    rw (h k (λ q. omega (arith, p, q, e)), turn_stays f n h ks i d new c.1 (omega arith) e g) refl

pub turn_goes : (f : Connection → Option Connection) (n : ℕ) → ((k : Connection) → k.number ≢ n → f k ≡ Some k) → (ks : List Connection) (i : ℕ) (d : Connection) → Climbs ks → i < length ks
    → (get_or ks i d).number ≡ n → f (get_or ks i d) ≡ None → filter_map f ks ≡ remove ks i
turn_goes f n h [] i d c l e g = absurd (omega arith)
turn_goes f n h (k ∷ ks) zero d c l e g =
    rw (g, others_same f n h ks (all_weaker (λ j. k.number < j.number) (λ j. j.number ≢ n) (λ j p q. omega (arith, p, q, e)) ks c.0)) refl
turn_goes f n h (k ∷ ks) (suc i) d c l e g =
    let p = all_at (λ j. k.number < j.number) ks i d (omega arith) c.0 in
    rw (h k (λ q. omega (arith, p, q, e)), turn_goes f n h ks i d c.1 (omega arith) e g) refl

pub bytes_others : (at n : ℕ) (piece : List ℕ) (k : Connection) → k.number ≢ n → step (Bytes at n piece) k ≡ Some k
bytes_others at n piece k h = rw (ne_eqb n k.number (λ e. h (sym e))) refl

pub ended_others : (at n : ℕ) (k : Connection) → k.number ≢ n → step (Ended at n) k ≡ Some k
ended_others at n k h = rw (ne_eqb n k.number (λ e. h (sym e))) refl
