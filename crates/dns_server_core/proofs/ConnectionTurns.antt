-- One connection's turn among all.
use Rattle.std.proofs.Common.{◌≡◌, ◌≢◌, ◌<◌, ℕ, List, [], ◌∷◌, ◌++◌, length, get_or, set, map, refl, sym, ap, ◌∙◌, cond, Bool, true, false, Some, None, arith, zero, suc, subst, append-nil, eqb}
use Rattle.std.specs.List.{filter_map, flat_map, AllByRecursion, remove}
use Rattle.std.proofs.lemmas.Bool.{ne_eqb, eq-eqb}
use Rattle.dns_server_core.specs.Runs.{Completed}
use Rattle.dns_server_core.specs.declared.event.Event.{Event}
use Rattle.dns_server_core.specs.declared.event.Event.TheVariants.{Bytes, Ended}
use Rattle.dns_server_core.specs.Events.{moment}
use Rattle.dns_server_core.specs.Connections.{Connection, Piece, Over, Other, turn_of, message_of, datagram_by, accepted}
use Rattle.dns_server_core.specs.Steps.{moved, heard, step, completed_now, open_next}
use Rattle.dns_server_core.specs.Order.{Climbs}
use Rattle.dns_server_core.proofs.KeptOrder.{all_weaker, all_at, others_same, turn_stays, turn_goes, bytes_others, ended_others}

pub others_silent : (g : Connection → List Completed) (n : ℕ) → ((k : Connection) → k.number ≢ n → g k ≡ []) → (ks : List Connection) → AllByRecursion (λ k. k.number ≢ n) ks → flat_map g ks ≡ []
others_silent g n h [] a = refl
others_silent g n h (k ∷ ks) a = rw (h k a.0, others_silent g n h ks a.1) refl

turn_asks : (g : Connection → List Completed) (n : ℕ) → ((k : Connection) → k.number ≢ n → g k ≡ []) → (ks : List Connection) (i : ℕ) (d : Connection) → Climbs ks → i < length ks → (get_or ks i d).number ≡ n → flat_map g ks ≡ g (get_or ks i d)
turn_asks g n h [] i d c l e = absurd (omega arith)
turn_asks g n h (k ∷ ks) zero d c l e =
    rw (others_silent g n h ks (all_weaker (λ j. k.number < j.number) (λ j. j.number ≢ n) (λ j p q. omega (arith, p, q, e)) ks c.0)) (append-nil (g k))
turn_asks g n h (k ∷ ks) (suc i) d c l e =
    let p = all_at (λ j. k.number < j.number) ks i d (omega arith) c.0 in
    rw (h k (λ q. omega (arith, p, q, e)), turn_asks g n h ks i d c.1 (omega arith) e) refl

abbrev pub hears : ℕ → ℕ → List ℕ → Connection → List Completed
hears at n piece k = map (message_of at k) (heard k (turn_of k.number (Bytes at n piece)))

pub hears_others : (at n : ℕ) (piece : List ℕ) (k : Connection) → k.number ≢ n → hears at n piece k ≡ []
hears_others at n piece k h = rw (ne_eqb n k.number (λ e. h (sym e))) refl

pub own_turn : (at n : ℕ) (piece : List ℕ) (k : Connection) → k.number ≡ n → turn_of k.number (Bytes at n piece) ≡ Piece (record { at = at; piece = piece })
own_turn at n piece k e = rw (eq-eqb n k.number (sym e)) refl

pub piece_none : (at n : ℕ) (piece : List ℕ) (ks : List Connection) → AllByRecursion (λ k. k.number ≢ n) ks → ks ≡ filter_map (step (Bytes at n piece)) ks
piece_none at n piece ks a = sym (others_same (step (Bytes at n piece)) n (bytes_others at n piece) ks a)

pub piece_silent : (at n : ℕ) (piece : List ℕ) (ks : List Connection) (asks : List Completed) → AllByRecursion (λ k. k.number ≢ n) ks → asks ≡ asks ++ flat_map (hears at n piece) ks
piece_silent at n piece ks asks a = rw (others_silent (hears at n piece) n (hears_others at n piece) ks a) (sym (append-nil asks))

pub piece_stays : (at n : ℕ) (piece : List ℕ) (ks : List Connection) (i : ℕ) (k new : Connection) → Climbs ks → i < length ks → k ≡ get_or ks i k → (get_or ks i k).number ≡ n
    → moved k (Piece (record { at = at; piece = piece })) ≡ Some new → set ks i new ≡ filter_map (step (Bytes at n piece)) ks
piece_stays at n piece ks i k new c l e m g =
    sym (turn_stays (step (Bytes at n piece)) n (bytes_others at n piece) ks i k new c l m
    (subst (λ (j : Connection). step (Bytes at n piece) j ≡ Some new) e (ap (moved k) (own_turn at n piece k (ap (λ (j : Connection). j.number) e ∙ m)) ∙ g)))

pub piece_goes : (at n : ℕ) (piece : List ℕ) (ks : List Connection) (i : ℕ) (k : Connection) → Climbs ks → i < length ks → k ≡ get_or ks i k → (get_or ks i k).number ≡ n
    → moved k (Piece (record { at = at; piece = piece })) ≡ None → remove ks i ≡ filter_map (step (Bytes at n piece)) ks
piece_goes at n piece ks i k c l e m g =
    sym (turn_goes (step (Bytes at n piece)) n (bytes_others at n piece) ks i k c l m
    (subst (λ (j : Connection). step (Bytes at n piece) j ≡ None) e (ap (moved k) (own_turn at n piece k (ap (λ (j : Connection). j.number) e ∙ m)) ∙ g)))

pub piece_asks : (at n : ℕ) (piece : List ℕ) (ks : List Connection) (i : ℕ) (k : Connection) → Climbs ks → i < length ks → k ≡ get_or ks i k → (get_or ks i k).number ≡ n
    → flat_map (hears at n piece) ks ≡ map (message_of at k) (heard k (Piece (record { at = at; piece = piece })))
piece_asks at n piece ks i k c l e m =
    turn_asks (hears at n piece) n (hears_others at n piece) ks i k c l m
    ∙ ap (hears at n piece) (sym e) ∙ ap (λ t. map (message_of at k) (heard k t)) (own_turn at n piece k (ap (λ (j : Connection). j.number) e ∙ m))

pub ended_none : (at n : ℕ) (ks : List Connection) → AllByRecursion (λ k. k.number ≢ n) ks → ks ≡ filter_map (step (Ended at n)) ks
ended_none at n ks a = sym (others_same (step (Ended at n)) n (ended_others at n) ks a)

own_end : (at n : ℕ) (k : Connection) → k.number ≡ n → step (Ended at n) k ≡ None
own_end at n k e = rw (eq-eqb n k.number (sym e)) refl

pub ended_goes : (at n : ℕ) (ks : List Connection) (i : ℕ) (k : Connection) → Climbs ks → i < length ks → (get_or ks i k).number ≡ n → remove ks i ≡ filter_map (step (Ended at n)) ks
ended_goes at n ks i k c l m = sym (turn_goes (step (Ended at n)) n (ended_others at n) ks i k c l m (own_end at n (get_or ks i k) m))

pub remove_set : (ks : List Connection) (i : ℕ) (new : Connection) → remove (set ks i new) i ≡ remove ks i
remove_set [] i new = refl
remove_set (k ∷ ks) zero new = refl
remove_set (k ∷ ks) (suc i) new = ap (λ (l : List Connection). k ∷ l) (remove_set ks i new)

-- events that are nothing to any connection
pub idle_conns : (e : Event) → ((n : ℕ) → turn_of n e ≡ Other) → (ks : List Connection) → filter_map (step e) ks ≡ ks
idle_conns e h [] = refl
idle_conns e h (k ∷ ks) = rw (h k.number, idle_conns e h ks) refl

pub idle_asks : (e : Event) → ((k : Connection) → heard k (turn_of k.number e) ≡ []) → (ks : List Connection) → flat_map (λ (k : Connection). map (message_of (moment e) k) (heard k (turn_of k.number e))) ks ≡ []
idle_asks e h [] = refl
idle_asks e h (k ∷ ks) = rw (h k, idle_asks e h ks) refl

pub idle_next : (e : Event) → ((n : ℕ) → turn_of n e ≡ Other) → accepted e ≡ [] → (ks : List Connection) → ks ≡ open_next e ks
idle_next e h a ks = rw (a, append-nil (filter_map (step e) ks)) (sym (idle_conns e h ks))

pub idle_now : (e : Event) → ((k : Connection) → heard k (turn_of k.number e) ≡ []) → (ks : List Connection) (asks : List Completed) → asks ++ datagram_by e ≡ asks ++ completed_now e ks
idle_now e h ks asks = rw (idle_asks e h ks, append-nil (datagram_by e)) refl

heard_ended : (b : Bool) (k : Connection) → heard k (cond b Over Other) ≡ []
heard_ended true k = refl
heard_ended false k = refl

pub ended_silent : (at n : ℕ) (k : Connection) → heard k (turn_of k.number (Ended at n)) ≡ []
ended_silent at n k = heard_ended (eqb n k.number) k

pub idle_list : (e : Event) → ((k : Connection) → heard k (turn_of k.number e) ≡ []) → (ks : List Connection) → completed_now e ks ≡ datagram_by e
idle_list e h ks = rw (idle_asks e h ks) (append-nil (datagram_by e))
