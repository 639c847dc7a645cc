-- One connection among all: its messages are those that it completes by itself.
use Rattle.std.proofs.Common.{◌≡◌, ◌≢◌, ℕ, List, [], ◌∷◌, ◌++◌, length, map, refl, sym, ap, ◌∙◌, arith, cond, zero, suc, Bool, true, false, append-nil, append_assoc}
use Rattle.std.proofs.lemmas.Bool.{cond-true, eqb-true}
use Rattle.std.proofs.lemmas.List.{map-append}
use Rattle.std.specs.List.{AllByRecursion, flat_map}
use Rattle.dns_io.specs.declared.peer.Peer.{Peer}
use Rattle.dns_edges.specs.Listening.{Arrival}
use Rattle.dns_frames.proofs.Cutting.{frames-nil}
use Rattle.dns_server_core.specs.declared.event.Event.{Event}
use Rattle.dns_server_core.specs.declared.event.Event.TheVariants.{Accepted, Bytes, Ended, Datagram, Tick, Stop}
use Rattle.dns_server_core.specs.declared.event.Receiver.TheVariants.{Conn}
use Rattle.dns_server_core.specs.Runs.{Completed}
use Rattle.dns_server_core.specs.Events.{moment, number_in}
use Rattle.dns_server_core.specs.Connections.{Connection, Piece, Over, Other, Turn, Start, accepted, base, byte_events, completed, completed_at, completed_by, completed_with, datagram_by, done, done_from, ending, heading, in_time, is_ended, is_safe, message_of, new_connection, new_kept, starts_in, total, turn_of, whole}
use Rattle.dns_server_core.specs.Steps.{open_next}
use Rattle.dns_server_core.proofs.AllConnections.{pendings-nil}
use Rattle.dns_server_core.proofs.Pieces.{byte_events-push, moment_at-last}
use Rattle.dns_requests.specs.Arrivals.{ask_at, asks_of, asks_through, opened}
use Rattle.dns_requests.proofs.MoreArrivals.{asks_next, asks_through-push, one_longer}
use Rattle.dns_laws.specs.Receivers.{is_no_others, messages_to, owner_of, without_others}
use Rattle.dns_laws.proofs.OneReceiver.{differs, one-exact}
use Rattle.dns_laws.proofs.OwnMessages.{own-done}
use Rattle.dns_laws.specs.OneConnection.{IsNeverAccepted, on}
use Rattle.dns_laws.proofs.Through.{through, opens, done_through, pendings-opens, done_from-append}

-- events of one connection alone, which is not accepted by them

-- an event stays where those of others are left out
abbrev stays : ℕ → Event → Bool
stays number e = is_no_others (Conn number) (owner_of e)

-- it accepts nothing, and is no datagram
abbrev IsBare : Event → Type 0
IsBare e = (accepted e ≡ []) × (datagram_by e ≡ [])

bare : (number : ℕ) (e : Event) → AllByRecursion (λ n. n ≢ number) (number_in e) → stays number e ≡ true → IsBare e
bare number (Accepted at conn peer limit) h s = absurd (h.0 (sym (eqb-true number conn s)))
bare number (Bytes at conn piece) h s = (refl, refl)
bare number (Ended at conn) h s = (refl, refl)
bare number (Datagram at peer bytes) h s = absurd cc
bare number (Tick at) h s = (refl, refl)
bare number (Stop at) h s = (refl, refl)

bare_one : (number : ℕ) (e : Event) (es : List Event) → AllByRecursion (λ n. n ≢ number) (number_in e) → AllByRecursion IsBare es → (b : Bool) → stays number e ≡ b
    → AllByRecursion IsBare (cond b (e ∷ es) es)
bare_one number e es h i true s = (bare number e h s, i)
bare_one number e es h i false s = i

all_bare : (number : ℕ) (es : List Event) → IsNeverAccepted number es → AllByRecursion IsBare (without_others (Conn number) es)
all_bare number [] h = tt
all_bare number (e ∷ es) h = bare_one number e (without_others (Conn number) es) h.0 (all_bare number es h.1) (stays number e) refl

-- with no connection open they complete nothing, and open none
none_open : (e : Event) → IsBare e → open_next e [] ≡ []
none_open e h = h.0

none_opens : (es : List Event) → AllByRecursion IsBare es → opens [] es ≡ []
none_opens [] h = refl
none_opens (e ∷ es) h = ap (λ (ks : List Connection). opens ks es) (none_open e h.0) ∙ none_opens es h.1

none_through : (es : List Event) → AllByRecursion IsBare es → through [] es ≡ []
none_through [] h = refl
none_through (e ∷ es) h =
    ap (λ (l : List Completed). l ++ [] ++ through (open_next e []) es) h.0.1
    ∙ ap (λ (ks : List Connection). through ks es) (none_open e h.0) ∙ none_through es h.1

none_start : (es : List Event) → AllByRecursion IsBare es → starts_in es ≡ []
none_start [] h = refl
none_start (e ∷ es) h = ap (λ (cs : List Connection). map (λ (c : Connection). record { connection = c; later = es }) cs ++ starts_in es) h.0.0 ∙ none_start es h.1

push_bare : (es : List Event) (e : Event) → AllByRecursion IsBare es → IsBare e → AllByRecursion IsBare (es ++ e ∷ [])
push_bare [] e h b = (b, tt)
push_bare (x ∷ es) e h b = (h.0, push_bare es e h.1 b)

-- its pieces are all there
own_turn : (number : ℕ) (e : Event) → stays number e ≡ false → turn_of number e ≡ Other
own_turn number (Accepted at conn peer limit) s = refl
own_turn number (Bytes at conn piece) s = rw (differs (Conn number) conn number false s ((one-exact (Conn number) (Conn number)).1 refl)) refl
own_turn number (Ended at conn) s = rw (differs (Conn number) conn number false s ((one-exact (Conn number) (Conn number)).1 refl)) refl
own_turn number (Datagram at peer bytes) s = refl
own_turn number (Tick at) s = absurd cc
own_turn number (Stop at) s = absurd cc

own_one : (number : ℕ) (e : Event) (es : List Event) (b : Bool) → stays number e ≡ b → byte_events number (without_others (Conn number) es) ≡ byte_events number es
    → byte_events number (cond b (e ∷ without_others (Conn number) es) (without_others (Conn number) es)) ≡ heading (turn_of number e) (byte_events number es)
own_one number e es true s i = ap (heading (turn_of number e)) i
own_one number e es false s i = i ∙ sym (ap (λ (t : Turn). heading t (byte_events number es)) (own_turn number e s))

own_bytes : (number : ℕ) (es : List Event) → byte_events number (without_others (Conn number) es) ≡ byte_events number es
own_bytes number [] = refl
own_bytes number (e ∷ es) = own_one number e es (stays number e) refl (own_bytes number es)

-- one piece more

asks_none : (c : Connection) → asks_of c [] ≡ []
unfolding asks_through
asks_none c = refl

asks_push : (c : Connection) (ps : List Arrival) (a : Arrival) → asks_of c (ps ++ a ∷ []) ≡ asks_of c ps ++ map (ask_at c.peer a.at) (completed c (ps ++ a ∷ []) (length ps))
asks_push c ps a =
    ap (asks_through c (ps ++ a ∷ [])) (one_longer ps a) ∙ asks_next c (ps ++ a ∷ []) (length ps)
    ∙ rw (asks_through-push c ps a (length ps) (omega arith), moment_at-last ps a) refl

-- the messages of a piece

asked_on : (c : Connection) (at : ℕ) (ms : List (List ℕ)) → map (on c.number) (map (ask_at c.peer at) ms) ≡ map (message_of at c) ms
asked_on c at [] = refl
asked_on c at (m ∷ ms) = ap (λ (l : List Completed). message_of at c m ∷ l) (asked_on c at ms)

-- the pieces behind an event, where an end came before it, or not
abbrev behind : Bool → List Arrival → Turn → List Arrival
behind true ps t = ps
behind false ps t = ps ++ heading t []

piece_one : (c : Connection) (at : ℕ) (piece : List ℕ) (ended : Bool) (ps : List Arrival)
    → map (on c.number) (asks_of c ps) ++ map (message_of at c) (completed_with (Piece (record { at = at; piece = piece })) c ended ps)
    ≡ map (on c.number) (asks_of c (behind ended ps (Piece (record { at = at; piece = piece }))))
piece_one c at piece true ps = append-nil (map (on c.number) (asks_of c ps))
piece_one c at piece false ps =
    let a : Arrival = record { at = at; piece = piece } in
    ap (λ (l : List Completed). map (on c.number) (asks_of c ps) ++ l) (sym (asked_on c at (completed c (ps ++ a ∷ []) (length ps))))
    ∙ sym (map-append (on c.number) (asks_of c ps) (map (ask_at c.peer at) (completed c (ps ++ a ∷ []) (length ps))))
    ∙ ap (map (on c.number)) (sym (asks_push c ps a))

none_behind : (ended : Bool) (ps : List Arrival) (t : Turn) → heading t [] ≡ [] → ps ≡ behind ended ps t
none_behind true ps t h = refl
none_behind false ps t h = sym (ap (λ (l : List Arrival). ps ++ l) h ∙ append-nil ps)

silent_one : (c : Connection) (at : ℕ) (t : Turn) (ended : Bool) (ps : List Arrival) → heading t [] ≡ [] → completed_with t c ended ps ≡ []
    → map (on c.number) (asks_of c ps) ++ map (message_of at c) (completed_with t c ended ps) ≡ map (on c.number) (asks_of c (behind ended ps t))
silent_one c at t ended ps h s =
    ap (λ (l : List (List ℕ)). map (on c.number) (asks_of c ps) ++ map (message_of at c) l) s
    ∙ append-nil (map (on c.number) (asks_of c ps))
    ∙ ap (λ (l : List Arrival). map (on c.number) (asks_of c l)) (none_behind ended ps t h)

own_piece : (c : Connection) (at : ℕ) (piece : List ℕ) (own : Bool) (ended : Bool) (ps : List Arrival)
    → map (on c.number) (asks_of c ps) ++ map (message_of at c) (completed_with (cond own (Piece (record { at = at; piece = piece })) Other) c ended ps)
    ≡ map (on c.number) (asks_of c (behind ended ps (cond own (Piece (record { at = at; piece = piece })) Other)))
own_piece c at piece true ended ps = piece_one c at piece ended ps
own_piece c at piece false ended ps = silent_one c at Other ended ps refl refl

own_end : (c : Connection) (at : ℕ) (own : Bool) (ended : Bool) (ps : List Arrival)
    → map (on c.number) (asks_of c ps) ++ map (message_of at c) (completed_with (cond own Over Other) c ended ps)
    ≡ map (on c.number) (asks_of c (behind ended ps (cond own Over Other)))
own_end c at true ended ps = silent_one c at Over ended ps refl refl
own_end c at false ended ps = silent_one c at Other ended ps refl refl

event_one : (c : Connection) (e : Event) (ended : Bool) (ps : List Arrival)
    → map (on c.number) (asks_of c ps) ++ map (message_of (moment e) c) (completed_with (turn_of c.number e) c ended ps)
    ≡ map (on c.number) (asks_of c (behind ended ps (turn_of c.number e)))
event_one c (Accepted at conn peer limit) ended ps = silent_one c at Other ended ps refl refl
event_one c (Bytes at conn piece) ended ps = own_piece c at piece _ ended ps
event_one c (Ended at conn) ended ps = own_end c at _ ended ps
event_one c (Datagram at peer bytes) ended ps = silent_one c at Other ended ps refl refl
event_one c (Tick at) ended ps = silent_one c at Other ended ps refl refl
event_one c (Stop at) ended ps = silent_one c at Other ended ps refl refl

-- behind its end a connection has no pieces
ended_on : (t : Turn) (ended : Bool) (ps qs : List Arrival) → ending t ended ≡ true → (ended ≡ true → ps ≡ qs) → heading t ps ≡ heading t qs
ended_on (Piece a) ended ps qs h f = ap (λ (l : List Arrival). a ∷ l) (f h)
ended_on Over ended ps qs h f = refl
ended_on Other ended ps qs h f = f h

pieces_ended : (number : ℕ) (es : List Event) (e : Event) → is_ended number es ≡ true → byte_events number (es ++ e ∷ []) ≡ byte_events number es
pieces_ended number [] e h = absurd cc
pieces_ended number (x ∷ es) e h =
    ended_on (turn_of number x) (is_ended number es) (byte_events number (es ++ e ∷ [])) (byte_events number es) h (λ k. pieces_ended number es e k)

pieces_push : (number : ℕ) (es : List Event) (e : Event) (b : Bool) → is_ended number es ≡ b → byte_events number (es ++ e ∷ []) ≡ behind b (byte_events number es) (turn_of number e)
pieces_push number es e true h = pieces_ended number es e h
pieces_push number es e false h = byte_events-push number es e h

-- one event more
only_start : (c : Connection) (seen : List Event) (e : Event) → AllByRecursion IsBare seen → IsBare e
    → completed_at (c ∷ []) seen e ≡ map (message_of (moment e) c) (completed_by e (record { connection = c; later = seen }))
only_start c seen e h b =
    let s : Start = record { connection = c; later = seen } in
    let f : Start → List Completed = λ (x : Start). map (message_of (moment e) x.connection) (completed_by e x) in
    ap (λ (l : List Completed). l ++ (f s ++ flat_map f (starts_in seen))) b.1
    ∙ ap (λ (ss : List Start). f s ++ flat_map f ss) (none_start seen h)
    ∙ append-nil (f s)

one_more : (c : Connection) (seen : List Event) (e : Event) → AllByRecursion IsBare seen → IsBare e
    → map (on c.number) (asks_of c (byte_events c.number seen)) ++ completed_at (c ∷ []) seen e ≡ map (on c.number) (asks_of c (byte_events c.number (seen ++ e ∷ [])))
one_more c seen e h b =
    ap (λ (l : List Completed). map (on c.number) (asks_of c (byte_events c.number seen)) ++ l) (only_start c seen e h b)
    ∙ event_one c e (is_ended c.number seen) (byte_events c.number seen)
    ∙ ap (λ (ps : List Arrival). map (on c.number) (asks_of c ps)) (sym (pieces_push c.number seen e (is_ended c.number seen) refl))

by_itself : (c : Connection) (seen rest : List Event) → AllByRecursion IsBare seen → AllByRecursion IsBare rest
    → map (on c.number) (asks_of c (byte_events c.number seen)) ++ done_from (c ∷ []) seen rest ≡ map (on c.number) (asks_of c (byte_events c.number (seen ++ rest)))
by_itself c seen [] h r =
    append-nil (map (on c.number) (asks_of c (byte_events c.number seen)))
    ∙ ap (λ (es : List Event). map (on c.number) (asks_of c (byte_events c.number es))) (sym (append-nil seen))
by_itself c seen (e ∷ rest) h r =
    sym (append_assoc (map (on c.number) (asks_of c (byte_events c.number seen))) (completed_at (c ∷ []) seen e) (done_from (c ∷ []) (seen ++ e ∷ []) rest))
    ∙ ap (λ (l : List Completed). l ++ done_from (c ∷ []) (seen ++ e ∷ []) rest) (one_more c seen e h r.0)
    ∙ by_itself c (seen ++ e ∷ []) rest (push_bare seen e h r.0) r.1
    ∙ ap (λ (es : List Event). map (on c.number) (asks_of c (byte_events c.number es))) (append_assoc seen (e ∷ []) rest)

-- its number is no matter
module _ (number : ℕ) (peer : Peer) (limit at : ℕ) where
  abbrev here : Connection
  here = new_connection number peer limit at

  whole_same : (ps : List Arrival) (i : ℕ) → whole here ps i ≡ whole (opened peer limit at) ps i
  unfolding whole total
  whole_same ps i = refl

  total_same : (ps : List Arrival) (i : ℕ) → total here ps i ≡ total (opened peer limit at) ps i
  unfolding total
  total_same ps i = refl

  base_same : (ps : List Arrival) (i : ℕ) → base here ps i ≡ base (opened peer limit at) ps i
  unfolding base
  base_same ps zero = refl
  base_same ps (suc i) = rw (whole_same ps i, whole_same ps (suc i), base_same ps i) refl

  timely_same : (ps : List Arrival) (i : ℕ) → in_time here ps i ≡ in_time (opened peer limit at) ps i
  unfolding in_time
  timely_same ps zero = refl
  timely_same ps (suc i) = rw (timely_same ps i, whole_same ps i, base_same ps i) refl

  completed_same : (ps : List Arrival) (i : ℕ) → completed here ps i ≡ completed (opened peer limit at) ps i
  unfolding completed
  completed_same ps i = rw (timely_same ps (suc i), whole_same ps i, whole_same ps (suc i), total_same ps (suc i)) refl

  asks_same : (ps : List Arrival) (i : ℕ) → asks_through here ps i ≡ asks_through (opened peer limit at) ps i
  unfolding asks_through
  asks_same ps zero = refl
  asks_same ps (suc i) = rw (asks_same ps i, completed_same ps i) refl

  -- the events of the connection alone
  through_own : (es : List Event) → AllByRecursion IsBare es → through (here ∷ []) es ≡ map (on number) (asks_of (opened peer limit at) (byte_events number es))
  through_own es h =
      ap (λ (ks : List Connection). through ks es) (sym (pendings-nil (here ∷ []) (frames-nil, tt) (omega arith, tt)))
      ∙ sym (done_through (here ∷ []) [] es)
      ∙ ap (λ (l : List Completed). l ++ done_from (here ∷ []) [] es) (sym (ap (map (on number)) (asks_none here)))
      ∙ by_itself here [] es tt h
      ∙ ap (map (on number)) (asks_same (byte_events number es) (length (byte_events number es)))

  own_list : (front back : List Event) → is_safe peer ≡ true → AllByRecursion IsBare front → AllByRecursion IsBare back
      → done new_kept (front ++ Accepted at number peer limit ∷ back) ≡ map (on number) (asks_of (opened peer limit at) (byte_events number back))
  own_list front back safe f b =
      done_from-append [] [] front (Accepted at number peer limit ∷ back)
      ∙ ap (λ (l : List Completed). l ++ done_from [] front (Accepted at number peer limit ∷ back)) (done_through [] [] front ∙ none_through front f)
      ∙ done_through [] front (Accepted at number peer limit ∷ back)
      ∙ ap (λ (ks : List Connection). through ks (Accepted at number peer limit ∷ back)) (pendings-opens [] [] front ∙ none_opens front f)
      ∙ ap (λ (ks : List Connection). through ks back) (cond-true _ _ _ safe)
      ∙ through_own back b

  own_first : (b : Bool) (e : Event) (front back : List Event)
      → without_others (Conn number) (front ++ Accepted at number peer limit ∷ back) ≡ without_others (Conn number) front ++ Accepted at number peer limit ∷ without_others (Conn number) back
      → cond b (e ∷ without_others (Conn number) (front ++ Accepted at number peer limit ∷ back)) (without_others (Conn number) (front ++ Accepted at number peer limit ∷ back))
      ≡ cond b (e ∷ without_others (Conn number) front) (without_others (Conn number) front) ++ Accepted at number peer limit ∷ without_others (Conn number) back
  own_first true e front back h = ap (λ (l : List Event). e ∷ l) h
  own_first false e front back h = h

  own_events : (front back : List Event) → without_others (Conn number) (front ++ Accepted at number peer limit ∷ back)
      ≡ without_others (Conn number) front ++ Accepted at number peer limit ∷ without_others (Conn number) back
  own_events [] back = cond-true _ _ _ ((one-exact (Conn number) (Conn number)).1 refl)
  own_events (e ∷ front) back = own_first (stays number e) e front back (own_events front back)

pub one-alone : (front back : List Event) (at number : ℕ) (peer : Peer) (limit : ℕ) → is_safe peer ≡ true → IsNeverAccepted number front → IsNeverAccepted number back
    → messages_to (Conn number) (done new_kept (front ++ Accepted at number peer limit ∷ back)) ≡ map (on number) (asks_of (opened peer limit at) (byte_events number back))
one-alone front back at number peer limit safe f b =
    own-done new_kept (Conn number) (front ++ Accepted at number peer limit ∷ back)
    ∙ ap (done new_kept) (own_events number peer limit at front back)
    ∙ own_list number peer limit at (without_others (Conn number) front) (without_others (Conn number) back) safe (all_bare number front f) (all_bare number back b)
    ∙ ap (λ (ps : List Arrival). map (on number) (asks_of (opened peer limit at) ps)) (own_bytes number back)
