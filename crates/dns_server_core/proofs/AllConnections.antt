-- All connections, one event more.
use Rattle.std.proofs.Common.{◌≡◌, ℕ, ◌+◌, ◌-◌, min, List, [], ◌∷◌, ◌++◌, length, map, refl, sym, ap, ◌∙◌, append_assoc, append-nil, arith, cond, ltb, ◌&&◌, Bool, true, false, Option, Some, None}
use Rattle.std.proofs.Math.Nat.{min-zero}
use Rattle.std.proofs.lemmas.Bool.{cond-true, lt-ltb}
use Rattle.std.proofs.lemmas.List.{map-append}
use Rattle.std.proofs.lemmas.List.Elements.{filter_map-append}
use Rattle.std.specs.List.{flat_map, filter_map, cons_option, AllByRecursion}
use Rattle.std.specs.Option.{option_and_then}
use Rattle.dns_io.specs.declared.peer.Peer.{Peer}
use Rattle.dns_frames.specs.Frames.{Cut, frames}
use Rattle.dns_server_core.specs.Runs.{Completed}
use Rattle.dns_server_core.specs.declared.event.Event.{Event}
use Rattle.dns_server_core.specs.declared.event.Event.TheVariants.{Accepted, Bytes, Ended, Datagram, Tick, Stop}
use Rattle.dns_server_core.specs.Events.{moment}
use Rattle.dns_server_core.specs.Connections.{Connection, is_safe, turn_of, byte_events, is_ended, total, base, in_time, left_by, Start, completed_by, message_of, datagram_by, accepted, starts_in, starts, completed_at, may_go_on, messages_left, new_connection, whole}
use Rattle.dns_server_core.specs.Steps.{moved, heard, step, completed_now, open_next}
use Rattle.dns_server_core.specs.Order.{IsGoing, IsRest}
use Rattle.dns_frames.proofs.Cutting.{frames-nil}
use Rattle.dns_server_core.proofs.FirstFrames.{changed}
use Rattle.dns_server_core.proofs.Pieces.{pending, and_then, heard_by, pending-push, completed_by-is}

abbrev pub later_by : Event → Start → Start
later_by e s = record { connection = s.connection; later = s.later ++ e ∷ [] }

abbrev pub begun : Connection → Start
begun conn = record { connection = conn; later = [] }

map_later : (cs : List Connection) (es : List Event) (e : Event) → map (λ (c : Connection). record { connection = c; later = es ++ e ∷ [] }) cs ≡ map (later_by e) (map (λ (c : Connection). record { connection = c; later = es }) cs)
map_later [] es e = refl
map_later (c ∷ cs) es e = ap (λ (l : List Start). record { connection = c; later = es ++ e ∷ [] } ∷ l) (map_later cs es e)

starts_in-push : (es : List Event) (e : Event) → starts_in (es ++ e ∷ []) ≡ map (later_by e) (starts_in es) ++ map begun (accepted e)
starts_in-push [] e = append-nil (map begun (accepted e))
starts_in-push (x ∷ es) e =
    rw (starts_in-push es e, map-append (later_by e) (map (λ (c : Connection). record { connection = c; later = es }) (accepted x)) (starts_in es), map_later (accepted x) es e)
    (sym (append_assoc (map (later_by e) (map (λ (c : Connection). record { connection = c; later = es }) (accepted x))) (map (later_by e) (starts_in es)) (map begun (accepted e))))

pub starts-push : (connections : List Connection) (es : List Event) (e : Event) → starts connections (es ++ e ∷ []) ≡ map (later_by e) (starts connections es) ++ map begun (accepted e)
starts-push connections es e =
    rw (starts_in-push es e, map-append (later_by e) (map (λ (c : Connection). record { connection = c; later = es }) connections) (starts_in es), map_later connections es e)
    (sym (append_assoc (map (later_by e) (map (λ (c : Connection). record { connection = c; later = es }) connections)) (map (later_by e) (starts_in es)) (map begun (accepted e))))

-- the connections that are still kept, whatever moment it is
abbrev pub pendings : List Connection → List Event → List Connection
pendings connections es = filter_map pending (starts connections es)

-- nothing is unread of one that begins, and it may have more messages
none_whole : (conn : Connection) → IsRest conn → whole conn [] 0 ≡ 0
unfolding whole total
none_whole conn h =
    ap (λ (b : List ℕ). min (messages_left conn) (length (frames b).messages)) (append-nil conn.rest)
    ∙ ap (λ (k : Cut). min (messages_left conn) (length k.messages)) h
    ∙ min-zero (messages_left conn)

same_rest : (conn : Connection) → IsRest conn → (frames (total conn [] 0)).rest ≡ conn.rest
unfolding total
same_rest conn h = ap (λ (b : List ℕ). (frames b).rest) (append-nil conn.rest) ∙ ap (λ (k : Cut). k.rest) h

begun_as : (conn : Connection) (count : ℕ) (rest : List ℕ) → count ≡ 0 → rest ≡ conn.rest → IsGoing conn
    → cond (ltb count (messages_left conn)) (Some (record { number = conn.number; peer = conn.peer; limit = conn.limit; base = conn.base; rest = rest; taken = conn.taken + count })) None ≡ Some conn
begun_as conn count rest none same going =
    cond-true _ _ _ (lt-ltb count (messages_left conn) (omega (arith, none, going)))
    ∙ ap (λ (k : Connection). Some k) (changed conn conn.base conn.base rest conn.rest (conn.taken + count) conn.taken refl same (omega (arith, none)))

pending-begun : (conn : Connection) → IsRest conn → IsGoing conn → pending (begun conn) ≡ Some conn
unfolding base in_time
pending-begun conn h g = begun_as conn (whole conn [] 0) (frames (total conn [] 0)).rest (none_whole conn h) (same_rest conn h) g

pendings-begun : (connections : List Connection) → AllByRecursion IsRest connections → AllByRecursion IsGoing connections → filter_map pending (map begun connections) ≡ connections
pendings-begun [] h g = refl
pendings-begun (c ∷ cs) h g = rw (pending-begun c h.0 g.0, pendings-begun cs h.1 g.1) refl

pub pendings-nil : (connections : List Connection) → AllByRecursion IsRest connections → AllByRecursion IsGoing connections → pendings connections [] ≡ connections
pendings-nil connections h g = rw (append-nil (map begun connections)) (pendings-begun connections h g)

safe : (P : Connection → Type 0) (b : Bool) (k : Connection) → P k → AllByRecursion P (cond b (k ∷ []) [])
safe P true k h = (h, tt)
safe P false k h = tt

pub accepted-all : (P : Connection → Type 0) → ((number : ℕ) (peer : Peer) (limit at : ℕ) → P (new_connection number peer limit at)) → (e : Event) → AllByRecursion P (accepted e)
accepted-all P h (Accepted at conn peer limit) = safe P (is_safe peer) (new_connection conn peer limit at) (h conn peer limit at)
accepted-all P h (Bytes at conn piece) = tt
accepted-all P h (Ended at conn) = tt
accepted-all P h (Datagram at peer bytes) = tt
accepted-all P h (Tick at) = tt
accepted-all P h (Stop at) = tt

accepted-rest : (e : Event) → AllByRecursion IsRest (accepted e)
accepted-rest e = accepted-all IsRest (λ number peer limit at. frames-nil) e

accepted-going : (e : Event) → AllByRecursion IsGoing (accepted e)
accepted-going e = accepted-all IsGoing (λ number peer limit at. omega arith) e

-- whether all its pieces were in time, and it may have more messages
abbrev is_going : Start → Bool
is_going s =
    in_time s.connection (byte_events s.connection.number s.later) (length (byte_events s.connection.number s.later))
    && may_go_on s.connection (byte_events s.connection.number s.later) (length (byte_events s.connection.number s.later))

-- what is pending goes by its own number
number_of : (ended timely : Bool) (e : Event) (k : Connection) (n : ℕ) → k.number ≡ n → and_then (cond ended None (cond timely (Some k) None)) (turn_of n e) ≡ option_and_then (step e) (cond ended None (cond timely (Some k) None))
number_of true timely e k n h = refl
number_of false true e k n h = ap (λ (m : ℕ). moved k (turn_of m e)) (sym h)
number_of false false e k n h = refl

pending-step : (s : Start) (e : Event) → pending (later_by e s) ≡ option_and_then (step e) (pending s)
pending-step s e = pending-push s.connection s.later e _ refl ∙ number_of (is_ended s.connection.number s.later) (is_going s) e (left_by s.connection (byte_events s.connection.number s.later)) s.connection.number refl

filter_onto : (f : Connection → Option Connection) (o : Option Connection) (ks : List Connection) → cons_option (option_and_then f o) (filter_map f ks) ≡ filter_map f (cons_option o ks)
filter_onto f None ks = refl
filter_onto f (Some k) ks = refl

stepped : (ss : List Start) (e : Event) → filter_map pending (map (later_by e) ss) ≡ filter_map (step e) (filter_map pending ss)
stepped [] e = refl
stepped (s ∷ ss) e = rw (pending-step s e, stepped ss e) (filter_onto (step e) (pending s) (filter_map pending ss))

pub pendings-push : (connections : List Connection) (es : List Event) (e : Event) → pendings connections (es ++ e ∷ []) ≡ open_next e (pendings connections es)
pendings-push connections es e =
    rw (starts-push connections es e, filter_map-append pending (map (later_by e) (starts connections es)) (map begun (accepted e)), stepped (starts connections es) e, pendings-begun (accepted e) (accepted-rest e) (accepted-going e)) refl

ask_as : (ended timely : Bool) (e : Event) (k : Connection) (c : Connection) (ks : List Connection) → (k.number ≡ c.number) × (k.peer ≡ c.peer)
    → map (message_of (moment e) c) (heard_by (cond ended None (cond timely (Some k) None)) (turn_of c.number e)) ++ flat_map (λ (k : Connection). map (message_of (moment e) k) (heard k (turn_of k.number e))) ks
    ≡ flat_map (λ (k : Connection). map (message_of (moment e) k) (heard k (turn_of k.number e))) (cons_option (cond ended None (cond timely (Some k) None)) ks)
ask_as true timely e k c ks h = refl
ask_as false true e k c ks h = rw (h.0, h.1) refl
ask_as false false e k c ks h = refl

asked_at : (ss : List Start) (e : Event) → flat_map (λ (s : Start). map (message_of (moment e) s.connection) (completed_by e s)) ss ≡ flat_map (λ (k : Connection). map (message_of (moment e) k) (heard k (turn_of k.number e))) (filter_map pending ss)
asked_at [] e = refl
asked_at (s ∷ ss) e = rw (completed_by-is e s, asked_at ss e)
    (ask_as (is_ended s.connection.number s.later) (is_going s) e (left_by s.connection (byte_events s.connection.number s.later)) s.connection (filter_map pending ss) (refl, refl))

pub completed_at-is : (connections : List Connection) (es : List Event) (e : Event) → completed_at connections es e ≡ completed_now e (pendings connections es)
completed_at-is connections es e = ap (λ (l : List Completed). datagram_by e ++ l) (asked_at (starts connections es) e)
