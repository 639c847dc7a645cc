-- The messages of a receiver are those that its own events complete.
use Rattle.std.proofs.Common.{◌≡◌, ℕ, List, [], ◌∷◌, ◌++◌, map, refl, sym, ap, ◌∙◌, cond, Bool, true, false, not, Option, Some, None, append-nil}
use Rattle.std.proofs.lemmas.List.Elements.{filter-append}
use Rattle.std.specs.List.{filter, filter_map, flat_map, cons_option}
use Rattle.dns_server_core.specs.Connections.{Connection}
use Rattle.dns_server_core.specs.declared.event.Event.{Event}
use Rattle.dns_server_core.specs.declared.event.Event.TheVariants.{Accepted, Bytes, Ended, Datagram, Tick, Stop}
use Rattle.dns_server_core.specs.declared.event.Receiver.{Receiver}
use Rattle.dns_server_core.specs.declared.event.Receiver.TheVariants as to
use Rattle.dns_server_core.specs.Events.{moment}
use Rattle.dns_server_core.specs.Runs.{Completed}
use Rattle.dns_server_core.specs.Connections.{Kept, Other, turn_of, is_safe, accepted, message_of, datagram_by, done, done_from, new_connection}
use Rattle.dns_server_core.specs.Steps.{moved, heard, step, completed_now, open_next}
use Rattle.dns_server_core.proofs.KeptOrder.{step-number}
use Rattle.dns_server_core.proofs.AllConnections.{pendings, pendings-push}
use Rattle.dns_server_core.proofs.ListsKept.{done-next}
use Rattle.dns_laws.specs.Receivers.{is_one, owner_of, is_no_others, without_others, messages_to}
use Rattle.dns_laws.proofs.OneReceiver.{differs}

-- one receiver and one event

-- whether a connection is this receiver
abbrev own : Receiver → Connection → Bool
own r k = is_one r (to.Conn k.number)

-- whether an event stays without those of others
abbrev stays : Receiver → Event → Bool
stays r e = is_no_others r (owner_of e)

-- the messages that an event completes on a connection
abbrev said : Event → Connection → List Completed
said e k = map (message_of (moment e) k) (heard k (turn_of k.number e))

-- an event of one receiver is nothing to the connections of another
other_turn : (r : Receiver) (e : Event) (n : ℕ) (x : Bool) → stays r e ≡ x → is_one r (to.Conn n) ≡ not x → turn_of n e ≡ Other
other_turn r (Accepted at conn peer limit) n x p q = refl
other_turn r (Bytes at conn piece) n x p q = rw (differs r conn n x p q) refl
other_turn r (Ended at conn) n x p q = rw (differs r conn n x p q) refl
other_turn r (Datagram at peer bytes) n x p q = refl
other_turn r (Tick at) n x p q = refl
other_turn r (Stop at) n x p q = refl

unsaid : (e : Event) (k : Connection) → turn_of k.number e ≡ Other → said e k ≡ []
unsaid e k h = ap (λ t. map (message_of (moment e) k) (heard k t)) h

unmoved : (e : Event) (k : Connection) → turn_of k.number e ≡ Other → step e k ≡ Some k
unmoved e k h = ap (moved k) h

-- what an event accepts
accepted_own : (r : Receiver) (k : Connection) (safe : Bool) → own r k ≡ true → filter (own r) (cond safe (k ∷ []) []) ≡ cond safe (k ∷ []) []
accepted_own r k true h = rw h refl
accepted_own r k false h = refl

accepted_other : (r : Receiver) (k : Connection) (safe : Bool) → own r k ≡ false → filter (own r) (cond safe (k ∷ []) []) ≡ []
accepted_other r k true h = rw h refl
accepted_other r k false h = refl

own_accepted : (r : Receiver) (e : Event) → stays r e ≡ true → filter (own r) (accepted e) ≡ accepted e
own_accepted r (Accepted at conn peer limit) h = accepted_own r (new_connection conn peer limit at) (is_safe peer) h
own_accepted r (Bytes at conn piece) h = refl
own_accepted r (Ended at conn) h = refl
own_accepted r (Datagram at peer bytes) h = refl
own_accepted r (Tick at) h = refl
own_accepted r (Stop at) h = refl

other_accepted : (r : Receiver) (e : Event) → stays r e ≡ false → filter (own r) (accepted e) ≡ []
other_accepted r (Accepted at conn peer limit) h = accepted_other r (new_connection conn peer limit at) (is_safe peer) h
other_accepted r (Bytes at conn piece) h = refl
other_accepted r (Ended at conn) h = refl
other_accepted r (Datagram at peer bytes) h = refl
other_accepted r (Tick at) h = refl
other_accepted r (Stop at) h = refl

-- the message that a datagram is
own_datagram : (r : Receiver) (e : Event) → stays r e ≡ true → messages_to r (datagram_by e) ≡ datagram_by e
own_datagram r (Accepted at conn peer limit) h = refl
own_datagram r (Bytes at conn piece) h = refl
own_datagram r (Ended at conn) h = refl
own_datagram r (Datagram at peer bytes) h = rw h refl
own_datagram r (Tick at) h = refl
own_datagram r (Stop at) h = refl

other_datagram : (r : Receiver) (e : Event) → stays r e ≡ false → messages_to r (datagram_by e) ≡ []
other_datagram r (Accepted at conn peer limit) h = refl
other_datagram r (Bytes at conn piece) h = refl
other_datagram r (Ended at conn) h = refl
other_datagram r (Datagram at peer bytes) h = rw h refl
other_datagram r (Tick at) h = refl
other_datagram r (Stop at) h = refl

-- all connections

map_own : (r : Receiver) (at : ℕ) (k : Connection) (ms : List (List ℕ)) → own r k ≡ true → messages_to r (map (message_of at k) ms) ≡ map (message_of at k) ms
map_own r at k [] h = refl
map_own r at k (m ∷ ms) h = rw (h, map_own r at k ms h) refl

map_other : (r : Receiver) (at : ℕ) (k : Connection) (ms : List (List ℕ)) → own r k ≡ false → messages_to r (map (message_of at k) ms) ≡ []
map_other r at k [] h = refl
map_other r at k (m ∷ ms) h = rw (h, map_other r at k ms h) refl

said_if : (r : Receiver) (e : Event) (k : Connection) (ks : List Connection) (b : Bool) → own r k ≡ b → messages_to r (flat_map (said e) ks) ≡ flat_map (said e) (filter (own r) ks)
    → messages_to r (said e k) ++ messages_to r (flat_map (said e) ks) ≡ flat_map (said e) (cond b (k ∷ filter (own r) ks) (filter (own r) ks))
said_if r e k ks true h i = rw (map_own r (moment e) k (heard k (turn_of k.number e)) h, i) refl
said_if r e k ks false h i = rw (map_other r (moment e) k (heard k (turn_of k.number e)) h, i) refl

-- the messages to a receiver are those of its own connection
own_said : (r : Receiver) (e : Event) (ks : List Connection) → messages_to r (flat_map (said e) ks) ≡ flat_map (said e) (filter (own r) ks)
own_said r e [] = refl
own_said r e (k ∷ ks) = filter-append (λ (c : Completed). is_one r c.to) (said e k) (flat_map (said e) ks) ∙ said_if r e k ks (own r k) refl (own_said r e ks)

none_if : (r : Receiver) (e : Event) (k : Connection) (ks : List Connection) → stays r e ≡ false → (b : Bool) → own r k ≡ b → flat_map (said e) (filter (own r) ks) ≡ []
    → flat_map (said e) (cond b (k ∷ filter (own r) ks) (filter (own r) ks)) ≡ []
none_if r e k ks h true o i = rw (unsaid e k (other_turn r e k.number false h o), i) refl
none_if r e k ks h false o i = i

-- which has none by an event of another
none_said : (r : Receiver) (e : Event) (ks : List Connection) → stays r e ≡ false → flat_map (said e) (filter (own r) ks) ≡ []
none_said r e [] h = refl
none_said r e (k ∷ ks) h = none_if r e k ks h (own r k) refl (none_said r e ks h)

all_if : (r : Receiver) (e : Event) (k : Connection) (ks : List Connection) → stays r e ≡ true → (b : Bool) → own r k ≡ b → flat_map (said e) ks ≡ flat_map (said e) (filter (own r) ks)
    → said e k ++ flat_map (said e) ks ≡ flat_map (said e) (cond b (k ∷ filter (own r) ks) (filter (own r) ks))
all_if r e k ks h true o i = ap (λ (l : List Completed). said e k ++ l) i
all_if r e k ks h false o i = rw (unsaid e k (other_turn r e k.number true h o)) i

-- and has all by its own
all_said : (r : Receiver) (e : Event) (ks : List Connection) → stays r e ≡ true → flat_map (said e) ks ≡ flat_map (said e) (filter (own r) ks)
all_said r e [] h = refl
all_said r e (k ∷ ks) h = all_if r e k ks h (own r k) refl (all_said r e ks h)

stay_if : (r : Receiver) (e : Event) (k : Connection) (ks : List Connection) → stays r e ≡ false → (b : Bool) → own r k ≡ b → filter_map (step e) (filter (own r) ks) ≡ filter (own r) ks
    → filter_map (step e) (cond b (k ∷ filter (own r) ks) (filter (own r) ks)) ≡ cond b (k ∷ filter (own r) ks) (filter (own r) ks)
stay_if r e k ks h true o i = rw (unmoved e k (other_turn r e k.number false h o), i) refl
stay_if r e k ks h false o i = i

stay : (r : Receiver) (e : Event) (ks : List Connection) → stays r e ≡ false → filter_map (step e) (filter (own r) ks) ≡ filter (own r) ks
stay r e [] h = refl
stay r e (k ∷ ks) h = stay_if r e k ks h (own r k) refl (stay r e ks h)

step_if : (r : Receiver) (e : Event) (k : Connection) (ks : List Connection) (o : Option Connection) → step e k ≡ o → (b : Bool) → own r k ≡ b
    → filter (own r) (filter_map (step e) ks) ≡ filter_map (step e) (filter (own r) ks)
    → filter (own r) (cons_option o (filter_map (step e) ks)) ≡ filter_map (step e) (cond b (k ∷ filter (own r) ks) (filter (own r) ks))
step_if r e k ks None s true h i = rw s i
step_if r e k ks None s false h i = i
step_if r e k ks (Some l) s true h i =
    let same : own r l ≡ true = ap (λ (n : ℕ). is_one r (to.Conn n)) (step-number e k l s) ∙ h in
    rw (s, same, i) refl
step_if r e k ks (Some l) s false h i =
    let same : own r l ≡ false = ap (λ (n : ℕ). is_one r (to.Conn n)) (step-number e k l s) ∙ h in
    rw same i

-- a step keeps the numbers
own_step : (r : Receiver) (e : Event) (ks : List Connection) → filter (own r) (filter_map (step e) ks) ≡ filter_map (step e) (filter (own r) ks)
own_step r e [] = refl
own_step r e (k ∷ ks) = step_if r e k ks (step e k) refl (own r k) refl (own_step r e ks)

-- one event: of nobody, or of the receiver

now_own : (r : Receiver) (e : Event) (ks : List Connection) → stays r e ≡ true → messages_to r (completed_now e ks) ≡ completed_now e (filter (own r) ks)
now_own r e ks h =
    filter-append (λ (c : Completed). is_one r c.to) (datagram_by e) (flat_map (said e) ks)
    ∙ ap (λ (l : List Completed). l ++ messages_to r (flat_map (said e) ks)) (own_datagram r e h)
    ∙ ap (λ (l : List Completed). datagram_by e ++ l) (own_said r e ks)

now_all : (r : Receiver) (e : Event) (ks : List Connection) → stays r e ≡ true → completed_now e ks ≡ completed_now e (filter (own r) ks)
now_all r e ks h = ap (λ (l : List Completed). datagram_by e ++ l) (all_said r e ks h)

next_own : (r : Receiver) (e : Event) (ks : List Connection) → stays r e ≡ true → filter (own r) (open_next e ks) ≡ open_next e (filter (own r) ks)
next_own r e ks h =
    filter-append (own r) (filter_map (step e) ks) (accepted e)
    ∙ ap (λ (l : List Connection). l ++ filter (own r) (accepted e)) (own_step r e ks)
    ∙ ap (λ (l : List Connection). filter_map (step e) (filter (own r) ks) ++ l) (own_accepted r e h)

-- one event: of another

now_none : (r : Receiver) (e : Event) (ks : List Connection) → stays r e ≡ false → messages_to r (completed_now e ks) ≡ []
now_none r e ks h =
    filter-append (λ (c : Completed). is_one r c.to) (datagram_by e) (flat_map (said e) ks)
    ∙ ap (λ (l : List Completed). l ++ messages_to r (flat_map (said e) ks)) (other_datagram r e h)
    ∙ own_said r e ks ∙ none_said r e ks h

next_same : (r : Receiver) (e : Event) (ks : List Connection) → stays r e ≡ false → filter (own r) (open_next e ks) ≡ filter (own r) ks
next_same r e ks h =
    filter-append (own r) (filter_map (step e) ks) (accepted e)
    ∙ ap (λ (l : List Connection). filter (own r) (filter_map (step e) ks) ++ l) (other_accepted r e h)
    ∙ append-nil (filter (own r) (filter_map (step e) ks))
    ∙ own_step r e ks ∙ stay r e ks h

-- a whole list

-- what events complete, from these connections on
abbrev through : List Connection → List Event → List Completed
through ks [] = []
through ks (e ∷ es) = completed_now e ks ++ through (open_next e ks) es

done_through : (connections : List Connection) (seen rest : List Event) → done_from connections seen rest ≡ through (pendings connections seen) rest
done_through connections seen [] = refl
done_through connections seen (e ∷ rest) =
    done-next connections seen rest e
    ∙ ap (λ (l : List Completed). completed_now e (pendings connections seen) ++ l)
    (done_through connections (seen ++ e ∷ []) rest ∙ ap (λ (ks : List Connection). through ks rest) (pendings-push connections seen e))

only_if : (r : Receiver) (ks : List Connection) (e : Event) (es : List Event) (b : Bool) → stays r e ≡ b
    → messages_to r (completed_now e ks) ++ through (filter (own r) (open_next e ks)) (without_others r es) ≡ through (filter (own r) ks) (cond b (e ∷ without_others r es) (without_others r es))
only_if r ks e es true h =
    ap (λ (l : List Completed). l ++ through (filter (own r) (open_next e ks)) (without_others r es)) (now_own r e ks h)
    ∙ ap (λ (ls : List Connection). completed_now e (filter (own r) ks) ++ through ls (without_others r es)) (next_own r e ks h)
only_if r ks e es false h =
    ap (λ (l : List Completed). l ++ through (filter (own r) (open_next e ks)) (without_others r es)) (now_none r e ks h)
    ∙ ap (λ (ls : List Connection). through ls (without_others r es)) (next_same r e ks h)

-- the messages to a receiver come by its own events on its own connection
only : (r : Receiver) (ks : List Connection) (es : List Event) → messages_to r (through ks es) ≡ through (filter (own r) ks) (without_others r es)
only r ks [] = refl
only r ks (e ∷ es) =
    filter-append (λ (c : Completed). is_one r c.to) (completed_now e ks) (through (open_next e ks) es)
    ∙ ap (λ (l : List Completed). messages_to r (completed_now e ks) ++ l) (only r (open_next e ks) es)
    ∙ only_if r ks e es (stays r e) refl

alone_if : (r : Receiver) (ks : List Connection) (e : Event) (es : List Event) (b : Bool) → stays r e ≡ b
    → ((ls : List Connection) → through ls (without_others r es) ≡ through (filter (own r) ls) (without_others r es))
    → through ks (cond b (e ∷ without_others r es) (without_others r es)) ≡ through (filter (own r) ks) (cond b (e ∷ without_others r es) (without_others r es))
alone_if r ks e es true h i =
    ap (λ (l : List Completed). completed_now e ks ++ l) (i (open_next e ks) ∙ ap (λ (ls : List Connection). through ls (without_others r es)) (next_own r e ks h))
    ∙ ap (λ (l : List Completed). l ++ through (open_next e (filter (own r) ks)) (without_others r es)) (now_all r e ks h)
alone_if r ks e es false h i = i ks

-- other connections have no part in these
alone : (r : Receiver) (ks : List Connection) (es : List Event) → through ks (without_others r es) ≡ through (filter (own r) ks) (without_others r es)
alone r ks [] = refl
alone r ks (e ∷ es) = alone_if r ks e es (stays r e) refl (λ (ls : List Connection). alone r ls es)

pub own-done : (kept : Kept) (r : Receiver) (events : List Event) → messages_to r (done kept events) ≡ done kept (without_others r events)
own-done kept r events =
    let ks : List Connection = pendings kept.connections [] in
    ap (messages_to r) (done_through kept.connections [] events)
    ∙ only r ks events
    ∙ sym (alone r ks events)
    ∙ sym (done_through kept.connections [] (without_others r events))
