-- Lists that follow one another: those whose time is over have no part in what comes later.
use Rattle.std.proofs.Common.{◌≡◌, ◌≤◌, ℕ, ◌+◌, List, [], ◌∷◌, ◌++◌, map, refl, sym, ap, ◌∙◌, arith, cond, leb, Bool, true, false, ◌||◌, Option, Some, None}
use Rattle.std.proofs.lemmas.Bool.{cond-false, leb-false, lt-leb}
use Rattle.std.proofs.lemmas.Grind.{flat_map-append}
use Rattle.std.proofs.lemmas.List.Elements.{filter-append}
use Rattle.std.specs.List.{AllByRecursion, cons_option, filter, filter_map, flat_map}
use Rattle.dns_io.specs.declared.peer.Peer.{Peer}
use Rattle.dns_frames.proofs.Cutting.{frames-nil}
use Rattle.dns_server_core.specs.declared.event.Event.{Event}
use Rattle.dns_server_core.specs.declared.event.Event.TheVariants.{Accepted, Bytes, Ended, Datagram, Tick, Stop}
use Rattle.dns_server_core.specs.Runs.{Completed}
use Rattle.dns_server_core.specs.Events.{has_stop, is_stop, last_moment, last_number, moment, number_in}
use Rattle.dns_server_core.specs.Valid.{NeverFalls, StopIsLast}
use Rattle.dns_server_core.specs.Connections.{Connection, Kept, Piece, Over, Other, accepted, after, datagram_by, done, is_safe, is_within, message_of, new_connection, turn_of}
use Rattle.dns_server_core.specs.Steps.{completed_now, heard, moved, open_next, step}
use Rattle.dns_server_core.specs.Order.{IsGoing, IsKept, IsRest}
use Rattle.dns_server_core.proofs.AllConnections.{pendings, pendings-nil}
use Rattle.dns_server_core.proofs.KeptOrder.{all_kept, all_push, step-going, step-rest}
use Rattle.dns_server_core.proofs.ListsKept.{after-is}
use Rattle.dns_laws.proofs.Through.{through, opens, done_through, pendings-opens, done_from-append}

-- those that are within their limits at a moment
abbrev pub timely : ℕ → List Connection → List Connection
timely at ks = filter (λ (k : Connection). is_within k.limit k.base at) ks

abbrev said : Event → Connection → List Completed
said e k = map (message_of (moment e) k) (heard k (turn_of k.number e))

-- one that is past its limit stays so
past : (no_limit : Bool) (at later bound : ℕ) → (no_limit || leb at bound) ≡ false → at ≤ later → (no_limit || leb later bound) ≡ false
past true at later bound h l = absurd cc
past false at later bound h l = lt-leb later bound (omega (arith, leb-false at bound h, l))

past_later : (k : Connection) (at later : ℕ) → is_within k.limit k.base at ≡ false → at ≤ later → is_within k.limit k.base later ≡ false
past_later k at later h l = past _ at later (k.base + k.limit) h l

-- and hears nothing
late_piece : (k : Connection) (at : ℕ) (piece : List ℕ) (own : Bool) → is_within k.limit k.base at ≡ false
    → heard k (cond own (Piece (record { at = at; piece = piece })) Other) ≡ []
late_piece k at piece true h = cond-false _ _ _ h
late_piece k at piece false h = refl

late_end : (k : Connection) (own : Bool) → heard k (cond own Over Other) ≡ []
late_end k true = refl
late_end k false = refl

late_heard : (e : Event) (k : Connection) → is_within k.limit k.base (moment e) ≡ false → heard k (turn_of k.number e) ≡ []
late_heard (Accepted at conn peer limit) k h = refl
late_heard (Bytes at conn piece) k h = late_piece k at piece _ h
late_heard (Ended at conn) k h = late_end k _
late_heard (Datagram at peer bytes) k h = refl
late_heard (Tick at) k h = refl
late_heard (Stop at) k h = refl

late_said : (e : Event) (k : Connection) → is_within k.limit k.base (moment e) ≡ false → said e k ≡ []
late_said e k h = ap (map (message_of (moment e) k)) (late_heard e k h)

said_one : (e : Event) (at : ℕ) → at ≤ moment e → (k : Connection) (ks : List Connection) (b : Bool) → is_within k.limit k.base at ≡ b
    → flat_map (said e) ks ≡ flat_map (said e) (timely at ks) → said e k ++ flat_map (said e) ks ≡ flat_map (said e) (cond b (k ∷ timely at ks) (timely at ks))
said_one e at l k ks true h i = ap (λ (m : List Completed). said e k ++ m) i
said_one e at l k ks false h i = rw (late_said e k (past_later k at (moment e) h l)) i

said_timely : (e : Event) (at : ℕ) → at ≤ moment e → (ks : List Connection) → flat_map (said e) ks ≡ flat_map (said e) (timely at ks)
said_timely e at l [] = refl
said_timely e at l (k ∷ ks) = said_one e at l k ks (is_within k.limit k.base at) refl (said_timely e at l ks)

pub now_timely : (e : Event) (at : ℕ) → at ≤ moment e → (ks : List Connection) → completed_now e ks ≡ completed_now e (timely at ks)
now_timely e at l ks = ap (λ (m : List Completed). datagram_by e ++ m) (said_timely e at l ks)

-- nor is it open among those that are in time
outside : (k : Connection) (at : ℕ) (ks : List Connection) → is_within k.limit k.base at ≡ false → timely at (k ∷ ks) ≡ timely at ks
outside k at ks h = cond-false _ _ _ h

none_at : (k : Connection) (at : ℕ) (piece : List ℕ) → is_within k.limit k.base at ≡ false → moved k (Piece (record { at = at; piece = piece })) ≡ None
none_at k at piece h = cond-false _ _ _ h

gone_piece : (k : Connection) (at : ℕ) (piece : List ℕ) (own : Bool) (ks : List Connection) → is_within k.limit k.base at ≡ false
    → timely at (cons_option (moved k (cond own (Piece (record { at = at; piece = piece })) Other)) ks) ≡ timely at ks
gone_piece k at piece true ks h = ap (λ (o : Option Connection). timely at (cons_option o ks)) (none_at k at piece h)
gone_piece k at piece false ks h = outside k at ks h

gone_end : (k : Connection) (at : ℕ) (own : Bool) (ks : List Connection) → is_within k.limit k.base at ≡ false
    → timely at (cons_option (moved k (cond own Over Other)) ks) ≡ timely at ks
gone_end k at true ks h = refl
gone_end k at false ks h = outside k at ks h

gone : (e : Event) (k : Connection) (ks : List Connection) → is_within k.limit k.base (moment e) ≡ false → timely (moment e) (cons_option (step e k) ks) ≡ timely (moment e) ks
gone (Accepted at conn peer limit) k ks h = outside k at ks h
gone (Bytes at conn piece) k ks h = gone_piece k at piece _ ks h
gone (Ended at conn) k ks h = gone_end k at _ ks h
gone (Datagram at peer bytes) k ks h = outside k at ks h
gone (Tick at) k ks h = outside k at ks h
gone (Stop at) k ks h = outside k at ks h

onto : (at : ℕ) (o : Option Connection) (ks ls : List Connection) → timely at ks ≡ timely at ls → timely at (cons_option o ks) ≡ timely at (cons_option o ls)
onto at None ks ls h = h
onto at (Some k) ks ls h = ap (λ (ms : List Connection). cond (is_within k.limit k.base at) (k ∷ ms) ms) h

step_one : (e : Event) (at : ℕ) → at ≤ moment e → (k : Connection) (ks : List Connection) (b : Bool) → is_within k.limit k.base at ≡ b
    → timely (moment e) (filter_map (step e) ks) ≡ timely (moment e) (filter_map (step e) (timely at ks))
    → timely (moment e) (cons_option (step e k) (filter_map (step e) ks)) ≡ timely (moment e) (filter_map (step e) (cond b (k ∷ timely at ks) (timely at ks)))
step_one e at l k ks true h i = onto (moment e) (step e k) (filter_map (step e) ks) (filter_map (step e) (timely at ks)) i
step_one e at l k ks false h i = gone e k (filter_map (step e) ks) (past_later k at (moment e) h l) ∙ i

step_timely : (e : Event) (at : ℕ) → at ≤ moment e → (ks : List Connection)
    → timely (moment e) (filter_map (step e) ks) ≡ timely (moment e) (filter_map (step e) (timely at ks))
step_timely e at l [] = refl
step_timely e at l (k ∷ ks) = step_one e at l k ks (is_within k.limit k.base at) refl (step_timely e at l ks)

pub next_timely : (e : Event) (at : ℕ) → at ≤ moment e → (ks : List Connection) → timely (moment e) (open_next e ks) ≡ timely (moment e) (open_next e (timely at ks))
next_timely e at l ks =
    filter-append (λ (k : Connection). is_within k.limit k.base (moment e)) (filter_map (step e) ks) (accepted e)
    ∙ ap (λ (ms : List Connection). ms ++ timely (moment e) (accepted e)) (step_timely e at l ks)
    ∙ sym (filter-append (λ (k : Connection). is_within k.limit k.base (moment e)) (filter_map (step e) (timely at ks)) (accepted e))

-- so they may be let go at any moment that has come
pub through_timely : (ks : List Connection) (es : List Event) (at : ℕ) → NeverFalls at (map moment es) → through ks es ≡ through (timely at ks) es
through_timely ks [] at n = refl
through_timely ks (e ∷ es) at n =
    ap (λ (l : List Completed). l ++ through (open_next e ks) es) (now_timely e at n.0 ks)
    ∙ ap (λ (l : List Completed). completed_now e (timely at ks) ++ l)
    (through_timely (open_next e ks) es (moment e) n.1
    ∙ ap (λ (ls : List Connection). through ls es) (next_timely e at n.0 ks)
    ∙ sym (through_timely (open_next e (timely at ks)) es (moment e) n.1))

twice_one : (k : Connection) (at : ℕ) (ks : List Connection) (b : Bool) → is_within k.limit k.base at ≡ b → timely at ks ≡ timely at (timely at ks)
    → cond b (k ∷ timely at ks) (timely at ks) ≡ timely at (cond b (k ∷ timely at ks) (timely at ks))
twice_one k at ks true h i = ap (λ (ms : List Connection). k ∷ ms) i ∙ sym (ap (λ (b : Bool). cond b (k ∷ timely at (timely at ks)) (timely at (timely at ks))) h)
twice_one k at ks false h i = i

pub twice : (at : ℕ) (ks : List Connection) → timely at ks ≡ timely at (timely at ks)
twice at [] = refl
twice at (k ∷ ks) = twice_one k at ks (is_within k.limit k.base at) refl (twice at ks)

pub opens_timely : (ks : List Connection) (es : List Event) (at : ℕ) → NeverFalls at (map moment es)
    → timely (last_moment at es) (opens ks es) ≡ timely (last_moment at es) (opens (timely at ks) es)
opens_timely ks [] at n = twice at ks
opens_timely ks (e ∷ es) at n =
    opens_timely (open_next e ks) es (moment e) n.1
    ∙ ap (λ (ls : List Connection). timely (last_moment (moment e) es) (opens ls es)) (next_timely e at n.0 ks)
    ∙ sym (opens_timely (open_next e (timely at ks)) es (moment e) n.1)

-- what is kept of connections
safe : (P : Connection → Type 0) (b : Bool) (k : Connection) → P k → AllByRecursion P (cond b (k ∷ []) [])
safe P true k h = (h, tt)
safe P false k h = tt

accepted_all : (P : Connection → Type 0) → ((number : ℕ) (peer : Peer) (limit at : ℕ) → P (new_connection number peer limit at)) → (e : Event) → AllByRecursion P (accepted e)
accepted_all P h (Accepted at conn peer limit) = safe P (is_safe peer) (new_connection conn peer limit at) (h conn peer limit at)
accepted_all P h (Bytes at conn piece) = tt
accepted_all P h (Ended at conn) = tt
accepted_all P h (Datagram at peer bytes) = tt
accepted_all P h (Tick at) = tt
accepted_all P h (Stop at) = tt

pub opens_all : (P : Connection → Type 0) → ((number : ℕ) (peer : Peer) (limit at : ℕ) → P (new_connection number peer limit at))
    → ((e : Event) (k l : Connection) → step e k ≡ Some l → P k → P l) → (ks : List Connection) (es : List Event) → AllByRecursion P ks → AllByRecursion P (opens ks es)
opens_all P new on ks [] h = h
opens_all P new on ks (e ∷ es) h =
    opens_all P new on (open_next e ks) es (all_push P (filter_map (step e) ks) (accepted e) (all_kept P (step e) (on e) ks h) (accepted_all P new e))

in_time_one : (P : Connection → Type 0) (k : Connection) (b : Bool) (ks : List Connection) → P k → AllByRecursion P ks → AllByRecursion P (cond b (k ∷ ks) ks)
in_time_one P k true ks p h = (p, h)
in_time_one P k false ks p h = h

all_timely : (P : Connection → Type 0) (at : ℕ) (ks : List Connection) → AllByRecursion P ks → AllByRecursion P (timely at ks)
all_timely P at [] h = tt
all_timely P at (k ∷ ks) h = in_time_one P k (is_within k.limit k.base at) (timely at ks) h.0 (all_timely P at ks h.1)

-- stops
both_false : (a b : Bool) → (a || b) ≡ false → (a ≡ false) × (b ≡ false)
both_false true b h = absurd cc
both_false false b h = (refl, h)

or_same : (a b : Bool) → a ≡ false → b ≡ false → (a || b) ≡ false
or_same true b h i = h
or_same false b h i = i

none_last : (es : List Event) → has_stop es ≡ false → StopIsLast es
none_last [] h = tt
none_last (e ∷ es) h = let p = both_false (is_stop e) (has_stop es) h in (λ s. absurd (let f = p.0 in cc), none_last es p.1)

append_last : (front back : List Event) → has_stop front ≡ false → StopIsLast back → StopIsLast (front ++ back)
append_last [] back h s = s
append_last (e ∷ front) back h s = let p = both_false (is_stop e) (has_stop front) h in (λ t. absurd (let f = p.0 in cc), append_last front back p.1 s)

or_again : (a b c : Bool) → (a || (b || c)) ≡ ((a || b) || c)
or_again true b c = refl
or_again false b c = refl

stop_append : (front back : List Event) → has_stop (front ++ back) ≡ (has_stop front || has_stop back)
stop_append [] back = refl
stop_append (e ∷ front) back = ap (λ (b : Bool). is_stop e || b) (stop_append front back) ∙ or_again (is_stop e) (has_stop front) (has_stop back)

moment_append : (last : ℕ) (front back : List Event) → last_moment last (front ++ back) ≡ last_moment (last_moment last front) back
moment_append last [] back = refl
moment_append last (e ∷ front) back = moment_append (moment e) front back

number_append : (g : Option ℕ) (ns ms : List ℕ) → last_number g (ns ++ ms) ≡ last_number (last_number g ns) ms
number_append g [] ms = refl
number_append g (n ∷ ns) ms = number_append (Some n) ns ms

-- what the first list leaves
pub left_open : (kept : Kept) (front : List Event) → (after kept front).stopped ≡ false
    → (after kept front).connections ≡ timely (last_moment kept.last front) (pendings kept.connections front)
left_open kept front running =
    let p = both_false kept.stopped (has_stop front) running in
    sym (ap (λ (k : Kept). k.connections) (after-is kept front p.0 (none_last front p.1)))
    ∙ cond-false _ _ _ running

pending_opens : (kept : Kept) (front : List Event) → IsKept kept → pendings kept.connections front ≡ opens kept.connections front
pending_opens kept front is = pendings-opens kept.connections [] front ∙ ap (λ (ks : List Connection). opens ks front) (pendings-nil kept.connections is.rests is.going)

left_rests : (kept : Kept) (front : List Event) → IsKept kept → (after kept front).stopped ≡ false → AllByRecursion IsRest (after kept front).connections
left_rests kept front is running =
    rw (left_open kept front running, pending_opens kept front is)
    (all_timely IsRest (last_moment kept.last front) (opens kept.connections front)
    (opens_all IsRest (λ number peer limit at. frames-nil) step-rest kept.connections front is.rests))

left_going : (kept : Kept) (front : List Event) → IsKept kept → (after kept front).stopped ≡ false → AllByRecursion IsGoing (after kept front).connections
left_going kept front is running =
    rw (left_open kept front running, pending_opens kept front is)
    (all_timely IsGoing (last_moment kept.last front) (opens kept.connections front)
    (opens_all IsGoing (λ number peer limit at. omega arith) step-going kept.connections front is.going))

pub left_pending : (kept : Kept) (front : List Event) → IsKept kept → (after kept front).stopped ≡ false
    → pendings (after kept front).connections [] ≡ timely (last_moment kept.last front) (pendings kept.connections front)
left_pending kept front is running =
    pendings-nil (after kept front).connections (left_rests kept front is running) (left_going kept front is running) ∙ left_open kept front running

-- the messages of both
pub done-append : (kept : Kept) (front back : List Event) → IsKept kept → (after kept front).stopped ≡ false → NeverFalls (after kept front).last (map moment back)
    → done kept (front ++ back) ≡ done kept front ++ done (after kept front) back
done-append kept front back is running n =
    done_from-append kept.connections [] front back
    ∙ ap (λ (l : List Completed). done kept front ++ l)
    (done_through kept.connections front back
    ∙ through_timely (pendings kept.connections front) back (last_moment kept.last front) n
    ∙ ap (λ (ks : List Connection). through ks back) (sym (left_pending kept front is running))
    ∙ sym (done_through (after kept front).connections [] back))

-- and what is left behind both
abbrev ending : ℕ → Option ℕ → Bool → List Connection → Kept
ending last greatest stopped ks = record { last = last; greatest = greatest; stopped = stopped; connections = cond stopped [] ks }

same_ending : (last last_now : ℕ) (greatest greatest_now : Option ℕ) (stopped stopped_now : Bool) (ks ks_now : List Connection) → last ≡ last_now → greatest ≡ greatest_now → stopped ≡ stopped_now → ks ≡ ks_now
    → ending last greatest stopped ks ≡ ending last_now greatest_now stopped_now ks_now
same_ending last last_now greatest greatest_now stopped stopped_now ks ks_now l g s k =
    ap (λ (n : ℕ). ending n greatest stopped ks) l ∙ ap (λ (o : Option ℕ). ending last_now o stopped ks) g
    ∙ ap (λ (b : Bool). ending last_now greatest_now b ks) s ∙ ap (ending last_now greatest_now stopped_now) k

pub after-append : (kept : Kept) (front back : List Event) → IsKept kept → (after kept front).stopped ≡ false → NeverFalls (after kept front).last (map moment back) → StopIsLast back
    → after kept (front ++ back) ≡ after (after kept front) back
after-append kept front back is running n stop =
    let p = both_false kept.stopped (has_stop front) running in
    let here : ℕ = last_moment kept.last front in
    let open_now : timely (last_moment here back) (pendings kept.connections (front ++ back)) ≡ timely (last_moment here back) (pendings (after kept front).connections back) =
    ap (timely (last_moment here back)) (pendings-opens kept.connections front back)
    ∙ opens_timely (pendings kept.connections front) back here n
    ∙ ap (λ (ks : List Connection). timely (last_moment here back) (opens ks back)) (sym (left_pending kept front is running))
    ∙ ap (timely (last_moment here back)) (sym (pendings-opens (after kept front).connections [] back))
    in
    sym (after-is kept (front ++ back) p.0 (append_last front back p.1 stop))
    ∙ same_ending (last_moment kept.last (front ++ back)) (last_moment here back)
    (last_number kept.greatest (flat_map number_in (front ++ back))) (last_number (last_number kept.greatest (flat_map number_in front)) (flat_map number_in back))
    (kept.stopped || has_stop (front ++ back)) ((kept.stopped || has_stop front) || has_stop back)
    (timely (last_moment kept.last (front ++ back)) (pendings kept.connections (front ++ back))) (timely (last_moment here back) (pendings (after kept front).connections back))
    (moment_append kept.last front back)
    (ap (last_number kept.greatest) (flat_map-append number_in front back) ∙ number_append kept.greatest (flat_map number_in front) (flat_map number_in back))
    (ap (λ (b : Bool). kept.stopped || b) (stop_append front back) ∙ or_again kept.stopped (has_stop front) (has_stop back))
    (ap (λ (m : ℕ). timely m (pendings kept.connections (front ++ back))) (moment_append kept.last front back) ∙ open_now)
    ∙ after-is (after kept front) back running stop
