-- A connection's pieces, one more at the end.
use Rattle.std.proofs.Common.{◌≡◌, ◌≤◌, ◌<◌, ℕ, List, [], ◌∷◌, ◌++◌, ◌+◌, ◌-◌, min, not, leb, length, map, take, drop, get_or, refl, sym, ap, ◌∙◌, append_assoc, append-nil, arith, zero, suc, inl, inr, length-append, ltb, cond, Bool, true, false, Option, Some, None, ◌&&◌}
use Rattle.std.proofs.lemmas.List.{take-append-le, take_all, take_min, map-append, length-map, get_or_append_left}
use Rattle.std.proofs.lemmas.Grind.{flat_map-append}
use Rattle.std.proofs.Math.Seq.{drop-append_seam, get_or-append_seam, take-length}
use Rattle.std.proofs.Math.Nat.{min-eq_right}
use Rattle.std.proofs.lemmas.Bool.{cases_lt, le-leb, le-ltb, lt-leb, lt-ltb, ltb-true, cond-true, cond-false}
use Rattle.std.specs.List.{flat_map}
use Rattle.std.specs.Option.{option_and_then}
use Rattle.dns_edges.specs.Listening.{Arrival}
use Rattle.dns_server_core.specs.declared.event.Event.{Event}
use Rattle.dns_frames.specs.Frames.{Cut, frames, ahead}
use Rattle.dns_server_core.specs.Connections.{Connection, Turn, Piece, Over, Other, turn_of, heading, ending, byte_events, is_ended, total, whole, moment_at, base, is_within, in_time, completed, left_by, Start, completed_with, completed_by, may_go_on, messages_left}
use Rattle.dns_server_core.specs.FrameRuns.{behind_first, first_messages}
use Rattle.dns_server_core.specs.Steps.{base_by, fed_by, heard, is_over, messages_in, moved, unless_over}
use Rattle.dns_frames.proofs.Cutting.{frames-more}
use Rattle.dns_server_core.proofs.FirstFrames.{behind_all, changed, fed_few, first_count, first_more}

pub heading-append : (t : Turn) (xs ys : List Arrival) (ended : Bool) → ending t ended ≡ false → heading t (xs ++ ys) ≡ heading t xs ++ ys
heading-append (Piece a) xs ys ended e = refl
heading-append Over xs ys ended e = absurd cc
heading-append Other xs ys ended e = refl

pub ending-back : (t : Turn) (ended : Bool) → ending t ended ≡ false → ended ≡ false
ending-back (Piece a) ended e = e
ending-back Over ended e = absurd cc
ending-back Other ended e = e

pub byte_events-push : (n : ℕ) (es : List Event) (e : Event) → is_ended n es ≡ false → byte_events n (es ++ e ∷ []) ≡ byte_events n es ++ heading (turn_of n e) []
byte_events-push n [] e h = refl
byte_events-push n (x ∷ es) e h =
    ap (heading (turn_of n x)) (byte_events-push n es e (ending-back _ _ h))
    ∙ heading-append (turn_of n x) (byte_events n es) (heading (turn_of n e) []) (is_ended n es) h

still : (t : Turn) (ended : Bool) (next b : Bool) → ending t ended ≡ false → next ≡ b → ending t next ≡ b
still (Piece a) ended next b h p = p
still Over ended next b h p = absurd cc
still Other ended next b h p = p

pub is_ended-push : (n : ℕ) (es : List Event) (e : Event) → is_ended n es ≡ false → is_ended n (es ++ e ∷ []) ≡ ending (turn_of n e) false
is_ended-push n [] e h = refl
is_ended-push n (x ∷ es) e h = still (turn_of n x) (is_ended n es) _ _ h (is_ended-push n es e (ending-back (turn_of n x) _ h))

on : (t : Turn) {b c : Bool} → (b ≡ true → c ≡ true) → ending t b ≡ true → ending t c ≡ true
on (Piece a) f h = f h
on Over f h = refl
on Other f h = f h

pub is_ended-on : (n : ℕ) (es : List Event) (e : Event) → is_ended n es ≡ true → is_ended n (es ++ e ∷ []) ≡ true
is_ended-on n [] e h = absurd cc
is_ended-on n (x ∷ es) e h = on (turn_of n x) (λ k. is_ended-on n es e k) h

-- what is said of the first i pieces does not change by one more
pub total-push : (conn : Connection) (ps : List Arrival) (a : Arrival) (i : ℕ) → i ≤ length ps → total conn (ps ++ a ∷ []) i ≡ total conn ps i
unfolding total
total-push conn ps a i l = rw (take-append-le i ps (a ∷ []) l) refl

pub whole-push : (conn : Connection) (ps : List Arrival) (a : Arrival) (i : ℕ) → i ≤ length ps → whole conn (ps ++ a ∷ []) i ≡ whole conn ps i
unfolding whole
whole-push conn ps a i l = rw (total-push conn ps a i l) refl

pub moment_at-push : (ps : List Arrival) (a : Arrival) (i : ℕ) → i < length ps → moment_at (ps ++ a ∷ []) i ≡ moment_at ps i
unfolding moment_at
moment_at-push ps a i l = ap (λ (xs : List ℕ). get_or xs i 0) (map-append (λ (p : Arrival). p.at) ps (a ∷ [])) ∙ get_or_append_left (map (λ (p : Arrival). p.at) ps) (a.at ∷ []) 0 i (rw (length-map ps (λ (p : Arrival). p.at)) l)

pub moment_at-last : (ps : List Arrival) (a : Arrival) → moment_at (ps ++ a ∷ []) (length ps) ≡ a.at
unfolding moment_at
moment_at-last ps a = ap (λ (xs : List ℕ). get_or xs (length ps) 0) (map-append (λ (p : Arrival). p.at) ps (a ∷ []))
    ∙ ap (λ (i : ℕ). get_or (map (λ (p : Arrival). p.at) ps ++ a.at ∷ []) i 0) (sym (length-map ps (λ (p : Arrival). p.at)))
    ∙ get_or-append_seam (map (λ (p : Arrival). p.at) ps) a.at [] 0

pub base-push : (conn : Connection) (ps : List Arrival) (a : Arrival) (i : ℕ) → i ≤ length ps → base conn (ps ++ a ∷ []) i ≡ base conn ps i
unfolding base
base-push conn ps a zero l = refl
base-push conn ps a (suc i) l = rw (whole-push conn ps a i (omega arith), whole-push conn ps a (suc i) l, moment_at-push ps a i (omega arith), base-push conn ps a i (omega arith)) refl

pub in_time-push : (conn : Connection) (ps : List Arrival) (a : Arrival) (i : ℕ) → i ≤ length ps → in_time conn (ps ++ a ∷ []) i ≡ in_time conn ps i
unfolding in_time
in_time-push conn ps a zero l = refl
in_time-push conn ps a (suc i) l = rw (in_time-push conn ps a i (omega arith), whole-push conn ps a i (omega arith), moment_at-push ps a i (omega arith), base-push conn ps a i (omega arith)) refl

-- one piece more
pub total-last : (conn : Connection) (ps : List Arrival) (a : Arrival) → total conn (ps ++ a ∷ []) (suc (length ps)) ≡ total conn ps (length ps) ++ a.piece
unfolding total
total-last conn ps a =
    rw (take_all (suc (length ps)) (ps ++ a ∷ []) (omega (arith, length-append ps (a ∷ []))), take-length ps, flat_map-append (λ (p : Arrival). p.piece) ps (a ∷ []), append-nil a.piece, append_assoc conn.rest (flat_map (λ (p : Arrival). p.piece) ps) a.piece) refl

pub in_time-last : (conn : Connection) (ps : List Arrival) (a : Arrival) → in_time conn (ps ++ a ∷ []) (suc (length ps)) ≡ (in_time conn ps (length ps) && (may_go_on conn ps (length ps) && is_within conn.limit (base conn ps (length ps)) a.at))
unfolding in_time
in_time-last conn ps a = rw (in_time-push conn ps a (length ps) (omega arith), whole-push conn ps a (length ps) (omega arith), base-push conn ps a (length ps) (omega arith), moment_at-last ps a) refl

-- where it may have more messages, those so far are all that there are
few_of : (most count : ℕ) → ltb (min most count) most ≡ true → count < most
few_of most count more = omega (arith, ltb-true _ _ more)

pub few_so_far : (conn : Connection) (ps : List Arrival) → may_go_on conn ps (length ps) ≡ true → length (frames (total conn ps (length ps))).messages < messages_left conn
unfolding whole
few_so_far conn ps more = few_of (messages_left conn) (length (frames (total conn ps (length ps))).messages) more

whole-all : (conn : Connection) (ps : List Arrival) → may_go_on conn ps (length ps) ≡ true → whole conn ps (length ps) ≡ length (frames (total conn ps (length ps))).messages
unfolding whole
whole-all conn ps more = min-eq_right (omega (arith, few_of (messages_left conn) (length (frames (total conn ps (length ps))).messages) more))

-- so many may follow
left-last : (conn : Connection) (ps : List Arrival) → may_go_on conn ps (length ps) ≡ true
    → messages_left conn - length (frames (total conn ps (length ps))).messages ≡ messages_left (left_by conn ps)
left-last conn ps more = omega (arith, whole-all conn ps more)

-- the messages that one piece more completes
abbrev pub next_messages : Connection → List Arrival → Arrival → List (List ℕ)
next_messages conn ps a = messages_in (left_by conn ps) ((left_by conn ps).rest ++ a.piece)

pub messages-last : (conn : Connection) (ps : List Arrival) (a : Arrival) → may_go_on conn ps (length ps) ≡ true
    → first_messages (messages_left conn) (total conn (ps ++ a ∷ []) (suc (length ps))) ≡ (frames (total conn ps (length ps))).messages ++ next_messages conn ps a
messages-last conn ps a more =
    let before : List ℕ = total conn ps (length ps) in
    ap (first_messages (messages_left conn)) (total-last conn ps a)
    ∙ first_more (messages_left conn) before a.piece (omega (arith, few_so_far conn ps more))
    ∙ ap (λ (n : ℕ). (frames before).messages ++ first_messages n ((frames before).rest ++ a.piece)) (left-last conn ps more)

pub whole-last : (conn : Connection) (ps : List Arrival) (a : Arrival) → may_go_on conn ps (length ps) ≡ true
    → whole conn (ps ++ a ∷ []) (suc (length ps)) ≡ whole conn ps (length ps) + length (next_messages conn ps a)
unfolding whole
whole-last conn ps a more =
    sym (first_count (messages_left conn) (total conn (ps ++ a ∷ []) (suc (length ps))))
    ∙ ap length (messages-last conn ps a more)
    ∙ length-append (frames (total conn ps (length ps))).messages (next_messages conn ps a)
    ∙ ap (λ (n : ℕ). n + length (next_messages conn ps a)) (sym (whole-all conn ps more))

grown : (count : ℕ) (gs : List (List ℕ)) (x y : ℕ) → cond (ltb count (count + length gs)) x y ≡ base_by y x gs
grown count [] x y = cond-false _ _ _ (le-ltb count (count + 0) (omega arith))
grown count (g ∷ gs) x y = cond-true _ _ _ (lt-ltb count (count + length (g ∷ gs)) (omega arith))

pub base-last : (conn : Connection) (ps : List Arrival) (a : Arrival) → may_go_on conn ps (length ps) ≡ true
    → base conn (ps ++ a ∷ []) (suc (length ps)) ≡ base_by (base conn ps (length ps)) a.at (next_messages conn ps a)
unfolding base
base-last conn ps a more =
    rw (whole-push conn ps a (length ps) (omega arith), whole-last conn ps a more, moment_at-last ps a, base-push conn ps a (length ps) (omega arith))
    (grown (whole conn ps (length ps)) (next_messages conn ps a) a.at (base conn ps (length ps)))

-- whether it may have more then
over_as : (taken count now : ℕ) → now ≡ taken + count → ltb count (100 - taken) ≡ not (leb 100 now)
over_as taken count now is = elim (cases_lt count (100 - taken)) [
  | inl l ↦ lt-ltb _ _ l ∙ sym (ap not (lt-leb 100 now (omega (arith, is, l))))
  | inr g ↦ le-ltb _ _ g ∙ sym (ap not (le-leb 100 now (omega (arith, is, g))))
]

over-last : (conn : Connection) (ps : List Arrival) (a : Arrival) → may_go_on conn ps (length ps) ≡ true
    → may_go_on conn (ps ++ a ∷ []) (suc (length ps)) ≡ not (is_over (fed_by (left_by conn ps) a.at ((left_by conn ps).rest ++ a.piece)))
over-last conn ps a more =
    over_as conn.taken (whole conn (ps ++ a ∷ []) (suc (length ps))) (conn.taken + whole conn ps (length ps) + length (next_messages conn ps a)) (omega (arith, whole-last conn ps a more))

-- the connection as its pieces left it
pub frames-last : (conn : Connection) (ps : List Arrival) (a : Arrival) → frames (total conn (ps ++ a ∷ []) (suc (length ps))) ≡ ahead (frames (total conn ps (length ps))).messages (frames ((left_by conn ps).rest ++ a.piece))
frames-last conn ps a = ap frames (total-last conn ps a) ∙ frames-more (total conn ps (length ps)) a.piece

abbrev pub left_with : Connection → List Arrival → Arrival → Connection
left_with conn ps a = record {
  number = conn.number;
  peer = conn.peer;
  limit = conn.limit;
  base = base conn (ps ++ a ∷ []) (suc (length ps));
  rest = (frames (total conn (ps ++ a ∷ []) (suc (length ps)))).rest;
  taken = conn.taken + whole conn (ps ++ a ∷ []) (suc (length ps));
}

pub left_by-last : (conn : Connection) (ps : List Arrival) (a : Arrival) → may_go_on conn ps (length ps) ≡ true
    → is_over (fed_by (left_by conn ps) a.at ((left_by conn ps).rest ++ a.piece)) ≡ false
    → left_with conn ps a ≡ fed_by (left_by conn ps) a.at ((left_by conn ps).rest ++ a.piece)
left_by-last conn ps a more goes =
    let bytes : List ℕ = (left_by conn ps).rest ++ a.piece in
    changed conn _ (base_by (base conn ps (length ps)) a.at (next_messages conn ps a)) _ (behind_first (messages_left (left_by conn ps)) bytes)
    _ (conn.taken + whole conn ps (length ps) + length (next_messages conn ps a))
    (base-last conn ps a more)
    (ap (λ (k : Cut). k.rest) (frames-last conn ps a) ∙ sym (behind_all (messages_left (left_by conn ps)) bytes (fed_few (left_by conn ps) a.at bytes goes)))
    (omega (arith, whole-last conn ps a more))

-- where all its pieces are in time, and it may have more messages
abbrev pub kept_by : Connection → List Arrival → Option Connection
kept_by conn ps = cond (in_time conn ps (length ps) && may_go_on conn ps (length ps)) (Some (left_by conn ps)) None

suc_length : (ps : List Arrival) (a : Arrival) → length (ps ++ a ∷ []) ≡ suc (length ps)
suc_length ps a = omega (arith, length-append ps (a ∷ []))

stays : (within more over : Bool) (y z : Connection) → is_over y ≡ over → more ≡ not over → (over ≡ false → z ≡ y)
    → cond (within && more) (Some z) None ≡ cond within (unless_over y) None
stays true true true y z o m s = absurd cc
stays true true false y z o m s = ap (λ (k : Connection). Some k) (s refl) ∙ sym (cond-false (is_over y) None (Some y) o)
stays true false true y z o m s = sym (cond-true (is_over y) None (Some y) o)
stays true false false y z o m s = absurd cc
stays false more over y z o m s = refl

both : (timely going within more : Bool) (f : Connection → Option Connection) (x y z : Connection)
    → (going ≡ true → more ≡ not (is_over y)) → (going ≡ true → is_over y ≡ false → z ≡ y) → f x ≡ cond within (unless_over y) None
    → cond ((timely && (going && within)) && more) (Some z) None ≡ option_and_then f (cond (timely && going) (Some x) None)
both true true within more f x y z m s e = stays within more (is_over y) y z refl (m refl) (s refl) ∙ sym e
both true false within more f x y z m s e = refl
both false going within more f x y z m s e = refl

pub kept_by-push : (conn : Connection) (ps : List Arrival) (a : Arrival) → kept_by conn (ps ++ a ∷ []) ≡ option_and_then (λ (k : Connection). moved k (Piece a)) (kept_by conn ps)
kept_by-push conn ps a =
    rw (suc_length ps a, in_time-last conn ps a)
    (both (in_time conn ps (length ps)) (may_go_on conn ps (length ps)) (is_within conn.limit (base conn ps (length ps)) a.at) (may_go_on conn (ps ++ a ∷ []) (suc (length ps)))
    (λ (k : Connection). moved k (Piece a)) (left_by conn ps) (fed_by (left_by conn ps) a.at ((left_by conn ps).rest ++ a.piece)) (left_with conn ps a)
    (over-last conn ps a) (left_by-last conn ps a) refl)

-- what a connection hears, where it is kept
abbrev pub heard_by : Option Connection → Turn → List (List ℕ)
heard_by None t = []
heard_by (Some conn) t = heard conn t

heard_both : (timely going within : Bool) (t : Turn) (x : Connection) (ms ns : List (List ℕ)) → (going ≡ true → ms ≡ ns) → heard x t ≡ cond within ns []
    → cond (timely && (going && within)) ms [] ≡ heard_by (cond (timely && going) (Some x) None) t
heard_both true true within t x ms ns e h = ap (λ (l : List (List ℕ)). cond within l []) (e refl) ∙ sym h
heard_both true false within t x ms ns e h = refl
heard_both false going within t x ms ns e h = refl

completed-last : (conn : Connection) (ps : List Arrival) (a : Arrival) → may_go_on conn ps (length ps) ≡ true
    → drop (whole conn ps (length ps)) (take (whole conn (ps ++ a ∷ []) (suc (length ps))) (frames (total conn (ps ++ a ∷ []) (suc (length ps)))).messages) ≡ next_messages conn ps a
unfolding whole
completed-last conn ps a more =
    let ms : List (List ℕ) = (frames (total conn ps (length ps))).messages in
    ap (drop (whole conn ps (length ps))) (take_min (messages_left conn) (frames (total conn (ps ++ a ∷ []) (suc (length ps)))).messages ∙ messages-last conn ps a more)
    ∙ ap (λ (n : ℕ). drop n (ms ++ next_messages conn ps a)) (whole-all conn ps more)
    ∙ drop-append_seam ms (next_messages conn ps a)

pub completed-push : (conn : Connection) (ps : List Arrival) (a : Arrival) → completed conn (ps ++ a ∷ []) (length ps) ≡ heard_by (kept_by conn ps) (Piece a)
unfolding completed
completed-push conn ps a =
    rw (in_time-last conn ps a, whole-push conn ps a (length ps) (omega arith))
    (heard_both (in_time conn ps (length ps)) (may_go_on conn ps (length ps)) (is_within conn.limit (base conn ps (length ps)) a.at) (Piece a) (left_by conn ps) _ (next_messages conn ps a)
    (completed-last conn ps a) refl)

-- a connection that began so, after these events
abbrev pub pending : Start → Option Connection
pending s = cond (is_ended s.connection.number s.later) None (kept_by s.connection (byte_events s.connection.number s.later))

abbrev pub and_then : Option Connection → Turn → Option Connection
and_then None t = None
and_then (Some conn) t = moved conn t

-- the heart: one more event
same : (o : Option Connection) (t : Turn) → option_and_then (λ (k : Connection). moved k t) o ≡ and_then o t
same None t = refl
same (Some k) t = refl

gone : (o : Option Connection) → None ≡ and_then o Over
gone None = refl
gone (Some k) = refl

other : (o : Option Connection) → o ≡ and_then o Other
other None = refl
other (Some k) = refl

pending_turn : (t : Turn) (conn : Connection) (ps : List Arrival) → cond (ending t false) None (kept_by conn (ps ++ heading t [])) ≡ and_then (kept_by conn ps) t
pending_turn (Piece a) conn ps = kept_by-push conn ps a ∙ same (kept_by conn ps) (Piece a)
pending_turn Over conn ps = gone (kept_by conn ps)
pending_turn Other conn ps = rw (append-nil ps) (other (kept_by conn ps))

pub pending-push : (conn : Connection) (es : List Event) (e : Event) (ended : Bool) → is_ended conn.number es ≡ ended
    → pending (record { connection = conn; later = es ++ e ∷ [] }) ≡ and_then (pending (record { connection = conn; later = es })) (turn_of conn.number e)
pending-push conn es e true h = rw (is_ended-on conn.number es e h, h) refl
pending-push conn es e false h = rw (is_ended-push conn.number es e h, h, byte_events-push conn.number es e h) (pending_turn (turn_of conn.number e) conn (byte_events conn.number es))

none_gone : (o : Option Connection) → [] ≡ heard_by o Over
none_gone None = refl
none_gone (Some k) = refl

none_other : (o : Option Connection) → [] ≡ heard_by o Other
none_other None = refl
none_other (Some k) = refl

completed_turn : (t : Turn) (conn : Connection) (ended : Bool) (ps : List Arrival) → completed_with t conn ended ps ≡ heard_by (cond ended None (kept_by conn ps)) t
completed_turn (Piece a) conn true ps = refl
completed_turn (Piece a) conn false ps = completed-push conn ps a
completed_turn Over conn ended ps = none_gone (cond ended None (kept_by conn ps))
completed_turn Other conn ended ps = none_other (cond ended None (kept_by conn ps))

pub completed_by-is : (e : Event) (s : Start) → completed_by e s ≡ heard_by (pending s) (turn_of s.connection.number e)
completed_by-is e s = completed_turn (turn_of s.connection.number e) s.connection (is_ended s.connection.number s.later) (byte_events s.connection.number s.later)
