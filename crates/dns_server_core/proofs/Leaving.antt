-- The connections that a list leaves.
use Rattle.std.proofs.Common.{◌≡◌, ℕ, List, [], ◌∷◌, ◌++◌, length, map, refl, sym, ap, ◌∙◌, cond, Bool, true, false, Option, Some, None, ◌&&◌, ◌||◌, subst, inl, inr}
use Rattle.std.proofs.lemmas.Bool.{cases_Bool, cond-false}
use Rattle.std.specs.List.{filter_map, filter, cons_option, AllByRecursion}
use Rattle.std.specs.Option.{option_and_then}
use Rattle.dns_server_core.specs.declared.event.Event.{Event}
use Rattle.dns_server_core.specs.declared.event.Event.TheVariants.{Accepted, Bytes, Ended, Datagram, Tick, Stop}
use Rattle.dns_server_core.specs.Events.{has_stop, is_stop}
use Rattle.dns_server_core.specs.Valid.{StopIsLast}
use Rattle.dns_server_core.specs.Connections.{Connection, byte_events, is_ended, base, is_within, in_time, left_by, Start, accepted, starts_in, starts, left_at, Kept, may_go_on}
use Rattle.dns_server_core.specs.Order.{IsGoing, IsKept, IsRest, IsUpTo, closed}
use Rattle.dns_server_core.proofs.KeptOrder.{all_kept, climbs_kept}
use Rattle.dns_server_core.proofs.Pieces.{pending}

abbrev pub alive_at : ℕ → Connection → Option Connection
alive_at last k = cond (is_within k.limit k.base last) (Some k) None

leaving : (ended stop timely more w : Bool) (k : Connection) (f : Connection → Option Connection) → stop ≡ false → f k ≡ cond w (Some k) None
    → cond (ended || stop) None (cond (timely && (more && w)) (Some k) None) ≡ option_and_then f (cond ended None (cond (timely && more) (Some k) None))
leaving true stop timely more w k f h e = refl
leaving false stop true true w k f h e = rw h (sym e)
leaving false stop true false w k f h e = rw h refl
leaving false stop false more w k f h e = rw h refl

left_pending : (last : ℕ) (s : Start) → has_stop s.later ≡ false → left_at last s ≡ option_and_then (alive_at last) (pending s)
unfolding left_at
left_pending last s h = leaving (is_ended s.connection.number s.later) (has_stop s.later) (in_time s.connection (byte_events s.connection.number s.later) (length (byte_events s.connection.number s.later)))
    (may_go_on s.connection (byte_events s.connection.number s.later) (length (byte_events s.connection.number s.later)))
    (is_within s.connection.limit (base s.connection (byte_events s.connection.number s.later) (length (byte_events s.connection.number s.later))) last) (left_by s.connection (byte_events s.connection.number s.later)) (alive_at last) h refl

closing : (ended stop : Bool) (o : Option Connection) → stop ≡ true → cond (ended || stop) None o ≡ None
closing true stop o h = refl
closing false stop o h = rw h refl

left_stopped : (last : ℕ) (s : Start) → has_stop s.later ≡ true → left_at last s ≡ None
unfolding left_at
left_stopped last s h = closing (is_ended s.connection.number s.later) (has_stop s.later) _ h

filter_onto : (f : Connection → Option Connection) (o : Option Connection) (ks : List Connection) → cons_option (option_and_then f o) (filter_map f ks) ≡ filter_map f (cons_option o ks)
filter_onto f None ks = refl
filter_onto f (Some k) ks = refl

abbrev pub StopsAs : Bool → List Start → Type 0
StopsAs b ss = AllByRecursion (λ s. has_stop s.later ≡ b) ss

left_all : (last : ℕ) (ss : List Start) → StopsAs false ss → filter_map (left_at last) ss ≡ filter_map (alive_at last) (filter_map pending ss)
left_all last [] h = refl
left_all last (s ∷ ss) h = rw (left_pending last s h.0, left_all last ss h.1) (filter_onto (alive_at last) (pending s) (filter_map pending ss))

left_none : (last : ℕ) (ss : List Start) → StopsAs true ss → filter_map (left_at last) ss ≡ []
left_none last [] h = refl
left_none last (s ∷ ss) h = rw (left_stopped last s h.0, left_none last ss h.1) refl

stops_with : (b : Bool) (cs : List Connection) (es : List Event) (ss : List Start) → has_stop es ≡ b → StopsAs b ss → StopsAs b (map (λ (c : Connection). record { connection = c; later = es }) cs ++ ss)
stops_with b [] es ss h r = r
stops_with b (c ∷ cs) es ss h r = (h, stops_with b cs es ss h r)

stop_starts_none : (e : Event) (es : List Event) → is_stop e ≡ true → es ≡ [] → starts_in (e ∷ es) ≡ []
stop_starts_none (Accepted at conn peer limit) es h n = absurd cc
stop_starts_none (Bytes at conn piece) es h n = absurd cc
stop_starts_none (Ended at conn) es h n = absurd cc
stop_starts_none (Datagram at peer bytes) es h n = absurd cc
stop_starts_none (Tick at) es h n = absurd cc
stop_starts_none (Stop at) es h n = rw n refl

stops_in : (b : Bool) (es : List Event) → StopIsLast es → has_stop es ≡ b → StopsAs b (starts_in es)
stops_in b [] l h = tt
stops_in b (e ∷ es) l h = elim (cases_Bool (is_stop e)) [
  | inl t ↦ subst (λ (z : List Start). StopsAs b z) (sym (stop_starts_none e es t (l.0 t))) tt
  | inr f ↦
      let r : has_stop es ≡ b = sym (ap (λ (z : Bool). z || has_stop es) f) ∙ h in
      stops_with b (accepted e) es (starts_in es) r (stops_in b es l.1 r)
]

pub left-running : (last : ℕ) (connections : List Connection) (es : List Event) → StopIsLast es → has_stop es ≡ false → filter_map (left_at last) (starts connections es) ≡ filter_map (alive_at last) (filter_map pending (starts connections es))
left-running last connections es l h = left_all last (starts connections es) (stops_with false connections es (starts_in es) h (stops_in false es l h))

pub left-stopped : (last : ℕ) (connections : List Connection) (es : List Event) → StopIsLast es → has_stop es ≡ true → filter_map (left_at last) (starts connections es) ≡ []
left-stopped last connections es l h = left_none last (starts connections es) (stops_with true connections es (starts_in es) h (stops_in true es l h))

alive_same : (b : Bool) (k l : Connection) → cond b (Some k) None ≡ Some l → k ≡ l
alive_same true k l e = cc
alive_same false k l e = absurd cc

filtered_one : (b : Bool) (k : Connection) (ks : List Connection) → cond b (k ∷ ks) ks ≡ cons_option (cond b (Some k) None) ks
filtered_one true k ks = refl
filtered_one false k ks = refl

pub filter_alive : (last : ℕ) (ks : List Connection) → filter (λ (k : Connection). is_within k.limit k.base last) ks ≡ filter_map (alive_at last) ks
filter_alive last [] = refl
filter_alive last (k ∷ ks) = filtered_one (is_within k.limit k.base last) k (filter (λ (k : Connection). is_within k.limit k.base last) ks) ∙ ap (cons_option (alive_at last k)) (filter_alive last ks)

pub IsKept-alive : (kept : Kept) (at : ℕ) (stopped : Bool) (last : ℕ) (connections : List Connection) → connections ≡ filter (λ (k : Connection). is_within k.limit k.base last) kept.connections → IsKept kept
    → IsKept (record { last = at; greatest = kept.greatest; stopped = stopped; connections = connections })
IsKept-alive kept at stopped last connections e h =
    rw (e, filter_alive last kept.connections) (record {
      rests = all_kept IsRest (alive_at last) (λ k l f r. subst IsRest (alive_same _ k l f) r) kept.connections h.rests;
      going = all_kept IsGoing (alive_at last) (λ k l f r. subst IsGoing (alive_same _ k l f) r) kept.connections h.going;
      climbs = climbs_kept (alive_at last) (λ k l f. ap (λ (c : Connection). c.number) (sym (alive_same _ k l f))) kept.connections h.climbs;
      below = all_kept (λ k. IsUpTo kept.greatest k.number) (alive_at last) (λ k l f r. subst (λ (c : Connection). IsUpTo kept.greatest c.number) (alive_same _ k l f) r) kept.connections h.below;
    })

pub closed-running : (kept : Kept) (connections : List Connection) → kept.stopped ≡ false → connections ≡ filter (λ (k : Connection). is_within k.limit k.base kept.last) kept.connections
    → record { last = kept.last; greatest = kept.greatest; stopped = kept.stopped; connections = connections } ≡ closed kept
closed-running kept connections h e = ap (λ (l : List Connection). record { last = kept.last; greatest = kept.greatest; stopped = kept.stopped; connections = l }) (e ∙ sym (cond-false kept.stopped _ _ h))
