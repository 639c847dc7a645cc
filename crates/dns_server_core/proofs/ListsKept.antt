-- A whole list, event by event.
use Rattle.std.proofs.Common.{◌≡◌, ◌<◌, ℕ, ◌+◌, List, [], ◌∷◌, ◌++◌, length, refl, sym, ap, ◌∙◌, cond, Bool, true, false, Option, Some, ◌||◌, subst, inl, inr, append-nil, take, drop, get_or, arith, suc}
use Rattle.std.proofs.Math.Seq.{drop-cons}
use Rattle.std.proofs.lemmas.List.{take_more, take-append-drop}
use Rattle.std.proofs.lemmas.Bool.{cases_Bool}
use Rattle.std.proofs.lemmas.Grind.{flat_map-append}
use Rattle.std.specs.List.{filter_map, filter, flat_map, AllByRecursion}
use Rattle.dns_server_core.specs.Runs.{Completed}
use Rattle.dns_server_core.specs.declared.event.Event.{Event}
use Rattle.dns_server_core.specs.Events.{moment, number_in, last_moment, last_number, has_stop, is_stop}
use Rattle.dns_server_core.specs.Valid.{StopIsLast, Rises}
use Rattle.dns_server_core.specs.Connections.{Connection, Kept, starts, left_at, is_within, after, done_from}
use Rattle.dns_server_core.specs.Serving.{IsCutOff}
use Rattle.dns_server_core.specs.Steps.{completed_now, open_next}
use Rattle.dns_server_core.specs.Order.{IsGoing, IsRest, next, closed}
use Rattle.dns_server_core.proofs.AllConnections.{pendings, pendings-push, pendings-nil, completed_at-is}
use Rattle.dns_server_core.proofs.Leaving.{filter_alive, left-running, left-stopped}

-- what is kept after a front of a list, whatever moment it is
abbrev pub so_far : Kept → List Event → Kept
so_far kept seen = record {
  last = last_moment kept.last seen;
  greatest = last_number kept.greatest (flat_map number_in seen);
  stopped = kept.stopped || has_stop seen;
  connections = pendings kept.connections seen;
}

last_moment-push : (last : ℕ) (es : List Event) (e : Event) → last_moment last (es ++ e ∷ []) ≡ moment e
last_moment-push last [] e = refl
last_moment-push last (x ∷ es) e = last_moment-push (moment x) es e

last_number-append : (g : Option ℕ) (ns ms : List ℕ) → last_number g (ns ++ ms) ≡ last_number (last_number g ns) ms
last_number-append g [] ms = refl
last_number-append g (n ∷ ns) ms = last_number-append (Some n) ns ms

or_false : (b : Bool) → (b || false) ≡ b
or_false true = refl
or_false false = refl

or_again : (a b c : Bool) → (a || (b || c)) ≡ ((a || b) || c)
or_again true b c = refl
or_again false b c = refl

has_stop-push : (es : List Event) (e : Event) → has_stop (es ++ e ∷ []) ≡ (has_stop es || is_stop e)
has_stop-push [] e = or_false (is_stop e)
has_stop-push (x ∷ es) e = ap (λ (b : Bool). is_stop x || b) (has_stop-push es e) ∙ or_again (is_stop x) (has_stop es) (is_stop e)

pub so_far-push : (kept : Kept) (seen : List Event) (e : Event) → so_far kept (seen ++ e ∷ []) ≡ next (so_far kept seen) e
so_far-push kept seen e =
    rw (
      last_moment-push kept.last seen e,
      flat_map-append number_in seen (e ∷ []),
      append-nil (number_in e),
      last_number-append kept.greatest (flat_map number_in seen) (number_in e),
      has_stop-push seen e,
      pendings-push kept.connections seen e,
    )
    (ap (λ (b : Bool). record { last = moment e; greatest = last_number (last_number kept.greatest (flat_map number_in seen)) (number_in e); stopped = b; connections = open_next e (pendings kept.connections seen) }) (or_again kept.stopped (has_stop seen) (is_stop e)))

pub so_far-nil : (kept : Kept) → AllByRecursion IsRest kept.connections → AllByRecursion IsGoing kept.connections → so_far kept [] ≡ kept
so_far-nil kept h g = rw (pendings-nil kept.connections h g) (ap (λ (b : Bool). record { last = kept.last; greatest = kept.greatest; stopped = b; connections = kept.connections }) (or_false kept.stopped))

-- the next event's numbers rise
rises-behind : (g : Option ℕ) (ns ms : List ℕ) → Rises g (ns ++ ms) → Rises (last_number g ns) ms
rises-behind g [] ms r = r
rises-behind g (n ∷ ns) ms r = rises-behind (Some n) ns ms r.1

rises-before : (g : Option ℕ) (ns ms : List ℕ) → Rises g (ns ++ ms) → Rises g ns
rises-before g [] ms r = tt
rises-before g (n ∷ ns) ms r = (r.0, rises-before (Some n) ns ms r.1)

pub rises-next : (kept : Kept) (events seen rest : List Event) (e : Event) → events ≡ seen ++ e ∷ rest → Rises kept.greatest (flat_map number_in events) → Rises (so_far kept seen).greatest (number_in e)
rises-next kept events seen rest e h r =
    let s : Rises kept.greatest (flat_map number_in seen ++ (number_in e ++ flat_map number_in rest)) = subst (λ (ns : List ℕ). Rises kept.greatest ns) (ap (flat_map number_in) h ∙ flat_map-append number_in seen (e ∷ rest)) r in
    rises-before _ (number_in e) (flat_map number_in rest) (rises-behind kept.greatest (flat_map number_in seen) (number_in e ++ flat_map number_in rest) s)

-- at the end
closing : (stopped : Bool) (last : ℕ) (connections : List Connection) (events : List Event) (b : Bool) → has_stop events ≡ b → stopped ≡ false → StopIsLast events
    → cond (stopped || has_stop events) [] (filter (λ (k : Connection). is_within k.limit k.base last) (pendings connections events)) ≡ filter_map (left_at last) (starts connections events)
closing stopped last connections events true h r l = rw (r, h) (sym (left-stopped last connections events l h))
closing stopped last connections events false h r l = rw (r, h) (filter_alive last (pendings connections events) ∙ sym (left-running last connections events l h))

pub after-is : (kept : Kept) (events : List Event) → kept.stopped ≡ false → StopIsLast events → closed (so_far kept events) ≡ after kept events
after-is kept events r l = ap (λ (ks : List Connection). record { last = last_moment kept.last events; greatest = last_number kept.greatest (flat_map number_in events); stopped = kept.stopped || has_stop events; connections = ks })
    (closing kept.stopped (last_moment kept.last events) kept.connections events (has_stop events) refl r l)

-- one event's asks come off the front of what is left
pub done-next : (connections : List Connection) (seen rest : List Event) (e : Event) → done_from connections seen (e ∷ rest) ≡ completed_now e (pendings connections seen) ++ done_from connections (seen ++ e ∷ []) rest
done-next connections seen rest e = ap (λ (l : List Completed). l ++ done_from connections (seen ++ e ∷ []) rest) (completed_at-is connections seen e)

drop_next : (events : List Event) (i : ℕ) (d : Event) → i < length events → drop i events ≡ get_or events i d ∷ drop (i + 1) events
drop_next events i d l =
    let e : suc i ≡ i + 1 = omega arith in
    drop-cons events i d l ∙ ap (λ (k : ℕ). get_or events i d ∷ drop k events) e

pub parts : (events : List Event) (i : ℕ) (e : Event) → i < length events → e ≡ get_or events i e → events ≡ take i events ++ e ∷ drop (i + 1) events
parts events i e l h = sym (ap (λ (x : Event). take i events ++ x ∷ drop (i + 1) events) h ∙ ap (λ (t : List Event). take i events ++ t) (sym (drop_next events i e l)) ∙ take-append-drop i events)

pub front-more : (events : List Event) (i : ℕ) (e : Event) → i < length events → e ≡ get_or events i e → take (i + 1) events ≡ take i events ++ e ∷ []
front-more events i e l h = take_more events i e l ∙ ap (λ (x : Event). take i events ++ x ∷ []) (sym h)

pub left-next : (events : List Event) (i : ℕ) (e : Event) → i < length events → e ≡ get_or events i e → drop i events ≡ e ∷ drop (i + 1) events
left-next events i e l h = drop_next events i e l ∙ ap (λ (x : Event). x ∷ drop (i + 1) events) (sym h)

pub kept-more : (kept before after : Kept) (events : List Event) (i : ℕ) (e : Event) → i < length events → e ≡ get_or events i e
    → before ≡ so_far kept (take i events) → after ≡ next before e → after ≡ so_far kept (take (i + 1) events)
kept-more kept before after events i e l h b a = a ∙ ap (λ (k : Kept). next k e) b ∙ sym (so_far-push kept (take i events) e) ∙ ap (so_far kept) (sym (front-more events i e l h))

-- no stop stands before another event
never : (seen : List Event) (e : Event) (rest : List Event) → seen ++ e ∷ rest ≡ [] → ⊥
never [] e rest h = cc
never (x ∷ seen) e rest h = cc

no_stop : (seen rest : List Event) (e : Event) → StopIsLast (seen ++ e ∷ rest) → has_stop seen ≡ false
no_stop [] rest e s = refl
no_stop (x ∷ seen) rest e s = elim (cases_Bool (is_stop x)) [
  | inl t ↦ absurd (never seen e rest (s.0 t))
  | inr f ↦ ap (λ (b : Bool). b || has_stop seen) f ∙ no_stop seen rest e s.1
]

pub cut_off : (kept before after : Kept) (events : List Event) (i : ℕ) (e : Event) → i < length events → e ≡ get_or events i e → kept.stopped ≡ false → StopIsLast events
    → before ≡ so_far kept (take i events) → after ≡ record { last = before.last; greatest = before.greatest; stopped = before.stopped; connections = [] }
    → IsCutOff kept events after
cut_off kept before after events i e l h r s b a = record {
  seen = take i events;
  rest = drop i events;
  front = sym (take-append-drop i events);
  last = ap (λ (k : Kept). k.last) a ∙ ap (λ (k : Kept). k.last) b;
  greatest = ap (λ (k : Kept). k.greatest) a ∙ ap (λ (k : Kept). k.greatest) b;
  running = ap (λ (k : Kept). k.stopped) a ∙ ap (λ (k : Kept). k.stopped) b ∙ ap (λ (x : Bool). x || has_stop (take i events)) r
      ∙ no_stop (take i events) (drop (i + 1) events) e (subst StopIsLast (parts events i e l h) s);
  none = ap (λ (k : Kept). k.connections) a;
}
