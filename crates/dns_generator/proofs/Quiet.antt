-- Each list that is drawn is one that a server can take to which nothing has happened.
use Rattle.std.proofs.Common.{◌≡◌, ℕ, zero, suc, ◌+◌, ◌*◌, ◌<◌, ◌≤◌, ◌^◌, true, false, List, [], ◌∷◌, ◌++◌, length, map, take, drop, Some, refl, sym, ap, subst, ◌∙◌, arith}
use Rattle.std.proofs.lemmas.Bool.{false≢true}
use Rattle.std.proofs.lemmas.List.{length-append, length-take, length-drop}
use Rattle.std.specs.List.{AllByRecursion, flat_map}
use Rattle.std.specs.Int.{w16, to_be_bytes}
use Rattle.dns_wire.specs.MessageBytes.{message_bytes}
use Rattle.dns_server_core.specs.declared.event.Event.{Event}
use Rattle.dns_server_core.specs.Events.{moment, number_in, is_stop, last_moment}
use Rattle.dns_server_core.specs.Connections.{new_kept}
use Rattle.dns_server_core.specs.Valid.{Fits, NeverFalls, Rises, StopIsLast, Valid}
use Rattle.dns_generator.specs.declared.draws.Kind.{Kind}
use Rattle.dns_generator.specs.declared.draws.Kind.TheVariants.{Query, QueryInPieces, Addition, Deletion}
use Rattle.dns_generator.specs.Draws.{kind_of, drawn, state_after}
use Rattle.dns_generator.specs.Requests.{query, update, addition, deletion}
use Rattle.dns_frames.specs.Frames.{frame_of}
use Rattle.dns_generator.specs.Loaded.{datagram, in_two, coming_as, coming, messages, loaded}
use Rattle.dns_generator.proofs.Sizes.{short_query, short_addition, short_deletion}

-- an event that fits, accepts nothing and does not stop the server
record IsQuiet (e : Event) : Type 0 where
  pub fits : Fits e
  pub none : number_in e ≡ []
  pub goes : is_stop e ≡ false

-- such events, none before the one before it, nor the first before this moment
abbrev Quiet : ℕ → List Event → Type 0
Quiet last [] = Unit {0}
Quiet last (e ∷ es) = (last ≤ moment e) × IsQuiet e × Quiet (moment e) es

-- events of one moment, which end at it
record Comes (number last : ℕ) (es : List Event) : Type 0 where
  pub quiet : Quiet last es
  pub end : last_moment last es ≡ number
  pub few : length es ≤ 2

by_datagram : (number draw last : ℕ) (bytes : List ℕ) → number < 2 ^ 47 → last ≤ number → length bytes ≤ 65535 → Comes number last (datagram number draw bytes)
by_datagram number draw last bytes small later short =
    record {
      quiet = (later, record { fits = (small, short); none = refl; goes = refl }, tt);
      end = refl;
      few = omega arith;
    }

frame_size : (bytes : List ℕ) → length (frame_of bytes) ≡ 2 + length bytes
frame_size bytes = length-append (to_be_bytes w16 (length bytes)) bytes

in_pieces : (number draw last : ℕ) (bytes : List ℕ) → number < 2 ^ 47 → last ≤ number → length bytes ≤ 65535 → Comes number last (in_two number draw (frame_of bytes))
in_pieces number draw last bytes small later short =
    let first : length (take 5 (frame_of bytes)) ≤ 65535 = omega (arith, length-take 5 (frame_of bytes)) in
    let others : length (drop 5 (frame_of bytes)) ≤ 65535 = omega (arith, length-drop 5 (frame_of bytes), frame_size bytes, short) in
    record {
      quiet = (later, record { fits = (small, first); none = refl; goes = refl }, (omega arith, record { fits = (small, others); none = refl; goes = refl }, tt));
      end = refl;
      few = omega arith;
    }

comes : (kind : Kind) (number draw last : ℕ) → number < 2 ^ 47 → last ≤ number → Comes number last (coming_as kind number draw)
comes Query number draw last small later = by_datagram number draw last (message_bytes (query number draw)) small later (short_query number draw)
comes QueryInPieces number draw last small later = in_pieces number draw last (message_bytes (query number draw)) small later (short_query number draw)
comes Addition number draw last small later = by_datagram number draw last (message_bytes (update number (addition draw))) small later (short_addition number draw)
comes Deletion number draw last small later = by_datagram number draw last (message_bytes (update number (deletion draw))) small later (short_deletion number draw)

quiet-append : (last : ℕ) (xs ys : List Event) → Quiet last xs → Quiet (last_moment last xs) ys → Quiet last (xs ++ ys)
quiet-append last [] ys a b = b
quiet-append last (x ∷ xs) ys a b = (a.0, a.1, quiet-append (moment x) xs ys a.2 b)

last_moment-append : (last : ℕ) (xs ys : List Event) → last_moment last (xs ++ ys) ≡ last_moment (last_moment last xs) ys
last_moment-append last [] ys = refl
last_moment-append last (x ∷ xs) ys = last_moment-append (moment x) xs ys

-- the events of so many messages
record Goes (count : ℕ) (es : List Event) : Type 0 where
  pub quiet : Quiet 0 es
  pub end : last_moment 0 es ≤ count
  pub few : length es ≤ 2 * count

goes : (seed count : ℕ) → count ≤ 100000 → Goes count (messages seed count)
goes seed zero few = record { quiet = tt; end = omega arith; few = omega arith }
goes seed (suc number) few =
    let before = goes seed number (omega (arith, few)) in
    let draw = drawn (state_after seed (suc number)) in
    let next = comes (kind_of draw) number draw (last_moment 0 (messages seed number)) (omega (arith, few)) before.end in
    record {
      quiet = quiet-append 0 (messages seed number) (coming number draw) before.quiet next.quiet;
      end = omega (arith, last_moment-append 0 (messages seed number) (coming number draw), next.end);
      few = omega (arith, length-append (messages seed number) (coming number draw), before.few, next.few);
    }

fit : (last : ℕ) (es : List Event) → Quiet last es → AllByRecursion Fits es
fit last [] q = tt
fit last (e ∷ es) q = (q.1.fits, fit (moment e) es q.2)

never_falls : (last : ℕ) (es : List Event) → Quiet last es → NeverFalls last (map moment es)
never_falls last [] q = tt
never_falls last (e ∷ es) q = (q.0, never_falls (moment e) es q.2)

no_number : (last : ℕ) (es : List Event) → Quiet last es → flat_map number_in es ≡ []
no_number last [] q = refl
no_number last (e ∷ es) q = ap (λ ns. ns ++ flat_map number_in es) q.1.none ∙ no_number (moment e) es q.2

no_stop : (last : ℕ) (es : List Event) → Quiet last es → StopIsLast es
no_stop last [] q = tt
no_stop last (e ∷ es) q = (λ stops. absurd (false≢true (sym q.1.goes ∙ stops)), no_stop (moment e) es q.2)

goes_on : {A : Type 0} → false ≡ true → A
goes_on stops = absurd (false≢true stops)

pub valid : (seed count : ℕ) → count ≤ 100000 → Valid new_kept (loaded seed count)
valid seed count few =
    let list = messages seed count in
    let those = goes seed count few in
    record {
      few = omega (arith, those.few, few);
      fit = ((omega arith, omega arith), ((omega arith, omega arith), ((omega arith, omega arith), ((omega arith, omega arith), fit 0 list those.quiet))));
      moments = (omega arith, (omega arith, (omega arith, (omega arith, never_falls 0 list those.quiet))));
      numbers = (tt, (omega arith, (omega arith, (omega arith, subst (λ ns. Rises (Some 4) ns) (sym (no_number 0 list those.quiet)) tt))));
      stop = (goes_on, (goes_on, (goes_on, (goes_on, no_stop 0 list those.quiet))));
    }
