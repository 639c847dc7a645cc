-- What is read off the calls of a network: what the last of them found, whether one of them was such, or what they moved, in order.
use Rattle.std.specs.Prelude.{◌≡◌, ◌<◌, ◌+◌, max, ℕ, List, [], ◌∷◌, if◌then◌else◌, nat_eq, nat_lt, Bool, true, false, not, ◌&&◌, ◌||◌}
use Rattle.std.specs.Prelude.{Option, Some, None, Result, Ok, Err}
use Rattle.std.specs.List.{flat_map, list_any}
use Rattle.std.specs.declared.net.socket_addr.SocketAddr.{SocketAddr}
use Rattle.dns_network.specs.Calls.{Noted}
use Rattle.dns_network.specs.declared.call.Call.{Call}
use Rattle.dns_network.specs.declared.call.Call.TheVariants as call
use Rattle.dns_network.specs.declared.call.Why.{Why}
use Rattle.dns_network.specs.declared.call.Why.TheVariants as why
use Rattle.dns_network.specs.declared.refused.Refused.{Refused}
use Rattle.dns_network.specs.declared.refused.Refused.TheVariants as refusal

-- what a word finds behind these calls, the first of them first, from what it found before them
abbrev pub found : {S : Type 0} → (S → Call → S) → S → List Noted → S
found step s [] = s
found step s (c ∷ calls) = found step (step s c.0) calls

-- whether the token was looked at since the last call that may wait
abbrev pub looked_by : Bool → Call → Bool
looked_by before (call.Looked stopped) = true
looked_by before (call.Rested millis) = false
looked_by before (call.Waited most given) = false
looked_by before (call.Received given) = false
looked_by before other = before

abbrev pub is_looked : List Noted → Bool
is_looked = found looked_by false

abbrev pub IsLookedSince : List Noted → Type 0
IsLookedSince calls = is_looked calls ≡ true

-- whether the token was stopped when it was last looked at
abbrev pub stopped_by : Bool → Call → Bool
stopped_by before (call.Looked stopped) = stopped
stopped_by before other = before

abbrev pub is_stopped : List Noted → Bool
is_stopped = found stopped_by false

-- whether a call since the last wait gave something, was interrupted, or closed a stream, so that the next wait need not be one for something
abbrev pub moved_some : Result ℕ Refused → Bool
moved_some (Ok count) = nat_lt 0 count
moved_some (Err refusal.Interrupted) = true
moved_some (Err refused) = false

abbrev pub gave_some : {T : Type 0} → Result T Refused → Bool
gave_some (Ok it) = true
gave_some (Err refusal.Interrupted) = true
gave_some (Err refused) = false

abbrev pub worked_by : Bool → Call → Bool
worked_by before (call.Waited most given) = false
worked_by before (call.Rested millis) = false
worked_by before (call.Accepted number given) = gave_some given || before
worked_by before (call.Read number room given) = moved_some given || before
worked_by before (call.Wrote number handed given) = moved_some given || before
worked_by before (call.Closed number cause) = true
worked_by before other = before

abbrev pub has_worked : List Noted → Bool
has_worked = found worked_by false

abbrev pub HasWork : List Noted → Type 0
HasWork calls = has_worked calls ≡ true

-- the greatest reading of the clock that is never set, in milliseconds, which is its last one; 0 before there is one
abbrev pub now_by : ℕ → Call → ℕ
now_by before (call.Clock (Ok reading)) = max before reading.ticks
now_by before other = before

abbrev pub now_of : List Noted → ℕ
now_of = found now_by 0

-- the last reading of the clock that may be set
abbrev pub wall_by : ℕ → Call → ℕ
wall_by before (call.Clock (Ok reading)) = reading.wall
wall_by before other = before

abbrev pub wall_of : List Noted → ℕ
wall_of = found wall_by 0

-- whether a call moved something on a stream, or began it
abbrev pub has_some : Result ℕ Refused → Bool
has_some (Ok count) = nat_lt 0 count
has_some (Err refused) = false

abbrev pub moves : ℕ → Call → Bool
moves n (call.Accepted number (Ok whom)) = nat_eq number n
moves n (call.Read number room given) = nat_eq number n && has_some given
moves n (call.Wrote number handed given) = nat_eq number n && has_some given
moves n other = false

-- the last reading of the clock, and that at which something last moved on a stream
pub record Moment : Type 0 where
  pub now : ℕ
  pub moved : ℕ

abbrev pub moment_by : ℕ → Moment → Call → Moment
moment_by n before c = record { now = now_by before.now c; moved = if moves n c then before.now else before.moved }

abbrev pub no_moment : Moment
no_moment = record { now = 0; moved = 0 }

abbrev pub moment_of : ℕ → List Noted → Moment
moment_of n = found (moment_by n) no_moment

abbrev pub moved_at : ℕ → List Noted → ℕ
moved_at n calls = (moment_of n calls).moved

-- whether a write left some of what it was handed
abbrev pub leaves : ℕ → Result ℕ Refused → Bool
leaves handed (Ok count) = nat_lt count handed
leaves handed (Err refused) = nat_lt 0 handed

-- the last reading of the clock, and that since which each write to a stream left some of what it was handed, where its last one did
pub record Owing : Type 0 where
  pub now : ℕ
  pub since : Option ℕ

abbrev pub since_or : ℕ → Option ℕ → Option ℕ
since_or now None = Some now
since_or now (Some since) = Some since

abbrev pub since_by : ℕ → Owing → Call → Option ℕ
since_by n before (call.Wrote number handed given) = if nat_eq number n
    then (if leaves handed given then since_or before.now before.since else None) else before.since
since_by n before other = before.since

abbrev pub owing_by : ℕ → Owing → Call → Owing
owing_by n before c = record { now = now_by before.now c; since = since_by n before c }

abbrev pub no_owing : Owing
no_owing = record { now = 0; since = None }

abbrev pub owing_of : ℕ → List Noted → Owing
owing_of n = found (owing_by n) no_owing

abbrev pub owing_since : ℕ → List Noted → Option ℕ
owing_since n calls = (owing_of n calls).since

-- whether the peer of a stream sends no more: a read for which there was room gave nothing
abbrev pub is_end : ℕ → Result ℕ Refused → Bool
is_end room (Ok count) = nat_lt 0 room && nat_eq count 0
is_end room (Err refused) = false

abbrev pub ends : ℕ → Call → Bool
ends n (call.Read number room given) = nat_eq number n && is_end room given
ends n other = false

abbrev pub has_ended : ℕ → List Noted → Bool
has_ended n = list_any (λ c. ends n c.0)

-- whether a call on a stream was refused for good, or a write took nothing of something
abbrev pub is_refused : {T : Type 0} → Result T Refused → Bool
is_refused (Ok it) = false
is_refused (Err refused) = true

abbrev pub is_gone : {T : Type 0} → Result T Refused → Bool
is_gone (Err refusal.Gone) = true
is_gone other = false

abbrev pub goes : ℕ → Call → Bool
goes n (call.Read number room given) = nat_eq number n && is_gone given
goes n (call.Wrote number handed given) = nat_eq number n && (is_gone given || is_end handed given)
goes n (call.Shut number given) = nat_eq number n && is_gone given
goes n other = false

abbrev pub has_gone : ℕ → List Noted → Bool
has_gone n = list_any (λ c. goes n c.0)

-- whether the system refused to watch a stream when it was last asked to
abbrev pub unwatched_by : ℕ → Bool → Call → Bool
unwatched_by n before (call.Watched number what given) = if nat_eq number n then is_refused given else before
unwatched_by n before other = before

abbrev pub is_unwatched : ℕ → List Noted → Bool
is_unwatched n = found (unwatched_by n) false

-- whether a stream was shut behind its last byte
abbrev pub shuts : ℕ → Call → Bool
shuts n (call.Shut number given) = nat_eq number n
shuts n other = false

abbrev pub was_shut : ℕ → List Noted → Bool
was_shut n = list_any (λ c. shuts n c.0)

-- whether the last connection that was asked for is another one than this, or was refused for want of means
abbrev pub crowds : {T : Type 0} → ℕ → ℕ → Result T Refused → Bool
crowds n number (Ok whom) = not (nat_eq number n)
crowds n number (Err refusal.Wanting) = true
crowds n number (Err refused) = false

abbrev pub crowded_by : ℕ → Bool → Call → Bool
crowded_by n before (call.Accepted number given) = crowds n number given
crowded_by n before other = before

abbrev pub is_crowded : ℕ → List Noted → Bool
is_crowded n = found (crowded_by n) false

-- whether all work on the network was said to end
abbrev pub ceases : Call → Bool
ceases call.Ceased = true
ceases other = false

abbrev pub has_ceased : List Noted → Bool
has_ceased = list_any (λ c. ceases c.0)

-- whether a stream was closed
abbrev pub closes : ℕ → Call → Bool
closes n (call.Closed number cause) = nat_eq number n
closes n other = false

abbrev pub was_closed : ℕ → List Noted → Bool
was_closed n = list_any (λ c. closes n c.0)

-- nothing moved on a stream for longer than so many milliseconds
abbrev pub IsLate : List Noted → ℕ → ℕ → Type 0
IsLate calls n patience = moved_at n calls + patience < now_of calls

-- for longer than so many milliseconds each write to a stream left some of what it was handed
abbrev pub IsSince : ℕ → ℕ → Option ℕ → Type 0
IsSince time now None = ⊥
IsSince time now (Some since) = since + time < now

abbrev pub IsSlow : List Noted → ℕ → ℕ → Type 0
IsSlow calls n time = IsSince time (now_of calls) (owing_since n calls)

-- a stream may be closed for this cause
abbrev pub IsCause : List Noted → ℕ → Why → Type 0
IsCause calls n why.Ended = has_ended n calls ≡ true
IsCause calls n why.Gone = has_gone n calls ≡ true
IsCause calls n why.Unwatched = is_unwatched n calls ≡ true
IsCause calls n (why.Late patience) = IsLate calls n patience
IsCause calls n (why.Slow time) = IsSlow calls n time
IsCause calls n why.GaveWay = is_crowded n calls ≡ true
IsCause calls n why.Finished = was_shut n calls ≡ true
IsCause calls n why.Ceased = has_ceased calls ≡ true

-- the bytes that were read of a stream, in order
abbrev pub read_in : ℕ → Call → List ℕ → List ℕ
read_in n (call.Read number room given) bytes = if nat_eq number n then bytes else []
read_in n other bytes = []

abbrev pub read_by : ℕ → List Noted → List ℕ
read_by n = flat_map (λ c. read_in n c.0 c.1)

-- the bytes that a stream took for its peer, in order
abbrev pub written_in : ℕ → Call → List ℕ → List ℕ
written_in n (call.Wrote number handed given) bytes = if nat_eq number n then bytes else []
written_in n other bytes = []

abbrev pub written_by : ℕ → List Noted → List ℕ
written_by n = flat_map (λ c. written_in n c.0 c.1)

-- the connections that were accepted, each by its number and whom it is from, in order
abbrev pub accepted_in : Call → List (ℕ × SocketAddr)
accepted_in (call.Accepted number (Ok whom)) = (number, whom) ∷ []
accepted_in other = []

abbrev pub accepted_of : List Noted → List (ℕ × SocketAddr)
accepted_of = flat_map (λ c. accepted_in c.0)

-- the streams that were closed, each by its number and why, in order
abbrev pub closed_in : Call → List (ℕ × Why)
closed_in (call.Closed number cause) = (number, cause) ∷ []
closed_in other = []

abbrev pub closed_of : List Noted → List (ℕ × Why)
closed_of = flat_map (λ c. closed_in c.0)

-- the datagrams that came, each with its sender, in order
abbrev pub received_in : Call → List ℕ → List (List ℕ × SocketAddr)
received_in (call.Received (Ok whom)) bytes = (bytes, whom) ∷ []
received_in other bytes = []

abbrev pub received_of : List Noted → List (List ℕ × SocketAddr)
received_of = flat_map (λ c. received_in c.0 c.1)

-- the datagrams that went, each as far as it went, and to whom, in order
abbrev pub sent_in : Call → List ℕ → List (List ℕ × SocketAddr)
sent_in (call.Sent to handed (Ok count)) bytes = (bytes, to) ∷ []
sent_in other bytes = []

abbrev pub sent_of : List Noted → List (List ℕ × SocketAddr)
sent_of = flat_map (λ c. sent_in c.0 c.1)
