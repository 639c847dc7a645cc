-- What the halves and the connection in memory do at each call.
use Rattle.std.specs.Prelude.{◌≡◌, ◌⊎◌, ℕ, ◌+◌, ◌-◌, min, nat_lt, nat_eq, ◌==◌, ◌||◌, if◌then◌else◌, List, [], ◌∷◌, ◌++◌, length, take, drop, Option, Some, None, Result, Ok, Err, MatchBool, MatchResult, IsOkAnd}
use Rattle.std.specs.List.{list_any}
use Rattle.dns_io.specs.Told.{one_more}
use Rattle.dns_edges.specs.Memory.{next_fails}
use Rattle.dns_io.specs.declared.io_fault.IoFault.{IoFault}
use Rattle.dns_io.specs.declared.io_fault.IoFault.TheVariants.{Failed, OutOfMemory}
use Rattle.dns_transport.specs.declared.error.LinkFault.{LinkFault}
use Rattle.dns_transport.specs.declared.error.LinkFault.TheVariants.{Failed as LinkFailed, Late, OutOfMemory as NoMemory}
use Rattle.dns_quic.specs.declared.halves.StreamEnd.{StreamEnd}
use Rattle.dns_quic.specs.declared.open_streams.StreamCall.{StreamCall}
use Rattle.dns_quic.specs.declared.open_streams.StreamCall.TheVariants.{Opened, Returned}
use Rattle.dns_quic.specs.Connections.{GivesHalves, StreamsTold}
use Rattle.dns_quic.specs.Halves.{SendTold, RecvTold}

-- a sending half in memory: the bytes that it took, how many of its bytes a write that fails still takes, how it was ended,
-- the numbers of the calls that fail, how many calls there were, and how many of them failed
pub record SendState : Type 0 where
  pub taken : List ℕ
  pub partly : ℕ
  pub ends : List StreamEnd
  pub failing : List ℕ
  pub calls : ℕ
  pub faults : ℕ

-- what it tells
abbrev pub send_told : SendState → SendTold
send_told s = record { taken = Some s.taken; ends = Some s.ends; faults = s.faults }

-- the half after a call that failed
abbrev pub failed_call : SendState → SendState
failed_call s = record s { calls = one_more s.calls; faults = one_more s.faults }

-- the half after a call
abbrev pub called : SendState → SendState
called s = record s { calls = one_more s.calls }

-- the half with these bytes at the end
abbrev pub with_bytes : SendState → List ℕ → SendState
with_bytes s bytes = record s { taken = s.taken ++ bytes }

-- what a write answers, and leaves
abbrev pub WriteNext : SendState → List ℕ → Result (Unit {0}) IoFault → SendState → Type 0
WriteNext before bytes result after =
    MatchBool (next_fails before.failing before.calls)
    ((result ≡ Err Failed)
    × ((after ≡ with_bytes (failed_call before) (take (min (length bytes) before.partly) bytes)) ⊎ (after ≡ failed_call before)))
    (MatchResult result
    (λ _. after ≡ with_bytes (called before) bytes)
    (λ fault. (fault ≡ OutOfMemory) × (after ≡ called before)))

-- what a call that ends the half answers, and leaves
abbrev pub EndNext : SendState → StreamEnd → Result (Unit {0}) IoFault → SendState → Type 0
EndNext before end result after =
    MatchBool (next_fails before.failing before.calls)
    ((result ≡ Err Failed) × (after ≡ failed_call before))
    (MatchResult result
    (λ _. after ≡ record (called before) { ends = before.ends ++ end ∷ [] })
    (λ fault. (fault ≡ OutOfMemory) × (after ≡ called before)))

-- a receiving half in memory: the bytes left, the most that one read gives, the codes with which it was stopped, the numbers
-- of the calls that fail, how many calls there were, and how many of them failed
pub record RecvState : Type 0 where
  pub left : List ℕ
  pub step : ℕ
  pub stops : List ℕ
  pub failing : List ℕ
  pub calls : ℕ
  pub faults : ℕ

-- what it tells
abbrev pub recv_told : RecvState → RecvTold
recv_told r = record { left = Some r.left; stops = Some r.stops; faults = r.faults }

-- the half after a call that failed
abbrev pub failed_read : RecvState → RecvState
failed_read r = record r { calls = one_more r.calls; faults = one_more r.faults }

-- the half after a read that gave this many bytes
abbrev pub read_of : RecvState → ℕ → RecvState
read_of r count = record r { left = drop count r.left; calls = one_more r.calls }

-- how many bytes a read of at most so many gives
abbrev pub read_count : RecvState → ℕ → ℕ
read_count r most = min (min (length r.left) r.step) most

-- so many of these bytes, or none at the end
abbrev pub piece_of : List ℕ → ℕ → Option (List ℕ)
piece_of left count = if length left == 0 then None else Some (take count left)

-- what a read of at most so many bytes answers, and leaves
abbrev pub ReadNext : RecvState → ℕ → Result (Option (List ℕ)) IoFault → RecvState → Type 0
ReadNext before most result after =
    MatchBool (next_fails before.failing before.calls)
    ((result ≡ Err Failed) × (after ≡ failed_read before))
    (MatchResult result
    (λ piece. (piece ≡ piece_of before.left (read_count before most)) × (after ≡ read_of before (read_count before most)))
    (λ fault. (fault ≡ OutOfMemory) × (after ≡ read_of before 0)))

-- what a stop answers, and leaves
abbrev pub StopNext : RecvState → ℕ → Result (Unit {0}) IoFault → RecvState → Type 0
StopNext before code result after =
    MatchBool (next_fails before.failing before.calls)
    ((result ≡ Err Failed) × (after ≡ failed_read before))
    (MatchResult result
    (λ _. after ≡ record (read_of before 0) { stops = before.stops ++ code ∷ [] })
    (λ fault. (fault ≡ OutOfMemory) × (after ≡ read_of before 0)))

-- a connection in memory: the streams that it opens and those that it accepts, the numbers of the openings that fail, of
-- those that are late and of the acceptings that fail, what it tells of its calls, the first code with which it was closed,
-- how many streams are given out, how many openings and acceptings there were, and how many faults
pub record StreamsState : Type 0 where
  pub opening : List (SendState × RecvState)
  pub coming : List (SendState × RecvState)
  pub failing : List ℕ
  pub late : List ℕ
  pub failing_accepts : List ℕ
  pub calls : List (StreamCall SendState RecvState)
  pub closed : Option ℕ
  pub given_out : ℕ
  pub opens : ℕ
  pub accepts : ℕ
  pub faults : ℕ

-- what it tells
abbrev pub streams_told : StreamsState → StreamsTold SendState RecvState
streams_told c = record { calls = Some c.calls; closed = Some c.closed; coming = Some c.coming; given_out = c.given_out; faults = c.faults }

-- none of these halves has a fault
abbrev pub AreFresh : List (SendState × RecvState) → Type 0
AreFresh [] = Unit {0}
AreFresh (halves ∷ rest) = (halves.0.faults ≡ 0) × (halves.1.faults ≡ 0) × AreFresh rest

-- the next stream is opened, of those that are left
abbrev pub OpensNext : List (SendState × RecvState) → Result (SendState × RecvState) LinkFault → List (SendState × RecvState) → Type 0
OpensNext [] result after = ⊥
OpensNext (halves ∷ rest) result after = (result ≡ Ok halves) × (after ≡ rest)

-- what the opening of this number answers, where these fail and these are late, and which streams are left
abbrev pub Answers : List ℕ → List ℕ → ℕ → List (SendState × RecvState)
    → Result (SendState × RecvState) LinkFault → List (SendState × RecvState) → Type 0
Answers failing late number before result after =
    MatchBool (list_any (λ one. nat_eq one number) failing)
    ((result ≡ Err LinkFailed) × (after ≡ before))
    (MatchBool (list_any (λ one. nat_eq one number) late)
    ((result ≡ Err Late) × (after ≡ before))
    (OpensNext before result after))

-- the connection after an opening is told and counted, with these streams left
abbrev pub asked : StreamsState → Option ℕ → List (SendState × RecvState) → StreamsState
asked c limit rest = record c { opening = rest; calls = c.calls ++ Opened limit ∷ []; opens = one_more c.opens }

-- and after its answer: a stream is given out, or there is one more fault
abbrev pub answered : StreamsState → Result (SendState × RecvState) LinkFault → StreamsState
answered c (Ok halves) = record c { given_out = c.given_out + 1 }
answered c (Err fault) = record c { faults = one_more c.faults }

-- what an opening answers, and leaves: where memory ran out, as where no stream is left, nothing has changed
abbrev pub OpenNext : StreamsState → Option ℕ → Result (SendState × RecvState) LinkFault → StreamsState → Type 0
OpenNext before limit result after =
    ((result ≡ Err NoMemory) × (after ≡ before))
    ⊎ (Answers before.failing before.late (one_more before.opens) before.opening result after.opening
    × (after ≡ answered (asked before limit after.opening) result))

-- what an accepting answers, and leaves
abbrev pub AcceptNext : StreamsState → Result (Option (SendState × RecvState)) IoFault → StreamsState → Type 0
AcceptNext before result after =
    MatchBool (next_fails before.failing_accepts before.accepts)
    ((result ≡ Err Failed) × (after ≡ record before { accepts = one_more before.accepts; faults = one_more before.faults }))
    (IsOkAnd result (λ halves. GivesHalves (Some before.coming) (Some after.coming) halves
    × (after ≡ record before { coming = after.coming; accepts = one_more before.accepts })))

-- the connection after halves came back
abbrev pub returned : StreamsState → SendState → RecvState → StreamsState
returned c out back =
    record c {
      calls = c.calls ++ Returned out back ∷ [];
      given_out = c.given_out - 1;
      faults = if nat_lt 0 out.faults || nat_lt 0 back.faults then one_more c.faults else c.faults;
    }
