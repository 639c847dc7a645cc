-- Streams under a limit.
use Rattle.std.specs.Prelude.{◌≡◌, ℕ, if◌then◌else◌, Option, Some, None, unwrap_or, Result, Ok, Err}
use Rattle.dns_server_core.specs.Connections.{is_within}
use Rattle.dns_transport.specs.declared.poll.Poll.{Poll}
use Rattle.dns_transport.specs.declared.poll.Poll.TheVariants.{Ready, Pending}
use Rattle.dns_requests.specs.declared.timeout_stream.TimeoutFault.{TimeoutFault}
use Rattle.dns_requests.specs.declared.timeout_stream.TimeoutFault.TheVariants.{Stream, TimedOut}

-- a stream, its limit, and the moment from which its time runs, once it was asked
pub record UnderLimit (S : Type 0) : Type 0 where
  pub stream : S
  pub timeout : ℕ
  pub base : Option ℕ

-- what is answered where the stream has nothing yet
abbrev pub pending_by : {T F : Type 0} → ℕ → ℕ → ℕ → Poll (Option (Result T (TimeoutFault F)))
pending_by base limit now = if is_within limit base now then Pending else Ready (Some (Err (TimedOut base limit now)))

-- what is told of the stream's answer
abbrev pub told_by : {T F : Type 0} → ℕ → ℕ → ℕ → Poll (Option (Result T F)) → Poll (Option (Result T (TimeoutFault F)))
told_by base limit now (Ready (Some (Ok item))) = Ready (Some (Ok item))
told_by base limit now (Ready (Some (Err fault))) = Ready (Some (Err (Stream fault)))
told_by base limit now (Ready None) = Ready None
told_by base limit now Pending = pending_by base limit now

-- the moment from which the time runs then: that of an item
abbrev pub base_by : {T F : Type 0} → ℕ → ℕ → Poll (Option (Result T F)) → ℕ
base_by base now (Ready (Some (Ok item))) = now
base_by base now (Ready (Some (Err fault))) = base
base_by base now (Ready None) = base
base_by base now Pending = base

-- one asking: the stream is asked once, and what it answers is told
pub record PollsOnce {S T F : Type 0} (polls : S → ℕ → Poll (Option (Result T F)) → S → Type 0) (before : UnderLimit S) (now : ℕ)
    (result : Poll (Option (Result T (TimeoutFault F)))) (after : UnderLimit S) : Type 0 where
  pub answer : Poll (Option (Result T F))
  pub asked : polls before.stream now answer after.stream
  pub told : result ≡ told_by (unwrap_or before.base now) before.timeout now answer
  pub timeout : after.timeout ≡ before.timeout
  pub base : after.base ≡ Some (base_by (unwrap_or before.base now) now answer)
