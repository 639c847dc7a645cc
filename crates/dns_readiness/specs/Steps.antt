-- One step of the connections of the operating system.
use Rattle.std.specs.Prelude.{◌≡◌, ◌≤◌, ℕ}
use Rattle.dns_readiness.specs.Came.{IsNext, moment_of}
use Rattle.dns_readiness.specs.Decisions.{SocketState}
use Rattle.dns_readiness.specs.declared.came.Came.{Came as Event}
use Rattle.dns_readiness.specs.declared.socket_crowd.Step.{Step}
use Rattle.dns_readiness.specs.declared.socket_crowd.Step.TheVariants.{Came, Stopped, Nothing}

-- the clock was read, if anything, and connections came, went or changed: nothing else that is seen has changed
pub record HasMoved (before after : SocketState) : Type 0 where
  pub later : before.reading ≤ after.reading
  pub same : after ≡ record before { reading = after.reading; links = after.links; open_now = after.open_now }

-- what came at the last reading of the clock may come next, into a room for so many bytes
pub record MayCome (state : SocketState) (room : ℕ) (came : Event) : Type 0 where
  pub now : moment_of came ≡ state.reading
  pub next : IsNext state.last state.greatest room came

-- what a step gave may come next
abbrev pub StepsTo : SocketState → ℕ → Step → Type 0
StepsTo state room (Came came) = MayCome state room came
StepsTo state room Stopped = Unit {0}
StepsTo state room Nothing = Unit {0}
