-- Messages that are handed to a handler and counted.
use Rattle.std.specs.Prelude.{◌≡◌, ◌+◌, ◌⊎◌, ℕ, List, ◌++◌, length}
use Rattle.dns_book.specs.Access.{Access}
use Rattle.dns_book.specs.declared.ask.Ask.{Ask}
use Rattle.dns_book.specs.declared.ask.Settled.{Settled}
use Rattle.dns_server_core.specs.declared.event.Out.{Out}
use Rattle.dns_server_core.specs.Runs.{Completed, Answers}

-- a handler, which sources are let in, the replies so far, and how many messages were settled
pub record ResponderOf (H : Type 0) : Type 0 where
  pub handler : H
  pub access : Access
  pub outs : List Out
  pub settled : ℕ

-- these messages were settled and counted, and the same sources are let in
pub record Hands {H : Type 0} (serves : Access → H → Ask → Settled → H → Type 0) (before : ResponderOf H) (asks : List Completed)
    (after : ResponderOf H) : Type 0 where
  pub answered : Answers (serves before.access) before.handler asks after.handler before.outs after.outs
  pub counted : after.settled ≡ before.settled + length asks
  pub access : after.access ≡ before.access

-- those of all that stand before the rest
pub record HandsFront {H : Type 0} (serves : Access → H → Ask → Settled → H → Type 0) (before : ResponderOf H) (all : List Completed)
    (after : ResponderOf H) (rest : List Completed) : Type 0 where
  pub front : List Completed
  pub parts : all ≡ front ++ rest
  pub handed : Hands serves before front after

-- a front of all, and at most one call that found no memory behind it
pub record Breaks {H : Type 0} (serves : Access → H → Ask → Settled → H → Type 0) (skips : H → H → Type 0) (before : ResponderOf H)
    (all : List Completed) (after : ResponderOf H) : Type 0 where
  pub last : H
  pub rest : List Completed
  pub front : HandsFront serves before all (record after { handler = last }) rest
  pub end : (after.handler ≡ last) ⊎ skips last after.handler
