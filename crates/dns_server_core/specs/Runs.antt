-- Runs over the messages that a list of events completes.
use Rattle.std.specs.Prelude.{◌≡◌, ℕ, List, [], ◌∷◌, ◌++◌, Option, Some, None, Bool, true, false}
use Rattle.dns_book.specs.declared.ask.Ask.{Ask}
use Rattle.dns_book.specs.declared.ask.Settled.{Settled}
use Rattle.dns_frames.specs.Frames.{frame_of}
use Rattle.dns_server_core.specs.declared.event.Out.{Out}
use Rattle.dns_server_core.specs.declared.event.Receiver.{Receiver}
use Rattle.dns_server_core.specs.declared.event.Receiver.TheVariants.{Conn, Peer}

-- a whole message that came in time, and where its reply goes
pub record Completed : Type 0 where
  pub to : Receiver
  pub ask : Ask

-- a reply as it is sent: behind its length on a connection (RFC 1035 4.2.2), plain to a peer
abbrev pub sent_to : Receiver → List ℕ → List ℕ
sent_to (Conn number) bytes = frame_of bytes
sent_to (Peer peer) bytes = bytes

-- whether a reply goes over a connection
abbrev pub is_connection : Receiver → Bool
is_connection (Conn number) = true
is_connection (Peer peer) = false

-- what is sent for a reply
abbrev pub outs_of : Receiver → Option (List ℕ) → List Out
outs_of to None = []
outs_of to (Some bytes) = record { to = to; bytes = sent_to to bytes } ∷ []

-- messages are settled in order, one step each, and each reply goes to its message's receiver
abbrev pub Run : {H : Type 0} → (H → Ask → Settled → H → Type 0) → H → List Completed → List Out → H → Type 0
Run serves before [] outs after = (after ≡ before) × (outs ≡ [])
Run {H} serves before (c ∷ cs) outs after = (settled : Settled) × (between : H) × (others : List Out)
    × serves before c.ask settled between × (outs ≡ outs_of c.to settled.reply ++ others) × Run serves between cs others after

-- a run whose replies were added to those that there were
pub record Answers {H : Type 0} (serves : H → Ask → Settled → H → Type 0) (before : H) (asks : List Completed) (after : H)
    (old new : List Out) : Type 0 where
  pub outs : List Out
  pub run : Run serves before asks outs after
  pub added : new ≡ old ++ outs
