-- Replies to the messages of a connection, and the bytes that are sent for them.
use Rattle.std.specs.Prelude.{◌≡◌, ◌⊎◌, ℕ, List, [], ◌++◌}
use Rattle.std.specs.List.{flat_map}
use Rattle.dns_book.specs.declared.ask.Ask.{Ask}
use Rattle.dns_book.specs.declared.ask.Settled.{Settled}
use Rattle.dns_server_core.specs.declared.event.Out.{Out}
use Rattle.dns_server_core.specs.declared.event.Receiver.{Receiver}
use Rattle.dns_server_core.specs.declared.event.Receiver.TheVariants.{Conn, Peer}
use Rattle.dns_server_core.specs.Runs.{Completed, Run}
use Rattle.dns_crowd.specs.Crowds.{bytes_for}

-- the bytes of a reply that goes to a connection, each with its number
abbrev pub bytes_to : Receiver → List ℕ → List (ℕ × ℕ)
bytes_to (Conn number) bytes = bytes_for number bytes
bytes_to (Peer peer) bytes = []

-- the bytes of all replies, in order
abbrev pub sent_bytes : List Out → List (ℕ × ℕ)
sent_bytes outs = flat_map (λ o. bytes_to o.to o.bytes) outs

-- messages were settled, all of them of one connection, and the bytes of their replies added to those that there were
pub record RepliesTo {H : Type 0} (serves : H → Ask → Settled → H → Type 0) (before : H) (asks : List Completed) (after : H)
    (number : ℕ) (old new : List ℕ) : Type 0 where
  pub outs : List Out
  pub run : Run serves before asks outs after
  pub bytes : List ℕ
  pub added : new ≡ old ++ bytes
  pub sent : sent_bytes outs ≡ bytes_for number bytes

-- no memory was found for messages: the first of them were settled, and behind these came at most one call that found none
pub record Falters {H : Type 0} (serves : H → Ask → Settled → H → Type 0) (skips : H → H → Type 0) (before : H) (asks : List Completed)
    (after : H) : Type 0 where
  pub first : List Completed
  pub others : List Completed
  pub parts : asks ≡ first ++ others
  pub outs : List Out
  pub last : H
  pub run : Run serves before first outs last
  pub end : (after ≡ last) ⊎ skips last after
