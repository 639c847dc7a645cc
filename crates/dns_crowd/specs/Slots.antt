-- The places of connections that are open, or gone.
use Rattle.std.specs.Prelude.{◌≡◌, ◌==◌, ◌<◌, ℕ, List, length, map, if◌then◌else◌, Bool, true, Option, Some, None, slice_index_or}
use Rattle.std.specs.List.{filter_map, list_any}
use Rattle.dns_crowd.specs.declared.sessions.Slot.{Slot}
use Rattle.dns_io.specs.declared.peer.Peer.{Peer}
use Rattle.dns_server_core.specs.Connections.{Connection, new_connection}

-- the connection in a place, where it is open
abbrev pub open_one : Slot → Option Connection
open_one s = if s.gone then None else Some s.session

abbrev pub open_in : List Slot → List Connection
open_in slots = filter_map open_one slots

-- all, open or gone
abbrev pub all_in : List Slot → List Connection
all_in slots = map (λ s. s.session) slots

-- a place whose connection is gone: its number is left, and nothing of what came of it
abbrev pub vacated : ℕ → Peer → Slot
vacated number peer = record { session = new_connection number peer 0 0; gone = true }

-- it is one of these connections, and has this number
pub record IsOneOf (connections : List Connection) (k : Connection) (number : ℕ) : Type 0 where
  pub at : ℕ
  pub inside : at < length connections
  pub is : (d : Connection) → slice_index_or connections at d ≡ k
  pub of_number : k.number ≡ number

-- whether one has a number
abbrev pub has_number : List Connection → ℕ → Bool
has_number connections number = list_any (λ k. k.number == number) connections
