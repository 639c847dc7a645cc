-- What two runs have in common for one receiver.
use Rattle.std.specs.Prelude.{◌≡◌, ◌≢◌, ◌<◌, ◌-◌, ◌^◌, ℕ, List, false, Option, Some, None}
use Rattle.std.specs.List.{AllByRecursion}
use Rattle.dns_wire.specs.declared.header.Header.{Header}
use Rattle.dns_wire.specs.Header.{header_of}
use Rattle.dns_keeper.specs.declared.row.Row.{Row}
use Rattle.dns_keeper.specs.Keeping.{KeeperOf}
use Rattle.dns_book.specs.Book.{SeenOf}
use Rattle.dns_server_core.specs.declared.event.Receiver.{Receiver}
use Rattle.dns_server_core.specs.Runs.{Completed}
use Rattle.dns_laws.specs.Receivers.{is_one}

-- bytes whose header, if there is one, isn't that of an update (RFC 2136 2.2: opcode 5)
abbrev pub IsNoUpdate : List ℕ → Type 0
IsNoUpdate bytes = (h : Header) → header_of bytes ≡ Some h → h.opcode ≢ 5

-- no message of another receiver is an update
abbrev pub OthersUpdateNothing : Receiver → List Completed → Type 0
OthersUpdateNothing receiver messages = AllByRecursion (λ c. is_one receiver c.to ≡ false → IsNoUpdate c.ask.bytes) messages

-- what is asked of a run over messages: no message of another receiver is an update, and the keeper failed at none, since its
-- count of faults did not rise and is below its last value
pub record IsQuiet {K : Type 0} (keeper : KeeperOf K) (receiver : Receiver) (messages : List Completed) (before after : SeenOf K) : Type 0 where
  pub queries : OthersUpdateNothing receiver messages
  pub faultless : (keeper.told after.keeper).faults ≡ (keeper.told before.keeper).faults
  pub below : (keeper.told before.keeper).faults < 2 ^ 64 - 1

-- the same rows, where both are told
abbrev pub AgreeOn : Option (List Row) → Option (List Row) → Type 0
AgreeOn None b = Unit {0}
AgreeOn (Some a) None = Unit {0}
AgreeOn (Some a) (Some b) = a ≡ b

-- two books with one zone, one rule on whether updates are let in, and one journal as far as both keepers tell it; what they
-- counted may differ
pub record AreAlike {K : Type 0} (keeper : KeeperOf K) (a b : SeenOf K) : Type 0 where
  pub zone : a.zone ≡ b.zone
  pub allow_update : a.allow_update ≡ b.allow_update
  pub row_count : a.row_count ≡ b.row_count
  pub told : AgreeOn (keeper.told a.keeper).rows (keeper.told b.keeper).rows

-- a book in which nothing has changed but what it counted
abbrev pub IsUnchanged : {K : Type 0} → SeenOf K → SeenOf K → Type 0
IsUnchanged before after = after ≡ record before { counts = after.counts }
