-- Messages that are settled in turn, over and over, and how many bytes their replies have.
use Rattle.std.specs.Prelude.{◌≡◌, ℕ, ◌+◌, ◌<◌, ◌≤◌, ◌^◌, List, [], ◌∷◌, ◌++◌, length, Option, Some, None}
use Rattle.dns_keeper.specs.Keeping.{KeeperOf}
use Rattle.dns_book.specs.declared.ask.Ask.{Ask}
use Rattle.dns_book.specs.declared.ask.Settled.{Settled}
use Rattle.dns_book.specs.Access.{Access}
use Rattle.dns_book.specs.Book.{SeenOf, Settles}

-- a message that a book can settle: at most 65,535 bytes at a moment below 2^47
pub record CanBeSettled (ask : Ask) : Type 0 where
  pub moment : ask.at < 2 ^ 47
  pub bytes : length ask.bytes ≤ 65535

-- how many bytes a reply has
abbrev pub bytes_of : Option (List ℕ) → ℕ
bytes_of None = 0
bytes_of (Some bytes) = length bytes

abbrev pub reply_length : Settled → ℕ
reply_length settled = bytes_of settled.reply

-- one message is settled, and its reply has so many bytes
pub record SettlesOne {K : Type 0} (keeper : KeeperOf K) (access : Access) (before : SeenOf K) (ask : Ask) (bytes : ℕ) (after : SeenOf K) : Type 0 where
  pub settled : Settled
  pub settles : Settles keeper access before ask settled after
  pub length : bytes ≡ reply_length settled

-- each of these messages is settled by one call, in order, and their replies have so many bytes together
pub data InTurn {K : Type 0} (keeper : KeeperOf K) (access : Access) (before : SeenOf K) : List Ask → ℕ → SeenOf K → Type 0 where
  begun : InTurn keeper access before [] 0 before
  settled : (asks : List Ask) (bytes : ℕ) (between : SeenOf K) → InTurn keeper access before asks bytes between
      → (ask : Ask) (one : Settled) (after : SeenOf K) → Settles keeper access between ask one after
      → InTurn keeper access before (asks ++ ask ∷ []) (bytes + reply_length one) after

-- all of them, so many times over
pub data OverAndOver {K : Type 0} (keeper : KeeperOf K) (access : Access) (before : SeenOf K) (asks : List Ask) : ℕ → ℕ → SeenOf K → Type 0 where
  begun : OverAndOver keeper access before asks 0 0 before
  turned : (turns bytes : ℕ) (between : SeenOf K) → OverAndOver keeper access before asks turns bytes between
      → (more : ℕ) (after : SeenOf K) → InTurn keeper access between asks more after
      → OverAndOver keeper access before asks (turns + 1) (bytes + more) after
