-- The connections of a worker, and the order in which their time is over.
use Rattle.std.specs.Prelude.{◌≡◌, ◌≤◌, ◌<◌, ◌^◌, ◌++◌, ℕ, List, nat_lt, true, false, Option}
use Rattle.std.specs.List.{AllByRecursion, Contains, count_by}
use Rattle.std.specs.List.Sorted.{IsPermutation}
use Rattle.dns_io.specs.Told.{Grows}
use Rattle.dns_server_core.specs.declared.event.Event.{Event}
use Rattle.dns_server_core.specs.Connections.{Connection, Kept, is_within}
use Rattle.dns_server_core.specs.Events.{moment}
use Rattle.dns_server_core.specs.Order.{IsKept}

-- the time of a connection began no later than a moment, and it stands in the order at a moment at which it is within it
pub record IsTimed (last : ℕ) (order : List (ℕ × ℕ)) (k : Connection) : Type 0 where
  pub base : k.base ≤ last
  pub at : ℕ
  pub within : is_within k.limit k.base at ≡ true
  pub stands : Contains order (at, k.number)

-- what is kept, and each connection stands in the order
pub record IsTable (kept : Kept) (order : List (ℕ × ℕ)) : Type 0 where
  pub table : IsKept kept
  pub moment : kept.last < 2 ^ 47
  pub timed : AllByRecursion (IsTimed kept.last order) kept.connections

-- a number is greater than those of all connections
abbrev pub IsAboveAll : ℕ → List Connection → Type 0
IsAboveAll number connections = AllByRecursion (λ k. k.number < number) connections

-- what of these connections stood in the order stands there still
abbrev pub KeepsEntries : List Connection → List (ℕ × ℕ) → List (ℕ × ℕ) → Type 0
KeepsEntries connections before after = AllByRecursion (λ k. (at : ℕ) → Contains before (at, k.number) → Contains after (at, k.number)) connections

-- those that stood in the order before an event do so behind it
abbrev pub KeepsTimes : Event → List (ℕ × ℕ) → List Connection → List (ℕ × ℕ) → List Connection → Type 0
KeepsTimes e order connections order_now connections_now =
    (last : ℕ) → last ≤ moment e → AllByRecursion (IsTimed last order) connections
    → AllByRecursion (IsTimed (moment e) order_now) connections_now

-- what these connections kept, those keep
abbrev pub KeepsTable : List Connection → List Connection → Type 0
KeepsTable before after =
    (last : ℕ) (greatest : Option ℕ) → IsKept (record { last = last; greatest = greatest; stopped = false; connections = before })
    → IsKept (record { last = last; greatest = greatest; stopped = false; connections = after })

-- how many stand in the order before a moment
abbrev pub count_before : ℕ → List (ℕ × ℕ) → ℕ
count_before moment order = count_by (λ e. nat_lt e.0 moment) order

-- some of these numbers were closed, and the others are left
pub record ShutsSome (before now : Option (List ℕ)) (numbers others : List ℕ) : Type 0 where
  pub closed : List ℕ
  pub grown : Grows before now closed
  pub all : IsPermutation numbers (closed ++ others)
