-- What comes over connections, one behind the other.
use Rattle.std.specs.Prelude.{◌≤◌, ◌<◌, ◌^◌, ℕ, Option, Some, None}
use Rattle.dns_readiness.specs.declared.came.Came.{Came}
use Rattle.dns_readiness.specs.declared.came.Came.TheVariants.{Accepted, Bytes, Ended, Tick}

-- its moment
abbrev pub moment_of : Came → ℕ
moment_of (Accepted at conn peer limit) = at
moment_of (Bytes at conn count) = at
moment_of (Ended at conn) = at
moment_of (Tick at) = at

-- the connection that it is about; 0 where it is about none
abbrev pub number_of : Came → ℕ
number_of (Accepted at conn peer limit) = conn
number_of (Bytes at conn count) = conn
number_of (Ended at conn) = conn
number_of (Tick at) = 0

-- how many bytes came
abbrev pub count_of : Came → ℕ
count_of (Accepted at conn peer limit) = 0
count_of (Bytes at conn count) = count
count_of (Ended at conn) = 0
count_of (Tick at) = 0

-- the limit of a connection that was accepted
abbrev pub limit_of : Came → ℕ
limit_of (Accepted at conn peer limit) = limit
limit_of (Bytes at conn count) = 0
limit_of (Ended at conn) = 0
limit_of (Tick at) = 0

-- the greatest number that was accepted, from then on
abbrev pub greatest_behind : Option ℕ → Came → Option ℕ
greatest_behind greatest (Accepted at conn peer limit) = Some conn
greatest_behind greatest (Bytes at conn count) = greatest
greatest_behind greatest (Ended at conn) = greatest
greatest_behind greatest (Tick at) = greatest

-- a number is greater than one, where there is one
abbrev pub IsGreater : Option ℕ → ℕ → Type 0
IsGreater None n = Unit {0}
IsGreater (Some greatest) n = greatest < n

-- a connection that was accepted has a number of its own
abbrev pub IsNew : Option ℕ → Came → Type 0
IsNew greatest (Accepted at conn peer limit) = IsGreater greatest conn
IsNew greatest (Bytes at conn count) = Unit {0}
IsNew greatest (Ended at conn) = Unit {0}
IsNew greatest (Tick at) = Unit {0}

-- it may come behind a moment and a greatest number, into a room for so many bytes
pub record IsNext (last : ℕ) (greatest : Option ℕ) (room : ℕ) (came : Came) : Type 0 where
  pub moment : moment_of came < 2 ^ 47
  pub later : last ≤ moment_of came
  pub limit : limit_of came < 2 ^ 47
  pub few : count_of came ≤ 65535
  pub inside : count_of came ≤ room
  pub number : IsNew greatest came

-- the last moment, and the greatest number, behind what came, where something came
abbrev pub last_with : ℕ → Option Came → ℕ
last_with last None = last
last_with last (Some came) = moment_of came

abbrev pub greatest_with : Option ℕ → Option Came → Option ℕ
greatest_with greatest None = greatest
greatest_with greatest (Some came) = greatest_behind greatest came
