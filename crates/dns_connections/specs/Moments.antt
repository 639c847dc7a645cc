-- The moment of an event, by both clocks.
use Rattle.std.specs.Prelude.{ℕ, List, ◌+◌, ◌-◌, ◌/◌, ◌^◌, min, max, nat_lt, if◌then◌else◌, Bool, true, false, Ok}
use Rattle.dns_network.specs.Calls.{Noted}
use Rattle.dns_network.specs.Words.{found}
use Rattle.dns_network.specs.declared.call.Call.{Call}
use Rattle.dns_network.specs.declared.call.Call.TheVariants as call
use Rattle.dns_network.specs.declared.call.Reading.{Reading}

-- the last moment that there is
abbrev pub last_moment : ℕ
last_moment = 2 ^ 47 - 1

-- of the time between two readings so much counts
abbrev pub counted_of : ℕ → ℕ
counted_of passed = min passed 200

-- the moment that the clock that may be set says
abbrev pub moment_at : ℕ → ℕ
moment_at wall = min wall last_moment

-- the moment behind one, where the clock that may be set reads so, and so many milliseconds passed by the other one: what that clock says, where
-- it is within an eighth of what counts, and else the nearer bound of that; but where it is more than ten seconds ahead the moment leaps to it
abbrev pub moment_after : ℕ → ℕ → ℕ → ℕ
moment_after last wall passed = if nat_lt (last + 10000) (moment_at wall) then moment_at wall
    else min (min (max (moment_at wall) (last + (counted_of passed - counted_of passed / 8))) (last + counted_of passed + counted_of passed / 8)) last_moment

-- what is read off the clocks: whether they were read, the greatest reading of the one that is never set, and the moment
pub record Clocks : Type 0 where
  pub begun : Bool
  pub ticks : ℕ
  pub moment : ℕ

abbrev pub no_clocks : Clocks
no_clocks = record { begun = false; ticks = 0; moment = 0 }

-- the same behind one reading more: the first moment is what the clock says that may be set
abbrev pub read_clocks : Clocks → Reading → Clocks
read_clocks before reading = record {
  begun = true;
  ticks = max before.ticks reading.ticks;
  moment = if before.begun then moment_after before.moment reading.wall (reading.ticks - before.ticks) else moment_at reading.wall;
}

abbrev pub clocks_by : Clocks → Call → Clocks
clocks_by before (call.Clock (Ok reading)) = read_clocks before reading
clocks_by before other = before

abbrev pub clocks_of : List Noted → Clocks
clocks_of = found clocks_by no_clocks
