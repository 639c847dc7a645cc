-- The numbers that a seed draws, one for each message.
use Rattle.std.specs.Prelude.{ℕ, zero, suc, ◌+◌, ◌*◌, ◌/◌, ◌%◌, ◌^◌, ◌==◌, nat_lt, if◌then◌else◌}
use Rattle.dns_generator.specs.declared.draws.Kind.{Kind}
use Rattle.dns_generator.specs.declared.draws.Kind.TheVariants.{Query, QueryInPieces, Addition, Deletion}

-- the state behind this one: a linear congruence modulo 2 ^ 64
abbrev pub next_state : ℕ → ℕ
next_state state = (state * 6364136223846793005 + 1442695040888963407) % 2 ^ 64

-- the state this many steps behind a seed
abbrev pub state_after : ℕ → ℕ → ℕ
state_after seed zero = seed
state_after seed (suc steps) = next_state (state_after seed steps)

-- the number that a state draws: its upper half
abbrev pub drawn : ℕ → ℕ
drawn state = state / 2 ^ 32

-- what a drawn number says: what it asks for, of eight numbers four for a query by datagram, two for a query over a
-- connection, one for an addition and one for a deletion; one of 64 hosts; and the rest
abbrev pub kind_of : ℕ → Kind
kind_of draw =
    if nat_lt (draw % 8) 4 then Query
    else if nat_lt (draw % 8) 6 then QueryInPieces
    else if draw % 8 == 6 then Addition
    else Deletion

abbrev pub host_number : ℕ → ℕ
host_number draw = draw / 8 % 64

abbrev pub rest_of : ℕ → ℕ
rest_of draw = draw / 512
