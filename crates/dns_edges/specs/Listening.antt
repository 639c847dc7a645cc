-- What a source gives, read by read, each with a reading of a clock behind it.
use Rattle.std.specs.Prelude.{◌≡◌, ℕ, ◌<◌, ◌≤◌, List, [], ◌∷◌, length, Ok}
use Rattle.std.specs.List.{flat_map}
use Rattle.dns_edges.specs.Edges.{SourceOf, ClockOf}

-- bytes that came at a moment
pub record Arrival : Type 0 where
  pub at : ℕ
  pub piece : List ℕ

-- all bytes that came
abbrev pub bytes_of : List Arrival → List ℕ
bytes_of arrivals = flat_map (λ a. a.piece) arrivals

-- for how many bytes a read has room
abbrev pub room : ℕ
room = 4096

-- a read gives at least one byte, and at most as many as it has room for
abbrev pub IsPiece : List ℕ → Type 0
IsPiece piece = (0 < length piece) × (length piece ≤ room)

-- reads, each with room for 4,096 bytes, which gave these pieces, and behind each the reading of the clock at which it came: these were
-- made, in this order, and no other
abbrev pub Listens : {S C : Type 0} → SourceOf S → ClockOf C → S → C → List Arrival → S → C → Type 0
Listens source clock s c [] heard ticked = (heard ≡ s) × (ticked ≡ c)
Listens {S} {C} source clock s c (a ∷ later) heard ticked =
    (next : S) × (read : C) × source.reads s room (Ok a.piece) next × clock.ticks c a.at read × Listens source clock next read later heard ticked
