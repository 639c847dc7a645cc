-- How a receiving half is read on.
use Rattle.std.specs.Prelude.{◌≡◌, ℕ, ◌<◌, List, [], ◌++◌, length, Option}
use Rattle.dns_io.specs.Told.{Told}

-- these bytes were taken from the front, and all where they are fewer than were asked for
abbrev pub GivesUpTo : ℕ → Option (List ℕ) → Option (List ℕ) → List ℕ → Type 0
GivesUpTo count before now bytes = Told (λ left rest. (left ≡ bytes ++ rest) × (length bytes < count → rest ≡ [])) before now
