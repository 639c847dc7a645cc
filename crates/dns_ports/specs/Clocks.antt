-- The system's time as it is set.
use Rattle.std.specs.Prelude.{◌≡◌, ℕ}

-- a reading is the clock's last one from then on, and may be any
abbrev pub ReadsAny : ℕ → ℕ → ℕ → Type 0
ReadsAny before reading after = reading ≡ after
