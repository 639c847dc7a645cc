-- Messages behind their length (RFC 1035 4.2.2).
use Rattle.std.specs.Prelude.{◌≡◌, ℕ, ◌≤◌, List, ◌++◌, length}
use Rattle.std.specs.Int.{w16, to_be_bytes}

-- a message of at most 65,535 bytes behind the two bytes of its length
abbrev pub IsFrame : List ℕ → Type 0
IsFrame frame = (bytes : List ℕ) × (frame ≡ to_be_bytes w16 (length bytes) ++ bytes) × (length bytes ≤ 65535)
