-- The bytes of a half behind those that wait.
use Rattle.std.specs.Prelude.{ℕ, List, ◌++◌, Option, Some, None}
use Rattle.dns_transport.specs.Pieces.{BodyTold}
use Rattle.dns_quic.specs.Halves.{RecvTold}

-- what is left of a body: the bytes that wait, and behind them those of the half, where these are told
abbrev pub left_behind : Option (List ℕ) → Option (List ℕ) → Option (List ℕ)
left_behind None left = left
left_behind (Some piece) None = None
left_behind (Some piece) (Some left) = Some (piece ++ left)

-- what a body of these waiting bytes and of this half tells: no pieces, its bytes, and the half's count
abbrev pub body_told : Option (List ℕ) → RecvTold → BodyTold
body_told waiting half = record { left = None; left_bytes = left_behind waiting half.left; faults = half.faults }
