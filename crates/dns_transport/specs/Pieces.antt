-- The bodies of messages, which come in pieces.
use Rattle.std.specs.Prelude.{◌≡◌, ℕ, ◌<◌, List, [], ◌∷◌, ◌++◌, length, Option, Some, None, Result, IfOk, OnErr}
use Rattle.dns_io.specs.Told.{Told, Keeps, Takes}
use Rattle.dns_io.specs.declared.io_fault.IoFault.{IoFault}
use Rattle.dns_edges.specs.Edges.{HasCause}

-- all bytes of these pieces, one after another
abbrev pub joined : List (List ℕ) → List ℕ
joined [] = []
joined (piece ∷ pieces) = piece ++ joined pieces

-- these pieces, without the empty ones that they begin with
abbrev pub from_bytes : List (List ℕ) → List (List ℕ)
from_bytes [] = []
from_bytes ([] ∷ pieces) = from_bytes pieces
from_bytes ((byte ∷ bytes) ∷ pieces) = (byte ∷ bytes) ∷ pieces

-- a piece that was given has bytes
abbrev pub HasBytes : Option (List ℕ) → Type 0
HasBytes None = Unit {0}
HasBytes (Some piece) = 0 < length piece

-- the next piece that has bytes was given, or none where only empty ones were left
abbrev pub NextOf : Option (List ℕ) → List (List ℕ) → List (List ℕ) → Type 0
NextOf None left rest = (from_bytes left ≡ []) × (rest ≡ [])
NextOf (Some piece) left rest = from_bytes left ≡ piece ∷ rest

-- the same of what is told to be left
abbrev pub GivesNext : Option (List (List ℕ)) → Option (List (List ℕ)) → Option (List ℕ) → Type 0
GivesNext before now piece = Told (NextOf piece) before now

-- the next bytes were given, or none where none were left
abbrev pub GivesBytes : Option (List ℕ) → Option (List ℕ) → Option (List ℕ) → Type 0
GivesBytes before now None = Told (λ left rest. (left ≡ []) × (rest ≡ [])) before now
GivesBytes before now (Some piece) = Takes before now piece

-- a body: the pieces that are left, empty ones among them, and all bytes that are left, one after another, where each of them is told
-- (a body that knows no pieces may tell its bytes), and how many calls failed
pub record BodyTold : Type 0 where
  pub left : Option (List (List ℕ))
  pub left_bytes : Option (List ℕ)
  pub faults : ℕ

-- one call for the next piece: it was given, or none at the end; after an error nothing was taken
pub record GivesPiece (before after : BodyTold) (result : Result (Option (List ℕ)) IoFault) : Type 0 where
  pub bytes : IfOk result HasBytes
  pub given : IfOk result (GivesNext before.left after.left)
  pub kept : OnErr result (Keeps before.left after.left)
  pub bytes_given : IfOk result (GivesBytes before.left_bytes after.left_bytes)
  pub bytes_kept : OnErr result (Keeps before.left_bytes after.left_bytes)
  pub cause : HasCause before.faults after.faults result
