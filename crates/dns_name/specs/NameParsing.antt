-- A name that is being read from its text.
use Rattle.std.specs.Prelude.{◌≡◌, ℕ, ◌<◌, List, ◌++◌, length, take, Result, Ok, Err}
use Rattle.std.specs.List.{AllByRecursion}
use Rattle.dns_name.specs.declared.fault.ProtoError.{ProtoError}
use Rattle.dns_name.specs.declared.name_text.Symbol.{Symbol}
use Rattle.dns_name.specs.Name.{IsLabel, labels_bytes}
use Rattle.dns_name.specs.NameBuffer.{labels_of}
use Rattle.dns_name.specs.NameText.{labels_from}

-- the labels that ended, and the bytes of the one that did not end yet
pub record Pieces : Type 0 where
  pub labels : List (List ℕ)
  pub label : List ℕ

-- labels before others
abbrev pub ahead : List (List ℕ) → Result (List (List ℕ)) ProtoError → Result (List (List ℕ)) ProtoError
ahead labels (Ok more) = Ok (labels ++ more)
ahead labels (Err error) = Err error

-- the labels of what was read and of the symbols to come
abbrev pub reading_of : Pieces → List Symbol → Result (List (List ℕ)) ProtoError
reading_of pieces symbols = ahead pieces.labels (labels_from pieces.label symbols)

-- the bytes are labels, as in a message, up to the length byte of one that did not end yet
pub record IsOpenAt (bytes : List ℕ) (place : ℕ) : Type 0 where
  pub inside : place < length bytes
  pub each : AllByRecursion IsLabel (labels_of (take place bytes))
  pub spelled : take place bytes ≡ labels_bytes (labels_of (take place bytes))
