-- The lines of a text: each ends with a line feed, and a carriage return before it is no part of the line.
use Rattle.std.specs.Prelude.{ℕ, ◌-◌, Bool, false, ◌==◌, if◌then◌else◌, List, [], ◌∷◌, ◌++◌, length, take, slice_get, Option, Some, None}

-- the number, if there is one, is this one
abbrev pub is_some_of : ℕ → Option ℕ → Bool
is_some_of wanted None = false
is_some_of wanted (Some byte) = byte == wanted

-- the last byte is this one
abbrev pub ends_in : ℕ → List ℕ → Bool
ends_in byte bytes = is_some_of byte (slice_get bytes (length bytes - 1))

-- without a carriage return at the end
abbrev pub without_return : List ℕ → List ℕ
without_return line = if ends_in 13 line then take (length line - 1) line else line

-- the lines of a text whose first line goes on with these bytes; the last one may lack its end
abbrev pub lines_from : List ℕ → List ℕ → List (List ℕ)
lines_from line [] = if length line == 0 then [] else line ∷ []
lines_from line (byte ∷ text) = if byte == 10 then without_return line ∷ lines_from [] text else lines_from (line ++ byte ∷ []) text

-- the lines of a text
abbrev pub lines_of : List ℕ → List (List ℕ)
lines_of text = lines_from [] text

-- the parts of a text round a separator, the first of which goes on with these bytes
abbrev pub parts_from : ℕ → List ℕ → List ℕ → List (List ℕ)
parts_from separator part [] = part ∷ []
parts_from separator part (byte ∷ text) = if byte == separator then part ∷ parts_from separator [] text else parts_from separator (part ++ byte ∷ []) text

-- the parts of a text round a separator: one more than it stands there
abbrev pub parts_of : ℕ → List ℕ → List (List ℕ)
parts_of separator text = parts_from separator [] text
