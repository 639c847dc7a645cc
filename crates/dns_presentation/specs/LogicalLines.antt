-- The logical lines of a zone's text: each is a line, with those behind it while a bracket is open (RFC 1035 5.1).
use Rattle.std.specs.Prelude.{ℕ, ◌+◌, ◌-◌, Bool, true, false, ◌==◌, if◌then◌else◌, List, [], ◌∷◌, ◌++◌}
use Rattle.dns_presentation.specs.Lines.{lines_of}
use Rattle.dns_presentation.specs.Words.{Word, Token, Worded, Opening, Closing, Unclosed, begins_blank, tokens_of}

-- a logical line
pub record LogicalLine : Type 0 where
  -- the number of the line on which it begins, and that of the line behind it
  pub number : ℕ
  pub next : ℕ
  -- it begins with a blank
  pub indented : Bool
  pub words : List Word
  -- how many brackets are open at its end
  pub open_count : ℕ
  -- a bracket that closes none stands in it
  pub stray : Bool
  -- a quote is not closed on its line
  pub unclosed : Bool

-- the line with a token more
abbrev pub with_token : LogicalLine → Token → LogicalLine
with_token line (Worded word) = record line { words = line.words ++ word ∷ [] }
with_token line Opening = record line { open_count = line.open_count + 1 }
with_token line Closing = if line.open_count == 0 then record line { stray = true } else record line { open_count = line.open_count - 1 }
with_token line Unclosed = record line { unclosed = true }

-- the line with tokens more
abbrev pub with_tokens : LogicalLine → List Token → LogicalLine
with_tokens line [] = line
with_tokens line (token ∷ tokens) = with_tokens (with_token line token) tokens

-- a logical line on which nothing stands yet
abbrev pub empty_line : ℕ → Bool → LogicalLine
empty_line number indented = record { number = number; next = number + 1; indented = indented; words = []; open_count = 0; stray = false; unclosed = false }

-- a logical line that begins with a line of this number
abbrev pub begun_line : ℕ → List ℕ → LogicalLine
begun_line number line = with_tokens (empty_line number (begins_blank line)) (tokens_of line)

-- a logical line that goes on in a line
abbrev pub longer_line : LogicalLine → List ℕ → LogicalLine
longer_line logical line = with_tokens (record logical { next = logical.next + 1 }) (tokens_of line)

-- a logical line and those of the lines behind it, into which it goes on while a bracket is open
abbrev pub lines_after : LogicalLine → List (List ℕ) → List LogicalLine
lines_after logical [] = logical ∷ []
lines_after logical (line ∷ lines) =
    if logical.open_count == 0 then logical ∷ lines_after (begun_line logical.next line) lines
    else lines_after (longer_line logical line) lines

-- the logical lines of lines, the first of which has this number
abbrev pub logical_from : ℕ → List (List ℕ) → List LogicalLine
logical_from number [] = []
logical_from number (line ∷ lines) = lines_after (begun_line number line) lines

-- the logical lines of a text whose first line has this number
abbrev pub logical_lines : ℕ → List ℕ → List LogicalLine
logical_lines number text = logical_from number (lines_of text)
