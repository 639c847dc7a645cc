-- The lines that the program writes.
use Rattle.std.specs.Prelude.{ℕ, ◌+◌, ◌%◌, ◌++◌, List, [], ◌∷◌, codes}
use Rattle.std.specs.Fmt.{decimal}
use Rattle.std.specs.Int.{w16, to_be_bytes}
use Rattle.hex.specs.Hex.{encode_lower}

-- the line of a reply: its id in four small hex digits, and its code
abbrev pub code_line : ℕ → ℕ → List ℕ
code_line id code = encode_lower (to_be_bytes w16 id) ++ (codes " " ++ (decimal code ++ codes "\n"))

-- the lines of replies, whose ids count on from this one modulo 2^16
abbrev pub code_lines : ℕ → List ℕ → List ℕ
code_lines id [] = []
code_lines id (code ∷ more) = code_line (id % 65536) code ++ code_lines (id + 1) more
