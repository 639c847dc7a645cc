-- The lines of a text, of which one is shown to a person.
use Rattle.std.specs.Prelude.{ℕ, zero, suc, ◌+◌, ◌==◌, List, [], take, drop, position}
use Rattle.std.specs.Option.{option_map_or}

-- what stands before the first line feed, or all
unfoldable pub first_line : List ℕ → List ℕ
first_line text = option_map_or (λ place. take place text) (position (λ b. b == 10) text) text

-- what stands behind it, or nothing
unfoldable pub behind_line : List ℕ → List ℕ
behind_line text = option_map_or (λ place. drop (place + 1) text) (position (λ b. b == 10) text) []

-- a text without so many of its first lines
abbrev pub text_behind : ℕ → List ℕ → List ℕ
text_behind zero text = text
text_behind (suc n) text = text_behind n (behind_line text)

-- the line with so many before it, of which 160 bytes are shown at most
abbrev pub line_behind : ℕ → List ℕ → List ℕ
line_behind n text = take 160 (first_line (text_behind n text))
