-- What stands in one line of a zone's text: words, brackets and a comment (RFC 1035 5.1).
use Rattle.std.specs.Prelude.{ℕ, Bool, true, false, ◌==◌, ◌||◌, not, if◌then◌else◌, List, [], ◌∷◌, ◌++◌}

-- a word, and whether it stands in quotes; a backslash and what it escapes stand in it as they were written
pub record Word : Type 0 where
  pub quoted : Bool
  pub text : List ℕ

-- what a line holds: words, brackets, and at its end perhaps a quote that is not closed in it
pub data Token : Type 0 where
  Worded : Word → Token
  Opening : Token
  Closing : Token
  Unclosed : Token

-- a space or a tab
abbrev pub is_blank : ℕ → Bool
is_blank byte = (byte == 32) || (byte == 9)

-- a bracket, or the semicolon that begins a comment
abbrev pub is_mark : ℕ → Bool
is_mark byte = (byte == 59) || ((byte == 40) || (byte == 41))

-- a byte that ends a word out of quotes
abbrev pub is_stop : ℕ → Bool
is_stop byte = is_blank byte || ((byte == 34) || is_mark byte)

-- the bytes begin with a blank
abbrev pub begins_blank : List ℕ → Bool
begins_blank [] = false
begins_blank (byte ∷ bytes) = is_blank byte

-- the bytes begin with a word out of quotes
abbrev pub begins_plain : List ℕ → Bool
begins_plain [] = false
begins_plain (byte ∷ bytes) = not (is_stop byte)

-- a place in a line: between words, or in a word that began with these bytes, or behind a backslash in one
pub data Place : Type 0 where
  Between : Place
  Plain : List ℕ → Place
  PlainEscape : List ℕ → Place
  Quoted : List ℕ → Place
  QuotedEscape : List ℕ → Place

-- a word out of quotes that goes on with a byte
abbrev pub plain_with : List ℕ → ℕ → Place
plain_with word byte = if byte == 92 then PlainEscape (word ++ byte ∷ []) else Plain (word ++ byte ∷ [])

-- a word in quotes that goes on with a byte
abbrev pub quoted_with : List ℕ → ℕ → Place
quoted_with word byte = if byte == 92 then QuotedEscape (word ++ byte ∷ []) else Quoted (word ++ byte ∷ [])

-- a word out of quotes, or in them
abbrev pub plain : List ℕ → Token
plain text = Worded (record { quoted = false; text = text })

abbrev pub quoted : List ℕ → Token
quoted text = Worded (record { quoted = true; text = text })

-- what a byte between words begins, before what stands in the line from a place behind it on: a comment goes to the end
-- of the line
abbrev pub begun : ℕ → (Place → List Token) → List Token
begun byte more =
    if is_blank byte then more Between
    else if byte == 34 then more (Quoted [])
    else if byte == 59 then []
    else if byte == 40 then Opening ∷ more Between
    else if byte == 41 then Closing ∷ more Between
    else more (plain_with [] byte)

-- what a byte at a place comes to: behind a backslash it is part of its word
abbrev pub tokens_at : Place → ℕ → (Place → List Token) → List Token
tokens_at Between byte more = begun byte more
tokens_at (Plain word) byte more = if is_stop byte then plain word ∷ begun byte more else more (plain_with word byte)
tokens_at (PlainEscape word) byte more = more (Plain (word ++ byte ∷ []))
tokens_at (Quoted word) byte more = if byte == 34 then quoted word ∷ more Between else more (quoted_with word byte)
tokens_at (QuotedEscape word) byte more = more (Quoted (word ++ byte ∷ []))

-- what stands at a place where the line ends: a word out of quotes ends there
abbrev pub tokens_at_end : Place → List Token
tokens_at_end Between = []
tokens_at_end (Plain word) = plain word ∷ []
tokens_at_end (PlainEscape word) = plain word ∷ []
tokens_at_end (Quoted word) = Unclosed ∷ []
tokens_at_end (QuotedEscape word) = Unclosed ∷ []

-- what stands in a line from a place on
abbrev pub tokens_from : Place → List ℕ → List Token
tokens_from place [] = tokens_at_end place
tokens_from place (byte ∷ line) = tokens_at place byte (λ next. tokens_from next line)

-- what stands in a line
abbrev pub tokens_of : List ℕ → List Token
tokens_of line = tokens_from Between line
