-- The words of a line of an update script: the longest runs of bytes other than space and tab.
use Rattle.std.specs.Prelude.{◌≡◌, ℕ, if◌then◌else◌, List, [], ◌∷◌, ◌++◌}
use Rattle.dns_presentation.specs.Words.{is_blank}
use Rattle.dns_update_script.specs.declared.words.Words.{Words}
use Rattle.dns_update_script.specs.declared.words.Words.TheVariants as few

-- a word that ends before others, where it has a byte
abbrev pub ended : List ℕ → List (List ℕ) → List (List ℕ)
ended [] words = words
ended (byte ∷ word) words = (byte ∷ word) ∷ words

-- the words of a line, the first of which goes on with these bytes
abbrev pub words_from : List ℕ → List ℕ → List (List ℕ)
words_from word [] = ended word []
words_from word (byte ∷ line) = if is_blank byte then ended word (words_from [] line) else words_from (word ++ byte ∷ []) line

-- the words of a line
abbrev pub words_of : List ℕ → List (List ℕ)
words_of line = words_from [] line

-- a line from its first word on
abbrev pub from_word : List ℕ → List ℕ
from_word [] = []
from_word (byte ∷ line) = if is_blank byte then from_word line else byte ∷ line

-- the bytes of a line before its first blank, and the line from that on
abbrev pub before_blank : List ℕ → List ℕ
before_blank [] = []
before_blank (byte ∷ line) = if is_blank byte then [] else byte ∷ before_blank line

abbrev pub from_blank : List ℕ → List ℕ
from_blank [] = []
from_blank (byte ∷ line) = if is_blank byte then byte ∷ line else from_blank line

-- a line behind its first word
abbrev pub behind_word : List ℕ → List ℕ
behind_word line = from_blank (from_word line)

-- these are the words, of which the first three at most are told
abbrev pub AreWords : List (List ℕ) → Words → Type 0
AreWords words few.None = words ≡ []
AreWords words (few.One a) = words ≡ a.now ∷ []
AreWords words (few.Two a b) = words ≡ a.now ∷ b.now ∷ []
AreWords words (few.More a b c rest) = words ≡ a.now ∷ b.now ∷ c.now ∷ words_of rest.now
