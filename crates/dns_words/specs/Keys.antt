-- Words that begin with a key, and those that name a journal.
use Rattle.std.specs.Prelude.{List, [], ◌∷◌, ℕ, length, take, drop, nat_lt, Bool, true, false, Option, Some, None, if◌then◌else◌, codes}
use Rattle.std.specs.Option.{option_map_or}
use Rattle.std.specs.Str.{bytes_eq}

-- what follows a key at the beginning of a word
abbrev pub behind : List ℕ → List ℕ → Option (List ℕ)
behind key word = if bytes_eq (take (length key) word) key then Some (drop (length key) word) else None

-- what follows a key in the first word that begins with it
abbrev pub first_behind : List ℕ → List (List ℕ) → Option (List ℕ)
first_behind key [] = None
first_behind key (word ∷ words) = elim (behind key word) [ Some rest ↦ Some rest | None ↦ first_behind key words ]

-- a key and a path that isn't empty
abbrev pub is_path_word : List ℕ → List ℕ → Bool
is_path_word key word = option_map_or (λ path. nat_lt 0 (length path)) (behind key word) false

-- the journal: `--journal=` and a path
abbrev pub is_journal_word : List ℕ → Bool
is_journal_word word = is_path_word (codes "--journal=") word

-- at most the journal
abbrev pub names_journal : List (List ℕ) → Bool
names_journal [] = true
names_journal (word ∷ []) = is_journal_word word
names_journal (word ∷ other ∷ words) = false

-- the path that a key names: what follows it in the first word behind the command and the origin that begins with it
abbrev pub path_of : List ℕ → List (List ℕ) → Option (List ℕ)
path_of key words = first_behind key (drop 2 words)
