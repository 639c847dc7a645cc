-- The words of a command line that begin with a key: which are wrong, and which stand again.
use Rattle.std.specs.Prelude.{ℕ, List, [], ◌∷◌, Bool, false, not, nat_lt, ◌&&◌, ◌||◌, count_by, Option, Some, None, is_some, if◌then◌else◌, codes}
use Rattle.std.specs.List.{list_any}
use Rattle.std.specs.Option.{option_map_or, option_and_then, unwrap_or}
use Rattle.std.specs.Str.{bytes_eq}
use Rattle.dns_words.specs.Keys.{behind}
use Rattle.dns_words.specs.Written.{hex_word}
use Rattle.dns_reasons.specs.Keys.{form_of, is_single, key_text}
use Rattle.dns_reasons.specs.Values.{takes, value_fault}
use Rattle.dns_reasons.specs.declared.keys.Key.{Key}
use Rattle.dns_reasons.specs.declared.why.Why.{Why}
use Rattle.dns_reasons.specs.declared.why.Why.TheVariants as why

-- a word is this key with a value that its reader takes
abbrev pub is_own : Key → List ℕ → Bool
is_own key word = option_map_or (λ text. takes (form_of key) text) (behind (key_text key) word) false

-- a word is one of these keys with a value that its reader takes
abbrev pub is_known : List Key → List ℕ → Bool
is_known keys word = list_any (λ key. is_own key word) keys

-- a word, as it was typed, is none of these
abbrev pub is_wrong : List Key → List ℕ → Bool
is_wrong keys word = not (is_known keys (hex_word word))

-- a word begins with this key
abbrev pub begins : Key → List ℕ → Bool
begins key word = is_some (behind (key_text key) word)

-- a word begins with this key, which may stand once alone, and another of the words does so too
abbrev pub is_repeated_key : List (List ℕ) → List ℕ → Key → Bool
is_repeated_key words word key = is_single key && begins key word && nat_lt 1 (count_by (begins key) words)

-- the same with one of these keys
abbrev pub is_repeated : List Key → List (List ℕ) → List ℕ → Bool
is_repeated keys words word = list_any (is_repeated_key words word) keys

-- what the value of a word lacks that begins with this key
abbrev pub fault_behind : Key → List ℕ → Option Why
fault_behind key word = option_and_then (λ text. value_fault (form_of key) text) (behind (key_text key) word)

-- the same with the first of these keys
abbrev pub first_fault : List Key → List ℕ → Option Why
first_fault [] word = None
first_fault (key ∷ keys) word = elim (fault_behind key word) [ Some reason ↦ Some reason | None ↦ first_fault keys word ]

-- a word is a key without the sign behind which its value stands
abbrev pub is_apart_from : List ℕ → Key → Bool
is_apart_from word key = option_map_or (λ rest. bytes_eq rest (codes "=")) (behind word (key_text key)) false

-- or one of these keys
abbrev pub is_apart : List Key → List ℕ → Bool
is_apart keys word = list_any (is_apart_from word) keys

-- why a word is wrong that begins with no key
abbrev pub why_unknown : List Key → List ℕ → Why
why_unknown keys word =
    if bytes_eq word (codes "--help") || bytes_eq word (codes "--version") then why.Lone else if is_apart keys word then why.Apart else why.Unknown

-- why a word is wrong: its value lacks something, or no key stands at its beginning
abbrev pub why_wrong : List Key → List ℕ → Why
why_wrong keys word = unwrap_or (first_fault keys (hex_word word)) (why_unknown keys (hex_word word))
