-- A record's line is read as that record.
use Rattle.std.proofs.Common.{◌≡◌, ℕ, ◌+◌, ◌^◌, ◌<◌, ◌≤◌, Bool, true, false, ◌==◌, ◌||◌, nat_lt, List, [], ◌∷◌, ◌++◌, map, Some, Result, Ok, refl, sym, ap, ◌∙◌, arith, append_assoc, append-nil, codes}
use Rattle.std.specs.Fmt.{decimal}
use Rattle.std.specs.List.{AllByRecursion, AllZip}
use Rattle.dns_name.specs.Escapes.{is_digit}
use Rattle.dns_wire.specs.declared.rdata.Data.{Data}
use Rattle.dns_wire.specs.declared.record.Record.{Record}
use Rattle.dns_zone_map.specs.Zone.{IsEntry}
use Rattle.dns_presentation.specs.declared.fault.EntryKind.{EntryKind}
use Rattle.dns_presentation.specs.declared.data_text.WrittenType.{WrittenType}
use Rattle.dns_presentation.specs.declared.entry.Context.{Context}
use Rattle.dns_presentation.specs.declared.entry.Entry.{Entry}
use Rattle.dns_presentation.specs.declared.entry.Entry.TheVariants as entry
use Rattle.dns_presentation.specs.Words.{Word, Worded, begins_blank, is_blank, tokens_of}
use Rattle.dns_presentation.specs.LogicalLines.{LogicalLine, with_tokens, empty_line, begun_line}
use Rattle.dns_presentation.specs.Values.{is_word}
use Rattle.dns_presentation.specs.DataText.{word_name, type_of, data_of}
use Rattle.dns_presentation.specs.Entries.{begins_digit, begins_dollar, time_of, stated_ttl, from_type, record_with, typed_record, record_of, words_entry, entry_of}
use Rattle.dns_wire.specs.Kept.{IsKept}
use Rattle.dns_printed.specs.Printed.{name_text, data_words, type_text, record_line}
use Rattle.dns_printed.specs.Reading.{Says}
use Rattle.dns_printed.proofs.Numbers.{Led-decimal, digit_bounds}
use Rattle.dns_printed.proofs.Spans.{Writes, Writes-plain, Passes-ordinary, tokens_of-words, seen_words}
use Rattle.dns_printed.proofs.Escaping.{ordinary_alphanumeric}
use Rattle.dns_printed.proofs.NameBack.{Begins, Begins-name, Writes-name}
use Rattle.dns_printed.proofs.WordsBack.{bare, Writes-decimal, word_seconds-decimal, word_name-back}
use Rattle.dns_printed.proofs.DataBack.{IsTyped, IsSound, typed}

-- a logical line of words alone
abbrev pub line_of : ℕ → List Word → LogicalLine
line_of number words = record { number = number; next = number + 1; indented = false; words = words; open_count = 0; stray = false; unclosed = false }

-- words come behind those of a line
with_words : (line : LogicalLine) (words : List Word) → with_tokens line (map Worded words) ≡ record line { words = line.words ++ words }
with_words line [] = rw (append-nil line.words) refl
with_words line (word ∷ words) =
    with_words (record line { words = line.words ++ word ∷ [] }) words ∙ ap (λ (all : List Word). record line { words = all }) (append_assoc line.words (word ∷ []) words)

-- a time is no class
not_class : (first : ℕ) (rest : List ℕ) → is_digit first ≡ true → is_word (codes "IN") (bare (first ∷ rest)) ≡ false
not_class first rest digit =
    let bounds = digit_bounds first digit in
    let low : nat_lt first 65 ≡ true = grind arith in
    let other : (first == 105) ≡ false = grind arith in
    rw (low, other) refl

not_in : (ttl : ℕ) → ttl < 2 ^ 32 → is_word (codes "IN") (bare (decimal ttl)) ≡ false
not_in ttl below =
    let led = Led-decimal ttl below in
    ap (λ (text : List ℕ). is_word (codes "IN") (bare text)) led.is ∙ not_class led.first led.rest led.digit

begins_number : (ttl : ℕ) → ttl < 2 ^ 32 → begins_digit (decimal ttl) ≡ true
begins_number ttl below =
    let led = Led-decimal ttl below in
    ap begins_digit led.is ∙ led.digit

module _ (ttl : ℕ) (below : ttl < 2 ^ 32) (type : Word) (words : List Word) where
  time_back : time_of (bare (decimal ttl)) ≡ Ok (Some ttl)
  unfolding time_of
  time_back = rw (word_seconds-decimal ttl below) refl

  stated_back : stated_ttl (bare (decimal ttl) ∷ bare (codes "IN") ∷ type ∷ words) ≡ Ok (Some ttl)
  stated_back = rw (not_in ttl below, begins_number ttl below) time_back

  type_behind : from_type (bare (decimal ttl) ∷ bare (codes "IN") ∷ type ∷ words) ≡ type ∷ words
  type_behind = rw (not_in ttl below, begins_number ttl below) refl

  -- the record of these words
  record_back : (context : Context) (owner : List (List ℕ)) (written : WrittenType) (rdata : Data) → type_of type ≡ Some written → data_of context.origin written words ≡ Some rdata
      → record_of context owner (bare (decimal ttl) ∷ bare (codes "IN") ∷ type ∷ words) ≡ Ok (entry.Record (record { name = owner; rtype = written.number; class = 1; ttl = ttl; rdata = rdata }) (Some ttl))
  unfolding record_of typed_record record_with
  record_back context owner written rdata type_is data_is = rw (stated_back, type_behind, type_is, data_is) refl

owner_back : (context : Context) (owner : List (List ℕ)) (text : List ℕ) (words : List Word) → Begins text → word_name context.origin (bare text) ≡ Some owner → words_entry context false (bare text ∷ words) ≡ record_of context owner words
unfolding words_entry
owner_back context owner text words begins is =
    let dollar : begins_dollar text ≡ false = ap begins_dollar begins.is ∙ begins.dollar in
    rw (dollar, is) refl

entry_from : (context : Context) (number : ℕ) (words : List Word) → entry_of context (line_of number words) ≡ words_entry context false words
unfolding entry_of
entry_from context number words = refl

-- what is asked of the data of a record
pub IsSound-data : (origin : List (List ℕ)) (r : Record) → IsEntry origin r → IsKept r → IsSound r.rtype r.rdata
IsSound-data origin r is kept = record {
  below = kept.ranges.rtype;
  plain = is.plain;
  form = is.form;
  filled = is.filled;
  short = is.short;
  small = is.names;
  kept = kept.ranges.«data»;
  bytes = kept.«data»;
}

-- a record
module _ (origin : List (List ℕ)) (r : Record) (is : IsEntry origin r) (kept : IsKept r) where
  typed_words : IsTyped r.rtype r.rdata
  typed_words = typed r.rtype r.rdata (IsSound-data origin r is kept)

  -- what stands behind the owner, and its words
  abbrev other_texts : List (List ℕ)
  other_texts = decimal r.ttl ∷ codes "IN" ∷ type_text r.rtype ∷ data_words r.rdata

  abbrev other_words : List Word
  other_words = bare (decimal r.ttl) ∷ bare (codes "IN") ∷ typed_words.type.word ∷ typed_words.words.words

  -- the words of its line
  pub words_of : List Word
  words_of = bare (name_text r.name) ∷ other_words

  -- what its line says, where the class is given
  abbrev said_of : ℕ → Result Entry EntryKind
  said_of class = Ok (entry.Record (record { name = r.name; rtype = r.rtype; class = class; ttl = r.ttl; rdata = r.rdata }) (Some r.ttl))

  writes_class : Writes (codes "IN") (bare (codes "IN"))
  writes_class = Writes-plain (codes "IN") refl (Passes-ordinary (codes "IN") (ordinary_alphanumeric (codes "IN") refl))

  writes_owner : Writes (name_text r.name) (bare (name_text r.name))
  writes_owner = Writes-name r.name kept.ranges.name.each kept.owner

  writes_others : AllZip Writes other_texts other_words
  writes_others = (Writes-decimal r.ttl kept.ranges.ttl, (writes_class, (typed_words.type.writes, typed_words.words.writes)))

  line_tokens : tokens_of (record_line r) ≡ map Worded words_of
  unfolding words_of
  line_tokens = tokens_of-words (name_text r.name) (bare (name_text r.name)) other_texts other_words writes_owner writes_others

  -- none of the bytes of its line ends a line
  pub line_seen : AllByRecursion (λ byte. 32 ≤ byte) (record_line r)
  line_seen = seen_words (name_text r.name) (bare (name_text r.name)) other_texts other_words writes_owner writes_others

  not_blank : begins_blank (record_line r) ≡ false
  not_blank =
      let begins = Begins-name r.name kept.ranges.name.each in
      let apart : is_blank begins.first ≡ false = first_part (is_blank begins.first) _ begins.stop in
      rw begins.is apart
    where
      first_part : (a b : Bool) → (a || b) ≡ false → a ≡ false
      first_part true b none = absurd cc
      first_part false b none = refl

  -- its line begins a logical line of those words
  pub begun_back : (number : ℕ) → begun_line number (record_line r) ≡ line_of number words_of
  begun_back number = rw (not_blank, line_tokens) (with_words (empty_line number false) words_of)

  -- that line is read as the record, in whatever context
  pub entry_back : (context : Context) (number : ℕ) → entry_of context (line_of number words_of) ≡ Ok (entry.Record r (Some r.ttl))
  unfolding words_of
  entry_back context number =
      entry_from context number words_of
      ∙ owner_back context r.name (name_text r.name) other_words (Begins-name r.name kept.ranges.name.each) (word_name-back context.origin r.name kept.ranges.name kept.owner is.owner)
      ∙ record_back r.ttl kept.ranges.ttl typed_words.type.word typed_words.words.words context r.name (record { number = r.rtype; by_number = typed_words.by_number }) r.rdata typed_words.type.read (typed_words.words.read context.origin)
      ∙ ap said_of (sym is.class)

  -- its line says the record
  pub line_says : (context : Context) (number : ℕ) → Says context number r
  line_says context number = ap (entry_of context) (begun_back number) ∙ entry_back context number
