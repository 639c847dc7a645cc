-- The entries of a zone's text: directives and records, and what each means for those behind it (RFC 1035 5.1; RFC 2308 4).
use Rattle.std.specs.Prelude.{◌≡◌, ℕ, ◌==◌, ◌&&◌, ◌||◌, nat_lt, Bool, false, not, if◌then◌else◌, List, [], ◌∷◌, Option, Some, None, Result, Ok, Err}
use Rattle.std.specs.Option.{option_or}
use lib.Chars.{codes}
use Rattle.dns_name.specs.Escapes.{is_digit}
use Rattle.dns_wire.specs.declared.rdata.Data.{Data}
use Rattle.dns_wire.specs.declared.rdata.Data.TheVariants.{Soa}
use Rattle.dns_wire.specs.declared.record_type.TheConstants.{SOA}
use Rattle.dns_wire.specs.declared.class.TheConstants.{IN}
use Rattle.dns_presentation.specs.declared.fault.EntryKind.{EntryKind}
use Rattle.dns_presentation.specs.declared.fault.EntryKind.TheVariants as kind
use Rattle.dns_presentation.specs.declared.fault.EntryFault.{EntryFault}
use Rattle.dns_presentation.specs.declared.fault.EntryFault.TheVariants.{Refused, OutOfMemory}
use Rattle.dns_presentation.specs.declared.data_text.WrittenType.{WrittenType}
use Rattle.dns_presentation.specs.declared.entry.Context.{Context}
use Rattle.dns_presentation.specs.declared.entry.Entry.{Entry}
use Rattle.dns_presentation.specs.declared.entry.Entry.TheVariants as entry
use Rattle.dns_presentation.specs.Words.{Word}
use Rattle.dns_presentation.specs.LogicalLines.{LogicalLine}
use Rattle.dns_presentation.specs.Values.{is_word}
use Rattle.dns_presentation.specs.DataText.{word_name, word_seconds, only_name, only_seconds, type_of, data_of}

-- what comes of a value, if there is one
infixl 10 ◌>>=◌
abbrev pub ◌>>=◌ : {X Y : Type 0} → Result X EntryKind → (X → Result Y EntryKind) → Result Y EntryKind
(Ok x) >>= next = next x
(Err kind) >>= next = Err kind

-- a value, or what is wrong where there is none
abbrev pub or_kind : {X : Type 0} → EntryKind → Option X → Result X EntryKind
or_kind kind None = Err kind
or_kind kind (Some x) = Ok x

-- the text begins with a digit
abbrev pub begins_digit : List ℕ → Bool
begins_digit [] = false
begins_digit (byte ∷ text) = is_digit byte

-- a word that begins with a dollar sign, out of quotes
abbrev pub begins_dollar : List ℕ → Bool
begins_dollar [] = false
begins_dollar (byte ∷ text) = byte == 36

abbrev pub is_directive : Word → Bool
is_directive word = not word.quoted && begins_dollar word.text

-- the TTL that a word states
unfoldable pub time_of : Word → Result (Option ℕ) EntryKind
time_of word = or_kind kind.Ttl (word_seconds word) >>= λ seconds. Ok (Some seconds)

-- the TTL that these words begin with: a word that begins with a digit
abbrev pub leading_ttl : List Word → Result (Option ℕ) EntryKind
leading_ttl [] = Ok None
leading_ttl (word ∷ words) = if begins_digit word.text then time_of word else Ok None

-- the TTL that stands before the type, before or behind the class
abbrev pub stated_ttl : List Word → Result (Option ℕ) EntryKind
stated_ttl [] = Ok None
stated_ttl (word ∷ words) = if is_word (codes "IN") word then leading_ttl words else leading_ttl (word ∷ words)

-- words without a class before them, or without a TTL
abbrev pub behind_class : List Word → List Word
behind_class [] = []
behind_class (word ∷ words) = if is_word (codes "IN") word then words else word ∷ words

abbrev pub behind_ttl : List Word → List Word
behind_ttl [] = []
behind_ttl (word ∷ words) = if begins_digit word.text then words else word ∷ words

-- the words from the type on: TTL and class may stand before it in either order
abbrev pub from_type : List Word → List Word
from_type [] = []
from_type (word ∷ words) = if is_word (codes "IN") word then behind_ttl words else behind_class (behind_ttl (word ∷ words))

-- the type is SOA
abbrev pub is_soa : Option WrittenType → Bool
is_soa None = false
is_soa (Some type) = type.number == SOA

-- the TTL of a record: the stated one, or else the default, or else the last that was stated
abbrev pub known_ttl : Context → Option ℕ → Option ℕ
known_ttl context stated = option_or stated (option_or context.default_ttl context.stated_ttl)

-- an SOA alone needs no TTL
abbrev pub needed_ttl : Option ℕ → Option WrittenType → Result (Option ℕ) EntryKind
needed_ttl (Some ttl) type = Ok (Some ttl)
needed_ttl None type = if is_soa type then Ok None else Err kind.Ttl

-- the TTL, or else that of an SOA, its minimum
abbrev pub ttl_or : Option ℕ → Data → ℕ
ttl_or (Some ttl) rdata = ttl
ttl_or None (Soa serial mname rname refresh retry expire minimum) = minimum
ttl_or None rdata = 0

-- the record of this owner, type and TTL, with the data that the words write
unfoldable pub record_with : Context → List (List ℕ) → Option ℕ → Option ℕ → Option WrittenType → List Word → Result Entry EntryKind
record_with context owner stated ttl type words = do
  written ← or_kind kind.RecordType type
  rdata ← or_kind kind.Data (data_of context.origin written words)
  Ok (entry.Record (record { name = owner; rtype = written.number; class = IN; ttl = ttl_or ttl rdata; rdata = rdata }) stated)

-- the record of this owner and type
unfoldable pub typed_record : Context → List (List ℕ) → Option ℕ → Option WrittenType → List Word → Result Entry EntryKind
typed_record context owner stated type words =
    needed_ttl (known_ttl context stated) type >>= λ ttl. record_with context owner stated ttl type words

-- the record of this owner, of words that begin with the type
abbrev pub record_from : Context → List (List ℕ) → Option ℕ → List Word → Result Entry EntryKind
record_from context owner stated [] = typed_record context owner stated None []
record_from context owner stated (type ∷ words) = typed_record context owner stated (type_of type) words

-- the record of this owner, of the words behind it
unfoldable pub record_of : Context → List (List ℕ) → List Word → Result Entry EntryKind
record_of context owner words = stated_ttl words >>= λ stated. record_from context owner stated (from_type words)

-- what a directive says: `$ORIGIN` and a name, or `$TTL` and a time
unfoldable pub directive_of : Context → Word → List Word → Result Entry EntryKind
directive_of context directive words =
    if is_word (codes "$ORIGIN") directive then (or_kind kind.Name (only_name context.origin words) >>= λ origin. Ok (entry.Origin origin))
    else if is_word (codes "$TTL") directive then (or_kind kind.Ttl (only_seconds words) >>= λ ttl. Ok (entry.DefaultTtl ttl))
    else Err kind.Directive

-- what the words of a logical line say: where it begins with a blank, the owner is the last one
unfoldable pub words_entry : Context → Bool → List Word → Result Entry EntryKind
words_entry context indented [] = Ok entry.Nothing
words_entry context indented (word ∷ words) =
    if is_directive word then directive_of context word words
    else if indented then (or_kind kind.Name context.owner >>= λ owner. record_of context owner (word ∷ words))
    else (or_kind kind.Name (word_name context.origin word) >>= λ owner. record_of context owner words)

-- what a logical line says, or what is wrong with it first
unfoldable pub entry_of : Context → LogicalLine → Result Entry EntryKind
entry_of context line =
    if line.stray || nat_lt 0 line.open_count then Err kind.Paren
    else if line.unclosed then Err kind.Quote
    else words_entry context line.indented line.words

-- what holds at the beginning of a text
abbrev pub first_context : List (List ℕ) → Context
first_context origin = record { origin = origin; owner = None; default_ttl = None; stated_ttl = None }

-- what holds behind an entry
abbrev pub context_after : Context → Entry → Context
context_after context entry.Nothing = context
context_after context (entry.Origin origin) = record context { origin = origin }
context_after context (entry.DefaultTtl ttl) = record context { default_ttl = Some ttl }
context_after context (entry.Record r stated) = record context { owner = Some r.name; stated_ttl = option_or stated context.stated_ttl }

-- a reading gave what is meant, or told what is wrong, unless memory ran out
abbrev pub ReadsAs : {X Y : Type 0} → (X → Y) → Result X EntryFault → Result Y EntryKind → Type 0
ReadsAs view (Ok x) meant = meant ≡ Ok (view x)
ReadsAs view (Err (Refused kind)) meant = meant ≡ Err kind
ReadsAs view (Err OutOfMemory) meant = Unit {0}
