-- What a line of an update script says (RFC 2136 2.4, 2.5).
use Rattle.std.specs.Prelude.{◌≡◌, ℕ, ◌==◌, Bool, false, if◌then◌else◌, List, [], ◌∷◌, Option, Some, None, Result, Ok, Err}
use Rattle.std.specs.Result.{result_ok}
use Rattle.std.specs.Str.{bytes_eq, is_utf8}
use lib.Chars.{codes}
use Rattle.dns_name.specs.NameText.{name_of}
use Rattle.dns_wire.specs.declared.record.Record.{Record}
use Rattle.dns_wire.specs.declared.rdata.Data.TheVariants.{Empty}
use Rattle.dns_wire.specs.declared.class.TheConstants as class
use Rattle.dns_wire.specs.declared.record_type.TheConstants as record_type
use Rattle.dns_presentation.specs.declared.data_text.WrittenType.{WrittenType}
use Rattle.dns_presentation.specs.DataText.{type_of}
use Rattle.dns_zone.specs.declared.zone_text.ZoneTextKind.{ZoneTextKind}
use Rattle.dns_update_script.specs.declared.fault.ScriptKind.{ScriptKind}
use Rattle.dns_update_script.specs.declared.fault.ScriptKind.TheVariants as kind
use Rattle.dns_update_script.specs.declared.fault.LineFault.{LineFault}
use Rattle.dns_update_script.specs.declared.fault.LineFault.TheVariants.{Kind, OutOfMemory}
use Rattle.dns_update_script.specs.declared.line.Line.{Line}
use Rattle.dns_update_script.specs.declared.line.Line.TheVariants.{Nothing, Zone, Prerequisite, Change, Send}
use Rattle.dns_update_script.specs.Words.{words_of, from_word, behind_word}
use Rattle.dns_update_script.specs.Entry.{entry_in}

-- what comes of a value, if there is one
infixl 10 ◌>>=◌
abbrev pub ◌>>=◌ : {X Y : Type 0} → Result X ScriptKind → (X → Result Y ScriptKind) → Result Y ScriptKind
(Ok x) >>= next = next x
(Err kind) >>= next = Err kind

-- a value, or what is wrong where there is none
abbrev pub or_kind : {X : Type 0} → ScriptKind → Option X → Result X ScriptKind
or_kind wrong None = Err wrong
or_kind wrong (Some x) = Ok x

-- the name that a word writes, its letters as they were written; the bytes of a name's text are UTF-8
abbrev pub name_in : List ℕ → Result (List (List ℕ)) ScriptKind
name_in word = if is_utf8 word then or_kind kind.Name (result_ok (name_of word)) else Err kind.Name

-- the number of a type that was written
abbrev pub number_in : Option WrittenType → Result ℕ ScriptKind
number_in None = Err kind.RecordType
number_in (Some type) = Ok type.number

-- the type that a word writes
abbrev pub type_in : List ℕ → Result ℕ ScriptKind
type_in word = number_in (type_of (record { quoted = false; text = word }))

-- a record without data
abbrev pub bare : ℕ → ℕ → List (List ℕ) → Record
bare class type name = record { name = name; rtype = type; class = class; ttl = 0; rdata = Empty }

-- all records of a name
unfoldable pub of_name : ℕ → List ℕ → Result Record ScriptKind
of_name class word = name_in word >>= λ name. Ok (bare class record_type.ANY name)

-- all records of a name and a type
unfoldable pub of_set : ℕ → List ℕ → List ℕ → Result Record ScriptKind
of_set class word other = do
  name ← name_in word
  type ← type_in other
  Ok (bare class type name)

-- the record of an entry, whose names without a last dot stand below the root
abbrev pub or_entry : Result Record ZoneTextKind → Result Record ScriptKind
or_entry (Ok r) = Ok r
or_entry (Err wrong) = Err (kind.Entry wrong)

abbrev pub entry_with : Option ℕ → List ℕ → Result Record ScriptKind
entry_with ttl text = or_entry (entry_in [] ttl text)

-- the record of an entry in this class, with the TTL 0
unfoldable pub of_record : ℕ → List ℕ → Result Record ScriptKind
of_record class text = entry_with (Some 0) text >>= λ r. Ok (record r { class = class; ttl = 0 })

-- a name is in use, or is not (RFC 2136 2.4.4, 2.4.5)
abbrev pub name_is : ℕ → List (List ℕ) → Result Record ScriptKind
name_is class (name ∷ []) = of_name class name
name_is class words = Err kind.Word

-- a set of records exists, whatever it holds, or holds this record among others (RFC 2136 2.4.1, 2.4.2)
abbrev pub set_exists : List (List ℕ) → List ℕ → Result Record ScriptKind
set_exists (name ∷ type ∷ []) text = of_set class.ANY name type
set_exists (name ∷ type ∷ word ∷ words) text = of_record class.IN text
set_exists words text = Err kind.Word

-- a set of records does not exist (RFC 2136 2.4.3)
abbrev pub set_lacks : List (List ℕ) → Result Record ScriptKind
set_lacks (name ∷ type ∷ []) = of_set class.NONE name type
set_lacks words = Err kind.Word

-- what a prerequisite says by the word behind `prereq` and the line behind that
unfoldable pub prerequisite_of : List ℕ → List ℕ → Result Record ScriptKind
prerequisite_of word rest =
    if bytes_eq word (codes "yxdomain") then name_is class.ANY (words_of rest)
    else if bytes_eq word (codes "nxdomain") then name_is class.NONE (words_of rest)
    else if bytes_eq word (codes "yxrrset") then set_exists (words_of rest) (from_word rest)
    else if bytes_eq word (codes "nxrrset") then set_lacks (words_of rest)
    else Err kind.Word

-- a record is added (RFC 2136 2.5.1): the entry itself, which has a TTL
abbrev pub added : List (List ℕ) → List ℕ → Result Record ScriptKind
added [] text = Err kind.Word
added (word ∷ words) text = entry_with None text

-- all records of a name, those of a type, or one record are deleted (RFC 2136 2.5.3, 2.5.2, 2.5.4)
abbrev pub deleted : List (List ℕ) → List ℕ → Result Record ScriptKind
deleted [] text = Err kind.Word
deleted (name ∷ []) text = of_name class.ANY name
deleted (name ∷ type ∷ []) text = of_set class.ANY name type
deleted (name ∷ type ∷ word ∷ words) text = of_record class.NONE text

-- what a change says by its first word and the line behind that
unfoldable pub change_of : List ℕ → List ℕ → Result Record ScriptKind
change_of word rest =
    if bytes_eq word (codes "add") then added (words_of rest) (from_word rest)
    else if bytes_eq word (codes "delete") then deleted (words_of rest) (from_word rest)
    else Err kind.Word

-- the record that the first word of a line begins, in a way that depends on that word
abbrev pub begun : (List ℕ → List ℕ → Result Record ScriptKind) → List (List ℕ) → List ℕ → Result Record ScriptKind
begun by [] rest = Err kind.Word
begun by (word ∷ words) rest = by word (behind_word rest)

-- a zone's line, and one that ends a message
abbrev pub zone_line : List (List ℕ) → Result Line ScriptKind
zone_line (name ∷ []) = name_in name >>= λ zone. Ok (Zone zone)
zone_line words = Err kind.Word

abbrev pub send_line : List (List ℕ) → Result Line ScriptKind
send_line [] = Ok Send
send_line words = Err kind.Word

-- what the word that begins a line and the line behind it say
unfoldable pub command_of : List ℕ → List ℕ → Result Line ScriptKind
command_of word rest =
    if bytes_eq word (codes "zone") then zone_line (words_of rest)
    else if bytes_eq word (codes "send") then send_line (words_of rest)
    else if bytes_eq word (codes "prereq") then (begun prerequisite_of (words_of rest) rest >>= λ r. Ok (Prerequisite r))
    else if bytes_eq word (codes "update") then (begun change_of (words_of rest) rest >>= λ r. Ok (Change r))
    else (change_of word rest >>= λ r. Ok (Change r))

-- a line that begins with a semicolon
abbrev pub is_comment : List ℕ → Bool
is_comment [] = false
is_comment (byte ∷ line) = byte == 59

-- what a line says whose words these are
abbrev pub worded : List (List ℕ) → List ℕ → Result Line ScriptKind
worded [] rest = Ok Nothing
worded (word ∷ words) rest = command_of word rest

-- what a line says: nothing, a zone, a prerequisite, a change, or that a message ends; or what is wrong with it
abbrev pub line_of : List ℕ → Result Line ScriptKind
line_of line = if is_comment line then Ok Nothing else worded (words_of line) (behind_word line)

-- a reading gave what is meant, or told what is wrong, unless memory ran out
abbrev pub Gives : {X : Type 0} → Result X LineFault → Result X ScriptKind → Type 0
Gives (Ok x) meant = meant ≡ Ok x
Gives (Err (Kind wrong)) meant = meant ≡ Err wrong
Gives (Err OutOfMemory) meant = Unit {0}
