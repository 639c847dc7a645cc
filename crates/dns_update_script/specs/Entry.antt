-- The record that a text of one entry stands for (RFC 1035 5.1).
use Rattle.std.specs.Prelude.{◌≡◌, ℕ, ◌||◌, nat_lt, Bool, true, false, if◌then◌else◌, List, [], ◌∷◌, Option, Some, None, Result, Ok, Err}
use Rattle.dns_wire.specs.declared.record.Record.{Record}
use Rattle.dns_presentation.specs.declared.fault.EntryKind.{EntryKind}
use Rattle.dns_presentation.specs.declared.fault.EntryKind.TheVariants as kind
use Rattle.dns_presentation.specs.declared.entry.Context.{Context}
use Rattle.dns_presentation.specs.declared.entry.Entry.{Entry}
use Rattle.dns_presentation.specs.declared.entry.Entry.TheVariants as entry
use Rattle.dns_presentation.specs.Words.{Word}
use Rattle.dns_presentation.specs.LogicalLines.{LogicalLine, logical_lines}
use Rattle.dns_presentation.specs.Entries.{◌>>=◌, is_directive, stated_ttl, entry_of}
use Rattle.dns_zone.specs.declared.zone_text.ZoneTextKind.{ZoneTextKind}
use Rattle.dns_zone.specs.declared.zone_text.ZoneTextFault.{ZoneTextFault}
use Rattle.dns_zone.specs.declared.zone_text.ZoneTextFault.TheVariants.{Refused, OutOfMemory}
use Rattle.dns_zone.specs.ZoneText.{kind_of}

-- where an entry stands alone: below this origin, with this TTL to fall back on, if there is one
abbrev pub alone : List (List ℕ) → Option ℕ → Context
alone origin ttl = record { origin = origin; owner = None; default_ttl = ttl; stated_ttl = None }

-- what is wrong with a text that goes on behind its first logical line
abbrev pub broken : LogicalLine → EntryKind
broken line = if line.stray || nat_lt 0 line.open_count then kind.Paren else if line.unclosed then kind.Quote else kind.Directive

-- the one logical line of a text
abbrev pub only_line : List LogicalLine → Result LogicalLine EntryKind
only_line [] = Err kind.Directive
only_line (line ∷ []) = Ok line
only_line (line ∷ next ∷ lines) = Err (broken line)

-- no TTL was found
abbrev pub is_unstated : Result (Option ℕ) EntryKind → Bool
is_unstated (Ok None) = true
is_unstated (Ok (Some ttl)) = false
is_unstated (Err wrong) = false

-- behind the owner, the first of these words, no TTL stands before the type
abbrev pub states_none : List Word → Bool
states_none [] = true
states_none (owner ∷ words) = is_unstated (stated_ttl words)

-- there is neither a TTL to fall back on nor one that stands in the entry
abbrev pub lacks_ttl : Option ℕ → List Word → Bool
lacks_ttl (Some ttl) words = false
lacks_ttl None words = states_none words

-- a record, which is to have a TTL even where it is an SOA
abbrev pub timed : Bool → Record → Result Record EntryKind
timed lacks r = if lacks then Err kind.Ttl else Ok r

-- what is wrong first: that a line is a directive comes before what is wrong with it, and that the TTL is lacking before what is
-- wrong with the data
abbrev pub first_wrong : Bool → Bool → EntryKind → EntryKind
first_wrong directive lacks kind.Name = if directive then kind.Directive else kind.Name
first_wrong directive lacks kind.Ttl = if directive then kind.Directive else kind.Ttl
first_wrong directive lacks kind.Data = if lacks then kind.Ttl else kind.Data
first_wrong directive lacks wrong = wrong

-- the record of what a logical line says, if it is one
abbrev pub entered : Bool → Bool → Result Entry EntryKind → Result Record EntryKind
entered directive lacks (Ok (entry.Record r stated)) = timed lacks r
entered directive lacks (Ok other) = Err kind.Directive
entered directive lacks (Err wrong) = Err (first_wrong directive lacks wrong)

-- the first of these words begins a directive
abbrev pub begins_directive : List Word → Bool
begins_directive [] = false
begins_directive (word ∷ words) = is_directive word

-- the record of a logical line
abbrev pub line_entry : List (List ℕ) → Option ℕ → LogicalLine → Result Record EntryKind
line_entry origin ttl line = entered (begins_directive line.words) (lacks_ttl ttl line.words) (entry_of (alone origin ttl) line)

-- the record of a text's one logical line
unfoldable pub text_entry : List (List ℕ) → Option ℕ → List ℕ → Result Record EntryKind
text_entry origin ttl text = only_line (logical_lines 1 text) >>= λ line. line_entry origin ttl line

-- with the kinds of a zone's text
abbrev pub in_zone_text : Result Record EntryKind → Result Record ZoneTextKind
in_zone_text (Ok r) = Ok r
in_zone_text (Err wrong) = Err (kind_of wrong)

-- the record that a text of one logical line stands for below this origin, or what is wrong with it first
abbrev pub entry_in : List (List ℕ) → Option ℕ → List ℕ → Result Record ZoneTextKind
entry_in origin ttl text = in_zone_text (text_entry origin ttl text)

-- why it is refused, at line 1, unless memory ran out
abbrev pub TellsEntry : Result Record ZoneTextKind → ZoneTextFault → Type 0
TellsEntry meant (Refused line wrong) = (line ≡ 1) × (meant ≡ Err wrong)
TellsEntry meant OutOfMemory = Unit {0}
