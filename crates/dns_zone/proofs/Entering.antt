-- What holds of an entry of a zone's text, and of what holds behind it.
use Rattle.std.proofs.Common.{◌≡◌, ℕ, List, [], ◌∷◌, Bool, true, false, ◌||◌, nat_lt, if◌then◌else◌, Option, Some, None, Result, Ok, Err, refl, subst, ◌⊎◌, inl, inr}
use lib.Chars.{codes}
use Rattle.dns_wire.specs.declared.rdata.Data.{Data}
use Rattle.dns_presentation.specs.declared.fault.EntryKind.{EntryKind}
use Rattle.dns_presentation.specs.declared.fault.EntryKind.TheVariants as kind
use Rattle.dns_presentation.specs.declared.data_text.WrittenType.{WrittenType}
use Rattle.dns_presentation.specs.declared.entry.Context.{Context}
use Rattle.dns_presentation.specs.declared.entry.Entry.{Entry}
use Rattle.dns_presentation.specs.declared.entry.Entry.TheVariants as entry
use Rattle.dns_presentation.specs.Words.{Word}
use Rattle.dns_presentation.specs.LogicalLines.{LogicalLine}
use Rattle.dns_presentation.specs.Values.{is_word}
use Rattle.dns_presentation.specs.DataText.{word_name, only_name, only_seconds, type_of, data_of}
use Rattle.dns_presentation.specs.Entries.{◌>>=◌, or_kind, is_directive, stated_ttl, from_type, known_ttl, needed_ttl, ttl_or, record_with, typed_record, record_from, record_of, directive_of, words_entry, entry_of, context_after}
use Rattle.dns_zone.specs.Contexts.{IsFolded, IsOwner, IsSound}
use Rattle.dns_zone.proofs.Readings.{IsRead, IsTyped, IsFolded-word_name, IsFolded-only_name, IsWritten, IsWritten-type_of, IsTyped-data_of}

-- what holds of an entry
abbrev pub IsEntered : Entry → Type 0
IsEntered entry.Nothing = Unit {0}
IsEntered (entry.Origin origin) = IsFolded origin
IsEntered (entry.DefaultTtl ttl) = Unit {0}
IsEntered (entry.Record r stated) = IsRead r × IsFolded r.name

-- what came of a value came of some value
got : {X Y : Type 0} (found : Result X EntryKind) (next : X → Result Y EntryKind) (y : Y) → (found >>= next) ≡ Ok y → (x : X) × (found ≡ Ok x) × (next x ≡ Ok y)
got (Err wrong) next y is = absurd cc
got (Ok x) next y is = (x, refl, is)

ok_same : {X : Type 0} (x y : X) → ◌≡◌ {A = Result X EntryKind} (Ok x) (Ok y) → x ≡ y
ok_same x y is = cc

there : {X : Type 0} (wrong : EntryKind) (found : Option X) (x : X) → or_kind wrong found ≡ Ok x → found ≡ Some x
there wrong None x is = absurd cc
there wrong (Some y) x is = cc

-- what came of a choice came of one of the two
either : {Y : Type 0} (test : Bool) (first second : Result Y EntryKind) (y : Y) → (if test then first else second) ≡ Ok y → (first ≡ Ok y) ⊎ (second ≡ Ok y)
either true first second y is = inl is
either false first second y is = inr is

IsRead-typed : (name : List (List ℕ)) (number ttl : ℕ) (rdata : Data) → IsFolded name → IsTyped (number, rdata) → IsRead (record { name = name; rtype = number; class = 1; ttl = ttl; rdata = rdata })
IsRead-typed name number ttl rdata owner is = record {
  class = refl;
  plain = is.plain;
  form = is.form;
  filled = is.filled;
  short = is.short;
  owner = owner.folded;
  names = is.names;
}

-- a type that was written
abbrev AreWritten : Option WrittenType → Type 0
AreWritten type = (written : WrittenType) → type ≡ Some written → IsWritten written

IsEntered-record_with : (context : Context) (owner : List (List ℕ)) (stated ttl : Option ℕ) (type : Option WrittenType) (words : List Word) (one : Entry) → IsSound context → IsFolded owner → AreWritten type → record_with context owner stated ttl type words ≡ Ok one → IsEntered one
unfolding record_with
IsEntered-record_with context owner stated ttl type words one sound name types is =
    let written = got (or_kind kind.RecordType type) _ one is in
    let rdata = got (or_kind kind.Data (data_of context.origin written.0 words)) _ one written.2 in
    let typed = IsTyped-data_of context.origin written.0 words rdata.0 sound.origin (types written.0 (there kind.RecordType type written.0 written.1)) (there kind.Data (data_of context.origin written.0 words) rdata.0 rdata.1) in
    subst IsEntered (ok_same _ _ rdata.2) (IsRead-typed owner written.0.number (ttl_or ttl rdata.0) rdata.0 name typed, name)

IsEntered-typed_record : (context : Context) (owner : List (List ℕ)) (stated : Option ℕ) (type : Option WrittenType) (words : List Word) (one : Entry) → IsSound context → IsFolded owner → AreWritten type → typed_record context owner stated type words ≡ Ok one → IsEntered one
unfolding typed_record
IsEntered-typed_record context owner stated type words one sound name types is =
    let ttl = got (needed_ttl (known_ttl context stated) type) _ one is in
    IsEntered-record_with context owner stated ttl.0 type words one sound name types ttl.2

IsEntered-record_from : (context : Context) (owner : List (List ℕ)) (stated : Option ℕ) (words : List Word) (one : Entry) → IsSound context → IsFolded owner → record_from context owner stated words ≡ Ok one → IsEntered one
IsEntered-record_from context owner stated [] one sound name is = IsEntered-typed_record context owner stated None [] one sound name (λ written none. absurd cc) is
IsEntered-record_from context owner stated (type ∷ words) one sound name is =
    IsEntered-typed_record context owner stated (type_of type) words one sound name (λ written type_is. IsWritten-type_of type written type_is) is

IsEntered-record_of : (context : Context) (owner : List (List ℕ)) (words : List Word) (one : Entry) → IsSound context → IsFolded owner → record_of context owner words ≡ Ok one → IsEntered one
unfolding record_of
IsEntered-record_of context owner words one sound name is =
    let stated = got (stated_ttl words) _ one is in
    IsEntered-record_from context owner stated.0 (from_type words) one sound name stated.2

IsEntered-directive_of : (context : Context) (directive : Word) (words : List Word) (one : Entry) → IsSound context → directive_of context directive words ≡ Ok one → IsEntered one
unfolding directive_of
IsEntered-directive_of context directive words one sound is =
    elim (either (is_word (codes "$ORIGIN") directive) _ _ one is) [
      | inl origin_is ↦
          let origin = got (or_kind kind.Name (only_name context.origin words)) (λ origin. Ok (entry.Origin origin)) one origin_is in
          subst IsEntered (ok_same _ _ origin.2) (IsFolded-only_name context.origin words origin.0 sound.origin (there kind.Name (only_name context.origin words) origin.0 origin.1))
      | inr others ↦ elim (either (is_word (codes "$TTL") directive) _ _ one others) [
        | inl ttl_is ↦
            let ttl = got (or_kind kind.Ttl (only_seconds words)) (λ ttl. Ok (entry.DefaultTtl ttl)) one ttl_is in
            subst IsEntered (ok_same _ _ ttl.2) tt
        | inr none ↦ absurd cc
      ]
    ]

owner_is : (found : Option (List (List ℕ))) (owner : List (List ℕ)) → IsOwner found → found ≡ Some owner → IsFolded owner
owner_is None owner sound is = absurd cc
owner_is (Some other) owner sound is = let same : other ≡ owner = cc in subst IsFolded same sound

IsEntered-words_entry : (context : Context) (indented : Bool) (words : List Word) (one : Entry) → IsSound context → words_entry context indented words ≡ Ok one → IsEntered one
unfolding words_entry
IsEntered-words_entry context indented [] one sound is = subst IsEntered (ok_same _ _ is) tt
IsEntered-words_entry context indented (word ∷ words) one sound is =
    elim (either (is_directive word) (directive_of context word words) _ one is) [
      | inl directive ↦ IsEntered-directive_of context word words one sound directive
      | inr others ↦ elim (either indented (or_kind kind.Name context.owner >>= λ owner. record_of context owner (word ∷ words)) _ one others) [
        | inl repeated ↦
            let owner = got (or_kind kind.Name context.owner) (λ owner. record_of context owner (word ∷ words)) one repeated in
            IsEntered-record_of context owner.0 (word ∷ words) one sound (owner_is context.owner owner.0 sound.owner (there kind.Name context.owner owner.0 owner.1)) owner.2
        | inr owned ↦
            let owner = got (or_kind kind.Name (word_name context.origin word)) (λ owner. record_of context owner words) one owned in
            IsEntered-record_of context owner.0 words one sound (IsFolded-word_name context.origin word owner.0 sound.origin (there kind.Name (word_name context.origin word) owner.0 owner.1)) owner.2
      ]
    ]

-- what holds of what a logical line says
pub IsEntered-entry_of : (context : Context) (line : LogicalLine) (one : Entry) → IsSound context → entry_of context line ≡ Ok one → IsEntered one
unfolding entry_of
IsEntered-entry_of context line one sound is =
    elim (either (line.stray || nat_lt 0 line.open_count) (Err kind.Paren) _ one is) [
      | inl none ↦ absurd cc
      | inr others ↦ elim (either line.unclosed (Err kind.Quote) (words_entry context line.indented line.words) one others) [
        | inl none ↦ absurd cc
        | inr words ↦ IsEntered-words_entry context line.indented line.words one sound words
      ]
    ]

-- what holds behind an entry
pub IsSound-after : (context : Context) (one : Entry) → IsSound context → IsEntered one → IsSound (context_after context one)
IsSound-after context entry.Nothing sound entered = sound
IsSound-after context (entry.Origin origin) sound entered = record { origin = entered; owner = sound.owner }
IsSound-after context (entry.DefaultTtl ttl) sound entered = record { origin = sound.origin; owner = sound.owner }
IsSound-after context (entry.Record r stated) sound entered = record { origin = sound.origin; owner = entered.1 }
