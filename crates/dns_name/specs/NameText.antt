-- The name that a text stands for (RFC 1035 5.1): labels with dots between them.
use Rattle.std.specs.Prelude.{ℕ, zero, suc, ◌&&◌, nat_lt, ◌==◌, if◌then◌else◌, List, [], ◌∷◌, ◌++◌, length, Option, Some, None, Result, Ok, Err}
use Rattle.dns_name.specs.declared.fault.ProtoError.{ProtoError}
use Rattle.dns_name.specs.declared.fault.ProtoError.TheVariants.{LabelEmpty, LabelLong, BadEscape, NameLong}
use Rattle.dns_name.specs.declared.name_text.Symbol.{Symbol}
use Rattle.dns_name.specs.declared.name_text.Symbol.TheVariants.{Dot, Byte, Bad}
use Rattle.dns_name.specs.Escapes.{escape_of}
use Rattle.dns_name.specs.Name.{name_len}

-- the symbol of an escape, and how many bytes of the text behind the backslash belong to it
abbrev pub escaped_symbol : Option (ℕ × ℕ) → Symbol × ℕ
escaped_symbol None = (Bad, 0)
escaped_symbol (Some escape) = (Byte escape.0, escape.1)

-- the symbol that a byte begins, before this text, and how many bytes of the text belong to it
abbrev pub symbol_of : ℕ → List ℕ → Symbol × ℕ
symbol_of byte text = if byte == 46 then (Dot, 0) else if byte == 92 then escaped_symbol (escape_of text) else (Byte byte, 0)

-- the symbols of a text behind the bytes of it that are passed over, which the symbol before them holds
abbrev pub symbols_of : ℕ → List ℕ → List Symbol
symbols_of passed [] = []
symbols_of (suc passed) (byte ∷ text) = symbols_of passed text
symbols_of zero (byte ∷ text) = (symbol_of byte text).0 ∷ symbols_of (symbol_of byte text).1 text

-- a label before those that follow it
abbrev pub before : List ℕ → Result (List (List ℕ)) ProtoError → Result (List (List ℕ)) ProtoError
before label (Ok labels) = Ok (label ∷ labels)
before label (Err error) = Err error

-- a label that ends, before those that follow it: it is refused where it has no byte, or more than 63
abbrev pub closed : List ℕ → Result (List (List ℕ)) ProtoError → Result (List (List ℕ)) ProtoError
closed label labels = if length label == 0 then Err LabelEmpty else if nat_lt 63 (length label) then Err LabelLong else before label labels

-- the labels of these symbols, the first of which goes on with these bytes; behind a last dot there is none
abbrev pub labels_from : List ℕ → List Symbol → Result (List (List ℕ)) ProtoError
labels_from label [] = if length label == 0 then Ok [] else closed label (Ok [])
labels_from label (Byte byte ∷ symbols) = labels_from (label ++ byte ∷ []) symbols
labels_from label (Dot ∷ symbols) = closed label (labels_from [] symbols)
labels_from label (Bad ∷ symbols) = Err BadEscape

-- labels that take at most 255 bytes
abbrev pub short_name : Result (List (List ℕ)) ProtoError → Result (List (List ℕ)) ProtoError
short_name (Ok labels) = if nat_lt 255 (name_len labels) then Err NameLong else Ok labels
short_name (Err error) = Err error

-- the name that a text stands for, or the first fault in it; a dot alone is the root
unfoldable pub name_of : List ℕ → Result (List (List ℕ)) ProtoError
name_of [] = Err LabelEmpty
name_of (byte ∷ text) = if byte == 46 && length text == 0 then Ok [] else short_name (labels_from [] (symbols_of 0 (byte ∷ text)))
