-- An absolute name is read as itself.
use Rattle.std.proofs.Common.{◌≡◌, ℕ, ◌+◌, ◌/◌, ◌%◌, ◌<◌, ◌≤◌, Bool, true, false, not, ◌==◌, nat_lt, if◌then◌else◌, List, [], ◌∷◌, ◌++◌, length, Some, Ok, refl, sym, ap, ap₂, ◌∙◌, arith, append_assoc, append-nil}
use Rattle.std.specs.Str.{bytes_eq}
use Rattle.std.specs.List.{AllByRecursion, flat_map}
use Rattle.dns_name.specs.Name.{IsLabel, IsName, fold_of, name_len}
use Rattle.dns_name.specs.NameText.{symbols_of, labels_from, closed, escaped_symbol, short_name, name_of}
use Rattle.dns_presentation.specs.Words.{is_stop, begins_plain}
use Rattle.dns_presentation.specs.Values.{ends_in_dot, name_in}
use Rattle.dns_wire.specs.Kept.{AreBytes, AreOfBytes}
use Rattle.dns_printed.specs.Printed.{escaped, is_plain, label_character, label_text, name_text}
use Rattle.dns_printed.proofs.Escaping.{hundreds, tens, units, escape_of-digits, IsOrdinary-digit, IsOrdinary-plain}
use Rattle.dns_printed.proofs.Spans.{Passes, Passes-append, Passes-byte, Passes-dot, Passes-pair, Passes-all, Writes, Writes-plain}

-- what holds of a byte's text where it holds of a byte that stands for itself, and of an escape
by_character : (P : List ℕ → Type 0) (byte : ℕ) → (is_plain byte ≡ true → P (byte ∷ [])) → P (escaped byte) → P (label_character byte)
by_character P byte plain other = cases (is_plain byte) refl
  where
    cases : (test : Bool) → is_plain byte ≡ test → P (if test then byte ∷ [] else escaped byte)
    cases true is = plain is
    cases false is = other

-- an escape is part of a word
pub Passes-escaped : (byte : ℕ) → byte < 256 → Passes (escaped byte)
Passes-escaped byte below =
    let first = IsOrdinary-digit (48 + byte / 100) (hundreds byte below) in
    Passes-append (92 ∷ (48 + byte / 100) ∷ []) ((48 + byte / 10 % 10) ∷ (48 + byte % 10) ∷ []) (Passes-pair (48 + byte / 100) first.seen)
    (Passes-append ((48 + byte / 10 % 10) ∷ []) ((48 + byte % 10) ∷ []) (Passes-byte (48 + byte / 10 % 10) (IsOrdinary-digit (48 + byte / 10 % 10) (tens byte))) (Passes-byte (48 + byte % 10) (IsOrdinary-digit (48 + byte % 10) (units byte))))

Passes-character : (byte : ℕ) → byte < 256 → Passes (label_character byte)
Passes-character byte below = by_character Passes byte (λ plain. Passes-byte byte (IsOrdinary-plain byte plain)) (Passes-escaped byte below)

Passes-characters : (label : List ℕ) → AreBytes label → AllByRecursion (λ byte. Passes (label_character byte)) label
Passes-characters [] bytes = tt
Passes-characters (byte ∷ label) bytes = (Passes-character byte bytes.0, Passes-characters label bytes.1)

Passes-label : (label : List ℕ) → AreBytes label → Passes (label_text label)
Passes-label label bytes = Passes-append (flat_map label_character label) (46 ∷ []) (Passes-all label_character label (Passes-characters label bytes)) Passes-dot

Passes-labels : (labels : List (List ℕ)) → AreOfBytes labels → AllByRecursion (λ label. Passes (label_text label)) labels
Passes-labels [] bytes = tt
Passes-labels (label ∷ labels) bytes = (Passes-label label bytes.0, Passes-labels labels bytes.1)

Passes-name : (labels : List (List ℕ)) → AreOfBytes labels → Passes (name_text labels)
Passes-name [] bytes = Passes-dot
Passes-name (label ∷ labels) bytes = Passes-all label_text (label ∷ labels) (Passes-labels (label ∷ labels) bytes)

-- how a name begins
pub record Begins (text : List ℕ) : Type 0 where
  pub first : ℕ
  pub rest : List ℕ
  pub is : text ≡ first ∷ rest
  pub stop : is_stop first ≡ false
  pub dollar : (first == 36) ≡ false
  pub at : (first == 64) ≡ false

-- how the text of a label begins, and that it is no dot
pub record BeginsLabel (text : List ℕ) : Type 0 where
  pub begins : Begins text
  pub dot : (begins.first == 46) ≡ false

begins_character : (byte : ℕ) → BeginsLabel (label_character byte)
begins_character byte =
    by_character BeginsLabel byte
    (λ plain.
    let ordinary = IsOrdinary-plain byte plain in
    record { begins = record { first = byte; rest = []; is = refl; stop = ordinary.stop; dollar = ordinary.dollar; at = ordinary.at }; dot = ordinary.dot })
    (record { begins = record { first = 92; rest = (48 + byte / 100) ∷ (48 + byte / 10 % 10) ∷ (48 + byte % 10) ∷ []; is = refl; stop = refl; dollar = refl; at = refl }; dot = refl })

begins_before : (text more : List ℕ) → BeginsLabel text → BeginsLabel (text ++ more)
begins_before text more label = record {
  begins = record { first = label.begins.first; rest = label.begins.rest ++ more; is = ap (λ (front : List ℕ). front ++ more) label.begins.is; stop = label.begins.stop; dollar = label.begins.dollar; at = label.begins.at };
  dot = label.dot;
}

begins_label : (label more : List ℕ) → IsLabel label → BeginsLabel (label_text label ++ more)
begins_label [] more is = absurd (omega (arith, is.0))
begins_label (byte ∷ label) more is =
    begins_before (label_text (byte ∷ label)) more
    (begins_before (label_character byte ++ flat_map label_character label) (46 ∷ []) (begins_before (label_character byte) (flat_map label_character label) (begins_character byte)))

pub Begins-name : (labels : List (List ℕ)) → AllByRecursion IsLabel labels → Begins (name_text labels)
Begins-name [] each = record { first = 46; rest = []; is = refl; stop = refl; dollar = refl; at = refl }
Begins-name (label ∷ labels) each = (begins_label label (flat_map label_text labels) each.0).begins

begins_plain-from : (text : List ℕ) → Begins text → begins_plain text ≡ true
begins_plain-from text begins = ap begins_plain begins.is ∙ ap not begins.stop

-- the text of a name is one word
pub Writes-name : (labels : List (List ℕ)) → AllByRecursion IsLabel labels → AreOfBytes labels → Writes (name_text labels) (record { quoted = false; text = name_text labels })
Writes-name labels each bytes = Writes-plain (name_text labels) (begins_plain-from (name_text labels) (Begins-name labels each)) (Passes-name labels bytes)

-- the symbols of a byte's text: that of the byte alone, as an escape has it
abbrev ReadsByte : ℕ → List ℕ → Type 0
ReadsByte byte text = (rest : List ℕ) → symbols_of 0 (text ++ rest) ≡ (escaped_symbol (Some (byte, 0))).0 ∷ symbols_of 0 rest

reads_plain : (byte : ℕ) → is_plain byte ≡ true → ReadsByte byte (byte ∷ [])
reads_plain byte plain rest =
    let ordinary = IsOrdinary-plain byte plain in
    rw (ordinary.dot, ordinary.slash) refl

reads_escaped : (byte : ℕ) → byte < 256 → ReadsByte byte (escaped byte)
reads_escaped byte below rest = rw (escape_of-digits byte rest below) refl

reads_byte : (byte : ℕ) → byte < 256 → ReadsByte byte (label_character byte)
reads_byte byte below = by_character (ReadsByte byte) byte (reads_plain byte) (reads_escaped byte below)

-- the labels of the symbols of a label's text go on with the label
labels_on : (front label rest : List ℕ) → AreBytes label → labels_from front (symbols_of 0 (flat_map label_character label ++ rest)) ≡ labels_from (front ++ label) (symbols_of 0 rest)
labels_on front [] rest bytes = ap (λ (label : List ℕ). labels_from label (symbols_of 0 rest)) (sym (append-nil front))
labels_on front (byte ∷ label) rest bytes =
    ap (λ (text : List ℕ). labels_from front (symbols_of 0 text)) (append_assoc (label_character byte) (flat_map label_character label) rest)
    ∙ ap (labels_from front) (reads_byte byte bytes.0 (flat_map label_character label ++ rest))
    ∙ labels_on (front ++ byte ∷ []) label rest bytes.1
    ∙ ap (λ (label : List ℕ). labels_from label (symbols_of 0 rest)) (append_assoc front (byte ∷ []) label)

closed_label : (label : List ℕ) (labels : List (List ℕ)) → IsLabel label → closed label (Ok labels) ≡ Ok (label ∷ labels)
closed_label label labels is =
    let some : (length label == 0) ≡ false = grind (arith, is.0) in
    let short : nat_lt 63 (length label) ≡ false = grind (arith, is.1) in
    rw (some, short) refl

labels_back : (labels : List (List ℕ)) → AllByRecursion IsLabel labels → AreOfBytes labels → labels_from [] (symbols_of 0 (flat_map label_text labels)) ≡ Ok labels
labels_back [] each bytes = refl
labels_back (label ∷ labels) each bytes =
    ap (λ (text : List ℕ). labels_from [] (symbols_of 0 text)) (append_assoc (flat_map label_character label) (46 ∷ []) (flat_map label_text labels))
    ∙ labels_on [] label (46 ∷ flat_map label_text labels) bytes.0
    ∙ ap (closed label) (labels_back labels each.1 bytes.1)
    ∙ closed_label label labels each.0

-- a text that is not a dot alone is read label by label
name_of-labels : (text : List ℕ) → BeginsLabel text → name_of text ≡ short_name (labels_from [] (symbols_of 0 text))
unfolding name_of
name_of-labels text label =
    let front : name_of (label.begins.first ∷ label.begins.rest) ≡ short_name (labels_from [] (symbols_of 0 (label.begins.first ∷ label.begins.rest))) = rw label.dot refl in
    ap name_of label.begins.is ∙ front ∙ ap (λ (text : List ℕ). short_name (labels_from [] (symbols_of 0 text))) (sym label.begins.is)

short_back : (labels : List (List ℕ)) → name_len labels ≤ 255 → short_name (Ok labels) ≡ Ok labels
short_back labels short =
    let within : nat_lt 255 (name_len labels) ≡ false = grind (arith, short) in
    rw within refl

-- the text of a name stands for it
pub name_of-name_text : (labels : List (List ℕ)) → IsName labels → AreOfBytes labels → name_of (name_text labels) ≡ Ok labels
unfolding name_of
name_of-name_text [] is bytes = refl
name_of-name_text (label ∷ labels) is bytes =
    name_of-labels (name_text (label ∷ labels)) (begins_label label (flat_map label_text labels) is.each.0)
    ∙ ap short_name (labels_back (label ∷ labels) is.each bytes)
    ∙ short_back (label ∷ labels) is.short

-- the text of a byte ends in no dot
abbrev EndsNothing : List ℕ → Type 0
EndsNothing text = (dot : Bool) (rest : List ℕ) → ends_in_dot false dot (text ++ rest) ≡ ends_in_dot false false rest

ends_plain : (byte : ℕ) → is_plain byte ≡ true → EndsNothing (byte ∷ [])
ends_plain byte plain dot rest =
    let ordinary = IsOrdinary-plain byte plain in
    ap₂ (λ (escaped dot : Bool). ends_in_dot escaped dot rest) ordinary.slash ordinary.dot

ends_escaped : (byte : ℕ) → EndsNothing (escaped byte)
ends_escaped byte dot rest =
    let second = IsOrdinary-digit (48 + byte / 10 % 10) (tens byte) in
    let third = IsOrdinary-digit (48 + byte % 10) (units byte) in
    rw second.slash (ap₂ (λ (escaped dot : Bool). ends_in_dot escaped dot rest) third.slash third.dot)

ends_label : (dot : Bool) (label rest : List ℕ) → ends_in_dot false dot (flat_map label_character label ++ 46 ∷ rest) ≡ ends_in_dot false true rest
ends_label dot [] rest = refl
ends_label dot (byte ∷ label) rest =
    ap (ends_in_dot false dot) (append_assoc (label_character byte) (flat_map label_character label) (46 ∷ rest))
    ∙ by_character EndsNothing byte (ends_plain byte) (ends_escaped byte) dot (flat_map label_character label ++ 46 ∷ rest)
    ∙ ends_label false label rest

ends_labels : (labels : List (List ℕ)) → ends_in_dot false true (flat_map label_text labels) ≡ true
ends_labels [] = refl
ends_labels (label ∷ labels) =
    ap (ends_in_dot false true) (append_assoc (flat_map label_character label) (46 ∷ []) (flat_map label_text labels))
    ∙ ends_label true label (flat_map label_text labels)
    ∙ ends_labels labels

ends_name : (labels : List (List ℕ)) → ends_in_dot false false (name_text labels) ≡ true
ends_name [] = refl
ends_name (label ∷ labels) =
    ap (ends_in_dot false false) (append_assoc (flat_map label_character label) (46 ∷ []) (flat_map label_text labels))
    ∙ ends_label false label (flat_map label_text labels)
    ∙ ends_labels labels

not_origin : (text : List ℕ) → Begins text → bytes_eq text (64 ∷ []) ≡ false
not_origin text begins =
    let front : bytes_eq (begins.first ∷ begins.rest) (64 ∷ []) ≡ false = rw begins.at refl in
    ap (λ (text : List ℕ). bytes_eq text (64 ∷ [])) begins.is ∙ front

-- the text of a name in small letters is that name, under whatever origin
pub name_in-name_text : (origin labels : List (List ℕ)) → IsName labels → AreOfBytes labels → fold_of labels ≡ labels → name_in origin (name_text labels) ≡ Some labels
unfolding name_in
name_in-name_text origin labels is bytes small =
    rw (not_origin (name_text labels) (Begins-name labels is.each), name_of-name_text labels is bytes, ends_name labels) (ap Some small)
