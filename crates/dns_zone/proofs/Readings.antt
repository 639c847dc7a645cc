-- What holds of the names and the data that words of a zone's text write.
use Rattle.std.proofs.Common.{◌≡◌, ℕ, ◌+◌, ◌<◌, ◌≤◌, nat_lt, List, [], ◌∷◌, ◌++◌, length, map, Bool, true, false, ◌==◌, ◌&&◌, ◌||◌, if◌then◌else◌, Option, Some, None, Result, Ok, Err, refl, sym, ap, ◌∙◌, subst, arith, length-append, ◌⊎◌, inl, inr}
use Rattle.std.specs.Int.{w16, w32, to_be_bytes}
use Rattle.std.specs.Str.{bytes_eq}
use Rattle.std.proofs.lemmas.Bool.Decides.{Decides-eqb}
use Rattle.std.proofs.lemmas.List.{map-append}
use Rattle.std.proofs.lemmas.List.Sums.{sum_by-append}
use Rattle.std.specs.List.{flat_map}
use Rattle.std.specs.Char.{to_ascii_lowercase}
use Rattle.std.proofs.lemmas.Str.Ascii.{lowercase-lowercase}
use lib.Chars.{codes}
use Rattle.dns_name.specs.declared.fault.ProtoError.{ProtoError}
use Rattle.dns_name.specs.declared.fault.ProtoError.TheVariants.{NameLong}
use Rattle.dns_wire.specs.declared.rdata.Data.{Data}
use Rattle.dns_wire.specs.declared.rdata.Data.TheVariants.{A, Aaaa, Ns, Cname, Ptr, Mx, Srv, Soa, Txt}
use Rattle.dns_wire.specs.declared.record.Record.{Record}
use Rattle.dns_wire.specs.Forms.{form_of, variant_of}
use Rattle.dns_name.specs.Name.{fold_of, name_len, name_bytes, labels_bytes}
use Rattle.dns_name.specs.NameText.{name_of, short_name, labels_from, symbols_of}
use Rattle.dns_wire.specs.Texts.{texts_bytes}
use Rattle.dns_wire.specs.WireFormat.{data_bytes, IsShort}
use Rattle.dns_name.proofs.Below.{length-fold_of}
use Rattle.dns_name.proofs.Lengths.{length_name_bytes}
use Rattle.dns_wire.specs.Folds.{fold_data}
use Rattle.dns_zone_map.specs.Zone.{is_meta}
use Rattle.dns_presentation.specs.Lines.{parts_of}
use Rattle.dns_zone.specs.Contexts.{IsFolded}
use Rattle.dns_presentation.specs.Words.{Word}
use Rattle.dns_presentation.specs.declared.data_text.WrittenType.{WrittenType}
use Rattle.dns_presentation.specs.Values.{◌>>=◌, plain_text, folded, ends_in_dot, name_under, name_in, string_of, address_from, wide_address_of}
use Rattle.dns_presentation.specs.TypedData.{typed_data}
use Rattle.dns_presentation.proofs.TypedData.{IsWhole, typed_data-whole}
use Rattle.dns_update.proofs.Folded.{fold_record-fold_record, length_folded, form_folded}
use Rattle.dns_presentation.specs.DataText.{word_number, word_short, word_name, only_word, only_name, a_of, aaaa_of, mx_of, srv_of, times_of, soa_of, is_too_long, strings_from, txt_of, joined, in_small_letters, sized_bytes, is_general, general_of, name_data_of, form_data_of, data_of, is_meta_type, named_type, number_behind_type, numbered_type, typed, type_of}

-- what holds of such a record, wherever it stands
pub record IsRead (r : Record) : Type 0 where
  pub class : r.class ≡ 1
  pub plain : is_meta r.rtype ≡ false
  pub form : form_of r.rtype (length (data_bytes r.rdata)) ≡ variant_of r.rdata
  pub filled : 0 < length (data_bytes r.rdata)
  pub short : IsShort r
  pub owner : fold_of r.name ≡ r.name
  pub names : fold_data r.rdata ≡ r.rdata

-- what holds of a type and its data
pub record IsTyped (typed : ℕ × Data) : Type 0 where
  pub plain : is_meta typed.0 ≡ false
  pub form : form_of typed.0 (length (data_bytes typed.1)) ≡ variant_of typed.1
  pub filled : 0 < length (data_bytes typed.1)
  pub short : length (data_bytes typed.1) ≤ 65535
  pub names : fold_data typed.1 ≡ typed.1

-- what came of a value came of some value
pub taken : {X Y : Type 0} (found : Option X) (next : X → Option Y) (y : Y) → (found >>= next) ≡ Some y → (x : X) × (found ≡ Some x) × (next x ≡ Some y)
taken None next y is = absurd cc
taken (Some x) next y is = (x, refl, is)

-- two values that are there are equal
pub some_same : {X : Type 0} (x y : X) → Some x ≡ Some y → x ≡ y
some_same x y is = cc

-- none is no value
pub no_value : {X : Type 0} {x : X} → None ≡ Some x → ⊥
no_value is = cc

-- small letters stay
map_lower : (label : List ℕ) → map to_ascii_lowercase (map to_ascii_lowercase label) ≡ map to_ascii_lowercase label
map_lower [] = refl
map_lower (byte ∷ label) = rw (lowercase-lowercase byte, map_lower label) refl

pub fold_of-fold_of : (name : List (List ℕ)) → fold_of (fold_of name) ≡ fold_of name
fold_of-fold_of [] = refl
fold_of-fold_of (label ∷ name) = rw (map_lower label, fold_of-fold_of name) refl

-- a number that is not above another
at_most : (most number : ℕ) → nat_lt most number ≡ false → number ≤ most
at_most most number none = grind arith

-- a name that was read is short
short_if : (long : Bool) (labels read : List (List ℕ)) → nat_lt 255 (name_len labels) ≡ long → (if long then Err NameLong else Ok labels) ≡ Ok read → name_len read ≤ 255
short_if true labels read is ok = absurd cc
short_if false labels read is ok =
    let same : labels ≡ read = cc in
    subst (λ name. name_len name ≤ 255) same (at_most 255 (name_len labels) is)

short_read : (found : Result (List (List ℕ)) ProtoError) (read : List (List ℕ)) → short_name found ≡ Ok read → name_len read ≤ 255
short_read (Ok labels) read ok = short_if (nat_lt 255 (name_len labels)) labels read refl ok
short_read (Err error) read ok = absurd cc

short_name_of : (text : List ℕ) (read : List (List ℕ)) → name_of text ≡ Ok read → name_len read ≤ 255
unfolding name_of
short_name_of [] read ok = absurd cc
short_name_of (byte ∷ text) read ok = root_or ((byte == 46) && (length text == 0)) ok
  where
    root_or : (root : Bool) → (if root then Ok [] else short_name (labels_from [] (symbols_of 0 (byte ∷ text)))) ≡ Ok read → name_len read ≤ 255
    root_or true ok = let same : [] ≡ read = cc in subst (λ name. name_len name ≤ 255) same (omega arith)
    root_or false ok = short_read (labels_from [] (symbols_of 0 (byte ∷ text))) read ok

-- a name in small letters takes as many bytes
length-name_fold : (name : List (List ℕ)) → length (name_bytes (fold_of name)) ≡ length (name_bytes name)
length-name_fold name =
    omega (arith, length-append (labels_bytes (fold_of name)) (0 ∷ []), length-append (labels_bytes name) (0 ∷ []), length-fold_of name)

some_name : (name : List (List ℕ)) → 0 < length (name_bytes name)
some_name name = omega (arith, length-append (labels_bytes name) (0 ∷ []))

IsFolded-read : (found : Result (List (List ℕ)) ProtoError) (name : List (List ℕ)) → ((read : List (List ℕ)) → found ≡ Ok read → name_len read ≤ 255) → folded found ≡ Some name → IsFolded name
IsFolded-read (Err error) name short is = absurd cc
IsFolded-read (Ok read) name short is =
    let same : fold_of read ≡ name = cc in
    let size : length (name_bytes (fold_of read)) ≤ 255 = omega (arith, length-name_fold read, length_name_bytes read, short read refl) in
    subst IsFolded same (record { folded = fold_of-fold_of read; short = size })

-- what came of a choice came of one of the two
pub either_of : {Y : Type 0} (test : Bool) (first second : Option Y) (y : Y) → (if test then first else second) ≡ Some y → (first ≡ Some y) ⊎ (second ≡ Some y)
either_of true first second y is = inl is
either_of false first second y is = inr is

-- what came of a choice, and which way it went
pub chosen : {Y : Type 0} (test : Bool) (first second : Option Y) (y : Y) → (if test then first else second) ≡ Some y → ((test ≡ true) × (first ≡ Some y)) ⊎ ((test ≡ false) × (second ≡ Some y))
chosen true first second y is = inl (refl, is)
chosen false first second y is = inr (refl, is)

-- a name below an origin that is in small letters
IsFolded-under : (origin read name : List (List ℕ)) → IsFolded origin → IsFolded read → name_under origin read ≡ Some name → IsFolded name
IsFolded-under origin read name above below is = by_length (nat_lt 256 (name_len read + name_len origin)) refl is
  where
    by_length : (long : Bool) → nat_lt 256 (name_len read + name_len origin) ≡ long → (if long then None else Some (read ++ origin)) ≡ Some name → IsFolded name
    by_length true long is = absurd cc
    by_length false long is =
        let same : read ++ origin ≡ name = some_same _ _ is in
        let few : name_len read + name_len origin ≤ 256 = at_most 256 (name_len read + name_len origin) long in
        let size : length (name_bytes (read ++ origin)) ≤ 255 =
        omega (arith, few, length_name_bytes (read ++ origin), sum_by-append length read origin, length-append read origin) in
        subst IsFolded same
        (record { folded = map-append (map to_ascii_lowercase) read origin ∙ ap (λ labels. labels ++ fold_of origin) below.folded ∙ ap (λ labels. read ++ labels) above.folded; short = size })

IsFolded-name_in : (origin : List (List ℕ)) (text : List ℕ) (name : List (List ℕ)) → IsFolded origin → name_in origin text ≡ Some name → IsFolded name
unfolding name_in
IsFolded-name_in origin text name above is =
    elim (either_of (bytes_eq text (codes "@")) (Some origin) _ name is) [
      | inl at ↦ subst IsFolded (some_same _ _ at) above
      | inr others ↦
          let read = taken (folded (name_of text)) (λ read. if ends_in_dot false false text then Some read else name_under origin read) name others in
          let below = IsFolded-read (name_of text) read.0 (short_name_of text) read.1 in
          elim (either_of (ends_in_dot false false text) (Some read.0) (name_under origin read.0) name read.2) [
            | inl whole ↦ subst IsFolded (some_same _ _ whole) below
            | inr relative ↦ IsFolded-under origin read.0 name above below relative
          ]
    ]

pub IsFolded-word_name : (origin : List (List ℕ)) (word : Word) (name : List (List ℕ)) → IsFolded origin → word_name origin word ≡ Some name → IsFolded name
unfolding word_name
IsFolded-word_name origin word name above is =
    let text = taken (plain_text word) (name_in origin) name is in
    IsFolded-name_in origin text.0 name above text.2

pub IsFolded-only_name : (origin : List (List ℕ)) (words : List Word) (name : List (List ℕ)) → IsFolded origin → only_name origin words ≡ Some name → IsFolded name
unfolding only_name
IsFolded-only_name origin words name above is =
    let word = taken (only_word words) (word_name origin) name is in
    IsFolded-word_name origin word.0 name above word.2

-- no size is 0 where there is a byte
not_none : (size : ℕ) → 0 < size → (size == 0) ≡ false
not_none size some = grind arith

IsTyped-a_of : (words : List Word) (rdata : Data) → a_of words ≡ Some rdata → IsTyped (1, rdata)
unfolding a_of
IsTyped-a_of words rdata is =
    let word = taken (only_word words) _ rdata is in
    let text = taken (plain_text word.0) _ rdata word.2 in
    let address = taken (address_from (parts_of 46 text.0)) _ rdata text.2 in
    let typed : IsTyped (1, A address.0) = record { plain = refl; form = refl; filled = omega arith; short = omega arith; names = refl } in
    subst (λ rdata. IsTyped (1, rdata)) (some_same _ _ address.2) typed

IsTyped-aaaa_of : (words : List Word) (rdata : Data) → aaaa_of words ≡ Some rdata → IsTyped (28, rdata)
unfolding aaaa_of
IsTyped-aaaa_of words rdata is =
    let word = taken (only_word words) _ rdata is in
    let text = taken (plain_text word.0) _ rdata word.2 in
    let address = taken (wide_address_of text.0) _ rdata text.2 in
    let typed : IsTyped (28, Aaaa address.0) = record { plain = refl; form = refl; filled = omega arith; short = omega arith; names = refl } in
    subst (λ rdata. IsTyped (28, rdata)) (some_same _ _ address.2) typed

IsTyped-ns : (host : List (List ℕ)) → IsFolded host → IsTyped (2, Ns host)
IsTyped-ns host is = record { plain = refl; form = rw (not_none (length (name_bytes host)) (some_name host)) refl; filled = some_name host; short = omega (arith, is.short); names = ap Ns is.folded }

IsTyped-cname : (target : List (List ℕ)) → IsFolded target → IsTyped (5, Cname target)
IsTyped-cname target is = record { plain = refl; form = rw (not_none (length (name_bytes target)) (some_name target)) refl; filled = some_name target; short = omega (arith, is.short); names = ap Cname is.folded }

IsTyped-ptr : (target : List (List ℕ)) → IsFolded target → IsTyped (12, Ptr target)
IsTyped-ptr target is = record { plain = refl; form = rw (not_none (length (name_bytes target)) (some_name target)) refl; filled = some_name target; short = omega (arith, is.short); names = ap Ptr is.folded }

IsTyped-mx_of : (origin : List (List ℕ)) (words : List Word) (rdata : Data) → IsFolded origin → mx_of origin words ≡ Some rdata → IsTyped (15, rdata)
unfolding mx_of
IsTyped-mx_of origin [] rdata above is = absurd cc
IsTyped-mx_of origin (first ∷ words) rdata above is =
    let number = taken (word_short first) _ rdata is in
    let host = taken (only_name origin words) _ rdata number.2 in
    let name = IsFolded-only_name origin words host.0 above host.1 in
    let size : length (data_bytes (Mx number.0 host.0)) ≡ 2 + length (name_bytes host.0) = omega (arith, length-append (to_be_bytes w16 number.0) (name_bytes host.0)) in
    let some : 0 < length (data_bytes (Mx number.0 host.0)) = omega (arith, size) in
    let typed : IsTyped (15, Mx number.0 host.0) = record {
      plain = refl;
      form = rw (not_none (length (data_bytes (Mx number.0 host.0))) some) refl;
      filled = some;
      short = omega (arith, size, name.short);
      names = ap (Mx number.0) name.folded;
    } in
    subst (λ rdata. IsTyped (15, rdata)) (some_same _ _ host.2) typed

IsTyped-srv : (a b c : ℕ) (target : List (List ℕ)) → IsFolded target → IsTyped (33, Srv a b c target)
IsTyped-srv a b c target name =
    let size : length (data_bytes (Srv a b c target)) ≡ 6 + length (name_bytes target) =
    omega (arith, length-append (to_be_bytes w16 a ++ to_be_bytes w16 b ++ to_be_bytes w16 c) (name_bytes target), length-append (to_be_bytes w16 a ++ to_be_bytes w16 b) (to_be_bytes w16 c), length-append (to_be_bytes w16 a) (to_be_bytes w16 b)) in
    let some : 0 < length (data_bytes (Srv a b c target)) = omega (arith, size) in
    record {
      plain = refl;
      form = rw (not_none (length (data_bytes (Srv a b c target))) some) refl;
      filled = some;
      short = omega (arith, size, name.short);
      names = ap (Srv a b c) name.folded;
    }

IsTyped-srv_of : (origin : List (List ℕ)) (words : List Word) (rdata : Data) → IsFolded origin → srv_of origin words ≡ Some rdata → IsTyped (33, rdata)
unfolding srv_of
IsTyped-srv_of origin [] rdata above is = absurd cc
IsTyped-srv_of origin (first ∷ []) rdata above is = absurd cc
IsTyped-srv_of origin (first ∷ second ∷ []) rdata above is = absurd cc
IsTyped-srv_of origin (first ∷ second ∷ third ∷ words) rdata above is =
    let a = taken (word_short first) (λ a. word_short second >>= λ b. word_short third >>= λ c. only_name origin words >>= λ target. Some (Srv a b c target)) rdata is in
    let b = taken (word_short second) (λ b. word_short third >>= λ c. only_name origin words >>= λ target. Some (Srv a.0 b c target)) rdata a.2 in
    let c = taken (word_short third) (λ c. only_name origin words >>= λ target. Some (Srv a.0 b.0 c target)) rdata b.2 in
    let target = taken (only_name origin words) (λ target. Some (Srv a.0 b.0 c.0 target)) rdata c.2 in
    subst (λ rdata. IsTyped (33, rdata)) (some_same (Srv a.0 b.0 c.0 target.0) rdata target.2) (IsTyped-srv a.0 b.0 c.0 target.0 (IsFolded-only_name origin words target.0 above target.1))

IsTyped-soa : (mname rname : List (List ℕ)) (serial refresh retry expire minimum : ℕ) → IsFolded mname → IsFolded rname → IsTyped (6, Soa serial mname rname refresh retry expire minimum)
IsTyped-soa mname rname serial refresh retry expire minimum primary mailbox =
    let size : length (data_bytes (Soa serial mname rname refresh retry expire minimum)) ≡ length (name_bytes mname) + length (name_bytes rname) + 20 =
    omega (arith, length-append (name_bytes mname ++ name_bytes rname) (flat_map (to_be_bytes w32) (serial ∷ refresh ∷ retry ∷ expire ∷ minimum ∷ [])), length-append (name_bytes mname) (name_bytes rname)) in
    let some : 0 < length (data_bytes (Soa serial mname rname refresh retry expire minimum)) = omega (arith, size) in
    record {
      plain = refl;
      form = rw (not_none (length (data_bytes (Soa serial mname rname refresh retry expire minimum))) some) refl;
      filled = some;
      short = omega (arith, size, primary.short, mailbox.short);
      names = rw (primary.folded, mailbox.folded) refl;
    }

IsTyped-soa_of : (origin : List (List ℕ)) (words : List Word) (rdata : Data) → IsFolded origin → soa_of origin words ≡ Some rdata → IsTyped (6, rdata)
unfolding soa_of
IsTyped-soa_of origin [] rdata above is = absurd cc
IsTyped-soa_of origin (primary ∷ []) rdata above is = absurd cc
IsTyped-soa_of origin (primary ∷ mailbox ∷ []) rdata above is = absurd cc
IsTyped-soa_of origin (primary ∷ mailbox ∷ version ∷ words) rdata above is =
    let mname = taken (word_name origin primary) (λ mname. word_name origin mailbox >>= λ rname. word_number version >>= λ serial. times_of words >>= λ times. Some (Soa serial mname rname times.0 times.1 times.2 times.3)) rdata is in
    let rname = taken (word_name origin mailbox) (λ rname. word_number version >>= λ serial. times_of words >>= λ times. Some (Soa serial mname.0 rname times.0 times.1 times.2 times.3)) rdata mname.2 in
    let serial = taken (word_number version) (λ serial. times_of words >>= λ times. Some (Soa serial mname.0 rname.0 times.0 times.1 times.2 times.3)) rdata rname.2 in
    let times = taken (times_of words) (λ times. Some (Soa serial.0 mname.0 rname.0 times.0 times.1 times.2 times.3)) rdata serial.2 in
    let same : Soa serial.0 mname.0 rname.0 times.0.0 times.0.1 times.0.2 times.0.3 ≡ rdata = some_same _ _ times.2 in
    subst (λ rdata. IsTyped (6, rdata)) same
    (IsTyped-soa mname.0 rname.0 serial.0 times.0.0 times.0.1 times.0.2 times.0.3 (IsFolded-word_name origin primary mname.0 above mname.1) (IsFolded-word_name origin mailbox rname.0 above rname.1))

-- a string behind others makes them longer by its length byte and its bytes
length-texts_push : (strings : List (List ℕ)) (string : List ℕ) → length (texts_bytes (strings ++ string ∷ [])) ≡ length (texts_bytes strings) + (length string + 1)
length-texts_push [] string = omega (arith, length-append (length string ∷ string) [])
length-texts_push (first ∷ strings) string =
    omega (arith, length-texts_push strings string, length-append (length first ∷ first) (texts_bytes (strings ++ string ∷ [])), length-append (length first ∷ first) (texts_bytes strings))

-- a string that is not too long may come
fits : (long longer : Bool) → (long || longer) ≡ false → longer ≡ false
fits true longer none = absurd cc
fits false longer none = none

-- strings that were read, and those before them, are short
record AreRead (before strings : List (List ℕ)) : Type 0 where
  short : length (texts_bytes strings) ≤ 65535
  more : length (texts_bytes before) ≤ length (texts_bytes strings)

AreRead-strings : (before : List (List ℕ)) (words : List Word) (strings : List (List ℕ)) → strings_from before words ≡ Some strings → length (texts_bytes before) ≤ 65535 → AreRead before strings
AreRead-strings before [] strings is short =
    let same : before ≡ strings = some_same _ _ is in
    subst (AreRead before) same (record { short = short; more = omega arith })
AreRead-strings before (word ∷ words) strings is short =
    let string = taken (string_of word.text) (λ string. if is_too_long before string then None else strings_from (before ++ string ∷ []) words) strings is in
    by_length string.0 (is_too_long before string.0) refl string.2 (λ string. AreRead-strings (before ++ string ∷ []) words strings)
  where
    by_length : (string : List ℕ) (long : Bool) → is_too_long before string ≡ long → (if long then None else strings_from (before ++ string ∷ []) words) ≡ Some strings
        → ((string : List ℕ) → strings_from (before ++ string ∷ []) words ≡ Some strings → length (texts_bytes (before ++ string ∷ [])) ≤ 65535 → AreRead (before ++ string ∷ []) strings) → AreRead before strings
    by_length string true long is go_on = absurd cc
    by_length string false long is go_on =
        let size = length-texts_push before string in
        let within = at_most 65535 (length (texts_bytes before) + (length string + 1)) (fits (nat_lt 255 (length string)) (nat_lt 65535 (length (texts_bytes before) + (length string + 1))) long) in
        let rest = go_on string is (omega (arith, size, within)) in
        record { short = rest.short; more = omega (arith, size, rest.more) }

-- where there is a word, there is a byte
some_strings : (word : Word) (words : List Word) (strings : List (List ℕ)) → strings_from [] (word ∷ words) ≡ Some strings → 0 < length (texts_bytes strings)
some_strings word words strings is =
    let string = taken (string_of word.text) (λ string. if is_too_long [] string then None else strings_from (string ∷ []) words) strings is in
    by_length string.0 (is_too_long [] string.0) refl string.2
  where
    by_length : (string : List ℕ) (long : Bool) → is_too_long [] string ≡ long → (if long then None else strings_from (string ∷ []) words) ≡ Some strings → 0 < length (texts_bytes strings)
    by_length string true long is = absurd cc
    by_length string false long is =
        let size = length-texts_push [] string in
        let within = at_most 65535 (0 + (length string + 1)) (fits (nat_lt 255 (length string)) (nat_lt 65535 (0 + (length string + 1))) long) in
        let rest = AreRead-strings (string ∷ []) words strings is (omega (arith, size, within)) in
        omega (arith, size, rest.more)

IsTyped-txt_of : (words : List Word) (rdata : Data) → txt_of words ≡ Some rdata → IsTyped (16, rdata)
unfolding txt_of
IsTyped-txt_of [] rdata is = absurd cc
IsTyped-txt_of (word ∷ words) rdata is =
    let strings = taken (strings_from [] (word ∷ words)) (λ strings. Some (Txt strings)) rdata is in
    let read = AreRead-strings [] (word ∷ words) strings.0 strings.1 (omega arith) in
    let some = some_strings word words strings.0 strings.1 in
    let typed : IsTyped (16, Txt strings.0) = record {
      plain = refl;
      form = rw (not_none (length (texts_bytes strings.0)) some) refl;
      filled = some;
      short = read.short;
      names = refl;
    } in
    subst (λ rdata. IsTyped (16, rdata)) (some_same _ _ strings.2) typed

-- data that is a name alone
IsTyped-name_data_of : (origin : List (List ℕ)) (number : ℕ) (words : List Word) (rdata : Data) → IsFolded origin → name_data_of origin number words ≡ Some rdata → IsTyped (number, rdata)
unfolding name_data_of
IsTyped-name_data_of origin number words rdata above is =
    let name = taken (only_name origin words) (λ name. if number == 2 then Some (Ns name) else if number == 5 then Some (Cname name) else if number == 12 then Some (Ptr name) else None) rdata is in
    let folded = IsFolded-only_name origin words name.0 above name.1 in
    elim (chosen (number == 2) _ _ rdata name.2) [
      | inl ns ↦ of_number 2 (Ns name.0) ns.0 (some_same _ _ ns.1) (IsTyped-ns name.0 folded)
      | inr others ↦ elim (chosen (number == 5) _ _ rdata others.1) [
        | inl cname ↦ of_number 5 (Cname name.0) cname.0 (some_same _ _ cname.1) (IsTyped-cname name.0 folded)
        | inr others ↦ elim (chosen (number == 12) _ _ rdata others.1) [
          | inl ptr ↦ of_number 12 (Ptr name.0) ptr.0 (some_same _ _ ptr.1) (IsTyped-ptr name.0 folded)
          | inr none ↦ absurd (no_value none.1)
        ]
      ]
    ]
  where
    of_number : (k : ℕ) (d : Data) → (number == k) ≡ true → d ≡ rdata → IsTyped (k, d) → IsTyped (number, rdata)
    of_number k d same data_is typed = subst (λ n. IsTyped (n, rdata)) (sym ((Decides-eqb number k).0 same)) (subst (λ d. IsTyped (k, d)) data_is typed)

-- data of the form that a type has
IsTyped-form_data_of : (origin : List (List ℕ)) (number : ℕ) (words : List Word) (rdata : Data) → IsFolded origin → form_data_of origin number words ≡ Some rdata → IsTyped (number, rdata)
unfolding form_data_of
IsTyped-form_data_of origin number words rdata above is =
    elim (chosen (number == 1) _ _ rdata is) [
      | inl a ↦ of_number 1 a.0 (IsTyped-a_of words rdata a.1)
      | inr others ↦ elim (chosen (number == 28) _ _ rdata others.1) [
        | inl aaaa ↦ of_number 28 aaaa.0 (IsTyped-aaaa_of words rdata aaaa.1)
        | inr others ↦ elim (chosen (number == 15) _ _ rdata others.1) [
          | inl mx ↦ of_number 15 mx.0 (IsTyped-mx_of origin words rdata above mx.1)
          | inr others ↦ elim (chosen (number == 33) _ _ rdata others.1) [
            | inl srv ↦ of_number 33 srv.0 (IsTyped-srv_of origin words rdata above srv.1)
            | inr others ↦ elim (chosen (number == 6) _ _ rdata others.1) [
              | inl soa ↦ of_number 6 soa.0 (IsTyped-soa_of origin words rdata above soa.1)
              | inr others ↦ elim (chosen (number == 16) _ _ rdata others.1) [
                | inl txt ↦ of_number 16 txt.0 (IsTyped-txt_of words rdata txt.1)
                | inr names ↦ IsTyped-name_data_of origin number words rdata above names.1
              ]
            ]
          ]
        ]
      ]
    ]
  where
    of_number : (k : ℕ) → (number == k) ≡ true → IsTyped (k, rdata) → IsTyped (number, rdata)
    of_number k same typed = subst (λ n. IsTyped (n, rdata)) (sym ((Decides-eqb number k).0 same)) typed

-- a number that a word writes is below 2^16
short_number : (word : Word) (number : ℕ) → word_short word ≡ Some number → number ≤ 65535
unfolding word_short
short_number word number is =
    let whole = taken (word_number word) (λ whole. if nat_lt 65535 whole then None else Some whole) number is in
    elim (chosen (nat_lt 65535 whole.0) None (Some whole.0) number whole.2) [
      | inl long ↦ absurd (no_value long.1)
      | inr short ↦ subst (λ n. n ≤ 65535) (some_same _ _ short.1) (at_most 65535 whole.0 short.0)
    ]

-- bytes of a number that is not 0
both : (same some : Bool) → (same && some) ≡ true → (same ≡ true) × (some ≡ true)
both true true is = (refl, refl)
both true false is = absurd cc
both false some is = absurd cc

some_below : (size : ℕ) → nat_lt 0 size ≡ true → 0 < size
some_below size is = grind arith

-- data in the general form, whose names are made small
IsTyped-small : (number : ℕ) (rdata : Data) → is_meta number ≡ false → IsWhole number rdata → IsTyped (number, fold_data rdata)
IsTyped-small number rdata plain whole =
    let one : Record = record { name = []; rtype = number; class = 1; ttl = 0; rdata = rdata } in
    record {
      plain = plain;
      form = form_folded one whole.form;
      filled = omega (arith, length_folded rdata, whole.filled);
      short = omega (arith, length_folded rdata, whole.short);
      names = ap (λ (r : Record). r.rdata) (fold_record-fold_record one);
    }

IsTyped-sized_bytes : (number size : ℕ) (digits : List ℕ) (rdata : Data) → is_meta number ≡ false → size ≤ 65535 → sized_bytes number size digits ≡ Some rdata → IsTyped (number, rdata)
IsTyped-sized_bytes number size digits rdata plain short is =
    let bytes = taken _ (λ bytes. if (length bytes == size) && nat_lt 0 size then in_small_letters (typed_data number bytes) else None) rdata is in
    elim (chosen ((length bytes.0 == size) && nat_lt 0 size) (in_small_letters (typed_data number bytes.0)) None rdata bytes.2) [
      | inl whole ↦
          let parts = both (length bytes.0 == size) (nat_lt 0 size) whole.0 in
          let same : length bytes.0 ≡ size = (Decides-eqb (length bytes.0) size).0 parts.0 in
          let some : 0 < length bytes.0 = omega (arith, same, some_below size parts.1) in
          let found = taken (typed_data number bytes.0) (λ found. Some (fold_data found)) rdata whole.1 in
          let read = typed_data-whole number bytes.0 found.0 some (omega (arith, same, short)) found.1 in
          subst (λ rdata. IsTyped (number, rdata)) (some_same _ _ found.2) (IsTyped-small number found.0 plain read)
      | inr none ↦ absurd (no_value none.1)
    ]

IsTyped-general_of : (number : ℕ) (words : List Word) (rdata : Data) → is_meta number ≡ false → general_of number words ≡ Some rdata → IsTyped (number, rdata)
unfolding general_of
IsTyped-general_of number [] rdata plain is = absurd cc
IsTyped-general_of number (mark ∷ []) rdata plain is = absurd cc
IsTyped-general_of number (mark ∷ size ∷ words) rdata plain is =
    elim (chosen (is_general mark) (word_short size >>= λ size. joined [] words >>= λ digits. sized_bytes number size digits) None rdata is) [
      | inl general ↦
          let size_is = taken (word_short size) (λ size. joined [] words >>= λ digits. sized_bytes number size digits) rdata general.1 in
          let digits = taken (joined [] words) (sized_bytes number size_is.0) rdata size_is.2 in
          IsTyped-sized_bytes number size_is.0 digits.0 rdata plain (short_number size size_is.0 size_is.1) digits.2
      | inr none ↦ absurd (no_value none.1)
    ]

-- a type that is written by its number is no meta type
abbrev pub IsWritten : WrittenType → Type 0
IsWritten type = type.by_number ≡ true → is_meta type.number ≡ false

pub IsTyped-data_of : (origin : List (List ℕ)) (type : WrittenType) (words : List Word) (rdata : Data) → IsFolded origin → IsWritten type → data_of origin type words ≡ Some rdata → IsTyped (type.number, rdata)
unfolding data_of
IsTyped-data_of origin type words rdata above written is = by_form type.by_number refl is
  where
    by_form : (by_number : Bool) → type.by_number ≡ by_number → (if by_number then general_of type.number words else form_data_of origin type.number words) ≡ Some rdata → IsTyped (type.number, rdata)
    by_form false named is = IsTyped-form_data_of origin type.number words rdata above is
    by_form true numbered is = IsTyped-general_of type.number words rdata (written numbered) is

IsWritten-numbered : (word : Word) (number : ℕ) → numbered_type word ≡ Some number → is_meta number ≡ false
unfolding numbered_type
IsWritten-numbered word number is =
    let text = taken (plain_text word) _ number is in
    let read = taken (number_behind_type text.0) (λ read. if is_meta_type read then None else Some read) number text.2 in
    elim (chosen (is_meta_type read.0) None (Some read.0) number read.2) [
      | inl meta ↦ absurd (no_value meta.1)
      | inr plain ↦ subst (λ n. is_meta n ≡ false) (some_same _ _ plain.1) plain.0
    ]

pub IsWritten-type_of : (word : Word) (type : WrittenType) → type_of word ≡ Some type → IsWritten type
unfolding type_of
IsWritten-type_of word type is = by_name (named_type word) is
  where
    by_name : (named : Option ℕ) → typed named (numbered_type word) ≡ Some type → IsWritten type
    by_name (Some number) is =
        let same : record { number = number; by_number = false } ≡ type = some_same _ _ is in
        subst IsWritten same (λ numbered. absurd cc)
    by_name None is =
        let number = taken (numbered_type word) (λ number. Some (record { number = number; by_number = true })) type is in
        let same : record { number = number.0; by_number = true } ≡ type = some_same _ _ number.2 in
        subst IsWritten same (λ numbered. IsWritten-numbered word number.0 number.1)
