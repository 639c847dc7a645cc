-- The records that a script's lines write are of their types, and none is an OPT: so they read as themselves where they are written.
use Rattle.std.proofs.Common.{◌≡◌, ℕ, zero, suc, ◌+◌, ◌%◌, Bool, true, false, ◌==◌, ◌||◌, List, [], ◌∷◌, ◌++◌, length, drop, Option, Some, None, Result, Ok, Err, IfOk, refl, sym, ap, subst, ◌∙◌, lit<}
use Rattle.std.specs.Prelude.{if◌then◌else◌}
use Rattle.std.specs.List.{AllByRecursion, filter_map}
use Rattle.std.specs.Str.{bytes_eq}
use lib.Chars.{codes}
use Rattle.dns_wire.specs.declared.record.Record.{Record}
use Rattle.dns_wire.specs.declared.record_type.TheConstants as record_type
use Rattle.dns_wire.specs.declared.class.TheConstants as class
use Rattle.dns_wire.specs.Messages.{is_opt}
use Rattle.dns_wire.specs.ReadBack.{IsOfItsType, IsPlain}
use Rattle.dns_presentation.specs.declared.data_text.WrittenType.{WrittenType}
use Rattle.dns_presentation.specs.Words.{Word}
use Rattle.dns_presentation.specs.Values.{is_word}
use Rattle.dns_presentation.specs.DataText.{named_type, numbered_type, typed, type_of}
use Rattle.dns_zone.specs.declared.zone_text.ZoneTextKind.{ZoneTextKind}
use Rattle.dns_zone.proofs.Readings.{IsRead, taken, some_same, IsWritten-type_of}
use Rattle.dns_update_script.specs.declared.fault.ScriptKind.{ScriptKind}
use Rattle.dns_update_script.specs.declared.fault.ScriptKind.TheVariants as kind
use Rattle.dns_update_script.specs.declared.fault.ScriptFault.{ScriptFault}
use Rattle.dns_update_script.specs.declared.line.Line.{Line}
use Rattle.dns_update_script.specs.declared.line.Line.TheVariants.{Nothing, Zone, Prerequisite, Change, Send}
use Rattle.dns_update_script.specs.declared.script.Sending.{Sending}
use Rattle.dns_update_script.specs.Words.{words_of, from_word, behind_word}
use Rattle.dns_update_script.specs.Entry.{entry_in}
use Rattle.dns_update_script.specs.Line.{◌>>=◌, name_in, number_in, type_in, bare, of_name, of_set, or_entry, entry_with, of_record, name_is, set_exists, set_lacks, prerequisite_of, added, deleted, change_of, begun, zone_line, send_line, command_of, is_comment, worded, line_of}
use Rattle.dns_update_script.specs.Script.{prerequisite_in, change_in, last_zone, unsent, sending_to, sending_behind, first_unsent, ended, at_line, before, sent, sendings_from}
use Rattle.dns_update_script.specs.Meant.{update_of, meant_by}
use Rattle.dns_update_script.proofs.EntryRecords.{entry_in-read}
use Rattle.dns_update_script.specs.Plain.{IsPlainRecord, IsPlainLine, IsPlainSending, ArePlain}

-- a type that may stand in a zone is not that of an OPT
not_opt : (none opt other : Bool) → (none || (opt || other)) ≡ false → opt ≡ false
not_opt true opt other is = absurd cc
not_opt false true other is = absurd cc
not_opt false false other is = refl

IsPlainRecord-read : (r : Record) → IsRead r → IsPlainRecord r
IsPlainRecord-read r read = record { form = read.form; no_opt = not_opt (r.rtype == 0) (r.rtype == 41) _ read.plain }

-- where a value is found, this holds of it
IfOk-if : {X : Type 0} (P : X → Type 0) (test : Bool) (first second : Result X ScriptKind) → IfOk first P → IfOk second P → IfOk (if test then first else second) P
IfOk-if P true first second a b = a
IfOk-if P false first second a b = b

IfOk-if_two : {X : Type 0} (P : X → Type 0) (s t : Bool) (a b c : Result X ScriptKind) → IfOk a P → IfOk b P → IfOk c P → IfOk (if s then a else if t then b else c) P
IfOk-if_two P true t a b c ha hb hc = ha
IfOk-if_two P false true a b c ha hb hc = hb
IfOk-if_two P false false a b c ha hb hc = hc

IfOk-if_four : {X : Type 0} (P : X → Type 0) (s t u v : Bool) (a b c d e : Result X ScriptKind) → IfOk a P → IfOk b P → IfOk c P → IfOk d P → IfOk e P → IfOk (if s then a else if t then b else if u then c else if v then d else e) P
IfOk-if_four P true t u v a b c d e ha hb hc hd he = ha
IfOk-if_four P false true u v a b c d e ha hb hc hd he = hb
IfOk-if_four P false false u v a b c d e ha hb hc hd he = IfOk-if_two P u v c d e hc hd he

IfOk-bind : {X Y : Type 0} (Q : X → Type 0) (P : Y → Type 0) (found : Result X ScriptKind) (next : X → Result Y ScriptKind) → IfOk found Q → ((x : X) → Q x → IfOk (next x) P) → IfOk (found >>= next) P
IfOk-bind Q P (Ok x) next held more = more x held
IfOk-bind Q P (Err wrong) next held more = tt

IfOk-any : {X Y : Type 0} (P : Y → Type 0) (found : Result X ScriptKind) (next : X → Result Y ScriptKind) → ((x : X) → IfOk (next x) P) → IfOk (found >>= next) P
IfOk-any P (Ok x) next more = more x
IfOk-any P (Err wrong) next more = tt

-- a type that is written by its name
named : (test : Bool) (n m : ℕ) (others : Option ℕ) → (n == 41) ≡ false → (others ≡ Some m → (m == 41) ≡ false) → (if test then Some n else others) ≡ Some m → (m == 41) ≡ false
named true n m others plain more is = let same : n ≡ m = cc in subst (λ k. (k == 41) ≡ false) same plain
named false n m others plain more is = more is

named_type-plain : (word : Word) (m : ℕ) → named_type word ≡ Some m → (m == 41) ≡ false
named_type-plain word m =
    named (is_word (codes "A") word) record_type.A m _ refl
    (named (is_word (codes "NS") word) record_type.NS m _ refl
    (named (is_word (codes "CNAME") word) record_type.CNAME m _ refl
    (named (is_word (codes "SOA") word) record_type.SOA m _ refl
    (named (is_word (codes "PTR") word) record_type.PTR m _ refl
    (named (is_word (codes "MX") word) record_type.MX m _ refl
    (named (is_word (codes "TXT") word) record_type.TXT m _ refl
    (named (is_word (codes "AAAA") word) record_type.AAAA m _ refl
    (named (is_word (codes "SRV") word) record_type.SRV m None refl (λ none. absurd cc)))))))))

type_of-plain : (word : Word) (type : WrittenType) → type_of word ≡ Some type → (type.number == 41) ≡ false
unfolding type_of
type_of-plain word type is = by_name (named_type word) refl is
  where
    by_name : (name : Option ℕ) → named_type word ≡ name → typed name (numbered_type word) ≡ Some type → (type.number == 41) ≡ false
    by_name (Some number) found is =
        let same : record { number = number; by_number = false } ≡ type = cc in
        subst (λ (type : WrittenType). (type.number == 41) ≡ false) same (named_type-plain word number found)
    by_name None found is =
        let number = taken (numbered_type word) (λ number. Some (record { number = number; by_number = true })) type is in
        let same : record { number = number.0; by_number = true } ≡ type = some_same _ _ number.2 in
        let whole : type_of word ≡ Some type = ap (λ name. typed name (numbered_type word)) found ∙ is in
        not_opt (type.number == 0) (type.number == 41) _ (IsWritten-type_of word type whole (sym (ap (λ (type : WrittenType). type.by_number) same)))

IfOk-type_in : (word : List ℕ) → IfOk (type_in word) (λ n. (n == 41) ≡ false)
IfOk-type_in word = by_type (type_of (record { quoted = false; text = word })) refl
  where
    by_type : (type : Option WrittenType) → type_of (record { quoted = false; text = word }) ≡ type → IfOk (number_in type) (λ n. (n == 41) ≡ false)
    by_type None is = tt
    by_type (Some type) is = type_of-plain (record { quoted = false; text = word }) type is

-- records without data
IsPlainRecord-bare : (class type : ℕ) (name : List (List ℕ)) → (type == 41) ≡ false → IsPlainRecord (bare class type name)
IsPlainRecord-bare class type name plain = record { form = rw plain refl; no_opt = plain }

IfOk-of_name : (class : ℕ) (word : List ℕ) → IfOk (of_name class word) IsPlainRecord
unfolding of_name
IfOk-of_name class word = IfOk-any IsPlainRecord (name_in word) (λ name. Ok (bare class record_type.ANY name)) (λ name. IsPlainRecord-bare class record_type.ANY name refl)

IfOk-of_set : (class : ℕ) (word other : List ℕ) → IfOk (of_set class word other) IsPlainRecord
unfolding of_set
IfOk-of_set class word other =
    IfOk-any IsPlainRecord (name_in word) _ (λ name. IfOk-bind (λ n. (n == 41) ≡ false) IsPlainRecord (type_in other) (λ type. Ok (bare class type name)) (IfOk-type_in other) (λ type plain. IsPlainRecord-bare class type name plain))

-- records of entries
IfOk-entry_with : (ttl : Option ℕ) (text : List ℕ) → IfOk (entry_with ttl text) IsPlainRecord
IfOk-entry_with ttl text = by_found (entry_in [] ttl text) refl
  where
    by_found : (found : Result Record ZoneTextKind) → entry_in [] ttl text ≡ found → IfOk (or_entry found) IsPlainRecord
    by_found (Ok r) is = IsPlainRecord-read r (entry_in-read ttl text r is)
    by_found (Err wrong) is = tt

IfOk-of_record : (class : ℕ) (text : List ℕ) → IfOk (of_record class text) IsPlainRecord
unfolding of_record
IfOk-of_record class text =
    IfOk-bind IsPlainRecord IsPlainRecord (entry_with (Some 0) text) (λ r. Ok (record r { class = class; ttl = 0 })) (IfOk-entry_with (Some 0) text) (λ r plain. record { form = plain.form; no_opt = plain.no_opt })

-- prerequisites
IfOk-name_is : (class : ℕ) (words : List (List ℕ)) → IfOk (name_is class words) IsPlainRecord
IfOk-name_is class [] = tt
IfOk-name_is class (name ∷ []) = IfOk-of_name class name
IfOk-name_is class (name ∷ word ∷ words) = tt

IfOk-set_exists : (words : List (List ℕ)) (text : List ℕ) → IfOk (set_exists words text) IsPlainRecord
IfOk-set_exists [] text = tt
IfOk-set_exists (name ∷ []) text = tt
IfOk-set_exists (name ∷ type ∷ []) text = IfOk-of_set class.ANY name type
IfOk-set_exists (name ∷ type ∷ word ∷ words) text = IfOk-of_record class.IN text

IfOk-set_lacks : (words : List (List ℕ)) → IfOk (set_lacks words) IsPlainRecord
IfOk-set_lacks [] = tt
IfOk-set_lacks (name ∷ []) = tt
IfOk-set_lacks (name ∷ type ∷ []) = IfOk-of_set class.NONE name type
IfOk-set_lacks (name ∷ type ∷ word ∷ words) = tt

IfOk-prerequisite_of : (word rest : List ℕ) → IfOk (prerequisite_of word rest) IsPlainRecord
unfolding prerequisite_of
IfOk-prerequisite_of word rest =
    IfOk-if_four IsPlainRecord (bytes_eq word (codes "yxdomain")) (bytes_eq word (codes "nxdomain")) (bytes_eq word (codes "yxrrset")) (bytes_eq word (codes "nxrrset"))
    (name_is class.ANY (words_of rest)) (name_is class.NONE (words_of rest)) (set_exists (words_of rest) (from_word rest)) (set_lacks (words_of rest)) (Err kind.Word)
    (IfOk-name_is class.ANY (words_of rest)) (IfOk-name_is class.NONE (words_of rest)) (IfOk-set_exists (words_of rest) (from_word rest)) (IfOk-set_lacks (words_of rest)) tt

-- changes
IfOk-added : (words : List (List ℕ)) (text : List ℕ) → IfOk (added words text) IsPlainRecord
IfOk-added [] text = tt
IfOk-added (word ∷ words) text = IfOk-entry_with None text

IfOk-deleted : (words : List (List ℕ)) (text : List ℕ) → IfOk (deleted words text) IsPlainRecord
IfOk-deleted [] text = tt
IfOk-deleted (name ∷ []) text = IfOk-of_name class.ANY name
IfOk-deleted (name ∷ type ∷ []) text = IfOk-of_set class.ANY name type
IfOk-deleted (name ∷ type ∷ word ∷ words) text = IfOk-of_record class.NONE text

IfOk-change_of : (word rest : List ℕ) → IfOk (change_of word rest) IsPlainRecord
unfolding change_of
IfOk-change_of word rest =
    IfOk-if_two IsPlainRecord (bytes_eq word (codes "add")) (bytes_eq word (codes "delete")) (added (words_of rest) (from_word rest)) (deleted (words_of rest) (from_word rest)) (Err kind.Word)
    (IfOk-added (words_of rest) (from_word rest)) (IfOk-deleted (words_of rest) (from_word rest)) tt

IfOk-begun : (by : List ℕ → List ℕ → Result Record ScriptKind) → ((word rest : List ℕ) → IfOk (by word rest) IsPlainRecord) → (words : List (List ℕ)) (rest : List ℕ) → IfOk (begun by words rest) IsPlainRecord
IfOk-begun by each [] rest = tt
IfOk-begun by each (word ∷ words) rest = each word (behind_word rest)

-- lines
IfOk-zone_line : (words : List (List ℕ)) → IfOk (zone_line words) IsPlainLine
IfOk-zone_line [] = tt
IfOk-zone_line (name ∷ []) = IfOk-any IsPlainLine (name_in name) (λ zone. Ok (Zone zone)) (λ zone. tt)
IfOk-zone_line (name ∷ word ∷ words) = tt

IfOk-send_line : (words : List (List ℕ)) → IfOk (send_line words) IsPlainLine
IfOk-send_line [] = tt
IfOk-send_line (word ∷ words) = tt

IfOk-command_of : (word rest : List ℕ) → IfOk (command_of word rest) IsPlainLine
unfolding command_of
IfOk-command_of word rest =
    IfOk-if_four IsPlainLine (bytes_eq word (codes "zone")) (bytes_eq word (codes "send")) (bytes_eq word (codes "prereq")) (bytes_eq word (codes "update"))
    (zone_line (words_of rest)) (send_line (words_of rest)) (begun prerequisite_of (words_of rest) rest >>= λ r. Ok (Prerequisite r)) (begun change_of (words_of rest) rest >>= λ r. Ok (Change r)) (change_of word rest >>= λ r. Ok (Change r))
    (IfOk-zone_line (words_of rest))
    (IfOk-send_line (words_of rest))
    (IfOk-bind IsPlainRecord IsPlainLine (begun prerequisite_of (words_of rest) rest) (λ r. Ok (Prerequisite r)) (IfOk-begun prerequisite_of IfOk-prerequisite_of (words_of rest) rest) (λ r plain. plain))
    (IfOk-bind IsPlainRecord IsPlainLine (begun change_of (words_of rest) rest) (λ r. Ok (Change r)) (IfOk-begun change_of IfOk-change_of (words_of rest) rest) (λ r plain. plain))
    (IfOk-bind IsPlainRecord IsPlainLine (change_of word rest) (λ r. Ok (Change r)) (IfOk-change_of word rest) (λ r plain. plain))

IfOk-worded : (words : List (List ℕ)) (rest : List ℕ) → IfOk (worded words rest) IsPlainLine
IfOk-worded [] rest = tt
IfOk-worded (word ∷ words) rest = IfOk-command_of word rest

IfOk-line_of : (line : List ℕ) → IfOk (line_of line) IsPlainLine
IfOk-line_of line = IfOk-if IsPlainLine (is_comment line) (Ok Nothing) (worded (words_of line) (behind_word line)) tt (IfOk-worded (words_of line) (behind_word line))

-- lists of lines
All-drop : {X : Type 0} (P : X → Type 0) (n : ℕ) (xs : List X) → AllByRecursion P xs → AllByRecursion P (drop n xs)
All-drop P zero xs all = all
All-drop P (suc n) [] all = all
All-drop P (suc n) (x ∷ xs) all = All-drop P n xs all.1

All-more : {X : Type 0} (P : X → Type 0) (xs : List X) (x : X) → AllByRecursion P xs → P x → AllByRecursion P (xs ++ x ∷ [])
All-more P [] x all one = (one, tt)
All-more P (y ∷ xs) x all one = (all.0, All-more P xs x all.1 one)

All-each : {X : Type 0} (P Q : X → Type 0) → ((x : X) → P x → Q x) → (xs : List X) → AllByRecursion P xs → AllByRecursion Q xs
All-each P Q each [] all = tt
All-each P Q each (x ∷ xs) all = (each x all.0, All-each P Q each xs all.1)

ArePlain-prerequisites : (lines : List Line) → AllByRecursion IsPlainLine lines → AllByRecursion IsPlainRecord (filter_map prerequisite_in lines)
ArePlain-prerequisites [] all = tt
ArePlain-prerequisites (Nothing ∷ lines) all = ArePlain-prerequisites lines all.1
ArePlain-prerequisites (Zone name ∷ lines) all = ArePlain-prerequisites lines all.1
ArePlain-prerequisites (Prerequisite r ∷ lines) all = (all.0, ArePlain-prerequisites lines all.1)
ArePlain-prerequisites (Change r ∷ lines) all = ArePlain-prerequisites lines all.1
ArePlain-prerequisites (Send ∷ lines) all = ArePlain-prerequisites lines all.1

ArePlain-changes : (lines : List Line) → AllByRecursion IsPlainLine lines → AllByRecursion IsPlainRecord (filter_map change_in lines)
ArePlain-changes [] all = tt
ArePlain-changes (Nothing ∷ lines) all = ArePlain-changes lines all.1
ArePlain-changes (Zone name ∷ lines) all = ArePlain-changes lines all.1
ArePlain-changes (Prerequisite r ∷ lines) all = ArePlain-changes lines all.1
ArePlain-changes (Change r ∷ lines) all = (all.0, ArePlain-changes lines all.1)
ArePlain-changes (Send ∷ lines) all = ArePlain-changes lines all.1

-- sendings
IfOk-sending_to : (zone : Option (List (List ℕ))) (lines : List Line) → AllByRecursion IsPlainLine lines → IfOk (sending_to zone lines) IsPlainSending
IfOk-sending_to None lines all = tt
IfOk-sending_to (Some zone) lines all = record { prerequisites = ArePlain-prerequisites lines all; changes = ArePlain-changes lines all }

IfOk-at_line : {X : Type 0} (Q : X → Type 0) (number : ℕ) (found : Result X ScriptKind) (more : X → Result (List Sending) ScriptFault) → IfOk found Q → ((x : X) → Q x → IfOk (more x) ArePlain) → IfOk (at_line number found more) ArePlain
IfOk-at_line Q number (Ok x) more held each = each x held
IfOk-at_line Q number (Err wrong) more held each = tt

IfOk-before : (sending : Sending) (more : Result (List Sending) ScriptFault) → IsPlainSending sending → IfOk more ArePlain → IfOk (before sending more) ArePlain
IfOk-before sending (Ok sendings) one all = (one, all)
IfOk-before sending (Err fault) one all = tt

IfOk-sent : (front : List Line) (said : Line) (more : Result (List Sending) ScriptFault) → AllByRecursion IsPlainLine front → IfOk more ArePlain → IfOk (sent front said more) ArePlain
IfOk-sent front Nothing more all rest = rest
IfOk-sent front (Zone name) more all rest = rest
IfOk-sent front (Prerequisite r) more all rest = rest
IfOk-sent front (Change r) more all rest = rest
IfOk-sent front Send more all rest =
    IfOk-at_line IsPlainSending (length front + 1) (sending_behind front) (λ sending. before sending more) (IfOk-sending_to (last_zone front) (unsent front) (All-drop IsPlainLine _ front all)) (λ sending plain. IfOk-before sending more plain rest)

IfOk-ended : (first : Option ℕ) → IfOk (ended first) ArePlain
IfOk-ended None = tt
IfOk-ended (Some line) = tt

IfOk-sendings_from : (front : List Line) (lines : List (List ℕ)) → AllByRecursion IsPlainLine front → IfOk (sendings_from front lines) ArePlain
IfOk-sendings_from front [] all = IfOk-ended (first_unsent front)
IfOk-sendings_from front (line ∷ lines) all =
    IfOk-at_line IsPlainLine (length front + 1) (line_of line) (λ said. sent front said (sendings_from (front ++ said ∷ []) lines)) (IfOk-line_of line)
    (λ said plain. IfOk-sent front said (sendings_from (front ++ said ∷ []) lines) all (IfOk-sendings_from (front ++ said ∷ []) lines (All-more IsPlainLine front said all plain)))

pub ArePlain-script : (lines : List (List ℕ)) (sendings : List Sending) → sendings_from [] lines ≡ Ok sendings → ArePlain sendings
ArePlain-script lines sendings is = subst (λ (found : Result (List Sending) ScriptFault). IfOk found ArePlain) is (IfOk-sendings_from [] lines tt)

-- messages
IsPlain-update_of : (sending : Sending) (id : ℕ) → IsPlainSending sending → IsPlain (update_of sending id)
IsPlain-update_of sending id plain = record {
  opcode = lit< tt;
  code = lit< tt;
  answers = All-each IsPlainRecord IsOfItsType (λ r one. one.form) sending.prerequisites plain.prerequisites;
  authority = All-each IsPlainRecord IsOfItsType (λ r one. one.form) sending.changes plain.changes;
  additional = tt;
  answers_plain = All-each IsPlainRecord (λ r. is_opt r ≡ false) (λ r one. one.no_opt) sending.prerequisites plain.prerequisites;
  authority_plain = All-each IsPlainRecord (λ r. is_opt r ≡ false) (λ r one. one.no_opt) sending.changes plain.changes;
  additional_plain = tt;
}

pub IsPlain-meant_by : (sendings : List Sending) (id : ℕ) → ArePlain sendings → AllByRecursion IsPlain (meant_by sendings id)
IsPlain-meant_by [] id all = tt
IsPlain-meant_by (sending ∷ sendings) id all = (IsPlain-update_of sending (id % 65536) all.0, IsPlain-meant_by sendings (id + 1) all.1)
