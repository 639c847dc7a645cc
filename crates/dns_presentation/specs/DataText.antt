-- The data of records in a zone's text, by type (RFC 1035 5.1, 3.3, 3.4; RFC 3596 2.4; RFC 2782; RFC 3597 5).
use Rattle.std.specs.Prelude.{ℕ, ◌+◌, ◌∷◌, [], ◌++◌, nat_lt, nat_le, Bool, true, false, not, ◌==◌, ◌&&◌, ◌||◌, if◌then◌else◌, List, length, take, drop, Option, Some, None}
use Rattle.std.specs.Result.{result_ok}
use Rattle.std.specs.Str.{str_eq_ignore_ascii_case, bytes_eq}
use Rattle.hex.specs.Hex.{decode_of}
use lib.Chars.{codes}
use Rattle.dns_wire.specs.declared.rdata.Data.{Data}
use Rattle.dns_wire.specs.declared.rdata.Data.TheVariants.{A, Aaaa, Ns, Cname, Ptr, Mx, Srv, Soa, Txt}
use Rattle.dns_wire.specs.declared.record_type.TheConstants as record_type
use Rattle.dns_wire.specs.Texts.{texts_bytes}
use Rattle.dns_presentation.specs.declared.data_text.WrittenType.{WrittenType}
use Rattle.dns_presentation.specs.Lines.{parts_of}
use Rattle.dns_presentation.specs.Words.{Word}
use Rattle.dns_wire.specs.Folds.{fold_data}
use Rattle.dns_presentation.specs.TypedData.{typed_data}
use Rattle.dns_presentation.specs.Values.{◌>>=◌, plain_text, is_word, number_of, number_up_to, seconds_of, name_in, string_of, address_from, wide_address_of}

-- the number below 2^32 that a word writes
unfoldable pub word_number : Word → Option ℕ
word_number word = plain_text word >>= λ text. number_of text

-- the number below 2^16 that a word writes
unfoldable pub word_short : Word → Option ℕ
word_short word = word_number word >>= λ number. if nat_lt 65535 number then None else Some number

-- the time in seconds that a word writes
unfoldable pub word_seconds : Word → Option ℕ
word_seconds word = plain_text word >>= λ text. seconds_of text

-- the name that a word writes under this origin
unfoldable pub word_name : List (List ℕ) → Word → Option (List (List ℕ))
word_name origin word = plain_text word >>= λ text. name_in origin text

-- the one word of a list
unfoldable pub only_word : List Word → Option Word
only_word (word ∷ []) = Some word
only_word words = None

-- the name that the one word writes
unfoldable pub only_name : List (List ℕ) → List Word → Option (List (List ℕ))
only_name origin words = only_word words >>= λ word. word_name origin word

-- the time that the one word writes
unfoldable pub only_seconds : List Word → Option ℕ
only_seconds words = only_word words >>= λ word. word_seconds word

-- the data of an A record (RFC 1035 3.4.1)
unfoldable pub a_of : List Word → Option Data
a_of words = do
  word ← only_word words
  text ← plain_text word
  address ← address_from (parts_of 46 text)
  Some (A address)

-- the data of an AAAA record (RFC 3596 2.4)
unfoldable pub aaaa_of : List Word → Option Data
aaaa_of words = do
  word ← only_word words
  text ← plain_text word
  address ← wide_address_of text
  Some (Aaaa address)

-- the data of an MX record (RFC 1035 3.3.9)
unfoldable pub mx_of : List (List ℕ) → List Word → Option Data
mx_of origin (preference ∷ words) = do
  number ← word_short preference
  exchange ← only_name origin words
  Some (Mx number exchange)
mx_of origin words = None

-- the data of an SRV record (RFC 2782)
unfoldable pub srv_of : List (List ℕ) → List Word → Option Data
srv_of origin (priority ∷ weight ∷ port ∷ words) = do
  a ← word_short priority
  b ← word_short weight
  c ← word_short port
  target ← only_name origin words
  Some (Srv a b c target)
srv_of origin words = None

-- the times of an SOA: refresh, retry, expire and minimum
unfoldable pub times_of : List Word → Option (ℕ × ℕ × ℕ × ℕ)
times_of (refresh ∷ retry ∷ expire ∷ minimum ∷ []) = do
  a ← word_seconds refresh
  b ← word_seconds retry
  c ← word_seconds expire
  d ← word_seconds minimum
  Some (a, b, c, d)
times_of words = None

-- the data of an SOA (RFC 1035 3.3.13)
unfoldable pub soa_of : List (List ℕ) → List Word → Option Data
soa_of origin (primary ∷ mailbox ∷ version ∷ words) = do
  mname ← word_name origin primary
  rname ← word_name origin mailbox
  serial ← word_number version
  times ← times_of words
  Some (Soa serial mname rname times.0 times.1 times.2 times.3)
soa_of origin words = None

-- a string that may come behind others: of at most 255 bytes, and with them of at most 65,535 bytes of data
abbrev pub is_too_long : List (List ℕ) → List ℕ → Bool
is_too_long strings string = nat_lt 255 (length string) || nat_lt 65535 (length (texts_bytes strings) + (length string + 1))

-- the strings of words, behind others
abbrev pub strings_from : List (List ℕ) → List Word → Option (List (List ℕ))
strings_from strings [] = Some strings
strings_from strings (word ∷ words) = string_of word.text >>= λ string. if is_too_long strings string then None else strings_from (strings ++ string ∷ []) words

-- the data of a TXT record: one string or more (RFC 1035 3.3.14)
unfoldable pub txt_of : List Word → Option Data
txt_of [] = None
txt_of (word ∷ words) = strings_from [] (word ∷ words) >>= λ strings. Some (Txt strings)

-- the texts of words one after another behind others, none of them in quotes
abbrev pub joined : List ℕ → List Word → Option (List ℕ)
joined front [] = Some front
joined front (word ∷ words) = plain_text word >>= λ text. joined (front ++ text) words

-- data with its names in small letters
abbrev pub in_small_letters : Option Data → Option Data
in_small_letters rdata = rdata >>= λ found. Some (fold_data found)

-- the data of a type whose bytes hex digits write, if they are of this number, which is not 0
abbrev pub sized_bytes : ℕ → ℕ → List ℕ → Option Data
sized_bytes type size digits = result_ok (decode_of digits) >>= λ bytes. if (length bytes == size) && nat_lt 0 size then in_small_letters (typed_data type bytes) else None

-- the word that begins data of the general form: a backslash and a number sign
abbrev pub is_general : Word → Bool
is_general word = not word.quoted && bytes_eq word.text (92 ∷ 35 ∷ [])

-- data of the general form, at least one byte: that word, the number of bytes, and their hex digits, which may be parted
-- into words (RFC 3597 5)
unfoldable pub general_of : ℕ → List Word → Option Data
general_of type (mark ∷ size ∷ words) =
    if is_general mark then (do
      number ← word_short size
      digits ← joined [] words
      sized_bytes type number digits)
    else None
general_of type words = None

-- data that is a name alone
unfoldable pub name_data_of : List (List ℕ) → ℕ → List Word → Option Data
name_data_of origin number words = do
  name ← only_name origin words
  if number == record_type.NS then Some (Ns name) else if number == record_type.CNAME then Some (Cname name) else if number == record_type.PTR then Some (Ptr name) else None

-- data of the form that a type has
unfoldable pub form_data_of : List (List ℕ) → ℕ → List Word → Option Data
form_data_of origin number words =
    if number == record_type.A then a_of words
    else if number == record_type.AAAA then aaaa_of words
    else if number == record_type.MX then mx_of origin words
    else if number == record_type.SRV then srv_of origin words
    else if number == record_type.SOA then soa_of origin words
    else if number == record_type.TXT then txt_of words
    else name_data_of origin number words

-- the data of a type: a type that is written by its name has its own form, and one that is written by its number the
-- general form
unfoldable pub data_of : List (List ℕ) → WrittenType → List Word → Option Data
data_of origin type words =
    if type.by_number then general_of type.number words else form_data_of origin type.number words

-- a type that no record of a zone has: 0, OPT, and those that stand in questions and in messages (RFC 6895 3.1)
abbrev pub is_meta_type : ℕ → Bool
is_meta_type number = (number == 0) || ((number == record_type.OPT) || (nat_le 128 number && nat_le number 255))

-- a type that is written by its name, in capitals or not
abbrev pub named_type : Word → Option ℕ
named_type word =
    if is_word (codes "A") word then Some record_type.A
    else if is_word (codes "NS") word then Some record_type.NS
    else if is_word (codes "CNAME") word then Some record_type.CNAME
    else if is_word (codes "SOA") word then Some record_type.SOA
    else if is_word (codes "PTR") word then Some record_type.PTR
    else if is_word (codes "MX") word then Some record_type.MX
    else if is_word (codes "TXT") word then Some record_type.TXT
    else if is_word (codes "AAAA") word then Some record_type.AAAA
    else if is_word (codes "SRV") word then Some record_type.SRV
    else None

-- the number that a text writes behind `TYPE`, without leading zeros (RFC 3597 5)
abbrev pub number_behind_type : List ℕ → Option ℕ
number_behind_type text =
    if nat_lt (length text) 4 then None
    else if str_eq_ignore_ascii_case (take 4 text) (codes "TYPE") then number_up_to 65535 (drop 4 text)
    else None

-- a type that is written by its number
unfoldable pub numbered_type : Word → Option ℕ
numbered_type word = do
  text ← plain_text word
  number ← number_behind_type text
  if is_meta_type number then None else Some number

-- the type that a word writes
abbrev pub typed : Option ℕ → Option ℕ → Option WrittenType
typed (Some number) other = Some (record { number = number; by_number = false })
typed None other = other >>= λ number. Some (record { number = number; by_number = true })

unfoldable pub type_of : Word → Option WrittenType
type_of word = typed (named_type word) (numbered_type word)
