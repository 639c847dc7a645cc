-- Type and data are read as themselves.
use Rattle.std.proofs.Common.{◌≡◌, ℕ, ◌^◌, ◌<◌, ◌≤◌, Bool, true, false, ◌==◌, nat_lt, List, [], ◌∷◌, length, Some, refl, sym, subst, arith}
use Rattle.std.specs.Fmt.{decimal}
use Rattle.std.specs.List.{AllZip}
use Rattle.std.proofs.lemmas.Bool.Decides.{Decides-eqb}
use Rattle.hex.specs.Hex.{encode_lower}
use Rattle.dns_name.specs.Name.{IsName, fold_of}
use Rattle.dns_wire.specs.declared.rdata.Data.{Data}
use Rattle.dns_wire.specs.declared.rdata.Data.TheVariants.{A, Aaaa, Ns, Cname, Ptr, Mx, Srv, Soa, Txt, Opaque, Empty}
use Rattle.dns_wire.specs.declared.rdata.Form.TheVariants as form
use Rattle.dns_wire.specs.Forms.{form_of, variant_of}
use Rattle.dns_wire.specs.Texts.{texts_bytes, AreTexts}
use Rattle.dns_wire.specs.WireFormat.{data_bytes}
use Rattle.dns_wire.specs.ReadBack.{IsData}
use Rattle.dns_wire.specs.Folds.{fold_data}
use Rattle.dns_zone_map.specs.Zone.{is_meta}
use Rattle.dns_presentation.specs.Words.{Word}
use Rattle.dns_presentation.specs.TypedData.{typed_data}
use Rattle.dns_presentation.specs.DataText.{word_name, only_word, only_name, a_of, aaaa_of, mx_of, srv_of, times_of, soa_of, in_small_letters, sized_bytes, general_of, name_data_of, form_data_of, data_of}
use Rattle.dns_wire.specs.Kept.{AreBytes, AreOfBytes, IsDataOfBytes}
use Rattle.dns_printed.specs.Printed.{name_text, address_text, wide_address_text, data_words}
use Rattle.dns_printed.proofs.Spans.{Passes-pair, Writes, Writes-plain}
use Rattle.dns_printed.proofs.NameBack.{Writes-name}
use Rattle.dns_printed.proofs.AddressBack.{Writes-address, address_back}
use Rattle.dns_printed.proofs.WideBack.{Writes-wide_address, wide_address_back}
use Rattle.dns_printed.proofs.HexBack.{Writes-hex, hex_back}
use Rattle.dns_printed.proofs.WordsBack.{bare, Writes-decimal, word_number-decimal, word_short-decimal, word_seconds-decimal, word_name-back, only_name-back}
use Rattle.dns_printed.proofs.StringsBack.{string_words, Writes-strings, strings_read}
use Rattle.dns_printed.proofs.TypeBack.{IsTypeBack, IsTypeBack-numbered, IsTypeBack-a, IsTypeBack-ns, IsTypeBack-cname, IsTypeBack-soa, IsTypeBack-ptr, IsTypeBack-mx, IsTypeBack-txt, IsTypeBack-aaaa, IsTypeBack-srv, is_named, chosen_form, same_number}

-- the words of data are read as it, under whatever origin
pub record IsDataBack (number : ℕ) (by_number : Bool) (rdata : Data) : Type 0 where
  pub words : List Word
  pub writes : AllZip Writes (data_words rdata) words
  pub read : (origin : List (List ℕ)) → data_of origin (record { number = number; by_number = by_number }) words ≡ Some rdata

-- a name as data has it
record IsGoodName (labels : List (List ℕ)) : Type 0 where
  is : IsName labels
  bytes : AreOfBytes labels
  small : fold_of labels ≡ labels

writes_name : (labels : List (List ℕ)) → IsGoodName labels → Writes (name_text labels) (bare (name_text labels))
writes_name labels good = Writes-name labels good.is.each good.bytes

reads_name : (origin labels : List (List ℕ)) → IsGoodName labels → word_name origin (bare (name_text labels)) ≡ Some labels
reads_name origin labels good = word_name-back origin labels good.is good.bytes good.small

reads_only : (origin labels : List (List ℕ)) → IsGoodName labels → only_name origin (bare (name_text labels) ∷ []) ≡ Some labels
reads_only origin labels good = only_name-back origin labels good.is good.bytes good.small

data_a : (address : ℕ) → address < 2 ^ 32 → IsDataBack 1 false (A address)
unfolding data_of form_data_of a_of only_word
data_a address below = record {
  words = bare (address_text address) ∷ [];
  writes = (Writes-address address below, tt);
  read = λ origin. rw (address_back address below) refl;
}

data_aaaa : (address : ℕ) → address < 2 ^ 128 → IsDataBack 28 false (Aaaa address)
unfolding data_of form_data_of aaaa_of only_word
data_aaaa address below = record {
  words = bare (wide_address_text address) ∷ [];
  writes = (Writes-wide_address address below, tt);
  read = λ origin. rw (wide_address_back address below) refl;
}

data_ns : (host : List (List ℕ)) → IsGoodName host → IsDataBack 2 false (Ns host)
unfolding data_of form_data_of name_data_of
data_ns host good = record {
  words = bare (name_text host) ∷ [];
  writes = (writes_name host good, tt);
  read = λ origin. rw (reads_only origin host good) refl;
}

data_cname : (target : List (List ℕ)) → IsGoodName target → IsDataBack 5 false (Cname target)
unfolding data_of form_data_of name_data_of
data_cname target good = record {
  words = bare (name_text target) ∷ [];
  writes = (writes_name target good, tt);
  read = λ origin. rw (reads_only origin target good) refl;
}

data_ptr : (target : List (List ℕ)) → IsGoodName target → IsDataBack 12 false (Ptr target)
unfolding data_of form_data_of name_data_of
data_ptr target good = record {
  words = bare (name_text target) ∷ [];
  writes = (writes_name target good, tt);
  read = λ origin. rw (reads_only origin target good) refl;
}

data_mx : (preference : ℕ) (exchange : List (List ℕ)) → preference < 2 ^ 16 → IsGoodName exchange → IsDataBack 15 false (Mx preference exchange)
unfolding data_of form_data_of mx_of
data_mx preference exchange below good = record {
  words = bare (decimal preference) ∷ bare (name_text exchange) ∷ [];
  writes = (Writes-decimal preference (omega arith), (writes_name exchange good, tt));
  read = λ origin. rw (word_short-decimal preference below, reads_only origin exchange good) refl;
}

data_srv : (priority weight port : ℕ) (target : List (List ℕ)) → priority < 2 ^ 16 → weight < 2 ^ 16 → port < 2 ^ 16 → IsGoodName target → IsDataBack 33 false (Srv priority weight port target)
unfolding data_of form_data_of srv_of
data_srv priority weight port target first second third good = record {
  words = bare (decimal priority) ∷ bare (decimal weight) ∷ bare (decimal port) ∷ bare (name_text target) ∷ [];
  writes = (Writes-decimal priority (omega arith), (Writes-decimal weight (omega arith), (Writes-decimal port (omega arith), (writes_name target good, tt))));
  read = λ origin. rw (word_short-decimal priority first, word_short-decimal weight second, word_short-decimal port third, reads_only origin target good) refl;
}

data_soa : (mname rname : List (List ℕ)) (serial refresh retry expire minimum : ℕ) → IsGoodName mname → IsGoodName rname
    → serial < 2 ^ 32 → refresh < 2 ^ 32 → retry < 2 ^ 32 → expire < 2 ^ 32 → minimum < 2 ^ 32 → IsDataBack 6 false (Soa serial mname rname refresh retry expire minimum)
unfolding data_of form_data_of soa_of times_of
data_soa mname rname serial refresh retry expire minimum primary mailbox a b c d e = record {
  words = bare (name_text mname) ∷ bare (name_text rname) ∷ bare (decimal serial) ∷ bare (decimal refresh) ∷ bare (decimal retry) ∷ bare (decimal expire) ∷ bare (decimal minimum) ∷ [];
  writes = (writes_name mname primary, (writes_name rname mailbox, (Writes-decimal serial a, (Writes-decimal refresh b, (Writes-decimal retry c, (Writes-decimal expire d, (Writes-decimal minimum e, tt)))))));
  read = λ origin. rw (reads_name origin mname primary, reads_name origin rname mailbox, word_number-decimal serial a, word_seconds-decimal refresh b, word_seconds-decimal retry c, word_seconds-decimal expire d, word_seconds-decimal minimum e) refl;
}

data_txt : (texts : List (List ℕ)) → 0 < length (texts_bytes texts) → AreTexts texts → AreOfBytes texts → length (texts_bytes texts) ≤ 65535 → IsDataBack 16 false (Txt texts)
unfolding data_of form_data_of
data_txt texts some each bytes short = record {
  words = string_words texts;
  writes = Writes-strings texts bytes;
  read = λ origin. strings_read texts some each bytes short;
}

typed_back : (number : ℕ) (bytes : List ℕ) → form_of number (length bytes) ≡ form.Opaque → in_small_letters (typed_data number bytes) ≡ Some (Opaque bytes)
unfolding typed_data
typed_back number bytes is = rw is refl

sized_back : (number : ℕ) (bytes : List ℕ) → form_of number (length bytes) ≡ form.Opaque → 0 < length bytes → AreBytes bytes → sized_bytes number (length bytes) (encode_lower bytes) ≡ Some (Opaque bytes)
sized_back number bytes is some each =
    let same : (length bytes == length bytes) ≡ true = (Decides-eqb (length bytes) (length bytes)).1 refl in
    let filled : nat_lt 0 (length bytes) ≡ true = grind arith in
    rw (hex_back bytes each, same, filled) (typed_back number bytes is)

data_opaque : (number : ℕ) (bytes : List ℕ) → form_of number (length bytes) ≡ form.Opaque → 0 < length bytes → length bytes ≤ 65535 → AreBytes bytes → IsDataBack number true (Opaque bytes)
unfolding data_of general_of
data_opaque number bytes is some short each = record {
  words = bare (92 ∷ 35 ∷ []) ∷ bare (decimal (length bytes)) ∷ bare (encode_lower bytes) ∷ [];
  writes = (Writes-plain (92 ∷ 35 ∷ []) refl (Passes-pair 35 (omega arith)), (Writes-decimal (length bytes) (omega arith), (Writes-hex bytes some each, tt)));
  read = λ origin. rw (word_short-decimal (length bytes) (omega arith)) (sized_back number bytes is some each);
}

-- the type and the data of a record
pub record IsTyped (number : ℕ) (rdata : Data) : Type 0 where
  pub by_number : Bool
  pub type : IsTypeBack number by_number
  pub words : IsDataBack number by_number rdata

named : (number k : ℕ) (rdata : Data) → (number == k) ≡ true → IsTypeBack k false → IsDataBack k false rdata → IsTyped number rdata
named number k rdata same type words =
    subst (λ n. IsTyped n rdata) (sym (same_number number k same)) (record { by_number = false; type = type; words = words })

-- what is asked of them
pub record IsSound (number : ℕ) (rdata : Data) : Type 0 where
  pub below : number < 2 ^ 16
  pub plain : is_meta number ≡ false
  pub form : form_of number (length (data_bytes rdata)) ≡ variant_of rdata
  pub filled : 0 < length (data_bytes rdata)
  pub short : length (data_bytes rdata) ≤ 65535
  pub small : fold_data rdata ≡ rdata
  pub kept : IsData rdata
  pub bytes : IsDataOfBytes rdata

-- a type that is no meta type is not OPT
not_opt : (number : ℕ) → is_meta number ≡ false → (number == 41) ≡ false
not_opt number plain = grind arith

-- type and data of each variant
pub typed : (number : ℕ) (rdata : Data) → IsSound number rdata → IsTyped number rdata
typed number (A address) sound = named number 1 (A address) (chosen_form number _ _ (not_opt number sound.plain) sound.filled sound.form) IsTypeBack-a (data_a address sound.kept)
typed number (Aaaa address) sound = named number 28 (Aaaa address) (chosen_form number _ _ (not_opt number sound.plain) sound.filled sound.form) IsTypeBack-aaaa (data_aaaa address sound.kept)
typed number (Ns host) sound =
    let same : fold_of host ≡ host = cc sound.small in
    named number 2 (Ns host) (chosen_form number _ _ (not_opt number sound.plain) sound.filled sound.form) IsTypeBack-ns (data_ns host (record { is = sound.kept; bytes = sound.bytes; small = same }))
typed number (Cname target) sound =
    let same : fold_of target ≡ target = cc sound.small in
    named number 5 (Cname target) (chosen_form number _ _ (not_opt number sound.plain) sound.filled sound.form) IsTypeBack-cname (data_cname target (record { is = sound.kept; bytes = sound.bytes; small = same }))
typed number (Ptr target) sound =
    let same : fold_of target ≡ target = cc sound.small in
    named number 12 (Ptr target) (chosen_form number _ _ (not_opt number sound.plain) sound.filled sound.form) IsTypeBack-ptr (data_ptr target (record { is = sound.kept; bytes = sound.bytes; small = same }))
typed number (Mx preference exchange) sound =
    let same : fold_of exchange ≡ exchange = cc sound.small in
    named number 15 (Mx preference exchange) (chosen_form number _ _ (not_opt number sound.plain) sound.filled sound.form) IsTypeBack-mx
    (data_mx preference exchange sound.kept.0 (record { is = sound.kept.1; bytes = sound.bytes; small = same }))
typed number (Srv priority weight port target) sound =
    let same : fold_of target ≡ target = cc sound.small in
    named number 33 (Srv priority weight port target) (chosen_form number _ _ (not_opt number sound.plain) sound.filled sound.form) IsTypeBack-srv
    (data_srv priority weight port target sound.kept.0 sound.kept.1 sound.kept.2 (record { is = sound.kept.3; bytes = sound.bytes; small = same }))
typed number (Soa serial mname rname refresh retry expire minimum) sound =
    let primary : fold_of mname ≡ mname = cc sound.small in
    let mailbox : fold_of rname ≡ rname = cc sound.small in
    named number 6 (Soa serial mname rname refresh retry expire minimum) (chosen_form number _ _ (not_opt number sound.plain) sound.filled sound.form) IsTypeBack-soa
    (data_soa mname rname serial refresh retry expire minimum (record { is = sound.kept.0; bytes = sound.bytes.0; small = primary }) (record { is = sound.kept.1; bytes = sound.bytes.1; small = mailbox })
    sound.kept.2 sound.kept.3 sound.kept.4 sound.kept.5 sound.kept.6)
typed number (Txt texts) sound = named number 16 (Txt texts) (chosen_form number _ _ (not_opt number sound.plain) sound.filled sound.form) IsTypeBack-txt (data_txt texts sound.filled sound.kept sound.bytes sound.short)
typed number (Opaque bytes) sound =
    let none : is_named number ≡ false = chosen_form number _ _ (not_opt number sound.plain) sound.filled sound.form in
    record { by_number = true; type = IsTypeBack-numbered number sound.below sound.plain none; words = data_opaque number bytes sound.form sound.filled sound.short sound.bytes }
typed number Empty sound = absurd (omega (arith, sound.filled))
