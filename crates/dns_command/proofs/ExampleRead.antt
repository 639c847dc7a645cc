-- The text of a drawn list's zone is a zone's.
use Rattle.std.proofs.Common.{◌≡◌, ℕ, List, false, true, Err, is_err, refl, ap, subst}
use Rattle.dns_name.specs.Name.{fold_of}
use Rattle.dns_name.specs.NameBuffer.{cut_labels, labels_of}
use Rattle.dns_name.specs.NameText.{name_of}
use Rattle.dns_presentation.specs.DataText.{word_number, word_short, word_seconds, word_name, only_word, only_name, only_seconds, a_of, aaaa_of, mx_of, srv_of, times_of, soa_of, txt_of, general_of, name_data_of, form_data_of, data_of, numbered_type, type_of}
use Rattle.dns_presentation.specs.Entries.{time_of, record_with, typed_record, record_of, directive_of, words_entry, entry_of}
use Rattle.dns_presentation.specs.TypedData.{typed_data}
use Rattle.dns_presentation.specs.Values.{number_of, number_up_to, seconds_of, name_in, string_of, address_from, segments_number, wide_address_of}
use Rattle.dns_zone.specs.ZoneText.{placed, finished, zone_of}
use Rattle.dns_zone.specs.declared.zone_text.ZoneTextFault.{ZoneTextFault}
use Rattle.dns_generator.specs.Requests.{origin_name}
use Rattle.dns_command.specs.Example.{example_text}

-- it is read without a fault, as the definitions compute
is_read : is_err (zone_of origin_name example_text) ≡ false
unfolding cut_labels labels_of name_of word_number word_short word_seconds word_name only_word only_name only_seconds a_of aaaa_of mx_of srv_of times_of soa_of txt_of general_of name_data_of form_data_of data_of numbered_type type_of time_of record_with typed_record record_of directive_of words_entry entry_of typed_data number_of number_up_to seconds_of name_in string_of address_from segments_number wide_address_of placed finished
is_read = refl

-- so no fault is told
pub not_refused : (origin : List (List ℕ)) (text : List ℕ) (fault : ZoneTextFault) → origin ≡ origin_name → text ≡ example_text → zone_of (fold_of origin) text ≡ Err fault → ⊥
not_refused origin text fault named is refused =
    let folded : fold_of origin ≡ origin_name = ap fold_of named in
    let faulty : zone_of origin_name example_text ≡ Err fault = subst (λ (o : List (List ℕ)). zone_of o example_text ≡ Err fault) folded (subst (λ (t : List ℕ). zone_of (fold_of origin) t ≡ Err fault) is refused) in
    let no : is_err (zone_of origin_name example_text) ≡ true = ap (λ r. is_err r) faulty in
    absurd (both (is_err (zone_of origin_name example_text)) no is_read)
  where
    both : (b : _) → b ≡ true → b ≡ false → ⊥
    both true t f = absurd cc
    both false t f = absurd cc
