-- The text of a zone's records is read as those records.
use Rattle.std.proofs.Common.{◌≡◌, ℕ, ◌+◌, true, false, List, [], ◌∷◌, ◌++◌, map, Ok, refl, sym, ap, ◌∙◌, append_assoc, append-nil}
use Rattle.std.specs.List.{AllByRecursion, IsDistinct, list_any}
use Rattle.std.proofs.lemmas.Map.Keys.{IsDistinct-head, IsDistinct-tail}
use Rattle.dns_wire.specs.declared.record.Record.{Record}
use Rattle.dns_zone_map.specs.Zone.{is_type, is_rival, IsEntry, IsZone}
use Rattle.dns_presentation.specs.declared.entry.Context.{Context}
use Rattle.dns_presentation.specs.Words.{Word}
use Rattle.dns_presentation.specs.LogicalLines.{LogicalLine, lines_after, logical_from}
use Rattle.dns_presentation.specs.Entries.{first_context}
use Rattle.dns_zone.specs.ZoneText.{finished, records_from, zone_of}
use Rattle.dns_wire.specs.Kept.{IsKept}
use Rattle.dns_printed.specs.Lone.{is_alias_pair, HasLoneAliases}
use Rattle.dns_printed.specs.Printed.{record_line, zone_text}
use Rattle.dns_printed.proofs.Numbers.{All-append}
use Rattle.dns_printed.proofs.LinesBack.{IsSeen, lines_of-lines}
use Rattle.dns_printed.proofs.EntryBack.{line_of, words_of, line_seen, begun_back, entry_back}
use Rattle.dns_printed.proofs.Placing.{IsApart, placed_behind}

-- the records that came so far are apart from those that come
abbrev AreApart : List Record → List Record → Type 0
AreApart sofar coming = AllByRecursion (λ r. AllByRecursion (λ s. IsApart s r) sofar) coming

apart_none : (coming : List Record) → AreApart [] coming
apart_none [] = tt
apart_none (r ∷ coming) = (tt, apart_none coming)

-- one of those that come has come
apart_more : (sofar : List Record) (r : Record) (coming : List Record) → AreApart sofar coming → AllByRecursion (λ t. is_rival r t ≡ false) coming → AllByRecursion (λ t. is_alias_pair r t ≡ false) coming → AreApart (sofar ++ r ∷ []) coming
apart_more sofar r [] apart rivals aliases = tt
apart_more sofar r (t ∷ coming) apart rivals aliases = (
  All-append (λ s. IsApart s t) sofar (r ∷ []) apart.0 (record { rival = rivals.0; alias = aliases.0 }, tt),
  apart_more sofar r coming apart.1 rivals.1 aliases.1,
)

-- a line in which no bracket is open ends there
line_ends : (number : ℕ) (words : List Word) (lines : List (List ℕ)) → lines_after (line_of number words) lines ≡ line_of number words ∷ logical_from (number + 1) lines
line_ends number words [] = refl
line_ends number words (line ∷ lines) = refl

module _ (origin : List (List ℕ)) where
  -- one line more
  line_back : (context : Context) (number : ℕ) (sofar : List Record) (r : Record) (coming : List Record) → IsEntry origin r → IsKept r → AllByRecursion (λ s. IsApart s r) sofar
      → ((later : Context) → records_from origin later (sofar ++ r ∷ []) (logical_from (number + 1) (map record_line coming)) ≡ finished ((sofar ++ r ∷ []) ++ coming))
      → records_from origin context sofar (logical_from number (map record_line (r ∷ coming))) ≡ finished (sofar ++ (r ∷ coming))
  line_back context number sofar r coming is kept apart rest =
      ap (λ (line : LogicalLine). records_from origin context sofar (lines_after line (map record_line coming))) (begun_back origin r is kept number)
      ∙ ap (records_from origin context sofar) (line_ends number (words_of origin r is kept) (map record_line coming))
      ∙ rw (entry_back origin r is kept context number, placed_behind origin sofar r is apart) (rest _ ∙ ap finished (append_assoc sofar (r ∷ []) coming))

  lines_back : (context : Context) (number : ℕ) (sofar coming : List Record) → AllByRecursion (IsEntry origin) coming → AllByRecursion IsKept coming → AreApart sofar coming → IsDistinct is_rival coming → HasLoneAliases coming
      → records_from origin context sofar (logical_from number (map record_line coming)) ≡ finished (sofar ++ coming)
  lines_back context number sofar [] entries kept apart distinct alone = ap finished (sym (append-nil sofar))
  lines_back context number sofar (r ∷ coming) entries kept apart distinct alone =
      line_back context number sofar r coming entries.0 kept.0 apart.0
      (λ later. lines_back later (number + 1) (sofar ++ r ∷ []) coming entries.1 kept.1
      (apart_more sofar r coming apart.1 (IsDistinct-head is_rival r coming distinct) (IsDistinct-head is_alias_pair r coming alone))
      (IsDistinct-tail is_rival r coming distinct) (IsDistinct-tail is_alias_pair r coming alone))

  lines_seen : (records : List Record) → AllByRecursion (IsEntry origin) records → AllByRecursion IsKept records → AllByRecursion (λ r. IsSeen (record_line r)) records
  lines_seen [] entries kept = tt
  lines_seen (r ∷ records) entries kept = (line_seen origin r entries.0 kept.0, lines_seen records entries.1 kept.1)

finished_zone : (records : List Record) → list_any (is_type 6) records ≡ true → finished records ≡ Ok records
unfolding finished
finished_zone records soa = rw soa refl

-- the text of a zone is read as the zone
pub zone_back : (origin : List (List ℕ)) (records : List Record) → IsZone origin records → AllByRecursion IsKept records → HasLoneAliases records → zone_of origin (zone_text records) ≡ Ok records
zone_back origin records zone kept alone =
    ap (λ (lines : List (List ℕ)). records_from origin (first_context origin) [] (logical_from 1 lines)) (lines_of-lines record_line records (lines_seen origin records zone.entries kept))
    ∙ lines_back origin (first_context origin) 1 [] records zone.entries kept (apart_none records) zone.distinct alone
    ∙ finished_zone records zone.soa
