-- In the records that a text gives no alias stands beside another record.
use Rattle.std.proofs.Common.{◌≡◌, ℕ, Bool, true, false, not, ◌==◌, ◌&&◌, ◌||◌, if◌then◌else◌, List, [], ◌∷◌, Result, Ok, Err, refl, subst}
use Rattle.std.specs.List.{AllByRecursion, IsDistinct, list_any}
use Rattle.std.proofs.lemmas.Bool.Decides.{Decides-eqb}
use Rattle.dns_name.specs.Name.{fold_of, is_same_name, is_at_or_below}
use Rattle.dns_name.proofs.SameNames.{is_same_name-Decides}
use Rattle.dns_wire.specs.declared.record.Record.{Record}
use Rattle.dns_zone_map.specs.SameData.{data_eq}
use Rattle.dns_zone_map.specs.Zone.{is_type, is_equal}
use Rattle.dns_presentation.specs.declared.fault.EntryKind.{EntryKind}
use Rattle.dns_presentation.specs.declared.entry.Context.{Context}
use Rattle.dns_presentation.specs.declared.entry.Entry.{Entry}
use Rattle.dns_presentation.specs.declared.entry.Entry.TheVariants as entry
use Rattle.dns_presentation.specs.LogicalLines.{LogicalLine, logical_lines}
use Rattle.dns_presentation.specs.Entries.{entry_of, first_context}
use Rattle.dns_zone.specs.declared.zone_text.ZoneTextKind.{ZoneTextKind}
use Rattle.dns_zone.specs.declared.zone_text.ZoneTextFault.{ZoneTextFault}
use Rattle.dns_zone_map.specs.Beside.{is_beside_alias}
use Rattle.dns_zone.specs.ZoneText.{put_in, placed, placed_entry, context_behind, after_line, finished, records_from, zone_of}
use Rattle.dns_printed.specs.Lone.{is_alias_pair, HasLoneAliases}
use Rattle.dns_printed.proofs.Placing.{same_turned}

-- no test passes
either : (a b : Bool) → (a || b) ≡ false → (a ≡ false) × (b ≡ false)
either true b none = absurd cc
either false b none = (refl, none)

none_of : (test : Record → Bool) (records : List Record) → list_any test records ≡ false → AllByRecursion (λ s. test s ≡ false) records
none_of test [] none = tt
none_of test (s ∷ records) none =
    let parts = either (test s) (list_any test records) none in
    (parts.0, none_of test records parts.1)

-- both tests pass
both : (a b : Bool) → (a && b) ≡ true → (a ≡ true) × (b ≡ true)
both true b passed = (refl, passed)
both false b passed = absurd cc

pair_by : (same alias other : Bool) → ((alias || other) && same) ≡ false → (same && (other || alias)) ≡ false
pair_by true true other none = absurd cc
pair_by true false true none = absurd cc
pair_by true false false none = refl
pair_by false alias other none = refl

-- a record that is not beside an alias, nor an alias beside it, and is not equal to the record
apart_from : (s r : Record) → is_equal r s ≡ false → is_beside_alias r s ≡ false → is_alias_pair s r ≡ false
apart_from s r other none =
    let pair : ((is_type 5 r || is_type 5 s) && is_same_name r.name s.name) ≡ false = rw other at none in
    rw (same_turned s.name r.name) (pair_by (is_same_name r.name s.name) (is_type 5 r) (is_type 5 s) pair)

-- one of two equal records is apart from what the other is apart from
apart_as : (r s t : Record) → is_equal r s ≡ true → is_alias_pair s t ≡ false → is_alias_pair r t ≡ false
apart_as r s t equal none =
    let parts = both (r.rtype == s.rtype) (is_same_name r.name s.name && data_eq r.rdata s.rdata) equal in
    let names = both (is_same_name r.name s.name) (data_eq r.rdata s.rdata) parts.1 in
    let type : r.rtype ≡ s.rtype = (Decides-eqb r.rtype s.rtype).0 parts.0 in
    let name : fold_of r.name ≡ fold_of s.name = (is_same_name-Decides r.name s.name).0 names.0 in
    rw (type, name) none

apart_all : (r s : Record) (records : List Record) → is_equal r s ≡ true → AllByRecursion (λ t. is_alias_pair s t ≡ false) records → AllByRecursion (λ t. is_alias_pair r t ≡ false) records
apart_all r s [] equal none = tt
apart_all r s (t ∷ records) equal none = (apart_as r s t equal none.0, apart_all r s records equal none.1)

-- what holds of the records and of one more holds of them when it is put in
all_put : (P : Record → Type 0) (records : List Record) (r : Record) → P r → AllByRecursion P records → AllByRecursion P (put_in records r)
all_put P [] r one all = (one, tt)
all_put P (s ∷ records) r one all = by_test (is_equal r s) (all_put P records r one all.1)
  where
    by_test : (equal : Bool) → AllByRecursion P (put_in records r) → AllByRecursion P (if equal then r ∷ records else s ∷ put_in records r)
    by_test true rest = (one, all.1)
    by_test false rest = (all.0, rest)

-- aliases stay alone when a record is put in beside which none stands
lone_put : (records : List Record) (r : Record) → HasLoneAliases records → AllByRecursion (λ s. is_beside_alias r s ≡ false) records → HasLoneAliases (put_in records r)
unfolding IsDistinct
lone_put [] r alone none = (tt, tt)
lone_put (s ∷ records) r alone none = by_test (is_equal r s) refl (lone_put records r alone.1 none.1)
  where
    by_test : (equal : Bool) → is_equal r s ≡ equal → HasLoneAliases (put_in records r) → HasLoneAliases (if equal then r ∷ records else s ∷ put_in records r)
    by_test true is rest = (apart_all r s records is alone.0, alone.1)
    by_test false is rest = (all_put (λ t. is_alias_pair s t ≡ false) records r (apart_from s r is none.0) alone.0, rest)

lone_placed : (origin : List (List ℕ)) (records : List Record) (r : Record) (next : List Record) → HasLoneAliases records → placed origin records r ≡ Ok next → HasLoneAliases next
unfolding placed
lone_placed origin records r next alone is =
    by_tests (not (is_at_or_below r.name origin)) (is_type 6 r && (not (is_same_name r.name origin) || list_any (is_type 6) records)) (list_any (is_beside_alias r) records) _ _ _ refl is
  where
    by_tests : (outside soa beside : Bool) (one two three : ZoneTextKind) → list_any (is_beside_alias r) records ≡ beside
        → (if outside then Err one else if soa then Err two else if beside then Err three else Ok (put_in records r)) ≡ Ok next → HasLoneAliases next
    by_tests true soa beside one two three none is = absurd cc
    by_tests false true beside one two three none is = absurd cc
    by_tests false false true one two three none is = absurd cc
    by_tests false false false one two three none is =
        let same : put_in records r ≡ next = cc in
        subst HasLoneAliases same (lone_put records r alone (none_of (is_beside_alias r) records none))

lone_entry : (origin : List (List ℕ)) (records : List Record) (said : Result Entry EntryKind) (next : List Record) → HasLoneAliases records → placed_entry origin records said ≡ Ok next → HasLoneAliases next
lone_entry origin records (Err kind) next alone is = absurd cc
lone_entry origin records (Ok (entry.Record r stated)) next alone is = lone_placed origin records r next alone is
lone_entry origin records (Ok entry.Nothing) next alone is = let same : records ≡ next = cc in subst HasLoneAliases same alone
lone_entry origin records (Ok (entry.Origin other)) next alone is = let same : records ≡ next = cc in subst HasLoneAliases same alone
lone_entry origin records (Ok (entry.DefaultTtl ttl)) next alone is = let same : records ≡ next = cc in subst HasLoneAliases same alone

lone_finished : (sofar records : List Record) → HasLoneAliases sofar → finished sofar ≡ Ok records → HasLoneAliases records
unfolding finished
lone_finished sofar records alone is = by_test (list_any (is_type 6) sofar) _ is
  where
    by_test : (soa : Bool) (fault : ZoneTextFault) → (if soa then Ok sofar else Err fault) ≡ Ok records → HasLoneAliases records
    by_test true fault is = let same : sofar ≡ records = cc in subst HasLoneAliases same alone
    by_test false fault is = absurd cc

lone_lines : (origin : List (List ℕ)) (context : Context) (sofar : List Record) (lines : List LogicalLine) (records : List Record) → HasLoneAliases sofar → records_from origin context sofar lines ≡ Ok records → HasLoneAliases records
lone_lines origin context sofar [] records alone is = lone_finished sofar records alone is
lone_lines origin context sofar (line ∷ lines) records alone is =
    by_placed (placed_entry origin sofar (entry_of context line)) refl (λ more. lone_lines origin (context_behind context (entry_of context line)) more lines records) is
  where
    by_placed : (found : Result (List Record) ZoneTextKind) → placed_entry origin sofar (entry_of context line) ≡ found
        → ((more : List Record) → HasLoneAliases more → records_from origin (context_behind context (entry_of context line)) more lines ≡ Ok records → HasLoneAliases records)
        → after_line line.number found (λ more. records_from origin (context_behind context (entry_of context line)) more lines) ≡ Ok records → HasLoneAliases records
    by_placed (Err kind) found rest is = absurd cc
    by_placed (Ok more) found rest is = rest more (lone_entry origin sofar (entry_of context line) more alone found) is

-- in the records that a text gives aliases are alone
pub lone_zone : (origin : List (List ℕ)) (text : List ℕ) (records : List Record) → zone_of origin text ≡ Ok records → HasLoneAliases records
unfolding IsDistinct
lone_zone origin text records is = lone_lines origin (first_context origin) [] (logical_lines 1 text) records tt is
