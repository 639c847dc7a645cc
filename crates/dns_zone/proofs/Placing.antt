-- A record that may stand beside others is put in the place of its rival.
use Rattle.std.proofs.Common.{◌≡◌, ℕ, List, [], ◌∷◌, Bool, true, false, not, ◌==◌, ◌&&◌, ◌||◌, if◌then◌else◌, Ok, refl, sym, ap, ◌∙◌, subst, arith, ◌⊎◌, inl, inr}
use Rattle.std.specs.List.{AllByRecursion, IsDistinct, list_any}
use Rattle.std.proofs.lemmas.Bool.Decides.{Decides-eqb}
use Rattle.dns_wire.specs.declared.record.Record.{Record}
use Rattle.dns_name.specs.Name.{is_same_name, is_at_or_below}
use Rattle.dns_zone_map.specs.SameData.{data_eq}
use Rattle.dns_zone_map.specs.Zone.{is_type, is_equal, is_rival, IsEntry, IsSoFar}
use Rattle.dns_presentation.specs.declared.entry.Context.{Context}
use Rattle.dns_presentation.specs.LogicalLines.{LogicalLine}
use Rattle.dns_presentation.specs.Entries.{entry_of, first_context}
use Rattle.dns_name.specs.Name.{IsName, fold_of}
use Rattle.dns_name.proofs.Lengths.{length_name_bytes}
use Rattle.dns_zone.specs.Contexts.{IsSound}
use Rattle.dns_zone.specs.ZoneText.{put_in, placed, placed_entry, context_behind, after_line, records_from}
use Rattle.dns_zone_map.specs.Changes.{put_over}
use Rattle.dns_zone_map.specs.declared.beside.Beside.{Beside}
use Rattle.dns_zone_map.specs.declared.beside.Beside.TheVariants.{New, Replaced}
use Rattle.dns_zone_map.specs.Beside.{is_beside_alias, PutAlone, IsPutBeside}
use Rattle.dns_zone.proofs.Readings.{IsRead}

-- no test passes
either : (a b : Bool) → (a || b) ≡ false → (a ≡ false) × (b ≡ false)
either true b none = absurd cc
either false b none = (refl, none)

none_of : (test : Record → Bool) (records : List Record) → list_any test records ≡ false → AllByRecursion (λ s. test s ≡ false) records
none_of test [] none = tt
none_of test (s ∷ records) none =
    let parts = either (test s) (list_any test records) none in
    (parts.0, none_of test records parts.1)

-- where neither is an SOA of its own, and none stands beside an alias, a rival is equal
rival_by : (same_type soa alias other same_name same_data : Bool) → (soa && same_type) ≡ false → ((alias || other) && (not (same_type && (same_name && same_data)) && same_name)) ≡ false
    → (same_type && (soa || (same_name && (alias || same_data)))) ≡ (same_type && (same_name && same_data))
rival_by false soa alias other same_name same_data first second = refl
rival_by true true alias other same_name same_data first second = absurd cc
rival_by true false false other same_name same_data first second = refl
rival_by true false true other false same_data first second = refl
rival_by true false true other true true first second = refl
rival_by true false true other true false first second = absurd cc

-- an SOA is of no other type than another SOA
soa_by : (soa away : Bool) (r s : Record) → (r.rtype == 6) ≡ soa → (soa && (away || false)) ≡ false → is_type 6 s ≡ false → (soa && (r.rtype == s.rtype)) ≡ false
soa_by false away r s is first none = refl
soa_by true away r s is first none =
    let six : r.rtype ≡ 6 = (Decides-eqb r.rtype 6).0 is in
    grind arith

soa_apart : (soa away any : Bool) (r : Record) (records : List Record) → (r.rtype == 6) ≡ soa → list_any (is_type 6) records ≡ any → (soa && (away || any)) ≡ false → AllByRecursion (λ s. (soa && (r.rtype == s.rtype)) ≡ false) records
soa_apart false away any r [] is those first = tt
soa_apart false away any r (s ∷ records) is those first = (refl, soa_apart false away (list_any (is_type 6) records) r records is refl refl)
soa_apart true true any r records is those first = absurd cc
soa_apart true false true r records is those first = absurd cc
soa_apart true false false r records is those first = apart records (none_of (is_type 6) records those)
  where
    apart : (rs : List Record) → AllByRecursion (λ s. is_type 6 s ≡ false) rs → AllByRecursion (λ s. (r.rtype == s.rtype) ≡ false) rs
    apart [] none = tt
    apart (s ∷ rs) none = (soa_by true false r s is refl none.0, apart rs none.1)

-- among records beside which one may stand, its rivals are the records equal to it
rivals_equal : (r : Record) (records : List Record) → AllByRecursion (λ s. (is_type 6 r && (r.rtype == s.rtype)) ≡ false) records → AllByRecursion (λ s. is_beside_alias r s ≡ false) records → AllByRecursion (λ s. is_rival r s ≡ is_equal r s) records
rivals_equal r [] soas aliases = tt
rivals_equal r (s ∷ records) soas aliases = (
  rival_by (r.rtype == s.rtype) (r.rtype == 6) (r.rtype == 5) (s.rtype == 5) (is_same_name r.name s.name) (data_eq r.rdata s.rdata) soas.0 aliases.0,
  rivals_equal r records soas.1 aliases.1,
)

-- there it comes in the place of its rival
put_in-over : (r : Record) (records : List Record) → AllByRecursion (λ s. is_rival r s ≡ is_equal r s) records → put_in records r ≡ put_over (is_rival r) r records
put_in-over r [] equal = refl
put_in-over r (s ∷ records) equal =
    ap (λ others. if is_equal r s then r ∷ records else s ∷ others) (put_in-over r records equal.1)
    ∙ ap (λ test. if test then r ∷ records else s ∷ put_over (is_rival r) r records) (sym equal.0)

-- a record that is put in the place of its rival is placed
pub placed_over : (origin : List (List ℕ)) (records : List Record) (r : Record) (more : List Record) → is_at_or_below r.name origin ≡ true
    → (is_type 6 r && (not (is_same_name r.name origin) || list_any (is_type 6) records)) ≡ false → list_any (is_beside_alias r) records ≡ false
    → more ≡ put_over (is_rival r) r records → placed origin records r ≡ Ok more
unfolding placed
placed_over origin records r more within soa alias put =
    let soas = soa_apart (is_type 6 r) (not (is_same_name r.name origin)) (list_any (is_type 6) records) r records refl refl soa in
    let aliases = none_of (is_beside_alias r) records alias in
    let over : put_in records r ≡ more = put_in-over r records (rivals_equal r records soas aliases) ∙ sym put in
    rw (within, soa, alias, over) refl

-- a record that was put, new or in the place of another, stands beside no alias, nor is it one beside others
pub put_alone : (r : Record) (records more : List Record) (end : Beside) → (end ≡ New) ⊎ (end ≡ Replaced) → IsPutBeside r records more end → PutAlone r records more
put_alone r records more end (inl new) put = (subst (IsPutBeside r records more) new put).0
put_alone r records more end (inr replaced) put = (subst (IsPutBeside r records more) replaced put).0

-- an SOA that may be placed is at the origin
pub at_origin : (soa same any : Bool) → (soa && (not same || any)) ≡ false → soa ≡ true → same ≡ true
at_origin false same any none is = absurd cc
at_origin true true any none is = refl
at_origin true false any none is = absurd cc

-- a record that was read is an entry of a zone where it may stand there
pub IsEntry-read : (origin : List (List ℕ)) (r : Record) → IsRead r → is_at_or_below r.name origin ≡ true → (is_type 6 r ≡ true → is_same_name r.name origin ≡ true) → IsEntry origin r
IsEntry-read origin r read within soa = record {
  within = within;
  soa = soa;
  class = read.class;
  plain = read.plain;
  form = read.form;
  filled = read.filled;
  short = read.short;
  owner = read.owner;
  names = read.names;
}

-- the records behind a logical line that is taken
pub records_step : (origin : List (List ℕ)) (context : Context) (records more : List Record) (line : LogicalLine) (lines : List LogicalLine) → placed_entry origin records (entry_of context line) ≡ Ok more
    → records_from origin context records (line ∷ lines) ≡ records_from origin (context_behind context (entry_of context line)) more lines
records_step origin context records more line lines ok =
    ap (λ found. after_line line.number found (λ more. records_from origin (context_behind context (entry_of context line)) more lines)) ok

-- names at the beginning of a text
pub IsSound-first : (origin : List (List ℕ)) → fold_of origin ≡ origin → IsName origin → IsSound (first_context origin)
IsSound-first origin folded name = record {
  origin = record {
    folded = folded;
    short = omega (arith, length_name_bytes origin, name.short);
  };
  owner = tt;
}

-- no records may become those of a zone
pub IsSoFar-none : (origin : List (List ℕ)) → IsSoFar origin []
unfolding IsDistinct
IsSoFar-none origin = record { entries = tt; distinct = tt }
