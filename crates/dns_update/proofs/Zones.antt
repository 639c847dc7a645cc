-- Additions and deletions leave the records of a zone.
use Rattle.std.proofs.Common.{◌≡◌, ℕ, ◌<◌, List, [], ◌∷◌, ◌++◌, length, refl, ap, ◌∙◌, arith, length-append, Bool, true, false}
use Rattle.std.specs.Prelude.{filter, not, ◌==◌, ◌&&◌, ◌||◌, if◌then◌else◌}
use Rattle.std.specs.Int.{w32, to_be_bytes}
use Rattle.std.specs.List.{flat_map, list_any, AllByRecursion, IsDistinct}
use Rattle.std.proofs.lemmas.Bool.Decides.{Decides-eqb, nat_tests}
use Rattle.dns_name.specs.Name.{is_same_name, is_at_or_below, name_bytes}
use Rattle.dns_wire.specs.declared.record.Record.{Record}
use Rattle.dns_wire.specs.declared.record_type.TheConstants.{SOA}
use Rattle.dns_wire.specs.declared.rdata.Data.{Data}
use Rattle.dns_wire.specs.declared.rdata.Data.TheVariants.{A, Aaaa, Ns, Cname, Ptr, Mx, Srv, Soa, Txt, Opaque, Empty}
use Rattle.dns_wire.specs.declared.rdata.Form.TheVariants as form
use Rattle.dns_wire.specs.Forms.{form_of, variant_of}
use Rattle.dns_wire.specs.WireFormat.{data_bytes, IsShort}
use Rattle.dns_wire.specs.ReadBack.{IsOfItsType}
use Rattle.dns_wire.specs.Folds.{fold_data}
use Rattle.dns_zone_map.specs.Zone.{is_type, is_in_set, is_meta, is_equal, is_rival, IsEntry, IsZone, IsSoFar}
use Rattle.dns_zone_map.specs.Changes.{put_over, bears, data_at, at_if, at_serial, set_serial}
use Rattle.dns_update.specs.Change.{fold_record, put, is_only_ns, is_left, ns_count, delete, step, steps, applied}
use Rattle.dns_update.specs.Verdict.{is_empty, is_addition, is_deletion_of_sets, is_deletion_of_record, is_update}
use Rattle.dns_update.specs.Replay.{is_stray_soa, is_journalled, IsJournalledAsIs, MayCome}
use Rattle.dns_update.proofs.SameRecords.{both_of}
use Rattle.dns_update.proofs.Serials.{same_type, same_rival}
use Rattle.dns_update.proofs.Rivals.{is_rival-turned, distinct_put}

-- what holds of a record and of others holds of them when the record came to them, or when some were taken
all_if : (P : Record → Type 0) (test : Bool) (r s : Record) (records others : List Record) → P r → P s → AllByRecursion P records → AllByRecursion P others → AllByRecursion P (if test then r ∷ records else s ∷ others)
all_if P true r s records others new old rest put = (new, rest)
all_if P false r s records others new old rest put = (old, put)

pub all_put : (P : Record → Type 0) (test : Record → Bool) (r : Record) (records : List Record) → P r → AllByRecursion P records → AllByRecursion P (put_over test r records)
all_put P test r [] new all = (new, tt)
all_put P test r (s ∷ records) new all = all_if P (test s) r s records (put_over test r records) new all.0 all.1 (all_put P test r records new all.1)

left_if : (P : Record → Type 0) (test : Bool) (s : Record) (records : List Record) → P s → AllByRecursion P records → AllByRecursion P (if test then s ∷ records else records)
left_if P true s records p all = (p, all)
left_if P false s records p all = all

pub all_left : (P : Record → Type 0) (test : Record → Bool) (records : List Record) → AllByRecursion P records → AllByRecursion P (filter test records)
all_left P test [] all = tt
all_left P test (s ∷ records) all = left_if P (test s) s (filter test records) all.0 (all_left P test records all.1)

distinct_if : (test : Bool) (s : Record) (records : List Record) → AllByRecursion (λ o. is_rival s o ≡ false) records → IsDistinct is_rival records → IsDistinct is_rival (if test then s ∷ records else records)
unfolding IsDistinct
distinct_if true s records apart distinct = (apart, distinct)
distinct_if false s records apart distinct = distinct

distinct_left : (test : Record → Bool) (records : List Record) → IsDistinct is_rival records → IsDistinct is_rival (filter test records)
unfolding IsDistinct
distinct_left test [] distinct = tt
distinct_left test (s ∷ records) distinct =
    distinct_if (test s) s (filter test records) (all_left (λ o. is_rival s o ≡ false) test records distinct.0) (distinct_left test records distinct.1)

-- the SOA stays when a record is put in the place of its rival
any_first : (a b : Bool) → a ≡ true → (a || b) ≡ true
any_first a b h = rw h refl

any_rest : (a b : Bool) → b ≡ true → (a || b) ≡ true
any_rest true b h = refl
any_rest false b h = h

rival_type : (r s : Record) → is_rival r s ≡ true → r.rtype ≡ s.rtype
rival_type r s h = (Decides-eqb r.rtype s.rtype).0 (both_of _ _ h).0

put_soa_if : (rival soa : Bool) (r s : Record) (records : List Record) → is_rival r s ≡ rival → is_type SOA s ≡ soa → (soa || list_any (is_type SOA) records) ≡ true
    → (list_any (is_type SOA) records ≡ true → list_any (is_type SOA) (put_over (is_rival r) r records) ≡ true) → list_any (is_type SOA) (if rival then r ∷ records else s ∷ put_over (is_rival r) r records) ≡ true
put_soa_if true true r s records rival soa some rest =
    let same : r.rtype ≡ s.rtype = rival_type r s rival in
    any_first (is_type SOA r) (list_any (is_type SOA) records) (rw same soa)
put_soa_if true false r s records rival soa some rest = any_rest (is_type SOA r) (list_any (is_type SOA) records) some
put_soa_if false true r s records rival soa some rest = any_first (is_type SOA s) (list_any (is_type SOA) (put_over (is_rival r) r records)) soa
put_soa_if false false r s records rival soa some rest = any_rest (is_type SOA s) (list_any (is_type SOA) (put_over (is_rival r) r records)) (rest some)

put_soa : (r : Record) (records : List Record) → list_any (is_type SOA) records ≡ true → list_any (is_type SOA) (put_over (is_rival r) r records) ≡ true
put_soa r [] some = absurd cc
put_soa r (s ∷ records) some = put_soa_if (is_rival r s) (is_type SOA s) r s records refl refl some (put_soa r records)

-- no deletion takes the SOA of the origin
and_no : (x : Bool) → not (x && false) ≡ true
and_no true = refl
and_no false = refl

left_soa_if : (any all named inset equal only here : Bool) → here ≡ true
    → not (if any then (if all then named && not (here && true) else inset && not (here && true)) else equal && (not true && only)) ≡ true
left_soa_if true true named inset equal only here h = rw h (and_no named)
left_soa_if true false named inset equal only here h = rw h (and_no inset)
left_soa_if false all named inset equal only here h = and_no equal

left_soa : (origin : List (List ℕ)) (count : ℕ) (r s : Record) → is_type SOA s ≡ true → is_same_name s.name origin ≡ true → is_left origin count r s ≡ true
left_soa origin count r s soa here =
    rw soa (left_soa_if (r.class == 255) (r.rtype == 255) (bears r.name s) (is_in_set r.name r.rtype s) (is_equal r s) (not (is_only_ns origin count s)) (is_same_name s.name origin) here)

delete_soa_if : (left soa : Bool) (origin : List (List ℕ)) (count : ℕ) (r s : Record) (records : List Record) → is_left origin count r s ≡ left → is_type SOA s ≡ soa → IsEntry origin s
    → (soa || list_any (is_type SOA) records) ≡ true → (list_any (is_type SOA) records ≡ true → list_any (is_type SOA) (filter (is_left origin count r) records) ≡ true)
    → list_any (is_type SOA) (if left then s ∷ filter (is_left origin count r) records else filter (is_left origin count r) records) ≡ true
delete_soa_if true true origin count r s records left soa entry some rest = any_first (is_type SOA s) (list_any (is_type SOA) (filter (is_left origin count r) records)) soa
delete_soa_if true false origin count r s records left soa entry some rest = any_rest (is_type SOA s) (list_any (is_type SOA) (filter (is_left origin count r) records)) (rest some)
delete_soa_if false true origin count r s records left soa entry some rest =
    let stays : is_left origin count r s ≡ true = left_soa origin count r s soa (entry.soa soa) in
    absurd cc
delete_soa_if false false origin count r s records left soa entry some rest = rest some

delete_soa : (origin : List (List ℕ)) (count : ℕ) (r : Record) (records : List Record) → AllByRecursion (IsEntry origin) records → list_any (is_type SOA) records ≡ true → list_any (is_type SOA) (filter (is_left origin count r) records) ≡ true
delete_soa origin count r [] entries some = absurd cc
delete_soa origin count r (s ∷ records) entries some =
    delete_soa_if (is_left origin count r s) (is_type SOA s) origin count r s records refl refl entries.0 some (delete_soa origin count r records entries.1)

-- a serial that is set leaves an entry one
numbers_length : (n o : List (List ℕ)) (k a b c d e : ℕ) → length (data_bytes (Soa k n o b c d e)) ≡ length (data_bytes (Soa a n o b c d e))
numbers_length n o k a b c d e =
    omega (
      arith,
      length-append (name_bytes n ++ name_bytes o) (flat_map (to_be_bytes w32) (k ∷ b ∷ c ∷ d ∷ e ∷ [])),
      length-append (name_bytes n ++ name_bytes o) (flat_map (to_be_bytes w32) (a ∷ b ∷ c ∷ d ∷ e ∷ [])),
    )

length_at : (k : ℕ) (d : Data) → length (data_bytes (data_at k d)) ≡ length (data_bytes d)
length_at k (A address) = refl
length_at k (Aaaa address) = refl
length_at k (Ns host) = refl
length_at k (Cname target) = refl
length_at k (Ptr target) = refl
length_at k (Mx preference exchange) = refl
length_at k (Srv priority weight port target) = refl
length_at k (Soa serial mname rname refresh retry expire minimum) = numbers_length mname rname k serial refresh retry expire minimum
length_at k (Txt texts) = refl
length_at k (Opaque bytes) = refl
length_at k Empty = refl

variant_at : (k : ℕ) (d : Data) → variant_of (data_at k d) ≡ variant_of d
variant_at k (A address) = refl
variant_at k (Aaaa address) = refl
variant_at k (Ns host) = refl
variant_at k (Cname target) = refl
variant_at k (Ptr target) = refl
variant_at k (Mx preference exchange) = refl
variant_at k (Srv priority weight port target) = refl
variant_at k (Soa serial mname rname refresh retry expire minimum) = refl
variant_at k (Txt texts) = refl
variant_at k (Opaque bytes) = refl
variant_at k Empty = refl

fold_at : (k : ℕ) (d : Data) → fold_data (data_at k d) ≡ data_at k (fold_data d)
fold_at k (A address) = refl
fold_at k (Aaaa address) = refl
fold_at k (Ns host) = refl
fold_at k (Cname target) = refl
fold_at k (Ptr target) = refl
fold_at k (Mx preference exchange) = refl
fold_at k (Srv priority weight port target) = refl
fold_at k (Soa serial mname rname refresh retry expire minimum) = refl
fold_at k (Txt texts) = refl
fold_at k (Opaque bytes) = refl
fold_at k Empty = refl

entry_if : (b : Bool) (origin : List (List ℕ)) (k : ℕ) (s : Record) → IsEntry origin s → IsEntry origin (at_if b k s)
entry_if false origin k s e = e
entry_if true origin k s e = record {
  within = e.within;
  soa = e.soa;
  class = e.class;
  plain = e.plain;
  form = rw (length_at k s.rdata, variant_at k s.rdata) e.form;
  filled = rw (length_at k s.rdata) e.filled;
  short = rw (length_at k s.rdata) e.short;
  owner = e.owner;
  names = fold_at k s.rdata ∙ ap (data_at k) e.names;
}

entries_at : (origin : List (List ℕ)) (k : ℕ) (records : List Record) → AllByRecursion (IsEntry origin) records → AllByRecursion (IsEntry origin) (set_serial k records)
entries_at origin k [] all = tt
entries_at origin k (s ∷ records) all = (entry_if (is_type SOA s) origin k s all.0, entries_at origin k records all.1)

rivals_at : (k : ℕ) (r s : Record) → is_rival (at_serial k r) (at_serial k s) ≡ is_rival r s
rivals_at k r s = same_rival (at_serial k r) k s ∙ is_rival-turned (at_serial k r) s ∙ same_rival s k r ∙ is_rival-turned s r

apart_at : (k : ℕ) (r : Record) (records : List Record) → AllByRecursion (λ o. is_rival r o ≡ false) records → AllByRecursion (λ o. is_rival (at_serial k r) o ≡ false) (set_serial k records)
apart_at k r [] all = tt
apart_at k r (s ∷ records) all = (rivals_at k r s ∙ all.0, apart_at k r records all.1)

distinct_at : (k : ℕ) (records : List Record) → IsDistinct is_rival records → IsDistinct is_rival (set_serial k records)
unfolding IsDistinct
distinct_at k [] distinct = tt
distinct_at k (s ∷ records) distinct = (apart_at k s records distinct.0, distinct_at k records distinct.1)

pub soa_at : (k : ℕ) (records : List Record) → list_any (is_type SOA) (set_serial k records) ≡ list_any (is_type SOA) records
soa_at k [] = refl
soa_at k (s ∷ records) = rw (same_type k s, soa_at k records) refl

step_so_far_if : (b : Bool) (origin : List (List ℕ)) (records : List Record) (r : Record) → (b ≡ true → IsEntry origin r) → IsSoFar origin records → IsSoFar origin (if b then put records r else delete origin records r)
step_so_far_if true origin records r entry before = record { entries = all_put (IsEntry origin) (is_rival r) r records (entry refl) before.entries; distinct = distinct_put r records before.distinct }
step_so_far_if false origin records r entry before = record {
  entries = all_left (IsEntry origin) (is_left origin (ns_count origin records) r) records before.entries;
  distinct = distinct_left (is_left origin (ns_count origin records) r) records before.distinct;
}

step_soa_if : (b : Bool) (origin : List (List ℕ)) (records : List Record) (r : Record) → AllByRecursion (IsEntry origin) records → list_any (is_type SOA) records ≡ true → list_any (is_type SOA) (if b then put records r else delete origin records r) ≡ true
step_soa_if true origin records r entries some = put_soa r records some
step_soa_if false origin records r entries some = delete_soa origin (ns_count origin records) r records entries some

-- a step leaves records that may become those of a zone, and the SOA
pub step_so_far : (origin : List (List ℕ)) (records : List Record) (r : Record) → MayCome origin r → IsSoFar origin records → IsSoFar origin (step origin records r)
step_so_far origin records r entry before = step_so_far_if (r.class == 1) origin records r entry before

pub step_soa : (origin : List (List ℕ)) (records : List Record) (r : Record) → AllByRecursion (IsEntry origin) records → list_any (is_type SOA) records ≡ true → list_any (is_type SOA) (step origin records r) ≡ true
step_soa origin records r entries some = step_soa_if (r.class == 1) origin records r entries some

-- so does a serial that is set
pub so_far_at : (origin : List (List ℕ)) (k : ℕ) (records : List Record) → IsSoFar origin records → IsSoFar origin (set_serial k records)
so_far_at origin k records before = record { entries = entries_at origin k records before.entries; distinct = distinct_at k records before.distinct }

-- an addition that is journalled is an entry
filled_if : (none : Bool) (rtype : ℕ) (d : Data) → (rtype == 41) ≡ false → is_empty d ≡ false → (length (data_bytes d) == 0) ≡ none → form_of rtype (length (data_bytes d)) ≡ variant_of d → 0 < length (data_bytes d)
filled_if false rtype d opt some none is = grind (arith, nat_tests)
filled_if true rtype d opt some none is =
    let empty : form.Empty ≡ variant_of d = rw (opt, none) at is in
    absurd (full d empty some)
  where
    full : (d : Data) → form.Empty ≡ variant_of d → is_empty d ≡ false → ⊥
    full (A address) e some = cc
    full (Aaaa address) e some = cc
    full (Ns host) e some = cc
    full (Cname target) e some = cc
    full (Ptr target) e some = cc
    full (Mx preference exchange) e some = cc
    full (Srv priority weight port target) e some = cc
    full (Soa serial mname rname refresh retry expire minimum) e some = cc
    full (Txt texts) e some = cc
    full (Opaque bytes) e some = cc
    full Empty e some = cc

false_of : (b : Bool) → not b ≡ true → b ≡ false
false_of true h = absurd cc
false_of false h = refl

none_of : (a b : Bool) → (a || b) ≡ false → (a ≡ false) × (b ≡ false)
none_of true b h = absurd cc
none_of false b h = (refl, h)

addition_if : (here any : Bool) (r : Record) → here ≡ true → (if here then is_addition r else any) ≡ true → is_addition r ≡ true
addition_if true any r e h = h
addition_if false any r e h = absurd cc

soa_home : (soa here same : Bool) → not (soa && (here && not same)) ≡ true → here ≡ true → soa ≡ true → same ≡ true
soa_home true true true h here soa = refl
soa_home true true false h here soa = absurd cc
soa_home true false same h here soa = absurd cc
soa_home false here same h e soa = absurd cc

pub entry_of : (origin : List (List ℕ)) (r : Record) → is_journalled origin r ≡ true → IsOfItsType r → IsShort r → fold_record r ≡ r → MayCome origin r
entry_of origin r journalled form short folded here =
    let first = both_of (is_at_or_below r.name origin) (is_update r && not (is_stray_soa origin r)) journalled in
    let second = both_of (is_update r) (not (is_stray_soa origin r)) first.1 in
    let addition = addition_if (r.class == 1) (if r.class == 255 then is_deletion_of_sets r else (r.class == 254) && is_deletion_of_record r) r here second.0 in
    let parts = both_of (not (is_meta r.rtype)) (not (is_empty r.rdata)) addition in
    let plain : is_meta r.rtype ≡ false = false_of (is_meta r.rtype) parts.0 in
    let opt = (none_of (r.rtype == 41) _ (none_of (r.rtype == 0) _ plain).1).0 in
    record {
      within = first.0;
      soa = soa_home (is_type SOA r) (r.class == 1) (is_same_name r.name origin) second.1 here;
      class = (Decides-eqb r.class 1).0 here;
      plain = plain;
      form = form;
      filled = filled_if (length (data_bytes r.rdata) == 0) r.rtype r.rdata opt (false_of (is_empty r.rdata) parts.1) refl form;
      short = short;
      owner = ap (λ (z : Record). z.name) folded;
      names = ap (λ (z : Record). z.rdata) folded;
    }

-- the records of a batch leave a zone
pub batch_entry : (origin : List (List ℕ)) (r : Record) → IsJournalledAsIs origin r → MayCome origin r
batch_entry origin r p = entry_of origin r p.journalled p.back.form p.back.short p.folded

pub steps_so_far : (origin : List (List ℕ)) (records : List Record) (rs : List Record) → AllByRecursion (IsJournalledAsIs origin) rs → IsSoFar origin records → IsSoFar origin (steps origin records rs)
steps_so_far origin records [] all before = before
steps_so_far origin records (r ∷ rs) all before = steps_so_far origin (step origin records r) rs all.1 (step_so_far origin records r (batch_entry origin r all.0) before)

pub steps_soa : (origin : List (List ℕ)) (records : List Record) (rs : List Record) → AllByRecursion (IsJournalledAsIs origin) rs → IsSoFar origin records → list_any (is_type SOA) records ≡ true → list_any (is_type SOA) (steps origin records rs) ≡ true
steps_soa origin records [] all before some = some
steps_soa origin records (r ∷ rs) all before some =
    steps_soa origin (step origin records r) rs all.1 (step_so_far origin records r (batch_entry origin r all.0) before) (step_soa origin records r before.entries some)

pub applied_zone : (origin : List (List ℕ)) (records : List Record) (batch : List Record) (serial : ℕ) → IsZone origin records → AllByRecursion (IsJournalledAsIs origin) batch → IsZone origin (applied origin records batch serial)
applied_zone origin records batch serial zone all =
    let before : IsSoFar origin records = record { entries = zone.entries; distinct = zone.distinct } in
    let after = so_far_at origin serial (steps origin records batch) (steps_so_far origin records batch all before) in
    record {
      folded = zone.folded;
      entries = after.entries;
      distinct = after.distinct;
      soa = soa_at serial (steps origin records batch) ∙ steps_soa origin records batch all before zone.soa;
    }
