-- The zone at the length that an answer tells.
use Rattle.std.proofs.Common.{◌≡◌, ◌⊎◌, inl, inr, ℕ, ◌+◌, ◌<◌, ◌≤◌, List, ◌++◌, length, take, Bool, Option, Some, None, Result, Ok, Err, refl, sym, ap, ◌∙◌, subst, arith, length-append}
use Rattle.std.proofs.Math.Seq.{take-append_seam}
use Rattle.std.proofs.lemmas.Option.{same_Some}
use Rattle.dns_name.specs.Name.{fold_of}
use Rattle.dns_wire.specs.declared.record.Record.{Record}
use Rattle.dns_keeper.specs.declared.row.Row.{Row}
use Rattle.dns_keeper.specs.Keeping.{KeeperOf}
use Rattle.dns_zone_map.specs.Zone.{Contents}
use Rattle.dns_update.specs.Replay.{Replays}
use Rattle.dns_update.proofs.Replayed.{replays_one}
use Rattle.dns_store.specs.Store.{HasRows, StandFor}
use Rattle.dns_book.specs.declared.ask.Ask.{Ask}
use Rattle.dns_book.specs.declared.ask.Receipt.{Receipt}
use Rattle.dns_book.specs.declared.ask.Settled.{Settled}
use Rattle.dns_book.specs.Access.{Access}
use Rattle.dns_book.specs.Book.{SeenOf, Ends, idle, journalled, failed, Settles}
use Rattle.dns_audit.specs.declared.fault.AuditFault.{AuditFault}
use Rattle.dns_audit.specs.declared.fault.AuditFault.TheVariants as fault
use Rattle.dns_audit.specs.Reading.{IsZoneAt, HasNoZoneAt}

abbrev value_or : {A E : Type 0} → A → Result A E → A
value_or d (Ok a) = a
value_or d (Err e) = d

same_Ok : {A E : Type 0} (a b : A) (x y : Result A E) → x ≡ Ok a → y ≡ Ok b → x ≡ y → a ≡ b
same_Ok a b x y e f p = ap (value_or a) (sym e ∙ p ∙ f)

-- ---- one zone

abbrev contents : List (List ℕ) → List Record → Contents
contents origin records = record { origin = origin; records = records }

pub zone_one : (origin : List (List ℕ)) (count : ℕ) (a b : Contents) (rows : List Row) → IsZoneAt origin count a rows → IsZoneAt origin count b rows → a ≡ b
zone_one origin count a b rows p q =
    let records : a.records ≡ b.records = same_Ok a.records b.records (Ok a.records) (Ok b.records) refl refl (replays_one (fold_of origin) (take count rows) (Ok a.records) (Ok b.records) p.replays q.replays) in
    let named : a.origin ≡ b.origin = p.named ∙ sym q.named in
    same a.origin b.origin a.records b.records named records
  where
    same : (o p : List (List ℕ)) (r s : List Record) → o ≡ p → r ≡ s → contents o r ≡ contents p s
    same o p r s e f = rw (e, f) refl

-- ---- it is there

rows_at : (rows : Option (List Row)) (l : List Row) (n : ℕ) → rows ≡ Some l → HasRows rows n → length l ≡ n
rows_at None l n is has = absurd cc
rows_at (Some x) l n is has = subst (λ (k : List Row). length k ≡ n) (same_Some _ _ is) has

stands_at : (rows : Option (List Row)) (l : List Row) (zone : Contents) → rows ≡ Some l → StandFor rows zone → Replays zone.origin l (Ok zone.records)
stands_at None l zone is stand = absurd cc
stands_at (Some x) l zone is stand = subst (λ (k : List Row). Replays zone.origin k (Ok zone.records)) (same_Some _ _ is) stand

zone_of_rows : (origin : List (List ℕ)) (rows more : List Row) (count : ℕ) (zone : Contents) → length rows ≡ count → zone.origin ≡ fold_of origin → Replays zone.origin rows (Ok zone.records)
    → IsZoneAt origin count zone (rows ++ more)
zone_of_rows origin rows more count zone number named replays =
    let all : length (rows ++ more) ≡ length rows + length more = length-append rows more in
    let front : take count (rows ++ more) ≡ rows = ap (λ (n : ℕ). take n (rows ++ more)) (sym number) ∙ take-append_seam rows more in
    record {
      there = omega (arith, all, number);
      named = named;
      replays = subst (λ (l : List Row). Replays (fold_of origin) l (Ok zone.records)) (sym front) (subst (λ (o : List (List ℕ)). Replays o rows (Ok zone.records)) named replays);
    }

pub zone_answered : {K : Type 0} (keeper : KeeperOf K) (access : Access) (before after : SeenOf K) (ask : Ask) (settled : Settled) (origin : List (List ℕ)) (rows more : List Row)
    → Settles keeper access before ask settled after → after.zone.origin ≡ fold_of origin → (keeper.told after.keeper).rows ≡ Some rows → IsZoneAt origin settled.length after.zone (rows ++ more)
zone_answered keeper access before after ask settled origin rows more s named told =
    let number : length rows ≡ settled.length = rows_at (keeper.told after.keeper).rows rows after.row_count told s.kept.count ∙ sym s.length in
    zone_of_rows origin rows more settled.length after.zone number named (stands_at (keeper.told after.keeper).rows rows after.zone told s.kept.zone)

-- ---- nothing else keeps it from being found

pub zone_found : (origin : List (List ℕ)) (count : ℕ) (zone : Contents) (rows : List Row) (f : AuditFault) → IsZoneAt origin count zone rows → HasNoZoneAt origin count (Some rows) f
    → (f ≡ fault.KeeperFault) ⊎ (f ≡ fault.OutOfMemory)
zone_found origin count zone rows fault.KeeperFault at none = inl refl
zone_found origin count zone rows (fault.Short some) at none =
    let there : count ≤ length rows = at.there in
    let fewer : length rows < count = none.fewer in
    absurd (omega (arith, there, fewer))
zone_found origin count zone rows (fault.Recovery row why) at none =
    absurd (let both = replays_one (fold_of origin) (take count rows) (Ok zone.records) (Err (record { row = row; kind = why })) at.replays none.replays in cc)
zone_found origin count zone rows fault.AliasBesideOther at none = absurd none
zone_found origin count zone rows fault.NotEmpty at none = absurd none
zone_found origin count zone rows fault.OutOfMemory at none = inr refl

-- ---- an answer that made no row

idle_ends : {K : Type 0} (keeper : KeeperOf K) (before after : SeenOf K) (ask : Ask) (batch : List Record) (fails : Bool) (receipt : Option Receipt) → receipt ≡ None → Ends keeper before ask batch fails receipt after
    → after.zone ≡ before.zone
idle_ends keeper before after ask batch fails receipt none (idle empty) = refl
idle_ends keeper before after ask batch fails receipt none (journalled some held grew run still) = absurd (let no = none in cc)
idle_ends keeper before after ask batch fails receipt none (failed some held kept same later rose) = refl

pub zone_idle : {K : Type 0} (keeper : KeeperOf K) (access : Access) (before after : SeenOf K) (ask : Ask) (settled : Settled) → Settles keeper access before ask settled after → settled.receipt ≡ None
    → after.zone ≡ before.zone
zone_idle keeper access before after ask settled s none =
    ap (λ (book : SeenOf _). book.zone) s.counted ∙ idle_ends keeper before s.ended ask _ s.failed settled.receipt none s.ends
