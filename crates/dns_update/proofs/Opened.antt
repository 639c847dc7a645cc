-- The rows that a journal begins with stand for the zone that they were made of.
use Rattle.std.proofs.Common.{◌≡◌, ℕ, ◌+◌, ◌<◌, ◌^◌, List, [], ◌∷◌, ◌++◌, length, refl, ap, ◌∙◌, subst, arith, append_assoc, Bool, true, false}
use Rattle.std.specs.Prelude.{pos, not, ◌==◌, ◌&&◌, nat_lt, Ok}
use Rattle.std.specs.List.{AllByRecursion, IsDistinct}
use Rattle.std.proofs.lemmas.List.{append-nil}
use Rattle.std.proofs.lemmas.Bool.Decides.{Decides-eqb, nat_tests}
use Rattle.dns_name.specs.Name.{IsName, is_same_name}
use Rattle.dns_name.proofs.SameNames.{is_same_name-Decides}
use Rattle.dns_wire.specs.declared.record.Record.{Record}
use Rattle.dns_wire.specs.declared.rdata.Data.{Data}
use Rattle.dns_wire.specs.declared.rdata.Data.TheVariants.{A, Aaaa, Ns, Cname, Ptr, Mx, Srv, Soa, Txt, Opaque, Empty}
use Rattle.dns_wire.specs.WireFormat.{data_bytes}
use Rattle.dns_wire.specs.ReadBack.{ReadsBack}
use Rattle.dns_wire.proofs.Back.{record_alone}
use Rattle.dns_keeper.specs.Rows.{rows_of, appended}
use Rattle.dns_zone_map.specs.Changes.{put_over, at_serial, set_serial}
use Rattle.dns_zone_map.specs.Zone.{is_type, serial_of, is_rival, IsEntry, IsZone}
use Rattle.dns_update.specs.Change.{step}
use Rattle.dns_update.specs.Verdict.{is_empty, is_update}
use Rattle.dns_update.specs.Replay.{snapshot_of, opening_of, is_stray_soa, IsJournalledAsIs, RunsTo, Replays}
use Rattle.dns_update.proofs.Rivals.{is_rival-turned}
use Rattle.dns_update.proofs.Rows.{IsTaken, runs_next, row_at, taken_row}
use Rattle.dns_update.proofs.Replayed.{replay_of}
use Rattle.dns_update.proofs.ZoneSerials.{settled, serial_small}

-- an entry of a zone can be journalled as it is
some_data : (d : Data) → 0 < length (data_bytes d) → is_empty d ≡ false
some_data (A address) h = refl
some_data (Aaaa address) h = refl
some_data (Ns host) h = refl
some_data (Cname target) h = refl
some_data (Ptr target) h = refl
some_data (Mx preference exchange) h = refl
some_data (Srv priority weight port target) h = refl
some_data (Soa serial mname rname refresh retry expire minimum) h = refl
some_data (Txt texts) h = refl
some_data (Opaque bytes) h = refl
some_data Empty h = absurd (omega arith)

home_if : (soa here same : Bool) → (soa ≡ true → same ≡ true) → not (soa && (here && not same)) ≡ true
home_if true true true h = refl
home_if true true false h = absurd (let home = h refl in cc)
home_if true false same h = refl
home_if false here same h = refl

pub entry_journalled : (origin : List (List ℕ)) (r : Record) → IsEntry origin r → ReadsBack r → IsJournalledAsIs origin r
entry_journalled origin r e back =
    let here : (r.class == 1) ≡ true = (Decides-eqb r.class 1).1 e.class in
    let update : is_update r ≡ true = rw (here, e.plain, some_data r.rdata e.filled) refl in
    let home : not (is_stray_soa origin r) ≡ true = home_if (is_type 6 r) (r.class == 1) (is_same_name r.name origin) e.soa in
    record {
      back = back;
      folded = rw (e.owner, e.names) refl;
      journalled = rw (e.within, update, home) refl;
    }

-- what stands in the middle of a list
in_middle : (P : Record → Type 0) (front : List Record) (r : Record) (rest : List Record) → AllByRecursion P (front ++ r ∷ rest) → P r
in_middle P [] r rest all = all.0
in_middle P (o ∷ front) r rest all = in_middle P front r rest all.1

-- a record that has no rival in front of it comes at the end
comes_last : (front : List Record) (r : Record) (rest : List Record) → IsDistinct is_rival (front ++ r ∷ rest) → put_over (is_rival r) r front ≡ front ++ r ∷ []
unfolding IsDistinct
comes_last [] r rest distinct = refl
comes_last (o ∷ front) r rest distinct =
    let apart : is_rival r o ≡ false = is_rival-turned r o ∙ in_middle (λ x. is_rival o x ≡ false) front r rest distinct.0 in
    rw apart (ap (λ (l : List Record). o ∷ l) (comes_last front r rest distinct.1))

-- records in front of others that have a serial have it
front_same : (k : ℕ) (front rest : List Record) → set_serial k (front ++ rest) ≡ front ++ rest → set_serial k front ≡ front
front_same k [] rest same = refl
front_same k (o ∷ front) rest same =
    let first : at_serial k o ≡ o = cc in
    let more : set_serial k (front ++ rest) ≡ front ++ rest = cc in
    rw (first, front_same k front rest more) refl

-- the rows of a zone's records bring them one by one
zone_runs : (origin : List (List ℕ)) (place client k : ℕ) (stamp : List ℕ) (front records : List Record) → 1 < place → k < 2 ^ 32
    → AllByRecursion (IsEntry origin) records → AllByRecursion ReadsBack records → IsDistinct is_rival (front ++ records) → set_serial k (front ++ records) ≡ front ++ records
    → RunsTo origin place front (rows_of (pos place) client k stamp records) (Ok (front ++ records))
zone_runs origin place client k stamp front [] later small entries back distinct same = ap Ok (append-nil front)
zone_runs origin place client k stamp front (r ∷ records) later small entries back distinct same =
    let joined : (front ++ r ∷ []) ++ records ≡ front ++ r ∷ records = append_assoc front (r ∷ []) records in
    let here : (r.class == 1) ≡ true = (Decides-eqb r.class 1).1 entries.0.class in
    let put : step origin front r ≡ front ++ r ∷ [] = rw here (comes_last front r records distinct) in
    let still : set_serial k (front ++ r ∷ []) ≡ front ++ r ∷ [] = front_same k (front ++ r ∷ []) records (rw joined same) in
    let next : set_serial k (step origin front r) ≡ front ++ r ∷ [] = ap (set_serial k) put ∙ still in
    let taken : IsTaken origin place front (row_at place client k stamp r) (front ++ r ∷ []) =
    subst (λ (l : List Record). IsTaken origin place front (row_at place client k stamp r) l) next (taken_row origin place client k stamp front r later small (entry_journalled origin r entries.0 back.0)) in
    let rest : RunsTo origin (place + 1) (front ++ r ∷ []) (rows_of (pos (place + 1)) client k stamp records) (Ok ((front ++ r ∷ []) ++ records)) =
    zone_runs origin (place + 1) client k stamp (front ++ r ∷ []) records (omega arith) small entries.1 back.1 (rw joined distinct) (rw joined same) in
    runs_next origin place front (row_at place client k stamp r) (rows_of (pos (place + 1)) client k stamp records) (front ++ r ∷ []) (Ok (front ++ r ∷ records)) taken
    (subst (λ (l : List Record). RunsTo origin (place + 1) (front ++ r ∷ []) (rows_of (pos (place + 1)) client k stamp records) (Ok l)) joined rest)

-- the snapshot comes first
snapshot_back : (origin : List (List ℕ)) → IsName origin → ReadsBack (snapshot_of origin)
snapshot_back origin name = record {
  kept = record { name = name; rtype = omega arith; class = omega arith; ttl = omega arith; «data» = tt };
  form = refl;
  short = omega arith;
}

taken_snapshot : (origin : List (List ℕ)) (client k : ℕ) (stamp : List ℕ) → IsName origin → k < 2 ^ 32 → IsTaken origin 1 [] (row_at 1 client k stamp (snapshot_of origin)) []
taken_snapshot origin client k stamp name small =
    let same : is_same_name origin origin ≡ true = (is_same_name-Decides origin origin).1 refl in
    let serial : nat_lt k (2 ^ 32) ≡ true = grind (arith, nat_tests) in
    record {
      r = snapshot_of origin;
      one = record_alone (snapshot_of origin) (snapshot_back origin name);
      placed = rw (serial, same) refl;
      is = rw same refl;
    }

-- what a journal begins with stands for the zone
pub opened : (origin : List (List ℕ)) (client : ℕ) (stamp : List ℕ) (records : List Record) → IsName origin → IsZone origin records → AllByRecursion ReadsBack records
    → Replays origin (appended [] client (serial_of records) stamp (opening_of (record { origin = origin; records = records }))) (Ok records)
opened origin client stamp records name zone back =
    let k : ℕ = serial_of records in
    let small : k < 2 ^ 32 = serial_small records back in
    let same : set_serial k records ≡ records = settled origin records zone.entries zone.distinct in
    replay_of origin (appended [] client k stamp (opening_of (record { origin = origin; records = records }))) records
    (runs_next origin 1 [] (row_at 1 client k stamp (snapshot_of origin)) (rows_of (pos 2) client k stamp records) [] (Ok records)
    (taken_snapshot origin client k stamp name small)
    (zone_runs origin 2 client k stamp [] records (omega arith) small zone.entries back zone.distinct same)) zone.soa
