-- What the rows of a journal stand for: after an update, after an opening, and in general.
use Rattle.std.proofs.Common.{◌≡◌, ℕ, suc, ◌+◌, ◌<◌, ◌^◌, List, [], ◌∷◌, ◌++◌, length, refl, sym, ap, ◌∙◌, subst, arith, Bool, true, false}
use Rattle.std.specs.Prelude.{ℤ, pos, ◌+ℤ◌, if◌then◌else◌, Result, Ok, Err}
use Rattle.std.specs.List.{list_any, AllByRecursion}
use Rattle.std.proofs.lemmas.List.{append-nil}
use Rattle.dns_wire.specs.declared.record.Record.{Record}
use Rattle.dns_wire.specs.declared.message.Message.{Message}
use Rattle.dns_wire.specs.ReadBack.{ReadsBack}
use Rattle.dns_keeper.specs.declared.row.Row.{Row}
use Rattle.dns_keeper.specs.Rows.{last_id, rows_of, appended}
use Rattle.dns_keeper.specs.Batches.{AreNumbered}
use Rattle.dns_zone_map.specs.Zone.{is_type, serial_of, IsZone}
use Rattle.dns_zone_map.specs.Changes.{set_serial}
use Rattle.dns_update.specs.Change.{batch_of, serial_after_batch, applied}
use Rattle.dns_update.specs.Verdict.{section_rule, prerequisites_rule, prescan, and_then, verdict_of}
use Rattle.dns_update.specs.declared.verdict.Verdict.TheVariants.{Passes}
use Rattle.dns_update.specs.Replay.{Refusal, IsJournalledAsIs, RunsTo, with_soa, Replays}
use Rattle.dns_update.proofs.Batches.{both_pass, batch_journalled}
use Rattle.dns_update.proofs.Serials.{steps_at, steps_applied}
use Rattle.dns_update.proofs.Rows.{runs_on, runs_one, last_is, numbered_from, batch_runs}
use Rattle.dns_update.proofs.Zones.{applied_zone}
use Rattle.dns_update.proofs.ZoneSerials.{settled}

-- rows that stand for records run to them, and there is an SOA
pub record HasRun (origin : List (List ℕ)) (rows : List Row) (records : List Record) : Type 0 where
  pub runs : RunsTo origin 1 [] rows (Ok records)
  pub soa : list_any (is_type 6) records ≡ true

run_if : (soa : Bool) (last : ℤ) (origin : List (List ℕ)) (rows : List Row) (records end : List Record) (refusal : Refusal) → list_any (is_type 6) end ≡ soa → RunsTo origin 1 [] rows (Ok end)
    → Ok records ≡ (if soa then Ok end else Err refusal) → HasRun origin rows records
run_if true last origin rows records end refusal soa runs is =
    let same : end ≡ records = cc in
    record { runs = subst (λ (l : List Record). RunsTo origin 1 [] rows (Ok l)) same runs; soa = subst (λ (l : List Record). list_any (is_type 6) l ≡ true) same soa }
run_if false last origin rows records end refusal soa runs is = absurd cc

run_by : (origin : List (List ℕ)) (rows : List Row) (records : List Record) (run : Result (List Record) Refusal) → RunsTo origin 1 [] rows run → Ok records ≡ with_soa (last_id rows) run → HasRun origin rows records
run_by origin rows records (Ok end) runs is = run_if (list_any (is_type 6) end) (last_id rows) origin rows records end _ refl runs is
run_by origin rows records (Err refusal) runs is = absurd cc

pub has_run : (origin : List (List ℕ)) (rows : List Row) (records : List Record) → Replays origin rows (Ok records) → HasRun origin rows records
has_run origin rows records p = run_by origin rows records p.run p.runs p.is

pub replay_of : (origin : List (List ℕ)) (rows : List Row) (records : List Record) → RunsTo origin 1 [] rows (Ok records) → list_any (is_type 6) records ≡ true → Replays origin rows (Ok records)
replay_of origin rows records runs soa = record { run = Ok records; runs = runs; is = rw soa refl }

-- rows stand for one thing
pub replays_one : (origin : List (List ℕ)) (rows : List Row) (a b : Result (List Record) Refusal) → Replays origin rows a → Replays origin rows b → a ≡ b
replays_one origin rows a b x y = x.is ∙ ap (with_soa (last_id rows)) (runs_one origin 1 [] rows x.run y.run x.runs y.runs) ∙ sym y.is

-- rows that run to records, with those of a batch behind them, run to the records after the batch
grown : (origin : List (List ℕ)) (rows : List Row) (client k : ℕ) (stamp : List ℕ) (l : List Record) (r : Record) (rs : List Record) → k < 2 ^ 32 → AllByRecursion (IsJournalledAsIs origin) (r ∷ rs) → HasRun origin rows l
    → RunsTo origin 1 [] (appended rows client k stamp (r ∷ rs)) (Ok (applied origin l (r ∷ rs) k))
grown origin [] client k stamp l r rs small all h =
    let none : l ≡ [] = let e = h.runs in cc in
    let no_soa : list_any (is_type 6) [] ≡ true = subst (λ (x : List Record). list_any (is_type 6) x ≡ true) none h.soa in
    absurd cc
grown origin (row ∷ rows) client k stamp l r rs small all h =
    let last : last_id (row ∷ rows) ≡ pos (1 + length rows) = last_is origin 1 [] row rows l h.runs in
    let next : last_id (row ∷ rows) +ℤ pos 1 ≡ pos (1 + suc (length rows)) = ap (λ (z : ℤ). z +ℤ pos 1) last ∙ ap pos (omega arith) in
    let batch : RunsTo origin (1 + suc (length rows)) l (rows_of (pos (1 + suc (length rows))) client k stamp (r ∷ rs)) (Ok (steps_at origin k l (r ∷ rs))) =
    batch_runs origin (1 + suc (length rows)) client k stamp l (r ∷ rs) (omega arith) small all in
    let whole = runs_on origin 1 [] (row ∷ rows) (rows_of (pos (1 + suc (length rows))) client k stamp (r ∷ rs)) l (Ok (steps_at origin k l (r ∷ rs))) h.runs batch in
    subst (λ (m : List Record). RunsTo origin 1 [] (appended (row ∷ rows) client k stamp (r ∷ rs)) (Ok m)) (steps_applied origin k l r rs)
    (subst (λ (id : ℤ). RunsTo origin 1 [] ((row ∷ rows) ++ rows_of id client k stamp (r ∷ rs)) (Ok (steps_at origin k l (r ∷ rs)))) (sym next) whole)

-- the law of replay, for a batch that can be journalled
pub replayed_batch : (origin : List (List ℕ)) (rows : List Row) (client : ℕ) (stamp : List ℕ) (l batch : List Record) → AllByRecursion (IsJournalledAsIs origin) batch → IsZone origin l → Replays origin rows (Ok l)
    → Replays origin (appended rows client (serial_after_batch origin l batch) stamp batch) (Ok (applied origin l batch (serial_after_batch origin l batch)))
replayed_batch origin rows client stamp l [] all zone p =
    let same : set_serial (serial_of l) l ≡ l = settled origin l zone.entries zone.distinct in
    subst (λ (xs : List Row). Replays origin xs (Ok (set_serial (serial_of l) l))) (sym (append-nil rows)) (subst (λ (m : List Record). Replays origin rows (Ok m)) (sym same) p)
replayed_batch origin rows client stamp l (r ∷ rs) all zone p =
    let k : ℕ = serial_after_batch origin l (r ∷ rs) in
    let small : k < 2 ^ 32 = omega arith in
    let after : IsZone origin (applied origin l (r ∷ rs) k) = applied_zone origin l (r ∷ rs) k zone all in
    replay_of origin (appended rows client k stamp (r ∷ rs)) (applied origin l (r ∷ rs) k) (grown origin rows client k stamp l r rs small all (has_run origin rows l p)) after.soa

-- an update that passes has passed the prescan
pub passed : (origin : List (List ℕ)) (l : List Record) (message : Message) (allow_update : Bool) → verdict_of (record { origin = origin; records = l }) message allow_update ≡ Passes → prescan origin message.authority ≡ Passes
passed origin l message allow_update h =
    let rest = both_pass (section_rule origin allow_update message.questions) (and_then (prerequisites_rule (record { origin = origin; records = l }) message.answers) (prescan origin message.authority)) h in
    (both_pass (prerequisites_rule (record { origin = origin; records = l }) message.answers) (prescan origin message.authority) rest.1).1

-- and for an update that passes
pub replayed_update : (origin : List (List ℕ)) (rows : List Row) (client : ℕ) (stamp : List ℕ) (l : List Record) (message : Message) (allow_update : Bool) → IsZone origin l → AllByRecursion ReadsBack message.authority
    → verdict_of (record { origin = origin; records = l }) message allow_update ≡ Passes → Replays origin rows (Ok l)
    → Replays origin (appended rows client (serial_after_batch origin l (batch_of origin l message.authority)) stamp (batch_of origin l message.authority))
    (Ok (applied origin l (batch_of origin l message.authority) (serial_after_batch origin l (batch_of origin l message.authority))))
replayed_update origin rows client stamp l message allow_update zone back verdict p =
    replayed_batch origin rows client stamp l (batch_of origin l message.authority)
    (batch_journalled origin l message.authority back (passed origin l message allow_update verdict)) zone p

-- rows that stand for records have the ids from 1 on
last_run : (origin : List (List ℕ)) (rows : List Row) (records : List Record) → HasRun origin rows records → last_id rows ≡ pos (length rows)
last_run origin [] records h = refl
last_run origin (row ∷ rows) records h = last_is origin 1 [] row rows records h.runs ∙ ap pos (omega arith)

pub last_replayed : (origin : List (List ℕ)) (rows : List Row) (records : List Record) → Replays origin rows (Ok records) → last_id rows ≡ pos (length rows)
last_replayed origin rows records p = last_run origin rows records (has_run origin rows records p)

pub numbered_replayed : (origin : List (List ℕ)) (rows : List Row) (records : List Record) → Replays origin rows (Ok records) → AreNumbered (pos 1) rows
numbered_replayed origin rows records p = numbered_from origin 1 [] rows records (has_run origin rows records p).runs
