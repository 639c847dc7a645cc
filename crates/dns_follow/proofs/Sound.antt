-- What always holds of a follower, after one row more and after a batch was stored.
use Rattle.std.proofs.Common.{◌≡◌, ℕ, ℤ, pos, ◌+◌, ◌+ℤ◌, ◌^◌, ◌<◌, List, [], ◌∷◌, ◌++◌, length, true, Option, Some, None, Result, Ok, refl, sym, ap, ◌∙◌, subst, arith}
use Rattle.std.specs.Prelude.{IfSome}
use Rattle.std.proofs.lemmas.List.{length-append}
use Rattle.dns_wire.specs.declared.record.Record.{Record}
use Rattle.dns_wire.specs.WireFormat.{AreShort}
use Rattle.dns_keeper.specs.declared.row.Row.{Row}
use Rattle.dns_keeper.specs.Rows.{last_id, rows_of}
use Rattle.dns_keeper.specs.Keeping.{KeeperTold, HasBatch, GrowsByBatch, GrowsByRun, KeepsBatches}
use Rattle.dns_io.specs.Told.{Keeps}
use Rattle.dns_zone_map.specs.Zone.{Contents}
use Rattle.dns_update.specs.Replay.{Refusal, Replays}
use Rattle.dns_update.proofs.Replayed.{last_replayed}
use Rattle.dns_store.proofs.ToldBatches.{covered_kept, covered_grown}
use Rattle.dns_follow.specs.declared.frame.Frame.{Frame}
use Rattle.dns_follow.specs.Feed.{row_of}
use Rattle.dns_follow.specs.Following.{last_of, joins, IsRow, WouldEnd, Stores}
use Rattle.dns_follow.specs.Seen.{IsWritable, AreHeld, AreStored, IsSound}
use Rattle.dns_follow.specs.Growing.{EndBehind}
use Rattle.dns_follow.proofs.Holding.{next_id, held_of, held_with, held_short, held_length, length-rows_of}
use Rattle.dns_follow.proofs.Alike.{alike_refl, alike_append, held_alike, replays_alike}

-- a frame that goes on with the held rows, and the record that it carries
pub record GoesOn (count : ℕ) (held : List Row) (f : Frame) (r : Record) : Type 0 where
  pub row : IsRow f r
  pub good : IsWritable r
  pub wanted : f.id ≡ count + length held + 1
  pub on : joins (last_of held) (row_of f) ≡ true

-- the last id of stored rows is their number
last_stored : (origin : List (List ℕ)) (zone : Option Contents) (count : ℕ) (rows : List Row) → AreStored origin zone count rows → last_id rows ≡ pos count
last_stored origin None count rows stored =
    let none : length rows ≡ 0 = ap length stored.stands in
    let size : length rows ≡ count = stored.size in
    ap last_id stored.stands ∙ ap pos (omega arith)
last_stored origin (Some zone) count rows stored = last_replayed origin rows zone.records stored.stands ∙ ap pos stored.size

module _ (origin : List (List ℕ)) (zone : Option Contents) (count : ℕ) (held : List Row) (records : List Record) (f : Frame) (r : Record) where
  pub held_now : (told : KeeperTold) → IsSound told origin zone count held records → GoesOn count held f r
      → AreHeld (count + 1) f.client f.serial (held ++ row_of f ∷ []) (records ++ r ∷ [])
  held_now told sound goes =
      let wanted : f.id ≡ count + length held + 1 = goes.wanted in
      let id : f.id ≡ count + 1 + length held = omega arith in
      held_with IsWritable (count + 1) sound.client sound.serial held records f r sound.held_is goes.on id goes.row.one goes.good

  pub sound_more : (told : KeeperTold) → IsSound told origin zone count held records → GoesOn count held f r
      → IsSound told origin zone count (held ++ row_of f ∷ []) (records ++ r ∷ [])
  sound_more told sound goes =
      let wanted : f.id ≡ count + length held + 1 = goes.wanted in
      let small : f.id < 2 ^ 63 = goes.row.few in
      let long : length (held ++ row_of f ∷ []) ≡ length held + 1 = length-append held (row_of f ∷ []) in
      record {
        folded = sound.folded;
        named = sound.named;
        few = omega arith;
        stored = sound.stored;
        covered = sound.covered;
        client = f.client;
        serial = f.serial;
        held_is = held_now told sound goes;
      }

  pub short_now : (told : KeeperTold) → IsSound told origin zone count held records → GoesOn count held f r → AreShort (records ++ r ∷ [])
  short_now told sound goes = held_short (count + 1) f.client f.serial (held ++ row_of f ∷ []) (records ++ r ∷ []) (held_now told sound goes)

  -- the stored rows with the batch, as a keeper writes it, are those of the zone with it
  stored_rows : (told : KeeperTold) (next : Contents) (moment : ℕ) (old new : List Row) → IsSound told origin zone count held records → GoesOn count held f r
      → EndBehind origin zone count (held ++ row_of f ∷ []) (Ok next.records) → AreStored origin zone count old → HasBatch old f.client f.serial moment (records ++ r ∷ []) new
      → AreStored origin (Some next) f.id new
  stored_rows told next moment old new sound goes ends stored batch =
      let wanted : f.id ≡ count + length held + 1 = goes.wanted in
      let are : AreHeld (count + 1) f.client f.serial (held ++ row_of f ∷ []) (records ++ r ∷ []) = held_now told sound goes in
      let written : List Row = rows_of (pos (count + 1)) f.client f.serial batch.stamp (records ++ r ∷ []) in
      let from : last_id old +ℤ pos 1 ≡ pos (count + 1) = ap (λ (z : ℤ). z +ℤ pos 1) (last_stored origin zone count old stored) ∙ next_id count in
      let at : new ≡ old ++ written = batch.is ∙ ap (λ (z : ℤ). old ++ rows_of z f.client f.serial batch.stamp (records ++ r ∷ [])) from in
      let many : length written ≡ length (records ++ r ∷ []) = length-rows_of (pos (count + 1)) f.client f.serial batch.stamp (records ++ r ∷ []) in
      let both : length (held ++ row_of f ∷ []) ≡ length (records ++ r ∷ []) = held_length IsWritable (count + 1) f.client f.serial (held ++ row_of f ∷ []) (records ++ r ∷ []) are in
      let long : length (held ++ row_of f ∷ []) ≡ length held + 1 = length-append held (row_of f ∷ []) in
      let all : length (old ++ written) ≡ length old + length written = length-append old written in
      let size : length new ≡ length (old ++ written) = ap length at in
      let before : length old ≡ count = stored.size in
      record {
        size = omega arith;
        stands = subst (λ (l : List Row). Replays origin l (Ok next.records)) (sym at)
            (replays_alike origin (old ++ (held ++ row_of f ∷ [])) (old ++ written) (Ok next.records)
            (alike_append old old (held ++ row_of f ∷ []) written (alike_refl old) (held_alike (count + 1) f.client f.serial batch.stamp (held ++ row_of f ∷ []) (records ++ r ∷ []) are))
            (ends old stored));
      }

  stored_told : (told : KeeperTold) (next : Contents) (moment : ℕ) (b n : Option (List Row)) → IsSound told origin zone count held records → GoesOn count held f r
      → EndBehind origin zone count (held ++ row_of f ∷ []) (Ok next.records) → IfSome b (AreStored origin zone count) → GrowsByBatch b n f.client f.serial moment (records ++ r ∷ [])
      → IfSome n (AreStored origin (Some next) f.id)
  stored_told told next moment b None sound goes ends stored grown = tt
  stored_told told next moment None (Some new) sound goes ends stored grown = absurd grown
  stored_told told next moment (Some old) (Some new) sound goes ends stored grown = stored_rows told next moment old new sound goes ends stored grown

-- the last id of the stored rows is their number, where they are told
numbered : (rows : Option (List Row)) (origin : List (List ℕ)) (zone : Option Contents) (count : ℕ) → IfSome rows (AreStored origin zone count) → IfSome rows (λ l. last_id l ≡ pos (length l))
numbered None origin zone count stored = tt
numbered (Some rows) origin zone count stored = last_stored origin zone count rows stored ∙ ap pos (sym stored.size)

module _ (origin : List (List ℕ)) (zone : Option Contents) (count : ℕ) (held : List Row) (records : List Record) (f : Frame) (r : Record) where
  -- a follower after its batch was stored
  pub sound_stored : (told now : KeeperTold) (next : Contents) (moment : ℕ) → IsSound told origin zone count held records → GoesOn count held f r → next.origin ≡ origin
      → EndBehind origin zone count (held ++ row_of f ∷ []) (Ok next.records) → GrowsByBatch told.rows now.rows f.client f.serial moment (records ++ r ∷ [])
      → GrowsByRun told now (records ++ r ∷ []) → IsSound now origin (Some next) f.id [] []
  sound_stored told now next moment sound goes named ends grown run =
      let small : f.id < 2 ^ 63 = goes.row.few in
      record {
        folded = sound.folded;
        named = named;
        few = omega arith;
        stored = stored_told origin zone count held records f r told next moment told.rows now.rows sound goes ends sound.stored grown;
        covered = covered_grown told now f.client f.serial moment (records ++ r ∷ []) grown run (numbered told.rows origin zone count sound.stored) sound.covered;
        client = f.client;
        serial = f.serial;
        held_is = tt;
      }

  -- and what it did
  pub stores : (told now : KeeperTold) (moment : ℕ) → IsSound told origin zone count held records → GoesOn count held f r
      → GrowsByBatch told.rows now.rows f.client f.serial moment (records ++ r ∷ []) → GrowsByRun told now (records ++ r ∷ []) → now.faults ≡ told.faults
      → Stores (record { count = count; told = told; held = held }) f moment (record { count = f.id; told = now; held = [] })
  stores told now moment sound goes grown run calm = record {
    records = records ++ r ∷ [];
    are = held_of IsWritable (count + 1) f.client f.serial (held ++ row_of f ∷ []) (records ++ r ∷ []) (held_now origin zone count held records f r told sound goes);
    grown = grown;
    run = run;
    uncounted = calm;
    count = refl;
    held = refl;
  }

  of_told : (rows : Option (List Row)) (end : Result (List Record) Refusal) → IfSome rows (AreStored origin zone count) → EndBehind origin zone count (held ++ row_of f ∷ []) end
      → IfSome rows (λ rows. Replays origin (rows ++ (held ++ row_of f ∷ [])) end)
  of_told None end stored ends = tt
  of_told (Some rows) end stored ends = ends rows stored

  -- how the rows with the batch end, where they are told
  pub would_end : (told : KeeperTold) (end : Result (List Record) Refusal) → IsSound told origin zone count held records → EndBehind origin zone count (held ++ row_of f ∷ []) end
      → WouldEnd origin (record { count = count; told = told; held = held }) f end
  would_end told end sound ends = of_told told.rows end sound.stored ends

-- the stored rows are those of the zone, whatever the keeper stopped telling
kept_rows : (b n : Option (List Row)) (P : List Row → Type 0) → Keeps b n → IfSome b P → IfSome n P
kept_rows b None P kept is = tt
kept_rows None (Some n) P kept is = absurd kept
kept_rows (Some b) (Some n) P kept is = subst P (sym kept) is

pub sound_kept : (origin : List (List ℕ)) (zone : Option Contents) (count : ℕ) (held : List Row) (records : List Record) (told now : KeeperTold) → IsSound told origin zone count held records
    → Keeps told.rows now.rows → KeepsBatches told now → IsSound now origin zone count held records
sound_kept origin zone count held records told now sound kept same = record {
  folded = sound.folded;
  named = sound.named;
  few = sound.few;
  stored = kept_rows told.rows now.rows (AreStored origin zone count) kept sound.stored;
  covered = covered_kept told now kept same sound.covered;
  client = sound.client;
  serial = sound.serial;
  held_is = sound.held_is;
}

-- a follower whose held rows are let go
pub sound_dropped : (origin : List (List ℕ)) (zone : Option Contents) (count : ℕ) (held : List Row) (records : List Record) (told : KeeperTold) → IsSound told origin zone count held records
    → IsSound told origin zone count [] []
sound_dropped origin zone count held records told sound =
    let few : count + length held < 2 ^ 63 = sound.few in
    record {
      folded = sound.folded;
      named = sound.named;
      few = omega arith;
      stored = sound.stored;
      covered = sound.covered;
      client = 0;
      serial = 0;
      held_is = tt;
    }
