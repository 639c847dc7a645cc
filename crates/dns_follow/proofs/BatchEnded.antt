-- What the end of a batch does to a follower, by how its keeper took it, or by why it makes no zone.
use Rattle.std.proofs.Common.{◌≡◌, ℕ, List, [], ◌∷◌, ◌++◌, Option, Some, Result, Ok, Err, refl, ◌∙◌}
use Rattle.std.specs.Prelude.{OnOk, OnErr}
use Rattle.dns_wire.specs.declared.record.Record.{Record}
use Rattle.dns_keeper.specs.declared.row.Row.{Row}
use Rattle.dns_keeper.specs.declared.keeper.KeepFault.{KeepFault}
use Rattle.dns_keeper.specs.declared.keeper.KeepFault.TheVariants as keep
use Rattle.dns_keeper.specs.Keeping.{KeeperOf}
use Rattle.dns_keeper.specs.Calls.{Appends}
use Rattle.dns_zone.specs.declared.replaying.ReplayFault.{ReplayFault}
use Rattle.dns_zone.specs.declared.replaying.ReplayFault.TheVariants as replay
use Rattle.dns_zone_map.specs.Zone.{Contents}
use Rattle.dns_follow.specs.declared.frame.Frame.{Frame}
use Rattle.dns_follow.specs.Feed.{row_of}
use Rattle.dns_follow.specs.Following.{State, TakesFrame}
use Rattle.dns_follow.specs.Seen.{SeenOf, IsSound}
use Rattle.dns_follow.specs.Growing.{EndBehind}
use Rattle.dns_follow.specs.Leaving.{LeavesFrame}
use Rattle.dns_follow.specs.BatchEnds.{stored_as, refused_as, LeavesHeld}
use Rattle.dns_follow.proofs.Sound.{GoesOn, sound_dropped}
use Rattle.dns_follow.proofs.Storing.{stored_sound, stored_takes, stored_leaves, refused_sound, dropped_sound, failed_takes, wanting_takes, refused_leaves}

pub unchanged_on_err : {T F A : Type 0} (result : Result T F) (now same before : A) → OnErr result (now ≡ same) → same ≡ before → OnErr result (now ≡ before)
unchanged_on_err (Ok v) now same before e is = e
unchanged_on_err (Err f) now same before e is = e ∙ is

module _ {K : Type 0} (keeper : KeeperOf K) (old : K) (origin : List (List ℕ)) (zone : Option Contents) (count : ℕ) (held : List Row) (records : List Record) (f : Frame) (r : Record)
    (moment : ℕ) (sound : IsSound (keeper.told old) origin zone count held records) (goes : GoesOn count held f r) (marked : f.mark ≡ 1) where
  abbrev pub start : State
  start = record { count = count; told = keeper.told old; held = held }

  abbrev pub seen : SeenOf K
  seen = record { keeper = old; origin = origin; zone = zone; count = count; held = held }

  -- a batch that makes a zone, which was handed to the keeper
  module _ (new : K) (next : Contents) (ends : EndBehind origin zone count (held ++ row_of f ∷ []) (Ok next.records)) where
    pub ended_sound : (result : Result (Unit {0}) KeepFault) → Appends keeper old new f.client f.serial moment (records ++ r ∷ []) result → next.origin ≡ origin
        → (zone' : Option Contents) (count' : ℕ) (held' : List Row) (records' : List Record) → OnOk result (zone' ≡ Some next) → OnErr result (zone' ≡ zone)
        → OnOk result (count' ≡ f.id) → OnErr result (count' ≡ count) → LeavesHeld (stored_as f.id result) (held ++ row_of f ∷ []) held'
        → LeavesHeld (stored_as f.id result) (records ++ r ∷ []) records' → IsSound (keeper.told new) origin zone' count' held' records'
    ended_sound (Ok done) appends named zone' count' held' records' grown same counted uncounted h rs =
        rw (grown, counted, h, rs) (stored_sound keeper old new origin zone count held records f r moment sound goes (Ok done) appends next ends done refl named)
    ended_sound (Err keep.Failed) appends named zone' count' held' records' grown same counted uncounted h rs =
        rw (same, uncounted, h, rs) (dropped_sound keeper old new origin zone count held records f r moment sound goes (Err keep.Failed) appends next ends keep.Failed refl)
    ended_sound (Err keep.OutOfMemory) appends named zone' count' held' records' grown same counted uncounted h rs =
        rw (same, uncounted, h held (row_of f) refl, rs records r refl)
        (refused_sound keeper old new origin zone count held records f r moment sound goes (Err keep.OutOfMemory) appends next ends keep.OutOfMemory refl)

    pub ended_takes : (result : Result (Unit {0}) KeepFault) → Appends keeper old new f.client f.serial moment (records ++ r ∷ []) result
        → (count' : ℕ) (held' : List Row) → OnOk result (count' ≡ f.id) → OnErr result (count' ≡ count) → LeavesHeld (stored_as f.id result) (held ++ row_of f ∷ []) held'
        → TakesFrame origin start f moment (stored_as f.id result) (record { count = count'; told = keeper.told new; held = held' })
    ended_takes (Ok done) appends count' held' counted uncounted h =
        rw counted (stored_takes keeper old new origin zone count held records f r moment sound goes (Ok done) appends next ends done held' refl h marked)
    ended_takes (Err keep.Failed) appends count' held' counted uncounted h =
        rw uncounted (failed_takes keeper old new origin zone count held records f r moment sound goes (Err keep.Failed) appends next ends held' refl h marked)
    ended_takes (Err keep.OutOfMemory) appends count' held' counted uncounted h =
        rw uncounted
        (wanting_takes keeper old new origin zone count held records f r moment sound goes (Err keep.OutOfMemory) appends next ends held' refl (h held (row_of f) refl))

    pub ended_leaves : (result : Result (Unit {0}) KeepFault) → Appends keeper old new f.client f.serial moment (records ++ r ∷ []) result
        → (zone' : Option Contents) (count' : ℕ) (held' : List Row)
        → LeavesFrame keeper seen f moment (record { keeper = new; origin = origin; zone = zone'; count = count'; held = held' }) (stored_as f.id result)
    ended_leaves (Ok done) appends zone' count' held' = stored_leaves keeper old new origin zone count held records f r moment sound goes (Ok done) appends next ends done refl
    ended_leaves (Err keep.Failed) appends zone' count' held' =
        refused_leaves keeper old new origin zone count held records f r moment sound goes (Err keep.Failed) appends next ends marked
    ended_leaves (Err keep.OutOfMemory) appends zone' count' held' =
        refused_leaves keeper old new origin zone count held records f r moment sound goes (Err keep.OutOfMemory) appends next ends marked

  -- a batch that makes none
  pub refusal_sound : (fault : ReplayFault) (zone' : Option Contents) (held' : List Row) (records' : List Record) → zone' ≡ zone → LeavesHeld (Err (refused_as fault)) (held ++ row_of f ∷ []) held'
      → LeavesHeld (Err (refused_as fault)) (records ++ r ∷ []) records' → IsSound (keeper.told old) origin zone' count held' records'
  refusal_sound (replay.Refused row kind) zone' held' records' same h rs = rw (same, h, rs) (sound_dropped origin zone count held records (keeper.told old) sound)
  refusal_sound replay.OutOfMemory zone' held' records' same h rs = rw (same, h held (row_of f) refl, rs records r refl) sound
