-- What storing a batch does to a follower, by how its keeper answers.
use Rattle.std.proofs.Common.{◌≡◌, inr, ℕ, ◌<◌, ◌+◌, ◌^◌, List, [], ◌∷◌, ◌++◌, length, Option, Some, None, Result, Ok, Err}
use Rattle.std.proofs.Common.{refl, sym, ap, ◌∙◌, subst, arith}
use Rattle.std.specs.Prelude.{OnOk, OnErr, IfOk, IfErr, IfSome}
use Rattle.std.proofs.lemmas.List.{length-append}
use Rattle.dns_name.specs.Name.{fold_of}
use Rattle.dns_wire.specs.declared.record.Record.{Record}
use Rattle.dns_keeper.specs.declared.row.Row.{Row}
use Rattle.dns_keeper.specs.declared.keeper.KeepFault.{KeepFault}
use Rattle.dns_keeper.specs.declared.keeper.KeepFault.TheVariants as keep
use Rattle.dns_keeper.specs.Keeping.{KeeperOf, CountsBy}
use Rattle.dns_keeper.specs.Calls.{Appends}
use Rattle.dns_keeper.specs.Crash.{LeavesTold}
use Rattle.dns_zone_map.specs.Zone.{Contents}
use Rattle.dns_update.specs.Replay.{Replays}
use Rattle.dns_store.specs.Store.{StoreOf, HasRows, StandFor, IsStored}
use Rattle.dns_store.specs.Crash.{LeavesOpened}
use Rattle.dns_store.specs.declared.opening.OpenFault.{OpenFault}
use Rattle.dns_follow.specs.declared.frame.Frame.{Frame}
use Rattle.dns_follow.specs.declared.answer.Taken.TheVariants.{Stored}
use Rattle.dns_follow.specs.declared.answer.FollowFault.TheVariants.{KeeperFault, OutOfMemory}
use Rattle.dns_follow.specs.Feed.{row_of}
use Rattle.dns_follow.specs.Following.{State, Fits, Stores, TakesFrame}
use Rattle.dns_follow.specs.Seen.{SeenOf, IsWritable, AreStored, IsSound}
use Rattle.dns_follow.specs.Growing.{EndBehind}
use Rattle.dns_follow.specs.Leaving.{LeavesBatch}
use Rattle.dns_follow.proofs.Holding.{held_of}
use Rattle.dns_follow.proofs.Sound.{GoesOn, held_now, sound_stored, stores, would_end, sound_kept, sound_dropped}

pub on_ok : {T F : Type 0} (P : Type 0) (r : Result T F) (v : T) → r ≡ Ok v → OnOk r P → P
on_ok P (Ok v) w e p = p
on_ok P (Err f) w e p = absurd cc

pub on_err : {T F : Type 0} (P : Type 0) (r : Result T F) (f : F) → r ≡ Err f → OnErr r P → P
on_err P (Ok v) f e p = absurd cc
on_err P (Err g) f e p = p

counted : {T : Type 0} (before now : ℕ) (r q : Result T KeepFault) → r ≡ q → CountsBy before now r → CountsBy before now q
counted before now r q e c = subst (CountsBy before now) e c

module _ {K : Type 0} (keeper : KeeperOf K) (old new : K) (origin : List (List ℕ)) (zone : Option Contents) (count : ℕ) (held : List Row) (records : List Record) (f : Frame) (r : Record)
    (moment : ℕ) (sound : IsSound (keeper.told old) origin zone count held records) (goes : GoesOn count held f r) (result : Result (Unit {0}) KeepFault)
    (appends : Appends keeper old new f.client f.serial moment (records ++ r ∷ []) result) (next : Contents) (ends : EndBehind origin zone count (held ++ row_of f ∷ []) (Ok next.records)) where
  some : 0 < length (records ++ r ∷ [])
  some = omega (arith, length-append records (r ∷ []))

  abbrev pub before : State
  before = record { count = count; told = keeper.told old; held = held }

  pub fits : Fits before f
  fits = record { wanted = goes.wanted; on = goes.on }

  pub stored_sound : (done : Unit {0}) → result ≡ Ok done → next.origin ≡ origin → IsSound (keeper.told new) origin (Some next) f.id [] []
  stored_sound done is named =
      sound_stored origin zone count held records f r (keeper.told old) (keeper.told new) next moment sound goes named ends (on_ok _ result done is appends.ok) (on_ok _ result done is appends.run)

  pub stored_takes : (done : Unit {0}) (left : List Row) → result ≡ Ok done → left ≡ [] → f.mark ≡ 1
      → TakesFrame origin before f moment (Ok (Stored f.id)) (record { count = f.id; told = keeper.told new; held = left })
  stored_takes done left is none marked = (
    record { fits = fits; marked = marked },
    (next.records, would_end origin zone count held records f r (keeper.told old) (Ok next.records) sound ends),
    refl,
    subst (λ (l : List Row). Stores before f moment (record { count = f.id; told = keeper.told new; held = l })) (sym none)
        (stores origin zone count held records f r (keeper.told old) (keeper.told new) moment sound goes (on_ok _ result done is appends.ok) (on_ok _ result done is appends.run)
        (counted (keeper.told old).faults (keeper.told new).faults result (Ok done) is appends.cause.counts)),
  )

  pub stored_leaves : (done : Unit {0}) → result ≡ Ok done → LeavesTold (keeper.told new) (keeper.may_leave new)
  stored_leaves done is = on_ok _ result done is (appends.alone some)

  pub refused_sound : (fault : KeepFault) → result ≡ Err fault → IsSound (keeper.told new) origin zone count held records
  refused_sound fault is =
      sound_kept origin zone count held records (keeper.told old) (keeper.told new) sound (on_err _ result fault is appends.err) (on_err _ result fault is appends.batches)

  pub dropped_sound : (fault : KeepFault) → result ≡ Err fault → IsSound (keeper.told new) origin zone count [] []
  dropped_sound fault is = sound_dropped origin zone count held records (keeper.told new) (refused_sound fault is)

  pub failed_takes : (left : List Row) → result ≡ Err keep.Failed → left ≡ [] → f.mark ≡ 1
      → TakesFrame origin before f moment (Err KeeperFault) (record { count = count; told = keeper.told new; held = left })
  failed_takes left is none marked = (
    record { fits = fits; marked = marked },
    (next.records, would_end origin zone count held records f r (keeper.told old) (Ok next.records) sound ends),
    record {
      left = record { rows = on_err _ result keep.Failed is appends.err; batches = on_err _ result keep.Failed is appends.batches; count = refl; held = none };
      rose = counted (keeper.told old).faults (keeper.told new).faults result (Err keep.Failed) is appends.cause.counts;
      later = appends.cause.later;
    },
  )

  pub wanting_takes : (left : List Row) → result ≡ Err keep.OutOfMemory → left ≡ held
      → TakesFrame origin before f moment (Err OutOfMemory) (record { count = count; told = keeper.told new; held = left })
  wanting_takes left is same = record {
    left = record { rows = on_err _ result keep.OutOfMemory is appends.err; batches = on_err _ result keep.OutOfMemory is appends.batches; count = refl; held = same };
    uncounted = counted (keeper.told old).faults (keeper.told new).faults result (Err keep.OutOfMemory) is appends.cause.counts;
  }

  pub refused_leaves : f.mark ≡ 1
      → LeavesBatch keeper (record { keeper = old; origin = origin; zone = zone; count = count; held = held }) f moment
      (record { keeper = new; origin = origin; zone = zone; count = count; held = held })
  refused_leaves marked = inr (
    records ++ r ∷ [],
    record { fits = fits; marked = marked },
    held_of IsWritable (count + 1) f.client f.serial (held ++ row_of f ∷ []) (records ++ r ∷ [])
        (held_now origin zone count held records f r (keeper.told old) sound goes),
    appends.left,
  )

-- ---- a store that is followed

-- what a crash may leave of its journal, by how it was opened
pub leaves_of : {K : Type 0} (keeper : KeeperOf K) (old : K) (store : StoreOf K) (seen : SeenOf K) (result : Result (SeenOf K) (OpenFault K)) → LeavesOpened keeper old store.keeper
    → seen.keeper ≡ store.keeper → IfOk result (λ s. s ≡ seen) → IfOk result (λ s. LeavesOpened keeper old s.keeper)
leaves_of keeper old store seen (Ok s) left same is = subst (LeavesOpened keeper old) (sym same ∙ ap (λ (x : SeenOf _). x.keeper) (sym is)) left
leaves_of keeper old store seen (Err f) left same is = tt

pub leaves_unopened : {K : Type 0} (keeper : KeeperOf K) (old : K) (store : StoreOf K) (result : Result (SeenOf K) (OpenFault K)) → LeavesOpened keeper old store.keeper
    → IfErr result (λ f. f.keeper ≡ store.keeper) → IfErr result (λ f. LeavesOpened keeper old f.keeper)
leaves_unopened keeper old store (Ok s) left back = tt
leaves_unopened keeper old store (Err f) left back = subst (LeavesOpened keeper old) (sym back) left

stored_as : (rows : Option (List Row)) (origin : List (List ℕ)) (zone : Contents) (count : ℕ) → zone.origin ≡ origin → HasRows rows count → StandFor rows zone
    → IfSome rows (AreStored origin (Some zone) count)
stored_as None origin zone count named many stand = tt
stored_as (Some rows) origin zone count named many stand = record { size = many; stands = subst (λ (o : List (List ℕ)). Replays o rows (Ok zone.records)) named stand }

pub sound_of_store : {K : Type 0} (keeper : KeeperOf K) (store : StoreOf K) (origin : List (List ℕ)) → store.zone.origin ≡ origin → fold_of origin ≡ origin → IsStored keeper store
    → store.row_count < 2 ^ 63 → IsSound (keeper.told store.keeper) origin (Some store.zone) store.row_count [] []
sound_of_store keeper store origin named folded stored few = record {
  folded = folded;
  named = named;
  few = omega arith;
  stored = stored_as (keeper.told store.keeper).rows origin store.zone store.row_count named stored.count stored.zone;
  covered = stored.covered;
  client = 0;
  serial = 0;
  held_is = tt;
}
