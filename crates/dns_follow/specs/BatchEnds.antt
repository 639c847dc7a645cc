-- How a batch ends that was to be stored: what is answered, and what is left of its rows.
use Rattle.std.specs.Prelude.{◌≡◌, ℕ, List, [], ◌∷◌, ◌++◌, Result, Ok, Err}
use Rattle.dns_keeper.specs.declared.keeper.KeepFault.{KeepFault}
use Rattle.dns_keeper.specs.declared.keeper.KeepFault.TheVariants as keep
use Rattle.dns_zone.specs.declared.replaying.ReplayFault.{ReplayFault}
use Rattle.dns_zone.specs.declared.replaying.ReplayFault.TheVariants as replay
use Rattle.dns_follow.specs.declared.answer.Taken.{Taken}
use Rattle.dns_follow.specs.declared.answer.Taken.TheVariants.{Stored}
use Rattle.dns_follow.specs.declared.answer.FollowFault.{FollowFault}
use Rattle.dns_follow.specs.declared.answer.FollowFault.TheVariants.{Refused, KeeperFault, OutOfMemory}

-- what is answered to the frame of this id that ends a batch, by how the keeper took it
abbrev pub stored_as : ℕ → Result (Unit {0}) KeepFault → Result Taken FollowFault
stored_as id (Ok done) = Ok (Stored id)
stored_as id (Err keep.Failed) = Err KeeperFault
stored_as id (Err keep.OutOfMemory) = Err OutOfMemory

-- what is answered to a batch that makes no zone
abbrev pub refused_as : ReplayFault → FollowFault
refused_as (replay.Refused row kind) = Refused row kind
refused_as replay.OutOfMemory = OutOfMemory

-- what is left of its rows, or of their records, by what is answered: where memory ran out all but the last, else none
abbrev pub LeavesHeld : {T : Type 0} → Result Taken FollowFault → List T → List T → Type 0
LeavesHeld {T} (Err OutOfMemory) rows left = (front : List T) (last : T) → rows ≡ front ++ last ∷ [] → left ≡ front
LeavesHeld _ rows left = left ≡ []
