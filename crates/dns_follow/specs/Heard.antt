-- What a follower takes of a piece of its input.
use Rattle.std.specs.Prelude.{◌≡◌, ◌⊎◌, ℕ, List, [], ◌∷◌, ◌++◌, length, map, Result, Ok, Err}
use Rattle.std.specs.List.{AllByRecursion}
use Rattle.dns_frames.specs.Frames.{frames, Accounts}
use Rattle.dns_keeper.specs.Keeping.{KeeperOf}
use Rattle.dns_follow.specs.declared.answer.FollowFault.{FollowFault}
use Rattle.dns_follow.specs.declared.answer.FollowFault.TheVariants.{BadFrame, Mixed, Refused, KeeperFault, Read, Turns, OutOfMemory}
use Rattle.dns_follow.specs.Following.{Step}
use Rattle.dns_follow.specs.Seen.{SeenOf}
use Rattle.dns_follow.specs.Followed.{Goes, IsFine}

module _ {K : Type 0} (keeper : KeeperOf K) (moment : ℕ) (before : SeenOf K) (bytes : List ℕ) where
  -- the payloads that a follower took of bytes at a moment, from the front on, so that these bytes are left; and what it did with each, and
  -- what a crash may leave of its journal behind each
  pub record TakesPayloads (steps : List Step) (left : List ℕ) (after : SeenOf K) : Type 0 where
    pub given : Accounts bytes (map (λ step. step.payload) steps) left
    pub moments : AllByRecursion (λ step. step.moment ≡ moment) steps
    pub goes : Goes keeper before steps after

  -- all whole messages were taken, so many
  pub record HearsAll (left : List ℕ) (after : SeenOf K) (count : ℕ) : Type 0 where
    pub steps : List Step
    pub front : TakesPayloads steps left after
    pub fine : AllByRecursion IsFine steps
    pub number : count ≡ length steps
    pub none : (frames left).messages ≡ []

  -- a payload was not taken, for this cause; all those before it were
  pub record HearsUntil (after : SeenOf K) (fault : FollowFault) : Type 0 where
    pub steps : List Step
    pub last : Step
    pub left : List ℕ
    pub front : TakesPayloads (steps ++ last ∷ []) left after
    pub fine : AllByRecursion IsFine steps
    pub refused : last.answer ≡ Err fault

  -- memory ran out for the bytes, or for a message of them; all those before it were taken
  pub record HearsPart (after : SeenOf K) : Type 0 where
    pub steps : List Step
    pub left : List ℕ
    pub front : TakesPayloads steps left after
    pub fine : AllByRecursion IsFine steps

  -- how taking the messages of bytes ends, by its answer
  abbrev pub Hears : List ℕ → SeenOf K → Result ℕ FollowFault → Type 0
  Hears left after (Ok count) = HearsAll left after count
  Hears left after (Err Read) = ⊥
  Hears left after (Err (Turns reads)) = ⊥
  Hears left after (Err OutOfMemory) = HearsUntil after OutOfMemory ⊎ HearsPart after
  Hears left after (Err BadFrame) = HearsUntil after BadFrame
  Hears left after (Err (Mixed row)) = HearsUntil after (Mixed row)
  Hears left after (Err (Refused row kind)) = HearsUntil after (Refused row kind)
  Hears left after (Err KeeperFault) = HearsUntil after KeeperFault
