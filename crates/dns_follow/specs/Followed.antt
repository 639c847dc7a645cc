-- What following an input did, read by read.
use Rattle.std.specs.Prelude.{◌≡◌, ◌⊎◌, ◌<◌, ◌≤◌, ◌-◌, ℕ, List, [], ◌∷◌, ◌++◌, length, map, take, Option, IfSome, Result, Ok, Err}
use Rattle.std.specs.List.{AllByRecursion}
use Rattle.dns_io.specs.declared.io_fault.IoFault.TheVariants as io
use Rattle.dns_io.specs.Told.{Keeps, Rose, Takes}
use Rattle.dns_edges.specs.Edges.{SourceOf, ClockOf}
use Rattle.dns_edges.specs.Listening.{Arrival, IsPiece, Listens, bytes_of, room}
use Rattle.dns_frames.specs.Frames.{frames}
use Rattle.dns_keeper.specs.Keeping.{KeeperOf}
use Rattle.dns_follow.specs.declared.answer.Taken.{Taken}
use Rattle.dns_follow.specs.declared.answer.FollowFault.{FollowFault}
use Rattle.dns_follow.specs.declared.answer.FollowFault.TheVariants.{BadFrame, Mixed, Refused, KeeperFault, Read, Turns, OutOfMemory}
use Rattle.dns_follow.specs.Following.{Step, Takes as TakesPayload}
use Rattle.dns_follow.specs.Seen.{SeenOf, state_of}
use Rattle.dns_follow.specs.Leaving.{LeavesTaken}

-- the answer tells that the payload was taken
abbrev pub IsFine : Step → Type 0
IsFine step = (taken : Taken) × (step.answer ≡ Ok taken)

-- nothing is left, where that is told
abbrev pub IsAtEnd : Option (List ℕ) → Type 0
IsAtEnd left = IfSome left (λ bytes. bytes ≡ [])

-- payloads that a follower took one after another, each from where the one before it had led: what each did to the follower, and what a
-- crash may leave of its journal behind it. The origin stays
abbrev pub Goes : {K : Type 0} → KeeperOf K → SeenOf K → List Step → SeenOf K → Type 0
Goes keeper s [] t = t ≡ s
Goes {K} keeper s (step ∷ steps) t = (m : SeenOf K) × (m.origin ≡ s.origin)
    × TakesPayload s.origin (state_of keeper s) step.payload step.moment step.answer (state_of keeper m)
    × LeavesTaken keeper s step.payload step.moment m step.answer × Goes keeper m steps t

-- a whole message of an input, and the moment at which it came
pub record Came : Type 0 where
  pub payload : List ℕ
  pub moment : ℕ

abbrev pub came_at : ℕ → List ℕ → Came
came_at moment payload = record { payload = payload; moment = moment }

-- the whole messages that reads bring, behind bytes that are no whole message yet: each came at the reading of the clock behind the read
-- that completes it
unfoldable pub stamped : List ℕ → List Arrival → List Came
stamped rest [] = []
stamped rest (a ∷ later) =
    map (came_at a.at) (frames (rest ++ a.piece)).messages ++ stamped (frames (rest ++ a.piece)).rest later

-- the message that a payload was, and its moment
abbrev pub came_of : Step → Came
came_of step = came_at step.moment step.payload

-- all reads but the last
abbrev pub before_last : List Arrival → List Arrival
before_last arrivals = take (length arrivals - 1) arrivals

module _ {K S C : Type 0} (keeper : KeeperOf K) (source : SourceOf S) (clock : ClockOf C) where
  -- what was read up to a source and a clock, in reads of at least one byte; the payloads that a follower took of it, from the front on,
  -- each at the reading of the clock behind the read that completes it, so that these are left of its whole messages; and what the follower
  -- did with each, and what a crash may leave of its journal behind each
  pub record HeardUpTo (s : S) (c : C) (before : SeenOf K) (heard : S) (ticked : C) (steps : List Step) (rest : List Came)
      (after : SeenOf K) : Type 0 where
    pub arrivals : List Arrival
    pub made : Listens source clock s c arrivals heard ticked
    pub pieces : AllByRecursion (λ a. IsPiece a.piece) arrivals
    pub taken : Takes (source.told s).left (source.told heard).left (bytes_of arrivals)
    pub calm : (source.told heard).faults ≡ (source.told s).faults
    pub messages : (frames (bytes_of arrivals)).messages ≡ map (λ step. step.payload) steps ++ map (λ c. c.payload) rest
    pub came : stamped [] arrivals ≡ map came_of steps ++ rest
    pub goes : Goes keeper before steps after

  module _ (reads : ℕ) (s : S) (c : C) (before : SeenOf K) (t : S) (d : C) (after : SeenOf K) where
    -- the input came to its end, and all whole messages of it were taken, so many
    pub record FollowsAll (count : ℕ) : Type 0 where
      pub heard : S
      pub steps : List Step
      pub up_to : HeardUpTo s c before heard d steps [] after
      pub fine : AllByRecursion IsFine steps
      pub number : count ≡ length steps
      pub within : length up_to.arrivals < reads
      pub ended : source.reads heard room (Ok []) t
      pub kept : Keeps (source.told heard).left (source.told t).left
      pub end : IsAtEnd (source.told t).left
      pub calm : (source.told t).faults ≡ (source.told heard).faults

    -- a payload that the last read completed was not taken, for this cause, and nothing more was read; all those before it were
    pub record StopsAt (fault : FollowFault) : Type 0 where
      pub steps : List Step
      pub last : Step
      pub rest : List Came
      pub up_to : HeardUpTo s c before t d (steps ++ last ∷ []) rest after
      pub fine : AllByRecursion IsFine steps
      pub refused : last.answer ≡ Err fault
      pub in_last : length (stamped [] (before_last up_to.arrivals)) ≤ length steps
      pub within : length up_to.arrivals ≤ reads

    -- so many reads were made, none of them was the end, and all whole messages that they brought were taken
    pub record ReadsAll (count : ℕ) : Type 0 where
      pub steps : List Step
      pub up_to : HeardUpTo s c before t d steps [] after
      pub fine : AllByRecursion IsFine steps
      pub all : length up_to.arrivals ≡ reads
      pub number : count ≡ reads

    -- a read failed; all whole messages before it were taken
    pub record FailsReading : Type 0 where
      pub heard : S
      pub steps : List Step
      pub up_to : HeardUpTo s c before heard d steps [] after
      pub fine : AllByRecursion IsFine steps
      pub within : length up_to.arrivals < reads
      pub failed : source.reads heard room (Err io.Failed) t
      pub rose : Rose (source.told heard).faults (source.told t).faults

    -- memory ran out for what the last read brought or a message that it completed, and nothing more was read; or for one read more. All
    -- whole messages before that were taken
    pub record WantsMemory : Type 0 where
      pub heard : S
      pub steps : List Step
      pub rest : List Came
      pub up_to : HeardUpTo s c before heard d steps rest after
      pub fine : AllByRecursion IsFine steps
      pub in_last : length (stamped [] (before_last up_to.arrivals)) ≤ length steps
      pub within : length up_to.arrivals ≤ reads
      pub refused : (t ≡ heard) ⊎ (source.reads heard room (Err io.OutOfMemory) t × (rest ≡ []) × (length up_to.arrivals < reads))
      pub calm : (source.told t).faults ≡ (source.told heard).faults

    -- how following an input ends, by its answer
    abbrev pub Follows : Result ℕ FollowFault → Type 0
    Follows (Ok count) = FollowsAll count
    Follows (Err Read) = FailsReading
    Follows (Err (Turns count)) = ReadsAll count
    Follows (Err OutOfMemory) = StopsAt OutOfMemory ⊎ WantsMemory
    Follows (Err BadFrame) = StopsAt BadFrame
    Follows (Err (Mixed row)) = StopsAt (Mixed row)
    Follows (Err (Refused row kind)) = StopsAt (Refused row kind)
    Follows (Err KeeperFault) = StopsAt KeeperFault
