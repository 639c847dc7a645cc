-- Which counts of faults rose, by what a follower answered.
use Rattle.std.proofs.Common.{◌≡◌, ◌⊎◌, inl, inr, ℕ, List, [], ◌∷◌, ◌++◌, Result, Ok, Err, refl, sym, ap, ◌∙◌, subst}
use Rattle.std.specs.List.{AllByRecursion}
use Rattle.dns_io.specs.Told.{Rose}
use Rattle.dns_follow.specs.declared.answer.Taken.{Taken}
use Rattle.dns_follow.specs.declared.answer.Taken.TheVariants.{Known, Ahead, Held, Stored}
use Rattle.dns_follow.specs.declared.answer.FollowFault.{FollowFault}
use Rattle.dns_follow.specs.declared.answer.FollowFault.TheVariants as fault
use Rattle.dns_follow.specs.declared.status.FollowStatus.{FollowStatus}
use Rattle.dns_follow.specs.declared.status.FollowStatus.TheVariants as status
use Rattle.dns_follow.specs.Following.{State, Step, Runs, Takes}
use Rattle.dns_follow.specs.Followed.{IsFine}
use Rattle.dns_follow.specs.Status.{follow_status}

-- a count of faults, and the status of an end: it rose exactly where the status tells of that failing
pub record FailsBy (was now : ℕ) (failing meant : FollowStatus) : Type 0 where
  pub counts : (now ≡ was) ⊎ (Rose was now × (meant ≡ failing))
  pub cause : meant ≡ failing → Rose was now

pub stood : (was now : ℕ) (failing meant : FollowStatus) → now ≡ was → (meant ≡ failing → ⊥) → FailsBy was now failing meant
stood was now failing meant same never = record { counts = inl same; cause = λ is. absurd (never is) }

pub rose_by : (was now : ℕ) (failing : FollowStatus) → Rose was now → FailsBy was now failing failing
rose_by was now failing rose = record { counts = inr (rose, refl); cause = λ is. rose }

-- ---- payloads that were taken

taken_calm : (origin : List (List ℕ)) (s : State) (payload : List ℕ) (moment : ℕ) (taken : Taken) (t : State) → Takes origin s payload moment (Ok taken) t → t.told.faults ≡ s.told.faults
taken_calm origin s payload moment Known t takes = ap (λ (x : State). x.told.faults) takes.2.1
taken_calm origin s payload moment (Ahead want got) t takes = ap (λ (x : State). x.told.faults) takes.2.3
taken_calm origin s payload moment Held t takes = ap (λ (x : State). x.told.faults) takes.2.2
taken_calm origin s payload moment (Stored n) t takes = takes.2.3.uncounted

pub fine_calm : (origin : List (List ℕ)) (s : State) (steps : List Step) (t : State) → AllByRecursion IsFine steps → Runs origin s steps t → t.told.faults ≡ s.told.faults
fine_calm origin s [] t fine runs = ap (λ (x : State). x.told.faults) runs
fine_calm origin s (step ∷ steps) t fine runs =
    let takes : Takes origin s step.payload step.moment (Ok fine.0.0) runs.0 =
    subst (λ (a : Result Taken FollowFault). Takes origin s step.payload step.moment a runs.0) fine.0.1 runs.1 in
    fine_calm origin runs.0 steps t fine.1 runs.2 ∙ taken_calm origin s step.payload step.moment fine.0.0 runs.0 takes

-- ---- a payload that was not

refused_by : (origin : List (List ℕ)) (s : State) (payload : List ℕ) (moment : ℕ) (f : FollowFault) (t : State) → Takes origin s payload moment (Err f) t
    → FailsBy s.told.faults t.told.faults status.KeeperFault (follow_status f)
refused_by origin s payload moment fault.BadFrame t takes =
    stood s.told.faults t.told.faults status.KeeperFault status.BadFrame (ap (λ (x : State). x.told.faults) takes.1) (λ is. absurd (let no : status.BadFrame ≡ status.KeeperFault = is in cc))
refused_by origin s payload moment (fault.Mixed row) t takes =
    stood s.told.faults t.told.faults status.KeeperFault status.Mixed (ap (λ (x : State). x.told.faults) takes.2.3) (λ is. absurd (let no : status.Mixed ≡ status.KeeperFault = is in cc))
refused_by origin s payload moment (fault.Refused row kind) t takes =
    stood s.told.faults t.told.faults status.KeeperFault status.Refused (ap (λ (x : State). x.told.faults) takes.2.2) (λ is. absurd (let no : status.Refused ≡ status.KeeperFault = is in cc))
refused_by origin s payload moment fault.KeeperFault t takes = rose_by s.told.faults t.told.faults status.KeeperFault takes.2.2.rose
refused_by origin s payload moment fault.Read t takes = absurd takes.2
refused_by origin s payload moment (fault.Turns reads) t takes = absurd takes.2
refused_by origin s payload moment fault.OutOfMemory t takes =
    stood s.told.faults t.told.faults status.KeeperFault status.OutOfMemory takes.uncounted (λ is. absurd (let no : status.OutOfMemory ≡ status.KeeperFault = is in cc))

pub stopped_by : (origin : List (List ℕ)) (s : State) (steps : List Step) (last : Step) (t : State) (f : FollowFault) → AllByRecursion IsFine steps → last.answer ≡ Err f
    → Runs origin s (steps ++ last ∷ []) t → FailsBy s.told.faults t.told.faults status.KeeperFault (follow_status f)
stopped_by origin s [] last t f fine refused runs =
    let takes : Takes origin s last.payload last.moment (Err f) t =
    subst (λ (x : State). Takes origin s last.payload last.moment (Err f) x) (sym runs.2)
    (subst (λ (a : Result Taken FollowFault). Takes origin s last.payload last.moment a runs.0) refused runs.1) in
    refused_by origin s last.payload last.moment f t takes
stopped_by origin s (step ∷ steps) last t f fine refused runs =
    let takes : Takes origin s step.payload step.moment (Ok fine.0.0) runs.0 =
    subst (λ (a : Result Taken FollowFault). Takes origin s step.payload step.moment a runs.0) fine.0.1 runs.1 in
    let calm : runs.0.told.faults ≡ s.told.faults = taken_calm origin s step.payload step.moment fine.0.0 runs.0 takes in
    subst (λ (n : ℕ). FailsBy n t.told.faults status.KeeperFault (follow_status f)) calm (stopped_by origin runs.0 steps last t f fine.1 refused runs.2)
