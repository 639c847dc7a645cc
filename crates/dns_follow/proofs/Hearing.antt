-- One payload more of the bytes of a piece, and how taking them ends.
use Rattle.std.proofs.Common.{◌≡◌, ◌∙◌, ℕ, ◌+◌, List, [], ◌∷◌, ◌++◌, length, map, Some, Ok, Err, Result, refl, sym, ap, subst, inl, inr, arith, length-append}
use Rattle.std.specs.List.{AllByRecursion}
use Rattle.std.proofs.lemmas.List.{map-append}
use Rattle.dns_frames.specs.Frames.{frames, Accounts, Gives}
use Rattle.dns_frames.proofs.Cutting.{Accounts-given}
use Rattle.dns_keeper.specs.Keeping.{KeeperOf}
use Rattle.dns_follow.specs.declared.answer.Taken.{Taken}
use Rattle.dns_follow.specs.declared.answer.FollowFault.{FollowFault}
use Rattle.dns_follow.specs.declared.answer.FollowFault.TheVariants.{BadFrame, Mixed, Refused, KeeperFault, Read, Turns, OutOfMemory}
use Rattle.dns_follow.specs.Following.{Step, Takes, Runs}
use Rattle.dns_follow.specs.Seen.{SeenOf, state_of}
use Rattle.dns_follow.specs.Leaving.{LeavesTaken}
use Rattle.dns_follow.specs.Followed.{Goes, IsFine}
use Rattle.dns_follow.specs.Heard.{TakesPayloads, HearsUntil, Hears}

-- what holds of all of two lists
pub all_both : {X : Type 0} (P : X → Type 0) (xs ys : List X) → AllByRecursion P xs → AllByRecursion P ys → AllByRecursion P (xs ++ ys)
all_both P [] ys h g = g
all_both P (x ∷ xs) ys h g = (h.0, all_both P xs ys h.1 g)

pub all_more : {X : Type 0} (P : X → Type 0) (xs : List X) (x : X) → AllByRecursion P xs → P x → AllByRecursion P (xs ++ x ∷ [])
all_more P xs x h p = all_both P xs (x ∷ []) h (p, tt)

-- payloads that were taken behind others
pub goes_both : {K : Type 0} (keeper : KeeperOf K) (s m t : SeenOf K) (a b : List Step) → Goes keeper s a m → Goes keeper m b t → Goes keeper s (a ++ b) t
goes_both {K} keeper s m t [] b h g = subst (λ (x : SeenOf K). Goes keeper x b t) h g
goes_both keeper s m t (x ∷ a) b h g = (h.0, h.1, h.2, h.3, goes_both keeper h.0 m t a b h.4 g)

-- what they did to what a follower tells
pub goes_runs : {K : Type 0} (keeper : KeeperOf K) (s t : SeenOf K) (steps : List Step) → Goes keeper s steps t → Runs s.origin (state_of keeper s) steps (state_of keeper t)
goes_runs keeper s t [] h = ap (state_of keeper) h
goes_runs keeper s t (step ∷ steps) h =
    (state_of keeper h.0, h.2, subst (λ (o : List (List ℕ)). Runs o (state_of keeper h.0) steps (state_of keeper t)) h.1 (goes_runs keeper h.0 t steps h.4))

pub one_longer : {X : Type 0} (xs : List X) (x : X) (n : ℕ) → n ≡ length xs → n + 1 ≡ length (xs ++ x ∷ [])
one_longer xs x n e = omega (arith, length-append xs (x ∷ []))

module _ {K : Type 0} (keeper : KeeperOf K) (moment : ℕ) (before : SeenOf K) (bytes : List ℕ) where
  -- one more
  front_more : (steps : List Step) (left left' payload slice : List ℕ) (now after : SeenOf K) (answer : Result Taken FollowFault) → TakesPayloads keeper moment before bytes steps left now
      → Gives left (Some payload) left' → slice ≡ payload → Takes now.origin (state_of keeper now) slice moment answer (state_of keeper after)
      → LeavesTaken keeper now slice moment after answer → after.origin ≡ now.origin
      → TakesPayloads keeper moment before bytes (steps ++ record { payload = payload; moment = moment; answer = answer } ∷ []) left' after
  front_more steps left left' payload slice now after answer h gives is takes crash named =
      let step : Step = record { payload = payload; moment = moment; answer = answer } in
      let took : Takes now.origin (state_of keeper now) payload moment answer (state_of keeper after) =
      subst (λ (l : List ℕ). Takes now.origin (state_of keeper now) l moment answer (state_of keeper after)) is takes in
      let leaves : LeavesTaken keeper now payload moment after answer = subst (λ (l : List ℕ). LeavesTaken keeper now l moment after answer) is crash in
      record {
        given = subst (λ (ps : List (List ℕ)). Accounts bytes ps left') (sym (map-append (λ (s : Step). s.payload) steps (step ∷ [])))
            (Accounts-given bytes left left' (map (λ (s : Step). s.payload) steps) (Some payload) gives h.given);
        moments = all_more (λ (s : Step). s.moment ≡ moment) steps step h.moments refl;
        goes = goes_both keeper before now after steps (step ∷ []) h.goes (after, named, took, leaves, refl);
      }

  -- all payloads so far were taken
  pub record Taking (left : List ℕ) (now : SeenOf K) (count : ℕ) : Type 0 where
    pub steps : List Step
    pub front : TakesPayloads keeper moment before bytes steps left now
    pub fine : AllByRecursion IsFine steps
    pub number : count ≡ length steps
    pub named : now.origin ≡ before.origin

  pub Taking-begun : (left : List ℕ) → left ≡ bytes → Taking left before 0
  Taking-begun left all = record {
    steps = [];
    front = record { given = ap frames (sym all); moments = tt; goes = refl };
    fine = tt;
    number = refl;
    named = refl;
  }

  pub Taking-more : (left left' payload slice : List ℕ) (now after : SeenOf K) (count : ℕ) (taken : Taken) → Taking left now count
      → Gives left (Some payload) left' → slice ≡ payload → Takes now.origin (state_of keeper now) slice moment (Ok taken) (state_of keeper after)
      → LeavesTaken keeper now slice moment after (Ok taken) → after.origin ≡ now.origin → Taking left' after (count + 1)
  Taking-more left left' payload slice now after count taken h gives is takes crash named =
      let step : Step = record { payload = payload; moment = moment; answer = Ok taken } in
      record {
        steps = h.steps ++ step ∷ [];
        front = front_more h.steps left left' payload slice now after (Ok taken) h.front gives is takes crash named;
        fine = all_more IsFine h.steps step h.fine (taken, refl);
        number = one_longer h.steps step count h.number;
        named = named ∙ h.named;
      }

  -- a payload was not taken
  hears_until : (left left' payload slice : List ℕ) (now after : SeenOf K) (count : ℕ) (fault : FollowFault) → Taking left now count
      → Gives left (Some payload) left' → slice ≡ payload → Takes now.origin (state_of keeper now) slice moment (Err fault) (state_of keeper after)
      → LeavesTaken keeper now slice moment after (Err fault) → after.origin ≡ now.origin → HearsUntil keeper moment before bytes after fault
  hears_until left left' payload slice now after count fault h gives is takes crash named = record {
    steps = h.steps;
    last = record { payload = payload; moment = moment; answer = Err fault };
    left = left';
    front = front_more h.steps left left' payload slice now after (Err fault) h.front gives is takes crash named;
    fine = h.fine;
    refused = refl;
  }

  pub hears_refused : (left left' payload slice : List ℕ) (now after : SeenOf K) (count : ℕ) (fault : FollowFault) → Taking left now count
      → Gives left (Some payload) left' → slice ≡ payload → Takes now.origin (state_of keeper now) slice moment (Err fault) (state_of keeper after)
      → LeavesTaken keeper now slice moment after (Err fault) → after.origin ≡ now.origin → Hears keeper moment before bytes left' after (Err fault)
  hears_refused left left' payload slice now after count BadFrame h gives is takes crash named = hears_until left left' payload slice now after count BadFrame h gives is takes crash named
  hears_refused left left' payload slice now after count (Mixed row) h gives is takes crash named = hears_until left left' payload slice now after count (Mixed row) h gives is takes crash named
  hears_refused left left' payload slice now after count (Refused row kind) h gives is takes crash named = hears_until left left' payload slice now after count (Refused row kind) h gives is takes crash named
  hears_refused left left' payload slice now after count KeeperFault h gives is takes crash named = hears_until left left' payload slice now after count KeeperFault h gives is takes crash named
  hears_refused left left' payload slice now after count OutOfMemory h gives is takes crash named = inl (hears_until left left' payload slice now after count OutOfMemory h gives is takes crash named)
  hears_refused left left' payload slice now after count Read h gives is takes crash named = absurd takes.2
  hears_refused left left' payload slice now after count (Turns reads) h gives is takes crash named = absurd takes.2

  -- memory ran out
  pub hears_part : (left left' : List ℕ) (now : SeenOf K) (count : ℕ) → Taking left now count → Hears keeper moment before bytes left' now (Err OutOfMemory)
  hears_part left left' now count h = inr (record { steps = h.steps; left = left; front = h.front; fine = h.fine })
