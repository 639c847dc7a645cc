-- What a follower answers is one, by the rules.
use Rattle.std.proofs.Common.{◌≡◌, ℕ, pos, ◌<◌, ◌≤◌, List, [], ◌++◌, Bool, true, false, Option, Some, Ok, Err, Result, refl, sym, ap, ◌∙◌, subst, arith}
use Rattle.std.specs.Prelude.{◌==◌, ◌≢◌, nat_lt, IfSome}
use Rattle.std.proofs.lemmas.Bool.Decides.{nat_tests}
use Rattle.dns_wire.specs.declared.record.Record.{Record}
use Rattle.dns_keeper.specs.declared.row.Row.{Row}
use Rattle.dns_update.specs.Replay.{Refusal, Replays}
use Rattle.dns_update.proofs.Replayed.{replays_one}
use Rattle.dns_follow.specs.declared.frame.Frame.{Frame}
use Rattle.dns_follow.specs.declared.answer.Taken.{Taken}
use Rattle.dns_follow.specs.declared.answer.Taken.TheVariants.{Known, Ahead, Held, Stored}
use Rattle.dns_follow.specs.declared.answer.FollowFault.{FollowFault}
use Rattle.dns_follow.specs.declared.answer.FollowFault.TheVariants.{BadFrame, Mixed, Refused, KeeperFault, Read, Turns, OutOfMemory}
use Rattle.dns_follow.specs.Feed.{row_of}
use Rattle.dns_follow.specs.Following.{State, want, Fits, last_of, joins, batch_with, WouldEnd, TakesFrame, Takes}
use Rattle.dns_follow.specs.Behind.{IsByRule}
use Rattle.dns_follow.proofs.Law.{Did, bad, wanting, taken, did}

-- what a marked frame that is the wanted one and fits is answered, by the end of the rows with its batch
abbrev ended_by : Frame → Result (List Record) Refusal → Result Taken FollowFault
ended_by f (Ok records) = Ok (Stored f.id)
ended_by f (Err refusal) = Err (Refused refusal.row refusal.kind)

-- what a frame is answered, by four tests: its id is below the wanted one, it is above, the row goes on with the held ones, there is no mark
abbrev picked : Bool → Bool → Bool → Bool → State → Frame → Result (List Record) Refusal → Result Taken FollowFault
picked true above goes_on unmarked s f end = Ok Known
picked false true goes_on unmarked s f end = Ok (Ahead (want s) f.id)
picked false false false unmarked s f end = Err (Mixed (pos f.id))
picked false false true true s f end = Ok Held
picked false false true false s f end = ended_by f end

abbrev answer_of : State → Frame → Result (List Record) Refusal → Result Taken FollowFault
answer_of s f end = picked (nat_lt f.id (want s)) (nat_lt (want s) f.id) (joins (last_of s.held) (row_of f)) (f.mark == 0) s f end

-- the answer of which the keeper's failure is in place
abbrev meant : Frame → Result Taken FollowFault → Result Taken FollowFault
meant f (Err KeeperFault) = Ok (Stored f.id)
meant f answer = answer

below : (a b : ℕ) → a < b → nat_lt a b ≡ true
below a b h = grind (arith, nat_tests)

not_below : (a b : ℕ) → b ≤ a → nat_lt a b ≡ false
not_below a b h = grind (arith, nat_tests)

by_tests : (s : State) (f : Frame) (end : Result (List Record) Refusal) (b c d e : Bool) → nat_lt f.id (want s) ≡ b → nat_lt (want s) f.id ≡ c → joins (last_of s.held) (row_of f) ≡ d → (f.mark == 0) ≡ e
    → picked b c d e s f end ≡ answer_of s f end
by_tests s f end b c d e p q r t =
    sym (ap (λ (x : Bool). picked x (nat_lt (want s) f.id) (joins (last_of s.held) (row_of f)) (f.mark == 0) s f end) p
    ∙ ap (λ (x : Bool). picked b x (joins (last_of s.held) (row_of f)) (f.mark == 0) s f end) q
    ∙ ap (λ (x : Bool). picked b c x (f.mark == 0) s f end) r
    ∙ ap (λ (x : Bool). picked b c d x s f end) t)

meant_is : (f : Frame) (answer : Result Taken FollowFault) → answer ≢ Err KeeperFault → meant f answer ≡ answer
meant_is f (Ok Known) h = refl
meant_is f (Ok (Ahead w got)) h = refl
meant_is f (Ok Held) h = refl
meant_is f (Ok (Stored n)) h = refl
meant_is f (Err BadFrame) h = refl
meant_is f (Err (Mixed row)) h = refl
meant_is f (Err (Refused row kind)) h = refl
meant_is f (Err KeeperFault) h = absurd (h refl)
meant_is f (Err OutOfMemory) h = refl
meant_is f (Err Read) h = refl
meant_is f (Err (Turns reads)) h = refl

not_want : (answer : Result Taken FollowFault) → answer ≡ Err KeeperFault → answer ≢ Err OutOfMemory
not_want answer is so = absurd cc

module _ (origin : List (List ℕ)) (s : State) (rows : List Row) (told : s.told.rows ≡ Some rows) where
  -- an answer by the rules: by the end of the rows with the batch, or whatever that is
  data IsOf (f : Frame) (answer : Result Taken FollowFault) : Type 0 where
    always : ((end : Result (List Record) Refusal) → answer ≡ answer_of s f end) → IsOf f answer
    ended : (end : Result (List Record) Refusal) → Replays origin (rows ++ batch_with s f) end → answer ≡ answer_of s f end → IsOf f answer

  -- two such answers are one
  one_of : (f : Frame) (a b : Result Taken FollowFault) → IsOf f a → IsOf f b → a ≡ b
  one_of f a b (always x) (always y) = x (Ok []) ∙ sym (y (Ok []))
  one_of f a b (always x) (ended e p y) = x e ∙ sym y
  one_of f a b (ended d o x) (always y) = x ∙ sym (y d)
  one_of f a b (ended d o x) (ended e p y) =
      let same : d ≡ e = replays_one origin (rows ++ batch_with s f) d e o p in
      x ∙ ap (λ (end : Result (List Record) Refusal). answer_of s f end) same ∙ sym y

  ends_so : (f : Frame) (end : Result (List Record) Refusal) → WouldEnd origin s f end → Replays origin (rows ++ batch_with s f) end
  ends_so f end would = subst (λ (o : Option (List Row)). IfSome o (λ l. Replays origin (l ++ batch_with s f) end)) told would

  no_less : (f : Frame) → f.id ≡ want s → nat_lt f.id (want s) ≡ false
  no_less f e = not_below f.id (want s) (omega arith)

  no_more : (f : Frame) → f.id ≡ want s → nat_lt (want s) f.id ≡ false
  no_more f e = not_below (want s) f.id (omega arith)

  one_mark : (f : Frame) → f.mark ≡ 1 → (f.mark == 0) ≡ false
  one_mark f e = ap (λ n. n == 0) e

  no_mark : (f : Frame) → f.mark ≡ 0 → (f.mark == 0) ≡ true
  no_mark f e = ap (λ n. n == 0) e

  marked : (f : Frame) (end : Result (List Record) Refusal) → Fits s f → f.mark ≡ 1 → ended_by f end ≡ answer_of s f end
  marked f end fits mark = by_tests s f end false false true false (no_less f fits.wanted) (no_more f fits.wanted) fits.on (one_mark f mark)

  is_of : (f : Frame) (moment : ℕ) (answer : Result Taken FollowFault) (t : State) → TakesFrame origin s f moment answer t → answer ≢ Err OutOfMemory → IsOf f (meant f answer)
  is_of f moment (Ok Known) t takes fine =
      let less : f.id < want s = takes.0 in
      always (λ end. by_tests s f end true (nat_lt (want s) f.id) (joins (last_of s.held) (row_of f)) (f.mark == 0) (below f.id (want s) less) refl refl refl)
  is_of f moment (Ok (Ahead w got)) t takes fine =
      let more : want s < f.id = takes.0 in
      let is : Ok (Ahead w got) ≡ Ok (Ahead (want s) f.id) = ap (λ n. Ok (Ahead n got)) takes.1 ∙ ap (λ n. Ok (Ahead (want s) n)) takes.2 in
      always (λ end. is ∙ by_tests s f end false true (joins (last_of s.held) (row_of f)) (f.mark == 0) (not_below f.id (want s) (omega arith)) (below (want s) f.id more) refl refl)
  is_of f moment (Ok Held) t takes fine =
      always (λ end. by_tests s f end false false true true (no_less f takes.0.wanted) (no_more f takes.0.wanted) takes.0.on (no_mark f takes.1))
  is_of f moment (Ok (Stored n)) t takes fine =
      ended (Ok takes.1.0) (ends_so f (Ok takes.1.0) takes.1.1) (ap (λ k. Ok (Stored k)) takes.2 ∙ marked f (Ok takes.1.0) takes.0.fits takes.0.marked)
  is_of f moment (Err BadFrame) t takes fine = absurd takes
  is_of f moment (Err (Mixed row)) t takes fine =
      always (λ end. ap (λ k. Err (Mixed k)) takes.2 ∙ by_tests s f end false false false (f.mark == 0) (no_less f takes.0) (no_more f takes.0) takes.1 refl)
  is_of f moment (Err (Refused row kind)) t takes fine =
      let end : Result (List Record) Refusal = Err (record { row = row; kind = kind }) in
      ended end (ends_so f end takes.1) (marked f end takes.0.fits takes.0.marked)
  is_of f moment (Err KeeperFault) t takes fine = ended (Ok takes.1.0) (ends_so f (Ok takes.1.0) takes.1.1) (marked f (Ok takes.1.0) takes.0.fits takes.0.marked)
  is_of f moment (Err OutOfMemory) t takes fine = absurd (fine refl)
  is_of f moment (Err Read) t takes fine = absurd takes
  is_of f moment (Err (Turns reads)) t takes fine = absurd takes

  module _ (payload : List ℕ) (m n : ℕ) (t u : State) where
    -- two answers to one payload: it carries no row, or its frame does, and then they are meant to be one
    data Both (a b : Result Taken FollowFault) : Type 0 where
      neither : a ≡ Err BadFrame → b ≡ Err BadFrame → Both a b
      same : (f : Frame) → meant f a ≡ meant f b → Both a b

    both_did : (a b : Result Taken FollowFault) → Did origin s payload m a t → Did origin s payload n b u → a ≢ Err OutOfMemory → b ≢ Err OutOfMemory → Both a b
    both_did a b (wanting is left) g x y = absurd (x is)
    both_did a b (bad is none kept) (wanting so left) x y = absurd (y so)
    both_did a b (bad is none kept) (bad so none' kept') x y = neither is so
    both_did a b (bad is none kept) (taken g) x y = absurd (none g.frame g.carries)
    both_did a b (taken h) (wanting so left) x y = absurd (y so)
    both_did a b (taken h) (bad so none kept) x y = absurd (none h.frame h.carries)
    both_did a b (taken h) (taken g) x y =
        let all : Some g.frame ≡ Some h.frame = sym g.carries.is ∙ h.carries.is in
        let one : g.frame ≡ h.frame = cc in
        let takes : TakesFrame origin s h.frame n b u = subst (λ (f : Frame). TakesFrame origin s f n b u) one g.takes in
        same h.frame (one_of h.frame (meant h.frame a) (meant h.frame b) (is_of h.frame m a t h.takes x) (is_of h.frame n b u takes y))

    one_by : (a b : Result Taken FollowFault) → Both a b → IsByRule a → IsByRule b → a ≡ b
    one_by a b (neither is so) x y = is ∙ sym so
    one_by a b (same f e) x y = sym (meant_is f a x.0) ∙ e ∙ meant_is f b y.0

    stored_else : (b : Result Taken FollowFault) → Both (Err KeeperFault) b → IsByRule b → (id : ℕ) × (b ≡ Ok (Stored id))
    stored_else b (neither is so) y = absurd cc
    stored_else b (same f e) y = (f.id, sym (e ∙ meant_is f b y.0))

    pub one_answer : (a b : Result Taken FollowFault) → Takes origin s payload m a t → Takes origin s payload n b u → IsByRule a → IsByRule b → a ≡ b
    one_answer a b h g x y = one_by a b (both_did a b (did origin s payload m a t h) (did origin s payload n b u g) x.1 y.1) x y

    pub stored_failed : (b : Result Taken FollowFault) → Takes origin s payload m (Err KeeperFault) t → Takes origin s payload n b u → IsByRule b → (id : ℕ) × (b ≡ Ok (Stored id))
    stored_failed b h g y = stored_else b (both_did (Err KeeperFault) b (did origin s payload m (Err KeeperFault) t h) (did origin s payload n b u g) (not_want (Err KeeperFault) refl) y.1) y
