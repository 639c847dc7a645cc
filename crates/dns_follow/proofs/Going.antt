-- An input that is followed, from read to read, and how it ends.
use Rattle.std.proofs.Common.{◌≡◌, ◌≤◌, ◌<◌, ◌∙◌, ℕ, ◌+◌, ◌-◌, List, [], ◌∷◌, ◌++◌, length, map, take, Option, Some, None, Ok, Err, refl, sym, ap, subst, inl, inr, arith, length-append, append-nil, append_assoc}
use Rattle.std.specs.List.{AllByRecursion}
use Rattle.std.proofs.lemmas.List.{map-append, length-map, length-take-le}
use Rattle.dns_io.specs.declared.io_fault.IoFault.{IoFault}
use Rattle.dns_io.specs.declared.io_fault.IoFault.TheVariants as io
use Rattle.dns_io.specs.Told.{EndsAt, Keeps, Takes}
use Rattle.dns_io.proofs.ToldContents.{Told-same, Takes-more}
use Rattle.dns_edges.specs.Edges.{SourceOf, ClockOf, Reads}
use Rattle.dns_edges.specs.Listening.{Arrival, IsPiece, bytes_of, room}
use Rattle.dns_edges.proofs.Listened.{Listens-more, bytes_of-push}
use Rattle.dns_frames.specs.Frames.{Cut, ahead, frames, Accounts}
use Rattle.dns_frames.proofs.Cutting.{frames-nil, Accounts-fed}
use Rattle.dns_keeper.specs.Keeping.{KeeperOf}
use Rattle.dns_follow.specs.declared.answer.FollowFault.{FollowFault}
use Rattle.dns_follow.specs.declared.answer.FollowFault.TheVariants.{BadFrame, Mixed, Refused, KeeperFault, Read, Turns, OutOfMemory}
use Rattle.dns_follow.specs.Following.{Step}
use Rattle.dns_follow.specs.Seen.{SeenOf}
use Rattle.dns_follow.specs.Followed.{Came, before_last, came_at, came_of, stamped, IsFine, IsAtEnd, HeardUpTo, StopsAt, Follows}
use Rattle.dns_follow.specs.Heard.{TakesPayloads, HearsUntil, Hears}
use Rattle.dns_follow.proofs.Hearing.{all_both, all_more, goes_both, one_longer}
use Rattle.dns_follow.proofs.Stamping.{before_last-push, came-taken, payloads-back, stamped-front, stamped-none, stamped-push}

-- a source that gave nothing is at its end
at_end : (a b : Option (List ℕ)) → Takes a b [] → EndsAt a b 0 → IsAtEnd b
at_end a None t e = tt
at_end None (Some y) t e = absurd t
at_end (Some x) (Some y) t e = sym t ∙ e.0 refl

-- what took nothing
Keeps-taken : (a b : Option (List ℕ)) → Takes a b [] → Keeps a b
Keeps-taken a None t = tt
Keeps-taken None (Some y) t = absurd t
Keeps-taken (Some x) (Some y) t = sym t

-- what was fed and given goes on with a piece, and what was given of that
given_more : (fed piece left left' : List ℕ) (a b : List (List ℕ)) → Accounts fed a left → Accounts (left ++ piece) b left' → Accounts (fed ++ piece) (a ++ b) left'
given_more fed piece left left' a b h g =
    Accounts-fed fed piece left (left ++ piece) a refl h ∙ ap (ahead a) g
    ∙ ap (λ (ms : List (List ℕ)). record { messages = ms; rest = (frames left').rest }) (sym (append_assoc a b (frames left').messages))

module _ {K S C : Type 0} (keeper : KeeperOf K) (source : SourceOf S) (clock : ClockOf C) (s : S) (c : C) (before : SeenOf K) where
  -- between two reads: all whole messages so far were taken
  pub record Going (now : S) (ticked : C) (turn : ℕ) (left : List ℕ) (follower : SeenOf K) (count : ℕ) : Type 0 where
    pub steps : List Step
    pub up_to : HeardUpTo keeper source clock s c before now ticked steps [] follower
    pub turns : length up_to.arrivals ≡ turn
    pub given : Accounts (bytes_of up_to.arrivals) (map (λ step. step.payload) steps) left
    pub fine : AllByRecursion IsFine steps
    pub number : count ≡ length steps
    pub none : (frames left).messages ≡ []

  pub Going-begun : (left : List ℕ) → left ≡ [] → Going s c 0 left before 0
  Going-begun left empty = record {
    steps = [];
    up_to = record {
      arrivals = [];
      made = (refl, refl);
      pieces = tt;
      taken = Told-same (λ l r. l ≡ [] ++ r) (λ x. refl) (source.told s).left;
      calm = refl;
      messages = ap (λ (cut : Cut). cut.messages) frames-nil;
      came = stamped-none;
      goes = refl;
    };
    turns = refl;
    given = ap frames (sym empty);
    fine = tt;
    number = refl;
    none = ap (λ (l : List ℕ). (frames l).messages) empty ∙ ap (λ (cut : Cut). cut.messages) frames-nil;
  }

  -- one read more, and what was taken of it; the reads before it brought so many
  record GoesOn (now : S) (ticked : C) (turn : ℕ) (steps : List Step) (rest : List Came) (left : List ℕ) (follower : SeenOf K) (earlier : ℕ) : Type 0 where
    up_to : HeardUpTo keeper source clock s c before now ticked steps rest follower
    turns : length up_to.arrivals ≡ turn + 1
    in_last : length (stamped [] (before_last up_to.arrivals)) ≡ earlier
    given : Accounts (bytes_of up_to.arrivals) (map (λ step. step.payload) steps) left

  -- a read
  pub record Arrives (now next : S) (ticked tock : C) (piece : List ℕ) (moment : ℕ) : Type 0 where
    pub is_piece : IsPiece piece
    pub made : source.reads now room (Ok piece) next
    pub taken : Takes (source.told now).left (source.told next).left piece
    pub calm : (source.told next).faults ≡ (source.told now).faults
    pub reading : clock.ticks ticked moment tock

  pub arrives : (now next : S) (ticked tock : C) (space filled : List ℕ) (size moment : ℕ) → length space ≡ 4096 → length filled ≡ 4096
      → Reads (source.told now) (source.told next) filled (Ok size) → source.reads now (length space) (Ok (take size filled)) next → (size ≡ 0 → ⊥)
      → clock.ticks ticked moment tock → Arrives now next ticked tock (take size filled) moment
  arrives now next ticked tock space filled size moment long full r made some reading =
      let is : length (take size filled) ≡ size = length-take-le size filled r.count in
      let most : size ≤ length filled = r.count in
      record {
        is_piece = (omega (arith, some), omega arith);
        made = subst (λ (n : ℕ). source.reads now n (Ok (take size filled)) next) long made;
        taken = r.given;
        calm = r.cause.counts;
        reading = reading;
      }

  module _ (now next : S) (ticked tock : C) (turn : ℕ) (left piece : List ℕ) (follower after : SeenOf K) (count moment : ℕ) (g : Going now ticked turn left follower count)
      (a : Arrives now next ticked tock piece moment) where
    goes_on : (left' : List ℕ) (steps : List Step) → TakesPayloads keeper moment follower (left ++ piece) steps left' after
        → GoesOn next tock turn (g.steps ++ steps) (map (came_at moment) (frames left').messages) left' after (length g.steps)
    goes_on left' steps t =
        let arrival : Arrival = record { at = moment; piece = piece } in
        let ps : List Arrival = g.up_to.arrivals in
        let paid : List (List ℕ) = map (λ (x : Step). x.payload) g.steps in
        let pays : List (List ℕ) = map (λ (x : Step). x.payload) steps in
        let given : Accounts (bytes_of (ps ++ arrival ∷ [])) (map (λ (x : Step). x.payload) (g.steps ++ steps)) left' =
        subst (λ (l : List ℕ). Accounts l (map (λ (x : Step). x.payload) (g.steps ++ steps)) left') (bytes_of-push ps arrival)
        (subst (λ (l : List (List ℕ)). Accounts (bytes_of ps ++ piece) l left') (sym (map-append (λ (x : Step). x.payload) g.steps steps))
        (given_more (bytes_of ps) piece left left' paid pays g.given t.given)) in
        let rest : List Came = map (came_at moment) (frames left').messages in
        let so_far : stamped [] ps ≡ map came_of g.steps = g.up_to.came ∙ append-nil (map came_of g.steps) in
        let pushed : stamped [] (ps ++ arrival ∷ []) ≡ stamped [] ps ++ map (came_at moment) (frames (left ++ piece)).messages =
        stamped-push ps arrival left paid g.given g.none in
        let here : map (came_at moment) (frames (left ++ piece)).messages ≡ map came_of steps ++ rest =
        ap (λ (cut : Cut). map (came_at moment) cut.messages) t.given
        ∙ map-append (came_at moment) pays (frames left').messages
        ∙ ap (λ (l : List Came). l ++ rest) (came-taken moment steps t.moments) in
        let came : stamped [] (ps ++ arrival ∷ []) ≡ map came_of (g.steps ++ steps) ++ rest =
        pushed
        ∙ ap (λ (l : List Came). l ++ map (came_at moment) (frames (left ++ piece)).messages) so_far
        ∙ ap (λ (l : List Came). map came_of g.steps ++ l) here
        ∙ sym (append_assoc (map came_of g.steps) (map came_of steps) rest)
        ∙ ap (λ (l : List Came). l ++ rest) (sym (map-append came_of g.steps steps)) in
        record {
          up_to = record {
            arrivals = ps ++ arrival ∷ [];
            made = Listens-more source clock s now next c ticked tock ps arrival g.up_to.made a.made a.reading;
            pieces = all_more (λ (x : Arrival). IsPiece x.piece) ps arrival g.up_to.pieces a.is_piece;
            taken = subst (Takes (source.told s).left (source.told next).left) (bytes_of-push ps arrival) (Takes-more _ _ _ _ _ g.up_to.taken a.taken);
            calm = a.calm ∙ g.up_to.calm;
            messages = ap (λ (cut : Cut). cut.messages) given
                ∙ ap (λ (l : List (List ℕ)). map (λ (x : Step). x.payload) (g.steps ++ steps) ++ l) (sym (payloads-back moment (frames left').messages));
            came = came;
            goes = goes_both keeper before follower after g.steps steps g.up_to.goes t.goes;
          };
          turns = sym (one_longer ps arrival turn (sym g.turns));
          in_last = ap (λ (l : List Arrival). length (stamped [] l)) (before_last-push ps arrival)
              ∙ ap (λ (l : List Came). length l) so_far ∙ length-map g.steps came_of;
          given = given;
        }

    -- all whole messages of it were taken
    pub Going-more : (left' : List ℕ) (more : ℕ) → Hears keeper moment follower (left ++ piece) left' after (Ok more) → Going next tock (turn + 1) left' after (count + more)
    Going-more left' more h =
        let all = goes_on left' h.steps h.front in
        let up = subst (λ (rest : List (List ℕ)). GoesOn next tock turn (g.steps ++ h.steps) (map (came_at moment) rest) left' after (length g.steps)) h.none all in
        record {
          steps = g.steps ++ h.steps;
          up_to = up.up_to;
          turns = up.turns;
          given = up.given;
          fine = all_both IsFine g.steps h.steps g.fine h.fine;
          number = omega (arith, g.number, h.number, length-append g.steps h.steps);
          none = h.none;
        }

    -- one was not taken
    stops_at : (reads : ℕ) (fault : FollowFault) → turn < reads → HearsUntil keeper moment follower (left ++ piece) after fault
        → StopsAt keeper source clock reads s c before next tock after fault
    stops_at reads fault l h =
        let all = goes_on h.left (h.steps ++ h.last ∷ []) h.front in
        let rest : List Came = map (came_at moment) (frames h.left).messages in
        let up = subst (λ (steps : List Step). GoesOn next tock turn steps rest h.left after (length g.steps)) (sym (append_assoc g.steps h.steps (h.last ∷ []))) all in
        record {
          steps = g.steps ++ h.steps;
          last = h.last;
          rest = rest;
          up_to = up.up_to;
          fine = all_both IsFine g.steps h.steps g.fine h.fine;
          refused = h.refused;
          in_last = omega (arith, up.in_last, length-append g.steps h.steps);
          within = omega (arith, up.turns, l);
        }

    pub ends_hearing : (reads : ℕ) (left' : List ℕ) (fault : FollowFault) → turn < reads → Hears keeper moment follower (left ++ piece) left' after (Err fault)
        → Follows keeper source clock reads s c before next tock after (Err fault)
    ends_hearing reads left' BadFrame l h = stops_at reads BadFrame l h
    ends_hearing reads left' (Mixed row) l h = stops_at reads (Mixed row) l h
    ends_hearing reads left' (Refused row kind) l h = stops_at reads (Refused row kind) l h
    ends_hearing reads left' KeeperFault l h = stops_at reads KeeperFault l h
    ends_hearing reads left' Read l h = absurd h
    ends_hearing reads left' (Turns n) l h = absurd h
    ends_hearing reads left' OutOfMemory l (inl h) = inl (stops_at reads OutOfMemory l h)
    ends_hearing reads left' OutOfMemory l (inr h) =
        let all = goes_on h.left h.steps h.front in
        inr (record {
          heard = next;
          steps = g.steps ++ h.steps;
          rest = map (came_at moment) (frames h.left).messages;
          up_to = all.up_to;
          fine = all_both IsFine g.steps h.steps g.fine h.fine;
          in_last = omega (arith, all.in_last, length-append g.steps h.steps);
          within = omega (arith, all.turns, l);
          refused = inl refl;
          calm = refl;
        })

  module _ (now next : S) (ticked : C) (turn : ℕ) (left : List ℕ) (follower : SeenOf K) (count : ℕ) (g : Going now ticked turn left follower count) (reads : ℕ) where
    -- the end of the input
    pub ends_all : (space filled : List ℕ) (size : ℕ) → turn < reads → length space ≡ 4096 → size ≡ 0 → Reads (source.told now) (source.told next) filled (Ok size)
        → source.reads now (length space) (Ok (take size filled)) next → Follows keeper source clock reads s c before next ticked follower (Ok count)
    ends_all space filled size l long none r made =
        let none_read : Reads (source.told now) (source.told next) filled (Ok 0) = subst (λ (n : ℕ). Reads (source.told now) (source.told next) filled (Ok n)) none r in
        record {
          heard = now;
          steps = g.steps;
          up_to = g.up_to;
          fine = g.fine;
          number = g.number;
          within = omega (arith, g.turns, l);
          ended = subst (λ (n : ℕ). source.reads now n (Ok []) next) long (subst (λ (n : ℕ). source.reads now (length space) (Ok (take n filled)) next) none made);
          kept = Keeps-taken (source.told now).left (source.told next).left none_read.given;
          end = at_end (source.told now).left (source.told next).left none_read.given none_read.end;
          calm = none_read.cause.counts;
        }

    -- a read that failed
    pub ends_reading : (space filled : List ℕ) (fault : IoFault) → turn < reads → length space ≡ 4096 → fault ≡ io.Failed → Reads (source.told now) (source.told next) filled (Err fault)
        → source.reads now (length space) (Err fault) next → Follows keeper source clock reads s c before next ticked follower (Err Read)
    ends_reading space filled fault l long is r made =
        let failed : Reads (source.told now) (source.told next) filled (Err io.Failed) = subst (λ (f : IoFault). Reads (source.told now) (source.told next) filled (Err f)) is r in
        record {
          heard = now;
          steps = g.steps;
          up_to = g.up_to;
          fine = g.fine;
          within = omega (arith, g.turns, l);
          failed = subst (λ (n : ℕ). source.reads now n (Err io.Failed) next) long (subst (λ (f : IoFault). source.reads now (length space) (Err f) next) is made);
          rose = failed.cause.counts;
        }

    -- a read that found no memory
    pub ends_wanting : (space filled : List ℕ) (fault : IoFault) → turn < reads → length space ≡ 4096 → fault ≡ io.OutOfMemory → Reads (source.told now) (source.told next) filled (Err fault)
        → source.reads now (length space) (Err fault) next → Follows keeper source clock reads s c before next ticked follower (Err OutOfMemory)
    ends_wanting space filled fault l long is r made =
        let refused : Reads (source.told now) (source.told next) filled (Err io.OutOfMemory) = subst (λ (f : IoFault). Reads (source.told now) (source.told next) filled (Err f)) is r in
        let ps : List Arrival = g.up_to.arrivals in
        let all : length (stamped [] ps) ≡ length g.steps =
        ap (λ (l : List Came). length l) (g.up_to.came ∙ append-nil (map came_of g.steps)) ∙ length-map g.steps came_of in
        inr (record {
          heard = now;
          steps = g.steps;
          rest = [];
          up_to = g.up_to;
          fine = g.fine;
          in_last = omega (arith, all, stamped-front (length ps - 1) [] ps);
          within = omega (arith, g.turns, l);
          refused = inr (
            subst (λ (n : ℕ). source.reads now n (Err io.OutOfMemory) next) long (subst (λ (f : IoFault). source.reads now (length space) (Err f) next) is made),
            refl,
            omega (arith, g.turns, l),
          );
          calm = refused.cause.counts;
        })

  -- as many reads as there may be
  pub ends_cut_off : (now : S) (ticked : C) (turn : ℕ) (left : List ℕ) (follower : SeenOf K) (count : ℕ) (reads : ℕ) → Going now ticked turn left follower count → turn ≡ reads
      → Follows keeper source clock reads s c before now ticked follower (Err (Turns reads))
  ends_cut_off now ticked turn left follower count reads g all = record { steps = g.steps; up_to = g.up_to; fine = g.fine; all = g.turns ∙ all; number = refl }
