-- The steps of a crowd's calls, put together.
use Rattle.std.proofs.Common.{◌≡◌, ◌≢◌, ◌<◌, ◌+◌, ◌^◌, ◌⊎◌, inl, inr, ℕ, zero, suc, List, [], ◌∷◌, ◌++◌, length, get_or, slice_set, Bool, true, false, Option, Some, None, IfNone, Result, Ok, refl, sym, ap, subst, ◌∙◌, append_assoc, le_refl, arith}
use Rattle.std.specs.declared.net.socket_addr.SocketAddr.{SocketAddr}
use Rattle.dns_network.specs.Calls.{Noted, accepted, looked, shut, waited}
use Rattle.dns_network.specs.Turns.{waited_or_stopped}
use Rattle.dns_network.specs.Words.{found, has_worked, is_stopped, now_by, now_of, read_by, stopped_by, was_shut, worked_by, written_by}
use Rattle.dns_network.specs.declared.call.Call.{Call}
use Rattle.dns_network.specs.declared.call.Call.TheVariants as call
use Rattle.dns_network.specs.declared.refused.Refused.{Refused}
use Rattle.dns_network.proofs.Words.{found_one}
use Rattle.dns_connections.specs.Accepting.{held_more}
use Rattle.dns_connections.specs.Crowds.{IsCrowd, given_piece, handed_piece}
use Rattle.dns_connections.specs.Kept.{Account, Acts, Follows, IsKept, IsRight, IsTimed, IsWatched, Keeps, Line, account_of, asked_now, given_more, handed_more, line_of, no_account, no_line}
use Rattle.dns_connections.specs.Kept.{same_account}
use Rattle.dns_connections.specs.Links.{LinkSeen, StandsAt, fresh_link, link_at, no_link, standing}
use Rattle.dns_connections.specs.Moments.{Clocks, clocks_by, no_clocks}
use Rattle.dns_connections.proofs.Keeping.{all_at, all_other, climb_below, keeps_lines, keeps_push, keeps_set, which}
use Rattle.dns_connections.proofs.Own.{follows_fresh, no, on}
use Rattle.dns_connections.proofs.Steps.{accepted_line, other_accepted, other_piece, other_shut, other_taken, own_accepted, own_piece, own_shut, own_taken, quiet_looked, quiet_waited}

-- an account that a piece more was handed for, that was asked to close, or of which a piece more was given
abbrev account : List ℕ → Bool → List ℕ → Account
account handed asked given = record { handed = handed; asked = asked; given = given }

pub handed_other : (handed came : List Noted) (n m : ℕ) (bytes : List ℕ) → (m ≡ n → ⊥) → account_of m (handed ++ handed_piece n bytes ∷ []) came ≡ account_of m handed came
handed_other handed came n m bytes h =
    ap (λ (l : Line). account l.written l.shut (read_by m came)) (other_taken m handed n h (length bytes) (Ok (length bytes)) bytes)

pub handed_own : (handed came : List Noted) (n : ℕ) (bytes : List ℕ) → account_of n (handed ++ handed_piece n bytes ∷ []) came ≡ handed_more bytes (account_of n handed came)
handed_own handed came n bytes =
    ap (λ (l : Line). account l.written l.shut (read_by n came)) (own_taken n handed (length bytes) (Ok (length bytes)) bytes)

pub given_other : (handed came : List Noted) (n m count : ℕ) (bytes : List ℕ) → (m ≡ n → ⊥) → account_of m handed (came ++ given_piece n count bytes ∷ []) ≡ account_of m handed came
given_other handed came n m count bytes h =
    ap (λ (l : Line). account (written_by m handed) (was_shut m handed) l.read) (other_piece m came n h count (Ok count) bytes)

pub given_own : (handed came : List Noted) (n count : ℕ) (bytes : List ℕ) → account_of n handed (came ++ given_piece n count bytes ∷ []) ≡ given_more bytes (account_of n handed came)
given_own handed came n count bytes =
    ap (λ (l : Line). account (written_by n handed) (was_shut n handed) l.read) (own_piece n came count (Ok count) bytes)

pub asked_other : (handed came : List Noted) (n m : ℕ) → (m ≡ n → ⊥) → account_of m (handed ++ shut n (Ok tt) ∷ []) came ≡ account_of m handed came
asked_other handed came n m h = ap (λ (l : Line). account l.written l.shut (read_by m came)) (other_shut m handed n h (Ok tt))

pub asked_own : (handed came : List Noted) (n : ℕ) → account_of n (handed ++ shut n (Ok tt) ∷ []) came ≡ asked_now (account_of n handed came)
asked_own handed came n = ap (λ (l : Line). account l.written l.shut (read_by n came)) (own_shut n handed (Ok tt))

-- the connection in a place
same_default : (os : List LinkSeen) (i : ℕ) (d e : LinkSeen) → i < length os → get_or os i d ≡ get_or os i e
same_default [] i d e l = absurd (omega (arith, l))
same_default (o ∷ os) zero d e l = refl
same_default (o ∷ os) (suc i) d e l = same_default os i d e (omega (arith, l))

pub here_is : (os : List LinkSeen) (i : ℕ) (one : LinkSeen) → i < length os → one ≡ get_or os i one → link_at os i ≡ one
here_is os i one l e = sym (e ∙ same_default os i one no_link l)

pub stands_here : (os : List LinkSeen) (i : ℕ) (one : LinkSeen) → StandsAt os i → one ≡ get_or os i one → one.stands ≡ true
stands_here os i one s e = subst (λ (o : LinkSeen). o.stands ≡ true) (here_is os i one s.inside e) s.stands

pub kept_here : (calls handed came : List Noted) (os : List LinkSeen) (next ticks held : ℕ) (worked : Bool) (i : ℕ) (one : LinkSeen)
    → Keeps calls handed came os next ticks held worked → i < length os → one ≡ get_or os i one → IsKept calls handed came one
kept_here calls handed came os next ticks held worked i one k l e =
    subst (IsKept calls handed came) (here_is os i one l e) (all_at (IsKept calls handed came) os i l k.kept)

-- its moments are those of the calls
pub timed_here : (calls handed came : List Noted) (one : LinkSeen) → IsKept calls handed came one → IsTimed calls one
timed_here calls handed came one k = record {
  heard = λ s. (k.follows.paid s).heard;
  owing = λ s. (k.follows.paid s).owing;
  shut = k.follows.shut;
}

-- one in a place is not over any more, and those in front of it are not
pub none_set : (so : LinkSeen → Bool) (os : List LinkSeen) (i : ℕ) (x : LinkSeen) → i < length os → ((other : ℕ) → other < i → so (link_at os other) ≡ false) → so x ≡ false
    → (other : ℕ) → other < i + 1 → so (link_at (slice_set os i x) other) ≡ false
none_set so [] i x l n e other b = absurd (omega (arith, l))
none_set so (o ∷ os) zero x l n e zero b = e
none_set so (o ∷ os) zero x l n e (suc j) b = absurd (omega (arith, b))
none_set so (o ∷ os) (suc i) x l n e zero b = n 0 (omega arith)
none_set so (o ∷ os) (suc i) x l n e (suc j) b = none_set so os i x (omega (arith, l)) (λ k c. n (suc k) (omega (arith, c))) e j (omega (arith, b))

-- nothing was called yet
pub keeps_new : (calls : List Noted) (held : ℕ) → calls ≡ [] → held ≡ 0 → Keeps calls [] [] [] 0 0 held false
keeps_new calls held e h =
    subst (λ (l : List Noted). Keeps l [] [] [] 0 0 held false) (sym e)
    (record {
      kept = tt;
      right = λ n. record { front = record { rest = []; is = refl }; whole = λ x. refl; shut = λ x. no x; given = record { rest = []; is = refl }; all_given = λ x. refl };
      unused = λ n b. record { blank = refl; quiet = refl };
      climb = tt;
      now = refl;
      places = h;
      works = λ x. no x;
    })

pub crowd_new : (calls : List Noted) (limit : ℕ) → calls ≡ [] → limit < 2 ^ 47 → IsCrowd calls no_clocks limit 0 false
crowd_new calls limit e l =
    subst (λ (x : List Noted). IsCrowd x no_clocks limit 0 false) (sym e) (record { read = refl; later = omega arith; bound = l; stopped = λ x. no x })

-- one connection acts
pub crowd_acts : (calls after : List Noted) (f : Account → Account) (one later : LinkSeen) (clocks : Clocks) (limit last : ℕ) (ended : Bool) → Acts calls after f one later
    → IsCrowd calls clocks limit last ended → IsCrowd after clocks limit last ended
crowd_acts calls after f one later clocks limit last ended act c = record {
  read = act.clocks ∙ c.read;
  later = c.later;
  bound = c.bound;
  stopped = λ e. act.stopped ∙ c.stopped e;
}

pub act_keeps : (calls after handed handed_now came came_now : List Noted) (links : List LinkSeen) (place next ticks held held_now : ℕ) (worked : Bool) (f : Account → Account) (one later : LinkSeen)
    → Keeps calls handed came links next ticks held worked → place < length links → one ≡ get_or links place one → Acts calls after f one later → IsWatched (line_of later.number after) later
    → ((m : ℕ) → (m ≡ one.number → ⊥) → account_of m handed_now came_now ≡ account_of m handed came)
    → account_of one.number handed_now came_now ≡ f (account_of one.number handed came)
    → held_now ≡ standing (slice_set links place later)
    → Keeps after handed_now came_now (slice_set links place later) next ticks held_now worked
act_keeps calls after handed handed_now came came_now links place next ticks held held_now worked f one later k inside at act w accounts account h =
    keeps_set calls after handed handed_now came came_now one.number f one later refl act accounts account
    links place next ticks held held_now worked inside (here_is links place one inside at) w h k

-- and its account stays
pub quiet_keeps : (calls after handed came : List Noted) (links : List LinkSeen) (place next ticks held held_now : ℕ) (worked : Bool) (one later : LinkSeen)
    → Keeps calls handed came links next ticks held worked → place < length links → one ≡ get_or links place one → Acts calls after same_account one later → IsWatched (line_of later.number after) later
    → held_now ≡ standing (slice_set links place later)
    → Keeps after handed came (slice_set links place later) next ticks held_now worked
quiet_keeps calls after handed came links place next ticks held held_now worked one later k inside at act w h =
    act_keeps calls after handed handed came came links place next ticks held held_now worked same_account one later k inside at act w (λ m e. refl) refl h

-- a connection is accepted under the next number
module _ {S : Type 0} (calls first handed came : List Noted) (links : List LinkSeen) (next ticks held : ℕ) (worked : Bool) (given : S × SocketAddr)
    (t : first ≡ calls ++ accepted next (Ok given) ∷ []) (k : Keeps calls handed came links next ticks held worked) where
  line_other : (m : ℕ) → (m ≡ next → ⊥) → line_of m first ≡ line_of m calls
  line_other m h = ap (λ (l : List Noted). line_of m l) t ∙ other_accepted m calls next h (Ok given)

  line_own : line_of next first ≡ record no_line { moved = ticks }
  line_own =
      ap (λ (l : List Noted). line_of next l) t ∙ own_accepted next calls (Ok given)
      ∙ ap (λ (l : Line). accepted_line (now_of calls) l (Ok given)) (k.unused next (le_refl next)).blank ∙ ap (λ (n : ℕ). record no_line { moved = n }) k.now

  account_own : account_of next handed came ≡ no_account
  account_own = (k.unused next (le_refl next)).quiet

  fresh_follows : Follows (line_of next first) (account_of next handed came) (fresh_link next ticks)
  fresh_follows =
      subst (λ (l : Line). Follows l (account_of next handed came) (fresh_link next ticks)) (sym line_own)
      (subst (λ (a : Account). Follows (record no_line { moved = ticks }) a (fresh_link next ticks)) (sym account_own) (follows_fresh next ticks))

  right_by : (m : ℕ) → (m ≡ next) ⊎ (m ≢ next) → IsRight (line_of m first) (account_of m handed came)
  right_by m (inl e) = subst (λ (n : ℕ). IsRight (line_of n first) (account_of n handed came)) (sym e) fresh_follows.right
  right_by m (inr h) = subst (λ (l : Line). IsRight l (account_of m handed came)) (sym (line_other m h)) (k.right m)

  pub accepted_keeps : (last : List Noted) (one later : LinkSeen) → one ≡ fresh_link next ticks → Acts first last same_account one later → IsWatched (line_of later.number last) later
      → Keeps last handed came (links ++ later ∷ []) (next + 1) ticks (held_more later.stands held) true
  accepted_keeps last one later e act w =
      let number : one.number ≡ next = ap (λ (o : LinkSeen). o.number) e in
      keeps_push first last handed handed came came next same_account one later number act (λ m h. refl) refl
      links ticks held true
      (subst (λ (o : LinkSeen). Follows (line_of next first) (account_of next handed came) o) (sym e) fresh_follows)
      w
      (all_other (λ (o : LinkSeen). o.number < next) (IsKept calls handed came) (IsKept first handed came)
      (λ o l q. let h : o.number ≡ next → ⊥ = λ e. omega (arith, l, e) in record {
        follows = subst (λ (x : Line). Follows x (account_of o.number handed came) o) (sym (line_other o.number h)) q.follows;
        watched = subst (λ (x : Line). IsWatched x o) (sym (line_other o.number h)) q.watched;
      }) links (climb_below links next k.climb) k.kept)
      k.climb
      (λ m. right_by m (which m next))
      (λ m b. let h : m ≡ next → ⊥ = λ e. omega (arith, b, e) in record {
        blank = line_other m h ∙ (k.unused m (omega (arith, b))).blank;
        quiet = (k.unused m (omega (arith, b))).quiet;
      })
      (ap now_of t ∙ found_one now_by 0 calls (accepted next (Ok given)) ∙ k.now)
      k.places
      (ap has_worked t ∙ found_one worked_by false calls (accepted next (Ok given)))

-- the token is looked at, and one waits
pub pause_lines : (n : ℕ) (calls after : List Noted) (most : ℕ) (result : Option (Result ℕ Refused)) → after ≡ calls ++ waited_or_stopped most result → line_of n after ≡ line_of n calls
pause_lines n calls after most None t = ap (λ (l : List Noted). line_of n l) t ∙ quiet_looked n calls true
pause_lines n calls after most (Some given) t =
    ap (λ (l : List Noted). line_of n l) (t ∙ sym (append_assoc calls (looked false ∷ []) (waited most given ∷ [])))
    ∙ quiet_waited n (calls ++ looked false ∷ []) most given ∙ quiet_looked n calls false

pub pause_found : {T : Type 0} (step : T → Call → T) (s : T) (calls after : List Noted) (most : ℕ) (result : Option (Result ℕ Refused)) → after ≡ calls ++ waited_or_stopped most result
    → ((x : T) (b : Bool) → step x (call.Looked b) ≡ x) → ((x : T) (given : Result ℕ Refused) → step x (call.Waited most given) ≡ x) → found step s after ≡ found step s calls
pause_found step s calls after most None t l w = ap (λ (x : List Noted). found step s x) t ∙ found_one step s calls (looked true) ∙ l (found step s calls) true
pause_found step s calls after most (Some given) t l w =
    ap (λ (x : List Noted). found step s x) (t ∙ sym (append_assoc calls (looked false ∷ []) (waited most given ∷ [])))
    ∙ found_one step s (calls ++ looked false ∷ []) (waited most given) ∙ w (found step s (calls ++ looked false ∷ [])) given
    ∙ found_one step s calls (looked false) ∙ l (found step s calls) false

pub pause_keeps : (calls after handed came : List Noted) (links : List LinkSeen) (next ticks held : ℕ) (worked : Bool) (most : ℕ) (result : Option (Result ℕ Refused))
    → after ≡ calls ++ waited_or_stopped most result → Keeps calls handed came links next ticks held worked → Keeps after handed came links next ticks held false
pause_keeps calls after handed came links next ticks held worked most result t k =
    keeps_lines calls after handed came links next ticks ticks held worked false (λ n. pause_lines n calls after most result t)
    (pause_found now_by 0 calls after most result t (λ x b. refl) (λ x given. refl) ∙ k.now) (λ e. no e) k

pub pause_crowd : (calls after : List Noted) (clocks : Clocks) (limit last : ℕ) (ended : Bool) (most : ℕ) (result : Option (Result ℕ Refused))
    → after ≡ calls ++ waited_or_stopped most result → ended ≡ false → IsCrowd calls clocks limit last ended → IsCrowd after clocks limit last ended
pause_crowd calls after clocks limit last ended most result t e c = record {
  read = pause_found clocks_by no_clocks calls after most result t (λ x b. refl) (λ x given. refl) ∙ c.read;
  later = c.later;
  bound = c.bound;
  stopped = λ h. on (sym h ∙ e);
}

pub pause_stopped : (calls after : List Noted) (most : ℕ) (result : Option (Result ℕ Refused)) → after ≡ calls ++ waited_or_stopped most result → IfNone result (is_stopped after ≡ true)
pause_stopped calls after most None t = ap is_stopped t ∙ found_one stopped_by false calls (looked true)
pause_stopped calls after most (Some given) t = tt
