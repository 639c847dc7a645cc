-- The steps of a crowd, one behind the other.
use Rattle.std.proofs.Common.{◌≡◌, ◌≤◌, ◌<◌, ◌+◌, ◌^◌, ℕ, List, [], ◌∷◌, ◌++◌, length, get_or, slice_set, Bool, true, false, not, ◌||◌, Ok, Err, refl, sym, ap, ◌∙◌, le_refl, le_trans, max, take, append-nil, length-set, arith}
use Rattle.dns_network.specs.Calls.{Noted, clock, rested, shut}
use Rattle.dns_network.specs.Words.{has_worked, is_stopped, now_by, now_of, stopped_by, worked_by}
use Rattle.dns_network.specs.declared.call.Reading.{Reading}
use Rattle.dns_network.specs.declared.refused.Refused.{Refused}
use Rattle.dns_network.proofs.Words.{found_one}
use Rattle.dns_readiness.specs.declared.came.Came.{Came as Event}
use Rattle.dns_readiness.specs.declared.came.Came.TheVariants as came
use Rattle.dns_connections.specs.Accepting.{PlacesSeen, held_with}
use Rattle.dns_connections.specs.Crowds.{BecomesOne, CrowdSeen, HasMoved, IsCrowd, IsGiven, IsQuiet, IsRightly, NobodyOver, StepsTo, given_in, given_piece, handed_piece, next_behind}
use Rattle.dns_connections.specs.Kept.{Account, Acts, IsKept, IsWatched, Keeps, StaysWatched, account_of, asked_now, given_more, handed_more, line_of, same_account}
use Rattle.dns_connections.specs.Links.{IsNone, LinkSeen, StandsAt, is_over, link_at, patience_of, standing}
use Rattle.dns_connections.specs.Moments.{Clocks, clocks_by, clocks_of, no_clocks, read_clocks}
use Rattle.dns_connections.specs.declared.crowd.Step.{Step}
use Rattle.dns_connections.specs.declared.crowd.Step.TheVariants as step
use Rattle.dns_connections.proofs.Crowding.{act_keeps, asked_other, asked_own, crowd_acts, given_other, given_own, handed_other, handed_own, here_is, kept_here, none_set, stands_here}
use Rattle.dns_connections.proofs.Keeping.{held_any, held_same, held_set, keeps_lines}
use Rattle.dns_connections.proofs.Own.{acts_alone, follows_told, no}
use Rattle.dns_connections.proofs.Steps.{quiet_clock, quiet_rested}

-- the places behind a change of one connection that stood
pub held_at : (places now : PlacesSeen) (links : List LinkSeen) (place : ℕ) (one later : LinkSeen) (stands : Bool) → place < length links → one ≡ get_or links place one
    → one.stands ≡ true → stands ≡ later.stands → now ≡ record places { held = held_with stands places.held } → places.held ≡ standing links
    → now.held ≡ standing (slice_set links place later)
held_at places now links place one later stands inside at s e p k =
    ap (λ (q : PlacesSeen). q.held) p ∙ ap (λ (b : Bool). held_with b places.held) e
    ∙ held_set links place places.held later inside (ap (λ (o : LinkSeen). o.stands) (here_is links place one inside at) ∙ s) k

-- what is invariant of a crowd, behind calls for one connection
pub one_acts : (calls after handed handed_now came came_now : List Noted) (links : List LinkSeen) (place next : ℕ) (clocks : Clocks) (held held_now limit last : ℕ) (worked ended : Bool)
    (f : Account → Account) (one later : LinkSeen)
    → Keeps calls handed came links next clocks.ticks held worked × IsCrowd calls clocks limit last ended
    → place < length links → one ≡ get_or links place one → Acts calls after f one later → IsWatched (line_of later.number after) later
    → ((m : ℕ) → (m ≡ one.number → ⊥) → account_of m handed_now came_now ≡ account_of m handed came)
    → account_of one.number handed_now came_now ≡ f (account_of one.number handed came)
    → held_now ≡ standing (slice_set links place later)
    → Keeps after handed_now came_now (slice_set links place later) next clocks.ticks held_now worked × IsCrowd after clocks limit last ended
one_acts calls after handed handed_now came came_now links place next clocks held held_now limit last worked ended f one later k inside at act w accounts account h = (
  act_keeps calls after handed handed_now came came_now links place next clocks.ticks held held_now worked f one later k.0 inside at act w accounts account h,
  crowd_acts calls after f one later clocks limit last ended act k.1,
)

pub one_quiet : (calls after handed came : List Noted) (links : List LinkSeen) (place next : ℕ) (clocks : Clocks) (held held_now limit last : ℕ) (worked ended : Bool)
    (one later : LinkSeen)
    → Keeps calls handed came links next clocks.ticks held worked × IsCrowd calls clocks limit last ended
    → place < length links → one ≡ get_or links place one → Acts calls after same_account one later → IsWatched (line_of later.number after) later
    → held_now ≡ standing (slice_set links place later)
    → Keeps after handed came (slice_set links place later) next clocks.ticks held_now worked × IsCrowd after clocks limit last ended
one_quiet calls after handed came links place next clocks held held_now limit last worked ended one later k inside at act w h =
    one_acts calls after handed handed came came links place next clocks held held_now limit last worked ended same_account one later k inside at act w (λ m e. refl) refl h

-- one step behind another
pub moved_none : {N : Type 0} (one : CrowdSeen N) → HasMoved one one
moved_none one = record { same = refl; most = refl; later = le_refl one.clocks.moment }

pub moved_then : {N : Type 0} (one two three : CrowdSeen N) → HasMoved one two → HasMoved two three → HasMoved one three
moved_then {N} one two three p q = record {
  same = q.same ∙ ap (λ (s : CrowdSeen N). record s {
    network = three.network;
    came = three.came;
    links = three.links;
    next = three.next;
    clocks = three.clocks;
    places = three.places;
    worked = three.worked;
  }) p.same;
  most = q.most ∙ p.most;
  later = le_trans p.later q.later;
}

pub quiet_then : {N : Type 0} (one two three : CrowdSeen N) → IsQuiet one two → IsQuiet two three → IsQuiet one three
quiet_then one two three p q = record { next = q.next ∙ p.next; told = q.told ∙ p.told }

limit_same : {N : Type 0} (one two : CrowdSeen N) → HasMoved one two → two.limit ≡ one.limit
limit_same {N} one two p = ap (λ (s : CrowdSeen N). s.limit) p.same

rightly_then : {N : Type 0} (one two three : CrowdSeen N) (event : Event) → HasMoved one two → IsQuiet one two → IsRightly two three event → IsRightly one three event
rightly_then one two three (came.Accepted at conn peer limit) p q r = (r.0 ∙ q.next, r.1 ∙ limit_same one two p)
rightly_then one two three (came.Bytes at conn count) p q r = tt
rightly_then one two three (came.Ended at conn) p q r = tt
rightly_then one two three (came.Tick at) p q r = rw (← limit_same one two p) r

next_then : (one two : ℕ) (event : Event) → two ≡ one → next_behind two event ≡ next_behind one event
next_then one two event e = ap (λ (n : ℕ). next_behind n event) e

pub steps_then : {N : Type 0} (calls : N → List Noted) (one two three : CrowdSeen N) (room : List ℕ) (given : Step) → HasMoved one two → IsQuiet one two → StepsTo calls two three room given
    → StepsTo calls one three room given
steps_then calls one two three room (step.Came event) p q r = record {
  moment = r.moment;
  bound = r.bound;
  few = r.few;
  inside = r.inside;
  next = r.next ∙ next_then one.next two.next event q.next;
  told = r.told ∙ ap (λ (l : List Noted). l ++ given_in room event) q.told;
  rightly = rightly_then one two three event p q r.rightly;
}
steps_then calls one two three room step.Stopped p q r = (quiet_then one two three q r.0, r.1)
steps_then calls one two three room step.Nothing p q r = quiet_then one two three q r

-- one that stood acts, and its place is given back where it does not stand any more
module _ (calls after handed came : List Noted) (links : List LinkSeen) (place next : ℕ) (clocks : Clocks) (places now : PlacesSeen) (limit last : ℕ) (worked ended stands : Bool) (one later : LinkSeen)
    (k : Keeps calls handed came links next clocks.ticks places.held worked × IsCrowd calls clocks limit last ended) (at : StandsAt links place) (is : one ≡ get_or links place one)
    (s : stands ≡ later.stands) (p : now ≡ record places { held = held_with stands places.held }) where
  pub kept_at : IsKept calls handed came one
  kept_at = kept_here calls handed came links next clocks.ticks places.held worked place one k.0 at.inside is

  held_now : now.held ≡ standing (slice_set links place later)
  held_now = held_at places now links place one later stands at.inside is (stands_here links place one at is) s p k.0.places

  pub stood_acts : (handed_now came_now : List Noted) (f : Account → Account) → Acts calls after f one later → IsWatched (line_of later.number after) later
      → ((m : ℕ) → (m ≡ one.number → ⊥) → account_of m handed_now came_now ≡ account_of m handed came)
      → account_of one.number handed_now came_now ≡ f (account_of one.number handed came)
      → Keeps after handed_now came_now (slice_set links place later) next clocks.ticks now.held worked × IsCrowd after clocks limit last ended
  stood_acts handed_now came_now f act w accounts account =
      one_acts calls after handed handed_now came came_now links place next clocks places.held now.held limit last worked ended f one later k at.inside is act w accounts account held_now

  pub stood : Acts calls after same_account one later → IsWatched (line_of later.number after) later
      → Keeps after handed came (slice_set links place later) next clocks.ticks now.held worked × IsCrowd after clocks limit last ended
  stood act w = stood_acts handed came same_account act w (λ m e. refl) refl

  pub stood_still : Acts calls after same_account one later → StaysWatched calls after one later
      → Keeps after handed came (slice_set links place later) next clocks.ticks now.held worked × IsCrowd after clocks limit last ended
  stood_still act w = stood act (w kept_at.watched)

-- one acts that may have ended before
pub any_still : (calls after handed came : List Noted) (links : List LinkSeen) (place next : ℕ) (clocks : Clocks) (places now : PlacesSeen) (limit last : ℕ) (worked ended stood stands still : Bool) (one later : LinkSeen)
    → Keeps calls handed came links next clocks.ticks places.held worked × IsCrowd calls clocks limit last ended → place < length links → one ≡ get_or links place one
    → stood ≡ one.stands → stands ≡ later.stands → still ≡ (not stood || stands) → now ≡ record places { held = held_with still places.held }
    → Acts calls after same_account one later → StaysWatched calls after one later → (one.stands ≡ false → later.stands ≡ false)
    → Keeps after handed came (slice_set links place later) next clocks.ticks now.held worked × IsCrowd after clocks limit last ended
any_still calls after handed came links place next clocks places now limit last worked ended stood stands still one later k inside is s t b p act w gone =
    one_quiet calls after handed came links place next clocks places.held now.held limit last worked ended one later k inside is act
    (w (kept_here calls handed came links next clocks.ticks places.held worked place one k.0 inside is).watched)
    (ap (λ (q : PlacesSeen). q.held) p ∙ ap (λ (x : Bool). held_with x places.held) (b ∙ ap (λ (x : Bool). not x || stands) s ∙ ap (λ (x : Bool). not one.stands || x) t)
    ∙ held_any links place places.held one later inside (here_is links place one inside is) gone k.0.places)

-- one acts that stands as before
pub as_before : (calls after handed handed_now came : List Noted) (links : List LinkSeen) (place next : ℕ) (clocks : Clocks) (held limit last : ℕ) (worked ended : Bool) (f : Account → Account) (one later : LinkSeen)
    → Keeps calls handed came links next clocks.ticks held worked × IsCrowd calls clocks limit last ended → place < length links → one ≡ get_or links place one
    → later.stands ≡ one.stands → Acts calls after f one later → StaysWatched calls after one later
    → ((m : ℕ) → (m ≡ one.number → ⊥) → account_of m handed_now came ≡ account_of m handed came)
    → account_of one.number handed_now came ≡ f (account_of one.number handed came)
    → Keeps after handed_now came (slice_set links place later) next clocks.ticks held worked × IsCrowd after clocks limit last ended
as_before calls after handed handed_now came links place next clocks held limit last worked ended f one later k inside is s act w accounts account =
    one_acts calls after handed handed_now came came links place next clocks held held limit last worked ended f one later k inside is act
    (w (kept_here calls handed came links next clocks.ticks held worked place one k.0 inside is).watched) accounts account
    (held_same links place held later inside (s ∙ sym (ap (λ (o : LinkSeen). o.stands) (here_is links place one inside is))) k.0.places)

-- its end is told
pub told_acts : (calls : List Noted) (one later : LinkSeen) → later ≡ record one { untold = false } → Acts calls calls same_account one later
told_acts calls one later i =
    rw i (acts_alone calls same_account one (record one { untold = false }) refl (λ a k. follows_told (line_of one.number calls) a one false k))

pub told_watched : (calls : List Noted) (one later : LinkSeen) → later ≡ record one { untold = false } → StaysWatched calls calls one later
told_watched calls one later i = rw i (λ w. w)

-- the accounts of one that is asked to close, that is handed a piece, and of which a piece is given
pub asked_accounts : (handed handed_now came : List Noted) (number n : ℕ) → handed_now ≡ handed ++ shut number (Ok tt) ∷ [] → number ≡ n
    → ((m : ℕ) → (m ≡ n → ⊥) → account_of m handed_now came ≡ account_of m handed came) × (account_of n handed_now came ≡ asked_now (account_of n handed came))
asked_accounts handed handed_now came number n t e = rw (t, e) (λ m h. asked_other handed came n m h, asked_own handed came n)

pub handed_accounts : (handed handed_now came : List Noted) (number n : ℕ) (bytes : List ℕ) → handed_now ≡ handed ++ handed_piece number bytes ∷ [] → number ≡ n
    → ((m : ℕ) → (m ≡ n → ⊥) → account_of m handed_now came ≡ account_of m handed came) × (account_of n handed_now came ≡ handed_more bytes (account_of n handed came))
handed_accounts handed handed_now came number n bytes t e = rw (t, e) (λ m h. handed_other handed came n m bytes h, handed_own handed came n bytes)

pub given_accounts : (handed came came_now : List Noted) (number n count : ℕ) (bytes : List ℕ) → came_now ≡ came ++ given_piece number count bytes ∷ [] → number ≡ n
    → ((m : ℕ) → (m ≡ n → ⊥) → account_of m handed came_now ≡ account_of m handed came) × (account_of n handed came_now ≡ given_more bytes (account_of n handed came))
given_accounts handed came came_now number n count bytes t e = rw (t, e) (λ m h. given_other handed came n m count bytes h, given_own handed came n count bytes)

-- a call that is about no connection
pub other_call : (calls after handed came : List Noted) (links : List LinkSeen) (next : ℕ) (clocks : Clocks) (held limit last : ℕ) (worked works ended : Bool) (c : Noted)
    → after ≡ calls ++ c ∷ [] → ((n : ℕ) → line_of n (calls ++ c ∷ []) ≡ line_of n calls) → ((x : ℕ) → now_by x c.0 ≡ x) → ((x : Clocks) → clocks_by x c.0 ≡ x) → ((x : Bool) → stopped_by x c.0 ≡ x)
    → (works ≡ true → has_worked after ≡ true)
    → Keeps calls handed came links next clocks.ticks held worked × IsCrowd calls clocks limit last ended
    → Keeps after handed came links next clocks.ticks held works × IsCrowd after clocks limit last ended
other_call calls after handed came links next clocks held limit last worked works ended c t lines now read stopped w k = (
  keeps_lines calls after handed came links next clocks.ticks clocks.ticks held worked works (λ n. ap (λ (x : List Noted). line_of n x) t ∙ lines n)
      (ap now_of t ∙ found_one now_by 0 calls c ∙ now (now_of calls) ∙ k.0.now) w k.0,
  record {
    read = ap clocks_of t ∙ found_one clocks_by no_clocks calls c ∙ read (clocks_of calls) ∙ k.1.read;
    later = k.1.later;
    bound = k.1.bound;
    stopped = λ e. ap is_stopped t ∙ found_one stopped_by false calls c ∙ stopped (is_stopped calls) ∙ k.1.stopped e;
  },
)

pub rests : (calls after handed came : List Noted) (links : List LinkSeen) (next : ℕ) (clocks : Clocks) (held limit last : ℕ) (worked ended : Bool) (millis : ℕ)
    → after ≡ calls ++ rested millis ∷ []
    → Keeps calls handed came links next clocks.ticks held worked × IsCrowd calls clocks limit last ended
    → Keeps after handed came links next clocks.ticks held false × IsCrowd after clocks limit last ended
rests calls after handed came links next clocks held limit last worked ended millis t k =
    other_call calls after handed came links next clocks held limit last worked false ended (rested millis) t (λ n. quiet_rested n calls millis) (λ x. refl) (λ x. refl) (λ x. refl) (λ e. no e) k

pub no_clock : (calls after handed came : List Noted) (links : List LinkSeen) (next : ℕ) (clocks : Clocks) (held limit last : ℕ) (worked ended : Bool) (refused : Refused)
    → after ≡ calls ++ clock (Err refused) ∷ []
    → Keeps calls handed came links next clocks.ticks held worked × IsCrowd calls clocks limit last ended
    → Keeps after handed came links next clocks.ticks held worked × IsCrowd after clocks limit last ended
no_clock calls after handed came links next clocks held limit last worked ended refused t k =
    other_call calls after handed came links next clocks held limit last worked worked ended (clock (Err refused)) t (λ n. quiet_clock n calls (Err refused)) (λ x. refl) (λ x. refl) (λ x. refl)
    (λ e. ap has_worked t ∙ found_one worked_by false calls (clock (Err refused)) ∙ k.0.works e) k

-- the clocks are read
pub clock_step : (calls after handed came : List Noted) (links : List LinkSeen) (next : ℕ) (clocks clocks_now : Clocks) (held limit last : ℕ) (worked ended : Bool) (reading : Reading)
    → after ≡ calls ++ clock (Ok reading) ∷ [] → clocks_now ≡ read_clocks clocks reading → clocks.moment ≤ clocks_now.moment
    → Keeps calls handed came links next clocks.ticks held worked × IsCrowd calls clocks limit last ended
    → Keeps after handed came links next clocks_now.ticks held worked × IsCrowd after clocks_now limit last ended
clock_step calls after handed came links next clocks clocks_now held limit last worked ended reading t e l k = (
  keeps_lines calls after handed came links next clocks.ticks clocks_now.ticks held worked worked
      (λ n. ap (λ (x : List Noted). line_of n x) t ∙ quiet_clock n calls (Ok reading))
      (ap now_of t ∙ found_one now_by 0 calls (clock (Ok reading)) ∙ ap (λ (x : ℕ). max x reading.ticks) k.0.now ∙ sym (ap (λ (x : Clocks). x.ticks) e))
      (λ w. ap has_worked t ∙ found_one worked_by false calls (clock (Ok reading)) ∙ k.0.works w) k.0,
  record {
    read = ap clocks_of t ∙ found_one clocks_by no_clocks calls (clock (Ok reading)) ∙ ap (λ (x : Clocks). read_clocks x reading) k.1.read ∙ sym e;
    later = le_trans k.1.later l;
    bound = k.1.bound;
    stopped = λ x. ap is_stopped t ∙ found_one stopped_by false calls (clock (Ok reading)) ∙ k.1.stopped x;
  },
)

-- those that are over are closed, one behind the other
pub swept_size : {N : Type 0} (first two three : CrowdSeen N) (place patience now : ℕ) → length two.links ≡ length first.links
    → BecomesOne place two.links three.links (λ one. is_over patience now one ≡ false) → length three.links ≡ length first.links
swept_size first two three place patience now size b = ap (λ (l : List LinkSeen). length l) b.is ∙ length-set two.links place b.one ∙ size

none_over : (p q t u place : ℕ) (links now : List LinkSeen) → q ≡ p → u ≡ t → place < length links → IsNone (is_over p t) links place
    → BecomesOne place links now (λ one. is_over q u one ≡ false) → IsNone (is_over p t) now (place + 1)
none_over p q t u place links now e f inside none b =
    let so : is_over p t b.one ≡ false = ap (λ (x : ℕ). is_over x t b.one) (sym e) ∙ ap (λ (x : ℕ). is_over q x b.one) (sym f) ∙ b.is_so in
    λ other l. ap (λ (x : List LinkSeen). is_over p t (link_at x other)) b.is ∙ none_set (is_over p t) links place b.one inside none so other l

pub swept : {N : Type 0} (first two three : CrowdSeen N) (place : ℕ) → HasMoved first two → two.clocks ≡ first.clocks → length two.links ≡ length first.links
    → IsNone (is_over (patience_of first.limit) first.clocks.ticks) two.links place → place < length two.links
    → BecomesOne place two.links three.links (λ one. is_over (patience_of two.limit) two.clocks.ticks one ≡ false)
    → IsNone (is_over (patience_of first.limit) first.clocks.ticks) three.links (place + 1)
swept first two three place m c size none l b =
    none_over (patience_of first.limit) (patience_of two.limit) first.clocks.ticks two.clocks.ticks place two.links three.links
    (ap patience_of (limit_same first two m)) (ap (λ (x : Clocks). x.ticks) c) l none b

-- it is told that time passed
pub ticked : {N : Type 0} (one two after : CrowdSeen N) (at : ℕ) → after ≡ two → HasMoved one two → IsQuiet one two → two.clocks ≡ one.clocks
    → NobodyOver (patience_of one.limit) one.clocks.ticks two.links → at ≡ after.clocks.moment → at < 2 ^ 47 → IsGiven one after [] (came.Tick at)
ticked one two after at e m q c none a l = record {
  moment = a;
  bound = l;
  few = omega arith;
  inside = omega arith;
  next = ap (λ (s : CrowdSeen _). s.next) e ∙ q.next;
  told = ap (λ (s : CrowdSeen _). s.came) e ∙ q.told ∙ sym (append-nil one.came);
  rightly = rw (e, c) none;
}

-- nothing is given of it
pub none_given : (a : Account) (count : ℕ) (room : List ℕ) → count ≡ 0 → a ≡ given_more (take count room) a
none_given a count room e = rw e (ap (λ (g : List ℕ). record a { given = g }) (sym (append-nil a.given)))
