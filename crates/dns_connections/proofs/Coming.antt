-- A connection comes to a crowd, or none does.
use Rattle.std.proofs.Common.{◌≡◌, ◌<◌, ◌+◌, ℕ, zero, suc, List, [], ◌∷◌, ◌++◌, length, Bool, true, false, not, ◌||◌, Option, Some, None, IfSome, Ok, Err, refl, sym, ap, ◌∙◌, append-nil, arith}
use Rattle.std.proofs.lemmas.Bool.{ne_eqb}
use Rattle.std.specs.declared.net.socket_addr.SocketAddr.{SocketAddr}
use Rattle.dns_network.specs.Calls.{Noted}
use Rattle.dns_network.specs.Words.{crowded_by, crowds, gave_some, has_worked, is_crowded, is_stopped, stopped_by, worked_by}
use Rattle.dns_network.specs.declared.call.Call.TheVariants as call
use Rattle.dns_network.specs.declared.refused.Refused.{Refused}
use Rattle.dns_network.specs.declared.refused.Refused.TheVariants.{Wanting}
use Rattle.dns_network.proofs.Words.{found_one}
use Rattle.dns_readiness.specs.declared.came.Came.TheVariants as came
use Rattle.dns_connections.specs.Accepting.{PlacesSeen, held_more}
use Rattle.dns_connections.specs.Crowds.{CrowdSeen, IsAdmitted, IsCrowd, StepsTo}
use Rattle.dns_connections.specs.Kept.{Acts, IsWatched, Keeps, line_of, same_account}
use Rattle.dns_connections.specs.Links.{LinkSeen, StandsAt, fresh_link, link_at}
use Rattle.dns_connections.specs.Moments.{Clocks, clocks_by, clocks_of, no_clocks}
use Rattle.dns_connections.specs.declared.crowd.Step.{Step}
use Rattle.dns_connections.specs.declared.crowd.Step.TheVariants as step
use Rattle.dns_connections.proofs.Crowding.{accepted_keeps, crowd_acts}
use Rattle.dns_connections.proofs.Keeping.{all_at, climb_below}
use Rattle.dns_connections.proofs.Stepping.{other_call}
use Rattle.dns_connections.proofs.Steps.{quiet_refused}

or_true : (b : Bool) → (b || true) ≡ true
or_true true = refl
or_true false = refl

-- one that comes stands behind the others
front_at : (os : List LinkSeen) (x : LinkSeen) (i : ℕ) → i < length os → link_at (os ++ x ∷ []) i ≡ link_at os i
front_at [] x i l = absurd (omega (arith, l))
front_at (o ∷ os) x zero l = refl
front_at (o ∷ os) x (suc i) l = front_at os x i (omega (arith, l))

crowd_accepted : (calls first : List Noted) (clocks : Clocks) (limit last next : ℕ) (ended : Bool) (whom : SocketAddr) → first ≡ calls ++ (call.Accepted next (Ok whom), []) ∷ []
    → IsCrowd calls clocks limit last ended → IsCrowd first clocks limit last ended
crowd_accepted calls first clocks limit last next ended whom t c = record {
  read = ap clocks_of t ∙ found_one clocks_by no_clocks calls (call.Accepted next (Ok whom), []) ∙ c.read;
  later = c.later;
  bound = c.bound;
  stopped = λ e. ap is_stopped t ∙ found_one stopped_by false calls (call.Accepted next (Ok whom), []) ∙ c.stopped e;
}

module _ (calls first after handed came : List Noted) (links : List LinkSeen) (next : ℕ) (clocks : Clocks) (places : PlacesSeen) (limit last : ℕ) (worked ended : Bool) (whom : SocketAddr) (one later : LinkSeen)
    (t : first ≡ calls ++ (call.Accepted next (Ok whom), []) ∷ [])
    (k : Keeps calls handed came links next clocks.ticks places.held worked × IsCrowd calls clocks limit last ended)
    (act : Acts first after same_account one later) where
  pub taken : (links_now : List LinkSeen) (next_now ticks : ℕ) (now : PlacesSeen) (stands : Bool) → one ≡ fresh_link next ticks → ticks ≡ clocks.ticks → IsWatched (line_of later.number after) later
      → links_now ≡ links ++ later ∷ [] → next_now ≡ next + 1 → stands ≡ later.stands → now ≡ record places { held = held_more stands places.held }
      → Keeps after handed came links_now next_now clocks.ticks now.held true × IsCrowd after clocks limit last ended
  taken links_now next_now ticks now stands e f w l n s p =
      let held : now.held ≡ held_more later.stands places.held = ap (λ (q : PlacesSeen). q.held) p ∙ ap (λ (b : Bool). held_more b places.held) s in
      let fresh : one ≡ fresh_link next clocks.ticks = e ∙ ap (λ (x : ℕ). fresh_link next x) f in (
        rw (l, n, held) (accepted_keeps {S = ℕ} calls first handed came links next clocks.ticks places.held worked (0, whom) t k.0 after one later fresh act w),
        crowd_acts first after same_account one later clocks limit last ended act (crowd_accepted calls first clocks limit last next ended whom t k.1),
      )

  other_number : (place : ℕ) → StandsAt links place → (link_at links place).number < next
  other_number place at = all_at (λ o. o.number < next) links place at.inside (climb_below links next k.0.climb)

  crowded_by_it : (n : ℕ) → n < next → is_crowded n after ≡ true
  crowded_by_it n l =
      let apart : next ≡ n → ⊥ = λ e. omega (arith, l, e) in
      act.crowded n ∙ ap (λ (x : List Noted). is_crowded n x) t ∙ found_one (crowded_by n) false calls (call.Accepted next (Ok whom), []) ∙ ap not (ne_eqb next n apart)

  pub crowds_victim : (links_now : List LinkSeen) (victim : Option ℕ) → links_now ≡ links ++ later ∷ [] → IfSome victim (StandsAt links)
      → IfSome victim (λ place. is_crowded (link_at links_now place).number after ≡ true)
  crowds_victim links_now None l at = tt
  crowds_victim links_now (Some place) l at =
      ap (λ (x : List LinkSeen). is_crowded (link_at x place).number after) l ∙ ap (λ (o : LinkSeen). is_crowded o.number after) (front_at links later place at.inside)
      ∙ crowded_by_it (link_at links place).number (other_number place at)

-- none comes
pub not_taken : (calls after handed came : List Noted) (links links_now : List LinkSeen) (next : ℕ) (clocks : Clocks) (places now : PlacesSeen) (limit last : ℕ) (worked ended : Bool) (refused : Refused)
    → after ≡ calls ++ (call.Accepted next (Err refused), []) ∷ [] → links_now ≡ links → now ≡ places
    → Keeps calls handed came links next clocks.ticks places.held worked × IsCrowd calls clocks limit last ended
    → Keeps after handed came links_now next clocks.ticks now.held worked × IsCrowd after clocks limit last ended
not_taken calls after handed came links links_now next clocks places now limit last worked ended refused t l p k =
    rw (l, p) (other_call calls after handed came links next clocks places.held limit last worked worked ended (call.Accepted next (Err refused), []) t
    (λ n. quiet_refused n calls ℕ next refused) (λ x. refl) (λ x. refl) (λ x. refl)
    (λ e. ap has_worked t ∙ found_one worked_by false calls (call.Accepted next (Err refused), [])
    ∙ ap (λ (b : Bool). gave_some {T = SocketAddr} (Err refused) || b) (k.0.works e) ∙ or_true (gave_some {T = SocketAddr} (Err refused))) k)

pub wanting_crowds : (calls after : List Noted) (next : ℕ) (refused : Refused) → after ≡ calls ++ (call.Accepted next (Err refused), []) ∷ [] → refused ≡ Wanting
    → (n : ℕ) → is_crowded n after ≡ true
wanting_crowds calls after next refused t e n =
    ap (λ (x : List Noted). is_crowded n x) t ∙ found_one (crowded_by n) false calls (call.Accepted next (Err refused), []) ∙ ap (λ (r : Refused). crowds {T = SocketAddr} n next (Err r)) e

pub crowded_any : (victim : Option ℕ) (links : List LinkSeen) (calls : List Noted) → ((n : ℕ) → is_crowded n calls ≡ true)
    → IfSome victim (λ place. is_crowded (link_at links place).number calls ≡ true)
crowded_any None links calls h = tt
crowded_any (Some place) links calls h = h (link_at links place).number

-- the newcomer is told
pub admitted : {N : Type 0} (calls : N → List Noted) (one after : CrowdSeen N) (given : Step) → IsAdmitted after given → after.next ≡ one.next + 1 → after.came ≡ one.came → after.limit ≡ one.limit
    → StepsTo calls one after [] given
admitted calls one after (step.Came (came.Accepted at conn peer limit)) h n c l = record {
  moment = h.0;
  bound = h.1;
  few = omega arith;
  inside = omega arith;
  next = n;
  told = c ∙ sym (append-nil one.came);
  rightly = (omega (arith, h.2, n), h.3 ∙ l);
}
admitted calls one after (step.Came (came.Bytes at conn count)) h n c l = absurd h
admitted calls one after (step.Came (came.Ended at conn)) h n c l = absurd h
admitted calls one after (step.Came (came.Tick at)) h n c l = absurd h
admitted calls one after step.Stopped h n c l = absurd h
admitted calls one after step.Nothing h n c l = absurd h
