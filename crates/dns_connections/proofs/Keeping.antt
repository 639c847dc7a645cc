-- A call for one connection keeps what holds of all.
use Rattle.std.proofs.Common.{◌≡◌, ◌≢◌, ◌≤◌, ◌<◌, ◌+◌, ◌⊎◌, inl, inr, ℕ, zero, suc, List, [], ◌∷◌, ◌++◌, length, get_or, set, slice_set, Bool, true, false, not, cond, ◌||◌, refl, sym, ap, subst, ◌∙◌, arith, true≢false}
use Rattle.std.specs.List.{AllByRecursion, filter}
use Rattle.std.proofs.lemmas.Bool.Decides.{eqb_tells}
use Rattle.std.proofs.lemmas.List.Sums.{sum_by-append, sum_by-cons, sum_by-set}
use Rattle.dns_network.specs.Calls.{Noted}
use Rattle.dns_network.specs.Words.{has_worked, now_of}
use Rattle.dns_connections.specs.Accepting.{held_more, held_with}
use Rattle.dns_connections.specs.Kept.{Account, Acts, Climb, Follows, IsKept, IsRight, IsUnused, IsWatched, Keeps, Line, account_of, line_of}
use Rattle.dns_connections.specs.Links.{LinkSeen, is_kept, link_at, no_link, standing}

-- lists
all_weaker : (P Q : LinkSeen → Type 0) → ((o : LinkSeen) → P o → Q o) → (os : List LinkSeen) → AllByRecursion P os → AllByRecursion Q os
all_weaker P Q f [] a = tt
all_weaker P Q f (o ∷ os) a = (f o a.0, all_weaker P Q f os a.1)

pub all_other : (P Q R : LinkSeen → Type 0) → ((o : LinkSeen) → P o → Q o → R o) → (os : List LinkSeen) → AllByRecursion P os → AllByRecursion Q os → AllByRecursion R os
all_other P Q R f [] a b = tt
all_other P Q R f (o ∷ os) a b = (f o a.0 b.0, all_other P Q R f os a.1 b.1)

pub all_at : (P : LinkSeen → Type 0) (os : List LinkSeen) (i : ℕ) → i < length os → AllByRecursion P os → P (link_at os i)
all_at P [] i l a = absurd (omega (arith, l))
all_at P (o ∷ os) zero l a = a.0
all_at P (o ∷ os) (suc i) l a = all_at P os i (omega (arith, l)) a.1

module _ (P Q : LinkSeen → Type 0) (n : ℕ) (f : (o : LinkSeen) → (o.number ≡ n → ⊥) → P o → Q o) where
  others : (o : LinkSeen) → o.number ≡ n → (os : List LinkSeen) → AllByRecursion (λ p. o.number < p.number) os → AllByRecursion P os → AllByRecursion Q os
  others o e os c a = all_other (λ p. o.number < p.number) P Q (λ p l x. f p (λ h. omega (arith, l, h, e)) x) os c a

  all_set : (os : List LinkSeen) (i : ℕ) (x : LinkSeen) (next : ℕ) → i < length os → Climb os next → (link_at os i).number ≡ n → AllByRecursion P os → Q x → AllByRecursion Q (slice_set os i x)
  all_set [] i x next l c e a q = absurd (omega (arith, l))
  all_set (o ∷ os) zero x next l c e a q = (q, others o e os c.1 a.1)
  all_set (o ∷ os) (suc i) x next l c e a q =
      let m : i < length os = omega (arith, l) in
      let p : o.number < (link_at os i).number = all_at (λ p. o.number < p.number) os i m c.1 in
      (f o (λ h. omega (arith, p, h, e)) a.0, all_set os i x next m c.2 e a.1 q)

set_all : (P : LinkSeen → Type 0) (os : List LinkSeen) (i : ℕ) (x : LinkSeen) → AllByRecursion P os → P x → AllByRecursion P (slice_set os i x)
set_all P [] i x a q = tt
set_all P (o ∷ os) zero x a q = (q, a.1)
set_all P (o ∷ os) (suc i) x a q = (a.0, set_all P os i x a.1 q)

all_push : (P : LinkSeen → Type 0) (os : List LinkSeen) (x : LinkSeen) → AllByRecursion P os → P x → AllByRecursion P (os ++ x ∷ [])
all_push P [] x a q = (q, tt)
all_push P (o ∷ os) x a q = (a.0, all_push P os x a.1 q)

climb_set : (os : List LinkSeen) (i : ℕ) (x : LinkSeen) (next : ℕ) → i < length os → Climb os next → x.number ≡ (link_at os i).number → Climb (slice_set os i x) next
climb_set [] i x next l c e = tt
climb_set (o ∷ os) zero x next l c e = (subst (λ (m : ℕ). m < next) (sym e) c.0, subst (λ (m : ℕ). AllByRecursion (λ p. m < p.number) os) (sym e) c.1, c.2)
climb_set (o ∷ os) (suc i) x next l c e =
    let m : i < length os = omega (arith, l) in
    (c.0, set_all (λ p. o.number < p.number) os i x c.1 (subst (λ (k : ℕ). o.number < k) (sym e) (all_at (λ p. o.number < p.number) os i m c.1)), climb_set os i x next m c.2 e)

pub climb_below : (os : List LinkSeen) (next : ℕ) → Climb os next → AllByRecursion (λ o. o.number < next) os
climb_below [] next c = tt
climb_below (o ∷ os) next c = (c.0, climb_below os next c.2)

climb_push : (os : List LinkSeen) (x : LinkSeen) (next : ℕ) → x.number ≡ next → Climb os next → Climb (os ++ x ∷ []) (next + 1)
climb_push [] x next e c = (omega (arith, e), tt, tt)
climb_push (o ∷ os) x next e c = (omega (arith, c.0), all_push (λ p. o.number < p.number) os x c.1 (omega (arith, c.0, e)), climb_push os x next e c.2)

all_kept_by : (P : LinkSeen → Type 0) (b : Bool) (o : LinkSeen) (os : List LinkSeen) → P o → AllByRecursion P os → AllByRecursion P (cond b (o ∷ os) os)
all_kept_by P true o os p a = (p, a)
all_kept_by P false o os p a = a

all_filter : (P : LinkSeen → Type 0) (keeps : LinkSeen → Bool) (os : List LinkSeen) → AllByRecursion P os → AllByRecursion P (filter keeps os)
all_filter P keeps [] a = tt
all_filter P keeps (o ∷ os) a = all_kept_by P (keeps o) o (filter keeps os) a.0 (all_filter P keeps os a.1)

climb_kept_by : (b : Bool) (o : LinkSeen) (os : List LinkSeen) (next : ℕ) → o.number < next → AllByRecursion (λ p. o.number < p.number) os → Climb os next → Climb (cond b (o ∷ os) os) next
climb_kept_by true o os next l a c = (l, a, c)
climb_kept_by false o os next l a c = c

climb_filter : (keeps : LinkSeen → Bool) (os : List LinkSeen) (next : ℕ) → Climb os next → Climb (filter keeps os) next
climb_filter keeps [] next c = tt
climb_filter keeps (o ∷ os) next c = climb_kept_by (keeps o) o (filter keeps os) next c.0 (all_filter (λ p. o.number < p.number) keeps os c.1) (climb_filter keeps os next c.2)

-- how many stand
abbrev pub counts : LinkSeen → ℕ
counts one = cond one.stands 1 0

standing_same : (all : List LinkSeen) (place : ℕ) (one d : LinkSeen) → place < length all → one.stands ≡ (get_or all place d).stands
    → standing (set all place one) ≡ standing all
standing_same all place one d inside same =
    let sums = sum_by-set counts all place one d inside in
    let alike = ap {B = ℕ} (λ (b : Bool). cond b 1 0) same in
    omega (arith, sums, alike)

standing_less : (all : List LinkSeen) (place : ℕ) (one d : LinkSeen) → place < length all → (get_or all place d).stands ≡ true → one.stands ≡ false
    → standing (set all place one) + 1 ≡ standing all
standing_less all place one d inside stood ends =
    let sums = sum_by-set counts all place one d inside in
    let before = ap {B = ℕ} (λ (b : Bool). cond b 1 0) stood in
    let after = ap {B = ℕ} (λ (b : Bool). cond b 1 0) ends in
    omega (arith, sums, before, after)

held_by : (b : Bool) (all : List LinkSeen) (place held : ℕ) (one : LinkSeen) → place < length all → (link_at all place).stands ≡ true → one.stands ≡ b → held ≡ standing all
    → held_with b held ≡ standing (set all place one)
held_by true all place held one inside stood is k = k ∙ sym (standing_same all place one no_link inside (is ∙ sym stood))
held_by false all place held one inside stood is k =
    let less = standing_less all place one no_link inside stood is in
    omega (arith, less, k)

pub held_set : (all : List LinkSeen) (place held : ℕ) (one : LinkSeen) → place < length all → (link_at all place).stands ≡ true → held ≡ standing all
    → held_with one.stands held ≡ standing (set all place one)
held_set all place held one inside stood k = held_by one.stands all place held one inside stood refl k

-- it stands as before
pub held_same : (all : List LinkSeen) (place held : ℕ) (one : LinkSeen) → place < length all → one.stands ≡ (link_at all place).stands → held ≡ standing all
    → held ≡ standing (set all place one)
held_same all place held one inside same k = k ∙ sym (standing_same all place one no_link inside same)

-- it stands as before, or was closed
held_any_by : (b : Bool) (all : List LinkSeen) (place held : ℕ) (one later : LinkSeen) → place < length all → link_at all place ≡ one → one.stands ≡ b → (one.stands ≡ false → later.stands ≡ false)
    → held ≡ standing all → held_with (not b || later.stands) held ≡ standing (set all place later)
held_any_by true all place held one later inside at is gone k = held_set all place held later inside (ap (λ (o : LinkSeen). o.stands) at ∙ is) k
held_any_by false all place held one later inside at is gone k =
    held_same all place held later inside (gone is ∙ sym (ap (λ (o : LinkSeen). o.stands) at ∙ is)) k

pub held_any : (all : List LinkSeen) (place held : ℕ) (one later : LinkSeen) → place < length all → link_at all place ≡ one → (one.stands ≡ false → later.stands ≡ false)
    → held ≡ standing all → held_with (not one.stands || later.stands) held ≡ standing (set all place later)
held_any all place held one later inside at gone k = held_any_by one.stands all place held one later inside at refl gone k

held_push_by : (b : Bool) (all : List LinkSeen) (held : ℕ) (one : LinkSeen) → one.stands ≡ b → held ≡ standing all → held_more b held ≡ standing (all ++ one ∷ [])
held_push_by true all held one is k =
    let sums = sum_by-append counts all (one ∷ []) in
    let last = sum_by-cons counts one [] in
    let here = ap {B = ℕ} (λ (b : Bool). cond b 1 0) is in
    omega (arith, sums, last, here, k)
held_push_by false all held one is k =
    let sums = sum_by-append counts all (one ∷ []) in
    let last = sum_by-cons counts one [] in
    let here = ap {B = ℕ} (λ (b : Bool). cond b 1 0) is in
    omega (arith, sums, last, here, k)

held_push : (all : List LinkSeen) (held : ℕ) (one : LinkSeen) → held ≡ standing all → held_more one.stands held ≡ standing (all ++ one ∷ [])
held_push all held one k = held_push_by one.stands all held one refl k

kept_by : (b s : Bool) (one : LinkSeen) (left all : List LinkSeen) → one.stands ≡ s → (s || one.untold) ≡ b → standing left ≡ standing all
    → standing (cond b (one ∷ left) left) ≡ standing (one ∷ all)
kept_by true s one left all is keeps rest =
    let before = sum_by-cons counts one all in
    let after = sum_by-cons counts one left in
    omega (arith, rest, before, after)
kept_by false true one left all is keeps rest = absurd (true≢false keeps)
kept_by false false one left all is keeps rest =
    let before = sum_by-cons counts one all in
    let none = ap {B = ℕ} (λ (b : Bool). cond b 1 0) is in
    omega (arith, rest, before, none)

standing_kept : (all : List LinkSeen) → standing (filter is_kept all) ≡ standing all
standing_kept [] = refl
standing_kept (one ∷ all) = kept_by (is_kept one) one.stands one (filter is_kept all) all refl refl (standing_kept all)

-- calls that show nothing of any connection
pub keeps_lines : (calls after handed came : List Noted) (links : List LinkSeen) (next ticks later held : ℕ) (worked works : Bool)
    → ((n : ℕ) → line_of n after ≡ line_of n calls) → now_of after ≡ later → (works ≡ true → has_worked after ≡ true)
    → Keeps calls handed came links next ticks held worked → Keeps after handed came links next later held works
keeps_lines calls after handed came links next ticks later held worked works e t w k = record {
  kept = all_weaker (IsKept calls handed came) (IsKept after handed came) (λ o q. record {
    follows = subst (λ (l : Line). Follows l (account_of o.number handed came) o) (sym (e o.number)) q.follows;
    watched = subst (λ (l : Line). IsWatched l o) (sym (e o.number)) q.watched;
  }) links k.kept;
  right = λ n. subst (λ (l : Line). IsRight l (account_of n handed came)) (sym (e n)) (k.right n);
  unused = λ n b. record { blank = e n ∙ (k.unused n b).blank; quiet = (k.unused n b).quiet };
  climb = k.climb;
  now = t;
  places = k.places;
  works = w;
}

which_by : (m n : ℕ) {b : Bool} → ((b ≡ true) × (m ≡ n)) ⊎ ((b ≡ false) × (m ≢ n)) → (m ≡ n) ⊎ (m ≢ n)
which_by m n (inl p) = inl p.1
which_by m n (inr p) = inr p.1

pub which : (m n : ℕ) → (m ≡ n) ⊎ (m ≢ n)
which m n = which_by m n (eqb_tells m n)

-- one connection acts, and its account changes so
module _ (calls after handed handed_now came came_now : List Noted) (n : ℕ) (f : Account → Account) (one later : LinkSeen)
    (same : one.number ≡ n) (act : Acts calls after f one later)
    (accounts : (m : ℕ) → (m ≡ n → ⊥) → account_of m handed_now came_now ≡ account_of m handed came)
    (account : account_of n handed_now came_now ≡ f (account_of n handed came)) where
  lines : (m : ℕ) → (m ≡ n → ⊥) → line_of m after ≡ line_of m calls
  lines m h = act.others m (λ e. h (e ∙ same))

  numbered : later.number ≡ n
  numbered = act.number ∙ same

  right_other : (m : ℕ) → (m ≡ n → ⊥) → IsRight (line_of m calls) (account_of m handed came) → IsRight (line_of m after) (account_of m handed_now came_now)
  right_other m h r =
      subst (λ (l : Line). IsRight l (account_of m handed_now came_now)) (sym (lines m h)) (subst (λ (a : Account). IsRight (line_of m calls) a) (sym (accounts m h)) r)

  kept_other : (o : LinkSeen) → (o.number ≡ n → ⊥) → IsKept calls handed came o → IsKept after handed_now came_now o
  kept_other o h q = record {
    follows =
        subst (λ (l : Line). Follows l (account_of o.number handed_now came_now) o) (sym (lines o.number h))
        (subst (λ (a : Account). Follows (line_of o.number calls) a o) (sym (accounts o.number h)) q.follows);
    watched = subst (λ (l : Line). IsWatched l o) (sym (lines o.number h)) q.watched;
  }

  own : Follows (line_of n calls) (account_of n handed came) one → Follows (line_of n after) (account_of n handed_now came_now) later
  own k =
      let before : Follows (line_of one.number calls) (account_of n handed came) one = subst (λ (m : ℕ). Follows (line_of m calls) (account_of n handed came) one) (sym same) k in
      let here : Follows (line_of one.number after) (f (account_of n handed came)) later = act.own (account_of n handed came) before in
      subst (λ (a : Account). Follows (line_of n after) a later) (sym account) (subst (λ (m : ℕ). Follows (line_of m after) (f (account_of n handed came)) later) same here)

  kept_own : Follows (line_of n calls) (account_of n handed came) one → IsWatched (line_of later.number after) later → IsKept after handed_now came_now later
  kept_own k w = record {
    follows = subst (λ (m : ℕ). Follows (line_of m after) (account_of m handed_now came_now) later) (sym numbered) (own k);
    watched = w;
  }

  right_by : IsRight (line_of n after) (account_of n handed_now came_now) → (m : ℕ) → (m ≡ n) ⊎ (m ≢ n) → IsRight (line_of m calls) (account_of m handed came) → IsRight (line_of m after) (account_of m handed_now came_now)
  right_by r m (inl e) q = subst (λ (k : ℕ). IsRight (line_of k after) (account_of k handed_now came_now)) (sym e) r
  right_by r m (inr h) q = right_other m h q

  pub keeps_set : (links : List LinkSeen) (i next ticks held : ℕ) (held_now : ℕ) (worked : Bool) → i < length links → link_at links i ≡ one → IsWatched (line_of later.number after) later
      → held_now ≡ standing (slice_set links i later) → Keeps calls handed came links next ticks held worked
      → Keeps after handed_now came_now (slice_set links i later) next ticks held_now worked
  keeps_set links i next ticks held held_now worked inside at w h k =
      let here : (link_at links i).number ≡ n = ap (λ (o : LinkSeen). o.number) at ∙ same in
      let kept : IsKept calls handed came one = subst (IsKept calls handed came) at (all_at (IsKept calls handed came) links i inside k.kept) in
      let follows : Follows (line_of n calls) (account_of n handed came) one =
      subst (λ (m : ℕ). Follows (line_of m calls) (account_of m handed came) one) same kept.follows in
      let below : n < next = subst (λ (m : ℕ). m < next) here (all_at (λ o. o.number < next) links i inside (climb_below links next k.climb)) in
      record {
        kept = all_set (IsKept calls handed came) (IsKept after handed_now came_now) n kept_other links i later next inside k.climb here k.kept (kept_own follows w);
        right = λ m. right_by (own follows).right m (which m n) (k.right m);
        unused = λ m b.
            let apart : m ≡ n → ⊥ = λ e. omega (arith, below, b, e) in
            record { blank = lines m apart ∙ (k.unused m b).blank; quiet = accounts m apart ∙ (k.unused m b).quiet };
        climb = climb_set links i later next inside k.climb (numbered ∙ sym here);
        now = act.now ∙ k.now;
        places = h;
        works = λ e. act.worked (k.works e);
      }

  -- a newcomer, under the next number
  pub keeps_push : (links : List LinkSeen) (ticks held : ℕ) (worked : Bool) → Follows (line_of n calls) (account_of n handed came) one → IsWatched (line_of later.number after) later
      → AllByRecursion (IsKept calls handed came) links → Climb links n → ((m : ℕ) → IsRight (line_of m calls) (account_of m handed came))
      → ((m : ℕ) → n + 1 ≤ m → IsUnused (line_of m calls) (account_of m handed came)) → now_of calls ≡ ticks → held ≡ standing links → has_worked calls ≡ true
      → Keeps after handed_now came_now (links ++ later ∷ []) (n + 1) ticks (held_more later.stands held) worked
  keeps_push links ticks held worked follows w kept climb right unused now h works = record {
    kept = all_push (IsKept after handed_now came_now) links later
        (all_other (λ o. o.number < n) (IsKept calls handed came) (IsKept after handed_now came_now) (λ o l q. kept_other o (λ e. omega (arith, l, e)) q) links (climb_below links n climb) kept)
        (kept_own follows w);
    right = λ m. right_by (own follows).right m (which m n) (right m);
    unused = λ m b.
        let apart : m ≡ n → ⊥ = λ e. omega (arith, b, e) in
        record { blank = lines m apart ∙ (unused m b).blank; quiet = accounts m apart ∙ (unused m b).quiet };
    climb = climb_push links later n numbered climb;
    now = act.now ∙ now;
    places = held_push links held later h;
    works = λ e. act.worked works;
  }

-- those that ended are let go of
pub keeps_filter : (calls handed came : List Noted) (links : List LinkSeen) (next ticks held : ℕ) (worked : Bool) → Keeps calls handed came links next ticks held worked
    → Keeps calls handed came (filter is_kept links) next ticks held worked
keeps_filter calls handed came links next ticks held worked k = record {
  kept = all_filter (IsKept calls handed came) is_kept links k.kept;
  right = k.right;
  unused = k.unused;
  climb = climb_filter is_kept links next k.climb;
  now = k.now;
  places = k.places ∙ sym (standing_kept links);
  works = k.works;
}
