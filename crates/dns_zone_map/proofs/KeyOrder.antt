-- How keys stand to one another, and a search that goes from one to the next.
use Rattle.std.proofs.Common.{Ordering, ◌≡◌, ℕ, ◌<◌, Bool, true, false, List, [], ◌∷◌, ◌++◌, length, drop, get_or, ◌+◌, ◌≤◌, suc, refl, sym, ap, subst, ◌∙◌, arith, Vec, Global, eqb}
use Rattle.std.specs.Prelude.{◌&&◌, ◌||◌}
use Rattle.std.proofs.Math.Seq.{drop-cons}
use Rattle.std.proofs.Math.ListN.{drop_of_length-le}
use Rattle.std.specs.List.{AllByRecursion, list_any, starts_with}
use Rattle.std.specs.Map.{keys_of}
use Rattle.std.specs.Ordering.{nat_cmp, is_gt, ordering_then, MatchOrdering}
use Rattle.std.specs.declared.cmp.Ordering.TheVariants.{Less, Equal, Greater}
use Rattle.std.specs.Cmp.{nat_cmp_total}
use Rattle.std.specs.Cmp.Lexicographic.{slice_cmp}
use Rattle.std.specs.List.Sorted.{IsStrictlySortedBy}
use Rattle.std.proofs.lemmas.Cmp.{ranked, tied_itself}
use Rattle.std.proofs.lemmas.Map.Keys.{sorted_head, sorted_tail}
use Rattle.dns_zone_map.specs.Keys.{BeginsWith}
use Rattle.dns_zone_map.specs.KeyOrder.{standing}
use Rattle.dns_zone_map.proofs.Firsts.{IsUpTo, keys_together, no_true, starts-Decides}

-- what begins with a key stands among those
among : (front rest : List ℕ) → standing (front ++ rest) front ≡ Equal
unfolding standing
among [] [] = refl
among [] (r ∷ rest) = refl
among (f ∷ fs) rest = rw (tied_itself nat_cmp_total f) (among fs rest)

-- what stands among those that begin with a key begins with it
begins_so : (key front : List ℕ) → standing key front ≡ Equal → BeginsWith key front
unfolding standing
begins_so key [] h = (key, refl)
begins_so [] (f ∷ fs) h = absurd cc
begins_so (k ∷ ks) (f ∷ fs) h = go (begins_so ks fs) (nat_cmp k f) (ranked k f _ refl) h
  where
    go : (standing ks fs ≡ Equal → BeginsWith ks fs) → (r : Ordering) → MatchOrdering r (k < f) (k ≡ f) (f < k) → ordering_then r (standing ks fs) ≡ Equal → BeginsWith (k ∷ ks) (f ∷ fs)
    go later Less m h = absurd cc
    go later Equal m h = let b = later h in (b.0, ap (λ (x : ℕ). x ∷ ks) m ∙ ap (λ (xs : List ℕ). f ∷ xs) b.1)
    go later Greater m h = absurd cc

-- a key is up to what stands behind those that begin with it
up_behind : (key front : List ℕ) → standing key front ≡ Greater → IsUpTo front key
unfolding standing
up_behind key [] h = absurd cc
up_behind [] (f ∷ fs) h = absurd cc
up_behind (k ∷ ks) (f ∷ fs) h = go (up_behind ks fs) (nat_cmp k f) (nat_cmp f k) (ranked k f _ refl) (ranked f k _ refl) h
  where
    go : (standing ks fs ≡ Greater → IsUpTo fs ks) → (r s : Ordering) → MatchOrdering r (k < f) (k ≡ f) (f < k) → MatchOrdering s (f < k) (f ≡ k) (k < f) → ordering_then r (standing ks fs) ≡ Greater
        → is_gt (ordering_then s (slice_cmp nat_cmp fs ks)) ≡ false
    go later Less s m n h = absurd cc
    go later Equal Less m n h = absurd (omega (arith, m, n))
    go later Equal Equal m n h = later h
    go later Equal Greater m n h = absurd (omega (arith, m, n))
    go later Greater Less m n h = refl
    go later Greater Equal m n h = absurd (omega (arith, m, n))
    go later Greater Greater m n h = absurd (omega (arith, m, n))

-- how the keys from a place on stand, where both go on there
from_place : (key front : List ℕ) (place : ℕ) → place < length key → place < length front
    → standing (drop place key) (drop place front) ≡ ordering_then (nat_cmp (get_or key place 0) (get_or front place 0)) (standing (drop (place + 1) key) (drop (place + 1) front))
unfolding standing
from_place key front place within h =
    let next : place + 1 ≡ suc place = omega arith in
    rw (next, drop-cons key place 0 within, drop-cons front place 0 h) refl

-- the first byte that differs tells it, and so does the end of one of them
pub stands_less : (key front : List ℕ) (place : ℕ) → standing key front ≡ standing (drop place key) (drop place front) → place < length key → place < length front → get_or key place 0 < get_or front place 0
    → Less ≡ standing key front
stands_less key front place is within h less =
    sym (is ∙ from_place key front place within h ∙ go (nat_cmp (get_or key place 0) (get_or front place 0)) (ranked (get_or key place 0) (get_or front place 0) _ refl))
  where
    go : (r : Ordering) → MatchOrdering r (get_or key place 0 < get_or front place 0) (get_or key place 0 ≡ get_or front place 0) (get_or front place 0 < get_or key place 0)
        → ordering_then r (standing (drop (place + 1) key) (drop (place + 1) front)) ≡ Less
    go Less m = refl
    go Equal m = absurd (omega (arith, m, less))
    go Greater m = absurd (omega (arith, m, less))

pub stands_greater : (key front : List ℕ) (place : ℕ) → standing key front ≡ standing (drop place key) (drop place front) → place < length key → place < length front → get_or front place 0 < get_or key place 0
    → Greater ≡ standing key front
stands_greater key front place is within h greater =
    sym (is ∙ from_place key front place within h ∙ go (nat_cmp (get_or key place 0) (get_or front place 0)) (ranked (get_or key place 0) (get_or front place 0) _ refl))
  where
    go : (r : Ordering) → MatchOrdering r (get_or key place 0 < get_or front place 0) (get_or key place 0 ≡ get_or front place 0) (get_or front place 0 < get_or key place 0)
        → ordering_then r (standing (drop (place + 1) key) (drop (place + 1) front)) ≡ Greater
    go Less m = absurd (omega (arith, m, greater))
    go Equal m = absurd (omega (arith, m, greater))
    go Greater m = refl

pub stands_on : (key front : List ℕ) (place : ℕ) → standing key front ≡ standing (drop place key) (drop place front) → place < length key → place < length front
    → (get_or key place 0 < get_or front place 0 → ⊥) → (get_or front place 0 < get_or key place 0 → ⊥) → standing key front ≡ standing (drop (place + 1) key) (drop (place + 1) front)
stands_on key front place is within h no_less no_greater =
    is ∙ from_place key front place within h ∙ go (nat_cmp (get_or key place 0) (get_or front place 0)) (ranked (get_or key place 0) (get_or front place 0) _ refl)
  where
    go : (r : Ordering) → MatchOrdering r (get_or key place 0 < get_or front place 0) (get_or key place 0 ≡ get_or front place 0) (get_or front place 0 < get_or key place 0)
        → ordering_then r (standing (drop (place + 1) key) (drop (place + 1) front)) ≡ standing (drop (place + 1) key) (drop (place + 1) front)
    go Less m = absurd (no_less m)
    go Equal m = refl
    go Greater m = absurd (no_greater m)

pub stands_short : (key front : List ℕ) (place : ℕ) → standing key front ≡ standing (drop place key) (drop place front) → length key ≤ place → place < length front → Less ≡ standing key front
unfolding standing
stands_short key front place is ends h =
    let behind : standing (drop place key) (drop place front) ≡ Less = rw (drop_of_length-le key ends, drop-cons front place 0 h) refl in
    sym (is ∙ behind)

pub stands_among : (key front : List ℕ) (place : ℕ) → standing key front ≡ standing (drop place key) (drop place front) → length front ≤ place → Equal ≡ standing key front
unfolding standing
stands_among key front place is ends =
    let behind : standing (drop place key) (drop place front) ≡ Equal = ap (standing (drop place key)) (drop_of_length-le front ends) ∙ nothing (drop place key) in
    sym (is ∙ behind)
  where
    nothing : (xs : List ℕ) → standing xs [] ≡ Equal
    nothing [] = refl
    nothing (x ∷ xs) = refl

pub starts_among : (key front : List ℕ) → standing key front ≡ Equal → starts_with eqb key front ≡ true
starts_among key front h = (starts-Decides key front).1 (begins_so key front h)

pub starts_not : (key front : List ℕ) → (standing key front ≡ Equal → ⊥) → starts_with eqb key front ≡ false
starts_not key front h =
    no_true (starts_with eqb key front) (λ t.
    let b = (starts-Decides key front).0 t in
    h (ap (λ (xs : List ℕ). standing xs front) b.1 ∙ among front b.0))

module _ {X : Type 0} (key : List ℕ) (has : X → Bool) where
  abbrev is_owner : Vec ℕ Global × X → Bool
  is_owner e = starts_with eqb e.0.items key && has e.1

  -- the entries that are not looked at yet, where none before them is what is sought
  pub record AreLeft (es next : List (Vec ℕ Global × X)) : Type 0 where
    pub sorted : IsStrictlySortedBy (λ x y. slice_cmp nat_cmp x.items y.items) (keys_of next)
    pub same : list_any is_owner next ≡ list_any is_owner es

  pub left_start : (es next : List (Vec ℕ Global × X)) → IsStrictlySortedBy (λ x y. slice_cmp nat_cmp x.items y.items) (keys_of es) → next ≡ es → AreLeft es next
  left_start es next s is = subst (AreLeft es) (sym is) (record { sorted = s; same = refl })

  no_owner : (e : Vec ℕ Global × X) → starts_with eqb e.0.items key ≡ false → is_owner e ≡ false
  no_owner e h = ap (λ b. b && has e.1) h

  none_owned : (e : Vec ℕ Global × X) → has e.1 ≡ false → is_owner e ≡ false
  none_owned e h = go (starts_with eqb e.0.items key)
    where
      go : (b : Bool) → (b && has e.1) ≡ false
      go true = h
      go false = refl

  passed : (es next rest : List (Vec ℕ Global × X)) (e : Vec ℕ Global × X) → AreLeft es next → next ≡ e ∷ rest → is_owner e ≡ false → AreLeft es rest
  passed es next rest e n is none =
      let m : AreLeft es (e ∷ rest) = subst (AreLeft es) is n in
      record { sorted = sorted_tail (λ x y. slice_cmp nat_cmp x.items y.items) e.0 (keys_of rest) m.sorted; same = sym (ap (λ b. b || list_any is_owner rest) none) ∙ m.same }

  -- one before those that begin with the key is passed over, and one that owns nothing
  pub left_before : (es next rest : List (Vec ℕ Global × X)) (e : Vec ℕ Global × X) → AreLeft es next → next ≡ e ∷ rest → standing e.0.items key ≡ Less → AreLeft es rest
  left_before es next rest e n is before = passed es next rest e n is (no_owner e (starts_not e.0.items key (λ h. let e = sym before ∙ h in cc)))

  pub left_empty : (es next rest : List (Vec ℕ Global × X)) (e : Vec ℕ Global × X) → AreLeft es next → next ≡ e ∷ rest → has e.1 ≡ false → AreLeft es rest
  left_empty es next rest e n is empty = passed es next rest e n is (none_owned e empty)

  -- one that begins with the key and owns something is what is sought
  pub left_found : (es next rest : List (Vec ℕ Global × X)) (e : Vec ℕ Global × X) → AreLeft es next → next ≡ e ∷ rest → standing e.0.items key ≡ Equal → has e.1 ≡ true → true ≡ list_any is_owner es
  left_found es next rest e n is among owns =
      let m : AreLeft es (e ∷ rest) = subst (AreLeft es) is n in
      let one : is_owner e ≡ true = ap (λ b. b && has e.1) (starts_among e.0.items key among) ∙ owns in
      sym (ap (λ b. b || list_any is_owner rest) one) ∙ m.same

  none_behind : (e : Vec ℕ Global × X) (es : List (Vec ℕ Global × X)) → IsUpTo key e.0.items → starts_with eqb e.0.items key ≡ false → AllByRecursion (λ k. slice_cmp nat_cmp e.0.items k.items ≡ Less) (keys_of es) → list_any is_owner es ≡ false
  none_behind e [] up other s = refl
  none_behind e (f ∷ fs) up other s =
      let here : starts_with eqb f.0.items key ≡ false = no_true (starts_with eqb f.0.items key) (λ t.
      let b = (starts-Decides f.0.items key).0 t in
      let g = keys_together key e.0.items f.0.items up (ap is_gt s.0) b in
      let y : starts_with eqb e.0.items key ≡ true = (starts-Decides e.0.items key).1 g in
      cc) in
      rw (no_owner f here) (none_behind e fs up other s.1)

  -- behind one that is behind all that begin with the key, none begins with it
  pub left_behind : (es next rest : List (Vec ℕ Global × X)) (e : Vec ℕ Global × X) → AreLeft es next → next ≡ e ∷ rest → standing e.0.items key ≡ Greater → false ≡ list_any is_owner es
  left_behind es next rest e n is behind =
      let m : AreLeft es (e ∷ rest) = subst (AreLeft es) is n in
      let other : starts_with eqb e.0.items key ≡ false = starts_not e.0.items key (λ h. let x = sym behind ∙ h in cc) in
      let later : list_any is_owner rest ≡ false = none_behind e rest (up_behind e.0.items key behind) other (sorted_head (λ x y. slice_cmp nat_cmp x.items y.items) e.0 (keys_of rest) m.sorted) in
      let all : list_any is_owner (e ∷ rest) ≡ false = rw (no_owner e other) later in
      sym all ∙ m.same

  -- there is none
  pub left_end : (es next : List (Vec ℕ Global × X)) → AreLeft es next → next ≡ [] → false ≡ list_any is_owner es
  left_end es next n is = sym (ap (list_any is_owner) is) ∙ n.same
