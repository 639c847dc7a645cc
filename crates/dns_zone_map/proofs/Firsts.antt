-- The keys that begin with one follow it at once: a search from it on for one that owns records.
use Rattle.std.proofs.Common.{Ordering, ◌≡◌, ℕ, ◌<◌, Bool, true, false, List, [], ◌∷◌, ◌++◌, length, take, drop, slice_index_or, refl, sym, ap, subst, ◌∙◌, arith, Vec, Global, eqb}
use Rattle.std.specs.Prelude.{filter, ◌&&◌, ◌||◌, not, cond}
use Rattle.std.specs.Bool.{Decides}
use Rattle.std.specs.List.{AllByRecursion, list_any, starts_with}
use Rattle.std.specs.Map.{keys_of}
use Rattle.std.specs.Ordering.{nat_cmp, is_gt, is_le, ordering_then, MatchOrdering}
use Rattle.std.specs.declared.cmp.Ordering.TheVariants.{Less, Equal, Greater}
use Rattle.std.specs.Cmp.{nat_cmp_total}
use Rattle.std.specs.Cmp.Lexicographic.{slice_cmp}
use Rattle.std.specs.List.Sorted.{IsStrictlySortedBy}
use Rattle.std.proofs.lemmas.Cmp.{ranked, tied_itself}
use Rattle.std.proofs.lemmas.List.Kept.{IsStrictlySortedBy-filter}
use Rattle.std.proofs.lemmas.Map.Keys.{sorted_head, sorted_tail}
use Rattle.std.proofs.lemmas.Slice.Eq.{starts_is}
use Rattle.std.proofs.lemmas.Bool.Decides.{Decides-eqb}
use Rattle.std.proofs.lemmas.List.{take-append-drop, get_or_append_left}
use Rattle.dns_zone_map.specs.Keys.{BeginsWith}

abbrev pub IsUpTo : List ℕ → List ℕ → Type 0
IsUpTo a b = is_gt (slice_cmp nat_cmp a b) ≡ false

-- what the order says of two first bytes that are up to one another both ways
first_same : (x y : ℕ) (o p : Ordering) → is_gt (ordering_then (nat_cmp x y) o) ≡ false → is_gt (ordering_then (nat_cmp y x) p) ≡ false → (x ≡ y) × (is_gt o ≡ false) × (is_gt p ≡ false)
first_same x y o p h g = go (nat_cmp x y) (nat_cmp y x) (ranked x y _ refl) (ranked y x _ refl) h g
  where
    go : (r s : Ordering) → MatchOrdering r (x < y) (x ≡ y) (y < x) → MatchOrdering s (y < x) (y ≡ x) (x < y) → is_gt (ordering_then r o) ≡ false → is_gt (ordering_then s p) ≡ false → (x ≡ y) × (is_gt o ≡ false) × (is_gt p ≡ false)
    go Less Less a b h g = absurd (omega arith)
    go Less Equal a b h g = absurd (omega arith)
    go Less Greater a b h g = cc
    go Equal Less a b h g = absurd (omega arith)
    go Equal Equal a b h g = (a, h, g)
    go Equal Greater a b h g = cc
    go Greater s a b h g = cc

-- keys that begin with a key follow it at once
pub keys_together : (key between last : List ℕ) → IsUpTo key between → IsUpTo between last → BeginsWith last key → BeginsWith between key
keys_together [] between last h g b = (between, refl)
keys_together (k ∷ ks) [] last h g b = cc
keys_together (k ∷ ks) (x ∷ xs) [] h g b = let e = b.1 in cc
keys_together (k ∷ ks) (x ∷ xs) (z ∷ zs) h g b =
    let e : z ∷ zs ≡ k ∷ (ks ++ b.0) = b.1 in
    let head : z ≡ k = cc in
    let f = first_same k x (slice_cmp nat_cmp ks xs) (slice_cmp nat_cmp xs zs) h (rw head at g) in
    let m = keys_together ks xs zs f.1 f.2 (b.0, cc) in
    (m.0, ap (λ y. y ∷ xs) (sym f.0) ∙ ap (λ ys. k ∷ ys) m.1)

-- a key is up to what begins with it
IsUpTo-front : (key rest : List ℕ) → IsUpTo key (key ++ rest)
IsUpTo-front [] [] = refl
IsUpTo-front [] (y ∷ ys) = refl
IsUpTo-front (k ∷ ks) rest = rw (tied_itself nat_cmp_total k) (IsUpTo-front ks rest)

-- the test of a beginning
pub starts-Decides : (bytes front : List ℕ) → Decides (starts_with eqb bytes front) (BeginsWith bytes front)
starts-Decides bytes front =
    let p = starts_is Decides-eqb bytes front (starts_with eqb bytes front) refl in
    (λ t. (drop (length front) bytes, p.0 t), λ h. p.1 h.0 h.1)

pub no_true : (b : Bool) → (b ≡ true → ⊥) → b ≡ false
no_true true h = absurd (h refl)
no_true false h = refl

-- bytes whose front is the other begin with it, and those that differ from it at one place do not
pub begins_with : (bytes front : List ℕ) → take (length front) bytes ≡ front → true ≡ starts_with eqb bytes front
begins_with bytes front e =
    sym ((starts-Decides bytes front).1 (drop (length front) bytes, sym (take-append-drop (length front) bytes) ∙ ap (λ (xs : List ℕ). xs ++ drop (length front) bytes) e))

pub begins_otherwise : (bytes front : List ℕ) (i : ℕ) → i < length front → (slice_index_or bytes i 0 ≡ slice_index_or front i 0 → ⊥) → false ≡ starts_with eqb bytes front
begins_otherwise bytes front i within other =
    sym (no_true (starts_with eqb bytes front) (λ t.
    let b = (starts-Decides bytes front).0 t in
    other (ap (λ (xs : List ℕ). slice_index_or xs i 0) b.1 ∙ get_or_append_left front b.0 0 i within)))

pub begins_is : (b : Bool) (bytes front key next : List ℕ) → b ≡ starts_with eqb bytes front → bytes ≡ key → front ≡ next → starts_with eqb key next ≡ b
begins_is b bytes front key next is at of = sym (is ∙ rw (at, of) refl)

not_le : (o : Ordering) → is_le o ≡ not (is_gt o)
not_le Less = refl
not_le Equal = refl
not_le Greater = refl

less_up : (o : Ordering) → o ≡ Less → is_gt o ≡ false
less_up o e = rw e refl

bool_cases : {P : Type 0} (b : Bool) → (b ≡ true → P) → (b ≡ false → P) → P
bool_cases true t f = t refl
bool_cases false t f = f refl

up_to : (o : Ordering) → is_le o ≡ true → is_gt o ≡ false
up_to Less h = refl
up_to Equal h = refl
up_to Greater h = absurd cc

not_up : (o : Ordering) → is_le o ≡ false → is_gt o ≡ false → ⊥
not_up Less h g = cc
not_up Equal h g = cc
not_up Greater h g = cc

module _ {X : Type 0} (key : List ℕ) where
  abbrev begins : Vec ℕ Global × X → Bool
  begins e = starts_with eqb e.0.items key

  -- the key is at the one of the entry or before it
  abbrev is_from : Vec ℕ Global × X → Bool
  is_from e = is_le (slice_cmp nat_cmp key e.0.items) && true

  from_is : (e : Vec ℕ Global × X) (b : Bool) → is_from e ≡ b → is_le (slice_cmp nat_cmp key e.0.items) ≡ b
  from_is e b h = go (is_le (slice_cmp nat_cmp key e.0.items)) h
    where
      go : (c : Bool) → (c && true) ≡ b → c ≡ b
      go true h = h
      go false h = h

  -- what is not at the key or after it does not begin with it
  before_begins : (e : Vec ℕ Global × X) → is_from e ≡ false → begins e ≡ false
  before_begins e h =
      no_true (begins e) (λ t.
      let b = (starts-Decides e.0.items key).0 t in
      let up : IsUpTo key e.0.items = subst (λ (z : List ℕ). IsUpTo key z) (sym b.1) (IsUpTo-front key b.0) in
      not_up (slice_cmp nat_cmp key e.0.items) (from_is e false h) up)

  -- where an entry from the key on does not begin with it, no later one does
  none_later : (e : Vec ℕ Global × X) (es : List (Vec ℕ Global × X)) → is_from e ≡ true → begins e ≡ false → AllByRecursion (λ k. slice_cmp nat_cmp e.0.items k.items ≡ Less) (keys_of es) → list_any begins es ≡ false
  none_later e [] h n s = refl
  none_later e (f ∷ fs) h n s =
      let here : begins f ≡ false = no_true (begins f) (λ t.
      let b = (starts-Decides f.0.items key).0 t in
      let g = keys_together key e.0.items f.0.items (up_to (slice_cmp nat_cmp key e.0.items) (from_is e true h)) (less_up (slice_cmp nat_cmp e.0.items f.0.items) s.0) b in
      let y : begins e ≡ true = (starts-Decides e.0.items key).1 g in
      cc) in
      rw here (none_later e fs h n s.1)

module _ {X : Type 0} (key : List ℕ) (has : X → Bool) where
  abbrev is_owner : Vec ℕ Global × X → Bool
  is_owner e = starts_with eqb e.0.items key && has e.1

  -- the entries from the key on that are not looked at yet, of which one is sought
  pub record AreNext (es next : List (Vec ℕ Global × X)) : Type 0 where
    pub sorted : IsStrictlySortedBy (λ x y. slice_cmp nat_cmp x.items y.items) (keys_of next)
    pub from : AllByRecursion (λ e. is_from key e ≡ true) next
    pub same : list_any is_owner next ≡ list_any is_owner es

  keys_if : (b : Bool) (e : Vec ℕ Global × X) (es : List (Vec ℕ Global × X)) (ks : List (Vec ℕ Global)) → keys_of es ≡ ks → keys_of (cond b (e ∷ es) es) ≡ cond b (e.0 ∷ ks) ks
  keys_if true e es ks h = ap (λ (xs : List (Vec ℕ Global)). e.0 ∷ xs) h
  keys_if false e es ks h = h

  keys_from : (es : List (Vec ℕ Global × X)) → keys_of (filter (is_from key) es) ≡ filter (λ k. is_le (slice_cmp nat_cmp key k.items) && true) (keys_of es)
  keys_from [] = refl
  keys_from (e ∷ es) = keys_if (is_from key e) e (filter (is_from key) es) (filter (λ k. is_le (slice_cmp nat_cmp key k.items) && true) (keys_of es)) (keys_from es)

  all_if : (b : Bool) (e : Vec ℕ Global × X) (es : List (Vec ℕ Global × X)) → is_from key e ≡ b → AllByRecursion (λ f. is_from key f ≡ true) es → AllByRecursion (λ f. is_from key f ≡ true) (cond b (e ∷ es) es)
  all_if true e es h ih = (h, ih)
  all_if false e es h ih = ih

  all_from : (es : List (Vec ℕ Global × X)) → AllByRecursion (λ e. is_from key e ≡ true) (filter (is_from key) es)
  all_from [] = tt
  all_from (e ∷ es) = all_if (is_from key e) e (filter (is_from key) es) refl (all_from es)

  no_owner : (e : Vec ℕ Global × X) → starts_with eqb e.0.items key ≡ false → is_owner e ≡ false
  no_owner e h = ap (λ b. b && has e.1) h

  any_if : (b : Bool) (e : Vec ℕ Global × X) (es : List (Vec ℕ Global × X)) (c : Bool) → is_from key e ≡ b → list_any is_owner es ≡ c → list_any is_owner (cond b (e ∷ es) es) ≡ (is_owner e || c)
  any_if true e es c h ih = ap (λ b. is_owner e || b) ih
  any_if false e es c h ih =
      let no : is_owner e ≡ false = no_owner e (before_begins key e h) in
      ih ∙ sym (ap (λ b. b || c) no)

  any_from : (es : List (Vec ℕ Global × X)) → list_any is_owner (filter (is_from key) es) ≡ list_any is_owner es
  any_from [] = refl
  any_from (e ∷ es) = any_if (is_from key e) e (filter (is_from key) es) (list_any is_owner es) refl (any_from es)

  -- at first all of them
  pub next_start : (es next : List (Vec ℕ Global × X)) → IsStrictlySortedBy (λ x y. slice_cmp nat_cmp x.items y.items) (keys_of es) → next ≡ filter (is_from key) es → AreNext es next
  next_start es next s is =
      subst (AreNext es) (sym is) (record {
        sorted = subst (IsStrictlySortedBy (λ x y. slice_cmp nat_cmp x.items y.items)) (sym (keys_from es)) (IsStrictlySortedBy-filter (λ x y. slice_cmp nat_cmp x.items y.items) (λ k. is_le (slice_cmp nat_cmp key k.items) && true) (keys_of es) s);
        from = all_from es;
        same = any_from es;
      })

  -- one that owns nothing is passed over
  pub next_step : (es next rest : List (Vec ℕ Global × X)) (e : Vec ℕ Global × X) → AreNext es next → next ≡ e ∷ rest → has e.1 ≡ false → AreNext es rest
  next_step es next rest e n is none =
      let m : AreNext es (e ∷ rest) = subst (AreNext es) is n in
      record { sorted = sorted_tail (λ x y. slice_cmp nat_cmp x.items y.items) e.0 (keys_of rest) m.sorted; from = m.from.1; same = sym (ap (λ b. b || list_any is_owner rest) (and_none (starts_with eqb e.0.items key) (has e.1) none)) ∙ m.same }
    where
      and_none : (a b : Bool) → b ≡ false → (a && b) ≡ false
      and_none true b h = h
      and_none false b h = refl

  none_owner : (es : List (Vec ℕ Global × X)) → list_any (λ e. starts_with eqb e.0.items key) es ≡ false → list_any is_owner es ≡ false
  none_owner [] h = refl
  none_owner (e ∷ es) h =
      let both : (starts_with eqb e.0.items key ≡ false) × (list_any (λ f. starts_with eqb f.0.items key) es ≡ false) = neither (starts_with eqb e.0.items key) (list_any (λ f. starts_with eqb f.0.items key) es) h in
      rw (no_owner e both.0) (none_owner es both.1)
    where
      neither : (a b : Bool) → (a || b) ≡ false → (a ≡ false) × (b ≡ false)
      neither true b h = absurd cc
      neither false b h = (refl, h)

  -- where one does not begin with the key, none behind it does
  pub next_other : (es next rest : List (Vec ℕ Global × X)) (e : Vec ℕ Global × X) → AreNext es next → next ≡ e ∷ rest → starts_with eqb e.0.items key ≡ false → false ≡ list_any is_owner es
  next_other es next rest e n is other =
      let m : AreNext es (e ∷ rest) = subst (AreNext es) is n in
      let later : list_any is_owner rest ≡ false = none_owner rest (none_later key e rest m.from.0 other (sorted_head (λ x y. slice_cmp nat_cmp x.items y.items) e.0 (keys_of rest) m.sorted)) in
      let all : list_any is_owner (e ∷ rest) ≡ false = rw (no_owner e other) later in
      sym all ∙ m.same

  -- there is none
  pub next_end : (es next : List (Vec ℕ Global × X)) → AreNext es next → next ≡ [] → false ≡ list_any is_owner es
  next_end es next n is = sym (ap (list_any is_owner) is) ∙ n.same
