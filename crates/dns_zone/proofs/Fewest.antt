-- What the walks along the labels of a name find: the fewest labels, and the most.
use Rattle.std.proofs.Common.{◌≡◌, ℕ, ◌<◌, ◌≤◌, List, [], ◌∷◌, ◌++◌, length, drop, refl, sym, ap, ◌∙◌, arith, Bool, true, false, length-append, inl, inr}
use Rattle.std.specs.Prelude.{None, Some, Option, ◌⊎◌, ◌↔◌}
use Rattle.dns_zone.specs.Look.{topmost, nearest, IsTopmost, IsNearest, PassesNowhere, PassesNowhereAbove, or_else, only_if}

-- a name at or above a name is that name or one at or above the name without its first label
ends : (l : List ℕ) (ls others more : List (List ℕ)) → l ∷ ls ≡ others ++ more → (more ≡ l ∷ ls) ⊎ ((rest : List (List ℕ)) × (ls ≡ rest ++ more))
ends l ls [] more e = inl (sym e)
ends l ls (o ∷ os) more e = inr (os, cc)

only_some : (b : Bool) (x y : List (List ℕ)) → only_if b x ≡ Some y → (b ≡ true) × (x ≡ y)
only_some true x y e = (refl, cc)
only_some false x y e = absurd (cc)

only_none : (b : Bool) (x : List (List ℕ)) → only_if b x ≡ None → b ≡ false
only_none true x e = absurd (cc)
only_none false x e = refl

else_none : (a b : Option (List (List ℕ))) → or_else a b ≡ None → (a ≡ None) × (b ≡ None)
else_none None b e = (refl, e)
else_none (Some x) b e = absurd (cc)

-- where nothing is topmost, no name at or above passes
none_passes : (test : List (List ℕ) → Bool) (name : List (List ℕ)) → test [] ≡ false → topmost test name ≡ None → (front rest : List (List ℕ)) → name ≡ front ++ rest → test rest ≡ false
none_passes test [] root none [] rest is = rw (← is) root
none_passes test [] root none (f ∷ fs) rest is = absurd (cc)
none_passes test (l ∷ ls) root none front rest is =
    let n = else_none (topmost test ls) (only_if (test (l ∷ ls)) (l ∷ ls)) none in
    elim (ends l ls front rest is) [
      | inl e ↦ rw e (only_none (test (l ∷ ls)) (l ∷ ls) n.1)
      | inr r ↦ none_passes test ls root n.0 r.0 rest r.1
    ]

true_false : (b : Bool) → b ≡ true → b ≡ false → ⊥
true_false b p q = cc

if_topmost : (test : List (List ℕ) → Bool) (l : List ℕ) (ls top : List (List ℕ)) (found : Option (List (List ℕ))) → test [] ≡ false → topmost test ls ≡ found
    → ((t : List (List ℕ)) → topmost test ls ≡ Some t → IsTopmost test ls t)
    → or_else found (only_if (test (l ∷ ls)) (l ∷ ls)) ≡ Some top → IsTopmost test (l ∷ ls) top
if_topmost test l ls top (Some t) root is ih e =
    let same : t ≡ top = cc in
    let i : IsTopmost test ls top = ih top (is ∙ e) in
    record {
      front = l ∷ i.front;
      above = ap (λ (xs : List (List ℕ)). l ∷ xs) i.above;
      passes = i.passes;
      fewest = λ others more h y. elim (ends l ls others more h) [
        | inl m ↦ omega (arith, ap length m, ap length i.above, length-append i.front top)
        | inr r ↦ i.fewest r.0 more r.1 y
      ];
    }
if_topmost test l ls top None root is ih e =
    let o = only_some (test (l ∷ ls)) (l ∷ ls) top e in
    record {
      front = [];
      above = o.1;
      passes = rw (← o.1) o.0;
      fewest = λ others more h y. elim (ends l ls others more h) [
        | inl m ↦ omega (arith, ap length m, ap length o.1)
        | inr r ↦ absurd (true_false (test more) y (none_passes test ls root is r.0 more r.1))
      ];
    }

pub topmost_is : (test : List (List ℕ) → Bool) (name top : List (List ℕ)) → test [] ≡ false → topmost test name ≡ Some top → IsTopmost test name top
topmost_is test [] top root is = absurd (cc)
topmost_is test (l ∷ ls) top root is = if_topmost test l ls top (topmost test ls) root refl (λ t e. topmost_is test ls t root e) is

most_from : (test : List (List ℕ) → Bool) (ls near more rest : List (List ℕ)) → IsNearest test ls near → test ls ≡ false → ls ≡ rest ++ more → test more ≡ true → length more ≤ length near
most_from test ls near more [] i not is y = absurd (true_false (test more) y (rw is at not))
most_from test ls near more (r ∷ rest) i not is y =
    i.most (r ∷ rest) more is (omega (arith, ap length is, length-append (r ∷ rest) more)) y

-- a name strictly above a name is the name without its first label, or strictly above that
if_nearest : (test : List (List ℕ) → Bool) (l : List ℕ) (ls near : List (List ℕ)) (here : Bool) → test ls ≡ here
    → ((t : List (List ℕ)) → nearest test ls ≡ Some t → IsNearest test ls t)
    → or_else (only_if here ls) (nearest test ls) ≡ Some near → IsNearest test (l ∷ ls) near
if_nearest test l ls near true is ih e =
    let same : ls ≡ near = cc in
    record {
      front = l ∷ [];
      above = ap (λ (xs : List (List ℕ)). l ∷ xs) same;
      strictly = omega (arith, ap length same);
      passes = rw (← same) is;
      most = λ others more h shorter y. omega (arith, ap length same);
    }
if_nearest test l ls near false is ih e =
    let i : IsNearest test ls near = ih near e in
    record {
      front = l ∷ i.front;
      above = ap (λ (xs : List (List ℕ)). l ∷ xs) i.above;
      strictly = (let s : length near < length ls = i.strictly in omega arith);
      passes = i.passes;
      most = λ others more h shorter y. elim (ends l ls others more h) [
        | inl m ↦ absurd (omega (arith, ap length m))
        | inr r ↦ most_from test ls near more r.0 i is r.1 y
      ];
    }

pub nearest_is : (test : List (List ℕ) → Bool) (name near : List (List ℕ)) → nearest test name ≡ Some near → IsNearest test name near
nearest_is test [] near is = absurd (cc)
nearest_is test (l ∷ ls) near is = if_nearest test l ls near (test ls) refl (λ t e. nearest_is test ls t e) is

-- there is no topmost name exactly where no name at or above passes
pub topmost_none : (test : List (List ℕ) → Bool) (name : List (List ℕ)) → test [] ≡ false → (topmost test name ≡ None) ↔ PassesNowhere test name
topmost_none test name root = (none_passes test name root, λ nowhere. absent (topmost test name) refl nowhere)
  where
    absent : (found : Option (List (List ℕ))) → topmost test name ≡ found → PassesNowhere test name → topmost test name ≡ None
    absent None is nowhere = is
    absent (Some top) is nowhere =
        let i : IsTopmost test name top = topmost_is test name top root is in
        absurd (true_false (test top) i.passes (nowhere i.front top i.above))

-- where nothing is nearest, no name strictly above passes
none_above : (test : List (List ℕ) → Bool) (name : List (List ℕ)) → nearest test name ≡ None → PassesNowhereAbove test name
none_above test [] none front more is shorter = absurd (omega arith)
none_above test (l ∷ ls) none [] more is shorter = absurd (omega (arith, ap length is))
none_above test (l ∷ ls) none (f ∷ front) more is shorter =
    let n = else_none (only_if (test ls) ls) (nearest test ls) none in
    let rest : ls ≡ front ++ more = ap (drop 1) is in
    below front rest (only_none (test ls) ls n.0) (λ fs e s. none_above test ls n.1 fs more e s)
  where
    below : (fs : List (List ℕ)) → ls ≡ fs ++ more → test ls ≡ false → ((gs : List (List ℕ)) → ls ≡ gs ++ more → length more < length ls → test more ≡ false) → test more ≡ false
    below [] e here above = rw (← e) here
    below (g ∷ gs) e here above = above (g ∷ gs) e (omega (arith, ap length e, length-append (g ∷ gs) more))

-- there is no nearest name exactly where no name strictly above passes
pub nearest_none : (test : List (List ℕ) → Bool) (name : List (List ℕ)) → (nearest test name ≡ None) ↔ PassesNowhereAbove test name
nearest_none test name = (none_above test name, λ nowhere. absent (nearest test name) refl nowhere)
  where
    absent : (found : Option (List (List ℕ))) → nearest test name ≡ found → PassesNowhereAbove test name → nearest test name ≡ None
    absent None is nowhere = is
    absent (Some near) is nowhere =
        let i : IsNearest test name near = nearest_is test name near is in
        absurd (true_false (test near) i.passes (nowhere i.front near i.above i.strictly))
