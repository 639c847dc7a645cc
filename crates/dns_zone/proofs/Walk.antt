-- The walks along the labels of a name: to its topmost cut, and to its closest encloser.
use Rattle.std.proofs.Common.{◌≡◌, ℕ, zero, suc, ◌+◌, ◌-◌, ◌<◌, ◌≤◌, List, [], ◌∷◌, length, drop, map, refl, ap, ◌∙◌, arith, Bool, true, false, length-drop}
use Rattle.std.specs.Prelude.{None, Some, ◌&&◌, nat_lt, nat_le}
use Rattle.std.proofs.lemmas.List.{drop-drop}
use Rattle.std.proofs.lemmas.Bool.Decides.{nat_tests}
use Rattle.dns_name.specs.Name.{is_at_or_below, is_strictly_below}
use Rattle.dns_wire.specs.declared.record.Record.{Record}
use Rattle.dns_zone_map.specs.Zone.{Contents}
use Rattle.dns_zone_map.specs.Existence.{owns_type}
use Rattle.dns_wire.specs.Given.{given}
use Rattle.dns_zone.specs.Look.{is_cut, topmost}

-- records that are given no other owner
pub given_none : (rs : List Record) → map (given None) rs ≡ rs
given_none [] = refl
given_none (r ∷ rs) = ap (λ (xs : List Record). r ∷ xs) (given_none rs)

and-second : (a b : Bool) → (a && b) ≡ true → b ≡ true
and-second true b h = h
and-second false b h = absurd (cc)

lt-test : (a b : ℕ) → a < b → nat_lt a b ≡ true
lt-test a b h = grind (arith, nat_tests)

le-test : (a b : ℕ) → a ≤ b → nat_le a b ≡ true
le-test a b h = grind (arith, nat_tests)

le-not : (a b : ℕ) → b ≤ a → nat_lt a b ≡ false
le-not a b h = grind (arith, nat_tests)

-- what stands above a name below the origin is below it too, as long as it has more labels
above-below : (name origin : List (List ℕ)) (labels_dropped : ℕ) → is_at_or_below name origin ≡ true → length origin + labels_dropped < length name
    → is_strictly_below (drop labels_dropped name) origin ≡ true
above-below name origin labels_dropped within more =
    let size : length (drop labels_dropped name) ≡ length name - labels_dropped = length-drop labels_dropped name in
    let a : nat_lt (length origin) (length (drop labels_dropped name)) ≡ true = lt-test _ _ (omega (arith, size)) in
    let b : nat_le (length origin) (length (drop labels_dropped name)) ≡ true = le-test _ _ (omega (arith, size)) in
    let d : drop (length (drop labels_dropped name) - length origin) (drop labels_dropped name) ≡ drop (length name - length origin) name =
    drop-drop (length (drop labels_dropped name) - length origin) labels_dropped name
    ∙ ap (λ n. drop n name) (let e : labels_dropped + (length (drop labels_dropped name) - length origin) ≡ length name - length origin = omega (arith, size) in e) in
    rw (a, b, d) (and-second (nat_le (length origin) (length name)) _ within)

pub cut_below : (zone : Contents) (name : List (List ℕ)) (labels_dropped : ℕ) → is_at_or_below name zone.origin ≡ true → length zone.origin + labels_dropped < length name
    → is_cut zone (drop labels_dropped name) ≡ owns_type zone.records (drop labels_dropped name) 2
cut_below zone name labels_dropped within more = rw (above-below name zone.origin labels_dropped within more) refl

-- a name with no more labels than the origin has no cut
pub no_cut_above : (zone : Contents) (name : List (List ℕ)) → length name ≤ length zone.origin → topmost (is_cut zone) name ≡ None
no_cut_above zone [] few = refl
no_cut_above zone (label ∷ above) few =
    let a : nat_lt (length zone.origin) (suc (length above)) ≡ false = le-not _ _ few in
    rw (no_cut_above zone above (omega arith), a) refl

-- a name that is no cut, below no cut
pub none_here : (test : List (List ℕ) → Bool) (name : List (List ℕ)) (k : ℕ) → k < length name → topmost test (drop (suc k) name) ≡ None → test (drop k name) ≡ false → topmost test (drop k name) ≡ None
none_here test [] k h none n = absurd (omega arith)
none_here test (l ∷ ls) zero h none n = rw (none, n) refl
none_here test (l ∷ ls) (suc k) h none n = none_here test ls k (omega arith) none n

-- the first cut that is met
pub found_here : (test : List (List ℕ) → Bool) (name : List (List ℕ)) (k : ℕ) → k < length name → topmost test (drop (suc k) name) ≡ None → test (drop k name) ≡ true → topmost test name ≡ Some (drop k name)
found_here test [] k h none y = absurd (omega arith)
found_here test (l ∷ ls) zero h none y = rw (none, y) refl
found_here test (l ∷ ls) (suc k) h none y = rw (found_here test ls k (omega arith) none y) refl
