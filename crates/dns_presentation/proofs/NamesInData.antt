-- The names that stand in data are those that stand there in a message.
use Rattle.std.proofs.Common.{◌≡◌, ℕ, zero, suc, ◌+◌, ◌-◌, ◌*◌, ◌<◌, ◌≤◌, nat_lt, Bool, true, false, ◌&&◌, List, [], ◌∷◌, length, take, drop, refl, sym, ap, subst, ◌∙◌, arith, length-drop, Option, Some, None, ◌⊎◌, inl, inr}
use Rattle.std.specs.Prelude.{◌==◌, nat_le, if◌then◌else◌, slice_get, IfSome, IsSomeAnd}
use Rattle.std.specs.Bool.{Decides}
use Rattle.std.specs.List.{AllByRecursion, list_all}
use Rattle.std.proofs.lemmas.Bool.{lt-ltb, leb-true, le-leb}
use Rattle.std.proofs.lemmas.Bool.Decides.{Decides-and, Decides-like, Decides-ltb, Decides-eqb}
use Rattle.std.proofs.lemmas.List.{drop-drop}
use Rattle.std.proofs.lemmas.Option.{slice_get_within}
use Rattle.dns_name.specs.Name.{IsLabel, IsName, name_len}
use Rattle.dns_name.specs.NameInMessage.{NameAt, ends, goes_on, points, StandsAt}
use Rattle.dns_wire.proofs.Forward.{name_takes_bytes}
use Rattle.dns_presentation.specs.Values.{◌>>=◌}
use Rattle.dns_presentation.specs.NamesInData.{pointed, labels_at, labels_before, is_label, is_name, name_at, last_name}

-- what came of a value came of some value
pub taken : {X Y : Type 0} (found : Option X) (next : X → Option Y) (y : Y) → (found >>= next) ≡ Some y → (x : X) × (found ≡ Some x) × (next x ≡ Some y)
taken None next y is = absurd cc
taken (Some x) next y is = (x, refl, is)

-- what came of a choice, and which way it went
pub chosen : {Y : Type 0} (test : Bool) (first second : Option Y) (y : Y) → (if test then first else second) ≡ Some y → ((test ≡ true) × (first ≡ Some y)) ⊎ ((test ≡ false) × (second ≡ Some y))
chosen true first second y is = inl (refl, is)
chosen false first second y is = inr (refl, is)

pub some_same : {X : Type 0} (x y : X) → Some x ≡ Some y → x ≡ y
some_same x y is = cc

pub no_value : {X : Type 0} {x : X} → None ≡ Some x → ⊥
no_value is = cc

-- two tests, both of which hold
both : (one other : Bool) → (one && other) ≡ true → (one ≡ true) × (other ≡ true)
both true true is = (refl, refl)
both true false is = absurd cc
both false other is = absurd cc

-- numbers by their tests
none_or_some : (n : ℕ) → (n == 0) ≡ false → 0 < n
none_or_some n is = grind arith

not_none : (n : ℕ) → 0 < n → (n == 0) ≡ false
not_none n some = grind arith

not_below : (n most : ℕ) → most ≤ n → nat_lt n most ≡ false
not_below n most high = grind arith

before_end : (place end : ℕ) → (place == end) ≡ false → place < suc end → place < end
before_end place end other low = grind arith

-- a byte that stands at a place is the first of those from there on
byte_at : (m : List ℕ) (i x : ℕ) (xs : List ℕ) → drop i m ≡ x ∷ xs → (slice_get m i ≡ Some x) × (drop (i + 1) m ≡ xs)
byte_at [] zero x xs e = cc
byte_at [] (suc i) x xs e = cc
byte_at (y ∷ ys) zero x xs e = (let f : y ≡ x = cc in ap Some f, ap (drop 1) e)
byte_at (y ∷ ys) (suc i) x xs e =
    let h = byte_at ys i x xs e in
    let more : suc i + 1 ≡ suc (i + 1) = omega arith in
    (h.0, rw more h.1)

bytes_from : (m : List ℕ) (i x : ℕ) → slice_get m i ≡ Some x → drop i m ≡ x ∷ drop (i + 1) m
bytes_from [] zero x e = cc
bytes_from [] (suc i) x e = cc
bytes_from (y ∷ ys) zero x e = let same : y ≡ x = cc in ap (λ (z : ℕ). z ∷ ys) same
bytes_from (y ∷ ys) (suc i) x e =
    let more : suc i + 1 ≡ suc (i + 1) = omega arith in
    rw more (bytes_from ys i x e)

-- labels that are told of a place begin there, before this one; and all that do are told
abbrev AreEarlier : List ℕ → ℕ → (ℕ → Option (List (List ℕ))) → Type 0
AreEarlier m s earlier = (k : ℕ) (labels : List (List ℕ)) → earlier k ≡ Some labels → (k < s) × (j : ℕ) × NameAt m k k labels j

abbrev AreAll : List ℕ → ℕ → (ℕ → Option (List (List ℕ))) → Type 0
AreAll m s earlier = (k j : ℕ) (labels : List (List ℕ)) → k < s → NameAt m k k labels j → earlier k ≡ Some labels

abbrev EndsAs : List ℕ → ℕ → ℕ → List (List ℕ) × ℕ → Type 0
EndsAs m s i found = NameAt m s i found.0 (i + found.1)

-- labels that are found stand there
pointed-stands : (m : List ℕ) (s : ℕ) (earlier : ℕ → Option (List (List ℕ))) → AreEarlier m s earlier → (n i : ℕ) (bytes : List ℕ) → slice_get m i ≡ Some n → 192 ≤ n → drop (i + 1) m ≡ bytes → (found : List (List ℕ) × ℕ) → pointed earlier n bytes ≡ Some found → EndsAs m s i found
pointed-stands m s earlier sound n i [] first high at found is = absurd (no_value is)
pointed-stands m s earlier sound n i (low ∷ bytes) first high at found is =
    let place : ℕ = (n - 192) * 256 + low in
    let labels = taken (earlier place) (λ labels. Some (labels, 2)) found is in
    let there = sound place labels.0 labels.1 in
    let second = byte_at m (i + 1) low bytes at in
    subst (EndsAs m s i) (some_same (labels.0, 2) found labels.2) (points n low there.1 first high second.0 there.0 there.2)

labels_at-stands : (m : List ℕ) (s : ℕ) (earlier : ℕ → Option (List (List ℕ))) → AreEarlier m s earlier → (most i : ℕ) (bytes : List ℕ) → drop i m ≡ bytes → (found : List (List ℕ) × ℕ) → labels_at earlier most bytes ≡ Some found → EndsAs m s i found
unfolding labels_at
labels_at-stands m s earlier sound zero i bytes at found is = absurd (no_value is)
labels_at-stands m s earlier sound (suc most) i [] at found is = absurd (no_value is)
labels_at-stands m s earlier sound (suc most) i (n ∷ bytes) at found is =
    let here = byte_at m i n bytes at in
    elim (chosen (n == 0) (Some ([], 1)) _ found is) [
      | inl ended ↦
          let zero_is : n ≡ 0 = (Decides-eqb n 0).0 ended.0 in
          subst (EndsAs m s i) (some_same ([], 1) found ended.1) (ends (here.0 ∙ ap Some zero_is))
      | inr some ↦ elim (chosen (nat_lt n 64 && nat_le n (length bytes)) (labels_at earlier most (drop n bytes) >>= λ more. Some (take n bytes ∷ more.0, 1 + n + more.1)) _ found some.1) [
        | inl label ↦
            let tests = both (nat_lt n 64) (nat_le n (length bytes)) label.0 in
            let more = taken (labels_at earlier most (drop n bytes)) (λ more. Some (take n bytes ∷ more.0, 1 + n + more.1)) found label.1 in
            let low : 0 < n = none_or_some n some.0 in
            let high : n < 64 = (Decides-ltb n 64).0 tests.0 in
            let fits : n ≤ length bytes = leb-true n (length bytes) tests.1 in
            let within : i + 1 + n ≤ length m = omega (arith, length-drop (i + 1) m, ap length here.1, fits, low) in
            let left : drop (i + 1 + n) m ≡ drop n bytes = sym (drop-drop n (i + 1) m) ∙ ap (drop n) here.1 in
            let rest : NameAt m s (i + 1 + n) more.0.0 (i + 1 + n + more.0.1) = labels_at-stands m s earlier sound most (i + 1 + n) (drop n bytes) left more.0 more.1 in
            let end : i + 1 + n + more.0.1 ≡ i + (1 + n + more.0.1) = omega arith in
            let whole : NameAt m s i (take n (drop (i + 1) m) ∷ more.0.0) (i + 1 + n + more.0.1) = goes_on n here.0 low high within rest in
            let cut : NameAt m s i (take n bytes ∷ more.0.0) (i + 1 + n + more.0.1) = subst (λ (b : List ℕ). NameAt m s i (take n b ∷ more.0.0) (i + 1 + n + more.0.1)) here.1 whole in
            let ended : NameAt m s i (take n bytes ∷ more.0.0) (i + (1 + n + more.0.1)) = subst (λ (e : ℕ). NameAt m s i (take n bytes ∷ more.0.0) e) end cut in
            subst (EndsAs m s i) (some_same (take n bytes ∷ more.0.0, 1 + n + more.0.1) found more.2) ended
        | inr long ↦ elim (chosen (nat_le 192 n) (pointed earlier n bytes) None found long.1) [
          | inl pointer ↦ pointed-stands m s earlier sound n i bytes here.0 (leb-true 192 n pointer.0) here.1 found pointer.1
          | inr none ↦ absurd (no_value none.1)
        ]
      ]
    ]

-- labels that stand there are found
labels_at-found : {m : List ℕ} {s i : ℕ} {labels : List (List ℕ)} {j : ℕ} (earlier : ℕ → Option (List (List ℕ))) → AreAll m s earlier → NameAt m s i labels j → (most : ℕ) → length (drop i m) ≤ most → (size : ℕ) × (labels_at earlier most (drop i m) ≡ Some (labels, size)) × (i + size ≡ j)
unfolding labels_at
labels_at-found {m} {s} {i} earlier all (ends e) zero few = absurd (omega (arith, few, length-drop i m, slice_get_within m i 0 e))
labels_at-found {m} {s} {i} earlier all (ends e) (suc most) few = (1, ap (labels_at earlier (suc most)) (bytes_from m i 0 e), refl)
labels_at-found {m} {s} {i} earlier all (goes_on n e low high within r) zero few = absurd (omega (arith, few, length-drop i m, within))
labels_at-found {m} {s} {i} earlier all (goes_on n e low high within r) (suc most) few =
    let left : length (drop (i + 1 + n) m) ≤ most = omega (arith, few, length-drop (i + 1 + n) m, length-drop i m, within, low) in
    let more = labels_at-found earlier all r most left in
    let some : (n == 0) ≡ false = not_none n low in
    let short : nat_lt n 64 ≡ true = lt-ltb n 64 high in
    let fits : nat_le n (length (drop (i + 1) m)) ≡ true = le-leb n (length (drop (i + 1) m)) (omega (arith, length-drop (i + 1) m, within)) in
    let next : drop n (drop (i + 1) m) ≡ drop (i + 1 + n) m = drop-drop n (i + 1) m in
    (1 + n + more.0, ap (labels_at earlier (suc most)) (bytes_from m i n e) ∙ rw (some, short, fits, next, more.1) refl, omega (arith, more.2))
labels_at-found {m} {s} {i} earlier all (points a b k e high f before r) zero few = absurd (omega (arith, few, length-drop i m, slice_get_within m i a e))
labels_at-found {m} {s} {i} earlier all (points a b k e high f before r) (suc most) few =
    let here : drop i m ≡ a ∷ (b ∷ drop (i + 1 + 1) m) = bytes_from m i a e ∙ ap (λ (bytes : List ℕ). a ∷ bytes) (bytes_from m (i + 1) b f) in
    let some : (a == 0) ≡ false = not_none a (omega (arith, high)) in
    let long : nat_lt a 64 ≡ false = not_below a 64 (omega (arith, high)) in
    let pointer : nat_le 192 a ≡ true = le-leb 192 a high in
    let there = all ((a - 192) * 256 + b) k _ before r in
    (2, ap (labels_at earlier (suc most)) here ∙ rw (some, long, pointer, there) refl, refl)

-- so are the labels before a place
labels_before-stand : (m : List ℕ) (end k : ℕ) (labels : List (List ℕ)) → labels_before m end k ≡ Some labels → (k < end) × (j : ℕ) × NameAt m k k labels j
unfolding labels_before
labels_before-stand m zero k labels is = absurd (no_value is)
labels_before-stand m (suc end) k labels is =
    let earlier : ℕ → Option (List (List ℕ)) = λ place. labels_before m end place in
    elim (chosen (k == end) (labels_at earlier (length m) (drop end m) >>= λ found. Some found.0) (labels_before m end k) labels is) [
      | inl here ↦
          let found = taken (labels_at earlier (length m) (drop end m)) (λ found. Some found.0) labels here.1 in
          let same : k ≡ end = (Decides-eqb k end).0 here.0 in
          let stands : NameAt m end end found.0.0 (end + found.0.1) = labels_at-stands m end earlier (labels_before-stand m end) (length m) end (drop end m) refl found.0 found.1 in
          let named : NameAt m end end labels (end + found.0.1) = subst (λ (ls : List (List ℕ)). NameAt m end end ls (end + found.0.1)) (some_same found.0.0 labels found.2) stands in
          (omega (arith, same), end + found.0.1, subst (λ (z : ℕ). NameAt m z z labels (end + found.0.1)) (sym same) named)
      | inr before ↦
          let there = labels_before-stand m end k labels before.1 in
          (omega (arith, there.0), there.1, there.2)
    ]

labels_before-next : (m : List ℕ) (end k j : ℕ) (labels : List (List ℕ)) → AreAll m end (λ place. labels_before m end place) → k < suc end → NameAt m k k labels j → labels_before m (suc end) k ≡ Some labels
unfolding labels_before
labels_before-next m end k j labels all low at = by_place (k == end) refl
  where
    by_place : (here : Bool) → (k == end) ≡ here → (if here then (labels_at (λ place. labels_before m end place) (length m) (drop end m) >>= λ found. Some found.0) else labels_before m end k) ≡ Some labels
    by_place true is =
        let same : k ≡ end = (Decides-eqb k end).0 is in
        let found = labels_at-found (λ place. labels_before m end place) all (subst (λ (z : ℕ). NameAt m z z labels j) same at) (length m) (omega (arith, length-drop end m)) in
        rw found.1 refl
    by_place false is = all k j labels (before_end k end is low) at

labels_before-all : (m : List ℕ) (end k j : ℕ) (labels : List (List ℕ)) → k < end → NameAt m k k labels j → labels_before m end k ≡ Some labels
labels_before-all m zero k j labels low at = absurd (omega (arith, low))
labels_before-all m (suc end) k j labels low at = labels_before-next m end k j labels (labels_before-all m end) low at

-- the test of a name decides it
pub list_all-Decides : {X : Type 0} (p : X → Bool) (P : X → Type 0) → ((x : X) → Decides (p x) (P x)) → (xs : List X) → Decides (list_all p xs) (AllByRecursion P xs)
list_all-Decides p P each [] = (λ e. tt, λ h. refl)
list_all-Decides p P each (x ∷ xs) = Decides-and (p x) (list_all p xs) (each x) (list_all-Decides p P each xs)

is_label-Decides : (label : List ℕ) → Decides (is_label label) (IsLabel label)
is_label-Decides label = Decides-and (nat_lt 0 (length label)) (nat_lt (length label) 64) (Decides-ltb 0 (length label)) (Decides-ltb (length label) 64)

is_name-Decides : (labels : List (List ℕ)) → Decides (is_name labels) (IsName labels)
is_name-Decides labels =
    Decides-like (is_name labels) (λ x. record { each = x.0; short = omega (arith, x.1) }) (λ x. (x.each, omega (arith, x.short)))
    (Decides-and (list_all is_label labels) (nat_lt (name_len labels) 256) (list_all-Decides is_label IsLabel is_label-Decides labels) (Decides-ltb (name_len labels) 256))

-- a name that is found stands there, and one that stands there is found
pub name_at-stands : (m : List ℕ) (i : ℕ) (found : List (List ℕ) × ℕ) → name_at m i ≡ Some found → StandsAt m i found.0 found.1
unfolding name_at
name_at-stands m i found is =
    let earlier : ℕ → Option (List (List ℕ)) = λ place. labels_before m i place in
    let spelled = taken (labels_at earlier (length m) (drop i m)) (λ spelled. if is_name spelled.0 then Some (spelled.0, i + spelled.1) else None) found is in
    elim (chosen (is_name spelled.0.0) (Some (spelled.0.0, i + spelled.0.1)) None found spelled.2) [
      | inl short ↦
          let stands = labels_at-stands m i earlier (labels_before-stand m i) (length m) i (drop i m) refl spelled.0 spelled.1 in
          let named : StandsAt m i spelled.0.0 (i + spelled.0.1) = record { name = (is_name-Decides spelled.0.0).0 short.0; stands = stands } in
          subst (λ (f : List (List ℕ) × ℕ). StandsAt m i f.0 f.1) (some_same (spelled.0.0, i + spelled.0.1) found short.1) named
      | inr long ↦ absurd (no_value long.1)
    ]

pub name_at-found : (m : List ℕ) (i : ℕ) (labels : List (List ℕ)) (j : ℕ) → StandsAt m i labels j → name_at m i ≡ Some (labels, j)
unfolding name_at
name_at-found m i labels j at =
    let found = labels_at-found (λ place. labels_before m i place) (labels_before-all m i) at.stands (length m) (omega (arith, length-drop i m)) in
    let kept : is_name labels ≡ true = (is_name-Decides labels).1 at.name in
    rw (found.1, kept, found.2) refl

-- where none was read none is found
pub name_at-none : (m : List ℕ) (i : ℕ) → ((labels : List (List ℕ)) (j : ℕ) → StandsAt m i labels j → ⊥) → name_at m i ≡ None
name_at-none m i none = by_found (name_at m i) refl
  where
    by_found : (found : Option (List (List ℕ) × ℕ)) → name_at m i ≡ found → found ≡ None
    by_found None is = refl
    by_found (Some found) is = absurd (none found.0 found.1 (name_at-stands m i found is))

-- what was read is found
pub name_at-read : (m : List ℕ) (i : ℕ) (read : Option (List (List ℕ) × ℕ)) → IfSome read (λ found. StandsAt m i found.0 found.1) → (found : List (List ℕ) × ℕ) → read ≡ Some found → (name_at m i ≡ Some found) × (i < found.1)
name_at-read m i None stands found is = absurd cc
name_at-read m i (Some other) stands found is =
    let here : StandsAt m i found.0 found.1 = subst (λ (f : List (List ℕ) × ℕ). StandsAt m i f.0 f.1) (some_same other found is) stands in
    (name_at-found m i found.0 found.1 here, name_takes_bytes m i found.0 found.1 here)

pub name_at-unread : (m : List ℕ) (i : ℕ) (read : Option (List (List ℕ) × ℕ)) → ((labels : List (List ℕ)) (j : ℕ) → StandsAt m i labels j → IsSomeAnd read (λ found. (found.0 ≡ labels) × (found.1 ≡ j))) → read ≡ None → name_at m i ≡ None
name_at-unread m i None only is = name_at-none m i only
name_at-unread m i (Some other) only is = absurd cc

-- so is a name that goes to the end
pub last_name-stands : (m : List ℕ) (i : ℕ) (labels : List (List ℕ)) → last_name m i ≡ Some labels → StandsAt m i labels (length m)
unfolding last_name
last_name-stands m i labels is =
    let found = taken (name_at m i) (λ found. if found.1 == length m then Some found.0 else None) labels is in
    elim (chosen (found.0.1 == length m) (Some found.0.0) None labels found.2) [
      | inl last ↦
          let end : found.0.1 ≡ length m = (Decides-eqb found.0.1 (length m)).0 last.0 in
          let stands : StandsAt m i found.0.0 (length m) = subst (λ (j : ℕ). StandsAt m i found.0.0 j) end (name_at-stands m i found.0 found.1) in
          subst (λ (ls : List (List ℕ)). StandsAt m i ls (length m)) (some_same found.0.0 labels last.1) stands
      | inr other ↦ absurd (no_value other.1)
    ]

pub last_name-found : (m : List ℕ) (i : ℕ) (labels : List (List ℕ)) (j : ℕ) → j ≡ length m → StandsAt m i labels j → last_name m i ≡ Some labels
unfolding last_name
last_name-found m i labels j end at =
    let last : (length m == length m) ≡ true = (Decides-eqb (length m) (length m)).1 refl in
    rw (name_at-found m i labels j at, end, last) refl
