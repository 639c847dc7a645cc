-- The name that stands at a place of a message (RFC 1035 4.1.4).
use Rattle.std.specs.Prelude.{◌≡◌, ℕ, ◌+◌, ◌-◌, ◌*◌, ◌<◌, ◌≤◌, List, [], ◌∷◌, length, take, drop, slice_get, Some}
use Rattle.dns_name.specs.Name.{IsName}

-- NameAt m s i labels j: in the message m, a sequence of labels that began at s goes on from i with these labels, and
-- they end before j. A byte of 0 ends them. One of 1 to 63 is the length of a label, which lies inside m. One from 192
-- on makes with the next byte a pointer to a place before s, where another sequence begins. No other byte may stand.
pub data NameAt (m : List ℕ) : ℕ → ℕ → List (List ℕ) → ℕ → Type 0 where
  ends : {s i : ℕ} → slice_get m i ≡ Some 0 → NameAt m s i [] (i + 1)
  goes_on : {s i : ℕ} {more : List (List ℕ)} {j : ℕ} → (n : ℕ) → slice_get m i ≡ Some n → 0 < n → n < 64 → i + 1 + n ≤ length m → NameAt m s (i + 1 + n) more j → NameAt m s i (take n (drop (i + 1) m) ∷ more) j
  points : {s i : ℕ} {labels : List (List ℕ)} → (a b k : ℕ) → slice_get m i ≡ Some a → 192 ≤ a → slice_get m (i + 1) ≡ Some b → (a - 192) * 256 + b < s → NameAt m ((a - 192) * 256 + b) ((a - 192) * 256 + b) labels k → NameAt m s i labels (i + 2)

-- a name stands at place i, and what follows it begins at j
pub record StandsAt (m : List ℕ) (i : ℕ) (labels : List (List ℕ)) (j : ℕ) : Type 0 where
  pub name : IsName labels
  pub stands : NameAt m i i labels j
