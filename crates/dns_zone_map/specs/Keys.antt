-- Names as keys of an ordered map.
use Rattle.std.specs.Prelude.{◌≡◌, ℕ, ◌-◌, List, ◌∷◌, [], ◌++◌, length, take, drop, reverse}
use Rattle.dns_name.specs.Name.{fold_of, labels_bytes}

-- the key of a name of a zone: its labels below the origin, in small letters, from the origin on, each behind its length;
-- so the names below a name are those whose keys begin with its key
abbrev pub key_of : List (List ℕ) → List (List ℕ) → List ℕ
key_of origin name = labels_bytes (reverse (fold_of (take (length name - length origin) name)))

abbrev pub BeginsWith : List ℕ → List ℕ → Type 0
BeginsWith bytes front = (rest : List ℕ) × (bytes ≡ front ++ rest)

-- a name of a zone, and the origin of the zone
pub record Placed : Type 0 where
  pub origin : List (List ℕ)
  pub name : List (List ℕ)

-- the label `*` in the place of the first labels of a name (RFC 4592 2.1.1)
abbrev pub star_above : ℕ → List (List ℕ) → List (List ℕ)
star_above labels_dropped name = (42 ∷ []) ∷ drop labels_dropped name
