-- Domain names as lists of labels, and how they are compared (RFC 1035 2.3.3, 2.3.4, 3.1).
use Rattle.std.specs.Prelude.{◌≡◌, ℕ, ◌+◌, ◌-◌, ◌<◌, ◌≤◌, Bool, ◌&&◌, nat_le, nat_lt, List, [], ◌∷◌, ◌++◌, length, map, drop}
use Rattle.std.specs.List.{flat_map, sum_by, AllByRecursion}
use Rattle.std.specs.Char.{to_ascii_lowercase}
use Rattle.std.specs.Str.{bytes_eq}
use Rattle.std.specs.Cmp.Lexicographic.{pointwise}

-- a label has 1 to 63 bytes (RFC 1035 2.3.4)
abbrev pub IsLabel : List ℕ → Type 0
IsLabel label = (0 < length label) × (length label < 64)

-- how many bytes a name takes in a message: those of its labels, a length byte for each, and the zero byte
abbrev pub name_len : List (List ℕ) → ℕ
name_len labels = sum_by length labels + length labels + 1

-- a name is a list of labels that takes at most 255 bytes (RFC 1035 2.3.4)
pub record IsName (labels : List (List ℕ)) : Type 0 where
  pub each : AllByRecursion IsLabel labels
  pub short : name_len labels ≤ 255

-- the name with ASCII capitals made small
abbrev pub fold_of : List (List ℕ) → List (List ℕ)
fold_of = map (map to_ascii_lowercase)

-- two names are equal but for the case of ASCII letters (RFC 1035 2.3.3)
abbrev pub SameName : List (List ℕ) → List (List ℕ) → Type 0
SameName name other = fold_of name ≡ fold_of other

-- a name is the other or stands below it: the labels of the other are its last ones, but for case (RFC 1034 3.1)
abbrev pub IsAtOrBelow : List (List ℕ) → List (List ℕ) → Type 0
IsAtOrBelow name other = (front : List (List ℕ)) × (fold_of name ≡ front ++ fold_of other)

-- a name stands below the other, which has fewer labels
abbrev pub IsStrictlyBelow : List (List ℕ) → List (List ℕ) → Type 0
IsStrictlyBelow name other = IsAtOrBelow name other × (length other < length name)

-- the test of `SameName`
abbrev pub is_same_name : List (List ℕ) → List (List ℕ) → Bool
is_same_name name other = pointwise bytes_eq (fold_of name) (fold_of other)

-- the test of `IsAtOrBelow`
abbrev pub is_at_or_below : List (List ℕ) → List (List ℕ) → Bool
is_at_or_below name other = nat_le (length other) (length name) && is_same_name (drop (length name - length other) name) other

-- the test of `IsStrictlyBelow`
abbrev pub is_strictly_below : List (List ℕ) → List (List ℕ) → Bool
is_strictly_below name other = nat_lt (length other) (length name) && is_at_or_below name other

-- a label in a message: its length in one byte, and its bytes (RFC 1035 3.1)
abbrev pub label_bytes : List ℕ → List ℕ
label_bytes label = length label ∷ label

-- labels in a message, one after another
abbrev pub labels_bytes : List (List ℕ) → List ℕ
labels_bytes = flat_map label_bytes

-- a name in a message that holds no pointer: its labels and a zero byte
abbrev pub name_bytes : List (List ℕ) → List ℕ
name_bytes labels = labels_bytes labels ++ 0 ∷ []
