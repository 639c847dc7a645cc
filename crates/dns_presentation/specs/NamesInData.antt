-- The names that stand in the data of a record where the first byte of the data is the first of a message: a pointer in them
-- points at a place of the data (RFC 1035 3.1, 4.1.4).
use Rattle.std.specs.Prelude.{ℕ, zero, suc, ◌+◌, ◌-◌, ◌*◌, ◌==◌, nat_lt, nat_le, Bool, ◌&&◌, if◌then◌else◌, List, [], ◌∷◌, length, take, drop, Option, Some, None}
use Rattle.std.specs.List.{list_all}
use Rattle.dns_name.specs.Name.{name_len}
use Rattle.dns_presentation.specs.Values.{◌>>=◌}

-- behind the first byte of a pointer: the labels at the place that it points at, and the two bytes that it takes
abbrev pub pointed : (ℕ → Option (List (List ℕ))) → ℕ → List ℕ → Option (List (List ℕ) × ℕ)
pointed earlier high [] = None
pointed earlier high (low ∷ bytes) = earlier ((high - 192) * 256 + low) >>= λ labels. Some (labels, 2)

-- the labels that bytes begin with, at most so many, and how many of the bytes they take: a byte of 0 ends them, one of 1 to 63
-- is the length of a label, and one from 192 on begins a pointer, to labels that stand earlier
unfoldable pub labels_at : (ℕ → Option (List (List ℕ))) → ℕ → List ℕ → Option (List (List ℕ) × ℕ)
labels_at earlier zero bytes = None
labels_at earlier (suc most) [] = None
labels_at earlier (suc most) (n ∷ bytes) =
    if n == 0 then Some ([], 1)
    else if nat_lt n 64 && nat_le n (length bytes) then (labels_at earlier most (drop n bytes) >>= λ more. Some (take n bytes ∷ more.0, 1 + n + more.1))
    else if nat_le 192 n then pointed earlier n bytes
    else None

-- the labels that begin at a place, if it lies before this one; a pointer in them points at a place before the one at which they
-- began, so it never comes back to one
unfoldable pub labels_before : List ℕ → ℕ → ℕ → Option (List (List ℕ))
labels_before bytes zero place = None
labels_before bytes (suc end) place =
    if place == end then (labels_at (λ earlier. labels_before bytes end earlier) (length bytes) (drop end bytes) >>= λ found. Some found.0)
    else labels_before bytes end place

-- labels of 1 to 63 bytes that take at most 255 bytes together (RFC 1035 2.3.4): the test of `IsName`
abbrev pub is_label : List ℕ → Bool
is_label label = nat_lt 0 (length label) && nat_lt (length label) 64

abbrev pub is_name : List (List ℕ) → Bool
is_name labels = list_all is_label labels && nat_lt (name_len labels) 256

-- the name that begins at a place, and the place behind it
unfoldable pub name_at : List ℕ → ℕ → Option (List (List ℕ) × ℕ)
name_at bytes place =
    labels_at (λ earlier. labels_before bytes place earlier) (length bytes) (drop place bytes) >>= λ found. if is_name found.0 then Some (found.0, place + found.1) else None

-- the name that begins at a place and goes to the end
unfoldable pub last_name : List ℕ → ℕ → Option (List (List ℕ))
last_name bytes place = name_at bytes place >>= λ found. if found.1 == length bytes then Some found.0 else None
