-- The buffer of a name: the bytes that it takes in a message, without the zero byte at its end.
use Rattle.std.specs.Prelude.{◌≡◌, ℕ, List, [], ◌∷◌, length, take, drop, zero, suc}
use Rattle.dns_name.specs.Name.{IsName, labels_bytes}

-- the labels that bytes spell, at most `most` of them
unfoldable pub cut_labels : ℕ → List ℕ → List (List ℕ)
cut_labels zero bytes = []
cut_labels (suc most) [] = []
cut_labels (suc most) (n ∷ bytes) = take n bytes ∷ cut_labels most (drop n bytes)

-- the labels that bytes spell
unfoldable pub labels_of : List ℕ → List (List ℕ)
labels_of bytes = cut_labels (length bytes) bytes

-- the bytes are the labels of a name
pub record IsWire (bytes : List ℕ) : Type 0 where
  pub name : IsName (labels_of bytes)
  pub spelled : bytes ≡ labels_bytes (labels_of bytes)
