-- Names that are written into a room, as they stand in a message.
use Rattle.std.specs.Prelude.{◌≡◌, ℕ, ◌≤◌, ◌==◌, false, List, length, take, Some, Ok}
use Rattle.dns_name.specs.Name.{IsName, fold_of, labels_bytes}
use Rattle.dns_name.specs.NameBuffer.{labels_of, IsWire}
use Rattle.dns_name.specs.NameText.{name_of}
use Rattle.dns_presentation.specs.Values.{ends_in_dot, name_in}

-- the labels of a text, in small letters, stand at the front of a room, one byte of which is more than the text has where the
-- text ends in no dot
pub record Written (text room : List ℕ) (end : ℕ) : Type 0 where
  pub labels : List (List ℕ)
  pub named : name_of text ≡ Ok labels
  pub name : IsName (fold_of labels)
  pub spelled : take end room ≡ labels_bytes (fold_of labels)
  pub short : end ≤ 254
  pub dot : ends_in_dot false false text ≡ (end == length text)

-- the name that a text writes under an origin stands at the front of a room
pub record Named (origin : List (List ℕ)) (text room : List ℕ) (end : ℕ) : Type 0 where
  pub short : end ≤ 254
  pub wire : IsWire (take end room)
  pub named : name_in origin text ≡ Some (labels_of (take end room))
