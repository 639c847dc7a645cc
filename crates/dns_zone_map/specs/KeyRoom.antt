-- Where the keys of a name are written.
use Rattle.std.specs.Prelude.{◌≡◌, ◌≤◌, ◌+◌, ℕ, List, true, length, drop}
use Rattle.dns_name.specs.Name.{IsName, is_at_or_below}
use Rattle.dns_zone_map.specs.Keys.{key_of}

-- the key of a name of the zone stands at the end of the room, and the name has so many labels more than the origin
pub record HasKey (origin name : List (List ℕ)) (room : List ℕ) (start depth : ℕ) : Type 0 where
  pub named : IsName name
  pub within : is_at_or_below name origin ≡ true
  pub size : length room ≡ 255
  pub inside : start ≤ 255
  pub key : drop start room ≡ key_of origin name
  pub deep : length origin + depth ≡ length name
