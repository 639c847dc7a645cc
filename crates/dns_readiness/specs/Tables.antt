-- The connections of a crowd, and the places that it holds for them.
use Rattle.std.specs.Prelude.{◌≡◌, ℕ, List, false, []}
use Rattle.dns_readiness.specs.Decisions.{LinkSeen, PlacesSeen}

-- the connections in the order of their numbers, those that ended among them, and the places
pub record TableSeen : Type 0 where
  pub links : List LinkSeen
  pub places : PlacesSeen

-- no place is held yet
abbrev pub none_held : ℕ → PlacesSeen
none_held most = record { most = most; held = 0; is_over = false }

-- no connection stands, and none ended
abbrev pub empty_table : ℕ → TableSeen
empty_table most = record { links = []; places = none_held most }

-- connections changed, and the places are as they were
abbrev pub KeepsPlaces : TableSeen → TableSeen → Type 0
KeepsPlaces before after = after ≡ record before { links = after.links }
