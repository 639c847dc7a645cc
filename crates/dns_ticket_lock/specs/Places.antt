-- Whose the rows of a journal are, and where they stand in it.
use Rattle.std.specs.Prelude.{ℕ, zero, suc, ◌+◌, ◌-◌, ◌==◌, ◌&&◌, ℤ, pos, negsuc, Bool, true, if◌then◌else◌, List, [], ◌∷◌, ◌++◌, Option, Some, None}
use Rattle.dns_keeper.specs.declared.row.Row.{Row}
use Rattle.dns_book.specs.declared.ask.Receipt.{Receipt}

-- a number that is not below 0, else 0
abbrev pub number_in : ℤ → ℕ
number_in (pos n) = n
number_in (negsuc n) = 0

-- the number that a row bears, 0 where it is none of a seat: seats are numbered from 1
abbrev pub number_of : Row → ℕ
number_of r = number_in r.client

-- the row's number is from 1 to count
abbrev pub is_within : ℕ → Row → Bool
is_within count r = (1 - number_of r == 0) && (number_of r - count == 0)

abbrev pub all_within : ℕ → List Row → Bool
all_within count [] = true
all_within count (r ∷ rs) = is_within count r && all_within count rs

-- each row bears the number
abbrev pub all_bear : ℕ → List Row → Bool
all_bear number [] = true
all_bear number (r ∷ rs) = (number_of r == number) && all_bear number rs

-- the places of the rows that bear the number, where the first row stands at this place
abbrev pub bearing : ℕ → ℕ → List Row → List ℕ
bearing number place [] = []
bearing number place (r ∷ rs) = if number_of r == number then place ∷ bearing number (place + 1) rs else bearing number (place + 1) rs

-- so many places, from this one on
abbrev pub places_from : ℕ → ℕ → List ℕ
places_from place zero = []
places_from place (suc more) = place ∷ places_from (place + 1) more

-- the places that receipts name, in order
abbrev pub places_of : List Receipt → List ℕ
places_of [] = []
places_of (r ∷ rs) = places_from r.first r.count ++ places_of rs

-- a receipt, if there is one
abbrev pub listed : Option Receipt → List Receipt
listed None = []
listed (Some r) = r ∷ []
