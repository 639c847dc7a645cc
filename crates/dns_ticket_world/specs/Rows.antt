-- The rows of the world: their ids, who they are of, and the receipts for them.
use Rattle.std.specs.Prelude.{ℕ, zero, suc, pos, ◌+◌, ◌-◌, ◌&&◌, Bool, true, if◌then◌else◌, List, [], ◌∷◌, ◌++◌, length, int_le, Option, Some, None}
use Rattle.std.specs.Ordering.{int_eq}
use Rattle.dns_keeper.specs.declared.row.Row.{Row}
use Rattle.dns_ticket_world.specs.declared.receipt.Receipt.{Receipt}

-- the ids of the rows are the numbers behind this one, in order
abbrev pub are_numbered : ℕ → List Row → Bool
are_numbered before [] = true
are_numbered before (r ∷ rs) = int_eq r.id (pos (before + 1)) && are_numbered (before + 1) rs

-- a row bears a number
abbrev pub bears : ℕ → Row → Bool
bears number r = int_eq r.client (pos number)

-- a row bears a number from 1 to this one
abbrev pub bears_up_to : ℕ → Row → Bool
bears_up_to last r = int_le (pos 1) r.client && int_le r.client (pos last)

-- the places of the rows that bear a number, where the first row stands at this place
abbrev pub places_bearing : ℕ → ℕ → List Row → List ℕ
places_bearing number place [] = []
places_bearing number place (r ∷ rs) =
    if bears number r then place ∷ places_bearing number (place + 1) rs else places_bearing number (place + 1) rs

-- so many places from this one on
abbrev pub places_from : ℕ → ℕ → List ℕ
places_from place zero = []
places_from place (suc n) = place ∷ places_from (place + 1) n

-- the places, from 0, of the rows that a receipt is for
abbrev pub places_of : Receipt → List ℕ
places_of r = places_from (r.first - 1) r.count

-- the receipt for a batch that was added behind so many rows. There is none for an empty one
abbrev pub receipt_for : ℕ → ℕ → List Row → Option Receipt
receipt_for number before [] = None
receipt_for number before (r ∷ rs) = Some (record { client = number; first = before + 1; count = length (r ∷ rs) })

-- receipts, and one more where there is one
abbrev pub with_receipt : List Receipt → Option Receipt → List Receipt
with_receipt receipts None = receipts
with_receipt receipts (Some r) = receipts ++ r ∷ []
