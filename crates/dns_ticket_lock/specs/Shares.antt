-- The list beside the book, with one member per number.
use Rattle.std.specs.Prelude.{ℕ, ◌==◌, ◌&&◌, Bool, true, false, if◌then◌else◌, List, [], ◌∷◌}
use Rattle.dns_ticket_lock.specs.declared.held.Member.{Member}

-- the last value of a count of faults
abbrev pub last : ℕ
last = 18446744073709551615

abbrev pub share_of : Member → ℕ
share_of m = m.share

-- a mark stands only where the count of faults is at its last value
abbrev pub marks_stand : ℕ → List Member → Bool
marks_stand faults [] = true
marks_stand faults (m ∷ ms) = (if m.mark then (faults == last) else true) && marks_stand faults ms

abbrev pub new_member : Member
new_member = record { share = 0; mark = false }
