-- What is seen of connections, and which one gives its place to another.
use Rattle.std.specs.Prelude.{◌≡◌, ◌≢◌, ◌≤◌, ◌<◌, ◌+◌, ◌-◌, ◌/◌, ◌⊎◌, ◌++◌, ℕ, List, [], length, drop, is_none, true, false, Bool, not, ◌&&◌, ◌||◌, nat_eq, nat_lt, min, ◌^◌, if◌then◌else◌, slice_index_or, Option, Some, None}
use Rattle.std.specs.List.{count_by}
use Rattle.dns_readiness.specs.Decisions.{LinkSeen, OwedSeen}
use Rattle.dns_readiness.specs.declared.came.Came.{Came}
use Rattle.dns_readiness.specs.declared.came.Came.TheVariants.{Ended as HasEnded}
use Rattle.dns_readiness.specs.declared.link.Stage.{Stage}
use Rattle.dns_readiness.specs.declared.link.Stage.TheVariants.{Open, Closing, Draining, Ended}

-- it stands: it did not end
abbrev pub stands_in : Stage → Bool
stands_in Open = true
stands_in Closing = true
stands_in Draining = true
stands_in Ended = false

abbrev pub stands : LinkSeen → Bool
stands one = stands_in one.stage

-- how many stand
abbrev pub standing : List LinkSeen → ℕ
standing all = count_by stands all

-- it is served, so that its end is told
abbrev pub is_served : Stage → Bool
is_served Open = true
is_served Closing = false
is_served Draining = false
is_served Ended = false

-- it is owed nothing
abbrev pub is_free : LinkSeen → Bool
is_free one = is_none one.owed

-- the bytes that it is owed, the moment at which it began to be owed some, and how many it was owed since then
abbrev pub left_of : Option OwedSeen → List ℕ
left_of None = []
left_of (Some owed) = owed.left

abbrev pub marked_of : Option OwedSeen → ℕ
marked_of None = 0
marked_of (Some owed) = owed.marked

abbrev pub whole_of : Option OwedSeen → ℕ
whole_of None = 0
whole_of (Some owed) = owed.whole

-- it stands, and is owed nothing
abbrev pub is_idle : LinkSeen → Bool
is_idle one = stands one && is_free one

-- it stands, and was owed something for longer than the patience
abbrev pub is_overdue : ℕ → ℕ → LinkSeen → Bool
is_overdue patience now one = stands one && not (is_free one) && nat_lt patience (now - marked_of one.owed)

-- it can give way to another
abbrev pub may_leave : ℕ → ℕ → LinkSeen → Bool
may_leave patience now one = is_idle one || is_overdue patience now one

-- the moment since which it was silent: one to which all was written and that is closed counts as silent for ever
abbrev pub since_of : Stage → ℕ → ℕ
since_of Open heard = heard
since_of Closing heard = heard
since_of Draining heard = 0
since_of Ended heard = 0

abbrev pub since : LinkSeen → ℕ
since one = since_of one.stage one.heard

-- the moment at which it began to be owed something
abbrev pub mark : LinkSeen → ℕ
mark one = marked_of one.owed

-- its peer takes too little: nothing for longer than the patience, or what it was owed not within the patience and a millisecond for each
-- 16 bytes of it
abbrev pub is_slow : ℕ → ℕ → LinkSeen → Bool
is_slow patience now one = not (is_free one)
    && (nat_lt patience (now - one.heard) || nat_lt (patience + whole_of one.owed / 16) (now - marked_of one.owed))

-- it is over by its silence: its peer takes too little, or it was closed a second ago
abbrev pub is_late_in : Stage → ℕ → ℕ → LinkSeen → Bool
is_late_in Open patience now one = is_slow patience now one
is_late_in Closing patience now one = is_slow patience now one
is_late_in Draining patience now one = nat_lt 1000 (now - one.heard)
is_late_in Ended patience now one = false

abbrev pub is_late : ℕ → ℕ → LinkSeen → Bool
is_late patience now one = is_late_in one.stage patience now one

-- it is over: it broke, or it is late
abbrev pub is_over : ℕ → ℕ → LinkSeen → Bool
is_over patience now one = stands one && (one.broken || is_late patience now one)

-- it is owed something, or it was closed, or it broke
abbrev pub is_watched : LinkSeen → Bool
is_watched one = stands one && (one.broken || not (is_free one) || not (is_served one.stage))

-- what is told of its end
abbrev pub end_of : Stage → ℕ → ℕ → Option Came
end_of Open at number = Some (HasEnded at number)
end_of Closing at number = None
end_of Draining at number = None
end_of Ended at number = None

-- one that ended: its number is left
abbrev pub ended : LinkSeen → LinkSeen
ended one = record one { owed = None; stage = Ended; broken = false }

-- what is owed from a moment on, and what is owed where it is more by some bytes
abbrev pub first_owed : ℕ → List ℕ → OwedSeen
first_owed now bytes = record { left = bytes; marked = now; whole = length bytes }

abbrev pub more_owed : List ℕ → OwedSeen → OwedSeen
more_owed bytes owed = record owed { left = owed.left ++ bytes; whole = min (owed.whole + length bytes) (2 ^ 64 - 1) }

abbrev pub owed_with : ℕ → List ℕ → Option OwedSeen → Option OwedSeen
owed_with now bytes None = Some (first_owed now bytes)
owed_with now bytes (Some owed) = Some (more_owed bytes owed)

-- one that is owed these bytes more, at a moment
abbrev pub owes : ℕ → List ℕ → LinkSeen → LinkSeen
owes now bytes one = if nat_eq (length bytes) 0 then one else record one { owed = owed_with now bytes one.owed }

-- of the bytes that it is handed at a moment its peer takes some at once, where it was owed nothing, and the others wait; or it broke
pub record Sends (bytes : List ℕ) (now : ℕ) (before after : LinkSeen) : Type 0 where
  pub taken : ℕ
  pub order : is_free before ≡ false → taken ≡ 0
  pub left : (after ≡ owes now (drop taken bytes) before) ⊎ (after ≡ record before { broken = true })

-- what is owed behind so many bytes that its peer took
abbrev pub owed_behind : ℕ → Option OwedSeen → Option OwedSeen
owed_behind count None = None
owed_behind count (Some owed) = if nat_lt count (length owed.left) then Some (record owed { left = drop count owed.left }) else None

-- one that is to be closed and is owed nothing is closed at this moment, and what comes of it is dropped from then on
abbrev pub drained_from : Stage → ℕ → LinkSeen → LinkSeen
drained_from Open now one = one
drained_from Closing now one = if is_free one then record one { stage = Draining; heard = now } else one
drained_from Draining now one = one
drained_from Ended now one = one

-- one whose peer took so many bytes
abbrev pub taken_from : ℕ → ℕ → LinkSeen → LinkSeen
taken_from count now one = drained_from one.stage now (record one { owed = owed_behind count one.owed; heard = now })

-- one that is served is closed
abbrev pub closed_from : Stage → ℕ → LinkSeen → LinkSeen
closed_from Open now one = drained_from Closing now (record one { stage = Closing })
closed_from Closing now one = one
closed_from Draining now one = one
closed_from Ended now one = one

-- what stands for a connection in a place where none is
abbrev pub unseen : LinkSeen
unseen = record { number = 0; heard = 0; owed = None; stage = Open; broken = false }

abbrev pub link_at : List LinkSeen → ℕ → LinkSeen
link_at all place = slice_index_or all place unseen

-- a connection stands in a place
pub record StandsAt (all : List LinkSeen) (place : ℕ) : Type 0 where
  pub inside : place < length all
  pub stands : stands (link_at all place) ≡ true

-- that of a number does
pub record IsAt (all : List LinkSeen) (number place : ℕ) : Type 0 where
  pub inside : place < length all
  pub stands : stands (link_at all place) ≡ true
  pub same : (link_at all place).number ≡ number

-- of those that are owed nothing none was silent since before a moment
abbrev pub IsFloor : ℕ → List LinkSeen → Type 0
IsFloor floor all = (place : ℕ) → place < length all → is_idle (link_at all place) ≡ true → floor ≤ since (link_at all place)

-- as many connections, and each as it was, but for the one in a place
pub record ChangesAt (place : ℕ) (before after : List LinkSeen) : Type 0 where
  pub count : length after ≡ length before
  pub others : (other : ℕ) → other ≢ place → link_at after other ≡ link_at before other

-- as many connections, and each as it was, but for the one of a number
pub record ChangesOne (number : ℕ) (before after : List LinkSeen) : Type 0 where
  pub count : length after ≡ length before
  pub others : (place : ℕ) → (link_at before place).number ≢ number → link_at after place ≡ link_at before place

-- the one in a place became another one, and all others are as they were
pub record Becomes (place : ℕ) (before after : List LinkSeen) (one : LinkSeen) : Type 0 where
  pub changed : ChangesAt place before after
  pub is : link_at after place ≡ one

-- no connection of these places is so
abbrev pub IsNone : (LinkSeen → Bool) → List LinkSeen → ℕ → ℕ → Type 0
IsNone so all from bound = (other : ℕ) → from ≤ other → other < bound → so (link_at all other) ≡ false

-- the first from a place on that is so, where one is
abbrev pub IsFirst : (LinkSeen → Bool) → List LinkSeen → ℕ → Option ℕ → Type 0
IsFirst so all from None = IsNone so all from (length all)
IsFirst so all from (Some place) = (from ≤ place) × (place < length all) × (so (link_at all place) ≡ true) × IsNone so all from place

-- of the first so many that are so, a place of one with the least moment, where one is so
abbrev pub IsEarliest : (LinkSeen → Bool) → (LinkSeen → ℕ) → List LinkSeen → ℕ → Option ℕ → Type 0
IsEarliest so moment all bound None = IsNone so all 0 bound
IsEarliest so moment all bound (Some place) = (place < bound) × (so (link_at all place) ≡ true)
    × ((other : ℕ) → other < bound → so (link_at all other) ≡ true → moment (link_at all place) ≤ moment (link_at all other))

-- which one of the first so many gives way, if any can: of those that are owed nothing the one that was silent for the longest time; and where
-- each is owed something the one that was so for the longest time, if that is longer than the patience
abbrev pub GivesWay : ℕ → ℕ → List LinkSeen → ℕ → Option ℕ → Type 0
GivesWay patience now all bound None = IsNone (may_leave patience now) all 0 bound
GivesWay patience now all bound (Some place) = IsEarliest is_idle since all bound (Some place)
    ⊎ (IsNone is_idle all 0 bound × IsEarliest (is_overdue patience now) mark all bound (Some place))

-- which one gives way to the last that came: another one, if any can, or else that one
abbrev pub YieldsTo : ℕ → ℕ → List LinkSeen → ℕ → Option ℕ → Type 0
YieldsTo patience now all newest found = GivesWay patience now all newest found
    ⊎ (GivesWay patience now all newest None × (found ≡ Some newest))
