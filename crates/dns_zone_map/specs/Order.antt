-- Records with order numbers: the list that they stand for is in the order of the numbers.
use Rattle.std.specs.Prelude.{ℕ, ◌<◌, ◌≤◌, List, [], ◌∷◌, map, Bool, nat_lt, if◌then◌else◌}
use Rattle.std.specs.List.{AllByRecursion}
use Rattle.dns_wire.specs.declared.record.Record.{Record}

-- a record with its order number
pub record Numbered : Type 0 where
  pub number : ℕ
  pub one : Record

-- in front of the first whose number is not smaller
abbrev pub into : Numbered → List Numbered → List Numbered
into x [] = x ∷ []
into x (y ∷ ys) = if nat_lt y.number x.number then y ∷ into x ys else x ∷ y ∷ ys

-- by ascending number
abbrev pub by_number : List Numbered → List Numbered
by_number [] = []
by_number (x ∷ xs) = into x (by_number xs)

-- the record alone
abbrev pub plain : Numbered → Record
plain x = x.one

-- the list that numbered records stand for: by ascending number
abbrev pub list_of : List Numbered → List Record
list_of xs = map plain (by_number xs)

-- a test of records, at numbered ones
abbrev pub of_plain : (Record → Bool) → Numbered → Bool
of_plain test x = test x.one

-- records with their numbers
abbrev pub numbered : List ℕ → List Record → List Numbered
numbered [] rs = []
numbered (n ∷ ns) [] = []
numbered (n ∷ ns) (r ∷ rs) = record { number = n; one = r } ∷ numbered ns rs

-- numbers do not fall
abbrev pub IsRising : List ℕ → Type 0
IsRising [] = Unit {0}
IsRising (n ∷ ns) = AllByRecursion (λ m. n ≤ m) ns × IsRising ns

-- every number is below the next one
abbrev pub AreBelow : ℕ → List Numbered → Type 0
AreBelow next = AllByRecursion (λ x. x.number < next)
