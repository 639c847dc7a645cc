-- What comes of fetching the body of a request or a response.
use Rattle.std.specs.Prelude.{◌≡◌, ◌⊎◌, ℕ, ◌+◌, ◌<◌, ◌≤◌, ◌==◌, nat_lt, Bool, true, false, if◌then◌else◌, List, [], ◌∷◌, ◌++◌, length, Option, Some, None, IsSome, Result, Ok, Err}
use Rattle.dns_io.specs.declared.io_fault.IoFault.{IoFault}
use Rattle.dns_io.specs.declared.io_fault.IoFault.TheVariants.{Failed, OutOfMemory as NoMemory}
use Rattle.dns_transport.specs.Pieces.{BodyTold, GivesPiece, joined}
use Rattle.dns_transport.specs.declared.error.NetError.{NetError}
use Rattle.dns_transport.specs.declared.error.NetError.TheVariants.{RequestTooLarge, BadRequest, Io, OutOfMemory}
use Rattle.dns_transport.specs.declared.error.BadRequestKind.TheVariants.{Length}

-- a body is as long as it is said to be, where that is said
abbrev pub is_said : Option ℕ → ℕ → Bool
is_said None count = true
is_said (Some said) count = said == count

-- the message whose bytes these are, where they are at most 65,535 and as many as was said
abbrev pub whole_body : Option ℕ → List ℕ → Result (List ℕ) NetError
whole_body said bytes =
    if nat_lt 65535 (length bytes) then Err RequestTooLarge
    else (if is_said said (length bytes) then Ok bytes else Err (BadRequest Length))

-- pieces of at most 65,535 bytes in all were taken
pub record TakesShort (left rest : List (List ℕ)) : Type 0 where
  pub front : List (List ℕ)
  pub parts : left ≡ front ++ rest
  pub short : length (joined front) ≤ 65535

-- the last piece that was taken is the first with which they pass 65,535 bytes
pub record TakesPast (left rest : List (List ℕ)) : Type 0 where
  pub front : List (List ℕ)
  pub piece : List ℕ
  pub parts : left ≡ front ++ piece ∷ rest
  pub short : length (joined front) ≤ 65535
  pub past : 65535 < length (joined front) + length piece

-- what comes of fetching a body, and which pieces are left
abbrev pub Fetches : Option ℕ → Result (List ℕ) NetError → List (List ℕ) → List (List ℕ) → Type 0
Fetches said (Ok bytes) left rest = (rest ≡ []) × (whole_body said (joined left) ≡ Ok bytes)
Fetches said (Err RequestTooLarge) left rest = TakesPast left rest
Fetches said (Err (BadRequest Length)) left rest = (rest ≡ []) × (whole_body said (joined left) ≡ Err (BadRequest Length))
Fetches said (Err Io) left rest = TakesShort left rest
Fetches said (Err OutOfMemory) left rest = TakesShort left rest
Fetches said (Err _) left rest = ⊥

-- more than 65,535 bytes were taken
pub record TakesLong (left rest : List ℕ) : Type 0 where
  pub front : List ℕ
  pub parts : left ≡ front ++ rest
  pub long : 65535 < length front

-- at most 65,535 bytes were taken
pub record TakesWithin (left rest : List ℕ) : Type 0 where
  pub front : List ℕ
  pub parts : left ≡ front ++ rest
  pub short : length front ≤ 65535

-- the same of a body that tells its bytes: what comes of fetching it, and which bytes are left
abbrev pub FetchesBytes : Option ℕ → Result (List ℕ) NetError → List ℕ → List ℕ → Type 0
FetchesBytes said (Ok bytes) left rest = (rest ≡ []) × (whole_body said left ≡ Ok bytes)
FetchesBytes said (Err RequestTooLarge) left rest = TakesLong left rest
FetchesBytes said (Err (BadRequest Length)) left rest = (rest ≡ []) × (whole_body said left ≡ Err (BadRequest Length))
FetchesBytes said (Err Io) left rest = TakesWithin left rest
FetchesBytes said (Err OutOfMemory) left rest = TakesWithin left rest
FetchesBytes said (Err _) left rest = ⊥

-- what may come of it whatever is told: no other fault, none about the length where none was said, and no bytes but
-- those of a whole body
abbrev pub IsFetched : Option ℕ → Result (List ℕ) NetError → Type 0
IsFetched said (Ok bytes) = whole_body said bytes ≡ Ok bytes
IsFetched said (Err RequestTooLarge) = Unit {0}
IsFetched said (Err (BadRequest Length)) = IsSome said
IsFetched said (Err Io) = Unit {0}
IsFetched said (Err OutOfMemory) = Unit {0}
IsFetched said (Err _) = ⊥

-- one call for the next piece of a body, by what it tells
abbrev pub AsksNext : {B : Type 0} → (B → BodyTold) → B → Result (Option (List ℕ)) IoFault → B → Type 0
AsksNext told before answer after = GivesPiece (told before) (told after) answer

-- how far a body was read: these calls, each of which gave a piece, gave these bytes
pub data ReadsUpTo {B : Type 0} (next : B → Result (Option (List ℕ)) IoFault → B → Type 0) (before : B) : List ℕ → B → Type 0 where
  begun : ReadsUpTo next before [] before
  went_on : {between after : B} {bytes piece : List ℕ} → ReadsUpTo next before bytes between
      → next between (Ok (Some piece)) after → ReadsUpTo next before (bytes ++ piece) after

-- how the reading of a body ends that gave these bytes so far: by the one call behind them, and nothing is read after it. At
-- the end of the body they are as many as was said, or they are not; a piece came with which they are more than 65,535; or
-- the call failed. Want of memory may come in that call, where room is made for its piece, or before the first call.
abbrev pub EndsReading : {B : Type 0} → (B → Result (Option (List ℕ)) IoFault → B → Type 0)
    → Option ℕ → List ℕ → B → Result (List ℕ) NetError → B → Type 0
EndsReading next said kept between (Ok bytes) after =
    next between (Ok None) after × (bytes ≡ kept) × (is_said said (length kept) ≡ true)
EndsReading next said kept between (Err (BadRequest Length)) after =
    next between (Ok None) after × (is_said said (length kept) ≡ false)
EndsReading next said kept between (Err RequestTooLarge) after =
    (piece : List ℕ) × next between (Ok (Some piece)) after × (65535 < length kept + length piece)
EndsReading next said kept between (Err Io) after = next between (Err Failed) after
EndsReading next said kept between (Err OutOfMemory) after =
    next between (Err NoMemory) after
    ⊎ ((piece : List ℕ) × next between (Ok (Some piece)) after × (length kept + length piece ≤ 65535))
    ⊎ ((after ≡ between) × (kept ≡ []))
EndsReading next said kept between (Err _) after = ⊥

-- what was asked of a body that is fetched, from the first call to the last: pieces of at most 65,535 bytes in all, and then
-- the call that ends it
pub record IsReadOnce {B : Type 0} (next : B → Result (Option (List ℕ)) IoFault → B → Type 0) (said : Option ℕ) (before : B)
    (result : Result (List ℕ) NetError) (after : B) : Type 0 where
  pub kept : List ℕ
  pub between : B
  pub given : ReadsUpTo next before kept between
  pub short : length kept ≤ 65535
  pub ended : EndsReading next said kept between result after
