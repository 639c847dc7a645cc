-- What a call of an object does to what it tells of itself. An object that tells its content before a call may
-- stop telling it there, and one that does not never begins; so each fact speaks of what is told after the call.
use Rattle.std.specs.Prelude.{◌≡◌, ◌↔◌, ℕ, ◌+◌, ◌-◌, ◌^◌, ◌≤◌, ◌<◌, min, List, [], ◌++◌, length, drop, Option, Some, None, Result, Ok, Err}
use Rattle.dns_io.specs.declared.io_fault.IoFault.{IoFault}
use Rattle.dns_io.specs.declared.io_fault.IoFault.TheVariants.{Failed, OutOfMemory}

-- one more, up to the greatest number of 64 bits
abbrev pub one_more : ℕ → ℕ
one_more count = min (count + 1) (2 ^ 64 - 1)

-- a count of faults rose, or stands at its last value
abbrev pub Rose : ℕ → ℕ → Type 0
Rose before now = one_more before ≤ now

-- the count of faults after a call, where a failed call is counted once, and no other
abbrev pub counted : {T : Type 0} → ℕ → Result T IoFault → ℕ
counted before (Ok value) = before
counted before (Err Failed) = one_more before
counted before (Err OutOfMemory) = before

-- where content is told after a call, it was told before it, and both stand in this relation
abbrev pub Told : {A : Type 0} {B : Type 0} → (A → B → Type 0) → Option A → Option B → Type 0
Told R before None = Unit {0}
Told R None (Some now) = ⊥
Told R (Some before) (Some now) = R before now

-- content that was not told before a call is not told after it
abbrev pub NeverBegins : {A : Type 0} → Option A → Option A → Type 0
NeverBegins before now = Told (λ b n. Unit {0}) before now

-- the content is what it was
abbrev pub Keeps : {A : Type 0} → Option A → Option A → Type 0
Keeps before now = Told (λ b n. n ≡ b) before now

-- these items were taken from the front of what was left
abbrev pub Takes : {A : Type 0} → Option (List A) → Option (List A) → List A → Type 0
Takes before now items = Told (λ left rest. left ≡ items ++ rest) before now

-- none were taken exactly where none was left
abbrev pub EndsAt : {A : Type 0} → Option (List A) → Option (List A) → ℕ → Type 0
EndsAt before now count = Told (λ left rest. (count ≡ 0) ↔ (left ≡ [])) before now

-- all that was left was taken, and this holds of it
abbrev pub WasRead : {A : Type 0} → Option (List A) → Option (List A) → (List A → Type 0) → Type 0
WasRead before now P = Told (λ left rest. (rest ≡ []) × P left) before now

-- a front of what was left was taken, of at most this length
abbrev pub TakesFront : {A : Type 0} → Option (List A) → Option (List A) → ℕ → Type 0
TakesFront {A} before now most = Told (λ left rest. (front : List A) × (left ≡ front ++ rest) × (length front ≤ most)) before now

-- more was left than the bound, and exactly one item more than the bound was taken
abbrev pub WasLonger : {A : Type 0} → Option (List A) → Option (List A) → ℕ → Type 0
WasLonger {A} before now bound = Told (λ left rest. (front : List A) × (left ≡ front ++ rest) × (length front ≡ bound + 1)) before now

-- these items were added at the end of what was taken
abbrev pub Grows : {A : Type 0} → Option (List A) → Option (List A) → List A → Type 0
Grows before now items = Told (λ b n. n ≡ b ++ items) before now

-- the items up to `rest` were added at the end of what was taken
pub record GrowsByPrefix {A : Type 0} (before now : Option (List A)) (items rest : List A) : Type 0 where
  pub front : List A
  pub parts : items ≡ front ++ rest
  pub grown : Grows before now front

-- all that was taken was handed on
abbrev pub IsHandedOn : {A : Type 0} → Option A → Option A → Type 0
IsHandedOn taken flushed = Told (λ t f. f ≡ t) taken flushed

-- how far the writing of a text came: after these writes, each of which was handed all bytes that were not taken yet and
-- took some, the sink stands so, and this much of the text is not taken
pub data WritesUpTo {S : Type 0} (writes : S → List ℕ → Result ℕ IoFault → S → Type 0) (before : S) (bytes : List ℕ) : S → List ℕ → Type 0 where
  begun : WritesUpTo writes before bytes before bytes
  went_on : {between after : S} {left : List ℕ} {count : ℕ} → WritesUpTo writes before bytes between left → 0 < count → count ≤ length left → writes between left (Ok count) after → WritesUpTo writes before bytes after (drop count left)

-- the writing of a text ended by this fault: the write that answered it was handed all bytes that were not taken yet
pub record BreaksOff {S : Type 0} (writes : S → List ℕ → Result ℕ IoFault → S → Type 0) (before : S) (bytes : List ℕ) (fault : IoFault) (after : S) : Type 0 where
  pub between : S
  pub left : List ℕ
  pub some : 0 < length left
  pub written : WritesUpTo writes before bytes between left
  pub broke : writes between left (Err fault) after
