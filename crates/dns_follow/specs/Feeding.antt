-- What is fed of a journal, and why it is not.
use Rattle.std.specs.Prelude.{◌≡◌, ◌≤◌, ℕ, ℤ, pos, ◌-◌, ◌+ℤ◌, ◌^◌, ◌&&◌, nat_le, min, List, [], ◌∷◌, length, drop, map, Bool, if◌then◌else◌, Option, Some, None, IfSome, Result, Ok, Err}
use Rattle.std.specs.List.{flat_map}
use Rattle.std.specs.Option.{option_or}
use Rattle.std.specs.Ordering.{int_eq}
use Rattle.std.specs.Int.Signed.{le_z}
use Rattle.dns_io.specs.Told.{Told, Keeps, Rose, Grows, GrowsByPrefix}
use Rattle.dns_edges.specs.Edges.{Around, SinkTold}
use Rattle.dns_words.specs.Writing.{IsUntouched, IsWritten}
use Rattle.dns_keeper.specs.declared.row.Row.{Row}
use Rattle.dns_keeper.specs.declared.batch_row.BatchRow.{BatchRow}
use Rattle.dns_keeper.specs.Batches.{uncovered}
use Rattle.dns_keeper.specs.Keeping.{KeeperOf, KeeperTold, KeepsBatches}
use Rattle.dns_keeper.specs.Crash.{LeavesNoOther}
use Rattle.dns_follow.specs.declared.frame.Frame.{Frame}
use Rattle.dns_follow.specs.declared.feed_fault.FeedFault.{FeedFault}
use Rattle.dns_follow.specs.declared.feed_fault.FeedFault.TheVariants as fault
use Rattle.dns_follow.specs.Feed.{frame_of, framed}

-- ---- rows that may be fed

-- the first place, counted from this one, whose row has another id
abbrev pub misnumbered : ℤ → List Row → Option ℤ
misnumbered place [] = None
misnumbered place (row ∷ rows) = if int_eq row.id place then misnumbered (place +ℤ pos 1) rows else Some place

-- a number of 32 bits
abbrev pub is_word : ℤ → Bool
is_word z = le_z (pos 0) z && le_z z (pos (2 ^ 32 - 1))

-- client and serial are numbers of 32 bits
abbrev pub is_fit : Row → Bool
is_fit row = is_word row.client && is_word row.serial

-- the id of a row of which one is not
abbrev pub unfit_in : Row → Option ℤ
unfit_in row = if is_fit row then None else Some row.id

-- that of the first such row
abbrev pub unfit : List Row → Option ℤ
unfit [] = None
unfit (row ∷ rows) = option_or (unfit_in row) (unfit rows)

-- where a journal is out of place: where ids are not 1 and those that follow; else where batches cease to cover the rows; else at the first
-- row whose client or serial is no number of 32 bits
abbrev pub out_of_place : List Row → List BatchRow → Option ℤ
out_of_place rows batches = option_or (misnumbered (pos 1) rows) (option_or (uncovered (pos 1) rows batches) (unfit rows))

-- the rows from this id on, where ids are 1 and those that follow
abbrev pub rows_from : ℕ → List Row → List Row
rows_from from rows = drop (from - 1) rows

-- their frames
abbrev pub fed_of : ℕ → List Row → List BatchRow → List Frame
fed_of from rows batches = map (frame_of batches) (rows_from from rows)

-- ---- frames that have room

-- the bytes of a row have room in its frame
abbrev pub is_short : Frame → Bool
is_short f = nat_le (length f.bytes) 65518

-- the frames before the first one whose row is too long
abbrev pub before_long : List Frame → List Frame
before_long [] = []
before_long (f ∷ frames) = if is_short f then f ∷ before_long frames else []

-- the id of that row
abbrev pub too_long : List Frame → Option ℕ
too_long [] = None
too_long (f ∷ frames) = if is_short f then too_long frames else Some f.id

-- it as the id of a row, which is below 2 ^ 63
abbrev pub row_id : ℕ → ℤ
row_id id = pos (min id (2 ^ 63 - 1))

-- the bytes that frames are sent in, up to the first one whose row is too long
abbrev pub sent_of : List Frame → List ℕ
sent_of frames = flat_map framed (before_long frames)

-- ---- reading a journal

-- what a call did to the count of faults of a journal, by the cause for which it ended: it rose where the keeper failed, and only there
abbrev pub CountsByFault : ℕ → ℕ → FeedFault → Type 0
CountsByFault before now fault.KeeperFault = Rose before now
CountsByFault before now fault.Write = now ≡ before
CountsByFault before now (fault.OutOfPlace row) = now ≡ before
CountsByFault before now (fault.TooLong row) = now ≡ before
CountsByFault before now fault.OutOfMemory = now ≡ before

-- and by the answer
abbrev pub CountsFeeding : {T : Type 0} → ℕ → ℕ → Result T FeedFault → Type 0
CountsFeeding before now (Ok value) = now ≡ before
CountsFeeding before now (Err f) = CountsByFault before now f

-- a journal was read: no row and no batch changed, a crash leaves nothing else than before, and the count of faults rose where the keeper
-- failed, and only there
pub record ReadsJournal {K T : Type 0} (keeper : KeeperOf K) (old new : K) (result : Result T FeedFault) : Type 0 where
  pub kept : Keeps (keeper.told old).rows (keeper.told new).rows
  pub batches : KeepsBatches (keeper.told old) (keeper.told new)
  pub left : LeavesNoOther (keeper.may_leave old) (keeper.may_leave new)
  pub later : (keeper.told old).faults ≤ (keeper.told new).faults
  pub counts : CountsFeeding (keeper.told old).faults (keeper.told new).faults result

-- the frames of the rows of a journal from an id on, which is in place
pub record IsFedFrom (from : ℕ) (frames : List Frame) (batches : List BatchRow) (rows : List Row) : Type 0 where
  pub placed : out_of_place rows batches ≡ None
  pub are : frames ≡ fed_of from rows batches

-- so they are, where the rows are told
abbrev pub ReadsFed : ℕ → KeeperTold → List Frame → Type 0
ReadsFed from told frames = IfSome told.rows (IsFedFrom from frames told.batches)

-- why they are not known: the journal failed; it is out of place; or memory ran out
abbrev pub ReadsNoFed : KeeperTold → KeeperTold → FeedFault → Type 0
ReadsNoFed before after fault.KeeperFault = Unit {0}
ReadsNoFed before after fault.Write = ⊥
ReadsNoFed before after (fault.OutOfPlace row) = Told (λ old new. out_of_place old before.batches ≡ Some row) before.rows after.rows
ReadsNoFed before after (fault.TooLong row) = ⊥
ReadsNoFed before after fault.OutOfMemory = Unit {0}

-- ---- feeding

-- all frames were sent, so many, and handed on
pub record Sends (output : Around SinkTold) (frames : List Frame) (count : ℕ) : Type 0 where
  pub all : too_long frames ≡ None
  pub written : IsWritten output (sent_of frames)
  pub number : count ≡ length frames

-- why they were not: a row is too long, and those before it were sent; the output failed, or wanted memory, and a front was sent
pub data SendsNot (output : Around SinkTold) (frames : List Frame) : FeedFault → Type 0 where
  long : {row : ℕ} → too_long frames ≡ Some row → Grows output.before.taken output.after.taken (sent_of frames)
      → output.after.faults ≡ output.before.faults → SendsNot output frames (fault.TooLong (row_id row))
  failed : (rest : List ℕ) → GrowsByPrefix output.before.taken output.after.taken (sent_of frames) rest
      → Rose output.before.faults output.after.faults → SendsNot output frames fault.Write
  cut : (rest : List ℕ) → GrowsByPrefix output.before.taken output.after.taken (sent_of frames) rest
      → output.after.faults ≡ output.before.faults → SendsNot output frames fault.OutOfMemory

-- the frames of a journal from an id on were sent, so many, and handed on
pub record Feeds (before after : KeeperTold) (from : ℕ) (output : Around SinkTold) (count : ℕ) : Type 0 where
  pub frames : List Frame
  pub read : ReadsFed from after frames
  pub sends : Sends output frames count

-- why they were not: the journal was not read, and nothing was sent; or it was, and not all was sent
pub data FeedsNot (before after : KeeperTold) (from : ℕ) (output : Around SinkTold) (f : FeedFault) : Type 0 where
  unread : ReadsNoFed before after f → IsUntouched output → FeedsNot before after from output f
  unsent : (frames : List Frame) → ReadsFed from after frames → SendsNot output frames f → FeedsNot before after from output f
