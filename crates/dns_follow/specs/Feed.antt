-- What a feed has: the rows of a journal in order, each with a mark where its batch ends with it.
use Rattle.std.specs.Prelude.{◌≡◌, ℕ, ℤ, pos, nat_abs, nat_lt, ◌+ℤ◌, ◌<◌, ◌≤◌, ◌^◌, List, [], ◌∷◌, ◌++◌, length, map, take, drop, slice_index, Bool, if◌then◌else◌, Option, Some, None}
use Rattle.std.specs.Ordering.{int_eq}
use Rattle.std.specs.List.{list_any, Contains}
use Rattle.std.specs.Int.{w32, w64, to_be_bytes, from_be_bytes}
use Rattle.dns_frames.specs.Frames.{frame_of as message_frame}
use Rattle.dns_keeper.specs.declared.row.Row.{Row}
use Rattle.dns_keeper.specs.declared.batch_row.BatchRow.{BatchRow}
use Rattle.dns_follow.specs.declared.frame.Frame.{Frame}

-- a row without its stamp
abbrev pub bare : Row → Row
bare row = record row { stamp = [] }

-- a batch ends with the row of this id
abbrev pub ends_batch : List BatchRow → ℤ → Bool
ends_batch batches id = list_any (λ b. int_eq (b.first +ℤ b.count) (id +ℤ pos 1)) batches

-- the row that a frame carries
abbrev pub row_of : Frame → Row
row_of f = record { id = pos f.id; client = pos f.client; serial = pos f.serial; stamp = []; bytes = f.bytes }

-- the mark of a row
abbrev pub mark_of : List BatchRow → ℤ → ℕ
mark_of batches id = if ends_batch batches id then 1 else 0

-- the frame of a row with this mark
abbrev pub frame_with : ℕ → Row → Frame
frame_with mark row =
    record { id = nat_abs row.id; client = nat_abs row.client; serial = nat_abs row.serial; mark = mark; bytes = row.bytes }

-- the frame of a row
abbrev pub frame_of : List BatchRow → Row → Frame
frame_of batches row = frame_with (mark_of batches row.id) row

-- a frame is that of a row of these, marked where a batch ends with it
pub record IsFed (rows : List Row) (batches : List BatchRow) (f : Frame) : Type 0 where
  pub row : Contains (map bare rows) (row_of f)
  pub mark : f.mark ≡ mark_of batches (pos f.id)

-- ---- bytes

-- the bytes of a frame: its id in eight, client and serial in four each, the mark in one, all from the highest on, and the row's bytes
abbrev pub payload_of : Frame → List ℕ
payload_of f = to_be_bytes w64 f.id ++ (to_be_bytes w32 f.client ++ (to_be_bytes w32 f.serial ++ (f.mark ∷ f.bytes)))

-- the frame that 17 bytes or more are
abbrev pub frame_at : List ℕ → Frame
frame_at p = record {
  id = from_be_bytes w64 (take 8 p);
  client = from_be_bytes w32 (take 4 (drop 8 p));
  serial = from_be_bytes w32 (take 4 (drop 12 p));
  mark = slice_index p 16;
  bytes = drop 17 p;
}

-- the frame that bytes are, if they are one
abbrev pub frame_in : List ℕ → Option Frame
frame_in p = if nat_lt (length p) 17 then None else Some (frame_at p)

-- behind the two bytes of its length
abbrev pub framed : Frame → List ℕ
framed f = message_frame (payload_of f)

-- its numbers have the bytes that they are written in
pub record IsInRange (f : Frame) : Type 0 where
  pub id : f.id < 2 ^ 64
  pub client : f.client < 2 ^ 32
  pub serial : f.serial < 2 ^ 32
  pub size : length f.bytes ≤ 65518
