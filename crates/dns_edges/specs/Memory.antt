-- What the source, the sink and the clock in memory do at each call.
use Rattle.std.specs.Prelude.{◌≡◌, ℕ, min, Bool, nat_eq, List, [], ◌∷◌, ◌++◌, length, take, drop, Some, Result, Ok, Err, MatchBool, MatchResult}
use Rattle.std.specs.List.{list_any}
use Rattle.dns_io.specs.Told.{one_more}
use Rattle.dns_edges.specs.Edges.{SourceTold, SinkTold}
use Rattle.dns_io.specs.declared.io_fault.IoFault.{IoFault}
use Rattle.dns_io.specs.declared.io_fault.IoFault.TheVariants.{Failed, OutOfMemory}

-- whether the next call fails, after this number of calls, where those fail whose numbers, from 1, are listed
abbrev pub next_fails : List ℕ → ℕ → Bool
next_fails failing calls = list_any (λ number. nat_eq number (one_more calls)) failing

-- a source in memory: the bytes left, the most that one read gives, the numbers of the reads that fail, how many reads
-- there were, and how many of them failed
pub record SourceState : Type 0 where
  pub left : List ℕ
  pub step : ℕ
  pub failing_reads : List ℕ
  pub reads : ℕ
  pub faults : ℕ

-- the source after a read that failed
abbrev pub failed_read : SourceState → SourceState
failed_read s = record s { reads = one_more s.reads; faults = one_more s.faults }

-- the source after a read of this number of bytes
abbrev pub read_of : SourceState → ℕ → SourceState
read_of s count = record s { left = drop count s.left; reads = one_more s.reads }

-- how many bytes a read gives, by the length of its room
abbrev pub read_count : SourceState → ℕ → ℕ
read_count s room = min (min (length s.left) s.step) room

-- what it tells
abbrev pub source_told : SourceState → SourceTold
source_told s = record { left = Some s.left; faults = s.faults }

-- what a read gives and leaves, by the length of its room
abbrev pub ReadsNext : SourceState → ℕ → Result (List ℕ) IoFault → SourceState → Type 0
ReadsNext before room result after =
    MatchBool (next_fails before.failing_reads before.reads)
    ((result ≡ Err Failed) × (after ≡ failed_read before))
    ((result ≡ Ok (take (read_count before room) before.left)) × (after ≡ read_of before (read_count before room)))

-- a sink in memory: the bytes that it took, those of them that were flushed, the most that one write takes, the numbers
-- of the writes and of the flushes that fail, how many writes and how many flushes there were, how many of both failed, and how many
-- writes wanted memory
pub record SinkState : Type 0 where
  pub taken : List ℕ
  pub flushed : List ℕ
  pub step : ℕ
  pub failing_writes : List ℕ
  pub failing_flushes : List ℕ
  pub writes : ℕ
  pub flushes : ℕ
  pub faults : ℕ
  pub wants : ℕ

-- one that took nothing
abbrev pub empty_sink : ℕ → List ℕ → List ℕ → SinkState
empty_sink step failing_writes failing_flushes = record {
  taken = [];
  flushed = [];
  step = step;
  failing_writes = failing_writes;
  failing_flushes = failing_flushes;
  writes = 0;
  flushes = 0;
  faults = 0;
  wants = 0;
}

-- what it tells
abbrev pub sink_told : SinkState → SinkTold
sink_told s = record { taken = Some s.taken; flushed = Some s.flushed; faults = s.faults }

-- the sink after a write that failed
abbrev pub failed_write : SinkState → SinkState
failed_write s = record s { writes = one_more s.writes; faults = one_more s.faults }

-- the sink after a write that took these bytes
abbrev pub write_of : SinkState → List ℕ → SinkState
write_of s bytes = record s { taken = s.taken ++ bytes; writes = one_more s.writes }

-- the sink after a write that wanted memory
abbrev pub wanting_write : SinkState → SinkState
wanting_write s = record s { writes = one_more s.writes; wants = one_more s.wants }

-- what a write of these bytes answers, and leaves
abbrev pub WritesNext : SinkState → List ℕ → Result ℕ IoFault → SinkState → Type 0
WritesNext before bytes result after =
    MatchBool (next_fails before.failing_writes before.writes)
    ((result ≡ Err Failed) × (after ≡ failed_write before))
    (MatchResult result
    (λ count. (count ≡ min (length bytes) before.step) × (after ≡ write_of before (take count bytes)))
    (λ fault. (fault ≡ OutOfMemory) × (after ≡ wanting_write before)))

-- the sink after a flush that failed: what was flushed before stays so
abbrev pub failed_flush : SinkState → SinkState
failed_flush s = record s { flushes = one_more s.flushes; faults = one_more s.faults }

-- the sink after a flush: all that it took is flushed
abbrev pub flush_of : SinkState → SinkState
flush_of s = record s { flushed = s.taken; flushes = one_more s.flushes }

-- what a flush answers, and leaves
abbrev pub FlushesNext : SinkState → Result (Unit {0}) IoFault → SinkState → Type 0
FlushesNext before result after =
    MatchBool (next_fails before.failing_flushes before.flushes)
    ((result ≡ Err Failed) × (after ≡ failed_flush before))
    ((result ≡ Ok tt) × (after ≡ flush_of before))

-- a clock in memory: the readings to come, and the last one
pub record ClockState : Type 0 where
  pub coming : List ℕ
  pub last : ℕ

-- the clock after a reading with these readings to come
abbrev pub reading_from : List ℕ → ℕ → ClockState
reading_from [] last = record { coming = []; last = last }
reading_from (reading ∷ coming) last = record { coming = coming; last = reading }

-- the clock after a reading: the next one, or the last one again
abbrev pub next_reading : ClockState → ClockState
next_reading c = reading_from c.coming c.last

-- a reading, and the clock after it
abbrev pub IsNextReading : ClockState → ℕ → ClockState → Type 0
IsNextReading before reading after = (after ≡ next_reading before) × (reading ≡ after.last)
