-- How serving a connection ends.
use Rattle.std.specs.Prelude.{◌≡◌, ◌⊎◌, ℕ, ◌+◌, ◌<◌, ◌≤◌, List, [], length, Option, IfSome, Result, Ok, Err}
use Rattle.dns_io.specs.declared.peer.Peer.{Peer}
use Rattle.dns_io.specs.declared.io_fault.IoFault.TheVariants as io
use Rattle.dns_io.specs.Told.{Keeps, Takes, Rose}
use Rattle.dns_edges.specs.Edges.{SourceOf, SinkOf, ClockOf}
use Rattle.dns_book.specs.declared.ask.Ask.{Ask}
use Rattle.dns_book.specs.declared.ask.Settled.{Settled}
use Rattle.dns_server_core.specs.Connections.{base, most_messages}
use Rattle.dns_requests.specs.declared.serve_fault.ServeFault.{ServeFault}
use Rattle.dns_requests.specs.declared.serve_fault.ServeFault.TheVariants.{Read, Write, Turns, TimedOut, OutOfMemory}
use Rattle.dns_edges.specs.Listening.{IsPiece, room}
use Rattle.dns_requests.specs.Arrivals.{Hears, heard, opened}
use Rattle.dns_requests.specs.Runs.{Answers, AnswersPartly, BreaksOff}

-- what a connection is served with
pub record Parts (H S W C : Type 0) : Type 0 where
  pub handler : H
  pub source : S
  pub sink : W
  pub clock : C

-- the other end, its limit, and how many reads there may be
pub record Terms : Type 0 where
  pub peer : Peer
  pub limit : ℕ
  pub reads : ℕ

-- nothing is left, where that is told
abbrev pub IsAtEnd : Option (List ℕ) → Type 0
IsAtEnd left = IfSome left (λ bytes. bytes ≡ [])

-- a count of faults, by how writing ended: it rose where a write failed, and stood still where it did not
abbrev pub CountsWriting : ℕ → ℕ → Result (Unit {0}) ServeFault → Type 0
CountsWriting before now (Ok done) = now ≡ before
CountsWriting before now (Err Write) = Rose before now
CountsWriting before now (Err OutOfMemory) = now ≡ before
CountsWriting before now (Err _) = ⊥

-- the meanings of a handler, a source, a sink and a clock
module _ {H S W C : Type 0} (serves : H → Ask → Settled → H → Type 0) (skips : H → H → Type 0) (source : SourceOf S)
    (sink : SinkOf W) (clock : ClockOf C)
    (terms : Terms) (before after : Parts H S W C) where
  -- what was read, up to a source and a clock
  abbrev pub HearsUpTo : S → C → Type 0
  HearsUpTo heard ticked = Hears source clock terms.peer terms.limit before.source before.clock heard ticked

  -- all messages of what was read were settled, and the bytes of their replies taken
  abbrev pub AnswersAll : List Ask → Type 0
  AnswersAll asks = Answers serves before.handler asks after.handler (sink.told before.sink).taken (sink.told after.sink).taken

  -- no read failed, and no write
  abbrev pub IsSourceCalm : Type 0
  IsSourceCalm = (source.told after.source).faults ≡ (source.told before.source).faults

  abbrev pub IsSinkCalm : Type 0
  IsSinkCalm = (sink.told after.sink).faults ≡ (sink.told before.sink).faults

  -- what one more read leaves, which took nothing
  abbrev pub TakesNone : S → Type 0
  TakesNone heard = Keeps (source.told heard).left (source.told after.source).left

  -- it may have more messages behind these
  abbrev pub MayGoOn : List Ask → Type 0
  MayGoOn asks = length asks < most_messages

  -- so many reads were made, and one more, which found the source at its end
  pub record ComesToItsEnd (heard : S) (made : ℕ) : Type 0 where
    pub within : made < terms.reads
    pub ended : source.reads heard room (Ok []) after.source
    pub kept : TakesNone heard
    pub end : IsAtEnd (source.told after.source).left

  -- so many reads were made, and no more
  pub record ReadsNoMore (heard : S) (made : ℕ) : Type 0 where
    pub within : made ≤ terms.reads
    pub same : after.source ≡ heard

  -- why n messages are all: the source came to its end, or these are as many as a connection may have
  abbrev pub AreAll : ℕ → S → ℕ → Type 0
  AreAll n heard made = ((n < most_messages) × ComesToItsEnd heard made) ⊎ ((n ≡ most_messages) × ReadsNoMore heard made)

  -- n messages were settled, and these were all
  pub record IsServed (n : ℕ) : Type 0 where
    pub source_heard : S
    pub hears : HearsUpTo source_heard after.clock
    pub all : AreAll n source_heard (length hears.arrivals)
    pub answers : AnswersAll (heard hears)
    pub count : n ≡ length (heard hears)
    pub source_calm : IsSourceCalm
    pub sink_calm : IsSinkCalm

  -- a read failed
  pub record FailsReading : Type 0 where
    pub source_heard : S
    pub hears : HearsUpTo source_heard after.clock
    pub within : length hears.arrivals < terms.reads
    pub more : MayGoOn (heard hears)
    pub failed : source.reads source_heard room (Err io.Failed) after.source
    pub kept : TakesNone source_heard
    pub answers : AnswersAll (heard hears)
    pub rose : Rose (source.told before.source).faults (source.told after.source).faults
    pub sink_calm : IsSinkCalm

  -- a write failed, behind all steps of the reads before it
  pub record FailsWriting : Type 0 where
    pub hears : HearsUpTo after.source after.clock
    pub within : length hears.arrivals ≤ terms.reads
    pub answers : AnswersPartly serves before.handler (heard hears) after.handler (sink.told before.sink).taken (sink.told after.sink).taken
    pub rose : Rose (sink.told before.sink).faults (sink.told after.sink).faults
    pub source_calm : IsSourceCalm

  -- there were as many reads as there may be, none of them was the end, and none brought the last message that a connection may have
  pub record IsCutOff (n : ℕ) : Type 0 where
    pub hears : HearsUpTo after.source after.clock
    pub all : length hears.arrivals ≡ terms.reads
    pub more : MayGoOn (heard hears)
    pub answers : AnswersAll (heard hears)
    pub count : n ≡ terms.reads
    pub source_calm : IsSourceCalm
    pub sink_calm : IsSinkCalm

  -- a read came late, and its bytes were dropped
  pub record IsLate (since limit at : ℕ) : Type 0 where
    pub source_heard : S
    pub clock_ticked : C
    pub hears : HearsUpTo source_heard clock_ticked
    pub within : length hears.arrivals < terms.reads
    pub more : MayGoOn (heard hears)
    pub piece : List ℕ
    pub is_piece : IsPiece piece
    pub made : source.reads source_heard room (Ok piece) after.source
    pub dropped : Takes (source.told source_heard).left (source.told after.source).left piece
    pub reading : clock.ticks clock_ticked at after.clock
    pub since_is : since ≡ base (opened terms.peer terms.limit hears.began) hears.arrivals (length hears.arrivals)
    pub limit_is : limit ≡ terms.limit
    pub limited : 0 < limit
    pub late : since + limit < at
    pub answers : AnswersAll (heard hears)
    pub source_calm : IsSourceCalm
    pub sink_calm : IsSinkCalm

  -- memory ran out: for a read, or among the messages of what was read, or for their replies
  pub record WantsMemory : Type 0 where
    pub source_heard : S
    pub hears : HearsUpTo source_heard after.clock
    pub within : length hears.arrivals ≤ terms.reads
    pub refused : (after.source ≡ source_heard) ⊎ source.reads source_heard room (Err io.OutOfMemory) after.source
    pub kept : TakesNone source_heard
    pub answers : BreaksOff serves skips before.handler (heard hears) after.handler
        (sink.told before.sink).taken (sink.told after.sink).taken
    pub source_calm : IsSourceCalm
    pub sink_calm : IsSinkCalm

  -- how serving ends, by its answer
  abbrev pub Ends : Result ℕ ServeFault → Type 0
  Ends (Ok n) = IsServed n
  Ends (Err Read) = FailsReading
  Ends (Err Write) = FailsWriting
  Ends (Err (Turns n)) = IsCutOff n
  Ends (Err (TimedOut since limit at)) = IsLate since limit at
  Ends (Err OutOfMemory) = WantsMemory
