-- What was done to objects that were handed in, and writing texts.
use Rattle.std.specs.Prelude.{◌≡◌, ℕ, List, [], Option, Some, None, Result, Ok, Err, OnOk, OnErr}
use Rattle.dns_io.specs.Told.{one_more, Grows, GrowsByPrefix, IsHandedOn, WritesUpTo, BreaksOff}
use Rattle.dns_io.specs.declared.io_fault.IoFault.{IoFault}
use Rattle.dns_io.specs.declared.io_fault.IoFault.TheVariants.{Failed, OutOfMemory}
use Rattle.dns_edges.specs.Edges.{Around, HasCause, SinkOf, SinkTold, Flushes, ClockOf}

-- an object was not used: it tells what it told
abbrev pub IsUntouched : {T : Type 0} → Around T → Type 0
IsUntouched object = object.after ≡ object.before

-- the clock was asked once, and this was its reading; or it was not asked
abbrev pub IsAsked : {C : Type 0} → ClockOf C → C → C → Option ℕ → Type 0
IsAsked clock before after None = after ≡ before
IsAsked clock before after (Some moment) = clock.ticks before moment after × (moment ≡ clock.last after)

-- the output took this text, handed on all that it took, and no call of it failed
pub record IsWritten (output : Around SinkTold) (text : List ℕ) : Type 0 where
  pub taken : Grows output.before.taken output.after.taken text
  pub flushed : IsHandedOn output.after.taken output.after.flushed
  pub faults : output.after.faults ≡ output.before.faults

-- writing a text: on Ok all of it was taken, after an error a front of it; the count of faults rose where the answer is `Failed`, and
-- stood still where it is Ok or want of memory
pub record Writes (output : Around SinkTold) (text : List ℕ) (result : Result (Unit {0}) IoFault) : Type 0 where
  pub ok : OnOk result (Grows output.before.taken output.after.taken text)
  pub err : OnErr result ((rest : List ℕ) × GrowsByPrefix output.before.taken output.after.taken text rest)
  pub cause : HasCause output.before.faults output.after.faults result

-- writing a text that is the whole output: on Ok all that was taken was handed on, too
pub record WritesWhole (output : Around SinkTold) (text : List ℕ) (result : Result (Unit {0}) IoFault) : Type 0 where
  pub written : Writes output text result
  pub flushed : OnOk result (IsHandedOn output.after.taken output.after.flushed)

-- how a text was cut by a sink for want of memory: a write that was handed all bytes of it that were not taken yet wanted memory; or its
-- writes took it whole, and the flush behind them wanted memory
pub data CutForMemory {S : Type 0} (sink : SinkOf S) (before : S) (text : List ℕ) (after : S) : Type 0 where
  in_write : BreaksOff sink.writes before text OutOfMemory after → CutForMemory sink before text after
  in_flush : {between : S} → WritesUpTo sink.writes before text between [] → Flushes (sink.told between) (sink.told after) (Err OutOfMemory)
      → Grows (sink.told before).taken (sink.told after).taken text → CutForMemory sink before text after

-- a text was cut by a sink for want of memory, and the sink tells it: one of its calls more wanted memory than before. It tells that of
-- whatever it writes to, standard output too
pub record WantedMemory {S : Type 0} (sink : SinkOf S) (before : S) (text : List ℕ) (after : S) : Type 0 where
  pub counted : sink.wants after ≡ one_more (sink.wants before)
  pub cut : CutForMemory sink before text after

-- the status that was meant, where a text was written to its end; else that of a failed output, or that of want of memory
abbrev pub ended : {S : Type 0} → S → S → S → Result (Unit {0}) IoFault → S
ended meant failed wanting (Ok done) = meant
ended meant failed wanting (Err Failed) = failed
ended meant failed wanting (Err OutOfMemory) = wanting
