-- Texts that are written one after another.
use Rattle.std.proofs.Common.{◌≡◌, ℕ, List, [], ◌++◌, Result, Ok, Err, OnOk, refl, sym, ap, ◌∙◌, append_assoc, append-nil, arith}
use Rattle.dns_io.specs.declared.io_fault.IoFault.{IoFault}
use Rattle.dns_io.specs.declared.io_fault.IoFault.TheVariants.{Failed, OutOfMemory}
use Rattle.std.specs.Result.{IsErrOf}
use Rattle.dns_io.specs.Told.{one_more, Grows, Keeps, IsHandedOn, WritesUpTo, BreaksOff}
use Rattle.dns_io.proofs.ToldContents.{Grows-nothing, Grows-more, Grows-Keeps, Grows-GrowsByPrefix}
use Rattle.dns_edges.specs.Edges.{Around, HasCause, SinkOf, SinkTold, Flushes, wanted}
use Rattle.dns_words.specs.Writing.{Writes, WritesWhole, WantedMemory, in_write, in_flush}

-- a sink before and after
abbrev pub sink_of : SinkTold → SinkTold → Around SinkTold
sink_of a b = record { before = a; after = b }

-- no call was made
pub Cause-nothing : {T : Type 0} (n : ℕ) → HasCause {T = T} n n (Err OutOfMemory)
Cause-nothing n = record { later = omega arith; counts = refl }

pub Cause-done : {T : Type 0} (n : ℕ) (value : T) → HasCause n n (Ok value)
Cause-done n value = record { later = omega arith; counts = refl }

-- the count stood still, and then a call was made
pub Cause-then : {T : Type 0} (n m k : ℕ) (r : Result T IoFault) → m ≡ n → HasCause m k r → HasCause n k r
Cause-then n m k r same cause = rw (sym same) cause

-- nothing was written for want of memory
pub Writes-nothing : (a : SinkTold) (text : List ℕ) → Writes (sink_of a a) text (Err OutOfMemory)
Writes-nothing a text = record {
  ok = tt;
  err = (text, record { front = []; parts = refl; grown = Grows-nothing a.taken });
  cause = Cause-nothing a.faults;
}

pub Writes-empty : (a : SinkTold) → Writes (sink_of a a) [] (Ok tt)
Writes-empty a = record { ok = Grows-nothing a.taken; err = tt; cause = Cause-done a.faults tt }

-- a text was not written to its end, nor was what was to follow
pub Writes-stop : (sink : Around SinkTold) (xs ys : List ℕ) (fault : IoFault) → Writes sink xs (Err fault) → Writes sink (xs ++ ys) (Err fault)
Writes-stop sink xs ys fault w = record {
  ok = tt;
  err = let e = w.err in (e.0 ++ ys, record { front = e.1.front; parts = ap (λ (z : List ℕ). z ++ ys) e.1.parts ∙ append_assoc e.1.front e.0 ys; grown = e.1.grown });
  cause = w.cause;
}

-- a text was written, and then another
pub Writes-then : (a b c : SinkTold) (xs ys : List ℕ) (r : Result (Unit {0}) IoFault)
    → Writes (sink_of a b) xs (Ok tt) → Writes (sink_of b c) ys r → Writes (sink_of a c) (xs ++ ys) r
Writes-then a b c xs ys (Ok done) first second = record {
  ok = Grows-more a.taken b.taken c.taken xs ys first.ok second.ok;
  err = tt;
  cause = Cause-then a.faults b.faults c.faults _ first.cause.counts second.cause;
}
Writes-then a b c xs ys (Err fault) first second = record {
  ok = tt;
  err = (second.err.0, Grows-GrowsByPrefix a.taken b.taken c.taken xs ys second.err.0 first.ok second.err.1);
  cause = Cause-then a.faults b.faults c.faults _ first.cause.counts second.cause;
}

-- a text was not written to its end, so nothing was handed on
pub Whole-stop : (sink : Around SinkTold) (text : List ℕ) (fault : IoFault) → Writes sink text (Err fault) → WritesWhole sink text (Err fault)
Whole-stop sink text fault w = record { written = w; flushed = tt }

-- a text was written, and handed on or not
pub Whole-flush : (a b c : SinkTold) (text : List ℕ) (r : Result (Unit {0}) IoFault) → Writes (sink_of a b) text (Ok tt)
    → Keeps b.taken c.taken → OnOk r (IsHandedOn c.taken c.flushed) → HasCause b.faults c.faults r → WritesWhole (sink_of a c) text r
Whole-flush a b c text (Ok done) first kept all cause = record {
  written = record {
    ok = Grows-Keeps a.taken b.taken c.taken text first.ok kept;
    err = tt;
    cause = Cause-then a.faults b.faults c.faults _ first.cause.counts cause;
  };
  flushed = all;
}
Whole-flush a b c text (Err fault) first kept all cause = record {
  written = record {
    ok = tt;
    err = ([], record { front = text; parts = sym (append-nil text); grown = Grows-Keeps a.taken b.taken c.taken text first.ok kept });
    cause = Cause-then a.faults b.faults c.faults _ first.cause.counts cause;
  };
  flushed = tt;
}

-- a write that broke off for want of memory wanted it
pub wanted_write : {O : Type 0} (sink : SinkOf O) (before : O) (text : List ℕ) (f : IoFault) (after : O) → BreaksOff sink.writes before text f after
    → sink.wants after ≡ wanted {T = Unit {0}} (sink.wants before) (Err f) → IsErrOf {T = Unit {0}} (Err f) OutOfMemory → WantedMemory sink before text after
wanted_write sink before text Failed after broke counts is = absurd cc
wanted_write sink before text OutOfMemory after broke counts is = record { counted = counts; cut = in_write broke }

-- and so did a flush, where the writes before it did not
pub wanted_flush : {O : Type 0} (sink : SinkOf O) (before between after : O) (text : List ℕ) (r : Result (Unit {0}) IoFault)
    → WritesUpTo sink.writes before text between [] → Grows (sink.told before).taken (sink.told between).taken text
    → sink.wants between ≡ sink.wants before → Flushes (sink.told between) (sink.told after) r → sink.wants after ≡ wanted (sink.wants between) r
    → IsErrOf r OutOfMemory → WantedMemory sink before text after
wanted_flush sink before between after text (Ok done) up grown none flushes counts is = absurd cc
wanted_flush sink before between after text (Err Failed) up grown none flushes counts is = absurd cc
wanted_flush sink before between after text (Err OutOfMemory) up grown none flushes counts is = record {
  counted = counts ∙ ap one_more none;
  cut = in_flush up flushes (Grows-Keeps _ _ _ _ grown flushes.kept);
}
