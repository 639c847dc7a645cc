-- How serving ends, whoever serves, by what was written.
use Rattle.std.proofs.Common.{◌≡◌, ℕ, List, true, Some, Option, None, IfSome, Result, Ok, Err, refl, sym, subst, ◌∙◌}
use Rattle.dns_io.specs.declared.io_fault.IoFault.{IoFault}
use Rattle.dns_io.specs.declared.io_fault.IoFault.TheVariants.{Failed, OutOfMemory}
use Rattle.dns_command.specs.declared.status.Status.{Status}
use Rattle.dns_command.specs.declared.status.Status.TheVariants as status
use Rattle.dns_command.specs.Status.{refusal_line, is_fault}
use Rattle.dns_words.specs.Writing.{IsWritten}
use Rattle.dns_command.specs.World.{World}
use Rattle.dns_command.specs.Ends.{TookFront}
use Rattle.dns_words.specs.Writing.{WritesWhole}
use Rattle.dns_command.specs.Writing.{after_writing, EndsWriting, EndsRefusing, silent, by_line}
use Rattle.dns_command.specs.ServingEnds.{IsCutOf, IsCutOfWanted, in_refusal, in_closing, ServingEnds, with_closing, with_refusal, with_write_fault, cut_for_memory, refused_for_memory}
use Rattle.dns_command.specs.Counts.{ComesOf, cut_by_fault, cut_for_memory as cut_for_want}

module _ (w : World) (IsServed : List ℕ → Type 0) (IsRefused : Status → Type 0) where
  abbrev Told : Status → Type 0
  Told s = ServingEnds w IsServed IsRefused s

  -- a text was written, or was not written to its end
  whole : (text : List ℕ) (meant : Status) (result : Result (Unit {0}) IoFault)
      → (IsWritten w.output text → Told meant) → (cut : TookFront w text → IsCutOf w IsServed IsRefused)
      → ((took : TookFront w text) → after_writing meant result ≡ status.OutOfMemory → IsCutOfWanted w IsServed IsRefused (cut took)) → WritesWhole w.output text result → Told (after_writing meant result)
  whole text meant (Ok done) good cut wanted v = good (record { taken = v.written.ok; flushed = v.flushed; faults = v.written.cause.counts })
  whole text meant (Err Failed) good cut wanted v = with_write_fault v.written.cause.counts (cut v.written.err)
  whole text meant (Err OutOfMemory) good cut wanted v = cut_for_memory v.written.cause.counts (cut v.written.err) (wanted v.written.err refl)

  -- a refusal
  pub refused : (s t : Status) → IsRefused s → EndsRefusing w.output w.wants s t → Told t
  refused s t r (silent m is u) = subst (λ (x : Status). Told x) (sym is) (refused_for_memory (subst (λ (x : Status). IsRefused x) m r) u)
  refused s t r (by_line ne e wanted) =
      subst (λ (x : Status). Told x) (sym e.status) (whole (refusal_line s) s e.result (with_refusal ne r) (in_refusal s ne r) (λ took out fault. wanted fault (e.status ∙ out)) e.written)

  -- by what a fault gives way to a status where a line was cut
  abbrev pub GivesWay : Status → IsCutOf w IsServed IsRefused → Type 0
  GivesWay t (in_refusal s some refuses took) = is_fault s ≡ true → ComesOf w s t
  GivesWay t (in_closing text serves took) = Unit {0}

  pub gives_way_by_fault : (cut : IsCutOf w IsServed IsRefused) → GivesWay status.WriteFault cut
  gives_way_by_fault (in_refusal s some refuses took) = λ fault. cut_by_fault took
  gives_way_by_fault (in_closing text serves took) = tt

  pub gives_way_by_want : (cut : IsCutOf w IsServed IsRefused) → IsCutOfWanted w IsServed IsRefused cut → GivesWay status.OutOfMemory cut
  gives_way_by_want (in_refusal s some refuses took) wanted = λ fault. cut_for_want took (wanted fault)
  gives_way_by_want (in_closing text serves took) wanted = tt

  -- the closing lines
  pub closing : (text : List ℕ) (t : Status) → IsServed text → EndsWriting w.output text status.Ok t → Told t
  closing text t a e = subst (λ (x : Status). Told x) (sym e.status) (whole text status.Ok e.result (with_closing text a) (in_closing text a) (λ took out. tt) e.written)

-- what holds of what is left follows from what was said of it
pub if_some : {K : Type 0} (o : Option K) (P Q : K → Type 0) → IfSome o P → ((k : K) → P k → Q k) → IfSome o Q
if_some None P Q p f = tt
if_some (Some k) P Q p f = f k p
