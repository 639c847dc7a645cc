-- How the program ends, by what its parts did.
use Rattle.std.proofs.Common.{ℕ, List, Result, Ok, Err, refl, sym, subst}
use Rattle.dns_io.specs.declared.io_fault.IoFault.{IoFault}
use Rattle.dns_io.specs.declared.io_fault.IoFault.TheVariants.{Failed, OutOfMemory}
use Rattle.dns_words.specs.Writing.{WritesWhole, IsWritten}
use Rattle.dns_update_client.specs.declared.status.UpdateStatus.{UpdateStatus}
use Rattle.dns_update_client.specs.declared.status.UpdateStatus.TheVariants as status
use Rattle.dns_update_client.specs.Lines.{code_lines}
use Rattle.dns_update_client.specs.Status.{refusal_line}
use Rattle.dns_update_client.specs.World.{World}
use Rattle.dns_update_client.specs.Steps.{Converses}
use Rattle.dns_update_client.specs.Ends.{IsAnswered, Refuses, TookFront, IsCut, in_refusal, in_lines, Ends, with_lines, with_refusal, without_line, with_write_fault, cut_for_memory}
use Rattle.dns_update_client.specs.Writing.{after_writing, EndsWriting, EndsRefusing, silent, by_line}

-- a text was written, or was not written to its end
whole : (w : World) (text : List ℕ) (meant : UpdateStatus) (result : Result (Unit {0}) IoFault)
    → (IsWritten w.out text → Ends w meant) → (TookFront w text → IsCut w) → WritesWhole w.out text result → Ends w (after_writing meant result)
whole w text meant (Ok done) good cut v = good (record { taken = v.written.ok; flushed = v.flushed; faults = v.written.cause.counts })
whole w text meant (Err Failed) good cut v = with_write_fault v.written.cause.counts (cut v.written.err)
whole w text meant (Err OutOfMemory) good cut v = cut_for_memory (cut v.written.err)

-- a refusal
pub refused : (w : World) (s t : UpdateStatus) → Refuses w s → EndsRefusing w.out s t → Ends w t
refused w s t r (silent none is u) = subst (λ (x : UpdateStatus). Ends w x) (sym is) (without_line none r u)
refused w s t r (by_line some e) = subst (λ (x : UpdateStatus). Ends w x) (sym e.status) (whole w (refusal_line s) s e.result (with_refusal some r) (in_refusal s some r) e.written)

-- the lines of the replies
pub answered : (w : World) (first_id : ℕ) (codes : List ℕ) (t : UpdateStatus) → Converses w.words w.script w.input w.output first_id codes
    → EndsWriting w.out (code_lines first_id codes) status.Ok t → Ends w t
answered w first_id codes t conversed e =
    let is : IsAnswered w (code_lines first_id codes) = record { first_id = first_id; codes = codes; conversed = conversed; text = refl } in
    subst (λ (x : UpdateStatus). Ends w x) (sym e.status) (whole w (code_lines first_id codes) status.Ok e.result (with_lines (code_lines first_id codes) is) (in_lines (code_lines first_id codes) is) e.written)
