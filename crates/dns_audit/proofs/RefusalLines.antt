-- The line of a refusal, written or not.
use Rattle.std.proofs.Common.{◌≡◌, ℕ, List, true, Result, Ok, Err, refl, sym, ◌∙◌, subst}
use Rattle.std.specs.Result.{IsErrOf}
use Rattle.dns_io.specs.declared.io_fault.IoFault.{IoFault}
use Rattle.dns_io.specs.declared.io_fault.IoFault.TheVariants.{Failed, OutOfMemory}
use Rattle.dns_edges.specs.Edges.{Around, SinkOf, SinkTold}
use Rattle.dns_words.specs.Writing.{WritesWhole, WantedMemory}
use Rattle.dns_audit.specs.declared.status.AuditStatus.{AuditStatus}
use Rattle.dns_audit.specs.declared.status.AuditStatus.TheVariants as status
use Rattle.dns_audit.specs.Status.{refusal_line, has_line}
use Rattle.dns_audit.specs.Writing.{after_writing, EndsRefusing, by_line}

-- it was
pub refuses_by : (output : Around SinkTold) (meant s : AuditStatus) (text : List ℕ) (r : Result (Unit {0}) IoFault) → text ≡ refusal_line meant → has_line meant ≡ true → WritesWhole output text r
    → s ≡ after_writing meant r → EndsRefusing output meant s
refuses_by output meant s text r line some written is =
    by_line some (record { result = r; written = subst (λ (t : List ℕ). WritesWhole output t r) line written; status = is })

-- a line gives way to want of memory only where the output wanted it
wanting : (meant : AuditStatus) (r : Result (Unit {0}) IoFault) → has_line meant ≡ true → after_writing meant r ≡ status.OutOfMemory → IsErrOf r OutOfMemory
wanting meant (Ok done) some is = absurd (let none : has_line status.OutOfMemory ≡ true = rw is at some in cc)
wanting meant (Err Failed) some is = absurd cc
wanting meant (Err OutOfMemory) some is = refl

pub wanted_by : {O : Type 0} (sink : SinkOf O) (before after : O) (meant s : AuditStatus) (text : List ℕ) (r : Result (Unit {0}) IoFault) → text ≡ refusal_line meant → has_line meant ≡ true
    → s ≡ after_writing meant r → (IsErrOf r OutOfMemory → WantedMemory sink before text after) → s ≡ status.OutOfMemory → WantedMemory sink before (refusal_line meant) after
wanted_by sink before after meant s text r line some is wanted out =
    subst (λ (t : List ℕ). WantedMemory sink before t after) line (wanted (wanting meant r some (sym is ∙ out)))
