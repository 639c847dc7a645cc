-- The line of a refusal, written or not.
use Rattle.std.proofs.Common.{◌≡◌, ℕ, List, true, false, Result, Ok, Err, refl, sym, ap, ◌∙◌, subst}
use Rattle.std.specs.Result.{IsErrOf}
use Rattle.dns_io.specs.declared.io_fault.IoFault.{IoFault}
use Rattle.dns_io.specs.declared.io_fault.IoFault.TheVariants.{Failed, OutOfMemory}
use Rattle.dns_edges.specs.Edges.{Around, SinkOf, SinkTold, around}
use Rattle.dns_words.specs.Writing.{WritesWhole, WantedMemory}
use Rattle.dns_command.specs.declared.status.Status.{Status}
use Rattle.dns_command.specs.declared.status.Status.TheVariants as status
use Rattle.dns_command.specs.Status.{refusal_line, is_fault, is_want}
use Rattle.dns_command.specs.Writing.{after_writing, EndsRefusing, by_line}

never : true ≡ false → ⊥
never h = cc

-- a line gives way to want of memory only where writing it wanted memory
wanting : (meant : Status) (r : Result (Unit {0}) IoFault) → is_want meant ≡ false → after_writing meant r ≡ status.OutOfMemory → IsErrOf r OutOfMemory
wanting meant (Ok done) told is = absurd (never (sym (ap is_want is) ∙ told))
wanting meant (Err Failed) told is = absurd cc
wanting meant (Err OutOfMemory) told is = refl

calm_told : (meant : Status) → is_fault meant ≡ true → is_want meant ≡ false
calm_told status.Ok fault = refl
calm_told status.Usage fault = refl
calm_told (status.ZoneText line kind) fault = refl
calm_told (status.EventLine line) fault = refl
calm_told status.NotValid fault = refl
calm_told (status.Recovery row kind) fault = refl
calm_told status.ReadFault fault = refl
calm_told status.WriteFault fault = refl
calm_told status.KeeperFault fault = refl
calm_told status.TooLong fault = refl
calm_told status.OutOfMemory fault = absurd (never (sym fault))
calm_told status.PortFault fault = refl

-- the line of a fault takes no memory
pub refuses_fault : {O : Type 0} (sink : SinkOf O) (before after : O) (meant s : Status) (text : List ℕ) (r : Result (Unit {0}) IoFault) → text ≡ refusal_line meant → is_fault meant ≡ true
    → WritesWhole (around sink.told before after) text r → (IsErrOf r OutOfMemory → WantedMemory sink before text after) → s ≡ after_writing meant r
    → EndsRefusing (around sink.told before after) (λ t. WantedMemory sink before t after) meant s
refuses_fault sink before after meant s text r line fault written wanted is =
    let told = calm_told meant fault in
    by_line (λ want. never (sym (ap is_want want) ∙ told)) (record { result = r; written = subst (λ (t : List ℕ). WritesWhole (around sink.told before after) t r) line written; status = is })
    (λ faulty out. subst (λ (t : List ℕ). WantedMemory sink before t after) line (wanted (wanting meant r told (sym is ∙ out))))

-- any other line may take some
pub refuses_by_line : (output : Around SinkTold) (wants : List ℕ → Type 0) (meant s : Status) (r : Result (Unit {0}) IoFault) → is_fault meant ≡ false → is_want meant ≡ false
    → WritesWhole output (refusal_line meant) r → s ≡ after_writing meant r → EndsRefusing output wants meant s
refuses_by_line output wants meant s r calm told written is =
    by_line (λ want. never (sym (ap is_want want) ∙ told)) (record { result = r; written = written; status = is }) (λ fault out. absurd (never (sym fault ∙ calm)))
