use Rattle.std.proofs.Common.{◌≡◌, ◌∙◌, ℕ, List, w64, string_bytes, subst}
use Rattle.std.proofs.lemmas.Result.{err_from_is_err_and}
use Rattle.std.proofs.lemmas.Int.{to_z-of_z}
use Rattle.dns_edges.specs.Edges.{around}
use Rattle.dns_store.specs.RecoveryText.{recovery_line}
use Rattle.dns_words.specs.Writing.{WritesWhole}
use Rattle.dns_words.proofs.TextsWritten.{Writes-nothing, Whole-stop}
use Rattle.dns_follow.proofs.output.put_recovery.Goals as goal

pub returns-in_err-line : goal.returns-in_err-line
returns-in_err-line g c =
    let p = err_from_is_err_and c.from_residual.result c.from_residual.ensures.1 in
    rw (p.1, p.2) (Whole-stop _ _ _ (Writes-nothing _ _))

pub returns : goal.returns
returns g c =
    let line : string_bytes c.in_ok-line.line ≡ recovery_line c.args.row c.args.kind = rw (to_z-of_z w64 c.args.row c.ranges.row) at c.in_ok-line.ensures in
    let text : c.as_str.result.now ≡ recovery_line c.args.row c.args.kind = c.as_str.ensures.value ∙ line in
    subst (λ (t : List ℕ). WritesWhole (around g.W.Sink.sink.told c.args.out.now c.put_text.new.out) t c.put_text.result) text c.put_text.ensures
