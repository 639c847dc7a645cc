use Rattle.std.proofs.lemmas.Result.{err_from_is_err_and}
use Rattle.dns_words.proofs.TextsWritten.{Writes-stop, Writes-then}
use Rattle.dns_audit.proofs.printing.put_zone_lines.Goals as goal

pub returns-in_err-write : goal.returns-in_err-write
returns-in_err-write g c =
    let p = err_from_is_err_and c.from_residual.result c.from_residual.ensures.1 in
    rw (p.1, p.2) (Writes-stop _ _ _ _ c.in_err-write.ensures.written)

pub returns : goal.returns
returns g c = Writes-then _ _ _ _ _ _ c.in_ok-write.ensures.written c.put_length.ensures
