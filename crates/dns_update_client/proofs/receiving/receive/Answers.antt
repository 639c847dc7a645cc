use Rattle.std.proofs.Common.{◌≡◌, ◌<◌, ◌∙◌, length, arith}
use Rattle.std.proofs.lemmas.Result.{err_from_is_err_and}
use Rattle.dns_update_client.proofs.Pieces.{broke-in-length, ends-in-length, broke-in-message, ends-in-message, whole-message}
use Rattle.dns_update_client.proofs.Causes.{read-done, read-ended, read-err, read-then}
use Rattle.dns_update_client.proofs.receiving.receive.Goals as goal

pub returns-in_err-prefix-clause-err : goal.returns-in_err-prefix-clause-err
returns-in_err-prefix-clause-err g c =
    let p = err_from_is_err_and c.from_residual.result c.from_residual.ensures.1 in
    rw (p.1, p.2) (broke-in-length c.in_err-prefix.field-0.0 c.args.number _ _ c.in_err-prefix.ensures.kind c.in_err-prefix.ensures.part)

pub returns-in_default-clause-err : goal.returns-in_default-clause-err
returns-in_default-clause-err g c = ends-in-length c.args.number c.in_ok-prefix.prefix.items _ _ c.in_ok-prefix.ensures.given (rw (← c.as_slice.ensures.value) c.in_default.ensures.short)

pub returns-in-Err-clause-err : goal.returns-in-Err-clause-err
returns-in-Err-clause-err g c =
    broke-in-message c.in-Err.fault c.args.number c.in_ok-prefix.prefix.items _ _ _ c.in-Err.ensures.kind (rw c.as_slice.ensures.value at c.in-Some.ensures.two) c.in_ok-prefix.ensures.given
    (rw (rw c.as_slice.ensures.value at c.in-Some.ensures.said) at c.in-Err.ensures.part)

pub returns-then-len-count-clause-err : goal.returns-then-len-count-clause-err
returns-then-len-count-clause-err g c =
    let said = rw c.as_slice.ensures.value at c.in-Some.ensures.said in
    let short : length c.in-Ok.bytes.items < c.in-Some.count = omega (arith, c.if-len-count.true, c.len.ensures, c.in-Ok.bytes.ok) in
    ends-in-message c.args.number c.in_ok-prefix.prefix.items c.in-Ok.bytes.items _ _ _ (rw c.as_slice.ensures.value at c.in-Some.ensures.two) c.in_ok-prefix.ensures.given (rw said at c.in-Ok.ensures.given) (rw said at short)

pub returns-clause-ok : goal.returns-clause-ok
returns-clause-ok g c =
    let said = rw c.as_slice.ensures.value at c.in-Some.ensures.said in
    let whole : length c.in-Ok.bytes.items ≡ c.in-Some.count = omega (arith, c.if-len-count.false, c.len.ensures, c.in-Ok.bytes.ok, c.in-Ok.ensures.within) in
    whole-message c.in_ok-prefix.prefix.items c.in-Ok.bytes.items _ _ _ (rw c.as_slice.ensures.value at c.said_length.ensures.fits) (rw c.as_slice.ensures.value at c.in-Some.ensures.two) c.in_ok-prefix.ensures.given
    (rw said at c.in-Ok.ensures.given) (whole ∙ said)

pub returns-in_err-prefix-clause-cause : goal.returns-in_err-prefix-clause-cause
returns-in_err-prefix-clause-cause g c =
    let p = err_from_is_err_and c.from_residual.result c.from_residual.ensures.1 in
    rw (p.1, p.2) (read-err _ _ _ c.in_err-prefix.ensures.cause)

pub returns-in_default-clause-cause : goal.returns-in_default-clause-cause
returns-in_default-clause-cause g c = read-ended _ _ c.args.number c.in_ok-prefix.ensures.cause.counts

pub returns-in-Err-clause-cause : goal.returns-in-Err-clause-cause
returns-in-Err-clause-cause g c = read-then _ _ _ _ c.in_ok-prefix.ensures.cause.counts c.in-Err.ensures.cause

pub returns-then-len-count-clause-cause : goal.returns-then-len-count-clause-cause
returns-then-len-count-clause-cause g c = read-ended _ _ c.args.number (c.in-Ok.ensures.cause.counts ∙ c.in_ok-prefix.ensures.cause.counts)

pub returns-clause-cause : goal.returns-clause-cause
returns-clause-cause g c = read-done _ _ c.in-Ok.bytes (c.in-Ok.ensures.cause.counts ∙ c.in_ok-prefix.ensures.cause.counts)
