use Rattle.std.proofs.Common.{refl, sym}
use Rattle.std.proofs.lemmas.Result.{err_from_is_err_and}
use Rattle.dns_update_client.specs.Steps.{at_words, at_script, at_messages, at_submit}
use Rattle.dns_update_client.proofs.Submitted.{submitted}
use Rattle.dns_update_client.proofs.client.converse.Goals as goal

pub returns-in_default-clause-err : goal.returns-in_default-clause-err
returns-in_default-clause-err g c =
    at_words (rw c.as_slice.ensures.value at (sym c.in_default.ensures))
    refl refl refl

pub returns-in_err-script-clause-err : goal.returns-in_err-script-clause-err
returns-in_err-script-clause-err g c =
    let legal = rw c.as_slice.ensures.value at (sym c.in-Some.ensures) in
    let p = err_from_is_err_and c.from_residual.result c.from_residual.ensures.1 in
    rw (p.1, p.2) (at_script c.in-Some.settings legal c.in_err-script.ensures.err refl refl)

pub returns-in_default-messages-clause-err : goal.returns-in_default-messages-clause-err
returns-in_default-messages-clause-err g c =
    let legal = rw c.as_slice.ensures.value at (sym c.in-Some.ensures) in
    at_messages c.in-Some.settings c.in_ok-script.script legal c.in_ok-script.ensures.ok refl refl

pub returns-in_err-codes-clause-err : goal.returns-in_err-codes-clause-err
returns-in_err-codes-clause-err g c =
    let legal = rw c.as_slice.ensures.value at (sym c.in-Some.ensures) in
    let p = err_from_is_err_and c.from_residual-in_err-codes.result c.from_residual-in_err-codes.ensures.1 in
    let stops = rw c.in-Ok.ensures.meant at c.in_err-codes.ensures.err in
    rw (p.1, p.2) (at_submit c.in-Some.settings c.in_ok-script.script legal c.in_ok-script.ensures.ok (record {
      stopped = stops;
      read = c.in_err-codes.ensures.read.counts;
      written = c.in_err-codes.ensures.written.counts;
    }))

pub returns-clause-ok : goal.returns-clause-ok
returns-clause-ok g c =
    let kept = rw c.in-Ok.ensures.meant at c.in-Ok.ensures.kept in
    let plain = rw c.in-Ok.ensures.meant at c.in-Ok.ensures.plain in
    let answers = rw c.in-Ok.ensures.meant at c.in_ok-codes.ensures.ok in
    record {
      settings = c.in-Some.settings;
      sendings = c.in_ok-script.script;
      legal = rw c.as_slice.ensures.value at (sym c.in-Some.ensures);
      same = refl;
      read = c.in_ok-script.ensures.ok;
      submitted = submitted _ _ _ _ kept plain answers c.in_ok-codes.ensures.handed c.in_ok-codes.ensures.read.counts c.in_ok-codes.ensures.written.counts;
    }
