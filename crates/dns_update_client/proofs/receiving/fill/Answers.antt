use Rattle.std.proofs.Common.{◌≡◌, ◌+◌, ◌++◌, ◌∙◌, ℕ, List, length, take, drop, ap, arith}
use Rattle.std.proofs.Math.Seq.{take-add}
use Rattle.std.proofs.lemmas.List.{length-take-le}
use Rattle.std.proofs.lemmas.Result.{err_from_is_err_and}
use Rattle.dns_io.proofs.ToldContents.{Takes-Keeps, Takes-more}
use Rattle.dns_update_client.proofs.NotSent.{on-err}
use Rattle.dns_update_client.proofs.Causes.{read-err, read-then}
use Rattle.dns_update_client.proofs.receiving.fill.Goals as goal

pub returns-in_err-count-clause-part : goal.returns-in_err-count-clause-part
returns-in_err-count-clause-part g c =
    let size : length (take c.loop-filled.filled c.loop-filled.room) ≡ c.loop-filled.filled = length-take-le c.loop-filled.filled c.loop-filled.room c.loop-filled.invariant.within in
    on-err c.from_residual.result (
      take c.loop-filled.filled c.loop-filled.room,
      omega (arith, size, c.loop-filled.invariant.within, c.loop-filled.auto.room),
      Takes-Keeps _ _ _ _ c.loop-filled.invariant.taken c.in_err-count.ensures.kept,
    )

pub loop-filled-preserved : goal.loop-filled-preserved
loop-filled-preserved g c =
    let room = c.read_behind.new.room in
    let filled = c.loop-filled.filled in
    let count = c.in_ok-count.count in
    let all : take (filled + count) room ≡ take filled c.loop-filled.room ++ take count (drop filled room) =
    take-add filled count room ∙ ap (λ (l : List ℕ). l ++ take count (drop filled room)) c.in_ok-count.ensures.before in
    record {
      taken = rw all (Takes-more _ _ _ _ _ c.loop-filled.invariant.taken c.in_ok-count.ensures.given);
      within = c.in_ok-count.ensures.count;
      calm = c.in_ok-count.ensures.cause.counts ∙ c.loop-filled.invariant.calm;
    }

pub returns-in_err-count-clause-cause : goal.returns-in_err-count-clause-cause
returns-in_err-count-clause-cause g c =
    let p = err_from_is_err_and c.from_residual.result c.from_residual.ensures.1 in
    rw (p.1, p.2) (read-then _ _ _ _ c.loop-filled.invariant.calm (read-err _ _ _ c.in_err-count.ensures.cause))
