use Rattle.std.proofs.Common.{[], sym}
use Rattle.std.proofs.lemmas.List.{append-nil}
use Rattle.dns_io.proofs.ToldContents.{Grows-Keeps}
use Rattle.dns_words.proofs.TextsWritten.{Cause-then}
use Rattle.dns_update_client.proofs.NotSent.{on-err}
use Rattle.dns_update_client.proofs.sending.write_and_flush.Goals as goal

pub returns-clause-err : goal.returns-clause-err
returns-clause-err g c =
    on-err c.flush.result (c.args.bytes.now, [], sym (append-nil c.args.bytes.now), Grows-Keeps _ _ _ _ c.in_ok-write_all.ensures.ok c.flush.ensures.told.kept)

pub returns-clause-cause : goal.returns-clause-cause
returns-clause-cause g c = Cause-then _ _ _ _ c.in_ok-write_all.ensures.cause.counts c.flush.ensures.told.cause
