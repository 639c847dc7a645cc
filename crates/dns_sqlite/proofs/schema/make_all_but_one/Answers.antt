use Rattle.std.proofs.Common.{[], ◌∙◌}
use Rattle.dns_sqlite.specs.Versions.{current_version, HasMade, IsVersionAlone, HasNoRows, IsVersionRows}
use Rattle.dns_sqlite.specs.Migration.{HasBatches}
use Rattle.dns_sqlite.proofs.Statements.{refused, follows}
use Rattle.dns_sqlite.proofs.schema.make_all_but_one.Goals as goal

pub returns-in_err-_made-clause-done : goal.returns-in_err-_made-clause-done
returns-in_err-_made-clause-done g c = refused g.S.Store _ _ _ _ _ _ _ c.from_residual.result c.from_residual.ensures.0 c.in_err-_made.ensures.done

pub returns-clause-done : goal.returns-clause-done
returns-clause-done g c =
    let batches = c.args.batches.now in
    follows g.S.Store IsVersionAlone IsVersionRows (λ _. HasMade HasNoRows) (λ old. HasMade (HasBatches current_version (old.now.trees 1) batches)) (λ _. HasMade (HasBatches current_version [] batches)) _ _ _ _ _
    (λ it. (it.made.0, it.made.1)) (λ it made. record { made = record { schema = made.made.schema; version = made.made.version; rows = made.made.rows ∙ it.made.2; put = made.made.put }; sound = made.sound; mode = made.mode })
    c.in_ok-_made.ensures.done c.make_version_two.ensures.done
