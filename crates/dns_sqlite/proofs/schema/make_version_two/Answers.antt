use Rattle.std.proofs.Common.{[], refl, ◌∙◌}
use Rattle.dns_sqlite.specs.Versions.{version_rows, current_version, HasMade, IsVersionRows}
use Rattle.dns_sqlite.specs.Migration.{HasBatches, HasBatchTable}
use Rattle.dns_sqlite.proofs.Statements.{refused, follows}
use Rattle.dns_sqlite.proofs.schema.make_version_two.Goals as goal

pub returns-in_err-_made-clause-done : goal.returns-in_err-_made-clause-done
returns-in_err-_made-clause-done g c = refused g.S.Store _ _ _ _ _ _ _ c.from_residual.result c.from_residual.ensures.0 c.in_err-_made.ensures.done

pub returns-clause-done : goal.returns-clause-done
returns-clause-done g c =
    let batches = c.args.batches.now in
    follows g.S.Store IsVersionRows HasBatchTable (λ old. HasMade (HasBatches version_rows (old.now.trees 1) [])) (λ old. HasMade (HasBatches current_version (old.now.trees 1) batches)) (λ old. HasMade (HasBatches current_version (old.now.trees 1) batches)) _ _ _ _ _
    (λ it. record { schema = it.made.schema; version = it.made.version; rows = refl; put = it.made.put }) (λ it made. record { made = record { schema = made.made.schema; version = made.made.version; rows = made.made.rows ∙ it.made.rows; put = made.made.put }; sound = made.sound; mode = made.mode })
    c.in_ok-_made.ensures.done c.fill_batches.ensures.done
