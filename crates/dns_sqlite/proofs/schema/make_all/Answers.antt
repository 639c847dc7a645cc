use Rattle.std.proofs.Common.{[]}
use Rattle.dns_sqlite.specs.Tables.{empty_schema}
use Rattle.dns_sqlite.specs.Statements.{HasSchema}
use Rattle.dns_sqlite.specs.Versions.{current_version, HasMade, IsVersionAlone}
use Rattle.dns_sqlite.specs.Migration.{HasBatches}
use Rattle.dns_sqlite.proofs.Statements.{refused, follows}
use Rattle.dns_sqlite.proofs.schema.make_all.Goals as goal

pub returns-in_err-_made-clause-done : goal.returns-in_err-_made-clause-done
returns-in_err-_made-clause-done g c = refused g.S.Store _ _ _ _ _ _ _ c.from_residual.result c.from_residual.ensures.0 c.in_err-_made.ensures.done

pub returns-clause-done : goal.returns-clause-done
returns-clause-done g c =
    let batches = c.args.batches.now in
    follows g.S.Store (HasSchema empty_schema) IsVersionAlone (λ _. HasMade IsVersionAlone) (λ _. HasMade (HasBatches current_version [] batches)) (λ _. HasMade (HasBatches current_version [] batches)) _ _ _ _ _
    (λ it. it.made) (λ _ made. made) c.in_ok-_made.ensures.done c.make_all_but_one.ensures.done
