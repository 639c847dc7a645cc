use Rattle.dns_sqlite.specs.Versions.{HasMade, IsVersionAlone, HasRowTable, HasNoRows}
use Rattle.dns_sqlite.proofs.Statements.{refused, follows}
use Rattle.dns_sqlite.proofs.schema.make_version_one.Goals as goal

pub returns-in_err-_made-clause-done : goal.returns-in_err-_made-clause-done
returns-in_err-_made-clause-done g c = refused g.S.Store _ _ _ _ _ _ _ c.from_residual.result c.from_residual.ensures.0 c.in_err-_made.ensures.done

pub returns-clause-done : goal.returns-clause-done
returns-clause-done g c =
    follows g.S.Store IsVersionAlone HasRowTable (λ _. HasMade HasRowTable) (λ _. HasMade HasNoRows) (λ _. HasMade HasNoRows) _ _ _ _ _ (λ it. it.made) (λ _ made. made) c.in_ok-_made.ensures.done c.raise_to_one.ensures.done
