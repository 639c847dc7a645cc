use Rattle.std.proofs.Common.{◌≡◌, ◌+◌, ◌∷◌, ◌∙◌, ap, pos, length, arith, w64}
use Rattle.std.proofs.lemmas.Int.{to_z-of_z}
use Rattle.dns_sqlite.proofs.Statements.{refused_first}
use Rattle.dns_sqlite.proofs.Inserting.{follow_batch}
use Rattle.dns_sqlite.proofs.writes.insert_whole.Goals as goal

pub returns-in_err-id-clause-done : goal.returns-in_err-id-clause-done
returns-in_err-id-clause-done g c = refused_first g.S.Store _ _ _ _ _ _ _ c.from_residual.result c.from_residual.ensures.0 c.in_err-id.ensures.done

pub returns-clause-done : goal.returns-clause-done
returns-clause-done g c =
    let more : length c.args.more.now + 1 ≡ length (c.args.first.now ∷ c.args.more.now) = omega arith in
    follow_batch g.S.Store c.args.client c.args.serial c.args.stamp.now (c.args.first.now ∷ c.args.more.now) _ _ _ c.in_ok-id.id _ _ _ c.in_ok-id.ensures.done c.in_ok-id.ensures.named
    (to_z-of_z w64 c.in_ok-id.id c.in_ok-id.ensures.fits) (to_z-of_z w64 c.count_of-count.result c.count_of-count.ensures.fits ∙ c.count_of-count.ensures.count ∙ ap pos more) c.insert_run.ensures.done
