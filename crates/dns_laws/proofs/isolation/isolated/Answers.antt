use Rattle.dns_laws.proofs.AlikeBooks.{OneAnswer}
use Rattle.dns_laws.proofs.Isolating.{isolated_runs, isolated_answers}
use Rattle.dns_laws.proofs.isolation.isolated.Goals as goal

pub returns-clause-runs : goal.returns-clause-runs
returns-clause-runs g c access kept r events others a b later last outs sent =
    let one : OneAnswer = record { decided = c.owed_replies.ensures.decided; reply = c.owed_replies.ensures.one; stamp = c.one_stamp.ensures } in
    isolated_runs g.K.Keeper.keeper one access kept r events others a b later last outs sent

pub returns-clause-served : goal.returns-clause-served
returns-clause-served g c access kept r events others a b later last old new before after =
    let one : OneAnswer = record { decided = c.owed_replies.ensures.decided; reply = c.owed_replies.ensures.one; stamp = c.one_stamp.ensures } in
    isolated_answers g.K.Keeper.keeper one access kept r events others a b later last old new before after
