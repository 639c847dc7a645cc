use Rattle.dns_follow.proofs.Answered.{one_answer, stored_failed}
use Rattle.dns_follow.proofs.laws.one_answer.Goals as goal

pub returns-clause-same : goal.returns-clause-same
returns-clause-same c = λ origin s t u payload m n a b rows told. one_answer origin s rows told payload m n t u a b

pub returns-clause-failed : goal.returns-clause-failed
returns-clause-failed c = λ origin s t u payload m n b rows told. stored_failed origin s rows told payload m n t u b
