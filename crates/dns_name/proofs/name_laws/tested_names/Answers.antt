use Rattle.dns_name.proofs.SameNames.{is_same_name-Decides, is_at_or_below-Decides, is_strictly_below-Decides}
use Rattle.dns_name.proofs.name_laws.tested_names.Goals as goal

pub returns-clause-same : goal.returns-clause-same
returns-clause-same c = is_same_name-Decides

pub returns-clause-below : goal.returns-clause-below
returns-clause-below c = is_at_or_below-Decides

pub returns-clause-strictly : goal.returns-clause-strictly
returns-clause-strictly c = is_strictly_below-Decides
