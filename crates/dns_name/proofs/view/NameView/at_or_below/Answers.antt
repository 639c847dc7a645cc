use Rattle.dns_name.proofs.SameNames.{is_at_or_below-is}
use Rattle.dns_name.proofs.view.NameView.at_or_below.Goals as goal

pub returns-clause-test : goal.returns-clause-test
returns-clause-test c = rw (← c.self.view_is, ← c.view-other.ensures, ← c.other.view_is) (is_at_or_below-is _ _ _ c.is_at_or_below.ensures)
