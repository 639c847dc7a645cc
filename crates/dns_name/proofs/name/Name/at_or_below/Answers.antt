use Rattle.dns_name.proofs.SameNames.{is_at_or_below-is}
use Rattle.dns_name.proofs.name.Name.at_or_below.Goals as goal

pub returns-clause-test : goal.returns-clause-test
returns-clause-test c =
    rw (← c.self.view_is, ← c.other.view_is, ← c.deref.ensures.value, ← c.deref-2.ensures.value) (is_at_or_below-is _ _ _ c.is_at_or_below.ensures)
