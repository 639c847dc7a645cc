use Rattle.dns_zone_map.proofs.InSets.{found_put, new_put}
use Rattle.dns_zone_map.proofs.sets.OwnerSets.put.Goals as goal

pub returns-in-Ok-clause-ok : goal.returns-in-Ok-clause-ok
returns-in-Ok-clause-ok c = found_put _ _ _ _ _ _ c.in-Ok.place c.put_at.result c.self.view_is c.deref.ensures.value c.in-Ok.ensures.found c.put_at.ensures.set c.put_at.ensures.replaced

pub returns-in_ok-insert-in-Err-clause-ok : goal.returns-in_ok-insert-in-Err-clause-ok
returns-in_ok-insert-in-Err-clause-ok c = new_put _ _ _ _ _ _ c.in-Err.place c.in_ok-set-in-Err.set c.self.view_is c.deref.ensures.value c.in-Err.ensures.none c.in_ok-set-in-Err.ensures c.in_ok-insert-in-Err.ensures.items
