use Rattle.std.proofs.Common.{◌∙◌, sym}
use Rattle.dns_counts.proofs.Counted.{known-place, known-nowhere}
use Rattle.dns_counts.proofs.counting.count_known_sought.Goals as goal

pub returns-in-Some : goal.returns-in-Some
returns-in-Some c = c.raise_at.ensures ∙ known-place _ _ _ _ (sym c.in-Some.ensures.place) c.requires.distinct

pub returns-in-None : goal.returns-in-None
returns-in-None c = known-nowhere _ _ _ (sym c.in-None.ensures.place)
