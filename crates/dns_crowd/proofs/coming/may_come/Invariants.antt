-- Those so far may come, and behind them whatever may come behind the last of them.
use Rattle.std.proofs.Common.{◌++◌, List, None, map, take}
use Rattle.dns_crowd.specs.declared.coming.Coming.{Coming}
use Rattle.dns_crowd.specs.Crowds.{AllMayCome, event_by}
use Rattle.dns_crowd.proofs.coming.may_come.Given as goal

abbrev pub invariant-loop-one : goal.invariant-loop-one
invariant-loop-one l = (rest : List Coming) → AllMayCome l.last l.greatest (map event_by rest) → AllMayCome 0 None (map event_by (take l.one-index l.coming ++ rest))
