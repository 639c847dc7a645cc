use Rattle.std.proofs.Common.{take}
use Rattle.std.specs.List.{AllByRecursion}
use Rattle.dns_wire.specs.ReadBack.{IsMessage}
use Rattle.dns_wire.proofs.kept.kept_messages.Given as goal

abbrev pub invariant-loop-one : goal.invariant-loop-one
invariant-loop-one l = AllByRecursion IsMessage (take l.one-index l.messages)
