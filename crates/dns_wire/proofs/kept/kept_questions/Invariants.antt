use Rattle.std.proofs.Common.{take}
use Rattle.std.specs.List.{AllByRecursion}
use Rattle.dns_wire.specs.ReadBack.{IsQuestion}
use Rattle.dns_wire.proofs.kept.kept_questions.Given as goal

abbrev pub invariant-loop-one : goal.invariant-loop-one
invariant-loop-one l = AllByRecursion IsQuestion (take l.one-index l.questions)
