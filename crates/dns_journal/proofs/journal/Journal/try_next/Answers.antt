use Rattle.std.proofs.Common.{◌+ℤ◌, pos, rules, w64}
use Rattle.std.specs.Prelude.{FitsSigned}
use Rattle.std.proofs.lemmas.Int.{to_z-of_z}
use Rattle.dns_journal.proofs.journal.Journal.try_next.Goals as goal

pub returns-clause-next : goal.returns-clause-next
returns-clause-next g c other =
    let fits : FitsSigned w64 (c.args.after +ℤ pos 1) = search rules in
    rw (to_z-of_z w64 c.args.after c.ranges.after, to_z-of_z w64 (c.args.after +ℤ pos 1) fits) at c.select_record.ensures.selected
