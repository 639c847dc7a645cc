use Rattle.std.proofs.Common.{◌∙◌}
use Rattle.std.specs.Int.{w64}
use Rattle.std.proofs.lemmas.Int.{to_z-of_z}
use Rattle.dns_keeper.proofs.CoverageSteps.{ends_here, passes_on}
use Rattle.dns_keeper.proofs.coverage.Coverage.take.Goals as goal

pub returns-then-not-is_front-clause-ends : goal.returns-then-not-is_front-clause-ends
returns-then-not-is_front-clause-ends c = λ out rows more reaches.
    ends_here c.args.self.now c.self.inside.place c.self.inside.runs.items c.pop.new.self.items c.in-Some.run' c.args.batch.now c.is_front.result rows
    c.self.view_is c.in-Some.ensures.items c.is_front.ensures reaches more c.if-not-is_front.true

pub returns-clause-passes : goal.returns-clause-passes
returns-clause-passes c = λ there rows reaches.
    passes_on c.args.self.now c.self.inside.place c.self.inside.runs.items c.pop.new.self.items c.in-Some.run' c.args.batch.now c.is_front.result rows
    c.self.view_is c.in-Some.ensures.items c.is_front.ensures reaches _ c.cut_run.new.runs.items c.if-not-is_front.false c.in_ok-cut_run.ensures
    (to_z-of_z w64 c.in_ok-self-inside.field-0 c.in_ok-self-inside.ensures.fits ∙ c.in_ok-self-inside.ensures.behind)
