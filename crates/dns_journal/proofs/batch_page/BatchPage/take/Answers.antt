use Rattle.std.proofs.Common.{◌<ℤ◌, ◌≤ℤ◌, subst, rules}
use Rattle.std.specs.Vec.Iter.{into_iter_items}
use Rattle.dns_sqlite.specs.Reads.{AreBatchesIn}
use Rattle.dns_journal.specs.Pages.{led}
use Rattle.dns_journal.specs.BatchPages.{HoldsAhead}
use Rattle.dns_journal.proofs.BatchPages.{taken_is, none_is, no_lower}
use Rattle.dns_journal.proofs.batch_page.BatchPage.take.Goals as goal

pub returns-in_default-clause-none : goal.returns-in_default-clause-none
returns-in_default-clause-none c next table read =
    let page = c.args.self.now in
    none_is c.args.first table (subst (λ o. AreBatchesIn c.args.first table (led o (into_iter_items page.rest))) c.in_default.is read)

pub returns-then-batch-first-clause-none : goal.returns-then-batch-first-clause-none
returns-then-batch-first-clause-none c next table read =
    let page = c.args.self.now in
    let lower : c.in-Some.batch.first <ℤ c.args.first = search rules in
    no_lower c.args.first table c.in-Some.batch (into_iter_items page.rest) lower (subst (λ o. AreBatchesIn c.args.first table (led o (into_iter_items page.rest))) c.in-Some.is read)

pub returns-clause-found : goal.returns-clause-found
returns-clause-found c table holds =
    let page = c.args.self.now in
    let low : page.next ≤ℤ c.args.first = search rules in
    let high : c.args.first ≤ℤ c.in-Some.batch.first = search rules in
    taken_is page.next c.args.first table c.in-Some.batch (into_iter_items page.rest) low high (subst (λ o. HoldsAhead page.next table (led o (into_iter_items page.rest))) c.in-Some.is holds)

pub returns-clause-held : goal.returns-clause-held
returns-clause-held c table holds =
    let page = c.args.self.now in
    c.pass.ensures.held c.in-Some.batch (search rules) table (subst (λ o. HoldsAhead page.next table (led o (into_iter_items page.rest))) c.in-Some.is holds)
