use Rattle.std.proofs.Common.{rules, sym, subst}
use Rattle.std.specs.Vec.Iter.{into_iter_items}
use Rattle.dns_journal.specs.Pages.{led, HoldsPage}
use Rattle.dns_journal.proofs.page.Page.take.Goals as goal

pub returns-in-Some-clause-held : goal.returns-in-Some-clause-held
returns-in-Some-clause-held c table holds =
    let page = c.args.self.now in
    c.pass.ensures.held c.in-Some.row (search rules) table (subst (λ o. HoldsPage page.next table (led o (into_iter_items page.rest))) (sym c.in-Some.ensures.value) holds)
