use Rattle.std.proofs.Common.{◌+ℤ◌, pos, subst, sym, ap, ◌∙◌, w64}
use Rattle.std.specs.Vec.Iter.{into_iter_items}
use Rattle.std.proofs.lemmas.Int.{to_z-of_z}
use Rattle.dns_journal.specs.Pages.{led}
use Rattle.dns_journal.specs.BatchPages.{HoldsAhead}
use Rattle.dns_journal.proofs.Pages.{led_is}
use Rattle.dns_journal.proofs.BatchPages.{passed_is}
use Rattle.dns_journal.proofs.batch_page.BatchPage.pass.Goals as goal

pub returns-in-Some : goal.returns-in-Some
returns-in-Some c = record {
  held = λ batch is table holds.
      let found = rw (to_z-of_z w64 c.args.first c.ranges.first) at c.in-Some.ensures.some in
      let passed = passed_is c.args.self.now.next table batch _ holds in
      let left = led_is c.next_of-self.result (into_iter_items c.next_of-self.new.batches) _ c.next_of-self.ensures.next c.next_of-self.ensures.end in
      subst (λ n. HoldsAhead n table (led c.next_of-self.result (into_iter_items c.next_of-self.new.batches))) (ap (λ k. k +ℤ pos 1) is ∙ sym found ∙ sym (to_z-of_z w64 c.in-Some.next c.in-Some.ensures.fits))
      (subst (HoldsAhead (batch.first +ℤ pos 1) table) (sym left) passed);
}
