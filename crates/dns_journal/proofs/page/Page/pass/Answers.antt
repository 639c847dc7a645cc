use Rattle.std.proofs.Common.{◌≡◌, ◌∷◌, ◌+ℤ◌, pos, true, subst, sym, ap, ◌∙◌, ◌++◌, option_to_list, w64}
use Rattle.std.specs.Int.Signed.{le_z}
use Rattle.std.specs.Vec.Iter.{into_iter_items}
use Rattle.std.proofs.lemmas.Int.{to_z-of_z}
use Rattle.dns_journal.specs.Pages.{HoldsPage}
use Rattle.dns_journal.proofs.Pages.{passes}
use Rattle.dns_journal.proofs.page.Page.pass.Goals as goal

pub returns-in-Some : goal.returns-in-Some
returns-in-Some c = record {
  held = λ row is table holds.
      let found = rw (to_z-of_z w64 c.args.id c.ranges.id) at c.in-Some.ensures.some in
      let rest = c.next_of-row.ensures.next ∙ ap (λ o. option_to_list o ++ into_iter_items c.next_of-row.new.rows) found.0 in
      let above : le_z (row.id +ℤ pos 1) c.in-Some.row.id ≡ true = subst (λ n. le_z n c.in-Some.row.id ≡ true) (found.1 ∙ ap (λ k. k +ℤ pos 1) (sym is)) found.2 in
      let it = passes c.args.self.now.next table _ _ row c.in-Some.row rest above holds in
      subst (λ n. HoldsPage n table (c.in-Some.row ∷ into_iter_items c.next_of-row.new.rows)) (ap (λ k. k +ℤ pos 1) is ∙ sym found.1 ∙ sym (to_z-of_z w64 c.in-Some.next c.in-Some.ensures.fits)) it;
}
