use Rattle.std.proofs.Common.{◌≡◌, ◌⊎◌, ℕ, ◌+◌, ◌-◌, List, length, sym, ap, ◌∙◌, refl, subst, arith, rules}
use mathlib.Core.Option.{some}
use lib.ListN.{get_elem?}
use Rattle.atomic_table.proofs.Lists.{at_index}
use Rattle.dns_ticket_lock.specs.Lists.{total}
use Rattle.dns_ticket_lock.specs.Passes.{PassSeen, AreAll, pass_faults}
use Rattle.dns_ticket_lock.proofs.Seats.{within, same_at}
use Rattle.dns_ticket_lock.proofs.Removed.{all_but, still_found, total_removed}
use Rattle.dns_ticket_lock.proofs.closing.take_out.Goals as goal

pub place_of-place-requires : goal.place_of-place-requires
place_of-place-requires g c =
    let some_left = c.requires.1 in
    let p = c.requires.0.each (c.args.number - 1) (omega arith) in
    let is = p.3 in
    (p.0, p.1, p.2, omega arith)

pub remove-requires : goal.remove-requires
remove-requires g c =
    let p = c.place_of-place.ensures in
    let len : length c.args.passes.now.items ≡ c.args.passes.now.len = search rules in
    let small = within c.args.passes.now.items c.place_of-place.result p.0 p.1 in
    omega arith

pub returns-clause-is : goal.returns-clause-is
returns-clause-is g c =
    let p = c.place_of-place.ensures in
    let items = c.args.passes.now.items in
    let at = at_index items c.place_of-place.result c.remove.result (within items c.place_of-place.result p.0 p.1) c.remove.ensures.value in (
      ap (λ (x : PassSeen). x.number) (same_at items c.place_of-place.result c.place_of-place.result c.remove.result p.0 refl at p.1) ∙ p.2,
      c.requires.0.same c.place_of-place.result c.remove.result at,
    )

pub returns-clause-left : goal.returns-clause-left
returns-clause-left g c =
    let p = c.place_of-place.ensures in
    let items = c.args.passes.now.items in
    let some_left = c.requires.1 in
    let low : c.args.number ≡ c.args.number - 1 + 1 = omega arith in
    subst (AreAll c.args.board.now.table_id (c.args.number - 1)) (sym c.remove.ensures.items)
    (all_but c.args.board.now.table_id (c.args.number - 1) items c.place_of-place.result p.0 (subst (λ (n : ℕ). AreAll c.args.board.now.table_id n items) low c.requires.0) p.1 (p.2 ∙ low))

pub returns-clause-found : goal.returns-clause-found
returns-clause-found g c =
    let p = c.place_of-place.ensures in
    let items = c.args.passes.now.items in
    let at = at_index items c.place_of-place.result c.remove.result (within items c.place_of-place.result p.0 p.1) c.remove.ensures.value in
    subst (λ (l : List PassSeen). (i : ℕ) (q : PassSeen) → get_elem? items i ≡ some q → ((k : ℕ) × (get_elem? l k ≡ some q)) ⊎ (q ≡ c.remove.result)) (sym c.remove.ensures.items)
    (still_found items c.place_of-place.result c.remove.result at)

pub returns-clause-faults : goal.returns-clause-faults
returns-clause-faults g c =
    let p = c.place_of-place.ensures in
    let items = c.args.passes.now.items in
    let at = at_index items c.place_of-place.result c.remove.result (within items c.place_of-place.result p.0 p.1) c.remove.ensures.value in
    subst (λ (l : List PassSeen). total pass_faults items ≡ pass_faults c.remove.result + total pass_faults l) (sym c.remove.ensures.items)
    (total_removed pass_faults items c.place_of-place.result c.remove.result at)
