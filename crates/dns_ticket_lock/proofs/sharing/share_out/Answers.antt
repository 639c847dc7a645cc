use Rattle.std.proofs.Common.{◌≡◌, ℕ, ◌+◌, ◌-◌, ◌≤◌, List, [], ◌∷◌, length, replicate, sym, ap, subst, ◌∙◌, arith}
use Rattle.std.proofs.lemmas.List.{length-append, length-replicate}
use Rattle.atomic_table.specs.Table.{Me}
use Rattle.dns_ticket_lock.specs.declared.view.Account.{Account}
use Rattle.dns_ticket_lock.specs.declared.view.View.{View}
use Rattle.dns_ticket_lock.specs.Lists.{only_first, but_first}
use Rattle.dns_ticket_lock.specs.Rule.{fresh, own, terms_of}
use Rattle.dns_ticket_lock.specs.Passes.{PassSeen, InOrder, AreNew}
use Rattle.dns_ticket_lock.proofs.Ends.{splits}
use Rattle.dns_ticket_lock.proofs.Order.{snoc_order, snoc_new, first_of_new, others_of_new}
use Rattle.dns_ticket_lock.proofs.sharing.share_out.Goals as goal

pub split_seat-next-requires : goal.split_seat-next-requires
split_seat-next-requires g c =
    let t = terms_of c.args.board.now.key.views in
    let i = c.loop-number.invariant in
    let words = c.requires.board.0 in
    let less = c.loop-number-test.true in
    let many : length c.loop-number.rest.me.0.accounts ≡ c.args.seats + 1 - c.loop-number.number = ap (λ (l : List Account). length l) i.accounts ∙ length-replicate (c.args.seats + 1 - c.loop-number.number) (fresh t) in
    (i.table, omega arith, splits g.T.Carried.names t c.loop-number.rest.id c.loop-number.rest.me.0 i.rests (omega arith))

pub pass_of-requires-clause-seen : goal.pass_of-requires-clause-seen
pass_of-requires-clause-seen g c =
    let t = terms_of c.args.board.now.key.views in
    let i = c.loop-number.invariant in
    let s = c.split_seat-next.ensures in
    let less = c.loop-number-test.true in
    let accounts = ap (λ (m : Me _ View). m.0.accounts) s.2 ∙ (ap (λ (l : List Account). only_first l) i.accounts ∙ first_of_new (fresh t) (c.args.seats + 1 - c.loop-number.number) (omega arith)) in
    ap (λ (l : List Account). length (own l).seen) accounts ∙ c.requires.seen

pub loop-number-preserved : goal.loop-number-preserved
loop-number-preserved g c =
    let t = terms_of c.args.board.now.key.views in
    let i = c.loop-number.invariant in
    let s = c.split_seat-next.ensures in
    let less = c.loop-number-test.true in
    let room = i.room in
    let many = i.many in
    let p = c.pass_of.ensures in
    let old = c.loop-number.passes.items in
    let accounts = ap (λ (m : Me _ View). m.0.accounts) s.2 ∙ (ap (λ (l : List Account). only_first l) i.accounts ∙ first_of_new (fresh t) (c.args.seats + 1 - c.loop-number.number) (omega arith)) in
    let here = ap (λ (x : PassSeen). x.book) p ∙ (s.0 ∙ i.table) in
    let number : c.pass_of.result.number ≡ length old + 1 = ap (λ (x : PassSeen). x.number) p ∙ sym many in
    let terms = ap (λ (x : PassSeen). x.terms) p ∙ (ap (λ (m : Me _ View). m.0.terms) s.2 ∙ i.terms) in
    let account = ap (λ (x : PassSeen). x.account) p ∙ ap (λ (l : List Account). own l) accounts in
    record {
      table = s.3 ∙ i.table;
      bare = ap (λ (m : Me _ View). m.1) s.4;
      rests = ap (λ (m : Me _ View). m.0.phase) s.4;
      at = ap (λ (m : Me _ View). m.0.low + 1) s.4 ∙ ap (λ (n : ℕ). n + 1) i.at;
      terms = ap (λ (m : Me _ View). m.0.terms) s.4 ∙ i.terms;
      accounts = ap (λ (m : Me _ View). m.0.accounts) s.4 ∙ (ap (λ (l : List Account). but_first l) i.accounts ∙ others_of_new (fresh t) (c.args.seats + 1 - c.loop-number.number) (c.args.seats + 1 - (c.loop-number.number + 1)) (omega arith));
      many = ap (λ (l : List PassSeen). length l + 1) c.push_reserved.ensures.items ∙ (ap (λ (n : ℕ). n + 1) (length-append old (c.pass_of.result ∷ [])) ∙ ap (λ (n : ℕ). n + 1) many);
      room = subst (λ (n : ℕ). c.args.seats ≤ n) (sym c.push_reserved.ensures.capacity) room;
      order = subst (InOrder c.args.board.now.table_id) (sym c.push_reserved.ensures.items) (snoc_order c.args.board.now.table_id old c.pass_of.result i.order here number);
      new = subst (AreNew t) (sym c.push_reserved.ensures.items) (snoc_new t old c.pass_of.result i.new terms account);
    }

pub returns-clause-order : goal.returns-clause-order
returns-clause-order g c =
    let i = c.loop-number.invariant in
    let stop = c.loop-number-test.false in
    let more = c.loop-number.auto.number-end in
    let some = c.requires.some in
    let many = i.many in
    let p = c.pass_of-2.ensures in
    let old = c.loop-number.passes.items in
    let number : c.pass_of-2.result.number ≡ length old + 1 = (let is = ap (λ (x : PassSeen). x.number) p in omega arith) in (
      subst (InOrder c.args.board.now.table_id) (sym c.push_reserved-2.ensures.items) (snoc_order c.args.board.now.table_id old c.pass_of-2.result i.order (ap (λ (x : PassSeen). x.book) p ∙ i.table) number),
      ap (λ (l : List PassSeen). length l) c.push_reserved-2.ensures.items ∙ (length-append old (c.pass_of-2.result ∷ []) ∙ (omega arith)),
    )

pub returns-clause-new : goal.returns-clause-new
returns-clause-new g c =
    let t = terms_of c.args.board.now.key.views in
    let i = c.loop-number.invariant in
    let stop = c.loop-number-test.false in
    let more = c.loop-number.auto.number-end in
    let some = c.requires.some in
    let p = c.pass_of-2.ensures in
    let accounts = i.accounts ∙ ap (λ (n : ℕ). replicate n (fresh t)) (let e : c.args.seats + 1 - c.loop-number.number ≡ 1 = omega arith in e) in
    let account = ap (λ (x : PassSeen). x.account) p ∙ ap (λ (l : List Account). own l) accounts in
    subst (AreNew t) (sym c.push_reserved-2.ensures.items) (snoc_new t c.loop-number.passes.items c.pass_of-2.result i.new (ap (λ (x : PassSeen). x.terms) p ∙ i.terms) account)
