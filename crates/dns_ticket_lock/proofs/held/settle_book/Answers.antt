use Rattle.std.proofs.Common.{◌≡◌, ℕ, subst₂, sym, arith}
use Rattle.dns_ticket_lock.specs.Naming.{Advances}
use Rattle.dns_ticket_lock.proofs.Advancing.{advances}
use Rattle.dns_ticket_lock.proofs.held.settle_book.Goals as goal

pub returns-clause-advances : goal.returns-clause-advances
returns-clause-advances g c =
    let s = c.settle_into-answer.ensures in
    let before = c.args.book.now in
    let after = c.settle_into-answer.new.self in
    let all = advances g.K.Keeper.keeper c.args.access.now before c.args.ask.now _ _ _ c.settle_into-answer.result after s.ok s.err in
    let rows = c.journal_len-before.ensures.is in
    let since = c.rows_since.ensures in
    let now = all.1.counted in
    let count : all.0 ≡ c.rows_since.result = omega arith in
    let receipt = c.receipt_of.ensures in
    subst₂ (λ (r : _) (n : ℕ). Advances g.K.Keeper.keeper c.args.ask.now.client before r n after) (sym receipt) count all.1

pub rows_since-requires : goal.rows_since-requires
rows_since-requires g c =
    let s = c.settle_into-answer.ensures in
    let all = advances g.K.Keeper.keeper c.args.access.now c.args.book.now c.args.ask.now _ _ _ c.settle_into-answer.result c.settle_into-answer.new.self s.ok s.err in
    let rows = c.journal_len-before.ensures.is in
    let now = all.1.counted in
    omega arith

pub rise_since-requires : goal.rise_since-requires
rise_since-requires g c =
    let s = c.settle_into-answer.ensures in
    let all = advances g.K.Keeper.keeper c.args.access.now c.args.book.now c.args.ask.now _ _ _ c.settle_into-answer.result c.settle_into-answer.new.self s.ok s.err in
    let was = c.fault_count-was.ensures in
    let now = all.1.faults in
    omega arith
