use Rattle.std.proofs.Common.{false, subst, arith}
use Rattle.dns_book.specs.declared.ask.Ask.{Ask}
use Rattle.dns_book.specs.declared.ask.Settled.{Settled}
use Rattle.dns_book.specs.Book.{Settles}
use Rattle.dns_book.specs.Into.{SettlesInto}
use Rattle.dns_bench.proofs.Turning.{one_settled}
use Rattle.dns_bench.proofs.settling.settle_one.Goals as goal

pub returns : goal.returns
returns g c =
    let keeper = g.K.Keeper.keeper in
    let into = subst
    (λ (k : Ask). SettlesInto (λ (s : Settled). Settles keeper c.args.access.now c.args.book.now k s c.settle_into.new.self) false c.clear.new.self.items c.settle_into.new.out.items c.in_ok-_into._into)
    c.lent.ensures c.in_ok-_into.ensures.ok in
    one_settled keeper c.args.access.now c.args.book.now c.settle_into.new.self c.args.ask.now _ _ c.in_ok-_into._into _ c.clear.ensures.items into (omega (arith, c.len.ensures, c.settle_into.new.out.ok))
