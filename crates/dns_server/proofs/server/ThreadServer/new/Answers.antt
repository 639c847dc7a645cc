-- All passes are free.
use Rattle.std.proofs.Common.{arith}
use Rattle.dns_server.proofs.AllPasses.{whole_first}
use Rattle.dns_server.proofs.server.ThreadServer.new.Goals as goal

pub invariant_of-result : goal.invariant_of-result
invariant_of-result g c = (
  rw (c.new-3.ensures.items, c.new-5.ensures.items) (whole_first g.row.U.Denot g.row.T.Denot c.in_ok-book.book c.args.access c.in_ok-book.free.items c.in_ok-book.ensures.passes),
  omega (arith, c.in_ok-book.free.ok, c.new-3.ensures.len, c.new-5.ensures.len),
  c.new-4.ensures.items,
  omega (arith, c.new-3.ensures.len),
  c.new-6.ensures.items,
  omega (arith, c.new-5.ensures.len),
)
