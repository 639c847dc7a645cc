use Rattle.std.proofs.Common.{w64}
use Rattle.std.proofs.lemmas.Int.{to_z-of_z}
use Rattle.sqlite.specs.Held.{state}
use Rattle.dns_journal.proofs.Pages.{opens, opens_with}
use Rattle.dns_journal.proofs.journal.Journal.first_of.Goals as goal

pub invariant_of-self : goal.invariant_of-self
invariant_of-self g c = record {
  ready = c.self.invariant.ready;
  page = λ clean. c.take.ensures.held _ (opens c.new.result c.args.id (state g.S.Store c.self.inside.conn) c.args.rows.items c.new.ensures.rows (rw (to_z-of_z w64 c.args.id c.ranges.id) at c.new.ensures.next) (rw (← c.self.view_is) at c.requires) clean);
  batches = c.self.invariant.batches;
  fits = c.self.invariant.fits;
}

pub returns-clause-stored : goal.returns-clause-stored
returns-clause-stored g c = opens_with c.new.result c.args.id (state g.S.Store c.self.inside.conn) c.args.rows.items c.take.result c.new.ensures.rows (rw (← c.self.view_is) at c.requires) c.take.ensures.first
