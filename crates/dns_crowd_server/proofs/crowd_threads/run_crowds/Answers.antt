-- What holds of each worker.
use Rattle.std.proofs.Common.{rules, subst₂}
use Rattle.dns_server.specs.declared.worker.Worker.{Worker}
use Rattle.dns_server.proofs.AllPasses.{book_at, matches_at}
use Rattle.dns_crowd_server.specs.Crews.{ServedCrowd}
use Rattle.dns_crowd_server.proofs.crowd_threads.run_crowds.Goals as goal

pub for_each_mut-requires-clause-accepts : goal.for_each_mut-requires-clause-accepts
for_each_mut-requires-clause-accepts g c κs within = λ i w small e. book_at c.args.book.now c.args.workers.now c.requires i w.now small e

pub returns : goal.returns
returns g c =
    let P : Worker g.row.C.Denot → Worker g.row.C.Denot → Type 0 = ServedCrowd g.K.Keeper.keeper g.C.Crowd.told c.args.access.now in
    matches_at P c.args.workers.now c.for_each_mut.new.s c.for_each_mut.auto.s (λ i d low. let h = (c.for_each_mut.ensures i d low).1 in subst₂ P h.argument_is h.left (search rules))
