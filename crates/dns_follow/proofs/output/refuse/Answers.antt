use Rattle.std.proofs.Common.{sym, subst}
use Rattle.dns_words.specs.Writing.{WantedMemory}
use Rattle.dns_follow.specs.Status.{refusal_line}
use Rattle.dns_follow.proofs.output.refuse.Goals as goal

pub returns-in-ReadFault-clause-wanted : goal.returns-in-ReadFault-clause-wanted
returns-in-ReadFault-clause-wanted g c fault none =
    subst (λ meant. WantedMemory g.W.Sink.sink c.args.out.now (refusal_line meant) c.refuse_by-in-ReadFault.new.out) (sym c.in-ReadFault.is) (c.refuse_by-in-ReadFault.ensures.wanted none)

pub returns-in-KeeperFault-clause-wanted : goal.returns-in-KeeperFault-clause-wanted
returns-in-KeeperFault-clause-wanted g c fault none =
    subst (λ meant. WantedMemory g.W.Sink.sink c.args.out.now (refusal_line meant) c.refuse_by-in-KeeperFault.new.out) (sym c.in-KeeperFault.is) (c.refuse_by-in-KeeperFault.ensures.wanted none)
