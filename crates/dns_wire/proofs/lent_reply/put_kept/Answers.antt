use Rattle.std.proofs.Common.{ap, ◌+◌}
use Rattle.dns_wire.specs.declared.reply.Reply.{Reply}
use Rattle.dns_wire.proofs.LentWritten.{lent_put}
use Rattle.dns_wire.proofs.lent_reply.put_kept.Goals as goal

pub returns-clause-ok : goal.returns-clause-ok
returns-clause-ok c =
    lent_put _ _ _ _ _ _ _ _ c.args.reply.now c.args.header.now c.reply.inside.question _ c.reply.inside.authority c.reply.inside.additional c.reply.inside.edns c.args.kept.now.count _
    c.args.kept.now.answers c.args.kept.now.authority c.args.kept.now.additional _
    (record { within = c.requires.within; answers = c.requires.answers; authority = c.requires.authority; additional = c.requires.additional })
    c.requires.header (ap (λ (r : Reply). r.question) c.reply.view_is) (ap (λ (r : Reply). r.answers) c.reply.view_is) (ap (λ (r : Reply). r.authority) c.reply.view_is)
    (ap (λ (r : Reply). r.additional) c.reply.view_is) (ap (λ (r : Reply). r.edns) c.reply.view_is) c.asked_count.ensures (ap (λ n. c.args.kept.now.additional + n) c.opt_count.ensures.is)
    c.in_ok-put_head.ensures.ok c.in_ok-put_asked.ensures.ok c.in_ok-put_parts.ensures.ok c.in_ok-put.ensures.ok c.in_ok-put-2.ensures.ok c.put_extra.ensures.ok
