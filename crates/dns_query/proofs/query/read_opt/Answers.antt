use Rattle.std.proofs.Common.{sym, ◌∙◌, arith}
use Rattle.dns_query.proofs.Whole.{opt_read}
use Rattle.dns_query.proofs.query.read_opt.Goals as goal

pub returns-clause-found : goal.returns-clause-found
returns-clause-found c =
    opt_read c.args.m.now c.args.at c.word-size.result c.long-ttl.result c.word-2.result (omega (arith, c.if-m-at.false, c.if-m-at-lt11.false)) c.if-m-at-ne0.false (sym c.word.ensures ∙ c.if-word-ne-OPT.false) c.word-size.ensures c.long-ttl.ensures c.word-2.ensures
