use Rattle.std.proofs.Common.{ℕ, List, false, sym, ap, ◌∙◌, subst}
use Rattle.dns_book.specs.Book.{SeenOf, seen, IsKept}
use Rattle.dns_book.specs.Carrying.{IsPut}
use Rattle.dns_book.proofs.Answered.{carries_none, carries_idle}
use Rattle.dns_book.proofs.book.Book.refuse.Goals as goal

pub returns-in_err-put : goal.returns-in_err-put
returns-in_err-put g c =
    carries_none g.K.Keeper.keeper c.args.self.now c.args.ask.now c.args.decision.now c.args.is_framed c.args.out.now.items c.put.new.out.items c.from_residual.result _
    c.from_residual.ensures.0 (subst (IsKept g.K.Keeper.keeper) c.self.view_is c.self.invariant)
    (ap (λ (counts : List (List ℕ)). seen c.self.inside.store c.self.inside.allow_update counts) c.in_err-put.ensures.err ∙ c.self.view_is) c.in_err-put.ensures.out

pub returns : goal.returns
returns g c =
    let request = c.args.decision.now.request in
    carries_idle g.K.Keeper.keeper c.args.self.now c.args.ask.now c.args.decision.now c.args.is_framed c.args.out.now.items c.put.new.out.items _
    (subst (IsKept g.K.Keeper.keeper) c.self.view_is c.self.invariant) c.requires.protocol c.counted_question-asked.result c.code_reply-reply.result c.put.new.counts c.told.result
    c.counted_question-asked.ensures (c.requires.reply false ∙ sym c.code_reply-reply.ensures.is) c.requires.batch
    (subst (λ (b : SeenOf g.row.K.Denot). IsPut request c.counted_question-asked.result c.code_reply-reply.result c.args.is_framed c.args.out.now.items c.put.new.out.items b.counts c.put.new.counts) c.self.view_is c.in_ok-put.ensures.ok)
    (ap (λ (b : SeenOf g.row.K.Denot). record b { counts = c.put.new.counts }) c.self.view_is) c.told.ensures.is
