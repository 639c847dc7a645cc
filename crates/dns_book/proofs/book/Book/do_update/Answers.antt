use Rattle.std.proofs.Common.{true, false, refl, sym, ap, ◌∙◌, subst}
use Rattle.dns_book.specs.Book.{SeenOf}
use Rattle.dns_book.specs.Carrying.{IsPut}
use Rattle.dns_book.proofs.Answered.{carries_none, carries_journalled, appended_put, failed_put}
use Rattle.dns_book.proofs.book.Book.do_update.Goals as goal

pub returns-in_err-appended : goal.returns-in_err-appended
returns-in_err-appended g c =
    carries_none g.K.Keeper.keeper c.args.self.now c.args.ask.now c.args.decision.now c.args.is_framed c.args.out.now.items c.append.new.out.items c.from_residual.result c.args.self.now
    c.from_residual.ensures.0 c.requires.kept refl c.in_err-appended.ensures.err

pub returns-in-Ok : goal.returns-in-Ok
returns-in-Ok g c =
    let request = c.args.decision.now.request in
    carries_journalled g.K.Keeper.keeper c.args.self.now c.args.ask.now c.args.decision.now c.args.is_framed c.args.out.now.items c.append.new.out.items _ c.requires.protocol false
    c.in-Ok.receipt _ c.journal.new.self c.code_reply-done.result c.count.new.counts c.told.result c.in-Ok.ensures.kept c.in-Ok.ensures.left_on c.requires.counted
    (c.requires.reply false ∙ sym c.code_reply-done.ensures.is) c.requires.batch c.in-Ok.ensures.is c.in-Ok.ensures.left
    (subst (λ (b : SeenOf g.row.K.Denot). IsPut request _ c.code_reply-done.result c.args.is_framed c.args.out.now.items c.append.new.out.items b.counts c.count.new.counts) c.self.view_is
    (appended_put request _ c.code_reply-done.result c.args.is_framed c.args.out.now.items c.append.new.out.items c.in_ok-appended.appended _ c.count.new.counts c.in_ok-appended.ensures.appends
    c.in_ok-appended.ensures.short c.count.ensures))
    (ap (λ (b : SeenOf g.row.K.Denot). record b { counts = c.count.new.counts }) c.self.view_is) c.told.ensures.is

pub returns-in-Err-Failed : goal.returns-in-Err-Failed
returns-in-Err-Failed g c =
    let request = c.args.decision.now.request in
    let q = c.args.question.now in
    carries_journalled g.K.Keeper.keeper c.args.self.now c.args.ask.now c.args.decision.now c.args.is_framed c.args.out.now.items c.with_code-appended.new.out.items _ c.requires.protocol true
    _ _ c.journal.new.self c.code_reply-failed.result c.count-in-Err-Failed.new.counts c.told-in-Err-Failed.result c.in-Err-Failed.ensures.kept c.in-Err-Failed.ensures.left_on c.requires.counted
    (c.requires.reply true ∙ sym c.code_reply-failed.ensures.is) c.requires.batch (rw c.in-Err-Failed.field-0-is at c.in-Err-Failed.ensures.is) c.in-Err-Failed.ensures.left
    (subst (λ (b : SeenOf g.row.K.Denot). IsPut request _ c.code_reply-failed.result c.args.is_framed c.args.out.now.items c.with_code-appended.new.out.items b.counts c.count-in-Err-Failed.new.counts) c.self.view_is
    (failed_put request q c.code_reply-done.result c.code_reply-failed.result c.args.is_framed c.args.out.now.items c.append.new.out.items c.with_code-appended.new.out.items c.in_ok-appended.appended
    c.with_code-appended.result _ c.count-in-Err-Failed.new.counts c.code_reply-done.ensures.is c.code_reply-failed.ensures.is c.append.ensures.limit c.in_ok-appended.ensures.appends
    c.with_code-appended.ensures c.count-in-Err-Failed.ensures))
    (ap (λ (b : SeenOf g.row.K.Denot). record b { counts = c.count-in-Err-Failed.new.counts }) c.self.view_is) c.told-in-Err-Failed.ensures.is
