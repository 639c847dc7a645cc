-- The text from the first word on is that word and what stands behind it, or nothing.
use Rattle.std.proofs.Common.{◌≡◌, ◌<◌, ◌∷◌, length, ap, sym, ◌∙◌, arith}
use Rattle.dns_update_script.specs.Words.{words_of, from_word, before_blank, from_blank}
use Rattle.dns_update_script.proofs.Cutting.{words_of-split, words_of-none}
use Rattle.dns_update_script.proofs.words.split_word.Goals as goal

pub returns-then-is_empty-clause-none : goal.returns-then-is_empty-clause-none
returns-then-is_empty-clause-none c =
    let empty : length c.from_word-text.result.now ≡ 0 = grind (arith, c.is_empty.ensures, c.if-is_empty.true) in
    words_of-none c.args.line.now (ap length (sym c.from_word-text.ensures) ∙ empty)

pub returns-clause-some : goal.returns-clause-some
returns-clause-some c =
    let filled : 0 < length c.from_word-text.result.now = grind (arith, c.is_empty.ensures, c.if-is_empty.false) in
    let some : 0 < length (from_word c.args.line.now) = omega (arith, filled, ap length c.from_word-text.ensures) in
    words_of-split c.args.line.now some
    ∙ ap (λ text. before_blank text ∷ words_of (from_blank text)) (sym c.from_word-text.ensures)
    ∙ ap (λ word. word ∷ words_of (from_blank c.from_word-text.result.now)) (sym c.cut_word.ensures.word)
    ∙ ap (λ behind. c.cut_word.result.0.now ∷ words_of behind) (sym c.cut_word.ensures.behind)
