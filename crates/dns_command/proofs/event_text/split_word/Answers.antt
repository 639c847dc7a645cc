-- A line's first word, and what is behind it.
use Rattle.std.proofs.Common.{sym}
use Rattle.dns_command.proofs.EventWords.{words_in-split, words_in-whole}
use Rattle.dns_command.proofs.event_text.split_word.Goals as goal

pub returns : goal.returns
returns c =
    rw (c.split_at.ensures.front, c.split_at-2.ensures.back) (words_in-split _ _ (sym c.in-Some.ensures.value))

pub returns-in_default : goal.returns-in_default
returns-in_default c = words_in-whole _ (sym c.in_default.ensures.value)
