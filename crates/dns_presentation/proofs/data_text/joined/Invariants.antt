use Rattle.std.proofs.Common.{◌≡◌, [], drop}
use Rattle.dns_presentation.specs.DataText.{joined}
use Rattle.dns_presentation.proofs.data_text.joined.Given as goal

abbrev pub invariant-loop-word : goal.invariant-loop-word
invariant-loop-word l = joined l.digits.items (drop l.word-index l.words) ≡ joined [] l.words
