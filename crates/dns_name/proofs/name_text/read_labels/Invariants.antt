use Rattle.std.proofs.Common.{◌≡◌, [], length}
use Rattle.dns_name.specs.NameText.{symbols_of, labels_from}
use Rattle.dns_name.specs.NameParsing.{reading_of}
use Rattle.dns_name.proofs.name_text.read_labels.Given as goal

abbrev pub invariant-loop-rest : goal.invariant-loop-rest
invariant-loop-rest l = reading_of l.parsing (symbols_of 0 l.rest) ≡ labels_from [] (symbols_of 0 l.text)

abbrev pub decreases-loop-rest : goal.decreases-loop-rest
decreases-loop-rest l = length l.rest
