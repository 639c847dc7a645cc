use Rattle.std.proofs.Common.{◌≡◌, ◌≤◌, [], length, drop}
use Rattle.dns_wire.specs.Texts.{texts_bytes}
use Rattle.dns_presentation.specs.DataText.{strings_from}
use Rattle.dns_presentation.proofs.data_text.strings_of.Given as goal

abbrev pub invariant-loop-word : goal.invariant-loop-word
invariant-loop-word l = record {
  size_is : l.size ≡ length (texts_bytes l.strings);
  short : l.size ≤ 65535;
  strings_are : strings_from l.strings (drop l.word-index l.words) ≡ strings_from [] l.words;
}
