use Rattle.std.proofs.Common.{◌≡◌, ◌++◌, take, drop}
use Rattle.dns_update_script.specs.Words.{before_blank, from_blank}
use Rattle.dns_update_script.proofs.words.cut_word.Given as goal

abbrev pub invariant-loop-place : goal.invariant-loop-place
invariant-loop-place l = record {
  before : take l.place l.text ++ before_blank (drop l.place l.text) ≡ before_blank l.text;
  from : from_blank (drop l.place l.text) ≡ from_blank l.text;
}
