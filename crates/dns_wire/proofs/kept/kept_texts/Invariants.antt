use Rattle.dns_wire.specs.Texts.{AreTexts}
use Rattle.dns_wire.specs.Kept.{AreOfBytes}
use Rattle.dns_wire.proofs.kept.kept_texts.Given as goal

abbrev pub invariant-loop-text : goal.invariant-loop-text
invariant-loop-text l = AreTexts l.texts × (AreOfBytes l.left → AreOfBytes l.texts)
