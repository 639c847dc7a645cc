-- What stripping the key answers is what follows it.
use Rattle.dns_words.proofs.Stripping.{behind-answer}
use Rattle.dns_words.proofs.keys.behind.Goals as goal

pub returns : goal.returns
returns c = behind-answer _ _ _ c.strip_prefix.ensures.cases
