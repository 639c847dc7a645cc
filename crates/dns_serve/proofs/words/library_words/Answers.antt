use Rattle.dns_serve.proofs.SameWords.{same_words}
use Rattle.dns_serve.proofs.words.library_words.Goals as goal

pub returns : goal.returns
returns g words = same_words words
