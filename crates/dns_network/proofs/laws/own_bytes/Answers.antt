use Rattle.std.proofs.Common.{Bool, true, false, ◌≡◌, [], List, ℕ, if◌then◌else◌, refl}
use Rattle.dns_network.proofs.Words.{moved_one, moved_none}
use Rattle.dns_network.proofs.laws.own_bytes.Goals as goal

abbrev none : List ℕ
none = []

nothing : (b : Bool) → (if b then none else none) ≡ none
nothing true = refl
nothing false = refl

pub returns-clause-read : goal.returns-clause-read
returns-clause-read c = λ n m xs room count. moved_one _ xs _

pub returns-clause-not_read : goal.returns-clause-not_read
returns-clause-not_read c = λ n m xs room refused. moved_none _ xs _ (nothing _)

pub returns-clause-written : goal.returns-clause-written
returns-clause-written c = λ n m xs bytes count. moved_one _ xs _

pub returns-clause-not_written : goal.returns-clause-not_written
returns-clause-not_written c = λ n m xs bytes refused. moved_none _ xs _ (nothing _)
