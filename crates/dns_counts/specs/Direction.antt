-- Which way a message goes.
use Rattle.std.specs.Prelude.{ℕ, List, codes}
use Rattle.dns_counts.specs.declared.direction.Direction.{Direction}
use Rattle.dns_counts.specs.declared.direction.Direction.TheVariants.{Request, Response}

-- the word that is printed
abbrev pub direction_text : Direction → List ℕ
direction_text Request = codes "request"
direction_text Response = codes "response"
