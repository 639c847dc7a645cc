use Rattle.std.proofs.Common.{[], ◌∷◌, ◌++◌, ap, ◌∙◌}
use Rattle.dns_name.proofs.OpenNames.{IsOpenAt-start, pieces_of-start}
use Rattle.dns_name.proofs.name_text.Parsing.new.Goals as goal

pub invariant_of-result : goal.invariant_of-result
invariant_of-result c = IsOpenAt-start _ (c.in_ok-push.ensures.items ∙ ap (λ xs. xs ++ 0 ∷ []) c.in_ok-wire.ensures.items)

pub returns : goal.returns
returns c = pieces_of-start _ (c.in_ok-push.ensures.items ∙ ap (λ xs. xs ++ 0 ∷ []) c.in_ok-wire.ensures.items)
