use Rattle.std.proofs.Common.{◌+◌, ◌-◌, [], ◌∷◌, ◌++◌, refl, ap, ◌∙◌, arith, set, length-drop}
use Rattle.dns_name.specs.NameParsing.{Pieces}
use Rattle.dns_name.proofs.OpenNames.{IsOpenAt-closed, pieces_of-closed}
use Rattle.dns_name.proofs.name_text.Parsing.close.Goals as goal

pub invariant_of-self-2 : goal.invariant_of-self-2
invariant_of-self-2 c =
    let size = length-drop (c.self.inside.place + 1) c.self.inside.wire.items in
    let whole = c.self.inside.wire.ok.0 in
    IsOpenAt-closed c.self.inside.wire.items _ c.self.inside.place _ _ c.self.invariant refl (c.len-end.ensures ∙ whole) (ap (λ xs. set xs c.self.inside.place (c.len-end.result - c.self.inside.place - 1)) c.in_ok-push.ensures.items) (omega arith, omega arith)

pub returns-clause-ok : goal.returns-clause-ok
returns-clause-ok c =
    pieces_of-closed c.self.inside.wire.items _ c.self.inside.place _ _ c.self.invariant refl (c.len-end.ensures ∙ c.self.inside.wire.ok.0) (ap (λ xs. set xs c.self.inside.place (c.len-end.result - c.self.inside.place - 1)) c.in_ok-push.ensures.items)
    ∙ ap (λ (p : Pieces). record { labels = p.labels ++ p.label ∷ []; label = [] }) c.self.view_is
