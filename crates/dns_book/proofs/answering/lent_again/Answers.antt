use Rattle.std.proofs.Common.{ℕ, List, ap, ◌∙◌}
use Rattle.dns_wire.specs.declared.question.Question.{Question}
use Rattle.dns_name.proofs.Wire.{IsWire-spelled, labels_of-spelled}
use Rattle.dns_book.proofs.answering.lent_again.Goals as goal

pub of_wire-requires : goal.of_wire-requires
of_wire-requires c = IsWire-spelled _ _ c.as_wire-wire.ensures.name c.as_wire-wire.ensures.bytes

pub returns : goal.returns
returns c =
    let again : List (List ℕ) → Question = λ name. record { name = name; qtype = c.question.inside.qtype; qclass = c.question.inside.qclass } in
    ap again (c.of_wire.ensures ∙ labels_of-spelled _ _ c.as_wire-wire.ensures.bytes) ∙ c.question.view_is
