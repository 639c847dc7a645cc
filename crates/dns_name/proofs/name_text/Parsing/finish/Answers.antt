use Rattle.std.proofs.Common.{ap, ◌∙◌}
use Rattle.dns_name.specs.NameText.{short_name}
use Rattle.dns_name.specs.NameParsing.{Pieces}
use Rattle.dns_name.proofs.OpenNames.{IsWire-closed, long_name}
use Rattle.dns_name.proofs.name_text.Parsing.finish.Goals as goal

pub returns-then-place-gt-MAX_WIRE_LEN : goal.returns-then-place-gt-MAX_WIRE_LEN
returns-then-place-gt-MAX_WIRE_LEN c =
    ap short_name c.in_ok-wire.ensures.ok ∙ long_name _ _ _ c.wire.invariant c.if-place-gt-MAX_WIRE_LEN.true (ap (λ (p : Pieces). p.labels) c.wire.view_is)

pub from_wire-requires : goal.from_wire-requires
from_wire-requires c = IsWire-closed _ _ _ c.wire.invariant c.if-place-gt-MAX_WIRE_LEN.false c.truncate.ensures.items
