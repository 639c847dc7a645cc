use Rattle.std.proofs.Common.{◌≡◌, ℕ, List, subst}
use Rattle.std.specs.Prelude.{OnOk}
use Rattle.dns_name.proofs.Wire.{IsWire-spelled, labels_of-spelled}
use Rattle.dns_presentation.proofs.entry.refill.Goals as goal

pub refill-requires : goal.refill-requires
refill-requires c = IsWire-spelled _ _ c.labels.ensures.name c.as_wire.ensures.bytes

pub returns : goal.returns
returns c = subst (λ (n : List (List ℕ)). OnOk c.refill.result (c.refill.new.self ≡ n)) (labels_of-spelled _ _ c.as_wire.ensures.bytes) c.refill.ensures.ok
