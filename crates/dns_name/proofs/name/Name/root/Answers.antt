use Rattle.std.proofs.Common.{[]}
use Rattle.dns_name.proofs.Wire.{IsWire-spelled, labels_of-spelled, IsName-nil}
use Rattle.dns_name.proofs.name.Name.root.Goals as goal

pub invariant_of-result : goal.invariant_of-result
invariant_of-result c = IsWire-spelled _ [] IsName-nil c.new.ensures.items

pub returns : goal.returns
returns c = labels_of-spelled _ [] c.new.ensures.items
