use Rattle.std.proofs.Common.{sym, ap, ◌∙◌}
use Rattle.std.specs.Prelude.{option_map}
use Rattle.dns_name.specs.Name.{fold_of}
use Rattle.dns_wire.specs.Given.{kinds}
use Rattle.dns_wire.proofs.Lending.{kinds_given}
use Rattle.dns_wire.proofs.lent_records.LentRecords.as_kept.Goals as goal

pub returns : goal.returns
returns c = sym (kinds_given (option_map fold_of c.self.inside.owner) c.self.inside.is_negative c.self.inside.records.now) ∙ ap kinds c.self.view_is
