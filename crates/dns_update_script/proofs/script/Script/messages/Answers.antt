-- The records of the sendings are of their types, so those of their updates are.
use Rattle.std.proofs.Common.{sym, subst}
use Rattle.std.specs.List.{AllByRecursion}
use Rattle.dns_wire.specs.ReadBack.{IsPlain}
use Rattle.dns_update_script.specs.Plain.{ArePlain}
use Rattle.dns_update_script.proofs.Plainness.{IsPlain-meant_by}
use Rattle.dns_update_script.proofs.script.Script.messages.Goals as goal

pub returns-clause-plain : goal.returns-clause-plain
returns-clause-plain c =
    subst (AllByRecursion IsPlain) (sym c.in_ok-messages.ensures)
    (IsPlain-meant_by c.as_slice.result.now c.args.first_id (subst ArePlain (sym c.as_slice.ensures.sendings) c.as_slice.ensures.plain))
