use Rattle.std.proofs.Common.{◌∙◌, ap}
use Rattle.std.specs.Prelude.{option_map}
use Rattle.dns_name.specs.Name.{fold_of}
use Rattle.dns_zone.specs.declared.look.Look.TheVariants.{Alias}
use Rattle.dns_zone.proofs.Looking.{alias_found, none_found, set_found}
use Rattle.dns_zone.proofs.look.look_in.Goals as goal

pub returns-in-Some-clause-is : goal.returns-in-Some-clause-is
returns-in-Some-clause-is c = ap Alias c.new.ensures ∙ alias_found c.args.sets.now (option_map fold_of c.args.asked) c.args.rtype c.in-Some.alias.now c.in-Some.ensures

pub returns-in-None-clause-is : goal.returns-in-None-clause-is
returns-in-None-clause-is c = none_found c.args.sets.now (option_map fold_of c.args.asked) c.args.rtype c.in_default.ensures c.if-rtype-eq-ANY.false c.in-None.ensures

pub returns-in-Some-set-clause-is : goal.returns-in-Some-set-clause-is
returns-in-Some-set-clause-is c =
    set_found c.args.sets.now (option_map fold_of c.args.asked) c.args.rtype c.in_default.ensures c.if-rtype-eq-ANY.false c.in-Some-set.set.now c.from_ref.result.now c.new-in-Some-set.result c.found_or_none-in-Some-set.result c.in-Some-set.ensures c.from_ref.ensures.value
    c.new-in-Some-set.ensures c.found_or_none-in-Some-set.ensures
