use Rattle.std.proofs.Common.{ℕ, ◌+◌, List, [], ◌∷◌, drop}
use Rattle.dns_wire.specs.Given.{kinds}
use Rattle.dns_counts.specs.declared.labels.TheConstants.{TYPE_CODES, CLASS_CODES}
use Rattle.dns_counts.proofs.Parts.{types-next, classes-next, types-none, classes-none, kinds-first, kinds-past}
use Rattle.dns_counts.proofs.lent.count_each.Goals as goal

pub loop-one-preserved : goal.loop-one-preserved
loop-one-preserved c =
    let first = kinds-first c.args.records.now c.loop-one.one-index c.one-item.result c.loop-one-test.true c.one-item.is in
    let one : List (ℕ × ℕ) = (c.one-item.result.rtype, c.one-item.result.class) ∷ [] in
    let others : List (ℕ × ℕ) = kinds (drop (c.loop-one.one-index + 1) c.args.records.now) in
    record {
      types = types-next TYPE_CODES _ _ _ _ one others first c.count_type.ensures c.loop-one.invariant.types;
      classes = classes-next CLASS_CODES _ _ _ _ one others first c.count_repeated_class.ensures c.loop-one.invariant.classes;
    }

pub returns-clause-types : goal.returns-clause-types
returns-clause-types c = types-none TYPE_CODES _ _ _ (kinds-past _ _ c.loop-one-test.false) c.loop-one.invariant.types

pub returns-clause-classes : goal.returns-clause-classes
returns-clause-classes c = classes-none CLASS_CODES _ _ _ (kinds-past _ _ c.loop-one-test.false) c.loop-one.invariant.classes
