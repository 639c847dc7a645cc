use Rattle.std.proofs.Common.{ℕ, ◌+◌, ◌-◌, List, length, take, drop, ap, ◌∙◌}
use Rattle.dns_wire.specs.declared.record.Record.{Record}
use Rattle.dns_wire.specs.Given.{in_parts, kinds}
use Rattle.dns_counts.specs.Counting.{grown, seen_or_unknown}
use Rattle.dns_counts.specs.Counters.{types_in, classes_in, classed}
use Rattle.dns_counts.specs.declared.labels.TheConstants.{TYPE_CODES, CLASS_CODES}
use Rattle.dns_counts.proofs.Parts.{types-next, classes-next, types-none, classes-none, kinds-next, kinds-front, parts-end}
use Rattle.dns_counts.proofs.lent.count_parts.Goals as goal

pub loop-part-preserved : goal.loop-part-preserved
loop-part-preserved c =
    let kept : List Record = c.as_kept-records.result.now in
    let first : List (ℕ × ℕ) = kinds (take c.loop-part.left kept) in
    let others : List (ℕ × ℕ) = kinds (take (c.loop-part.left - length c.part-item.result) (in_parts (drop (c.loop-part.part-index + 1) c.args.parts.now))) in
    let next = kinds-next c.args.parts.now c.loop-part.part-index c.loop-part.left c.part-item.result kept c.loop-part-test.true c.part-item.is c.as_kept-records.ensures in
    let front = kinds-front kept c.split_at.result.0.now c.loop-part.left c.min.result c.split_at.ensures.front c.min.ensures in
    rw (c.saturating_sub-left.ensures, c.len.ensures)
    (record {
      types = types-next TYPE_CODES _ _ _ _ first others next (c.count_records.ensures.types ∙ ap (λ (ps : List (ℕ × ℕ)). grown c.loop-part.types (seen_or_unknown TYPE_CODES (types_in ps))) front) c.loop-part.invariant.types;
      classes = classes-next CLASS_CODES _ _ _ _ first others next (c.count_records.ensures.classes ∙ ap (λ (ps : List (ℕ × ℕ)). grown c.loop-part.classes (seen_or_unknown CLASS_CODES (classes_in (classed ps)))) front) c.loop-part.invariant.classes;
    })

pub returns-clause-types : goal.returns-clause-types
returns-clause-types c = types-none TYPE_CODES _ _ _ (parts-end c.args.parts.now c.loop-part.part-index c.loop-part.left c.loop-part-test.false) c.loop-part.invariant.types

pub returns-clause-classes : goal.returns-clause-classes
returns-clause-classes c = classes-none CLASS_CODES _ _ _ (parts-end c.args.parts.now c.loop-part.part-index c.loop-part.left c.loop-part-test.false) c.loop-part.invariant.classes
