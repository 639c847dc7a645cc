use Rattle.std.proofs.Common.{◌∙◌, refl, ap, sym, List, ℕ}
use Rattle.dns_counts.specs.Counting.{grown, seen_or_unknown}
use Rattle.dns_counts.specs.Counters.{types_in, classes_in, classed}
use Rattle.dns_counts.specs.declared.labels.TheConstants.{TYPE_CODES, CLASS_CODES}
use Rattle.dns_counts.proofs.Counted.{counted-none}
use Rattle.dns_counts.proofs.Parts.{kinds-empty, kinds-rest, types-of-run}
use Rattle.dns_counts.proofs.lent.count_records.Goals as goal

pub returns-in_default-clause-types : goal.returns-in_default-clause-types
returns-in_default-clause-types c =
    sym (counted-none TYPE_CODES c.args.types.now)
    ∙ ap (λ (ps : List (ℕ × ℕ)). grown c.args.types.now (seen_or_unknown TYPE_CODES (types_in ps))) (sym (kinds-empty _ c.in_default.len_below))

pub returns-in_default-clause-classes : goal.returns-in_default-clause-classes
returns-in_default-clause-classes c =
    sym (counted-none CLASS_CODES c.args.classes.now)
    ∙ ap (λ (ps : List (ℕ × ℕ)). grown c.args.classes.now (seen_or_unknown CLASS_CODES (classes_in (classed ps)))) (sym (kinds-empty _ c.in_default.len_below))

pub returns-then-are_of-clause-types : goal.returns-then-are_of-clause-types
returns-then-are_of-clause-types c =
    let run = kinds-rest c.args.records.now c.first-item.result c.in-len1-up.len_at_least c.first-item.is (c.if-are_of.ensures refl) in
    c.count_type.ensures
    ∙ ap (λ (ts : List ℕ). grown c.args.types.now (seen_or_unknown TYPE_CODES ts)) (sym (types-of-run c.args.records.now c.first-item.result.rtype c.first-item.result.class run))

pub returns-then-are_of-clause-classes : goal.returns-then-are_of-clause-classes
returns-then-are_of-clause-classes c =
    let run = kinds-rest c.args.records.now c.first-item.result c.in-len1-up.len_at_least c.first-item.is (c.if-are_of.ensures refl) in
    c.count_repeated_class.ensures
    ∙ ap (λ (ps : List (ℕ × ℕ)). grown c.args.classes.now (seen_or_unknown CLASS_CODES (classes_in (classed ps)))) (sym run)
