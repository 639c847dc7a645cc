use Rattle.std.proofs.Common.{◌∙◌, ap, arith, rules}
use Rattle.std.specs.Prelude.{filter}
use Rattle.std.proofs.lemmas.Fn.{filter_same}
use Rattle.dns_zone_map.specs.declared.sets.RecordSet.{RecordSet}
use Rattle.dns_zone_map.specs.Changes.{is_kept_type}
use Rattle.dns_zone_map.proofs.Freed.{still_paired, freed_fewer, are_freed}
use Rattle.dns_zone_map.proofs.sets.OwnerSets.take_free.Goals as goal

pub record_count-requires-clause-paired : goal.record_count-requires-clause-paired
record_count-requires-clause-paired c = still_paired (λ (s : RecordSet). is_kept_type s.rtype) c.args.self.now c.retain.new.self.items c.requires.paired (filter_same _ (λ (s : RecordSet). is_kept_type s.rtype) _ (λ s b f q. search rules) _ _ c.retain.ensures.filtered ∙ ap (filter (λ (s : RecordSet). is_kept_type s.rtype)) c.self.view_is)

pub record_count-requires-clause-few : goal.record_count-requires-clause-few
record_count-requires-clause-few c = omega (arith, freed_fewer c.args.self.now c.retain.new.self.items 0 0 (filter_same _ (λ (s : RecordSet). is_kept_type s.rtype) _ (λ s b f q. search rules) _ _ c.retain.ensures.filtered ∙ ap (filter (λ (s : RecordSet). is_kept_type s.rtype)) c.self.view_is), c.requires.few)

pub overflow_sub-result : goal.overflow_sub-result
overflow_sub-result c = omega (arith, freed_fewer c.args.self.now c.retain.new.self.items 0 0 (filter_same _ (λ (s : RecordSet). is_kept_type s.rtype) _ (λ s b f q. search rules) _ _ c.retain.ensures.filtered ∙ ap (filter (λ (s : RecordSet). is_kept_type s.rtype)) c.self.view_is), c.record_count.ensures, c.record_count-before.ensures)

pub returns : goal.returns
returns c = are_freed c.args.self.now c.retain.new.self.items c.record_count-before.result c.record_count.result (filter_same _ (λ (s : RecordSet). is_kept_type s.rtype) _ (λ s b f q. search rules) _ _ c.retain.ensures.filtered ∙ ap (filter (λ (s : RecordSet). is_kept_type s.rtype)) c.self.view_is) c.record_count-before.ensures c.record_count.ensures
