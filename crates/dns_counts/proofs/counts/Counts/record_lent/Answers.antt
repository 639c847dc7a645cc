use Rattle.dns_counts.specs.Counters.{counters}
use Rattle.dns_counts.specs.Labels.{codes_of, lookups, classes, types}
use Rattle.dns_counts.proofs.Counted.{counted-none, known-none, grown-nil}
use Rattle.dns_counts.proofs.counts.Counts.record_lent.Goals as goal

pub returns-in-Some : goal.returns-in-Some
unfolding counters
returns-in-Some c =
    rw (
      ← c.self.view_is,
      ← c.replied.view_is,
      c.in-Some.is,
      grown-nil c.self.inside.records,
      grown-nil c.self.inside.modified,
      c.count_flags.ensures,
      c.count_flags_in.ensures,
      c.count_protocol.ensures,
      c.count_code.ensures,
      c.from.ensures,
      c.count_response.ensures,
      c.count_known.ensures,
      c.count_type.ensures,
      c.count_class.ensures,
      c.count_parts.ensures.types,
      c.count_parts.ensures.classes,
    )

pub returns-in-None : goal.returns-in-None
unfolding counters
returns-in-None c =
    rw (
      ← c.self.view_is,
      ← c.replied.view_is,
      c.in-None.is,
      grown-nil c.self.inside.records,
      grown-nil c.self.inside.modified,
      counted-none (codes_of types) c.self.inside.request_types,
      counted-none (codes_of types) c.self.inside.response_types,
      counted-none (codes_of classes) c.self.inside.request_classes,
      counted-none (codes_of classes) c.self.inside.response_classes,
      known-none (codes_of lookups) c.self.inside.lookups,
      c.count_flags.ensures,
      c.count_flags_in.ensures,
      c.count_protocol.ensures,
      c.count_code.ensures,
      c.from.ensures,
      c.count_response.ensures,
    )
