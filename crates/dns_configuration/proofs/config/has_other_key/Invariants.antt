use Rattle.std.proofs.Common.{◌≡◌}
use Rattle.toml.specs.View.{members_view}
use Rattle.dns_configuration.specs.Config.{zone_path_key, has_other_key}
use Rattle.dns_configuration.proofs.config.has_other_key.Given as goal

abbrev pub invariant-loop-key : goal.invariant-loop-key
invariant-loop-key l =
    (goal.iterator-loop-key).can_next l.key-iterator ×
    (goal.iterator-loop-key).is_finite l.key-iterator ×
    (has_other_key zone_path_key (members_view l.key-iterator) ≡ has_other_key zone_path_key (members_view l.table.entries))
