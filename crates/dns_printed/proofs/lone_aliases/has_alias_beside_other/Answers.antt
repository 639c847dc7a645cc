use Rattle.std.proofs.Common.{◌<◌, ℕ, zero, suc, List, [], ◌∷◌, length, map, get_or, arith, ap, subst, sym, ◌∙◌, Bor}
use Rattle.std.specs.List.{AllByRecursion}
use Rattle.dns_name.specs.Name.{is_at_or_below}
use Rattle.dns_wire.specs.declared.record.Record.{Record}
use Rattle.dns_zone_map.specs.Zone.{IsEntry}
use Rattle.dns_printed.proofs.lone_aliases.has_alias_beside_other.Goals as goal

entry_at : (origin : List (List ℕ)) (held : List (Bor Record)) (place : ℕ) (d : Bor Record) → AllByRecursion (IsEntry origin) (map (λ (r : Bor Record). r.now) held) → place < length held → IsEntry origin (get_or held place d).now
entry_at origin [] place d entries within = absurd (omega arith)
entry_at origin (r ∷ held) zero d entries within = entries.0
entry_at origin (r ∷ held) (suc place) d entries within = entry_at origin held place d entries.1 (omega arith)

pub owns_another_type-requires : goal.owns_another_type-requires
owns_another_type-requires c =
    let origin = c.args.zone.now.origin in
    let entry = entry_at origin c.args.records.now c.loop-one.one-index c.one-item.result (subst (AllByRecursion (IsEntry origin)) (sym c.requires.records) c.requires.zone.entries) c.loop-one-test.true in
    ap (λ (r : Bor Record). is_at_or_below r.now.name origin) c.one-item.is ∙ entry.within
