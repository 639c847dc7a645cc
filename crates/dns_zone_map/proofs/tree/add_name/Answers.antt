use Rattle.std.proofs.Common.{◌∙◌, ap, sym, ◌++◌, List, ℕ}
use Rattle.dns_zone_map.proofs.InEntries.{added_at}
use Rattle.dns_zone_map.proofs.tree.add_name.Goals as goal

pub returns-clause-ok : goal.returns-clause-ok
returns-clause-ok c =
    let keyed = c.in_ok-extend_from_slice.ensures.items ∙ ap (λ (bytes : List ℕ). bytes ++ c.args.key.now) c.in_ok-stored.ensures.items in
    added_at c.args.key.now c.args.names.now.entries _ c.extend_from_slice.new.self c.args.sets keyed (sym c.requires) c.in_ok-insert.ensures.entries
