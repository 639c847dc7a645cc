use Rattle.std.proofs.Common.{◌∙◌, ◌++◌, ◌+◌, ap, sym, subst, rules, append_assoc, List, drop}
use Rattle.std.specs.List.{AllByRecursion}
use Rattle.std.proofs.lemmas.List.Concat.{flat_map-append}
use Rattle.dns_zone_map.specs.Order.{Numbered}
use Rattle.dns_zone_map.specs.Sets.{ArePaired, in_sets}
use Rattle.dns_zone_map.specs.Table.{all_in}
use Rattle.dns_zone_map.specs.Tree.{in_entries}
use Rattle.dns_zone_map.proofs.Rest.{Entries, all_front, all_back}
use Rattle.dns_zone_map.proofs.Table.{Entry, next_in}
use Rattle.dns_zone_map.proofs.listing.push_all.Goals as goal

pub push_tree-requires : goal.push_tree-requires
push_tree-requires c =
    let ts = c.trees-tree-items.result.now in
    let i = c.loop-tree.tree-index in
    let t = c.tree-item.result in
    let next = next_in ts i t (search rules) (search rules) in
    all_front (λ (e : Entry). ArePaired e.1) t.entries (all_in (drop (i + 1) ts)) (subst (AllByRecursion (λ (e : Entry). ArePaired e.1)) next c.loop-tree.invariant.paired)

pub loop-tree-preserved : goal.loop-tree-preserved
loop-tree-preserved c =
    let ts = c.trees-tree-items.result.now in
    let i = c.loop-tree.tree-index in
    let t = c.tree-item.result in
    let next = next_in ts i t (search rules) (search rules) in
    let rest = all_in (drop (i + 1) ts) in
    record {
      paired = all_back (λ (e : Entry). ArePaired e.1) t.entries rest (subst (AllByRecursion (λ (e : Entry). ArePaired e.1)) next c.loop-tree.invariant.paired);
      all =
          ap (λ (xs : List Numbered). xs ++ in_entries rest) c.in_ok-push_tree.ensures ∙ append_assoc c.loop-tree.all.items (in_entries t.entries) (in_entries rest)
          ∙ ap (λ (xs : List Numbered). c.loop-tree.all.items ++ xs) (sym (flat_map-append (λ (e : Entry). in_sets e.1) t.entries rest)) ∙ ap (λ (es : Entries). c.loop-tree.all.items ++ in_entries es) (sym next) ∙ c.loop-tree.invariant.all;
    }
