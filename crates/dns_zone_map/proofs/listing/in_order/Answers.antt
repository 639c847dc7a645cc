use Rattle.std.proofs.Common.{◌≡◌, ◌∙◌, ap, subst, map, rules, List, ◌++◌, IfOk}
use Rattle.std.proofs.lemmas.List.Sorted.{IsNonDecreasingBy-from_sort_by_key}
use Rattle.std.proofs.lemmas.Fn.{always_returns_same}
use Rattle.dns_zone_map.specs.Order.{Numbered, plain, list_of}
use Rattle.dns_zone_map.specs.Tree.{in_entries}
use Rattle.dns_zone_map.proofs.SameOrder.{listed_is}
use Rattle.dns_zone_map.proofs.listing.in_order.Goals as goal

pub returns : goal.returns
returns c =
    let all : c.push_all.new.all.items ≡ in_entries c.args.names.now = c.in_ok-push_all.ensures ∙ ap (λ (xs : List Numbered). xs ++ in_entries c.args.names.now) c.in_ok-all.ensures.items in
    subst (λ (xs : List Numbered). IfOk c.without_numbers.result (λ records. map (λ r. r.now) records.items ≡ list_of xs)) all
    (listed_is (λ records. map (λ r. r.now) records.items) c.push_all.new.all.items c.sort_by_key.new.self.items c.without_numbers.result
    (IsNonDecreasingBy-from_sort_by_key (λ (y : Numbered). y.number) c.sort_by_key.new.self.items c.in_ok-sort_by_key.ensures.sorted (λ a r q k. search rules))
    (c.in_ok-sort_by_key.ensures.stable (λ (y : Numbered). y.number) (always_returns_same _ _ _ (λ a r q k. search rules)))
    (subst (λ (xs : List Numbered). IfOk c.without_numbers.result (λ records. map (λ r. r.now) records.items ≡ map plain xs)) c.deref.ensures.value c.without_numbers.ensures))
