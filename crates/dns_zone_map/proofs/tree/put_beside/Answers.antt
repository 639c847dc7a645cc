use Rattle.std.proofs.Common.{◌≡◌, ◌∙◌, ◌++◌, sym, ap, subst, List, ℕ, Some, None, true, false, rules}
use Rattle.std.specs.BTreeMap.{get}
use Rattle.std.specs.BTreeMap.Entry.{entry_value}
use Rattle.std.specs.Option.{IsSome}
use Rattle.std.specs.Ordering.{nat_cmp}
use Rattle.std.specs.Cmp.Lexicographic.{slice_cmp}
use Rattle.dns_zone_map.proofs.InEntries.{added_at, found_at, written_at, added_in_vain, beside_name, beside_new_name, as_before, rising_found}
use Rattle.dns_zone_map.proofs.CanBeUndone.{written_others}
use Rattle.dns_zone_map.proofs.tree.put_beside.Goals as goal

pub put_among-requires : goal.put_among-requires
put_among-requires c =
    let keyed = c.in_ok-extend_from_slice.ensures.items ∙ ap (λ (bytes : List ℕ). bytes ++ c.args.key.now) c.in_ok-stored.ensures.items in
    let at = sym c.into_mut.ensures.value ∙ ap entry_value (sym c.in-Occupied.is) ∙ c.in_ok-held.ensures.value in
    let found = found_at c.args.key.now c.args.number c.args.one c.args.names.now.entries c.args.names.now.entries c.extend_from_slice.new.self (Some c.into_mut.result.now) keyed at in
    rising_found c.args.key.now c.args.number c.args.one c.args.names.now.entries c.args.names.now.entries c.into_mut.result.now c.requires found

pub returns-in-Occupied-clause-put : goal.returns-in-Occupied-clause-put
returns-in-Occupied-clause-put c =
    let es = c.args.names.now.entries in
    let keyed = c.in_ok-extend_from_slice.ensures.items ∙ ap (λ (bytes : List ℕ). bytes ++ c.args.key.now) c.in_ok-stored.ensures.items in
    let at = sym c.into_mut.ensures.value ∙ ap entry_value (sym c.in-Occupied.is) ∙ c.in_ok-held.ensures.value in
    let found = found_at c.args.key.now c.args.number c.args.one es es c.extend_from_slice.new.self (Some c.into_mut.result.now) keyed at in
    let is = c.in_ok-held.ensures.update.1 c.put_among.new.sets in
    beside_name c.args.key.now c.args.number c.args.one es _ c.into_mut.result.now c.put_among.new.sets c.put_among.result found (written_at c.args.key.now c.args.number c.args.one es _ c.extend_from_slice.new.self c.into_mut.result.now c.put_among.new.sets keyed c.in_ok-held.ensures.ordered at (search (rules, is))) c.put_among.ensures.put

pub returns-in-Occupied-clause-others : goal.returns-in-Occupied-clause-others
returns-in-Occupied-clause-others c there =
    let es = c.args.names.now.entries in
    let keyed = c.in_ok-extend_from_slice.ensures.items ∙ ap (λ (bytes : List ℕ). bytes ++ c.args.key.now) c.in_ok-stored.ensures.items in
    let at = sym c.into_mut.ensures.value ∙ ap entry_value (sym c.in-Occupied.is) ∙ c.in_ok-held.ensures.value in
    let is = c.in_ok-held.ensures.update.1 c.put_among.new.sets in
    written_others c.args.key.now es _ c.put_among.new.sets
    (written_at c.args.key.now c.args.number c.args.one es _ c.extend_from_slice.new.self c.into_mut.result.now c.put_among.new.sets keyed c.in_ok-held.ensures.ordered at (search (rules, is)))

pub returns-in-Occupied-clause-err : goal.returns-in-Occupied-clause-err
returns-in-Occupied-clause-err c =
    let es = c.args.names.now.entries in
    let keyed = c.in_ok-extend_from_slice.ensures.items ∙ ap (λ (bytes : List ℕ). bytes ++ c.args.key.now) c.in_ok-stored.ensures.items in
    let at = sym c.into_mut.ensures.value ∙ ap entry_value (sym c.in-Occupied.is) ∙ c.in_ok-held.ensures.value in
    let found = found_at c.args.key.now c.args.number c.args.one es es c.extend_from_slice.new.self (Some c.into_mut.result.now) keyed at in
    let is = c.in_ok-held.ensures.update.1 c.put_among.new.sets in
    as_before c.args.key.now c.args.number c.args.one es _ c.into_mut.result.now c.put_among.new.sets c.put_among.result found (written_at c.args.key.now c.args.number c.args.one es _ c.extend_from_slice.new.self c.into_mut.result.now c.put_among.new.sets keyed c.in_ok-held.ensures.ordered at (search (rules, is))) c.put_among.ensures.err

pub returns-in-Ok-clause-put : goal.returns-in-Ok-clause-put
returns-in-Ok-clause-put c =
    let es = c.args.names.now.entries in
    let keyed = c.in_ok-extend_from_slice.ensures.items ∙ ap (λ (bytes : List ℕ). bytes ++ c.args.key.now) c.in_ok-stored.ensures.items in
    let none : get (λ x y. slice_cmp nat_cmp x.items y.items) c.args.names.now c.extend_from_slice.new.self ≡ None = rw c.in-Vacant.is at c.in_ok-held.ensures.found in
    let absent = found_at c.args.key.now c.args.number c.args.one es es c.extend_from_slice.new.self None keyed (sym none) in
    let is = c.in_ok-held.ensures.update.1 c.insert.result.now in
    beside_new_name c.args.key.now c.args.number c.args.one es _ c.insert.result.now absent (c.insert.ensures.value ∙ c.in-Ok.ensures)
    (added_at c.args.key.now es _ c.extend_from_slice.new.self c.insert.result.now keyed absent (search (rules, is)))

pub returns-in-Ok-clause-others : goal.returns-in-Ok-clause-others
returns-in-Ok-clause-others c there =
    let keyed = c.in_ok-extend_from_slice.ensures.items ∙ ap (λ (bytes : List ℕ). bytes ++ c.args.key.now) c.in_ok-stored.ensures.items in
    let none : get (λ x y. slice_cmp nat_cmp x.items y.items) c.args.names.now c.extend_from_slice.new.self ≡ None = rw c.in-Vacant.is at c.in_ok-held.ensures.found in
    let absent = found_at c.args.key.now c.args.number c.args.one c.args.names.now.entries c.args.names.now.entries c.extend_from_slice.new.self None keyed (sym none) in
    let no : false ≡ true = subst IsSome (sym absent) there in
    absurd cc

pub returns-in-Err-clause-others : goal.returns-in-Err-clause-others
returns-in-Err-clause-others c there =
    let keyed = c.in_ok-extend_from_slice.ensures.items ∙ ap (λ (bytes : List ℕ). bytes ++ c.args.key.now) c.in_ok-stored.ensures.items in
    let none : get (λ x y. slice_cmp nat_cmp x.items y.items) c.args.names.now c.extend_from_slice.new.self ≡ None = rw c.in-Vacant.is at c.in_ok-held.ensures.found in
    let absent = found_at c.args.key.now c.args.number c.args.one c.args.names.now.entries c.args.names.now.entries c.extend_from_slice.new.self None keyed (sym none) in
    let no : false ≡ true = subst IsSome (sym absent) there in
    absurd cc

pub returns-in-Err-clause-err : goal.returns-in-Err-clause-err
returns-in-Err-clause-err c =
    let es = c.args.names.now.entries in
    let keyed = c.in_ok-extend_from_slice.ensures.items ∙ ap (λ (bytes : List ℕ). bytes ++ c.args.key.now) c.in_ok-stored.ensures.items in
    let none : get (λ x y. slice_cmp nat_cmp x.items y.items) c.args.names.now c.extend_from_slice.new.self ≡ None = rw c.in-Vacant.is at c.in_ok-held.ensures.found in
    let absent = found_at c.args.key.now c.args.number c.args.one es es c.extend_from_slice.new.self None keyed (sym none) in
    let is = c.in_ok-held.ensures.update.1 c.insert-in-Err.result.now in
    added_in_vain c.args.key.now c.args.number c.args.one es _ c.extend_from_slice.new.self c.insert-in-Err.result.now _ keyed absent (search (rules, is)) c.remove.ensures.entries
