-- The records of all types, as they are gathered from one type that there is to the next.
use Rattle.std.proofs.Common.{◌≡◌, ℕ, ◌+◌, ◌-◌, ◌<◌, ◌≤◌, zero, suc, List, [], ◌++◌, refl, sym, ap, ◌∙◌, arith}
use Rattle.dns_wire.specs.declared.record.Record.{Record}
use Rattle.dns_zone_map.specs.Zone.{set_of}
use Rattle.dns_zone.specs.Look.{Owner, found_set, found_from}

none_found : (records : List Record) (owner : Owner) (rtype : ℕ) → set_of records owner.name rtype ≡ [] → found_set records owner rtype ≡ []
none_found records owner rtype none = rw none refl

-- types of which there is no record are passed over
found-skip : (records : List Record) (owner : Owner) (first gap more : ℕ)
    → ((rtype : ℕ) → first ≤ rtype → rtype < first + gap → set_of records owner.name rtype ≡ [])
    → found_from records owner first (gap + more) ≡ found_from records owner (first + gap) more
unfolding found_from
found-skip records owner first zero more none =
    let a : zero + more ≡ more = omega arith in
    let b : first + zero ≡ first = omega arith in
    rw (a, b) refl
found-skip records owner first (suc gap) more none =
    let a : suc gap + more ≡ suc (gap + more) = omega arith in
    let b : first + suc gap ≡ first + 1 + gap = omega arith in
    rw (a, b, none_found records owner first (none first (omega arith) (omega arith)))
    (found-skip records owner (first + 1) gap more (λ rtype above below. none rtype (omega arith) (omega arith)))

-- up to a type of which there may be some
pub found-next : (records : List Record) (owner : Owner) (first rtype last : ℕ) → first ≤ rtype → rtype < last
    → ((other : ℕ) → first ≤ other → other < rtype → set_of records owner.name other ≡ [])
    → found_set records owner rtype ++ found_from records owner (rtype + 1) (last - (rtype + 1)) ≡ found_from records owner first (last - first)
unfolding found_from
found-next records owner first rtype last h k none =
    let a : last - first ≡ (rtype - first) + suc (last - (rtype + 1)) = omega arith in
    let b : rtype ≡ first + (rtype - first) = omega arith in
    rw a (sym (found-skip records owner first (rtype - first) (suc (last - (rtype + 1))) (λ other above below. none other above (omega arith)) ∙ ap (λ n. found_from records owner n (suc (last - (rtype + 1)))) (sym b)))

-- up to the last
pub found-end : (records : List Record) (owner : Owner) (first last : ℕ) → first ≤ last
    → ((other : ℕ) → first ≤ other → other < last → set_of records owner.name other ≡ []) → found_from records owner first (last - first) ≡ []
unfolding found_from
found-end records owner first last h none =
    let a : last - first ≡ (last - first) + zero = omega arith in
    rw a (found-skip records owner first (last - first) zero (λ other above below. none other above (omega arith)))
