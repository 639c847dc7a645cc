-- A chain of aliases: what it is put together from, and its limit.
use Rattle.std.proofs.Common.{◌≡◌, ℕ, zero, suc, ◌+◌, ◌-◌, ◌≤◌, List, [], ◌∷◌, ◌++◌, length, refl, sym, ap, ◌∙◌, arith, Bool, true, false, length-append, append_assoc}
use Rattle.std.specs.Prelude.{None, Some, Option, ◌==◌, ◌&&◌, not, option_map, option_to_list}
use Rattle.std.specs.List.{list_any}
use Rattle.std.proofs.lemmas.Bool.Decides.{nat_tests}
use Rattle.dns_name.specs.Name.{is_same_name, is_at_or_below}
use Rattle.dns_wire.specs.declared.record.Record.{Record}
use Rattle.dns_zone.specs.declared.look.Look.{Look}
use Rattle.dns_zone.specs.declared.look.Look.TheVariants.{Referral, NoName, Alias, Found, NoData}
use Rattle.dns_zone.specs.declared.lookup.Looked.{Looked}
use Rattle.dns_zone_map.specs.Zone.{Contents}
use Rattle.dns_zone.specs.Look.{only_if, look_of}
use Rattle.dns_zone.specs.Lookup.{Chain, target_of, targets, unless_asked, asked_along, ahead, behind, onward, next_of, next_look, answered, followed, chain_of, is_own, lookup_of, chain_from, limited}

-- what `answer` puts together
pub answer_is : (zone : Contents) (name : List (List ℕ)) (rtype : ℕ) (look : Look) (code : ℕ) (aa : Bool) (answers authority : List Record) → look ≡ look_of zone name rtype
    → aa ≡ is_own look → ◌≡◌ {A = Chain} (record { code = code; answers = answers; authority = authority }) (ahead [] (answered zone look (followed 7 zone rtype (name ∷ []))))
    → ◌≡◌ {A = Looked} (record { code = code; aa = aa; answers = answers; authority = authority }) (lookup_of zone name rtype)
unfolding lookup_of
answer_is zone name rtype look code aa answers authority l a c =
    let parts : ◌≡◌ {A = Chain} (record { code = code; answers = answers; authority = authority }) (ahead [] (chain_of 7 zone name rtype (name ∷ []))) = rw l at c in
    rw (a, l, ap (λ (k : Chain). k.code) parts, ap (λ (k : Chain). k.answers) parts, ap (λ (k : Chain). k.authority) parts) refl

targets_next : (aliases : List Record) (last : Record) (target : List (List ℕ)) → target_of last.rdata ≡ Some target → targets (aliases ++ last ∷ []) ≡ targets aliases ++ target ∷ []
targets_next [] last target is = rw is refl
targets_next (r ∷ aliases) last target is =
    ap (λ (ts : List (List (List ℕ))). option_to_list (target_of r.rdata) ++ ts) (targets_next aliases last target is)
    ∙ sym (append_assoc (option_to_list (target_of r.rdata)) (targets aliases) (target ∷ []))

next_target : (zone : Contents) (asked : List (List (List ℕ))) (found : Option (List (List ℕ))) (target : List (List ℕ)) → unless_asked zone asked found ≡ Some target → found ≡ Some target
next_target zone asked None target is = absurd cc
next_target zone asked (Some other) target is = by_test (is_at_or_below other zone.origin && not (list_any (is_same_name other) asked)) is
  where
    by_test : (b : Bool) → only_if b other ≡ Some target → Some other ≡ Some target
    by_test true is = is
    by_test false is = absurd cc

ahead_next : (aliases : List Record) (last : Record) (rest : Chain) → ahead (aliases ++ last ∷ []) rest ≡ ahead aliases (behind last rest)
ahead_next aliases last rest = rw append_assoc refl

-- where an alias leads to another, one more name was asked
pub chain_next : (more : ℕ) (zone : Contents) (rtype : ℕ) (first : List (List ℕ)) (aliases : List Record) (last next : Record) (chain : Chain)
    → next_look more zone rtype (asked_along first aliases) last ≡ Some (Alias next)
    → chain ≡ ahead (aliases ++ last ∷ []) (followed (more - 1) zone rtype (asked_along first (aliases ++ last ∷ [])) next)
    → chain ≡ ahead aliases (followed more zone rtype (asked_along first aliases) last)
chain_next zero zone rtype first aliases last next chain is c = absurd cc
chain_next (suc more) zone rtype first aliases last next chain is c = by_next (next_of zone (asked_along first aliases) last) refl is
  where
    by_next : (found : Option (List (List ℕ))) → next_of zone (asked_along first aliases) last ≡ found → option_map (λ target. look_of zone target rtype) found ≡ Some (Alias next)
        → chain ≡ ahead aliases (onward last found (λ target. answered zone (look_of zone target rtype) (followed more zone rtype (asked_along first aliases ++ target ∷ []))))
    by_next None at look = absurd cc
    by_next (Some target) at look =
        let leads : look_of zone target rtype ≡ Alias next = cc in
        let along : targets (aliases ++ last ∷ []) ≡ targets aliases ++ target ∷ [] = targets_next aliases last target (next_target zone (asked_along first aliases) (target_of last.rdata) target at) in
        let less : suc more - 1 ≡ more = omega arith in
        let here : chain ≡ ahead (aliases ++ last ∷ []) (followed more zone rtype (first ∷ (targets aliases ++ target ∷ [])) next) = rw (less, along) at c in
        rw leads (here ∙ ahead_next aliases last (followed more zone rtype (first ∷ (targets aliases ++ target ∷ [])) next))

answered-same : (zone : Contents) (look : Look) (f g : Record → Chain) → ((r : Record) → f r ≡ g r) → answered zone look f ≡ answered zone look g
answered-same zone (Referral ns) f g same = refl
answered-same zone NoName f g same = refl
answered-same zone (Alias r) f g same = same r
answered-same zone (Found found) f g same = refl
answered-same zone NoData f g same = refl

onward-same : (more : ℕ) (zone : Contents) (rtype : ℕ) (asked : List (List (List ℕ))) (r : Record) (next : Option (List (List ℕ))) → more + 1 + length asked ≡ 8
    → onward r next (λ target. chain_of more zone target rtype (asked ++ target ∷ [])) ≡ onward r next (λ target. chain_from zone target rtype (asked ++ target ∷ []))
onward-same more zone rtype asked r None count = refl
onward-same more zone rtype asked r (Some target) count =
    let left : more ≡ 8 - length (asked ++ target ∷ []) = omega (arith, length-append asked (target ∷ [])) in
    ap (λ (n : ℕ). behind r (chain_of n zone target rtype (asked ++ target ∷ []))) left

followed-limited : (more : ℕ) (zone : Contents) (rtype : ℕ) (asked : List (List (List ℕ))) (r : Record) → more + length asked ≡ 8 → followed more zone rtype asked r ≡ limited zone rtype asked r
followed-limited zero zone rtype asked r count =
    let eight : (length asked == 8) ≡ true = grind (arith, nat_tests) in
    rw eight refl
followed-limited (suc more) zone rtype asked r count =
    let other : (length asked == 8) ≡ false = grind (arith, nat_tests) in
    rw other (onward-same more zone rtype asked r (next_of zone asked r) (omega arith))

-- the limit of a chain, said of the names that were asked
pub chain_is : (zone : Contents) (name : List (List ℕ)) (rtype : ℕ) (asked : List (List (List ℕ))) → length asked ≤ 8
    → chain_from zone name rtype asked ≡ answered zone (look_of zone name rtype) (limited zone rtype asked)
chain_is zone name rtype asked few =
    answered-same zone (look_of zone name rtype) (followed (8 - length asked) zone rtype asked) (limited zone rtype asked)
    (λ r. followed-limited (8 - length asked) zone rtype asked r (omega arith))
