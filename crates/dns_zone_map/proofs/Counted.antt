-- How many records sets have.
use Rattle.std.proofs.Common.{◌≡◌, ℕ, ◌+◌, ◌<◌, List, ◌∷◌, length, get_or, drop, sym, ap, ◌∙◌, subst, length-append}
use Rattle.std.proofs.lemmas.List.{drop_more}
use Rattle.dns_zone_map.specs.declared.sets.RecordSet.{RecordSet}
use Rattle.dns_zone_map.specs.Sets.{in_set, in_sets, ArePaired}
use Rattle.dns_zone_map.proofs.Taken.{length-numbered}

-- the next set of those that are left to count
pub next_set : (ss : List RecordSet) (i : ℕ) (s : RecordSet) → i < length ss → s ≡ get_or ss i s → ArePaired (drop i ss) → ArePaired (drop (i + 1) ss) × (length (in_sets (drop i ss)) ≡ length s.records + length (in_sets (drop (i + 1) ss)))
next_set ss i s within at paired =
    let more : drop i ss ≡ s ∷ drop (i + 1) ss = drop_more ss i s within ∙ ap (λ (x : RecordSet). x ∷ drop (i + 1) ss) (sym at) in
    let p : ArePaired (s ∷ drop (i + 1) ss) = subst ArePaired more paired in
    (p.1, ap (λ (xs : List RecordSet). length (in_sets xs)) more ∙ length-append (in_set s) (in_sets (drop (i + 1) ss)) ∙ ap (λ (n : ℕ). n + length (in_sets (drop (i + 1) ss))) (length-numbered s.numbers s.records p.0))
