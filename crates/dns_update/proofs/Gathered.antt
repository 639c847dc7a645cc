-- A gathered set is compared once.
use Rattle.std.proofs.Common.{◌≡◌, ℕ, zero, suc, ◌+◌, ◌<◌, List, [], ◌∷◌, length, get_or, take, drop, refl, sym, ap, ◌∙◌, subst, arith, Bool, true, false}
use Rattle.std.specs.Prelude.{◌==◌, ◌||◌}
use Rattle.std.specs.List.{AllByRecursion}
use Rattle.std.proofs.lemmas.Bool.Decides.{Decides-eqb}
use Rattle.dns_name.specs.Name.{fold_of, is_same_name}
use Rattle.dns_name.proofs.SameNames.{is_same_name-Decides}
use Rattle.dns_wire.specs.declared.record.Record.{Record}
use Rattle.dns_zone_map.specs.Zone.{is_in_set, set_of}
use Rattle.dns_zone_map.specs.Existence.{owns_type}
use Rattle.dns_update.specs.Verdict.{set_rule, and_then, in_turn}
use Rattle.dns_update.specs.declared.verdict.Verdict.{Verdict}
use Rattle.dns_update.specs.declared.verdict.Verdict.TheVariants.{Passes}
use Rattle.dns_update.proofs.SameRecords.{both_of}

-- one name has one set
set_same : (records : List Record) (a b : List (List ℕ)) (rtype : ℕ) → fold_of a ≡ fold_of b → set_of records a rtype ≡ set_of records b rtype
set_same [] a b rtype same = refl
set_same (s ∷ records) a b rtype same =
    rw (same, set_same records a b rtype same) refl

rule_same : (records gathered : List Record) (g r : Record) → is_in_set r.name r.rtype g ≡ true → set_rule records gathered g ≡ set_rule records gathered r
rule_same records gathered g r h =
    let parts = both_of (g.rtype == r.rtype) (is_same_name g.name r.name) h in
    let number : g.rtype ≡ r.rtype = (Decides-eqb g.rtype r.rtype).0 parts.0 in
    let name : fold_of g.name ≡ fold_of r.name = (is_same_name-Decides g.name r.name).0 parts.1 in
    rw (number, set_same gathered g.name r.name r.rtype name, set_same records g.name r.name r.rtype name) refl

-- what passed at a record of a set passes at each
pub passed_before : (records gathered before : List Record) (r : Record) → AllByRecursion (λ g. set_rule records gathered g ≡ Passes) before → owns_type before r.name r.rtype ≡ true → set_rule records gathered r ≡ Passes
passed_before records gathered [] r done owns = absurd cc
passed_before records gathered (g ∷ before) r done owns = by (is_in_set r.name r.rtype g) refl owns (passed_before records gathered before r done.1)
  where
    by : (b : Bool) → is_in_set r.name r.rtype g ≡ b → (b || owns_type before r.name r.rtype) ≡ true → (owns_type before r.name r.rtype ≡ true → set_rule records gathered r ≡ Passes) → set_rule records gathered r ≡ Passes
    by true e h rest = sym (rule_same records gathered g r e) ∙ done.0
    by false e h rest = rest h

-- the record at a place comes next
pub turn_at : (rule : Record → Verdict) (records : List Record) (i : ℕ) (r : Record) → i < length records → r ≡ get_or records i r → in_turn rule (drop i records) ≡ and_then (rule r) (in_turn rule (drop (suc i) records))
turn_at rule [] i r h is = absurd (omega arith)
turn_at rule (s ∷ records) zero r h is = ap (λ (x : Record). and_then (rule x) (in_turn rule records)) (sym is)
turn_at rule (s ∷ records) (suc i) r h is = turn_at rule records i r (omega arith) is

pub all_at : (P : Record → Type 0) (records : List Record) (i : ℕ) (r : Record) → i < length records → r ≡ get_or records i r → AllByRecursion P (take i records) → P r → AllByRecursion P (take (suc i) records)
all_at P [] i r h is all p = absurd (omega arith)
all_at P (s ∷ records) zero r h is all p = (subst P is p, tt)
all_at P (s ∷ records) (suc i) r h is all p = (all.0, all_at P records i r (omega arith) is all.1 p)

-- a record whose set has passed before is passed over
pub passed_over : (records gathered : List Record) (i : ℕ) (r : Record) (all : Verdict) → i < length gathered → r ≡ get_or gathered i r → owns_type (take i gathered) r.name r.rtype ≡ true
    → in_turn (set_rule records gathered) (drop i gathered) ≡ all → AllByRecursion (λ g. set_rule records gathered g ≡ Passes) (take i gathered)
    → (in_turn (set_rule records gathered) (drop (i + 1) gathered) ≡ all) × AllByRecursion (λ g. set_rule records gathered g ≡ Passes) (take (i + 1) gathered)
passed_over records gathered i r all h is owns left done =
    let rule : Record → Verdict = set_rule records gathered in
    let passes : rule r ≡ Passes = passed_before records gathered (take i gathered) r done owns in
    let next : suc i ≡ i + 1 = omega arith in
    let turn : in_turn rule (drop (suc i) gathered) ≡ all = sym (turn_at rule gathered i r h is ∙ ap (λ v. and_then v (in_turn rule (drop (suc i) gathered))) passes) ∙ left in
    (subst (λ (n : ℕ). in_turn rule (drop n gathered) ≡ all) next turn, subst (λ (n : ℕ). AllByRecursion (λ g. rule g ≡ Passes) (take n gathered)) next (all_at (λ g. rule g ≡ Passes) gathered i r h is done passes))
