-- The list beside the book, after a settle.
use Rattle.std.proofs.Common.{◌≡◌, ◌⊎◌, ⊎_elim, ℕ, zero, suc, ◌-◌, ◌≤◌, ◌==◌, ◌||◌, cond, eq-eqb, Bool, true, false, List, [], ◌∷◌, set, replicate, refl, sym, ap, ◌∙◌, subst, arith}
use Rattle.std.proofs.lemmas.Bool.Decides.{nat_tests}
use mathlib.Core.Option.{some, some-injective, some-ne-none}
use lib.ListN.{get_elem?}
use Rattle.dns_ticket_lock.specs.declared.held.Member.{Member}
use Rattle.dns_ticket_lock.specs.Lists.{total}
use Rattle.dns_ticket_lock.specs.Shares.{share_of, marks_stand, last, new_member}
use Rattle.dns_ticket_lock.proofs.Places.{both_true, true_both}

pub share_within : (ms : List Member) (i : ℕ) (m : Member) → get_elem? ms i ≡ some m → m.share ≤ total share_of ms
share_within [] i m e = absurd (some-ne-none m (sym e))
share_within (x ∷ xs) zero m e = let same : x.share ≡ m.share = ap share_of (some-injective x m e) in omega arith
share_within (x ∷ xs) (suc i) m e = let rest = share_within xs i m e in omega arith

mark_test : (faults : ℕ) (b : Bool) → (b ≡ true → faults ≡ last) → cond b (faults == last) true ≡ true
mark_test faults true h = eq-eqb faults last (h refl)
mark_test faults false h = refl

test_mark : (faults : ℕ) (b : Bool) → cond b (faults == last) true ≡ true → b ≡ true → faults ≡ last
test_mark faults b e is = let here : (faults == last) ≡ true = subst (λ (x : Bool). cond x (faults == last) true ≡ true) is e in grind (arith, nat_tests)

marks_later : (faults later : ℕ) (ms : List Member) → (faults ≡ last → later ≡ last) → marks_stand faults ms ≡ true → marks_stand later ms ≡ true
marks_later faults later [] more e = refl
marks_later faults later (m ∷ ms) more e =
    let two = both_true (cond m.mark (faults == last) true) (marks_stand faults ms) e in
    true_both (cond m.mark (later == last) true) (marks_stand later ms) (mark_test later m.mark (λ is. more (test_mark faults m.mark two.0 is))) (marks_later faults later ms more two.1)

or_true : (a b : Bool) → (a || b) ≡ true → (a ≡ true) ⊎ (b ≡ true)
or_true true b e = Rattle.std.proofs.Common.inl refl
or_true false b e = Rattle.std.proofs.Common.inr e

-- where a settle that counts no fault may add a mark, since the count is at its last value
pub marks_after : (faults later : ℕ) (ms : List Member) (i : ℕ) (m now : Member) (mark : Bool) → (faults ≡ last → later ≡ last) → (mark ≡ true → later ≡ last) → get_elem? ms i ≡ some m → now.mark ≡ (m.mark || mark)
    → marks_stand faults ms ≡ true → marks_stand later (set ms i now) ≡ true
marks_after faults later [] i m now mark more mine at is e = absurd (some-ne-none m (sym at))
marks_after faults later (x ∷ xs) zero m now mark more mine at is e =
    let two = both_true (cond x.mark (faults == last) true) (marks_stand faults xs) e in
    let same : x.mark ≡ m.mark = ap (λ (y : Member). y.mark) (some-injective x m at) in
    true_both (cond now.mark (later == last) true) (marks_stand later xs)
    (mark_test later now.mark (λ yes'. ⊎_elim (λ old. more (test_mark faults x.mark two.0 (same ∙ old))) mine (or_true m.mark mark (sym is ∙ yes'))))
    (marks_later faults later xs more two.1)
marks_after faults later (x ∷ xs) (suc i) m now mark more mine at is e =
    let two = both_true (cond x.mark (faults == last) true) (marks_stand faults xs) e in
    true_both (cond x.mark (later == last) true) (marks_stand later (set xs i now)) (mark_test later x.mark (λ is'. more (test_mark faults x.mark two.0 is')))
    (marks_after faults later xs i m now mark more mine at is two.1)

pub no_shares : (n : ℕ) → total share_of (replicate n new_member) ≡ 0
no_shares zero = refl
no_shares (suc n) = let rest = no_shares n in omega arith

pub no_marks : (faults n : ℕ) → marks_stand faults (replicate n new_member) ≡ true
no_marks faults zero = refl
no_marks faults (suc n) = no_marks faults n
