-- Passes put into a list in the order of their numbers.
use Rattle.std.proofs.Common.{◌≡◌, ⊎_elim, ℕ, zero, suc, ◌+◌, ◌<◌, List, [], ◌∷◌, ◌++◌, length, replicate, refl, sym, ap, ◌∙◌, arith}
use Rattle.atomic_table.proofs.Lists.{at_longer, at_last}
use Rattle.dns_ticket_lock.specs.declared.view.Account.{Account}
use Rattle.dns_ticket_lock.specs.declared.view.Terms.{Terms}
use Rattle.dns_ticket_lock.specs.declared.view.View.{View}
use Rattle.dns_ticket_lock.specs.Lists.{only_first, but_first}
use Rattle.dns_ticket_lock.specs.Rule.{fresh, view_of}
use Rattle.dns_ticket_lock.specs.Passes.{BookId, PassSeen, InOrder, AreNew}
use Rattle.dns_ticket_lock.proofs.Seats.{at_end}

pub snoc_order : (book : BookId) (ps : List PassSeen) (p : PassSeen) → InOrder book ps → p.book ≡ book → p.number ≡ length ps + 1 → InOrder book (ps ++ p ∷ [])
snoc_order book ps p order here number k q e = ⊎_elim
    (λ old. order k q old)
    (λ new. (ap (λ (x : PassSeen). x.book) (sym new.1) ∙ here, ap (λ (x : PassSeen). x.number) (sym new.1) ∙ (number ∙ ap (λ (n : ℕ). n + 1) (sym new.0))))
    (at_end ps p q k e)

pub snoc_new : (t : Terms) (ps : List PassSeen) (p : PassSeen) → AreNew t ps → p.terms ≡ t → p.account ≡ fresh t → AreNew t (ps ++ p ∷ [])
snoc_new t ps p all terms here k q e = ⊎_elim
    (λ old. all k q old)
    (λ new. (ap (λ (x : PassSeen). x.terms) (sym new.1) ∙ terms, ap (λ (x : PassSeen). x.account) (sym new.1) ∙ here))
    (at_end ps p q k e)

pub before_last : (book : BookId) (ps : List PassSeen) (p : PassSeen) → InOrder book (ps ++ p ∷ []) → InOrder book ps
before_last book ps p order k q e = order k q (at_longer ps (p ∷ []) k q e)

pub is_last : (book : BookId) (ps : List PassSeen) (p : PassSeen) → InOrder book (ps ++ p ∷ []) → (p.book ≡ book) × (p.number ≡ length ps + 1)
is_last book ps p order = order (length ps) p (at_last ps p (length ps) refl)

pub first_of_new : (a : Account) (n : ℕ) → 0 < n → only_first (replicate n a) ≡ a ∷ []
first_of_new a zero h = absurd (omega arith)
first_of_new a (suc n) h = refl

pub others_of_new : (a : Account) (n m : ℕ) → n ≡ m + 1 → but_first (replicate n a) ≡ replicate m a
others_of_new a zero m e = absurd (omega arith)
others_of_new a (suc n) m e = ap (λ (k : ℕ). replicate k a) (omega arith)

pub one_is : (vs : List View) → length vs ≡ 1 → vs ≡ view_of vs ∷ []
one_is [] e = absurd (omega arith)
one_is (v ∷ []) e = refl
one_is (v ∷ w ∷ vs) e = absurd (omega arith)
