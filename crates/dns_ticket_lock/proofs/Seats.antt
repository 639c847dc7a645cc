-- The views of all seats after a change of one.
use Rattle.std.proofs.Common.{◌≡◌, ◌≢◌, ◌⊎◌, inl, inr, ⊎_elim, ℕ, zero, suc, ◌+◌, ◌<◌, ◌≤◌, true, false, true≢false, List, [], ◌∷◌, ◌++◌, set, length, Option, refl, sym, ap, subst, subst₂, ◌∙◌, arith}
use Rattle.std.proofs.lemmas.List.{length-append, append_assoc, append-nil}
use mathlib.Core.Option.{some, some-injective, some-ne-none}
use lib.ListN.{get_elem?}
use Rattle.atomic_table.proofs.Lists.{at_set, set_else, at_longer}
use Rattle.dns_keeper.specs.declared.row.Row.{Row}
use Rattle.dns_ticket_lock.specs.declared.held.Member.{Member}
use Rattle.dns_ticket_lock.specs.declared.view.Phase.{Phase}
use Rattle.dns_ticket_lock.specs.declared.view.Phase.TheVariants.{Idle}
use Rattle.dns_ticket_lock.specs.declared.view.Terms.{Terms}
use Rattle.dns_ticket_lock.specs.declared.view.View.{View}
use Rattle.dns_ticket_lock.specs.Lists.{StartsWith, with_head}
use Rattle.dns_ticket_lock.specs.Rule.{Naming, Fits, Stands, Clear, Apart, IsHome, has_book, tickets}

pub begins_more : (rows seen later : List Row) → StartsWith later rows → StartsWith rows seen → StartsWith later seen
begins_more rows seen later more less = (less.0 ++ more.0, more.1 ∙ (ap (λ (xs : List Row). xs ++ more.0) less.1 ∙ append_assoc seen less.0 more.0))

pub begins_within : (rows seen : List Row) → StartsWith rows seen → length seen ≤ length rows
begins_within rows seen begins = let is = ap (λ (l : List Row). length l) begins.1 in omega (arith, length-append seen begins.0)

pub begins_itself : (rows : List Row) → StartsWith rows rows
begins_itself rows = ([], sym (append-nil rows))

pub within : {X : Type 0} (l : List X) (i : ℕ) (a : X) → get_elem? l i ≡ some a → i < length l
within [] i a e = absurd (some-ne-none a (sym e))
within (x ∷ xs) zero a e = omega arith
within (x ∷ xs) (suc i) a e = let rest = within xs i a e in omega arith

pub there : {X : Type 0} (l : List X) (i : ℕ) → i < length l → (a : X) × (get_elem? l i ≡ some a)
there [] i h = absurd (omega arith)
there (x ∷ xs) zero h = (x, refl)
there (x ∷ xs) (suc i) h = there xs i (omega arith)

-- the last of a longer list, or one before
pub at_end : {X : Type 0} (l : List X) (a b : X) (j : ℕ) → get_elem? (l ++ a ∷ []) j ≡ some b → (get_elem? l j ≡ some b) ⊎ ((j ≡ length l) × (a ≡ b))
at_end [] a b zero e = inr (refl, some-injective a b e)
at_end [] a b (suc j) e = absurd (some-ne-none b (sym e))
at_end (x ∷ xs) a b zero e = inl e
at_end (x ∷ xs) a b (suc j) e = ⊎_elim (λ old. inl old) (λ new. inr (ap suc new.0, new.1)) (at_end xs a b j e)

-- where the first list ends
pub at_append : {X : Type 0} (l m : List X) (j : ℕ) (b : X) → get_elem? (l ++ m) j ≡ some b → (get_elem? l j ≡ some b) ⊎ ((k : ℕ) × (j ≡ length l + k) × (get_elem? m k ≡ some b))
at_append [] m j b e = inr (j, omega arith, e)
at_append (x ∷ xs) m zero b e = inl e
at_append (x ∷ xs) m (suc j) b e = ⊎_elim (λ old. inl old) (λ new. inr (new.0, (let is = new.1 in omega arith), new.2)) (at_append xs m j b e)

pub same_at : {X : Type 0} (l : List X) (i j : ℕ) (a b : X) → i ≡ j → get_elem? l i ≡ some a → get_elem? l j ≡ some b → a ≡ b
same_at l i j a b same at bt = some-injective a b (sym at ∙ (ap (get_elem? l) same ∙ bt))

-- a fact of each seat
pub all_set : (F : ℕ → View → Type 0) (views : List View) (id : ℕ) (w : View) → ((seat : ℕ) (x : View) → seat ≢ id → get_elem? views seat ≡ some x → F seat x) → F id w
    → (seat : ℕ) (x : View) → get_elem? (set views id w) seat ≡ some x → F seat x
all_set F views id w others mine seat x e = ⊎_elim
    (λ same. subst₂ F (sym same.0) same.1 mine)
    (λ other. others seat x other.0 other.1)
    (at_set views id seat w x e)

pub all_snoc : (F : ℕ → View → Type 0) (views : List View) (w : View) → ((seat : ℕ) (x : View) → get_elem? views seat ≡ some x → F seat x) → ((seat : ℕ) → F seat w)
    → (seat : ℕ) (x : View) → get_elem? (views ++ w ∷ []) seat ≡ some x → F seat x
all_snoc F views w others mine seat x e = ⊎_elim
    (λ old. others seat x old)
    (λ new. subst (F seat) new.1 (mine seat))
    (at_end views w x seat e)

pub clear_sym : (v w : View) → Clear v w → Clear w v
clear_sym v w c = λ k l small less e. c l k less small (sym e)

pub apart_set : (views : List View) (id : ℕ) (w : View) → ((j : ℕ) (x : View) → j ≢ id → get_elem? views j ≡ some x → Clear w x) → Apart views → Apart (set views id w)
apart_set views id w mine apart i j x y n at bt = ⊎_elim
    (λ here. ⊎_elim
    (λ too. absurd (n (here.0 ∙ sym too.0)))
    (λ other. subst (λ (u : View). Clear u y) here.1 (mine j y other.0 other.1))
    (at_set views id j w y bt))
    (λ away. ⊎_elim
    (λ here. subst (Clear x) here.1 (clear_sym w x (mine i x away.0 away.1)))
    (λ other. apart i j x y n away.1 other.1)
    (at_set views id j w y bt))
    (at_set views id i w x at)

-- where the accounts stay as many, at their place
pub apart_same : (views : List View) (id : ℕ) (v w : View) → get_elem? views id ≡ some v → w.low ≡ v.low → length w.accounts ≡ length v.accounts → Apart views → Apart (set views id w)
apart_same views id v w at low size apart = apart_set views id w
    (λ j x n bt k l small less e. apart id j v x (λ same. n (sym same)) at bt k l (omega arith) less (omega arith)) apart

pub apart_snoc : (views : List View) (w : View) → ((j : ℕ) (x : View) → get_elem? views j ≡ some x → Clear w x) → Apart views → Apart (views ++ w ∷ [])
apart_snoc views w mine apart i j x y n at bt = ⊎_elim
    (λ old. ⊎_elim
    (λ too. apart i j x y n old too)
    (λ new. subst (Clear x) new.1 (clear_sym w x (mine i x old)))
    (at_end views w y j bt))
    (λ new. ⊎_elim
    (λ too. subst (λ (u : View). Clear u y) new.1 (mine j y too))
    (λ both. absurd (n (new.0 ∙ sym both.0)))
    (at_end views w y j bt))
    (at_end views w x i at)

-- one that has a ticket is not idle
pub not_idle : (p : Phase) → tickets p ≡ 1 → p ≢ Idle
not_idle p one is = let none : tickets p ≡ 0 = ap tickets is in omega arith

-- one that has the book has a ticket
pub has_ticket : (p : Phase) → has_book p ≡ true → tickets p ≡ 1
has_ticket Idle e = absurd (true≢false (sym e))
has_ticket p e = refl

-- the home stays as it is where a seat that doesn't have the book changes
pub home_stays : {H : Type 0} (N : Naming H) (t : Terms) (homes : List (mathlib.Core.Option.Option (Option H))) (views : List View) (rows : List Row) (members : List Member) (id : ℕ) (v w : View) → get_elem? views id ≡ some v → has_book v.phase ≡ false → has_book w.phase ≡ false
    → IsHome N t homes views rows members → IsHome N t homes (set views id w) rows members
home_stays N t homes views rows members id v w at old new (inl here) =
    inl (here.0, here.1, here.2, all_set (λ seat (x : View). has_book x.phase ≡ false) views id w (λ seat x n e. here.3 seat x e) new)
home_stays N t homes views rows members id v w at old new (inr away) =
    let apart : away.1 ≢ id = λ same. true≢false (sym away.4 ∙ (ap (λ (y : View). has_book y.phase) (same_at views away.1 id away.2 v same away.3 at) ∙ old)) in
    inr (away.0, away.1, away.2, set_else views id away.1 w apart ∙ away.3, away.4, away.5, away.6)

pub home_longer : {H : Type 0} (N : Naming H) (t : Terms) (homes : List (mathlib.Core.Option.Option (Option H))) (views : List View) (rows : List Row) (members : List Member) (w : View) → has_book w.phase ≡ false
    → IsHome N t homes views rows members → IsHome N t homes (views ++ w ∷ []) rows members
home_longer N t homes views rows members w new (inl here) =
    inl (here.0, here.1, here.2, all_snoc (λ seat (x : View). has_book x.phase ≡ false) views w here.3 (λ seat. new))
home_longer N t homes views rows members w new (inr away) =
    inr (away.0, away.1, away.2, at_longer views (w ∷ []) away.1 away.2 away.3, away.4, away.5, away.6)

pub length_head : {X : Type 0} (f : X → X) (xs : List X) → length (with_head f xs) ≡ length xs
length_head f [] = refl
length_head f (x ∷ xs) = refl

-- the facts of a seat that drew no ticket, or stands as it did
pub restand : (t : Terms) (queue later : List ℕ) (rows : List Row) (members : List Member) (serving now seat : ℕ) (x : View) → Fits t queue rows members serving seat x
    → (x.phase ≢ Idle → Stands queue serving seat x → Stands later now seat x) → Fits t later rows members now seat x
restand t queue later rows members serving now seat x f moves =
    record { terms = f.terms; room = f.room; owns = f.owns; stands = λ busy. moves busy (f.stands busy); meets = f.meets }
