-- Neighbours of which the first does not end a batch are of one client and one serial.
use Rattle.std.proofs.Common.{◌≡◌, inl, inr, ℕ, ℤ, pos, ◌+ℤ◌, ◌+◌, ◌<◌, ◌≤◌, List, [], ◌∷◌, ◌++◌, length, get_or, take, drop, Bool, true, false, refl, sym, ap, ◌∙◌, subst, arith}
use Rattle.std.specs.Prelude.{◌||◌}
use Rattle.std.specs.Ordering.{int_eq}
use Rattle.std.specs.List.{All}
use Rattle.std.proofs.lemmas.Int.{ints}
use Rattle.std.proofs.lemmas.List.{drop-append-le, length-append, length-take-le, get_or-take, get_or_at}
use Rattle.std.proofs.lemmas.List.Elements.{All-get_or}
use Rattle.std.proofs.lemmas.Bool.{cases_lt}
use Rattle.std.proofs.lemmas.Bool.Decides.{Decides-int_eq}
use Rattle.dns_keeper.specs.declared.row.Row.{Row}
use Rattle.dns_keeper.specs.declared.batch_row.BatchRow.{BatchRow}
use Rattle.dns_follow.specs.Feed.{ends_batch}
use Rattle.dns_follow.proofs.Parts.{NumberedFrom, AreOneBatch, Parts}
use Rattle.dns_follow.proofs.Fronts.{id_at, numbered_drop}

pub record Alike (a b : Row) : Type 0 where
  pub client : a.client ≡ b.client
  pub serial : a.serial ≡ b.serial

-- the element behind a front, within the first c
holds_at : (P : Row → Type 0) (rows front : List Row) (x : Row) (back : List Row) (c : ℕ) → rows ≡ front ++ x ∷ back → length front < c → c ≤ length rows
    → All P (take c rows) → P x
holds_at P rows front x back c parts within fits all =
    let long : length (take c rows) ≡ c = length-take-le c rows fits in
    let within' : length front < length (take c rows) = omega arith in
    let is : get_or (take c rows) (length front) x ≡ x =
    get_or-take c rows (length front) x within ∙ ap (λ l. get_or l (length front) x) parts ∙ get_or_at front x back x (length front) refl in
    subst P is (All-get_or P (take c rows) (length front) x within' all)

second_at : (front : List Row) (a b : Row) (back : List Row) → front ++ a ∷ b ∷ back ≡ (front ++ a ∷ []) ++ b ∷ back
second_at [] a b back = refl
second_at (x ∷ front) a b back = ap (λ l. x ∷ l) (second_at front a b back)

-- no batch of two lists of batches ends there
no_end : (p q : Bool) → (p || q) ≡ false → (p ≡ false) × (q ≡ false)
no_end true q e = absurd cc
no_end false q e = (refl, e)

-- a batch that ends there, by numbers
end_at : (first count id : ℤ) (a c p : ℕ) → first ≡ pos a → count ≡ pos c → id ≡ pos p → a + c ≡ p + 1 → first +ℤ count ≡ id +ℤ pos 1
end_at first count id a c p e f g h = omega (arith, ints)

pub next_alike : (id : ℕ) (rows : List Row) (batches : List BatchRow) → NumberedFrom id rows → Parts id rows batches
    → (front : List Row) (a b : Row) (back : List Row) → rows ≡ front ++ a ∷ b ∷ back → ends_batch batches a.id ≡ false → Alike a b
next_alike id rows [] numbered parts front a b back at none =
    let long : length rows ≡ length front + length (a ∷ b ∷ back) = ap length at ∙ length-append front (a ∷ b ∷ back) in
    let short : length rows ≡ 0 = ap length parts in
    absurd (omega arith)
next_alike id rows (t ∷ batches) numbered parts front a b back at none =
    let none' = no_end (int_eq (t.first +ℤ t.count) (a.id +ℤ pos 1)) (ends_batch batches a.id) none in
    let placed : a.id ≡ pos (id + length front) = id_at id front a (b ∷ back) (subst (λ (l : List Row). NumberedFrom id l) at numbered) in
    let apart : (id + parts.0 ≡ id + length front + 1) → ⊥ = λ e.
    let yes : int_eq (t.first +ℤ t.count) (a.id +ℤ pos 1) ≡ true =
    (Decides-int_eq (t.first +ℤ t.count) (a.id +ℤ pos 1)).1 (end_at t.first t.count a.id id parts.0 (id + length front) parts.1 parts.2 placed e) in
    let no : int_eq (t.first +ℤ t.count) (a.id +ℤ pos 1) ≡ false = none'.0 in absurd cc in
    let one : AreOneBatch (take parts.0 rows) = parts.5 in
    elim (cases_lt (length front + 1) parts.0) [
      | inl within ↦
          let P : Row → Type 0 = λ row. (row.client ≡ one.0) × (row.serial ≡ one.1) in
          let within' : length front < parts.0 = omega arith in
          let pushed : length (front ++ a ∷ []) < parts.0 = omega (arith, length-append front (a ∷ [])) in
          let of_a : P a = holds_at P rows front a (b ∷ back) parts.0 at within' parts.4 one.2 in
          let of_b : P b = holds_at P rows (front ++ a ∷ []) b back parts.0 (at ∙ second_at front a b back) pushed parts.4 one.2 in
          record { client = of_a.0 ∙ sym of_b.0; serial = of_a.1 ∙ sym of_b.1 }
      | inr past ↦
          let past' : parts.0 ≤ length front = elim (cases_lt (length front) parts.0) [ inl h ↦ absurd (apart (omega arith)) | inr h ↦ h ] in
          let at' : drop parts.0 rows ≡ drop parts.0 front ++ a ∷ b ∷ back = ap (λ l. drop parts.0 l) at ∙ drop-append-le parts.0 front (a ∷ b ∷ back) past' in
          next_alike (id + parts.0) (drop parts.0 rows) batches (numbered_drop id parts.0 rows numbered) parts.6 (drop parts.0 front) a b back at' none'.1
    ]
