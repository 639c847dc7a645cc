-- Items that were read so far, and what stands behind them.
use Rattle.std.proofs.Common.{◌≡◌, ℕ, ◌+◌, ◌<◌, ◌≤◌, List, [], ◌∷◌, ◌++◌, length, refl, sym, ap, subst, ◌∙◌, arith, append_assoc, length-append, Option, Some}
use Rattle.std.proofs.lemmas.List.{append-nil}
use Rattle.dns_wire.specs.Standing.{Reads}
use Rattle.dns_wire.specs.Sections.{ItemsAt, Section, StopsAt}

-- in the middle of a section: what stands here completes the items that were read
pub record ReadSoFar {X : Type 0} (At : ℕ → X → ℕ → Type 0) (i : ℕ) (items : List X) (at : ℕ) : Type 0 where
  pub forth : ItemsAt At i items at
  pub back : (xs : List X) (j : ℕ) → ItemsAt At i xs j → length items ≤ length xs → (more : List X) × (xs ≡ items ++ more) × ItemsAt At at more j

pub ItemsAt-push : {X : Type 0} (At : ℕ → X → ℕ → Type 0) (i at k : ℕ) (items : List X) (x : X) → ItemsAt At i items at → At at x k → ItemsAt At i (items ++ x ∷ []) k
ItemsAt-push At i at k [] x a b = (k, subst (λ (z : ℕ). At z x k) a b, refl)
ItemsAt-push At i at k (y ∷ ys) x a b = (a.0, a.1, ItemsAt-push At a.0 at k ys x a.2 b)

module _ {X : Type 0} {At : ℕ → X → ℕ → Type 0} {i : ℕ} {items : List X} {at : ℕ} (f : ReadSoFar At i items at) where
  -- the next of items that go on
  next_of : (more : List X) (xs : List X) → xs ≡ items ++ more → length items < length xs → (y : X) × (ys : List X) × (more ≡ y ∷ ys)
  next_of [] xs e h = absurd (omega (arith, ap length e, length-append items []))
  next_of (y ∷ ys) xs e h = (y, ys, refl)

  -- what was read is the next one of any items that stand
  pub ReadSoFar-next : (x : X) (k : ℕ) (read : Option (X × ℕ)) → Reads (At at) read → read ≡ Some (x, k) → ReadSoFar At i (items ++ x ∷ []) k
  ReadSoFar-next x k read r e =
      let s : Reads (At at) (Some (x, k)) = subst (λ (z : Option (X × ℕ)). Reads (At at) z) e r in
      record {
        forth = ItemsAt-push At i at k items x f.forth s.found;
        back = λ xs j a h.
            let size : length items + 1 ≤ length xs = omega (arith, length-append items (x ∷ [])) in
            let b = f.back xs j a (omega arith) in
            let n = next_of b.0 xs b.1 (omega arith) in
            let t : ItemsAt At at (n.0 ∷ n.1) j = subst (λ (z : List X). ItemsAt At at z j) n.2 b.2 in
            let o = s.only n.0 t.0 t.1 in
            let whole : xs ≡ items ++ (x ∷ n.1) = b.1 ∙ ap (λ z. items ++ z) n.2 ∙ ap (λ (z : X). items ++ (z ∷ n.1)) (sym o.0) in
            (n.1, whole ∙ sym (append_assoc items (x ∷ []) n.1), subst (λ (z : ℕ). ItemsAt At z n.1 j) (sym o.1) t.2);
      }

  pub ReadSoFar-done : (Obeys : List X → Type 0) (n : ℕ) → Obeys items → length items ≡ n → Section At Obeys i n items at × ((xs : List X) (j : ℕ) → Section At Obeys i n xs j → (items ≡ xs) × (at ≡ j))
  ReadSoFar-done Obeys n o size = (
    record { stand = f.forth; obey = o; count = size },
    λ xs j s.
        let b = f.back xs j s.stand (omega (arith, s.count)) in
        ended xs j b.0 b.1 b.2 (omega (arith, s.count, ap length b.1, length-append items b.0)),
  )
    where
      ended : (xs : List X) (j : ℕ) (more : List X) → xs ≡ items ++ more → ItemsAt At at more j → length more ≡ 0 → (items ≡ xs) × (at ≡ j)
      ended xs j [] e a h = (sym (e ∙ append-nil items), sym a)
      ended xs j (y ∷ ys) e a h = absurd (omega arith)

  pub ReadSoFar-stops : (Obeys : List X → Type 0) (n : ℕ) → Obeys items → length items < n → ((x : X) (k : ℕ) → At at x k → Obeys (items ++ x ∷ []) → ⊥) → ((xs ys : List X) → Obeys (xs ++ ys) → Obeys xs) → StopsAt At Obeys i n at × ((xs : List X) (j : ℕ) → Section At Obeys i n xs j → ⊥)
  ReadSoFar-stops Obeys n o few none closed = (
    record { items = items; stand = f.forth; obey = o; fewer = few; none = none },
    λ xs j s.
        let b = f.back xs j s.stand (omega (arith, s.count)) in
        let n = next_of b.0 xs b.1 (omega (arith, s.count)) in
        let t : ItemsAt At at (n.0 ∷ n.1) j = subst (λ (z : List X). ItemsAt At at z j) n.2 b.2 in
        let whole : xs ≡ (items ++ n.0 ∷ []) ++ n.1 = b.1 ∙ ap (λ z. items ++ z) n.2 ∙ sym (append_assoc items (n.0 ∷ []) n.1) in
        none n.0 t.0 t.1 (closed (items ++ n.0 ∷ []) n.1 (subst Obeys whole s.obey)),
  )
