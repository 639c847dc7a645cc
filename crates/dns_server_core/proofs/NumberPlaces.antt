-- Where a number stands among numbers that climb.
use Rattle.std.proofs.Common.{◌≡◌, ◌≢◌, ◌<◌, ℕ, ◌+◌, List, [], ◌∷◌, length, get_or, take, drop, arith, zero, suc, subst}
use Rattle.std.specs.List.{AllByRecursion}
use Rattle.std.proofs.lemmas.List.{take-append-drop}
use Rattle.dns_server_core.specs.Connections.{Connection}
use Rattle.dns_server_core.specs.Order.{Climbs}
use Rattle.dns_server_core.proofs.KeptOrder.{all_weaker, all_push, all_at}

before_by : (ks : List Connection) (i : ℕ) (d : Connection) (n : ℕ) → Climbs ks → i < length ks → (get_or ks i d).number < n → AllByRecursion (λ k. k.number < n) (take (suc i) ks)
before_by [] i d n c l p = absurd (omega arith)
before_by (k ∷ ks) zero d n c l p = (p, tt)
before_by (k ∷ ks) (suc i) d n c l p =
    let q = all_at (λ j. k.number < j.number) ks i d (omega arith) c.0 in
    (omega (arith, p, q), before_by ks i d n c.1 (omega arith) p)

-- those through a place whose number is below
pub all_before : (ks : List Connection) (i : ℕ) (d : Connection) (n : ℕ) → Climbs ks → i < length ks → (get_or ks i d).number < n → AllByRecursion (λ k. k.number < n) (take (i + 1) ks)
all_before ks i d n c l p =
    let e : suc i ≡ i + 1 = omega arith in
    subst (λ (j : ℕ). AllByRecursion (λ (k : Connection). k.number < n) (take j ks)) e (before_by ks i d n c l p)

-- those from a place on whose number is above
pub all_behind : (ks : List Connection) (i : ℕ) (d : Connection) (n : ℕ) → Climbs ks → i < length ks → n < (get_or ks i d).number → AllByRecursion (λ k. n < k.number) (drop i ks)
all_behind [] i d n c l p = absurd (omega arith)
all_behind (k ∷ ks) zero d n c l p = (p, all_weaker (λ j. k.number < j.number) (λ j. n < j.number) (λ j q. omega (arith, p, q)) ks c.0)
all_behind (k ∷ ks) (suc i) d n c l p = all_behind ks i d n c.1 (omega arith) p

-- none is of a number that all before a place are below, and all behind it above
pub all_other : (ks : List Connection) (i : ℕ) (n : ℕ) → AllByRecursion (λ k. k.number < n) (take i ks) → AllByRecursion (λ k. n < k.number) (drop i ks) → AllByRecursion (λ k. k.number ≢ n) ks
all_other ks i n a b =
    subst (λ (l : List Connection). AllByRecursion (λ (k : Connection). k.number ≢ n) l) (take-append-drop i ks)
    (all_push (λ k. k.number ≢ n) (take i ks) (drop i ks)
    (all_weaker (λ k. k.number < n) (λ k. k.number ≢ n) (λ k p q. omega (arith, p, q)) (take i ks) a)
    (all_weaker (λ k. n < k.number) (λ k. k.number ≢ n) (λ k p q. omega (arith, p, q)) (drop i ks) b))
