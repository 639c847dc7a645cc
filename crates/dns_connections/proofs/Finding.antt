-- Where the connection of a number stands, in numbers that rise.
use Rattle.std.proofs.Common.{◌≡◌, ◌≤◌, ◌<◌, ◌+◌, ◌⊎◌, ◌^◌, ◌++◌, inl, inr, ℕ, zero, suc, List, [], ◌∷◌, length, get_or, Bool, true, false, ◌&&◌, ◌||◌, nat_eq, nat_le, nat_lt, if◌then◌else◌, Result, Ok, Err, IfOk, refl, sym, ap, subst, ◌∙◌, arith}
use Rattle.std.specs.List.{list_any}
use Rattle.std.proofs.lemmas.Bool.{cases_lt, cases_order, eq-eqb, lt-ltb, ne_eqb}
use Rattle.dns_network.specs.Calls.{Noted, shut}
use Rattle.dns_connections.specs.Crowds.{asked_with, handed_piece, handed_with, has_full, has_open}
use Rattle.dns_connections.specs.Kept.{Climb}
use Rattle.dns_connections.specs.Links.{LinkSeen, IsAt, IsNone, Rises, is_of, is_open, left_of, link_at}
use Rattle.dns_connections.proofs.Keeping.{all_at}
use Rattle.dns_connections.proofs.Crowding.{here_is}

pub rises : (os : List LinkSeen) (next : ℕ) → Climb os next → (i j : ℕ) → i < j → j < length os → (link_at os i).number < (link_at os j).number
rises [] next c i j l m = absurd (omega (arith, m))
rises (o ∷ os) next c zero zero l m = absurd (omega (arith, l))
rises (o ∷ os) next c zero (suc j) l m = all_at (λ p. o.number < p.number) os j (omega (arith, m)) c.1
rises (o ∷ os) next c (suc i) zero l m = absurd (omega (arith, l))
rises (o ∷ os) next c (suc i) (suc j) l m = rises os next c.2 i j (omega (arith, l)) (omega (arith, m))

-- one of another number, and one that does not stand, is not it
other_is : (n : ℕ) (o : LinkSeen) → (o.number ≡ n → ⊥) → is_of n o ≡ false
other_is n o h = ap (λ (b : Bool). b && o.stands) (ne_eqb o.number n h)

and_false : (b : Bool) → (b && false) ≡ false
and_false true = refl
and_false false = refl

ended_is : (n : ℕ) (o : LinkSeen) → o.stands ≡ false → is_of n o ≡ false
ended_is n o s = ap (λ (b : Bool). nat_eq o.number n && b) s ∙ and_false (nat_eq o.number n)

own_is : (n : ℕ) (o : LinkSeen) → o.number ≡ n → o.stands ≡ true → is_of n o ≡ true
own_is n o e s = ap (λ (b : Bool). b && o.stands) (eq-eqb o.number n e) ∙ s

-- the search goes on behind a place, or in front of it
module _ (os : List LinkSeen) (n middle : ℕ) (r : Rises os) where
  below_by : (i : ℕ) → middle < length os → (link_at os middle).number < n → (i ≡ middle) ⊎ ((i < middle) ⊎ (middle < i)) → i < middle + 1 → (link_at os i).number < n
  below_by i l b (inl e) m = subst (λ (j : ℕ). (link_at os j).number < n) (sym e) b
  below_by i l b (inr (inl f)) m = let p : (link_at os i).number < (link_at os middle).number = r i middle f l in omega (arith, p, b)
  below_by i l b (inr (inr f)) m = absurd (omega (arith, f, m))

  pub below : middle < length os → (link_at os middle).number < n → (i : ℕ) → i < middle + 1 → (link_at os i).number < n
  below l b i m = below_by i l b (cases_order i middle) m

  above_by : (i : ℕ) → n < (link_at os middle).number → (i ≡ middle) ⊎ ((i < middle) ⊎ (middle < i)) → middle ≤ i → i < length os → n < (link_at os i).number
  above_by i b (inl e) m l = subst (λ (j : ℕ). n < (link_at os j).number) (sym e) b
  above_by i b (inr (inl f)) m l = absurd (omega (arith, f, m))
  above_by i b (inr (inr f)) m l = let p : (link_at os middle).number < (link_at os i).number = r middle i f l in omega (arith, p, b)

  pub above : n < (link_at os middle).number → (i : ℕ) → middle ≤ i → i < length os → n < (link_at os i).number
  above b i m l = above_by i b (cases_order i middle) m l

  ended_by : (i : ℕ) → middle < length os → (link_at os middle).number ≡ n → (link_at os middle).stands ≡ false → (i ≡ middle) ⊎ ((i < middle) ⊎ (middle < i)) → i < length os
      → is_of n (link_at os i) ≡ false
  ended_by i l e s (inl f) m = subst (λ (j : ℕ). is_of n (link_at os j) ≡ false) (sym f) (ended_is n (link_at os middle) s)
  ended_by i l e s (inr (inl f)) m =
      let p : (link_at os i).number < (link_at os middle).number = r i middle f l in
      other_is n (link_at os i) (λ h. omega (arith, p, h, e))
  ended_by i l e s (inr (inr f)) m =
      let p : (link_at os middle).number < (link_at os i).number = r middle i f m in
      other_is n (link_at os i) (λ h. omega (arith, p, h, e))

  -- the one of the number has ended
  pub none_ended : middle < length os → (link_at os middle).number ≡ n → (link_at os middle).stands ≡ false → IsNone (is_of n) os (length os)
  none_ended l e s i m = ended_by i l e s (cases_order i middle) m

-- nothing is left in which to search
none_by : (os : List LinkSeen) (n low i : ℕ) → ((j : ℕ) → j < low → (link_at os j).number < n) → ((j : ℕ) → low ≤ j → j < length os → n < (link_at os j).number)
    → (i < low) ⊎ (low ≤ i) → i < length os → is_of n (link_at os i) ≡ false
none_by os n low i b a (inl f) l = let p : (link_at os i).number < n = b i f in other_is n (link_at os i) (λ h. omega (arith, p, h))
none_by os n low i b a (inr f) l = let p : n < (link_at os i).number = a i f l in other_is n (link_at os i) (λ h. omega (arith, p, h))

pub none_left : (os : List LinkSeen) (n low high : ℕ) → high ≤ low → ((j : ℕ) → j < low → (link_at os j).number < n) → ((j : ℕ) → high ≤ j → j < length os → n < (link_at os j).number)
    → IsNone (is_of n) os (length os)
none_left os n low high e b a i l = none_by os n low i b (λ j m k. a j (omega (arith, m, e)) k) (cases_lt i low) l

-- whether the one of a number is so
or_false : (b : Bool) → (b || false) ≡ b
or_false true = refl
or_false false = refl

pub any_none : (so : LinkSeen → Bool) (n : ℕ) (os : List LinkSeen) → IsNone (is_of n) os (length os) → list_any (λ one. is_of n one && so one) os ≡ false
any_none so n [] h = refl
any_none so n (o ∷ os) h =
    ap (λ (b : Bool). (b && so o) || list_any (λ one. is_of n one && so one) os) (h 0 (omega arith))
    ∙ any_none so n os (λ k l. h (suc k) (omega (arith, l)))

pub any_at : (so : LinkSeen → Bool) (n : ℕ) (os : List LinkSeen) (i : ℕ) → Rises os → IsAt os n i → list_any (λ one. is_of n one && so one) os ≡ so (link_at os i)
any_at so n [] i r at = absurd (omega (arith, at.inside))
any_at so n (o ∷ os) zero r at =
    ap (λ (b : Bool). (b && so o) || list_any (λ one. is_of n one && so one) os) (own_is n o at.same at.stands)
    ∙ ap (λ (b : Bool). so o || b) (any_none so n os (λ k l.
    let p : o.number < (link_at os k).number = r 0 (suc k) (omega arith) (omega (arith, l)) in
    other_is n (link_at os k) (λ h. omega (arith, p, h, at.same))))
    ∙ or_false (so o)
any_at so n (o ∷ os) (suc i) r at =
    let inside : i < length os = omega (arith, at.inside) in
    let same : (link_at os i).number ≡ n = at.same in
    let p : o.number < (link_at os i).number = r 0 (suc i) (omega arith) (omega (arith, inside)) in
    ap (λ (b : Bool). (b && so o) || list_any (λ one. is_of n one && so one) os) (other_is n o (λ h. omega (arith, p, h, same)))
    ∙ any_at so n os i (λ j k l m. r (suc j) (suc k) (omega (arith, l)) (omega (arith, m))) (record { inside = inside; stands = at.stands; same = same })

-- the same as a crowd is seen
module _ (conn : ℕ) (seen os : List LinkSeen) (e : seen ≡ os) where
  pub full_none : IsNone (is_of conn) os (length os) → false ≡ has_full conn seen
  full_none h = sym (ap (has_full conn) e ∙ any_none (λ one. nat_le (2 ^ 20) (length (left_of one.owed))) conn os h)

  pub full_at : (place next owes : ℕ) (one : LinkSeen) → Climb os next → IsAt os conn place → one ≡ get_or os place one → owes ≡ length (left_of one.owed)
      → nat_le (2 ^ 20) owes ≡ has_full conn seen
  full_at place next owes one c at i w =
      ap (λ (n : ℕ). nat_le (2 ^ 20) n) w
      ∙ sym (ap (has_full conn) e ∙ any_at (λ one. nat_le (2 ^ 20) (length (left_of one.owed))) conn os place (rises os next c) at
      ∙ ap (λ (o : LinkSeen). nat_le (2 ^ 20) (length (left_of o.owed))) (here_is os place one at.inside i))

  open_none : IsNone (is_of conn) os (length os) → has_open conn seen ≡ false
  open_none h = ap (has_open conn) e ∙ any_none (λ one. is_open one.stage) conn os h

  open_at : (place next : ℕ) (one : LinkSeen) (b : Bool) → Climb os next → IsAt os conn place → one ≡ get_or os place one → is_open one.stage ≡ b → has_open conn seen ≡ b
  open_at place next one b c at i w =
      ap (has_open conn) e ∙ any_at (λ one. is_open one.stage) conn os place (rises os next c) at
      ∙ ap (λ (o : LinkSeen). is_open o.stage) (here_is os place one at.inside i) ∙ w

  asked_by : (before : List Noted) → has_open conn seen ≡ false → before ≡ asked_with conn seen before
  asked_by before h = sym (ap (λ (b : Bool). if b then before ++ shut conn (Ok tt) ∷ [] else before) h)

  pub asked_none : (before : List Noted) → IsNone (is_of conn) os (length os) → before ≡ asked_with conn seen before
  asked_none before h = asked_by before (open_none h)

  pub asked_shut : (before : List Noted) (place next : ℕ) (one : LinkSeen) → Climb os next → IsAt os conn place → one ≡ get_or os place one → is_open one.stage ≡ false
      → before ≡ asked_with conn seen before
  asked_shut before place next one c at i w = asked_by before (open_at place next one false c at i w)

  -- the number in a place is that of the connection
  number_at : (place : ℕ) → IsAt os conn place → (link_at seen place).number ≡ conn
  number_at place at = ap (λ (l : List LinkSeen). (link_at l place).number) e ∙ at.same

  handed_by : (before : List Noted) (bytes : List ℕ) → has_open conn seen ≡ false → before ≡ handed_with conn bytes seen before
  handed_by before bytes h =
      sym (ap (λ (b : Bool). if nat_lt 0 (length bytes) && b then before ++ handed_piece conn bytes ∷ [] else before) h
      ∙ ap (λ (b : Bool). if b then before ++ handed_piece conn bytes ∷ [] else before) (and_false (nat_lt 0 (length bytes))))

  pub handed_none : (before : List Noted) (bytes : List ℕ) → IsNone (is_of conn) os (length os) → before ≡ handed_with conn bytes seen before
  handed_none before bytes h = handed_by before bytes (open_none h)

  pub handed_shut : (before : List Noted) (bytes : List ℕ) (place next : ℕ) (one : LinkSeen) → Climb os next → IsAt os conn place → one ≡ get_or os place one → is_open one.stage ≡ false
      → before ≡ handed_with conn bytes seen before
  handed_shut before bytes place next one c at i w = handed_by before bytes (open_at place next one false c at i w)

  pub handed_open : {E : Type 0} (result : Result (Unit {0}) E) (before after : List Noted) (bytes : List ℕ) (place next : ℕ) (one : LinkSeen)
      → Climb os next → IsAt os conn place → one ≡ get_or os place one → is_open one.stage ≡ true → 0 < length bytes
      → IfOk result (λ done. after ≡ before ++ handed_piece (link_at seen place).number bytes ∷ []) → IfOk result (λ done. after ≡ handed_with conn bytes seen before)
  handed_open (Ok done) before after bytes place next one c at i w l a =
      a ∙ ap (λ (n : ℕ). before ++ handed_piece n bytes ∷ []) (number_at place at)
      ∙ sym (ap (λ (b : Bool). if b && has_open conn seen then before ++ handed_piece conn bytes ∷ [] else before) (lt-ltb 0 (length bytes) l)
      ∙ ap (λ (b : Bool). if b then before ++ handed_piece conn bytes ∷ [] else before) (open_at place next one true c at i w))
  handed_open (Err fault) before after bytes place next one c at i w l a = tt
