-- The places of the rows that bear a number.
use Rattle.std.proofs.Common.{◌≡◌, ◌≢◌, ℕ, zero, suc, ◌+◌, ◌≤◌, ◌==◌, ◌&&◌, ◌-◌, ◌<◌, eq-eqb, Bool, true, false, List, [], ◌∷◌, ◌++◌, drop, length, refl, sym, ap, ◌∙◌, arith}
use Rattle.std.proofs.lemmas.List.{drop-append-le, append-nil, append_assoc}
use Rattle.std.proofs.lemmas.Bool.Decides.{nat_tests}
use Rattle.dns_keeper.specs.declared.row.Row.{Row}
use Rattle.dns_book.specs.declared.ask.Receipt.{Receipt}
use Rattle.dns_ticket_lock.specs.Places.{number_of, is_within, all_within, bearing, places_from, places_of, all_bear}

pub bearing_append : (n k : ℕ) (xs ys : List Row) → bearing n k (xs ++ ys) ≡ bearing n k xs ++ bearing n (k + length xs) ys
bearing_append n k [] ys = ap (λ (j : ℕ). bearing n j ys) (omega arith)
bearing_append n k (x ∷ xs) ys = by_test (bearing_append n (k + 1) xs ys ∙ ap (λ (j : ℕ). bearing n (k + 1) xs ++ bearing n j ys) (omega arith)) (number_of x == n) refl
  where
    by_test : bearing n (k + 1) (xs ++ ys) ≡ bearing n (k + 1) xs ++ bearing n (k + length (x ∷ xs)) ys → (b : Bool) → (number_of x == n) ≡ b → bearing n k (x ∷ xs ++ ys) ≡ bearing n k (x ∷ xs) ++ bearing n (k + length (x ∷ xs)) ys
    by_test rest true is = rw is (ap (λ (l : List ℕ). k ∷ l) rest)
    by_test rest false is = rw is rest

pub both_true : (a b : Bool) → (a && b) ≡ true → (a ≡ true) × (b ≡ true)
both_true true b e = (refl, e)
both_true false b e = absurd (grind arith)

pub bears_all : (n k : ℕ) (xs : List Row) → all_bear n xs ≡ true → bearing n k xs ≡ places_from k (length xs)
bears_all n k [] e = refl
bears_all n k (x ∷ xs) e =
    let two = both_true (number_of x == n) (all_bear n xs) e in
    rw two.0 (ap (λ (l : List ℕ). k ∷ l) (bears_all n (k + 1) xs two.1))

pub bears_none : (n m k : ℕ) (xs : List Row) → n ≢ m → all_bear m xs ≡ true → bearing n k xs ≡ []
bears_none n m k [] apart e = refl
bears_none n m k (x ∷ xs) apart e =
    let two = both_true (number_of x == m) (all_bear m xs) e in
    let not : (number_of x == n) ≡ false = let is = two.0 in grind (arith, nat_tests) in
    rw not (bears_none n m (k + 1) xs apart two.1)

-- more rows of another number
pub still_bears : (n m k opening : ℕ) (rows batch : List Row) → n ≢ m → opening ≤ length rows → all_bear m batch ≡ true
    → bearing n k (drop opening (rows ++ batch)) ≡ bearing n k (drop opening rows)
still_bears n m k opening rows batch apart within theirs =
    ap (bearing n k) (drop-append-le opening rows batch within)
    ∙ (bearing_append n k (drop opening rows) batch
    ∙ (ap (λ (l : List ℕ). bearing n k (drop opening rows) ++ l) (bears_none n m (k + length (drop opening rows)) batch apart theirs)
    ∙ append-nil (bearing n k (drop opening rows))))

length_past : (opening : ℕ) (rows : List Row) → opening ≤ length rows → opening + length (drop opening rows) ≡ length rows
length_past zero rows e = omega arith
length_past (suc o) [] e = absurd (omega arith)
length_past (suc o) (x ∷ xs) e = let rest = length_past o xs (omega arith) in omega arith

-- more rows of this number
pub bears_more : (n opening : ℕ) (rows batch : List Row) → opening ≤ length rows → all_bear n batch ≡ true
    → bearing n (opening + 1) (drop opening (rows ++ batch)) ≡ bearing n (opening + 1) (drop opening rows) ++ places_from (length rows + 1) (length batch)
bears_more n opening rows batch within theirs =
    let past = length_past opening rows within in
    ap (bearing n (opening + 1)) (drop-append-le opening rows batch within)
    ∙ (bearing_append n (opening + 1) (drop opening rows) batch
    ∙ ap (λ (l : List ℕ). bearing n (opening + 1) (drop opening rows) ++ l)
    (bears_all n (opening + 1 + length (drop opening rows)) batch theirs ∙ ap (λ (j : ℕ). places_from j (length batch)) (omega arith)))

pub places_of-append : (xs ys : List Receipt) → places_of (xs ++ ys) ≡ places_of xs ++ places_of ys
places_of-append [] ys = refl
places_of-append (x ∷ xs) ys = ap (λ (l : List ℕ). places_from x.first x.count ++ l) (places_of-append xs ys) ∙ sym (append_assoc (places_from x.first x.count) (places_of xs) (places_of ys))

pub true_both : (a b : Bool) → a ≡ true → b ≡ true → (a && b) ≡ true
true_both a b p q = rw p q

within_bears : (count low : ℕ) (r : Row) → low < count → (number_of r == low + 1) ≡ true → is_within count r ≡ true
within_bears count low r small test =
    let is : number_of r ≡ low + 1 = grind (arith, nat_tests) in
    true_both (1 - number_of r == 0) (number_of r - count == 0) (eq-eqb (1 - number_of r) 0 (omega arith)) (eq-eqb (number_of r - count) 0 (omega arith))

all_bear_within : (count low : ℕ) (rs : List Row) → low < count → all_bear (low + 1) rs ≡ true → all_within count rs ≡ true
all_bear_within count low [] small e = refl
all_bear_within count low (r ∷ rs) small e =
    let two = both_true (number_of r == low + 1) (all_bear (low + 1) rs) e in
    true_both (is_within count r) (all_within count rs) (within_bears count low r small two.0) (all_bear_within count low rs small two.1)

all_within_append : (count : ℕ) (xs ys : List Row) → all_within count xs ≡ true → all_within count ys ≡ true → all_within count (xs ++ ys) ≡ true
all_within_append count [] ys p q = q
all_within_append count (x ∷ xs) ys p q =
    let two = both_true (is_within count x) (all_within count xs) p in
    true_both (is_within count x) (all_within count (xs ++ ys)) two.0 (all_within_append count xs ys two.1 q)

pub numbered_after : (count low opening : ℕ) (rows batch : List Row) → low < count → opening ≤ length rows → all_bear (low + 1) batch ≡ true → all_within count (drop opening rows) ≡ true
    → all_within count (drop opening (rows ++ batch)) ≡ true
numbered_after count low opening rows batch small past theirs p =
    ap (all_within count) (drop-append-le opening rows batch past) ∙ all_within_append count (drop opening rows) batch p (all_bear_within count low batch small theirs)
