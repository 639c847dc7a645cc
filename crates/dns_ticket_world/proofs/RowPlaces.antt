-- The places of the rows that bear a number, when a batch comes to them.
use Rattle.std.proofs.Common.{◌≡◌, ◌≢◌, ℕ, zero, suc, pos, ◌+◌, ◌-◌, ◌<◌, ◌≤◌, ◌==◌, ◌&&◌, Bool, true, false, List, [], ◌∷◌, ◌++◌, drop, length, int_eq, flat_map, refl, sym, ap, ◌∙◌, arith}
use Rattle.std.specs.Prelude.{int_le}
use Rattle.std.specs.List.{list_all}
use Rattle.std.proofs.lemmas.List.{drop-append-le, append-nil}
use Rattle.std.proofs.lemmas.List.Concat.{flat_map-append}
use Rattle.std.proofs.lemmas.List.Folds.{list_all-append}
use Rattle.std.proofs.lemmas.Bool.Decides.{Decides-int_eq, nat_tests}
use Rattle.std.proofs.lemmas.Int.{ints}
use Rattle.dns_keeper.specs.declared.row.Row.{Row}
use Rattle.dns_ticket_world.specs.declared.receipt.Receipt.{Receipt}
use Rattle.dns_ticket_world.specs.Rows.{are_numbered, bears, bears_up_to, places_bearing, places_from, places_of, receipt_for, with_receipt}

pub both : (a b : Bool) → (a && b) ≡ true → (a ≡ true) × (b ≡ true)
both true b e = (refl, e)
both false b e = absurd (grind arith)

bearing_append : (n place : ℕ) (xs ys : List Row) → places_bearing n place (xs ++ ys) ≡ places_bearing n place xs ++ places_bearing n (place + length xs) ys
bearing_append n place [] ys = ap (λ (j : ℕ). places_bearing n j ys) (omega arith)
bearing_append n place (x ∷ xs) ys = by_test (bearing_append n (place + 1) xs ys ∙ ap (λ (j : ℕ). places_bearing n (place + 1) xs ++ places_bearing n j ys) (omega arith)) (bears n x) refl
  where
    by_test : places_bearing n (place + 1) (xs ++ ys) ≡ places_bearing n (place + 1) xs ++ places_bearing n (place + length (x ∷ xs)) ys → (b : Bool) → bears n x ≡ b
        → places_bearing n place (x ∷ xs ++ ys) ≡ places_bearing n place (x ∷ xs) ++ places_bearing n (place + length (x ∷ xs)) ys
    by_test rest true is = rw is (ap (λ (l : List ℕ). place ∷ l) rest)
    by_test rest false is = rw is rest

bears_all : (n place : ℕ) (xs : List Row) → list_all (bears n) xs ≡ true → places_bearing n place xs ≡ places_from place (length xs)
bears_all n place [] e = refl
bears_all n place (x ∷ xs) e =
    let two = both (bears n x) (list_all (bears n) xs) e in
    rw two.0 (ap (λ (l : List ℕ). place ∷ l) (bears_all n (place + 1) xs two.1))

one_number : (n m : ℕ) (x : Row) → n ≢ m → bears m x ≡ true → bears n x ≡ false
one_number n m x apart is = by_test (bears n x) refl
  where
    by_test : (b : Bool) → bears n x ≡ b → bears n x ≡ false
    by_test false e = e
    by_test true e =
        let a : x.client ≡ pos n = (Decides-int_eq x.client (pos n)).0 e in
        let b : x.client ≡ pos m = (Decides-int_eq x.client (pos m)).0 is in
        absurd (apart (omega (arith, ints)))

bears_none : (n m place : ℕ) (xs : List Row) → n ≢ m → list_all (bears m) xs ≡ true → places_bearing n place xs ≡ []
bears_none n m place [] apart e = refl
bears_none n m place (x ∷ xs) apart e =
    let two = both (bears m x) (list_all (bears m) xs) e in
    rw (one_number n m x apart two.0) (bears_none n m (place + 1) xs apart two.1)

length_past : (opening : ℕ) (rows : List Row) → opening ≤ length rows → opening + length (drop opening rows) ≡ length rows
length_past zero rows e = omega arith
length_past (suc o) [] e = absurd (omega arith)
length_past (suc o) (x ∷ xs) e = let rest = length_past o xs (omega arith) in omega arith

-- more rows of another number
pub still_bears : (n m opening : ℕ) (rows batch : List Row) → n ≢ m → opening ≤ length rows → list_all (bears m) batch ≡ true
    → places_bearing n opening (drop opening (rows ++ batch)) ≡ places_bearing n opening (drop opening rows)
still_bears n m opening rows batch apart within theirs =
    ap (places_bearing n opening) (drop-append-le opening rows batch within)
    ∙ (bearing_append n opening (drop opening rows) batch
    ∙ (ap (λ (l : List ℕ). places_bearing n opening (drop opening rows) ++ l) (bears_none n m (opening + length (drop opening rows)) batch apart theirs)
    ∙ append-nil (places_bearing n opening (drop opening rows))))

-- more rows of this number
bears_more : (n opening : ℕ) (rows batch : List Row) → opening ≤ length rows → list_all (bears n) batch ≡ true
    → places_bearing n opening (drop opening (rows ++ batch)) ≡ places_bearing n opening (drop opening rows) ++ places_from (length rows) (length batch)
bears_more n opening rows batch within theirs =
    ap (places_bearing n opening) (drop-append-le opening rows batch within)
    ∙ (bearing_append n opening (drop opening rows) batch
    ∙ ap (λ (l : List ℕ). places_bearing n opening (drop opening rows) ++ l)
    (bears_all n (opening + length (drop opening rows)) batch theirs ∙ ap (λ (j : ℕ). places_from j (length batch)) (length_past opening rows within)))

-- the places of receipts, and of one more for a batch
receipts_more : (n before : ℕ) (receipts : List Receipt) (batch : List Row)
    → flat_map places_of (with_receipt receipts (receipt_for n before batch)) ≡ flat_map places_of receipts ++ places_from before (length batch)
receipts_more n before receipts [] = sym (append-nil (flat_map places_of receipts))
receipts_more n before receipts (r ∷ rs) =
    let first : before + 1 - 1 ≡ before = omega arith in
    flat_map-append places_of receipts (record { client = n; first = before + 1; count = length (r ∷ rs) } ∷ [])
    ∙ ap (λ (l : List ℕ). flat_map places_of receipts ++ l)
    (append-nil (places_from (before + 1 - 1) (length (r ∷ rs))) ∙ ap (λ (j : ℕ). places_from j (length (r ∷ rs))) first)

-- the receipts of a seat tell where its rows are, also when it has counted a batch
pub own_places : (n opening : ℕ) (rows batch : List Row) (receipts : List Receipt) → opening ≤ length rows → list_all (bears n) batch ≡ true
    → places_bearing n opening (drop opening rows) ≡ flat_map places_of receipts
    → places_bearing n opening (drop opening (rows ++ batch)) ≡ flat_map places_of (with_receipt receipts (receipt_for n (length rows) batch))
own_places n opening rows batch receipts within theirs was =
    bears_more n opening rows batch within theirs
    ∙ (ap (λ (l : List ℕ). l ++ places_from (length rows) (length batch)) was ∙ sym (receipts_more n (length rows) receipts batch))

pub own_clients : (n before : ℕ) (receipts : List Receipt) (batch : List Row) → list_all (λ r. r.client == n) receipts ≡ true
    → list_all (λ r. r.client == n) (with_receipt receipts (receipt_for n before batch)) ≡ true
own_clients n before receipts [] e = e
own_clients n before receipts (r ∷ rs) e =
    list_all-append (λ (one : Receipt). one.client == n) receipts (record { client = n; first = before + 1; count = length (r ∷ rs) } ∷ [])
    ∙ rw e (rw same_number refl)
  where
    same_number : (n == n) ≡ true
    same_number = grind (arith, nat_tests)

-- the ids go on
pub numbered_append : (before : ℕ) (rows batch : List Row) → are_numbered before rows ≡ true → are_numbered (before + length rows) batch ≡ true → are_numbered before (rows ++ batch) ≡ true
numbered_append before [] batch front back = ap (λ (n : ℕ). are_numbered n batch) (omega arith) ∙ back
numbered_append before (r ∷ rs) batch front back =
    let two = both (int_eq r.id (pos (before + 1))) (are_numbered (before + 1) rs) front in
    rw two.0 (numbered_append (before + 1) rs batch two.1 (ap (λ (n : ℕ). are_numbered n batch) (omega arith) ∙ back))

up_to : (n last : ℕ) (x : Row) → 0 < n → n ≤ last → bears n x ≡ true → bears_up_to last x ≡ true
up_to n last x some small is =
    let e : x.client ≡ pos n = (Decides-int_eq x.client (pos n)).0 is in
    rw e (grind (arith, ints))

pub all_up_to : (n last : ℕ) (xs : List Row) → 0 < n → n ≤ last → list_all (bears n) xs ≡ true → list_all (bears_up_to last) xs ≡ true
all_up_to n last [] some small e = refl
all_up_to n last (x ∷ xs) some small e =
    let two = both (bears n x) (list_all (bears n) xs) e in
    rw (up_to n last x some small two.0) (all_up_to n last xs some small two.1)

pub made_more : (opening last : ℕ) (rows batch : List Row) → opening ≤ length rows → list_all (bears_up_to last) (drop opening rows) ≡ true → list_all (bears_up_to last) batch ≡ true
    → list_all (bears_up_to last) (drop opening (rows ++ batch)) ≡ true
made_more opening last rows batch within front back =
    ap (list_all (bears_up_to last)) (drop-append-le opening rows batch within)
    ∙ (list_all-append (bears_up_to last) (drop opening rows) batch ∙ rw (front, back) refl)

one_further : (last : ℕ) (x : Row) → bears_up_to last x ≡ true → bears_up_to (last + 1) x ≡ true
one_further last x e = let two = both (int_le (pos 1) x.client) (int_le x.client (pos last)) e in grind (arith, ints)

pub made_further : (last : ℕ) (xs : List Row) → list_all (bears_up_to last) xs ≡ true → list_all (bears_up_to (last + 1)) xs ≡ true
made_further last [] e = refl
made_further last (x ∷ xs) e =
    let two = both (bears_up_to last x) (list_all (bears_up_to last) xs) e in
    rw (one_further last x two.0) (made_further last xs two.1)

not_above : (last : ℕ) (x : Row) → bears_up_to last x ≡ true → bears (last + 1) x ≡ false
not_above last x e = by_test (bears (last + 1) x) refl
  where
    by_test : (b : Bool) → bears (last + 1) x ≡ b → bears (last + 1) x ≡ false
    by_test false is = is
    by_test true is =
        let a : x.client ≡ pos (last + 1) = (Decides-int_eq x.client (pos (last + 1))).0 is in
        let two = both (int_le (pos 1) x.client) (int_le x.client (pos last)) e in
        absurd (grind (arith, ints))

-- no row bears the number of a seat that is not made
pub none_above : (last place : ℕ) (xs : List Row) → list_all (bears_up_to last) xs ≡ true → places_bearing (last + 1) place xs ≡ []
none_above last place [] e = refl
none_above last place (x ∷ xs) e =
    let two = both (bears_up_to last x) (list_all (bears_up_to last) xs) e in
    rw (not_above last x two.0) (none_above last (place + 1) xs two.1)
