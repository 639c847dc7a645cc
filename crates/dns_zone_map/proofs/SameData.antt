-- The test of data for equality.
use Rattle.std.proofs.Common.{◌≡◌, ◌↔◌, ℕ, List, Bool, true, false, ◌&&◌, ◌==◌, refl, ap, subst}
use Rattle.std.specs.Bool.{IsTrue, Decides}
use Rattle.std.specs.Str.{bytes_eq}
use Rattle.std.proofs.lemmas.Bool.Decides.{same_from_decides, Decides-eqb}
use Rattle.std.proofs.lemmas.Slice.Eq.{slice_eq-Decides, bytes_eq-Decides}
use Rattle.dns_wire.specs.declared.rdata.Data.{Data}
use Rattle.dns_wire.specs.declared.rdata.Data.TheVariants.{A, Aaaa, Ns, Cname, Ptr, Mx, Srv, Soa, Txt, Opaque, Empty}
use Rattle.dns_zone_map.specs.SameData.{lists_eq, data_eq}

-- the test of lists of labels, or of strings
pub lists_eq-Decides : (a b : List (List ℕ)) → Decides (lists_eq a b) (a ≡ b)
lists_eq-Decides a b = slice_eq-Decides {E = bytes_eq} bytes_eq-Decides a b (lists_eq a b) refl

-- two tests passed
both_of : (x y : Bool) → (x && y) ≡ true → (x ≡ true) × (y ≡ true)
both_of true true passed = (refl, refl)
both_of true false passed = absurd cc
both_of false y passed = absurd cc

-- two tests pass
and_of : (x y : Bool) → x ≡ true → y ≡ true → (x && y) ≡ true
and_of x y first second = rw (first, second) refl

-- equal numbers
number : (a b : ℕ) → (a == b) ≡ true → a ≡ b
number a b passed = (Decides-eqb a b).0 passed

same_number : (a : ℕ) → (a == a) ≡ true
same_number a = (Decides-eqb a a).1 refl

-- equal lists
lists : (a b : List (List ℕ)) → lists_eq a b ≡ true → a ≡ b
lists a b passed = (lists_eq-Decides a b).0 passed

same_lists : (a : List (List ℕ)) → lists_eq a a ≡ true
same_lists a = (lists_eq-Decides a a).1 refl

-- the numbers of an SOA
soa_numbers : (a b c d e f g h i j : ℕ) → ((a == f) && ((b == g) && ((c == h) && ((d == i) && (e == j))))) ≡ true → (a ≡ f) × (b ≡ g) × (c ≡ h) × (d ≡ i) × (e ≡ j)
soa_numbers a b c d e f g h i j passed =
    let first = both_of (a == f) ((b == g) && ((c == h) && ((d == i) && (e == j)))) passed in
    let second = both_of (b == g) ((c == h) && ((d == i) && (e == j))) first.1 in
    let third = both_of (c == h) ((d == i) && (e == j)) second.1 in
    let fourth = both_of (d == i) (e == j) third.1 in
    (number a f first.0, number b g second.0, number c h third.0, number d i fourth.0, number e j fourth.1)

-- data that passes the test is equal
data_eq-true : (a b : Data) → data_eq a b ≡ true → a ≡ b
data_eq-true (A a) (A b) passed = ap A (number a b passed)
data_eq-true (Aaaa a) (Aaaa b) passed = ap Aaaa (number a b passed)
data_eq-true (Ns a) (Ns b) passed = ap Ns (lists a b passed)
data_eq-true (Cname a) (Cname b) passed = ap Cname (lists a b passed)
data_eq-true (Ptr a) (Ptr b) passed = ap Ptr (lists a b passed)
data_eq-true (Mx p a) (Mx q b) passed =
    let parts = both_of (p == q) (lists_eq a b) passed in
    let preference : p ≡ q = number p q parts.0 in
    let exchange : a ≡ b = lists a b parts.1 in
    cc
data_eq-true (Srv p w o a) (Srv q x n b) passed =
    let first = both_of (p == q) ((w == x) && ((o == n) && lists_eq a b)) passed in
    let second = both_of (w == x) ((o == n) && lists_eq a b) first.1 in
    let third = both_of (o == n) (lists_eq a b) second.1 in
    let priority : p ≡ q = number p q first.0 in
    let weight : w ≡ x = number w x second.0 in
    let port : o ≡ n = number o n third.0 in
    let target : a ≡ b = lists a b third.1 in
    cc
data_eq-true (Soa a m r b c d e) (Soa f n s g h i j) passed =
    let first = both_of (lists_eq m n) (lists_eq r s && ((a == f) && ((b == g) && ((c == h) && ((d == i) && (e == j)))))) passed in
    let second = both_of (lists_eq r s) ((a == f) && ((b == g) && ((c == h) && ((d == i) && (e == j))))) first.1 in
    let numbers = soa_numbers a b c d e f g h i j second.1 in
    let mname : m ≡ n = lists m n first.0 in
    let rname : r ≡ s = lists r s second.0 in
    let serial : a ≡ f = numbers.0 in
    let refresh : b ≡ g = numbers.1 in
    let retry : c ≡ h = numbers.2 in
    let expire : d ≡ i = numbers.3 in
    let minimum : e ≡ j = numbers.4 in
    cc
data_eq-true (Txt a) (Txt b) passed = ap Txt (lists a b passed)
data_eq-true (Opaque a) (Opaque b) passed = ap Opaque ((bytes_eq-Decides a b).0 passed)
data_eq-true Empty Empty passed = refl
data_eq-true a b passed = absurd cc

-- data passes the test with itself
pub data_eq-same : (a : Data) → data_eq a a ≡ true
data_eq-same (A a) = same_number a
data_eq-same (Aaaa a) = same_number a
data_eq-same (Ns a) = same_lists a
data_eq-same (Cname a) = same_lists a
data_eq-same (Ptr a) = same_lists a
data_eq-same (Mx p a) = and_of _ _ (same_number p) (same_lists a)
data_eq-same (Srv p w o a) = and_of _ _ (same_number p) (and_of _ _ (same_number w) (and_of _ _ (same_number o) (same_lists a)))
data_eq-same (Soa a m r b c d e) =
    and_of _ _ (same_lists m) (and_of _ _ (same_lists r) (and_of _ _ (same_number a) (and_of _ _ (same_number b) (and_of _ _ (same_number c) (and_of _ _ (same_number d) (same_number e))))))
data_eq-same (Txt a) = same_lists a
data_eq-same (Opaque a) = (bytes_eq-Decides a a).1 refl
data_eq-same Empty = refl

-- the test passes exactly where the data is equal
pub data_eq-Decides : (a b : Data) → Decides (data_eq a b) (a ≡ b)
data_eq-Decides a b = (data_eq-true a b, λ same. subst (λ other. data_eq a other ≡ true) same (data_eq-same a))

-- what passes exactly where data is equal is the test
pub data_eq_from : (r : Bool) (a b : Data) → IsTrue r ↔ (a ≡ b) → r ≡ data_eq a b
data_eq_from r a b meaning = same_from_decides r (data_eq a b) meaning (data_eq-Decides a b)
