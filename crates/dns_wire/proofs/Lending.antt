-- Records as a reply gives them: their kinds and sizes, and how many of them fit.
use Rattle.std.proofs.Common.{◌≡◌, ℕ, zero, suc, ◌+◌, ◌-◌, ◌<◌, ◌≤◌, List, [], ◌∷◌, ◌++◌, length, get_or, map, take, drop, refl, sym, ap, ◌∙◌, arith, length-append, Bool, true, false, Option, Some, None}
use Rattle.std.specs.Prelude.{nat_lt}
use Rattle.std.proofs.lemmas.List.{take_all, take-map, take-append-le, get_or-map, length-map, append_assoc}
use Rattle.std.proofs.lemmas.List.Concat.{flat_map-append}
use Rattle.std.proofs.lemmas.Bool.Decides.{nat_tests}
use Rattle.dns_name.specs.Name.{fold_of, name_bytes, labels_bytes}
use Rattle.dns_name.proofs.Below.{length-fold_of}
use Rattle.dns_wire.specs.declared.record.Record.{Record}
use Rattle.dns_wire.specs.Given.{given, given_as, negative, in_parts, kinds}
use Rattle.dns_wire.specs.WireFormat.{record_bytes, records_bytes, data_bytes}
use Rattle.dns_wire.specs.Written.{Fits}
use Rattle.dns_wire.proofs.Back.{record_size}
use Rattle.dns_wire.proofs.Fitting.{Fits-stops, fits_some, fits_all, take_both}

same_kind : (owner : Option (List (List ℕ))) (is_negative : Bool) (r : Record) → kinds (given_as owner is_negative r ∷ []) ≡ kinds (r ∷ [])
same_kind None true r = refl
same_kind None false r = refl
same_kind (Some name) true r = refl
same_kind (Some name) false r = refl

-- what a reply gives has the types and classes of what is kept
pub kinds_given : (owner : Option (List (List ℕ))) (is_negative : Bool) (rs : List Record) → kinds (map (given_as owner is_negative) rs) ≡ kinds rs
kinds_given owner is_negative [] = refl
kinds_given owner is_negative (r ∷ rs) =
    ap (λ (one : List (ℕ × ℕ)). one ++ kinds (map (given_as owner is_negative) rs)) (same_kind owner is_negative r)
    ∙ ap (λ (more : List (ℕ × ℕ)). kinds (r ∷ []) ++ more) (kinds_given owner is_negative rs)

-- records that are given no owner stay as they are
pub given_none : (rs : List Record) → map (given None) rs ≡ rs
given_none [] = refl
given_none (r ∷ rs) = ap (λ (more : List Record). r ∷ more) (given_none rs)

-- a name takes as many bytes in small letters
pub size_folded : (name : List (List ℕ)) → length (name_bytes (fold_of name)) ≡ length (name_bytes name)
size_folded name = omega (arith, length-append (labels_bytes (fold_of name)) (0 ∷ []), length-append (labels_bytes name) (0 ∷ []), length-fold_of name)

-- how many bytes a record takes as a reply gives it
pub size_given : (owner : Option (List (List ℕ))) (is_negative : Bool) (r : Record)
    → length (record_bytes (given_as owner is_negative r)) ≡ length (name_bytes (given owner r).name) + 10 + length (data_bytes r.rdata)
size_given None true r = record_size (negative r)
size_given None false r = record_size r
size_given (Some name) true r = record_size (negative (given (Some name) r))
size_given (Some name) false r = record_size (given (Some name) r)

-- where all of a list fits, it fits whole
pub fits_whole : (xs : List Record) (room left : ℕ) → left + length (records_bytes xs) ≡ room → Fits room xs (length xs)
fits_whole xs room left e = record {
  within = omega arith;
  fits = omega (arith, e, ap (λ (ys : List Record). length (records_bytes ys)) (take_all (length xs) xs (omega arith)));
  longest = λ k w s. w;
}

-- parts that fit whole, one after them that does as far as it goes, and what follows it where that is not all of it
pub fits_part : (before part after : List Record) (room left n : ℕ) → left + length (records_bytes before) ≡ room → Fits left part n → n < length part
    → Fits room (before ++ (part ++ after)) (length before + n)
fits_part before part after room left n e f less =
    fits_all before (part ++ after) room left (length before) n (fits_whole before room left e) (omega arith)
    (omega (arith, e, ap (λ (ys : List Record). length (records_bytes ys)) (take_all (length before) before (omega arith))))
    (fits_some part after left n f less)

-- what is left, said of the first records that a reply gives
pub left_given : (g : Record → Record) (xs : List Record) (i room left : ℕ) → left + length (records_bytes (map g (take i xs))) ≡ room
    → left + length (records_bytes (take i (map g xs))) ≡ room
left_given g xs i room left e = omega (arith, e, ap (λ (rs : List Record). length (records_bytes rs)) (take-map g i xs))

-- the next record goes past the room, as a reply gives it
pub stops_given : (g : Record → Record) (xs : List Record) (i room left size : ℕ) (x : Record) → left + length (records_bytes (map g (take i xs))) ≡ room
    → i < length xs → x ≡ get_or xs i x → size ≡ length (record_bytes (g x)) → left < size → Fits room (map g xs) i
stops_given g xs i room left size x e h is s over =
    Fits-stops (map g xs) i room left (g x) (left_given g xs i room left e) (omega (arith, h, length-map xs g))
    (omega (arith, over, s, ap (λ (r : Record). length (record_bytes r)) (get_or-map g xs i x (g x) h), ap (λ (r : Record). length (record_bytes (g r))) is))

-- what a test says that passed
pub less_then : (is_cut : Bool) (a b : ℕ) → is_cut ≡ nat_lt a b → is_cut ≡ true → a < b
less_then is_cut a b is so = less (sym is ∙ so)
  where
    less : nat_lt a b ≡ true → a < b
    less t = grind (arith, nat_tests)

-- and one that did not
pub not_less_then : (is_cut : Bool) (a b : ℕ) → is_cut ≡ nat_lt a b → is_cut ≡ false → b ≤ a
not_less_then is_cut a b is so = least (sym is ∙ so)
  where
    least : nat_lt a b ≡ false → b ≤ a
    least t = grind (arith, nat_tests)

-- the records of parts: those before a part, its own, and those behind it
pub parts_at : (parts : List (List Record)) (i : ℕ) (part : List Record) → i < length parts → part ≡ get_or parts i part
    → in_parts parts ≡ in_parts (take i parts) ++ (part ++ in_parts (drop (suc i) parts))
parts_at [] i part h is = absurd (omega (arith, h))
parts_at (p ∷ ps) zero part h is = ap (λ (x : List Record). x ++ in_parts ps) (sym is)
parts_at (p ∷ ps) (suc i) part h is = ap (λ (x : List Record). p ++ x) (parts_at ps i part (omega (arith, h)) is) ∙ sym (append_assoc p (in_parts (take i ps)) (part ++ in_parts (drop (suc i) ps)))

-- a part that does not fit whole, behind others that do
pub part_stops : (parts : List (List Record)) (i room left count n : ℕ) (part : List Record) → i < length parts → part ≡ get_or parts i part
    → left + length (records_bytes (in_parts (take i parts))) ≡ room → count ≡ length (in_parts (take i parts)) → Fits left part n → n < length part
    → Fits room (in_parts parts) (count + n)
part_stops parts i room left count n part h is e c f less =
    rw (parts_at parts i part h is, c) (fits_part (in_parts (take i parts)) part (in_parts (drop (suc i) parts)) room left n e f less)

-- what is left then
pub part_left : (parts : List (List Record)) (i room left more count n : ℕ) (part : List Record) → i < length parts → part ≡ get_or parts i part
    → left + length (records_bytes (in_parts (take i parts))) ≡ room → count ≡ length (in_parts (take i parts)) → n ≤ length part
    → more + length (records_bytes (take n part)) ≡ left
    → more + length (records_bytes (take (count + n) (in_parts parts))) ≡ room
part_left parts i room left more count n part h is e c most l =
    let before = in_parts (take i parts) in
    let after = in_parts (drop (suc i) parts) in
    let first : take (count + n) before ≡ before = take_all (count + n) before (omega (arith, c)) in
    let rest : count + n - length before ≡ n = omega (arith, c) in
    let second : take n (part ++ after) ≡ take n part = take-append-le n part after most in
    let whole : take (count + n) (in_parts parts) ≡ before ++ take n part =
    ap (take (count + n)) (parts_at parts i part h is) ∙ take_both (count + n) before (part ++ after)
    ∙ ap (λ (x : List Record). x ++ take (count + n - length before) (part ++ after)) first
    ∙ ap (λ (k : ℕ). before ++ take k (part ++ after)) rest ∙ ap (λ (x : List Record). before ++ x) second in
    omega (arith, e, l, ap (λ (rs : List Record). length (records_bytes rs)) whole, ap length (flat_map-append record_bytes before (take n part)), length-append (records_bytes before) (records_bytes (take n part)))

-- a record was left out then
pub part_cut : (parts : List (List Record)) (i count n : ℕ) (part : List Record) → i < length parts → part ≡ get_or parts i part
    → count ≡ length (in_parts (take i parts)) → n < length part → true ≡ nat_lt (count + n) (length (in_parts parts))
part_cut parts i count n part h is c less =
    let size : length (in_parts parts) ≡ length (in_parts (take i parts)) + (length part + length (in_parts (drop (suc i) parts))) =
    ap length (parts_at parts i part h is) ∙ length-append (in_parts (take i parts)) (part ++ in_parts (drop (suc i) parts))
    ∙ ap (λ (k : ℕ). length (in_parts (take i parts)) + k) (length-append part (in_parts (drop (suc i) parts))) in
    sym (below (count + n) (length (in_parts parts)) (omega (arith, size, c, less)))
  where
    below : (a b : ℕ) → a < b → nat_lt a b ≡ true
    below a b l = grind (arith, nat_tests)

-- the first records of parts, written part by part
pub parts_put : (parts : List (List Record)) (i left : ℕ) (part : List Record) → i < length parts → part ≡ get_or parts i part
    → records_bytes (take left (in_parts (drop i parts))) ≡ records_bytes (take left part) ++ records_bytes (take (left - length part) (in_parts (drop (suc i) parts)))
parts_put [] i left part h is = absurd (omega (arith, h))
parts_put (p ∷ ps) zero left part h is =
    ap (λ (x : List Record). records_bytes (take left (x ++ in_parts ps))) (sym is)
    ∙ ap records_bytes (take_both left part (in_parts ps)) ∙ flat_map-append record_bytes (take left part) (take (left - length part) (in_parts ps))
parts_put (p ∷ ps) (suc i) left part h is = parts_put ps i left part (omega (arith, h)) is

-- what is left where the first records of two lists are kept, and all of the first
pub left_both : (xs ys : List Record) (room left more n l : ℕ) → length xs ≤ n → n ≤ length xs → left + length (records_bytes (take n xs)) ≡ room → l ≤ length ys
    → more + length (records_bytes (take l ys)) ≡ left → more + length (records_bytes (take (n + l) (xs ++ ys))) ≡ room
left_both xs ys room left more n l all within e few m =
    let first : take (n + l) xs ≡ take n xs = take_all (n + l) xs (omega (arith, all)) ∙ sym (take_all n xs all) in
    let rest : n + l - length xs ≡ l = omega (arith, all, within) in
    let whole : take (n + l) (xs ++ ys) ≡ take n xs ++ take l ys =
    take_both (n + l) xs ys ∙ ap (λ (x : List Record). x ++ take (n + l - length xs) ys) first ∙ ap (λ (k : ℕ). take n xs ++ take k ys) rest in
    omega (arith, e, m, ap (λ (rs : List Record). length (records_bytes rs)) whole, ap length (flat_map-append record_bytes (take n xs) (take l ys)), length-append (records_bytes (take n xs)) (records_bytes (take l ys)))

-- and where not all of the first is
pub left_some : (xs ys : List Record) (room left n : ℕ) → n < length xs → left + length (records_bytes (take n xs)) ≡ room → left + length (records_bytes (take n (xs ++ ys))) ≡ room
left_some xs ys room left n less e = omega (arith, e, ap (λ (rs : List Record). length (records_bytes rs)) (take-append-le n xs ys (omega (arith, less))))
