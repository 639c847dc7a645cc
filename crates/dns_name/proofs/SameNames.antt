-- The tests of names answer what the facts say.
use Rattle.std.proofs.Common.{◌≡◌, ℕ, ◌-◌, ◌<◌, ◌≤◌, Bool, List, ◌++◌, length, map, take, drop, refl, sym, ap, ◌∙◌, arith, length-append}
use Rattle.std.specs.Bool.{IsTrue, Decides}
use Rattle.std.specs.Prelude.{◌↔◌, nat_le, nat_lt}
use Rattle.std.specs.Str.{bytes_eq}
use Rattle.std.specs.Char.{to_ascii_lowercase}
use Rattle.std.proofs.lemmas.Bool.{leb-true, le-leb, ltb-true, lt-ltb}
use Rattle.std.proofs.lemmas.Bool.Decides.{same_from_decides, Decides-and, Decides-like}
use Rattle.std.proofs.lemmas.Slice.Eq.{slice_eq-Decides, bytes_eq-Decides}
use Rattle.std.proofs.lemmas.List.{take-append-drop, drop_at, drop-map, map-append, length-map}
use Rattle.dns_name.specs.Name.{fold_of, SameName, IsAtOrBelow, IsStrictlyBelow, is_same_name, is_at_or_below, is_strictly_below}

pub is_same_name-Decides : (a b : List (List ℕ)) → Decides (is_same_name a b) (SameName a b)
is_same_name-Decides a b = slice_eq-Decides {E = bytes_eq} bytes_eq-Decides (fold_of a) (fold_of b) (is_same_name a b) refl

pub is_same_name-is : (r : Bool) (a b : List (List ℕ)) → (IsTrue r ↔ SameName a b) → r ≡ is_same_name a b
is_same_name-is r a b h = same_from_decides r (is_same_name a b) h (is_same_name-Decides a b)

-- a name is at or below another where its last labels are the other
abbrev EndsIn : List (List ℕ) → List (List ℕ) → Type 0
EndsIn a b = (length b ≤ length a) × SameName (drop (length a - length b) a) b

below_from_end : (a b : List (List ℕ)) → EndsIn a b → IsAtOrBelow a b
below_from_end a b e =
    let k : ℕ = length a - length b in
    (fold_of (take k a), ap fold_of (sym (take-append-drop k a)) ∙ map-append (map to_ascii_lowercase) (take k a) (drop k a) ∙ ap (λ (ls : List (List ℕ)). fold_of (take k a) ++ ls) e.1)

end_from_below : (a b : List (List ℕ)) → IsAtOrBelow a b → EndsIn a b
end_from_below a b h =
    let size : length a ≡ length (h.0 ++ fold_of b) = sym (length-map a (map to_ascii_lowercase)) ∙ ap length h.1 in
    let more : length h.0 ≡ length a - length b = omega (arith, size, length-append h.0 (fold_of b), length-map b (map to_ascii_lowercase)) in
    (omega (arith, size, length-append h.0 (fold_of b), length-map b (map to_ascii_lowercase)), sym (drop-map (map to_ascii_lowercase) (length a - length b) a) ∙ ap (drop (length a - length b)) h.1 ∙ drop_at h.0 (fold_of b) (length a - length b) more)

pub is_at_or_below-Decides : (a b : List (List ℕ)) → Decides (is_at_or_below a b) (IsAtOrBelow a b)
is_at_or_below-Decides a b =
    Decides-like (is_at_or_below a b) (below_from_end a b) (end_from_below a b)
    (Decides-and (nat_le (length b) (length a)) (is_same_name (drop (length a - length b) a) b) (leb-true (length b) (length a), le-leb (length b) (length a)) (is_same_name-Decides (drop (length a - length b) a) b))

pub is_at_or_below-is : (r : Bool) (a b : List (List ℕ)) → (IsTrue r ↔ IsAtOrBelow a b) → r ≡ is_at_or_below a b
is_at_or_below-is r a b h = same_from_decides r (is_at_or_below a b) h (is_at_or_below-Decides a b)

pub is_strictly_below-Decides : (a b : List (List ℕ)) → Decides (is_strictly_below a b) (IsStrictlyBelow a b)
is_strictly_below-Decides a b =
    Decides-like (is_strictly_below a b) (λ (h : (length b < length a) × IsAtOrBelow a b). (h.1, h.0)) (λ (h : IsStrictlyBelow a b). (h.1, h.0))
    (Decides-and (nat_lt (length b) (length a)) (is_at_or_below a b) (ltb-true (length b) (length a), lt-ltb (length b) (length a)) (is_at_or_below-Decides a b))
