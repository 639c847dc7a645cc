-- Keys of names.
use Rattle.std.proofs.Common.{◌≡◌, ℕ, ◌-◌, Bool, true, false, List, [], ◌∷◌, ◌++◌, length, map, take, drop, reverse, refl, sym, ap, ◌∙◌, arith, append_assoc}
use Rattle.std.specs.Prelude.{◌↔◌, ◌&&◌, nat_le}
use Rattle.std.specs.Bool.{Decides}
use Rattle.std.specs.Str.{bytes_eq}
use Rattle.std.specs.Char.{to_ascii_lowercase}
use Rattle.std.proofs.lemmas.Bool.Decides.{same_from_decides}
use Rattle.std.proofs.lemmas.Slice.Eq.{bytes_eq-Decides, slice_eq-Decides}
use Rattle.std.proofs.lemmas.List.{reverse-append, reverse-reverse, append_cancel_right, take-append-drop, map-append, take_at, drop_at}
use Rattle.std.proofs.lemmas.List.Concat.{flat_map-append}
use Rattle.dns_name.specs.Name.{fold_of, SameName, IsAtOrBelow, is_same_name, is_at_or_below, label_bytes, labels_bytes}
use Rattle.dns_name.proofs.Wire.{labels_bytes_same}
use Rattle.dns_zone_map.specs.Keys.{key_of, BeginsWith}

-- labels that begin a spelling are the first of its labels
pub labels_bytes-front : (xs ys : List (List ℕ)) (rest : List ℕ) → labels_bytes xs ≡ labels_bytes ys ++ rest → (more : List (List ℕ)) × (xs ≡ ys ++ more)
labels_bytes-front xs [] rest e = (xs, refl)
labels_bytes-front [] (y ∷ ys) rest e = absurd (omega (arith, ap length e))
labels_bytes-front (x ∷ xs) (y ∷ ys) rest e =
    let size : length x ≡ length y = cc in
    let bytes : x ++ labels_bytes xs ≡ y ++ (labels_bytes ys ++ rest) = (let f : x ++ labels_bytes xs ≡ (y ++ labels_bytes ys) ++ rest = ap (drop 1) e in f ∙ append_assoc y (labels_bytes ys) rest) in
    let same : x ≡ y = sym (take_at x (labels_bytes xs) (length y) size) ∙ ap (take (length y)) bytes ∙ take_at y (labels_bytes ys ++ rest) (length y) refl in
    let left : labels_bytes xs ≡ labels_bytes ys ++ rest = sym (drop_at x (labels_bytes xs) (length y) size) ∙ ap (drop (length y)) bytes ∙ drop_at y (labels_bytes ys ++ rest) (length y) refl in
    let m = labels_bytes-front xs ys rest left in
    (m.0, ap (λ z. z ∷ xs) same ∙ ap (λ zs. y ∷ zs) m.1)

same_name-Decides : (a b : List (List ℕ)) → Decides (is_same_name a b) (SameName a b)
same_name-Decides a b = slice_eq-Decides {E = bytes_eq} bytes_eq-Decides (fold_of a) (fold_of b) (is_same_name a b) refl

-- the labels of a name below the origin, folded
abbrev part : List (List ℕ) → List (List ℕ) → List (List ℕ)
part origin name = fold_of (take (length name - length origin) name)

and-second : (a b : Bool) → (a && b) ≡ true → b ≡ true
and-second true b h = h
and-second false b h = absurd cc

pub same_name : (a b : List (List ℕ)) → is_same_name a b ≡ true → SameName a b
same_name a b h = (same_name-Decides a b).0 h

-- the last labels of a name of the zone are the origin
pub same_end : (origin name : List (List ℕ)) → is_at_or_below name origin ≡ true → SameName (drop (length name - length origin) name) origin
same_end origin name within = same_name (drop (length name - length origin) name) origin (and-second (nat_le (length origin) (length name)) _ within)

-- a name of the zone is these labels before the origin
pub parts : (origin name : List (List ℕ)) → is_at_or_below name origin ≡ true → fold_of name ≡ part origin name ++ fold_of origin
parts origin name within =
    let k : ℕ = length name - length origin in
    let same : SameName (drop k name) origin = (same_name-Decides (drop k name) origin).0 (and-second (nat_le (length origin) (length name)) _ within) in
    ap fold_of (sym (take-append-drop k name)) ∙ map-append (map to_ascii_lowercase) (take k name) (drop k name) ∙ ap (λ (ls : List (List ℕ)). fold_of (take k name) ++ ls) same

module _ (origin a b : List (List ℕ)) (a_in : is_at_or_below a origin ≡ true) (b_in : is_at_or_below b origin ≡ true) where
  key_from_same : SameName a b → key_of origin a ≡ key_of origin b
  key_from_same h =
      let e : part origin a ++ fold_of origin ≡ part origin b ++ fold_of origin = sym (parts origin a a_in) ∙ h ∙ parts origin b b_in in
      ap (λ (ls : List (List ℕ)). labels_bytes (reverse ls)) (append_cancel_right (part origin a) (part origin b) (fold_of origin) e)

  same_from_key : key_of origin a ≡ key_of origin b → SameName a b
  same_from_key h =
      let r : reverse (part origin a) ≡ reverse (part origin b) = labels_bytes_same _ _ h in
      let e : part origin a ≡ part origin b = sym (reverse-reverse (part origin a)) ∙ ap reverse r ∙ reverse-reverse (part origin b) in
      parts origin a a_in ∙ ap (λ (ls : List (List ℕ)). ls ++ fold_of origin) e ∙ sym (parts origin b b_in)

  -- names of the zone are the same where their keys are
  pub same_keys : is_same_name a b ≡ bytes_eq (key_of origin a) (key_of origin b)
  same_keys =
      let d = bytes_eq-Decides (key_of origin a) (key_of origin b) in
      same_from_decides (is_same_name a b) (bytes_eq (key_of origin a) (key_of origin b)) (same_name-Decides a b) (λ t. same_from_key (d.0 t), λ h. d.1 (key_from_same h))

  key_from_below : IsAtOrBelow a b → BeginsWith (key_of origin a) (key_of origin b)
  key_from_below h =
      let e : part origin a ++ fold_of origin ≡ (h.0 ++ part origin b) ++ fold_of origin =
      sym (parts origin a a_in) ∙ h.1 ∙ ap (λ (ls : List (List ℕ)). h.0 ++ ls) (parts origin b b_in) ∙ sym (append_assoc h.0 (part origin b) (fold_of origin)) in
      let f : part origin a ≡ h.0 ++ part origin b = append_cancel_right (part origin a) (h.0 ++ part origin b) (fold_of origin) e in
      (labels_bytes (reverse h.0), ap (λ (ls : List (List ℕ)). labels_bytes (reverse ls)) f ∙ ap labels_bytes (reverse-append h.0 (part origin b)) ∙ flat_map-append label_bytes (reverse (part origin b)) (reverse h.0))

  below_from_key : BeginsWith (key_of origin a) (key_of origin b) → IsAtOrBelow a b
  below_from_key h =
      let m = labels_bytes-front (reverse (part origin a)) (reverse (part origin b)) h.0 h.1 in
      let e : part origin a ≡ reverse m.0 ++ part origin b =
      sym (reverse-reverse (part origin a)) ∙ ap reverse m.1 ∙ reverse-append (reverse (part origin b)) m.0 ∙ ap (λ (ls : List (List ℕ)). reverse m.0 ++ ls) (reverse-reverse (part origin b)) in
      (reverse m.0, parts origin a a_in ∙ ap (λ (ls : List (List ℕ)). ls ++ fold_of origin) e ∙ append_assoc (reverse m.0) (part origin b) (fold_of origin) ∙ ap (λ (ls : List (List ℕ)). reverse m.0 ++ ls) (sym (parts origin b b_in)))

  -- a name of the zone is at another or below it where its key begins with the other's
  pub below_keys : IsAtOrBelow a b ↔ BeginsWith (key_of origin a) (key_of origin b)
  below_keys = (key_from_below, below_from_key)
