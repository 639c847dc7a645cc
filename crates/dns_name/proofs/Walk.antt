use Rattle.std.proofs.Common.{◌≡◌, ℕ, suc, ◌+◌, ◌<◌, ◌≤◌, List, [], ◌∷◌, ◌++◌, length, get_or, drop, refl, sym, ap, ◌∙◌, arith, length-append, length-drop}
use Rattle.std.specs.List.{AllByRecursion}
use Rattle.std.proofs.lemmas.List.{drop_at, drop-drop, get_or-drop, length_push, append-nil}
use Rattle.std.proofs.lemmas.List.Sums.{sum_by-cons, sum_by_push}
use Rattle.std.proofs.lemmas.List.Concat.{flat_map-append}
use Rattle.dns_name.specs.Name.{IsLabel, IsName, name_len, label_bytes, labels_bytes}
use Rattle.dns_name.specs.NameBuffer.{labels_of, IsWire}

-- from a place on, the bytes spell these labels
pub record Spells (bytes : List ℕ) (at : ℕ) (rest : List (List ℕ)) : Type 0 where
  pub within : at ≤ length bytes
  pub left : drop at bytes ≡ labels_bytes rest
  pub each : AllByRecursion IsLabel rest

pub Spells-whole : (bytes : List ℕ) → IsWire bytes → Spells bytes 0 (labels_of bytes)
Spells-whole bytes w = record { within = omega arith; left = w.spelled; each = w.name.each }

-- how many bytes are left
pub Spells-length : (bytes : List ℕ) (at : ℕ) (rest : List (List ℕ)) → Spells bytes at rest → at + length (labels_bytes rest) ≡ length bytes
Spells-length bytes at rest s = omega (arith, s.within, length-drop at bytes, ap length s.left)

pub Spells-end : (bytes : List ℕ) (at : ℕ) (rest : List (List ℕ)) → Spells bytes at rest → length bytes ≤ at → rest ≡ []
Spells-end bytes at [] s h = refl
Spells-end bytes at (l ∷ ls) s h = absurd (omega (arith, Spells-length bytes at (l ∷ ls) s))

drop-labels_bytes : (l : List ℕ) (ls : List (List ℕ)) → drop (1 + length l) (labels_bytes (l ∷ ls)) ≡ labels_bytes ls
drop-labels_bytes l ls =
    let e : 1 + length l ≡ suc (length l) = omega arith in
    rw e (drop_at l (labels_bytes ls) (length l) refl)

-- the next label
pub record Next (bytes : List ℕ) (at : ℕ) (rest : List (List ℕ)) : Type 0 where
  pub first : List ℕ
  pub others : List (List ℕ)
  pub is : rest ≡ first ∷ others
  pub size : get_or bytes at 0 ≡ length first
  pub label : IsLabel first
  pub after : Spells bytes (at + (1 + length first)) others

pub Spells-next : (bytes : List ℕ) (at : ℕ) (rest : List (List ℕ)) → Spells bytes at rest → at < length bytes → Next bytes at rest
Spells-next bytes at [] s h = absurd (omega (arith, Spells-length bytes at [] s))
Spells-next bytes at (l ∷ ls) s h = record {
  first = l;
  others = ls;
  is = refl;
  size = sym (get_or-drop at bytes 0 0 ∙ ap (λ n. get_or bytes n 0) (omega arith)) ∙ ap (λ xs. get_or xs 0 0) s.left;
  label = s.each.0;
  after = record {
    within = omega (arith, Spells-length bytes at (l ∷ ls) s, length-append l (labels_bytes ls));
    left = sym (drop-drop (1 + length l) at bytes) ∙ ap (drop (1 + length l)) s.left ∙ drop-labels_bytes l ls;
    each = s.each.1;
  };
}

pub Spells-some : (bytes : List ℕ) (at : ℕ) (rest : List (List ℕ)) → Spells bytes at rest → 0 < length rest → at < length bytes
Spells-some bytes at [] s h = absurd (omega arith)
Spells-some bytes at (l ∷ ls) s h = omega (arith, Spells-length bytes at (l ∷ ls) s)

pub IsName-tail : (l : List ℕ) (ls : List (List ℕ)) → IsName (l ∷ ls) → IsName ls
IsName-tail l ls n = record { each = n.each.1; short = omega (arith, n.short, sum_by-cons length l ls) }

pub AllByRecursion-append : (xs ys : List (List ℕ)) → AllByRecursion IsLabel xs → AllByRecursion IsLabel ys → AllByRecursion IsLabel (xs ++ ys)
AllByRecursion-append [] ys a b = b
AllByRecursion-append (x ∷ xs) ys a b = (a.0, AllByRecursion-append xs ys a.1 b)

pub IsName-push : (ls : List (List ℕ)) (l : List ℕ) → IsName ls → IsLabel l → name_len ls + length l + 1 ≤ 255 → IsName (ls ++ l ∷ [])
IsName-push ls l n h room = record {
  each = AllByRecursion-append ls (l ∷ []) n.each (h, tt);
  short = omega (arith, sum_by_push length ls l, length_push ls l, room);
}

pub labels_bytes-push : (ls : List (List ℕ)) (l : List ℕ) → labels_bytes (ls ++ l ∷ []) ≡ labels_bytes ls ++ label_bytes l
labels_bytes-push ls l = flat_map-append label_bytes ls (l ∷ []) ∙ ap (λ xs. labels_bytes ls ++ xs) (append-nil (label_bytes l))
