-- The lines and the parts of a text, cut at the first byte that a search finds.
use Rattle.std.proofs.Common.{◌≡◌, ℕ, zero, suc, ◌+◌, ◌-◌, Bool, true, false, List, [], ◌∷◌, ◌++◌, length, take, drop, refl, ap, ◌∙◌, arith, append_assoc, length-drop, Some, None}
use Rattle.std.specs.Prelude.{◌==◌, if◌then◌else◌}
use Rattle.std.proofs.lemmas.List.{append-nil, take_all, drop_all, drop-drop}
use Rattle.memchr.specs.Find.{IsFirstByte, is_byte}
use Rattle.dns_presentation.specs.Lines.{without_return, lines_from, lines_of, parts_from, parts_of}

module _ (wanted byte : ℕ) (text : List ℕ) where
  -- the first byte is the one that was found
  here : (k : ℕ) → IsFirstByte (is_byte wanted) (byte ∷ text) (Some k) → (byte == wanted) ≡ true → k ≡ 0
  here zero f e = refl
  here (suc k) f e = absurd (f.0.before 0 (omega arith) (omega arith) e)

  -- the byte that was found is behind the first one
  later : (k : ℕ) → IsFirstByte (is_byte wanted) (byte ∷ text) (Some k) → (byte == wanted) ≡ false → (j : ℕ) × (k ≡ suc j) × IsFirstByte (is_byte wanted) text (Some j)
  later zero f e = absurd cc
  later (suc k) f e = (k, refl, (record { low = omega arith; high = omega (arith, f.0.high); before = λ i l h p. f.0.before (suc i) (omega arith) (omega (arith, h)) p }, f.1))

  -- no byte was found behind the first one, which is none either
  none_behind : IsFirstByte (is_byte wanted) (byte ∷ text) None → IsFirstByte (is_byte wanted) text None
  none_behind f = λ i l h p. f (suc i) (omega arith) (omega (arith, h)) p

  none_here : IsFirstByte (is_byte wanted) (byte ∷ text) None → (byte == wanted) ≡ true → ⊥
  none_here f e = f 0 (omega arith) (omega arith) e

pub parts_first : (separator : ℕ) (front text : List ℕ) (k : ℕ) → IsFirstByte (is_byte separator) text (Some k) → parts_from separator front text ≡ (front ++ take k text) ∷ parts_of separator (drop (k + 1) text)
parts_first separator front [] k f = absurd (omega (arith, f.0.high))
parts_first separator front (byte ∷ text) k f = cut (λ j g. parts_first separator (front ++ byte ∷ []) text j g) (byte == separator) refl
  where
    cut : ((j : ℕ) → IsFirstByte (is_byte separator) text (Some j) → parts_from separator (front ++ byte ∷ []) text ≡ ((front ++ byte ∷ []) ++ take j text) ∷ parts_of separator (drop (j + 1) text)) → (ends : Bool) → (byte == separator) ≡ ends → parts_from separator front (byte ∷ text) ≡ (front ++ take k (byte ∷ text)) ∷ parts_of separator (drop (k + 1) (byte ∷ text))
    cut more true e = rw (here separator byte text k f e, e, append-nil front) refl
    cut more false e =
        let l = later separator byte text k f e in
        let shift : suc l.0 + 1 ≡ suc (l.0 + 1) = omega arith in
        rw (l.1, shift, e) (more l.0 l.2 ∙ ap (λ (part : List ℕ). part ∷ parts_of separator (drop (l.0 + 1) text)) (append_assoc front (byte ∷ []) (take l.0 text)))

pub parts_none : (separator : ℕ) (front text : List ℕ) → IsFirstByte (is_byte separator) text None → parts_from separator front text ≡ (front ++ text) ∷ []
parts_none separator front [] f = rw (append-nil front) refl
parts_none separator front (byte ∷ text) f = cut (λ g. parts_none separator (front ++ byte ∷ []) text g) (byte == separator) refl
  where
    cut : (IsFirstByte (is_byte separator) text None → parts_from separator (front ++ byte ∷ []) text ≡ ((front ++ byte ∷ []) ++ text) ∷ []) → (ends : Bool) → (byte == separator) ≡ ends → parts_from separator front (byte ∷ text) ≡ (front ++ byte ∷ text) ∷ []
    cut more true e = absurd (none_here separator byte text f e)
    cut more false e = rw e (more (none_behind separator byte text f) ∙ ap (λ (part : List ℕ). part ∷ []) (append_assoc front (byte ∷ []) text))

pub lines_first : (front text : List ℕ) (k : ℕ) → IsFirstByte (is_byte 10) text (Some k) → lines_from front text ≡ without_return (front ++ take k text) ∷ lines_of (drop (k + 1) text)
lines_first front [] k f = absurd (omega (arith, f.0.high))
lines_first front (byte ∷ text) k f = cut (λ j g. lines_first (front ++ byte ∷ []) text j g) (byte == 10) refl
  where
    cut : ((j : ℕ) → IsFirstByte (is_byte 10) text (Some j) → lines_from (front ++ byte ∷ []) text ≡ without_return ((front ++ byte ∷ []) ++ take j text) ∷ lines_of (drop (j + 1) text)) → (ends : Bool) → (byte == 10) ≡ ends → lines_from front (byte ∷ text) ≡ without_return (front ++ take k (byte ∷ text)) ∷ lines_of (drop (k + 1) (byte ∷ text))
    cut more true e = rw (here 10 byte text k f e, e, append-nil front) refl
    cut more false e =
        let l = later 10 byte text k f e in
        let shift : suc l.0 + 1 ≡ suc (l.0 + 1) = omega arith in
        rw (l.1, shift, e) (more l.0 l.2 ∙ ap (λ (line : List ℕ). without_return line ∷ lines_of (drop (l.0 + 1) text)) (append_assoc front (byte ∷ []) (take l.0 text)))

-- the one line that the rest of a text is, where it is any
abbrev pub last_line : List ℕ → List (List ℕ)
last_line line = if length line == 0 then [] else line ∷ []

pub lines_none : (front text : List ℕ) → IsFirstByte (is_byte 10) text None → lines_from front text ≡ last_line (front ++ text)
lines_none front [] f = rw (append-nil front) refl
lines_none front (byte ∷ text) f = cut (λ g. lines_none (front ++ byte ∷ []) text g) (byte == 10) refl
  where
    cut : (IsFirstByte (is_byte 10) text None → lines_from (front ++ byte ∷ []) text ≡ last_line ((front ++ byte ∷ []) ++ text)) → (ends : Bool) → (byte == 10) ≡ ends → lines_from front (byte ∷ text) ≡ last_line (front ++ byte ∷ text)
    cut more true e = absurd (none_here 10 byte text f e)
    cut more false e = rw e (more (none_behind 10 byte text f) ∙ ap last_line (append_assoc front (byte ∷ []) text))

-- what is behind the byte at a place
behind : (k : ℕ) (text : List ℕ) → take (length (drop k text) - 1) (drop 1 (drop k text)) ≡ drop (k + 1) text
behind k text = take_all _ (drop 1 (drop k text)) (omega (arith, length-drop 1 (drop k text))) ∙ drop-drop 1 k text

pub parts_cut : (separator : ℕ) (text front back : List ℕ) (k : ℕ) → IsFirstByte (is_byte separator) text (Some k) → front ≡ take k text → back ≡ drop k text → parts_of separator text ≡ front ∷ parts_of separator (take (length back - 1) (drop 1 back))
parts_cut separator text front back k f a b = rw (a, b, behind k text) (parts_first separator [] text k f)

pub lines_cut : (text front back line : List ℕ) (k : ℕ) → IsFirstByte (is_byte 10) text (Some k) → front ≡ take k text → back ≡ drop k text → line ≡ without_return front → lines_of text ≡ line ∷ lines_of (take (length back - 1) (drop 1 back))
lines_cut text front back line k f a b is = rw (is, a, b, behind k text) (lines_first [] text k f)

-- a text without a line feed is one line
pub lines_last : (text front back : List ℕ) → IsFirstByte (is_byte 10) text None → false ≡ (length text == 0) → front ≡ take (length text) text → back ≡ drop (length text) text → lines_of text ≡ front ∷ lines_of back
lines_last text front back f e a b =
    rw (a, b, take_all (length text) text (omega arith), drop_all (length text) text (omega arith)) (lines_none [] text f ∙ rw (← e) refl)
