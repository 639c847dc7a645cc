-- Where batches end that cover rows, and the frames of rows that are marked by it.
use Rattle.std.proofs.Common.{◌≡◌, ◌≤◌, ◌<◌, ◌+◌, ◌-◌, ◌+ℤ◌, inl, inr, ℕ, zero, suc, ℤ, pos, List, [], ◌∷◌, ◌++◌, length, map, take, drop, get_or, Bool, true, false, Option, None, refl, sym, ap, ◌∙◌, subst, arith, length-append, length-drop, get_or-drop}
use Rattle.std.specs.Prelude.{◌||◌, ◌-ℤ◌, if◌then◌else◌}
use Rattle.std.specs.Ordering.{int_eq}
use Rattle.std.specs.Int.Signed.{le_z}
use Rattle.std.proofs.lemmas.Int.{ints}
use Rattle.std.proofs.lemmas.List.{map-append, take_more, take_all}
use Rattle.std.proofs.lemmas.Bool.{cases_Bool}
use Rattle.dns_keeper.specs.declared.row.Row.{Row}
use Rattle.dns_keeper.specs.declared.batch_row.BatchRow.{BatchRow}
use Rattle.dns_keeper.specs.Batches.{IsRun, AreNumbered, Covers, batch_from}
use Rattle.dns_follow.specs.declared.frame.Frame.{Frame}
use Rattle.dns_follow.specs.Feed.{ends_batch, frame_of, frame_with}
use Rattle.dns_follow.specs.Feeding.{is_fit, unfit}
use Rattle.dns_follow.specs.Scanning.{IsIdIn, IsKnownEnd, IsNextEnd, end_before, IsMarkedBy, IsMarkedUpTo}

-- ---- ends of batches

run_some : (run : List Row) → IsRun run → 1 ≤ length run
run_some [] h = absurd h
run_some (r ∷ run) h = omega arith

-- no batch of these ends before the first id
no_end : (e k : ℤ) (rows : List Row) (batches : List BatchRow) → Covers e rows batches → le_z e k ≡ false → ends_batch batches k ≡ false
no_end e k rows [] covers before = refl
no_end e k rows (b ∷ batches) covers before =
    let n = length covers.0 in
    let some : 1 ≤ n = run_some covers.0 covers.3 in
    let past : int_eq (e +ℤ pos n) (k +ℤ pos 1) ≡ false = grind (arith, ints) in
    let beyond : le_z (e +ℤ pos n) k ≡ false = grind (arith, ints) in
    let more : ends_batch batches k ≡ false = no_end (e +ℤ pos n) k covers.1 batches covers.5 beyond in
    rw (covers.4, past) more

-- with one batch more in front, which ends before the id
one_before : (b : BatchRow) (batches : List BatchRow) (id end : ℤ) → ((k : ℤ) → le_z id k ≡ true → int_eq (b.first +ℤ b.count) (k +ℤ pos 1) ≡ false) → IsNextEnd batches id end → IsNextEnd (b ∷ batches) id end
one_before b batches id end past next = record {
  behind = next.behind;
  ends = rw (past end next.behind) next.ends;
  between = λ k low high. rw (past k low) (next.between k low high);
}

-- the id is in the first batch
here : (e id last : ℤ) (n : ℕ) (rest : List Row) (batches : List BatchRow) → Covers (e +ℤ pos n) rest batches → le_z e id ≡ true → le_z (e +ℤ pos n) id ≡ false
    → last +ℤ pos 1 ≡ (e +ℤ pos n) +ℤ pos (length rest)
    → IsNextEnd (record { first = e; count = pos n } ∷ batches) id (end_before (batch_from (id +ℤ pos 1) batches) id last)
here e id last n rest [] covers low high is =
    let none : length rest ≡ 0 = ap length covers in
    let size : last +ℤ pos 1 ≡ e +ℤ pos n = is ∙ ap (λ (m : ℕ). (e +ℤ pos n) +ℤ pos m) none ∙ omega (arith, ints) in
    let tells : int_eq (e +ℤ pos n) (last +ℤ pos 1) ≡ true = grind (arith, size) in
    record {
      behind = grind (arith, ints, size);
      ends = rw tells refl;
      between = λ k from before.
          let past : int_eq (e +ℤ pos n) (k +ℤ pos 1) ≡ false = grind (arith, ints, size) in
          rw past refl;
    }
here e id last n rest (c ∷ batches) covers low high is =
    let begins : c.first ≡ e +ℤ pos n = ap (λ (b : BatchRow). b.first) covers.4 in
    let found : le_z (id +ℤ pos 1) c.first ≡ true = grind (arith, ints, begins) in
    let behind : le_z c.first id ≡ false = ap (λ (z : ℤ). le_z z id) begins ∙ high in
    let end : c.first -ℤ pos 1 ≡ (e +ℤ pos n) -ℤ pos 1 = ap (λ (z : ℤ). z -ℤ pos 1) begins in
    let tells : int_eq (e +ℤ pos n) (((e +ℤ pos n) -ℤ pos 1) +ℤ pos 1) ≡ true = grind (arith, ints) in
    rw (found, behind, end) (record {
      behind = grind (arith, ints);
      ends = rw tells refl;
      between = λ k from before.
          let past : int_eq (e +ℤ pos n) (k +ℤ pos 1) ≡ false = grind (arith, ints) in
          let beyond : le_z (e +ℤ pos n) k ≡ false = grind (arith, ints) in
          rw past (no_end (e +ℤ pos n) k rest (c ∷ batches) covers beyond);
    })

next_in : (e id last : ℤ) (rows : List Row) (batches : List BatchRow) → Covers e rows batches → le_z e id ≡ true → le_z id last ≡ true → last +ℤ pos 1 ≡ e +ℤ pos (length rows)
    → IsNextEnd batches id (end_before (batch_from (id +ℤ pos 1) batches) id last)
next_in e id last rows [] covers low high is =
    let none : length rows ≡ 0 = ap length covers in
    absurd (let size : last +ℤ pos 1 ≡ e +ℤ pos 0 = is ∙ ap (λ (m : ℕ). e +ℤ pos m) none in grind (arith, ints, size))
next_in e id last rows (b ∷ batches) covers low high is =
    let n = length covers.0 in
    let some : 1 ≤ n = run_some covers.0 covers.3 in
    let size : length rows ≡ n + length covers.1 = ap length covers.2 ∙ length-append covers.0 covers.1 in
    let left : last +ℤ pos 1 ≡ (e +ℤ pos n) +ℤ pos (length covers.1) = omega (arith, ints, is, size) in
    let before : le_z (id +ℤ pos 1) e ≡ false = grind (arith, ints) in
    let pair : BatchRow = record { first = e; count = pos n } in
    let whole : IsNextEnd (pair ∷ batches) id (end_before (batch_from (id +ℤ pos 1) batches) id last) = elim (cases_Bool (le_z (e +ℤ pos n) id)) [
      | inl past ↦
          one_before pair batches id (end_before (batch_from (id +ℤ pos 1) batches) id last)
          (λ k low. grind (arith, ints))
          (next_in (e +ℤ pos n) id last covers.1 batches covers.5 past high left)
      | inr other ↦ here e id last n covers.1 batches covers.5 low other left
    ] in
    rw (covers.4, before) whole

pub next_end : (id last : ℤ) (batches : List BatchRow) (rows : List Row) (found : Option BatchRow) (end : ℤ) → IsIdIn id last batches rows → found ≡ batch_from (id +ℤ pos 1) batches → end ≡ end_before found id last
    → IsNextEnd batches id end
next_end id last batches rows found end within is end_is =
    subst (IsNextEnd batches id) (sym (end_is ∙ ap (λ (o : Option BatchRow). end_before o id last) is))
    (next_in (pos 1) id last rows batches within.covered within.low within.high (ap (λ (z : ℤ). z +ℤ pos 1) within.number ∙ omega (arith, ints)))

-- a batch ends with the last row of all
last_tells : (e last : ℤ) (rows : List Row) (batches : List BatchRow) → Covers e rows batches → le_z e last ≡ true → last +ℤ pos 1 ≡ e +ℤ pos (length rows) → ends_batch batches last ≡ true
last_tells e last rows [] covers low is =
    let none : length rows ≡ 0 = ap length covers in
    absurd (let size : last +ℤ pos 1 ≡ e +ℤ pos 0 = is ∙ ap (λ (m : ℕ). e +ℤ pos m) none in grind (arith, ints, size))
last_tells e last rows (b ∷ batches) covers low is =
    let n = length covers.0 in
    let size : length rows ≡ n + length covers.1 = ap length covers.2 ∙ length-append covers.0 covers.1 in
    let left : last +ℤ pos 1 ≡ (e +ℤ pos n) +ℤ pos (length covers.1) = omega (arith, ints, is, size) in
    let whole : (int_eq (e +ℤ pos n) (last +ℤ pos 1) || ends_batch batches last) ≡ true = elim (cases_Bool (le_z (e +ℤ pos n) last)) [
      | inl past ↦ either (int_eq (e +ℤ pos n) (last +ℤ pos 1)) (ends_batch batches last) (last_tells (e +ℤ pos n) last covers.1 batches covers.5 past left)
      | inr other ↦
          let tells : int_eq (e +ℤ pos n) (last +ℤ pos 1) ≡ true = grind (arith, ints, left) in
          rw tells refl
    ] in
    rw covers.4 whole
  where
    either : (a b : Bool) → b ≡ true → (a || b) ≡ true
    either true b h = refl
    either false b h = h

pub last_end : (id last : ℤ) (batches : List BatchRow) (rows : List Row) → IsIdIn id last batches rows → le_z last id ≡ true → IsNextEnd batches id last
last_end id last batches rows within high = record {
  behind = within.high;
  ends =
      let low : le_z (pos 1) last ≡ true = below (pos 1) id last within.low within.high in
      last_tells (pos 1) last rows batches within.covered low (ap (λ (z : ℤ). z +ℤ pos 1) within.number ∙ omega (arith, ints));
  between = λ k from before. absurd (past id last k high from before);
}
  where
    below : (a b c : ℤ) → le_z a b ≡ true → le_z b c ≡ true → le_z a c ≡ true
    below a b c first second = grind (arith, ints)

    past : (id last k : ℤ) → le_z last id ≡ true → le_z id k ≡ true → le_z last k ≡ false → ⊥
    past id last k high from before = grind (arith, ints)

-- ---- rows

-- the ids of rows
pub id_at : (e : ℤ) (rows : List Row) (i : ℕ) (d : Row) → AreNumbered e rows → i < length rows → (get_or rows i d).id ≡ e +ℤ pos i
id_at e [] i d h within = absurd (omega arith)
id_at e (r ∷ rows) zero d h within = h.0 ∙ omega (arith, ints)
id_at e (r ∷ rows) (suc i) d h within = id_at (e +ℤ pos 1) rows i d h.1 (omega arith) ∙ omega (arith, ints)

-- none of them is unfit
pub fit_at : (rows : List Row) (i : ℕ) (row : Row) → unfit rows ≡ None → i < length rows → row ≡ get_or rows i row → is_fit row ≡ true
fit_at rows i row none within is = ap is_fit is ∙ go rows i none within
  where
    go : (rows : List Row) (i : ℕ) → unfit rows ≡ None → i < length rows → is_fit (get_or rows i row) ≡ true
    go [] i none within = absurd (omega arith)
    go (r ∷ rows) zero none within = elim (cases_Bool (is_fit r)) [
      | inl fits ↦ fits
      | inr other ↦ absurd (let wrong = rw other at none in cc)
    ]
    go (r ∷ rows) (suc i) none within = elim (cases_Bool (is_fit r)) [
      | inl fits ↦ go rows i (rw fits at none) (omega arith)
      | inr other ↦ absurd (let wrong = rw other at none in cc)
    ]

-- the last rows of rows of which none is unfit
pub fit_drop : (n : ℕ) (rows : List Row) → unfit rows ≡ None → unfit (drop n rows) ≡ None
fit_drop zero rows none = none
fit_drop (suc n) [] none = refl
fit_drop (suc n) (r ∷ rows) none = elim (cases_Bool (is_fit r)) [
  | inl fits ↦ fit_drop n rows (rw fits at none)
  | inr other ↦ absurd (let wrong = rw other at none in cc)
]

-- ---- how far rows were marked

-- the mark of a row is right
mark_is : (batches : List BatchRow) (id end : ℤ) → IsNextEnd batches id end → ends_batch batches id ≡ int_eq id end
mark_is batches id end next = elim (cases_Bool (int_eq id end)) [
  | inl here ↦
      let same : id ≡ end = grind (arith, here) in
      ap (ends_batch batches) same ∙ next.ends ∙ sym here
  | inr other ↦
      let low : le_z id id ≡ true = grind (arith, ints) in
      let high : le_z end id ≡ false = before id end next.behind other in
      next.between id low high ∙ sym other
]
  where
    before : (id end : ℤ) → le_z id end ≡ true → int_eq id end ≡ false → le_z end id ≡ false
    before id end behind other = grind (arith, ints)

frame_right : (batches : List BatchRow) (row : Row) (end : ℤ) (is_last : Bool) (frame : Frame) → IsNextEnd batches row.id end → is_last ≡ int_eq row.id end
    → frame ≡ frame_with (if is_last then 1 else 0) row → frame ≡ frame_of batches row
frame_right batches row end is_last frame next last_is is =
    is ∙ ap (λ (b : Bool). frame_with (if b then 1 else 0) row) (last_is ∙ sym (mark_is batches row.id end next))

module _ (kept : List Row) (last : ℤ) (batches : List BatchRow) (rows : List Row) where
  module _ (count : ℕ) (frames : List Frame) (end : ℤ) (row : Row) (within : count < length kept) (row_is : row ≡ get_or kept count row) (read : IsMarkedUpTo kept last count frames end batches rows) where
    row_id : row.id ≡ pos (read.placed.before + 1 + count)
    row_id =
        let before = read.placed.before in
        let size : length kept ≡ length rows - before = ap length read.placed.are ∙ length-drop before rows in
        let low : before + count < length rows = omega (arith, size) in
        let is : row ≡ get_or rows (before + count) row = row_is ∙ ap (λ (l : List Row). get_or l count row) read.placed.are ∙ get_or-drop before rows count row in
        ap (λ (r : Row). r.id) is ∙ id_at (pos 1) rows (before + count) row read.placed.numbered low ∙ ap pos (omega arith)

    pub marks_id : IsIdIn row.id last batches rows
    marks_id =
        let before = read.placed.before in
        let size : length kept ≡ length rows - before = ap length read.placed.are ∙ length-drop before rows in
        let low : before + count < length rows = omega (arith, size) in
        record {
          low = ap (le_z (pos 1)) row_id ∙ within_one (before + 1 + count) (omega arith);
          high = ap (λ (z : ℤ). le_z z last) row_id ∙ ap (le_z (pos (before + 1 + count))) read.placed.number ∙ in_order (before + 1 + count) (length rows) (omega arith);
          covered = read.placed.covered;
          number = read.placed.number;
        }
      where
        in_order : (a b : ℕ) → a ≤ b → le_z (pos a) (pos b) ≡ true
        in_order a b h = grind (arith, ints)

        within_one : (a : ℕ) → 1 ≤ a → le_z (pos 1) (pos a) ≡ true
        within_one a h = in_order 1 a h

    pub marks_known : IsKnownEnd batches row.id end
    marks_known = subst (λ (z : ℤ). IsKnownEnd batches z end) (sym row_id) read.known

    pub marks_on : (next : ℤ) (is_last : Bool) (frame : Frame) (more : List Frame) → IsNextEnd batches row.id next → is_last ≡ int_eq row.id next → frame ≡ frame_with (if is_last then 1 else 0) row
        → more ≡ frames ++ frame ∷ [] → IsMarkedUpTo kept last (count + 1) more next batches rows
    marks_on next is_last frame more ends last_is frame_is more_is =
        let n = read.placed.before in
        let right : frame ≡ frame_of batches (get_or kept count row) = frame_right batches row next is_last frame ends last_is frame_is ∙ ap (frame_of batches) row_is in
        let taken : take (count + 1) kept ≡ take count kept ++ get_or kept count row ∷ [] = take_more kept count row within in
        let one_on : pos (n + 1 + (count + 1)) ≡ pos (n + 1 + count) +ℤ pos 1 = omega (arith, ints) in
        record {
          placed = read.placed;
          are = more_is ∙ ap (λ (l : List Frame). l ++ frame ∷ []) read.are ∙ ap (λ (f : Frame). map (frame_of batches) (take count kept) ++ f ∷ []) right
              ∙ sym (ap (map (frame_of batches)) taken ∙ map-append (frame_of batches) (take count kept) (get_or kept count row ∷ []));
          known = λ low. later (pos (n + 1 + count)) (pos (n + 1 + (count + 1))) next one_on (subst (λ (z : ℤ). IsNextEnd batches z next) row_id ends) low;
        }
      where
        later : (id up end : ℤ) → up ≡ id +ℤ pos 1 → IsNextEnd batches id end → le_z up end ≡ true → IsNextEnd batches up end
        later id up end is ends low = record { behind = low; ends = ends.ends; between = λ k from before. ends.between k (below id up k is from) before }
          where
            below : (a b c : ℤ) → b ≡ a +ℤ pos 1 → le_z b c ≡ true → le_z a c ≡ true
            below a b c is h = grind (arith, ints)

  pub marks_end : (count : ℕ) (frames : List Frame) (end : ℤ) → length kept ≤ count → IsMarkedUpTo kept last count frames end batches rows → IsMarkedBy batches kept frames
  marks_end count frames end all read = read.are ∙ ap (map (frame_of batches)) (take_all count kept all)
