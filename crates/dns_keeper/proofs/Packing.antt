-- Rows as they are packed and found again.
use Rattle.std.proofs.Common.{◌≡◌, ◌≤◌, ◌<◌, inl, inr, ◌+◌, ◌-◌, ◌^◌, ℕ, ℤ, pos, neg_ℤ, ◌+ℤ◌, List, [], ◌∷◌, ◌++◌, length, map, take, drop, get_or, slice_get, append_assoc, append-nil, Option, Some, None, true, false, zero, suc, refl, sym, ap, subst, ◌∙◌, arith}
use Rattle.std.specs.Int.Signed.{le_z}
use Rattle.std.proofs.lemmas.Int.{ints}
use Rattle.std.proofs.lemmas.List.{take-append-le, drop-append-le, length-drop, length-append}
use Rattle.std.proofs.lemmas.Bool.{cases_Bool}
use Rattle.std.proofs.lemmas.Bool.Decides.{nat_tests}
use Rattle.std.proofs.Math.Seq.{drop-append_seam, take-length, drop-cons}
use Rattle.dns_wire.specs.declared.record.Record.{Record}
use Rattle.dns_wire.specs.WireFormat.{record_bytes}
use Rattle.dns_keeper.specs.declared.row.Row.{Row}
use Rattle.dns_keeper.specs.Rows.{rows_of, first_of, first_from}
use Rattle.dns_keeper.specs.Packed.{numbered, parts, AreEnds, Packs, joined, IsPlaceFrom, IsFound}

-- the rows of records, from what the records are uncompressed
pub numbered_rows : (id : ℤ) (client serial : ℕ) (stamp : List ℕ) (records : List Record) → numbered id client serial stamp (map record_bytes records) ≡ rows_of id client serial stamp records
numbered_rows id client serial stamp [] = refl
numbered_rows id client serial stamp (r ∷ rs) = rw (numbered_rows (id +ℤ pos 1) client serial stamp rs) refl

-- ---- what is put behind the last part

pub start_within : (start : ℕ) (ends : List ℕ) (count : ℕ) → AreEnds start ends count → start ≤ count
start_within start [] count are = omega arith
start_within start (e ∷ ends) count are =
    let low = are.0 in
    let high = start_within e ends count are.1 in
    omega arith

same_part : (start e : ℕ) (bytes more : List ℕ) → start ≤ e → e ≤ length bytes → take (e - start) (drop start (bytes ++ more)) ≡ take (e - start) (drop start bytes)
same_part start e bytes more low high =
    let within : start ≤ length bytes = omega arith in
    let long : length (drop start bytes) ≡ length bytes - start = length-drop start bytes in
    let part : (e - start) ≤ length (drop start bytes) = rw long (omega arith) in
    rw (drop-append-le start bytes more within) (take-append-le (e - start) (drop start bytes) more part)

last_part : (bytes text : List ℕ) → take ((length bytes + length text) - length bytes) (drop (length bytes) (bytes ++ text)) ≡ text
last_part bytes text =
    let long : (length bytes + length text) - length bytes ≡ length text = omega arith in
    rw (drop-append_seam bytes text, long) (take-length text)

parts_more : (start : ℕ) (ends bytes text : List ℕ) → AreEnds start ends (length bytes) → parts start (ends ++ (length bytes + length text) ∷ []) (bytes ++ text) ≡ parts start ends bytes ++ text ∷ []
parts_more start [] bytes text are = rw are (ap (λ t. t ∷ []) (last_part bytes text))
parts_more start (e ∷ ends) bytes text are =
    rw (same_part start e bytes text are.0 (start_within e ends (length bytes) are.1), parts_more e ends bytes text are.1) refl

ends_more : (start : ℕ) (ends : List ℕ) (count more : ℕ) → AreEnds start ends count → count ≤ more → AreEnds start (ends ++ more ∷ []) more
ends_more start [] count more are above = ((omega arith), refl)
ends_more start (e ∷ ends) count more are above = (are.0, ends_more e ends count more are.1 above)

pub packs_more : (front : List ℕ) (texts : List (List ℕ)) (ends bytes text : List ℕ) → Packs front texts ends bytes
    → Packs front (texts ++ text ∷ []) (ends ++ length (bytes ++ text) ∷ []) (bytes ++ text)
packs_more front texts ends bytes text packs =
    let long : length (bytes ++ text) ≡ length bytes + length text = length-append bytes text in
    let above : length bytes ≤ (length bytes + length text) = omega arith in
    let within : length front ≤ length bytes = start_within (length front) ends (length bytes) packs.ordered in
    record {
      ordered = rw long (ends_more (length front) ends (length bytes) (length bytes + length text) packs.ordered above);
      behind = rw (long, parts_more (length front) ends bytes text packs.ordered) (ap (λ ts. ts ++ text ∷ []) packs.behind);
      begins = rw (take-append-le (length front) bytes text within) packs.begins;
    }

-- ---- a part that is looked for

pub bounds : (start : ℕ) (ends : List ℕ) (count place : ℕ) → AreEnds start ends count → place < length ends → (get_or (start ∷ ends) place 0 ≤ get_or ends place 0) × (get_or ends place 0 ≤ count)
bounds start [] count place are within = absurd (omega arith)
bounds start (e ∷ ends) count zero are within = (are.0, start_within e ends count are.1)
bounds start (e ∷ ends) count (suc p) are within = bounds e ends count p are.1 (omega arith)

pub part : (start : ℕ) (ends bytes : List ℕ) (place : ℕ) → place < length ends
    → slice_get (parts start ends bytes) place ≡ Some (take (get_or ends place 0 - get_or (start ∷ ends) place 0) (drop (get_or (start ∷ ends) place 0) bytes))
part start [] bytes place within = absurd (omega arith)
part start (e ∷ ends) bytes zero within = refl
part start (e ∷ ends) bytes (suc p) within = part e ends bytes p (omega arith)

pub length-parts : (start : ℕ) (ends bytes : List ℕ) → length (parts start ends bytes) ≡ length ends
length-parts start [] bytes = refl
length-parts start (e ∷ ends) bytes = ap suc (length-parts e ends bytes)

-- ---- a row that is looked for

-- the row of a record, if there is one
abbrev pub row_of : ℤ → ℕ → ℕ → List ℕ → Option (List ℕ) → Option Row
row_of id client serial stamp None = None
row_of id client serial stamp (Some text) = Some (record { id = id; client = pos client; serial = pos serial; stamp = stamp; bytes = text })

nothing_between : (first : ℤ) (place : ℕ) → first +ℤ pos (suc place) ≡ (first +ℤ pos 1) +ℤ pos place
nothing_between first place = omega (arith, ints)

above : (first : ℤ) (place : ℕ) → le_z (first +ℤ pos (suc place)) first ≡ false
above first place = grind (arith, ints, nat_tests)

not_below : (first : ℤ) → le_z (first +ℤ pos 0) first ≡ true
not_below first = grind (arith, ints, nat_tests)

same_id : (first : ℤ) → first +ℤ pos 0 ≡ first
same_id first = omega (arith, ints)

-- at a place behind the first
found_behind : (first : ℤ) (place : ℕ) (client serial : ℕ) (stamp : List ℕ) (texts : List (List ℕ))
    → first_from (first +ℤ pos place) (numbered first client serial stamp texts) ≡ row_of (first +ℤ pos place) client serial stamp (slice_get texts place)
found_behind first place client serial stamp [] = refl
found_behind first zero client serial stamp (t ∷ ts) = rw (not_below first, same_id first) refl
found_behind first (suc p) client serial stamp (t ∷ ts) =
    rw (above first p)
    (subst (λ i. first_from i (numbered (first +ℤ pos 1) client serial stamp ts) ≡ row_of i client serial stamp (slice_get ts p)) (sym (nothing_between first p))
    (found_behind (first +ℤ pos 1) p client serial stamp ts))

found_first : (id first : ℤ) (client serial : ℕ) (stamp : List ℕ) (texts : List (List ℕ)) → le_z id first ≡ true
    → first_from id (numbered first client serial stamp texts) ≡ row_of (first +ℤ pos 0) client serial stamp (slice_get texts 0)
found_first id first client serial stamp [] low = refl
found_first id first client serial stamp (t ∷ ts) low = rw (low, same_id first) refl

found_at : (id first : ℤ) (place : ℕ) (client serial : ℕ) (stamp : List ℕ) (texts : List (List ℕ)) → IsPlaceFrom first id place
    → first_from id (numbered first client serial stamp texts) ≡ row_of (first +ℤ pos place) client serial stamp (slice_get texts place)
found_at id first place client serial stamp texts (inl low) = rw low.1 (found_first id first client serial stamp texts low.0)
found_at id first place client serial stamp texts (inr is) = rw is (found_behind first place client serial stamp texts)

least_at : (first : ℤ) (client serial : ℕ) (stamp : List ℕ) (texts : List (List ℕ)) → row_of (first +ℤ pos 0) client serial stamp (slice_get texts 0) ≡ first_of (numbered first client serial stamp texts)
least_at first client serial stamp [] = refl
least_at first client serial stamp (t ∷ ts) = rw (same_id first) refl

pub found : (id first : ℤ) (place : ℕ) (client serial : ℕ) (stamp : List ℕ) (texts : List (List ℕ)) → IsPlaceFrom first id place → (id ≡ neg_ℤ (pos (2 ^ 63)) → place ≡ 0)
    → IsFound id (numbered first client serial stamp texts) (row_of (first +ℤ pos place) client serial stamp (slice_get texts place))
found id first place client serial stamp texts is least = record {
  first = sym (found_at id first place client serial stamp texts is);
  least = λ low. rw (least low) (least_at first client serial stamp texts);
}

-- ---- rows of several lists

first_behind : (id : ℤ) (rows more : List Row) → first_from id rows ≡ None → first_from id (rows ++ more) ≡ first_from id more
first_behind id [] more none = refl
first_behind id (r ∷ rows) more none = elim (cases_Bool (le_z id r.id)) [
  | inl is_so ↦ absurd (let it = rw is_so at none in cc)
  | inr is_not ↦ rw is_not (first_behind id rows more (rw is_not at none))
]

first_here : (id : ℤ) (rows more : List Row) (one : Row) → first_from id rows ≡ Some one → first_from id (rows ++ more) ≡ Some one
first_here id [] more one some = absurd cc
first_here id (r ∷ rows) more one some = elim (cases_Bool (le_z id r.id)) [
  | inl is_so ↦ rw is_so (rw is_so at some)
  | inr is_not ↦ rw is_not (first_here id rows more one (rw is_not at some))
]

none_of : (rows more : List Row) → None ≡ first_of rows → first_of more ≡ first_of (rows ++ more)
none_of [] more none = refl
none_of (r ∷ rows) more none = absurd cc

one_of : (rows more : List Row) (one : Row) → Some one ≡ first_of rows → Some one ≡ first_of (rows ++ more)
one_of [] more one some = absurd cc
one_of (r ∷ rows) more one some = some

-- what is not found in the first list is found in the others
pub found_further : (id : ℤ) (rows more : List Row) (found : Option Row) → IsFound id rows None → IsFound id more found → IsFound id (rows ++ more) found
found_further id rows more found none further = record {
  first = further.first ∙ sym (first_behind id rows more (sym none.first));
  least = λ low. further.least low ∙ none_of rows more (none.least low);
}

pub found_here : (id : ℤ) (rows more : List Row) (one : Row) → IsFound id rows (Some one) → IsFound id (rows ++ more) (Some one)
found_here id rows more one here = record {
  first = sym (first_here id rows more one (sym here.first));
  least = λ low. one_of rows more one (here.least low);
}

pub joined_from : (lists : List (List Row)) (place : ℕ) (d : List Row) → place < length lists → joined (drop place lists) ≡ get_or lists place d ++ joined (drop (place + 1) lists)
joined_from lists place d within =
    let next : place + 1 ≡ suc place = omega arith in
    rw (next, drop-cons lists place d within) refl

pub joined_more : (lists : List (List Row)) (rows : List Row) → joined (lists ++ rows ∷ []) ≡ joined lists ++ rows
joined_more [] rows = append-nil rows
joined_more (first ∷ lists) rows = rw (joined_more lists rows) (sym (append_assoc first (joined lists) rows))
