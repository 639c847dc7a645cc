-- Rows without their stamps.
use Rattle.std.proofs.Common.{◌≡◌, ℕ, ℤ, pos, zero, suc, ◌+ℤ◌, ◌+◌, ◌≤◌, List, [], ◌∷◌, map, take, drop, length, refl, sym, ap, ◌∙◌, subst}
use Rattle.std.specs.List.{All}
use Rattle.std.proofs.lemmas.List.{take-map, length-map}
use Rattle.std.proofs.lemmas.List.Elements.{All-map, All-head, All-tail}
use Rattle.dns_keeper.specs.declared.row.Row.{Row}
use Rattle.dns_wire.specs.declared.record.Record.{Record}
use Rattle.dns_keeper.specs.declared.batch_row.BatchRow.{BatchRow}
use Rattle.dns_wire.specs.WireFormat.{record_bytes}
use Rattle.dns_wire.proofs.ItemsDetermined.{RecordAt-one}
use Rattle.dns_keeper.specs.Rows.{rows_of}
use Rattle.dns_update.specs.Replay.{IsOneRecord}
use Rattle.dns_follow.specs.Feed.{bare}
use Rattle.dns_follow.specs.Behind.{IsUncompressed}
use Rattle.dns_follow.proofs.Parts.{NumberedFrom, AreOneBatch, Parts}
use Rattle.dns_follow.specs.Following.{AreOf}
use Rattle.dns_follow.specs.Seen.{AreRowsOf}
use Rattle.dns_follow.proofs.Holding.{next_id}

pub numbered_bare : (n : ℕ) (rows : List Row) → NumberedFrom n rows → NumberedFrom n (map bare rows)
numbered_bare n [] h = tt
numbered_bare n (row ∷ rows) h = (h.0, numbered_bare (n + 1) rows h.1)

drop_bare : (n : ℕ) (rows : List Row) → drop n (map bare rows) ≡ map bare (drop n rows)
drop_bare zero rows = refl
drop_bare (suc n) [] = refl
drop_bare (suc n) (row ∷ rows) = drop_bare n rows

one_bare : (rows : List Row) → AreOneBatch rows → AreOneBatch (map bare rows)
one_bare rows h = (h.0, h.1, All-map (λ (row : Row). (row.client ≡ h.0) × (row.serial ≡ h.1)) bare rows h.2)

pub parts_bare : (id : ℕ) (rows : List Row) (batches : List BatchRow) → Parts id rows batches → Parts id (map bare rows) batches
parts_bare id rows [] h = ap (λ l. map bare l) h
parts_bare id rows (b ∷ batches) h = (
  h.0,
  h.1,
  h.2,
  h.3,
  subst (λ (n : ℕ). h.0 ≤ n) (sym (length-map rows bare)) h.4,
  subst (λ (l : List Row). AreOneBatch l) (sym (take-map bare h.0 rows)) (one_bare (take h.0 rows) h.5),
  subst (λ (l : List Row). Parts (id + h.0) l batches) (sym (drop_bare h.0 rows)) (parts_bare (id + h.0) (drop h.0 rows) batches h.6),
)

-- held rows have no stamps
pub held_bare : (P : Record → Type 0) (id client serial : ℕ) (held : List Row) (records : List Record) → AreRowsOf P id client serial held records → map bare held ≡ held
held_bare P id client serial [] [] h = refl
held_bare P id client serial [] (r ∷ records) h = absurd h
held_bare P id client serial (row ∷ held) [] h = absurd h
held_bare P id client serial (row ∷ held) (r ∷ records) h =
    let head : bare row ≡ row = ap bare h.0 ∙ sym h.0 in
    let tail : map bare held ≡ held = held_bare P (id + 1) client serial held records h.3 in
    cc

one_record : (bytes : List ℕ) (r q : Record) → IsOneRecord bytes r → IsOneRecord bytes q → r ≡ q
one_record bytes r q one two = (RecordAt-one bytes 0 (length bytes) (length bytes) r q one two).0

same_bytes : (bytes : List ℕ) (r q : Record) → IsOneRecord bytes q → bytes ≡ record_bytes q → IsOneRecord bytes r → record_bytes r ≡ bytes
same_bytes bytes r q two e one = ap record_bytes (one_record bytes r q one two) ∙ sym e

-- what an append makes of their records, without stamps, is the held rows, where these are uncompressed
pub written_bare : (P : Record → Type 0) (id client serial : ℕ) (stamp : List ℕ) (held : List Row) (records : List Record) → AreRowsOf P id client serial held records → All (λ row. IsUncompressed row.bytes) held
    → map bare (rows_of (pos id) client serial stamp records) ≡ held
written_bare P id client serial stamp [] [] h plain = refl
written_bare P id client serial stamp [] (r ∷ records) h plain = absurd h
written_bare P id client serial stamp (row ∷ held) [] h plain = absurd h
written_bare P id client serial stamp (row ∷ held) (r ∷ records) h plain =
    let one = All-head (λ (x : Row). IsUncompressed x.bytes) row held plain in
    let bytes : record_bytes r ≡ row.bytes = same_bytes row.bytes r one.0 one.1 one.2 h.1 in
    let head : record { id = pos id; client = pos client; serial = pos serial; stamp = []; bytes = record_bytes r } ≡ row =
    ap (λ (b : List ℕ). let x : Row = record { id = pos id; client = pos client; serial = pos serial; stamp = []; bytes = b } in x) bytes ∙ sym h.0 in
    let tail : map bare (rows_of (pos (id + 1)) client serial stamp records) ≡ held =
    written_bare P (id + 1) client serial stamp held records h.3 (All-tail (λ (x : Row). IsUncompressed x.bytes) row held plain) in
    let moved : map bare (rows_of (pos id +ℤ pos 1) client serial stamp records) ≡ held = subst (λ (z : ℤ). map bare (rows_of z client serial stamp records) ≡ held) (sym (next_id id)) tail in
    ap (λ (x : Row). x ∷ map bare (rows_of (pos id +ℤ pos 1) client serial stamp records)) head ∙ ap (λ l. row ∷ l) moved

-- rows are of one list of records
pub one_reading : (held : List Row) (a b : List Record) → AreOf held a → AreOf held b → a ≡ b
one_reading [] [] [] h g = refl
one_reading [] [] (y ∷ b) h g = absurd g
one_reading [] (x ∷ a) b h g = absurd h
one_reading (row ∷ held) [] b h g = absurd h
one_reading (row ∷ held) (x ∷ a) [] h g = absurd g
one_reading (row ∷ held) (x ∷ a) (y ∷ b) h g =
    let head : x ≡ y = one_record row.bytes x y h.0 g.0 in
    let tail : a ≡ b = one_reading held a b h.1 g.1 in
    cc
