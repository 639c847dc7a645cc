-- The held rows and their records, and what an append makes of them.
use Rattle.std.proofs.Common.{◌≡◌, ℕ, ℤ, pos, suc, ◌+◌, ◌-◌, ◌+ℤ◌, ◌<◌, List, [], ◌∷◌, ◌++◌, length, Bool, true, false, refl, sym, ap, ◌∙◌, subst, arith}
use Rattle.std.specs.Prelude.{◌&&◌}
use Rattle.std.specs.Ordering.{int_eq}
use Rattle.std.proofs.lemmas.Int.{ints}
use Rattle.std.proofs.lemmas.Bool.Decides.{Decides-int_eq}
use Rattle.dns_wire.specs.declared.record.Record.{Record}
use Rattle.dns_wire.specs.WireFormat.{record_bytes, AreShort}
use Rattle.dns_keeper.specs.declared.row.Row.{Row}
use Rattle.dns_keeper.specs.Rows.{id_of, last_id, rows_of}
use Rattle.dns_update.specs.Replay.{IsOneRecord}
use Rattle.dns_follow.specs.declared.frame.Frame.{Frame}
use Rattle.dns_follow.specs.Feed.{row_of}
use Rattle.dns_follow.specs.Following.{last_of, joins, AreOf}
use Rattle.dns_follow.specs.Seen.{AreRowsOf, AreHeld}

pub next_id : (id : ℕ) → pos id +ℤ pos 1 ≡ pos (id + 1)
next_id id = omega (arith, ints)

pub held_of : (P : Record → Type 0) (id client serial : ℕ) (held : List Row) (records : List Record) → AreRowsOf P id client serial held records → AreOf held records
held_of P id client serial [] [] h = tt
held_of P id client serial [] (r ∷ records) h = h
held_of P id client serial (row ∷ held) [] h = h
held_of P id client serial (row ∷ held) (r ∷ records) h = (h.1, held_of P (id + 1) client serial held records h.3)

pub held_short : (id client serial : ℕ) (held : List Row) (records : List Record) → AreHeld id client serial held records → AreShort records
held_short id client serial [] [] h = tt
held_short id client serial [] (r ∷ records) h = absurd h
held_short id client serial (row ∷ held) [] h = absurd h
held_short id client serial (row ∷ held) (r ∷ records) h = (h.2.short, held_short (id + 1) client serial held records h.3)

pub held_more : (P : Record → Type 0) (id client serial : ℕ) (held : List Row) (records : List Record) (f : Frame) (r : Record) → AreRowsOf P id client serial held records → f.client ≡ client → f.serial ≡ serial
    → f.id ≡ id + length held → IsOneRecord f.bytes r → P r → AreRowsOf P id client serial (held ++ row_of f ∷ []) (records ++ r ∷ [])
held_more P id client serial [] [] f r h c s i read good =
    let e : f.id ≡ id = omega arith in
    (rw (e, c, s) refl, read, good, tt)
held_more P id client serial [] (x ∷ records) f r h c s i read good = absurd h
held_more P id client serial (row ∷ held) [] f r h c s i read good = absurd h
held_more P id client serial (row ∷ held) (x ∷ records) f r h c s i read good =
    let e : f.id ≡ id + 1 + length held = omega arith in
    (h.0, h.1, h.2, held_more P (id + 1) client serial held records f r h.3 c s e read good)

-- the held rows are of the client and the serial of a row that goes on with them
both : (p q : Bool) → (p && q) ≡ true → (p ≡ true) × (q ≡ true)
both true q e = (refl, e)
both false q e = absurd cc

pub last_of-next : (first second : Row) (rest : List Row) → last_of (first ∷ second ∷ rest) ≡ last_of (second ∷ rest)
last_of-next first second rest =
    let long : suc (suc (length rest)) - 1 ≡ suc (length rest) = omega arith in
    let short : suc (length rest) - 1 ≡ length rest = omega arith in
    rw (long, short) refl

pub of_pos : (a b : ℕ) → pos a ≡ pos b → a ≡ b
of_pos a b e = cc

pub held_on : (P : Record → Type 0) (id client serial : ℕ) (row : Row) (held : List Row) (records : List Record) (f : Frame) → AreRowsOf P id client serial (row ∷ held) records
    → joins (last_of (row ∷ held)) (row_of f) ≡ true → (f.client ≡ client) × (f.serial ≡ serial)
held_on P id client serial row held [] f h on = absurd h
held_on P id client serial row [] (r ∷ records) f h on =
    let tests = both (int_eq row.client (pos f.client)) (int_eq row.serial (pos f.serial)) on in
    let one : row.client ≡ pos f.client = (Decides-int_eq row.client (pos f.client)).0 tests.0 in
    let two : row.serial ≡ pos f.serial = (Decides-int_eq row.serial (pos f.serial)).0 tests.1 in
    let c : row.client ≡ pos client = ap (λ (x : Row). x.client) h.0 in
    let s : row.serial ≡ pos serial = ap (λ (x : Row). x.serial) h.0 in
    (of_pos f.client client (sym one ∙ c), of_pos f.serial serial (sym two ∙ s))
held_on P id client serial row (second ∷ held) (r ∷ records) f h on =
    held_on P (id + 1) client serial second held records f h.3 (subst (λ o. joins o (row_of f) ≡ true) (last_of-next row second held) on)

-- so a row that goes on with them may come behind them
pub held_with : (P : Record → Type 0) (id client serial : ℕ) (held : List Row) (records : List Record) (f : Frame) (r : Record) → AreRowsOf P id client serial held records
    → joins (last_of held) (row_of f) ≡ true → f.id ≡ id + length held → IsOneRecord f.bytes r → P r
    → AreRowsOf P id f.client f.serial (held ++ row_of f ∷ []) (records ++ r ∷ [])
held_with P id client serial [] [] f r h on i read good = held_more P id f.client f.serial [] [] f r tt refl refl i read good
held_with P id client serial [] (x ∷ records) f r h on i read good = absurd h
held_with P id client serial (row ∷ held) records f r h on i read good =
    let same = held_on P id client serial row held records f h on in
    let moved : AreRowsOf P id f.client f.serial (row ∷ held) records =
    subst (λ (c : ℕ). AreRowsOf P id c f.serial (row ∷ held) records) (sym same.0) (subst (λ (s : ℕ). AreRowsOf P id client s (row ∷ held) records) (sym same.1) h) in
    held_more P id f.client f.serial (row ∷ held) records f r moved refl refl i read good

-- how many rows an append adds, and their last id
pub held_length : (P : Record → Type 0) (id client serial : ℕ) (held : List Row) (records : List Record) → AreRowsOf P id client serial held records → length held ≡ length records
held_length P id client serial [] [] h = refl
held_length P id client serial [] (r ∷ records) h = absurd h
held_length P id client serial (row ∷ held) [] h = absurd h
held_length P id client serial (row ∷ held) (r ∷ records) h = ap suc (held_length P (id + 1) client serial held records h.3)

pub length-rows_of : (id : ℤ) (client serial : ℕ) (stamp : List ℕ) (records : List Record) → length (rows_of id client serial stamp records) ≡ length records
length-rows_of id client serial stamp [] = refl
length-rows_of id client serial stamp (r ∷ records) = ap suc (length-rows_of (id +ℤ pos 1) client serial stamp records)

last_of-append : (front : List Row) (x : Row) (back : List Row) → last_of (front ++ x ∷ back) ≡ last_of (x ∷ back)
last_of-append [] x back = refl
last_of-append (y ∷ []) x back = last_of-next y x back
last_of-append (y ∷ z ∷ front) x back = last_of-next y z (front ++ x ∷ back) ∙ last_of-append (z ∷ front) x back

last-rows_of : (id client serial : ℕ) (stamp : List ℕ) (r : Record) (records : List Record) → last_id (rows_of (pos id) client serial stamp (r ∷ records)) ≡ pos (id + length records)
last-rows_of id client serial stamp r [] = ap pos (omega arith)
last-rows_of id client serial stamp r (q ∷ records) =
    let first : Row = record { id = pos id; client = pos client; serial = pos serial; stamp = stamp; bytes = record_bytes r } in
    let second : Row = record { id = pos id +ℤ pos 1; client = pos client; serial = pos serial; stamp = stamp; bytes = record_bytes q } in
    let step : last_id (rows_of (pos id) client serial stamp (r ∷ q ∷ records)) ≡ last_id (rows_of (pos id +ℤ pos 1) client serial stamp (q ∷ records)) =
    ap id_of (last_of-next first second (rows_of (pos id +ℤ pos 1 +ℤ pos 1) client serial stamp records)) in
    let on : last_id (rows_of (pos id +ℤ pos 1) client serial stamp (q ∷ records)) ≡ last_id (rows_of (pos (id + 1)) client serial stamp (q ∷ records)) =
    ap (λ (z : ℤ). last_id (rows_of z client serial stamp (q ∷ records))) (next_id id) in
    let far : id + 1 + length records ≡ id + suc (length records) = omega arith in
    step ∙ on ∙ last-rows_of (id + 1) client serial stamp q records ∙ ap pos far

-- the last id behind rows of which some were written
pub last_behind : (old : List Row) (id client serial : ℕ) (stamp : List ℕ) (records : List Record) → 0 < length records
    → last_id (old ++ rows_of (pos id) client serial stamp records) ≡ pos (id + length records - 1)
last_behind old id client serial stamp [] some = absurd (omega arith)
last_behind old id client serial stamp (r ∷ records) some =
    let first : Row = record { id = pos id; client = pos client; serial = pos serial; stamp = stamp; bytes = record_bytes r } in
    let far : id + length records ≡ id + suc (length records) - 1 = omega arith in
    ap id_of (last_of-append old first (rows_of (pos id +ℤ pos 1) client serial stamp records)) ∙ last-rows_of id client serial stamp r records ∙ ap pos far
