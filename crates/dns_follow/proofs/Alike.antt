-- Rows that differ in stamps, in clients and in how their records are written end alike.
use Rattle.std.proofs.Common.{◌≡◌, ℕ, ℤ, pos, ◌+◌, List, [], ◌∷◌, ◌++◌, length, map, Option, Some, None, Result, Ok, Err, refl, sym, ap, ◌∙◌, subst}
use Rattle.dns_wire.specs.declared.record.Record.{Record}
use Rattle.dns_wire.specs.WireFormat.{record_bytes}
use Rattle.dns_wire.specs.ReadBack.{ReadsBack}
use Rattle.dns_wire.proofs.Back.{record_alone}
use Rattle.dns_wire.proofs.ItemsDetermined.{RecordAt-one}
use Rattle.dns_keeper.specs.declared.row.Row.{Row}
use Rattle.dns_keeper.specs.Rows.{id_of, last_id, rows_of}
use Rattle.dns_update.specs.declared.replay_kind.ReplayKind.{ReplayKind}
use Rattle.dns_update.specs.Replay.{Refusal, IsOneRecord, IsReading, row_made, Onward, refused, RunsTo, with_soa, Replays}
use Rattle.dns_follow.specs.Feed.{bare}
use Rattle.dns_follow.specs.Seen.{AreHeld}
use Rattle.dns_follow.proofs.Holding.{next_id, last_of-next}

-- two rows of one id and one serial, whose bytes are one record or none
pub record IsAlike (a b : Row) : Type 0 where
  pub id : a.id ≡ b.id
  pub serial : a.serial ≡ b.serial
  pub reading : (read : Option Record) → IsReading a.bytes read → IsReading b.bytes read

abbrev pub AreAlike : List Row → List Row → Type 0
AreAlike [] [] = Unit {0}
AreAlike [] (b ∷ bs) = ⊥
AreAlike (a ∷ rest) [] = ⊥
AreAlike (a ∷ rest) (b ∷ bs) = IsAlike a b × AreAlike rest bs

is_refl : (a : Row) → IsAlike a a
is_refl a = record { id = refl; serial = refl; reading = λ read is. is }

pub alike_refl : (a : List Row) → AreAlike a a
alike_refl [] = tt
alike_refl (x ∷ a) = (is_refl x, alike_refl a)

pub alike_append : (a b c d : List Row) → AreAlike a b → AreAlike c d → AreAlike (a ++ c) (b ++ d)
alike_append [] [] c d h g = g
alike_append [] (y ∷ b) c d h g = absurd h
alike_append (x ∷ a) [] c d h g = absurd h
alike_append (x ∷ a) (y ∷ b) c d h g = (h.0, alike_append a b c d h.1 g)

-- a row with the id and the serial of another does what that does
as_made : (origin : List (List ℕ)) (place : ℕ) (records : List Record) (a b : Row) (read : Option Record) → a.id ≡ b.id → a.serial ≡ b.serial
    → row_made origin place records a read ≡ row_made origin place records b read
as_made origin place records a b None i s = refl
as_made origin place records a b (Some r) i s =
    ap (λ (id : ℤ). let x : Row = record a { id = id } in row_made origin place records x (Some r)) i
    ∙ ap (λ (serial : ℤ). let x : Row = record a { id = b.id; serial = serial } in row_made origin place records x (Some r)) s

onward : (made : Result (List Record) ReplayKind) (M N : List Record → Type 0) (F G : ReplayKind → Type 0) → ((l : List Record) → M l → N l) → ((k : ReplayKind) → F k → G k)
    → Onward made M F → Onward made N G
onward (Ok l) M N F G f g h = f l h
onward (Err k) M N F G f g h = g k h

runs_alike : (origin : List (List ℕ)) (place : ℕ) (records : List Record) (a b : List Row) (end : Result (List Record) Refusal) → AreAlike a b
    → RunsTo origin place records a end → RunsTo origin place records b end
runs_alike origin place records [] [] end h runs = runs
runs_alike origin place records [] (y ∷ b) end h runs = absurd h
runs_alike origin place records (x ∷ a) [] end h runs = absurd h
runs_alike origin place records (x ∷ a) (y ∷ b) end h runs =
    let M : List Record → Type 0 = λ next. RunsTo origin (place + 1) next a end in
    let N : List Record → Type 0 = λ next. RunsTo origin (place + 1) next b end in
    let F : ReplayKind → Type 0 = λ kind. end ≡ refused x kind in
    let G : ReplayKind → Type 0 = λ kind. end ≡ refused y kind in (
      runs.0,
      h.0.reading runs.0 runs.1,
      subst (λ (m : Result (List Record) ReplayKind). Onward m N G) (as_made origin place records x y runs.0 h.0.id h.0.serial)
          (onward (row_made origin place records x runs.0) M N F G (λ l go. runs_alike origin (place + 1) l a b end h.1 go)
          (λ k e. e ∙ ap (λ (id : ℤ). Err (record { row = id; kind = k })) h.0.id) runs.2),
    )

-- their last ids are the same
last_alike : (a b : List Row) → AreAlike a b → last_id a ≡ last_id b
last_alike [] [] h = refl
last_alike [] (y ∷ b) h = absurd h
last_alike (x ∷ a) [] h = absurd h
last_alike (x ∷ []) (y ∷ []) h = h.0.id
last_alike (x ∷ []) (y ∷ z ∷ b) h = absurd h.1
last_alike (x ∷ w ∷ a) (y ∷ []) h = absurd h.1
last_alike (x ∷ w ∷ a) (y ∷ z ∷ b) h = ap id_of (last_of-next x w a) ∙ last_alike (w ∷ a) (z ∷ b) h.1 ∙ sym (ap id_of (last_of-next y z b))

pub replays_alike : (origin : List (List ℕ)) (a b : List Row) (end : Result (List Record) Refusal) → AreAlike a b → Replays origin a end → Replays origin b end
replays_alike origin a b end h p =
    record { run = p.run; runs = runs_alike origin 1 [] a b p.run h p.runs; is = p.is ∙ ap (λ (id : ℤ). with_soa id p.run) (last_alike a b h) }

-- bytes that are one record are it as they stand, and written anew
reading_written : (bytes : List ℕ) (r : Record) (read : Option Record) → IsOneRecord bytes r → ReadsBack r → IsReading bytes read → IsReading (record_bytes r) read
reading_written bytes r None one back is = absurd (is r one)
reading_written bytes r (Some q) one back is =
    let same : r ≡ q = (RecordAt-one bytes 0 (length bytes) (length bytes) r q one is).0 in
    subst (λ (x : Record). IsOneRecord (record_bytes r) x) same (record_alone r back)

-- what an append makes of the records is like the held rows
pub held_alike : (id client serial : ℕ) (stamp : List ℕ) (held : List Row) (records : List Record) → AreHeld id client serial held records
    → AreAlike held (rows_of (pos id) client serial stamp records)
held_alike id client serial stamp [] [] h = tt
held_alike id client serial stamp [] (r ∷ records) h = absurd h
held_alike id client serial stamp (row ∷ held) [] h = absurd h
held_alike id client serial stamp (row ∷ held) (r ∷ records) h = (
  record {
    id = ap (λ (x : Row). x.id) h.0;
    serial = ap (λ (x : Row). x.serial) h.0;
    reading = λ read is. reading_written row.bytes r read h.1 h.2.back is;
  },
  subst (λ (z : ℤ). AreAlike held (rows_of z client serial stamp records)) (sym (next_id id)) (held_alike (id + 1) client serial stamp held records h.3),
)

-- rows that are the same without stamps are alike
pub bare_alike : (a b : List Row) → map bare a ≡ map bare b → AreAlike a b
bare_alike [] [] e = tt
bare_alike [] (y ∷ b) e = absurd cc
bare_alike (x ∷ a) [] e = absurd cc
bare_alike (x ∷ a) (y ∷ b) e =
    let head : bare x ≡ bare y = cc in
    let tail : map bare a ≡ map bare b = cc in
    let bytes : x.bytes ≡ y.bytes = ap (λ (r : Row). r.bytes) head in (
      record {
        id = ap (λ (r : Row). r.id) head;
        serial = ap (λ (r : Row). r.serial) head;
        reading = λ read is. subst (λ (l : List ℕ). IsReading l read) bytes is;
      },
      bare_alike a b tail,
    )
