-- The first rows of a journal, read up to a length.
use Rattle.std.proofs.Common.{◌≡◌, ℕ, ◌+◌, ◌≤◌, ◌<◌, pos, ◌+ℤ◌, List, [], ◌∷◌, ◌++◌, length, take, Option, Some, None, refl, sym, ap, ◌∙◌, subst, arith, append_assoc, length-append}
use Rattle.std.specs.Prelude.{IfSome, Result, Ok, Err}
use Rattle.std.proofs.Math.Seq.{take-append_seam}
use Rattle.std.proofs.lemmas.List.{append-nil}
use Rattle.std.proofs.lemmas.Option.{same_Some}
use Rattle.dns_name.specs.Name.{fold_of}
use Rattle.dns_io.specs.Told.{Keeps}
use Rattle.dns_wire.specs.declared.record.Record.{Record}
use Rattle.dns_keeper.specs.declared.row.Row.{Row}
use Rattle.dns_keeper.specs.Rows.{first_of, first_from, AreAscending}
use Rattle.dns_update.specs.Replay.{Refusal, Replays}
use Rattle.dns_zone.specs.declared.replaying.ReplayFault.{ReplayFault}
use Rattle.dns_zone.specs.declared.replaying.ReplayFault.TheVariants as fault
use Rattle.dns_zone.specs.Replaying.{TellsEnd}
use Rattle.dns_store.specs.declared.opening.OpenKind.{OpenKind}
use Rattle.dns_store.specs.declared.opening.OpenKind.TheVariants.{Recovery, KeeperFault, NoZone, OutOfMemory}
use Rattle.dns_store.specs.declared.front.Front.{Front}
use Rattle.dns_store.specs.declared.front.Front.TheVariants.{Zone, Short}
use Rattle.dns_store.specs.declared.front.FrontState.{FrontState}
use Rattle.dns_store.specs.Opening.{IsKeepers}
use Rattle.dns_store.specs.Recovering.{kind_of}
use Rattle.dns_store.specs.Front.{IsFront, IsZoneOf, EndsFront, IsFrontUnread, IsTakenFront, IsNext, EndsWith, IsFrontReadUpTo}
use Rattle.dns_store.proofs.ReadRows.{first_behind}

-- the row that comes next is the first one behind those that were read
next_is : (last found : Option Row) (rows front rest : List Row) → rows ≡ front ++ rest → EndsWith last front → IsNext last found rows → found ≡ first_of rest
next_is None found rows front rest parts ends next = next.is ∙ ap first_of (parts ∙ ap (λ (l : List Row). l ++ rest) ends)
next_is (Some row) found rows front rest parts ends next =
    let all : rows ≡ ends.0 ++ row ∷ rest = parts ∙ ap (λ (l : List Row). l ++ rest) ends.1 ∙ append_assoc ends.0 (row ∷ []) rest in
    next.is ∙ ap (first_from (row.id +ℤ pos 1)) all ∙ first_behind ends.0 row rest (subst AreAscending all next.ascending)

-- before the first row
pub front_begins : (origin : List (List ℕ)) (state : FrontState) (rows : Option (List Row)) → IsTakenFront origin state [] → IfSome rows (IsFrontReadUpTo origin state 0 None)
front_begins origin state None none = tt
front_begins origin state (Some rows) none = record { front = []; rest = rows; parts = refl; taken = none; number = refl; ends = refl }

-- behind one row more
goes_on_at : (origin : List (List ℕ)) (state after : FrontState) (count : ℕ) (last : Option Row) (row : Row) (rows front rest : List Row) → rows ≡ front ++ rest → IsTakenFront origin state front
    → length front ≡ count → Some row ≡ first_of rest → ((o : List (List ℕ)) (l : List Row) → IsTakenFront o state l → IsTakenFront o after (l ++ row ∷ [])) → IsFrontReadUpTo origin after (count + 1) (Some row) rows
goes_on_at origin state after count last row rows front [] parts taken number next takes = absurd (let none = next in cc)
goes_on_at origin state after count last row rows front (r ∷ rest) parts taken number next takes =
    let same : row ≡ r = same_Some _ _ next in
    let all : rows ≡ front ++ row ∷ rest = parts ∙ ap (λ (one : Row). front ++ one ∷ rest) (sym same) in
    let size : length (front ++ row ∷ []) ≡ length front + 1 = length-append front (row ∷ []) in
    record {
      front = front ++ row ∷ [];
      rest = rest;
      parts = all ∙ sym (append_assoc front (row ∷ []) rest);
      taken = takes origin front taken;
      number = size ∙ ap (λ (n : ℕ). n + 1) number;
      ends = (front, refl);
    }

pub front_goes_on : (origin : List (List ℕ)) (state after : FrontState) (count : ℕ) (last : Option Row) (row : Row) (before now : Option (List Row)) → Keeps before now
    → IfSome before (IsFrontReadUpTo origin state count last) → IfSome now (IsNext last (Some row))
    → ((o : List (List ℕ)) (l : List Row) → IsTakenFront o state l → IsTakenFront o after (l ++ row ∷ [])) → IfSome now (IsFrontReadUpTo origin after (count + 1) (Some row))
front_goes_on origin state after count last row before None keeps read next takes = tt
front_goes_on origin state after count last row None (Some rows) keeps read next takes = absurd keeps
front_goes_on origin state after count last row (Some old) (Some rows) keeps read next takes =
    goes_on_at origin state after count last row rows read.front read.rest (keeps ∙ read.parts) read.taken read.number
    (next_is last (Some row) rows read.front read.rest (keeps ∙ read.parts) read.ends next) takes

-- no row comes any more
all_of : (rows front rest : List Row) → rows ≡ front ++ rest → None ≡ first_of rest → rows ≡ front
all_of rows front [] parts next = parts ∙ append-nil front
all_of rows front (r ∷ rest) parts next = absurd (let none = next in cc)

pub front_short : (origin : List (List ℕ)) (state : FrontState) (count most : ℕ) (last : Option Row) (before now : Option (List Row)) → Keeps before now
    → IfSome before (IsFrontReadUpTo origin state count last) → IfSome now (IsNext last None) → count < most → IfSome now (IsFront origin most (Short count))
front_short origin state count most last before None keeps read next fewer = tt
front_short origin state count most last None (Some rows) keeps read next fewer = absurd keeps
front_short origin state count most last (Some old) (Some rows) keeps read next fewer =
    let parts = keeps ∙ read.parts in
    let all : rows ≡ read.front = all_of rows read.front read.rest parts (next_is last None rows read.front read.rest parts read.ends next) in
    (sym (ap length all ∙ read.number), fewer)

-- all rows up to the length were read
front_of : (rows front rest : List Row) (count : ℕ) → rows ≡ front ++ rest → length front ≡ count → take count rows ≡ front
front_of rows front rest count parts number = ap (take count) parts ∙ ap (λ (n : ℕ). take n (front ++ rest)) (sym number) ∙ take-append_seam front rest

there : (rows front rest : List Row) (count : ℕ) → rows ≡ front ++ rest → length front ≡ count → count ≤ length rows
there rows front rest count parts number =
    let all : length rows ≡ length front + length rest = ap length parts ∙ length-append front rest in
    omega (arith, all, number)

whole_at : (origin : List (List ℕ)) (count : ℕ) (front_is : Front) (rows front rest : List Row) → rows ≡ front ++ rest → length front ≡ count → IsZoneOf origin front_is front → IsFront origin count front_is rows
whole_at origin count (Zone zone) rows front rest parts number is =
    (there rows front rest count parts number, is.0, subst (λ (l : List Row). Replays (fold_of origin) l (Ok zone.records)) (sym (front_of rows front rest count parts number)) is.1)
whole_at origin count (Short some) rows front rest parts number is = absurd is

pub front_whole : (origin : List (List ℕ)) (state : FrontState) (count most : ℕ) (last : Option Row) (rows : Option (List Row)) (front_is : Front) → count ≡ most
    → IfSome rows (IsFrontReadUpTo origin state count last) → ((o : List (List ℕ)) (l : List Row) → IsTakenFront o state l → IsZoneOf o front_is l) → IfSome rows (IsFront origin most front_is)
front_whole origin state count most last None front_is same read is = tt
front_whole origin state count most last (Some rows) front_is same read is =
    whole_at origin most front_is rows read.front read.rest read.parts (read.number ∙ same) (is origin read.front read.taken)

-- or one of them was refused
front_ends : (origin : List (List ℕ)) (state : FrontState) (count most : ℕ) (last : Option Row) (rows : Option (List Row)) (end : Result (List Record) Refusal) → count ≡ most
    → IfSome rows (IsFrontReadUpTo origin state count last) → ((o : List (List ℕ)) (l : List Row) → IsTakenFront o state l → Replays (fold_of o) l end) → IfSome rows (EndsFront origin most end)
front_ends origin state count most last None end same read is = tt
front_ends origin state count most last (Some rows) end same read is =
    let number = read.number ∙ same in
    record {
      there = there rows read.front read.rest most read.parts number;
      replays = subst (λ (l : List Row). Replays (fold_of origin) l end) (sym (front_of rows read.front read.rest most read.parts number)) (is origin read.front read.taken);
    }

pub front_refused : (origin : List (List ℕ)) (state : FrontState) (count most : ℕ) (last : Option Row) (rows : Option (List Row)) (f : ReplayFault) (kind : OpenKind) → kind ≡ kind_of f → count ≡ most
    → IfSome rows (IsFrontReadUpTo origin state count last)
    → ((o : List (List ℕ)) (l : List Row) → IsTakenFront o state l → TellsEnd (Replays (fold_of o) l) f) → IsFrontUnread origin most rows kind
front_refused origin state count most last rows (fault.Refused row why) kind is same read told =
    subst (IsFrontUnread origin most rows) (sym is) (front_ends origin state count most last rows (Err (record { row = row; kind = why })) same read told)
front_refused origin state count most last rows fault.OutOfMemory kind is same read told = subst (IsFrontUnread origin most rows) (sym is) tt

-- rows that end whatever comes behind them end so
pub ends_there : (origin : List (List ℕ)) (rows : List Row) (f : ReplayFault) → TellsEnd (λ end. (more : List Row) → Replays origin (rows ++ more) end) f → TellsEnd (Replays origin rows) f
ends_there origin rows (fault.Refused row why) told = subst (λ (l : List Row). Replays origin l (Err (record { row = row; kind = why }))) (append-nil rows) (told [])
ends_there origin rows fault.OutOfMemory told = tt

-- and go on so behind one row more
pub ends_still : (origin : List (List ℕ)) (rows : List Row) (row : Row) (f : ReplayFault) → TellsEnd (λ end. (more : List Row) → Replays origin (rows ++ more) end) f
    → TellsEnd (λ end. (more : List Row) → Replays origin ((rows ++ row ∷ []) ++ more) end) f
ends_still origin rows row (fault.Refused id why) told =
    λ more. subst (λ (l : List Row). Replays origin l (Err (record { row = id; kind = why }))) (sym (append_assoc rows (row ∷ []) more)) (told (row ∷ more))
ends_still origin rows row fault.OutOfMemory told = tt

-- or a call of the keeper
pub front_unread : (origin : List (List ℕ)) (most : ℕ) (rows : Option (List Row)) (kind : OpenKind) → IsKeepers kind → IsFrontUnread origin most rows kind
front_unread origin most rows (Recovery row why) told = absurd told
front_unread origin most rows KeeperFault told = tt
front_unread origin most rows NoZone told = absurd told
front_unread origin most rows OutOfMemory told = tt
