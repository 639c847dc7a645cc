-- What came, as an event.
use Rattle.std.proofs.Common.{◌≡◌, ◌≤◌, ◌<◌, ◌^◌, ◌+◌, ◌++◌, ◌∙◌, ℕ, List, [], ◌∷◌, length, take, get_or, Option, Some, false, refl, sym, ap, append_assoc, arith}
use Rattle.std.proofs.lemmas.List.{take_more}
use Rattle.std.specs.List.{flat_map}
use Rattle.dns_readiness.specs.declared.came.Came.{Came}
use Rattle.dns_readiness.specs.declared.came.Came.TheVariants.{Accepted, Bytes, Ended, Tick}
use Rattle.dns_readiness.specs.Came.{greatest_behind, moment_of}
use Rattle.dns_server_core.specs.Events.{is_stop, last_number, moment, number_in}
use Rattle.dns_server_core.specs.declared.event.Event.{Event}
use Rattle.dns_server_core.specs.Valid.{Fits, Rises}
use Rattle.dns_crowd.specs.declared.coming.Coming.{Coming}
use Rattle.dns_crowd.specs.declared.coming.Coming.TheVariants as coming
use Rattle.dns_crowd.specs.Crowds.{AllMayCome, MayCome, event_by, event_of, size_of}

pub moment_is : (room : List ℕ) (came : Came) → moment_of came ≡ moment (event_of room came)
moment_is room (Accepted at conn peer limit) = refl
moment_is room (Bytes at conn count) = refl
moment_is room (Ended at conn) = refl
moment_is room (Tick at) = refl

pub greatest_is : (room : List ℕ) (greatest : Option ℕ) (came : Came) → greatest_behind greatest came ≡ last_number greatest (number_in (event_of room came))
greatest_is room greatest (Accepted at conn peer limit) = refl
greatest_is room greatest (Bytes at conn count) = refl
greatest_is room greatest (Ended at conn) = refl
greatest_is room greatest (Tick at) = refl

pub never_stop : (room : List ℕ) (came : Came) → is_stop (event_of room came) ≡ false
never_stop room (Accepted at conn peer limit) = refl
never_stop room (Bytes at conn count) = refl
never_stop room (Ended at conn) = refl
never_stop room (Tick at) = refl

pub moment_fits : (room : List ℕ) (came : Came) → Fits (event_of room came) → moment (event_of room came) < 2 ^ 47
moment_fits room (Accepted at conn peer limit) f = f.0
moment_fits room (Bytes at conn count) f = f.0
moment_fits room (Ended at conn) f = f
moment_fits room (Tick at) f = f

pub size_fits : (one : Coming) → Fits (event_by one) → size_of one ≤ 65535
size_fits (coming.Accepted at conn peer limit) f = omega arith
size_fits (coming.Bytes at conn piece) f = f.1
size_fits (coming.Ended at conn) f = omega arith
size_fits (coming.Tick at) f = omega arith

rises_split : (greatest : Option ℕ) (xs ys : List ℕ) → Rises greatest (xs ++ ys) → Rises greatest xs × Rises (last_number greatest xs) ys
rises_split greatest [] ys r = (tt, r)
rises_split greatest (x ∷ xs) ys r = let s = rises_split (Some x) xs ys r.1 in ((r.0, s.0), s.1)

-- the first of all that may come may come, and behind it the others
pub first_comes : (last : ℕ) (greatest : Option ℕ) (e : Event) (es : List Event) → AllMayCome last greatest (e ∷ es) → MayCome last greatest e
first_comes last greatest e es h = record { fit = h.fit.0; later = h.moments.0; rises = (rises_split greatest (number_in e) (flat_map number_in es) h.numbers).0 }

pub others_come : (last : ℕ) (greatest : Option ℕ) (e : Event) (es : List Event) → AllMayCome last greatest (e ∷ es)
    → AllMayCome (moment e) (last_number greatest (number_in e)) es
others_come last greatest e es h =
    record { fit = h.fit.1; moments = h.moments.1; numbers = (rises_split greatest (number_in e) (flat_map number_in es) h.numbers).1 }

-- and the other way round
rises_join : (greatest : Option ℕ) (xs ys : List ℕ) → Rises greatest xs → Rises (last_number greatest xs) ys → Rises greatest (xs ++ ys)
rises_join greatest [] ys r s = s
rises_join greatest (x ∷ xs) ys r s = (r.0, rises_join (Some x) xs ys r.1 s)

pub all_come : (last : ℕ) (greatest : Option ℕ) (e : Event) (es : List Event) → MayCome last greatest e → AllMayCome (moment e) (last_number greatest (number_in e)) es → AllMayCome last greatest (e ∷ es)
all_come last greatest e es m h = record { fit = (m.fit, h.fit); moments = (m.later, h.moments); numbers = rises_join greatest (number_in e) (flat_map number_in es) m.rises h.numbers }

-- one more of what is to come
pub taken_more : (all : List Coming) (i : ℕ) (one : Coming) (rest : List Coming) → i < length all → one ≡ get_or all i one → take i all ++ one ∷ rest ≡ take (i + 1) all ++ rest
taken_more all i one rest l e =
    sym (ap (λ (front : List Coming). front ++ rest) (take_more all i one l) ∙ append_assoc (take i all) (get_or all i one ∷ []) rest ∙ ap (λ (x : Coming). take i all ++ x ∷ rest) (sym e))
