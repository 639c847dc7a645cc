-- Every allowed step keeps the facts, so every list of steps does.
use Rattle.std.proofs.Common.{◌≡◌, ◌≢◌, ℕ, ◌+◌, ◌-◌, ◌^◌, ◌<◌, ◌≤◌, ◌==◌, ◌&&◌, not, Bool, true, false, List, [], ◌∷◌, length, refl, sym, ap, ◌∙◌, arith}
use Rattle.std.specs.Prelude.{nat_lt, nat_le}
use Rattle.std.specs.List.{list_all}
use Rattle.std.proofs.lemmas.Bool.Decides.{nat_tests}
use Rattle.dns_ticket_world.specs.declared.seat.Seat.{Seat}
use Rattle.dns_ticket_world.specs.declared.step.Step.{Step}
use Rattle.dns_ticket_world.specs.declared.step.Step.TheVariants.{Draw, Look, Take, Give, Pass, Split, Count, Join}
use Rattle.dns_ticket_world.specs.Seats.{is_idle, may_take, is_holding, has_counted, has_given, seat_of}
use Rattle.dns_ticket_world.specs.Rows.{are_numbered, bears}
use Rattle.dns_ticket_world.specs.World.{World, is_allowed, stepped, after, after_all}
use Rattle.dns_ticket_world.specs.Facts.{Holds}
use Rattle.dns_ticket_world.proofs.RowPlaces.{both}
use Rattle.dns_ticket_world.proofs.Turns.{draws, looks, takes, gives, passes}
use Rattle.dns_ticket_world.proofs.Counting.{counts}
use Rattle.dns_ticket_world.proofs.Making.{divides, joins}
use Rattle.dns_ticket_world.proofs.MadeSeats.{stands}

below_by : (a b : ℕ) → nat_lt a b ≡ true → a < b
below_by a b e = grind (arith, nat_tests)

most_by : (a b : ℕ) → nat_le a b ≡ true → a ≤ b
most_by a b e = grind (arith, nat_tests)

apart_by : (a b : ℕ) → not (a == b) ≡ true → a ≢ b
apart_by a b e same = by_test (a == b) refl e
  where
    by_test : (t : Bool) → (a == b) ≡ t → not t ≡ true → ⊥
    by_test true is f = absurd (grind arith)
    by_test false is f = absurd (grind (arith, nat_tests))

pub keeps : (w : World) (s : Step) → Holds w → is_allowed w s ≡ true → Holds (stepped w s)
keeps w (Draw n) h e = let at = stands is_idle w.seats n refl e in draws w (n - 1) h at.within at.phase
keeps w (Look n) h e = let at = stands may_take w.seats n refl e in looks w (n - 1) h at.within at.phase
keeps w (Take n) h e =
    let one = both (may_take (seat_of w.seats n).phase) ((seat_of w.seats n).ticket == w.serving && w.is_home) e in
    let two = both ((seat_of w.seats n).ticket == w.serving) w.is_home one.1 in
    let at = stands may_take w.seats n refl one.0 in
    takes w (n - 1) h at.within at.phase (ap (λ (s : Seat). s.ticket == w.serving) (sym at.at) ∙ two.0) two.1
keeps w (Give n) h e = let at = stands has_counted w.seats n refl e in gives w (n - 1) h at.within at.phase
keeps w (Pass n) h e = let at = stands has_given w.seats n refl e in passes w (n - 1) h at.within at.phase
keeps w (Split n) h e =
    let one = both (n == 1) (is_idle (seat_of w.seats n).phase && nat_lt (length w.seats) (2 ^ 32 - 1)) e in
    let two = both (is_idle (seat_of w.seats n).phase) (nat_lt (length w.seats) (2 ^ 32 - 1)) one.1 in
    let at = stands is_idle w.seats n refl two.0 in
    divides w (n - 1) h at.within (below_by (length w.seats) (2 ^ 32 - 1) two.1)
keeps w (Count n batch faults) h e =
    let one = both (is_holding (seat_of w.seats n).phase) (list_all (bears n) batch && (are_numbered (length w.rows) batch && nat_le w.faults faults)) e in
    let two = both (list_all (bears n) batch) (are_numbered (length w.rows) batch && nat_le w.faults faults) one.1 in
    let three = both (are_numbered (length w.rows) batch) (nat_le w.faults faults) two.1 in
    let at = stands is_holding w.seats n refl one.0 in
    let back : n ≡ n - 1 + 1 = let some = at.some in omega arith in
    counts w (n - 1) batch faults h at.within at.phase (ap (λ (m : ℕ). list_all (bears m) batch) (sym back) ∙ two.0) three.0 (most_by w.faults faults three.1)
keeps w (Join n other) h e =
    let one = both (n == 1) (not (n == other) && (is_idle (seat_of w.seats n).phase && is_idle (seat_of w.seats other).phase)) e in
    let two = both (not (n == other)) (is_idle (seat_of w.seats n).phase && is_idle (seat_of w.seats other).phase) one.1 in
    let three = both (is_idle (seat_of w.seats n).phase) (is_idle (seat_of w.seats other).phase) two.1 in
    let at = stands is_idle w.seats n refl three.0 in
    let bt = stands is_idle w.seats other refl three.1 in
    let apart : n - 1 ≢ other - 1 = λ same. apart_by n other two.0 (let a = at.some in let b = bt.some in omega arith) in
    joins w (n - 1) (other - 1) h apart at.within bt.within at.phase bt.phase

pub keeps_after : (w : World) (s : Step) → Holds w → Holds (after w s)
keeps_after w s h = by_test (is_allowed w s) refl
  where
    by_test : (b : Bool) → is_allowed w s ≡ b → Holds (after w s)
    by_test true e = rw e (keeps w s h e)
    by_test false e = rw e h

pub keeps_all : (w : World) (steps : List Step) → Holds w → Holds (after_all w steps)
keeps_all w [] h = h
keeps_all w (s ∷ steps) h = keeps_all (after w s) steps (keeps_after w s h)
