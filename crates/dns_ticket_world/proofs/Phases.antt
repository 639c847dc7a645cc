-- What the phase of a seat that may make a step says of it.
use Rattle.std.proofs.Common.{◌≡◌, Bool, true, false, refl, arith}
use Rattle.dns_ticket_world.specs.declared.seat.Phase.{Phase}
use Rattle.dns_ticket_world.specs.declared.seat.Phase.TheVariants.{Idle, Waiting, HasTurn, Holding, HasCounted, HasGiven}
use Rattle.dns_ticket_world.specs.Seats.{is_idle, may_take, is_holding, has_counted, has_given, has_book, is_served, has_ticket, has_ended}

pub record Reads (phase : Phase) (ticket book : Bool) : Type 0 where
  pub has_one : has_ticket phase ≡ ticket
  pub has_it : has_book phase ≡ book
  pub stays : has_ended phase ≡ false

pub idle_reads : (phase : Phase) → is_idle phase ≡ true → Reads phase false false
idle_reads Idle e = record { has_one = refl; has_it = refl; stays = refl }
idle_reads phase e = absurd (grind arith)

pub taking_reads : (phase : Phase) → may_take phase ≡ true → Reads phase true false
taking_reads Waiting e = record { has_one = refl; has_it = refl; stays = refl }
taking_reads HasTurn e = record { has_one = refl; has_it = refl; stays = refl }
taking_reads phase e = absurd (grind arith)

pub holding_reads : (phase : Phase) → is_holding phase ≡ true → Reads phase true true
holding_reads Holding e = record { has_one = refl; has_it = refl; stays = refl }
holding_reads phase e = absurd (grind arith)

pub counted_reads : (phase : Phase) → has_counted phase ≡ true → Reads phase true true
counted_reads HasCounted e = record { has_one = refl; has_it = refl; stays = refl }
counted_reads phase e = absurd (grind arith)

pub given_reads : (phase : Phase) → has_given phase ≡ true → Reads phase true false
given_reads HasGiven e = record { has_one = refl; has_it = refl; stays = refl }
given_reads phase e = absurd (grind arith)

-- one that has the book, or has given it back, has had its turn
pub holding_served : (phase : Phase) → is_holding phase ≡ true → is_served phase ≡ true
holding_served Holding e = refl
holding_served phase e = absurd (grind arith)

pub counted_served : (phase : Phase) → has_counted phase ≡ true → is_served phase ≡ true
counted_served HasCounted e = refl
counted_served phase e = absurd (grind arith)

pub given_served : (phase : Phase) → has_given phase ≡ true → is_served phase ≡ true
given_served HasGiven e = refl
given_served phase e = absurd (grind arith)

-- a seat whose turn has come has a ticket
pub served_has_one : (phase : Phase) → is_served phase ≡ true → has_ticket phase ≡ true
served_has_one HasTurn e = refl
served_has_one Holding e = refl
served_has_one HasCounted e = refl
served_has_one HasGiven e = refl
served_has_one phase e = absurd (grind arith)
