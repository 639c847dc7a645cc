-- The two halves of a count: the batch comes to the rows, and the seat has counted.
use Rattle.std.specs.Prelude.{ℕ, ◌+◌, ◌-◌, List, ◌++◌, length, slice_set, Option}
use Rattle.dns_keeper.specs.declared.row.Row.{Row}
use Rattle.dns_ticket_world.specs.declared.receipt.Receipt.{Receipt}
use Rattle.dns_ticket_world.specs.declared.seat.Phase.TheVariants.{HasCounted}
use Rattle.dns_ticket_world.specs.Seats.{seat_at}
use Rattle.dns_ticket_world.specs.Rows.{with_receipt}
use Rattle.dns_ticket_world.specs.World.{World}

-- the rows with a batch, and the seat at a place with its receipt
abbrev pub with_batch : World → ℕ → List Row → Option Receipt → World
with_batch w place batch receipt = record w {
  rows = w.rows ++ batch;
  seats = slice_set w.seats place (record (seat_at w.seats place) { receipts = with_receipt (seat_at w.seats place).receipts receipt });
}

-- the seat at a place has counted, and has seen all rows
abbrev pub settled : World → ℕ → ℕ → World
settled w place faults = record w {
  faults = faults;
  seats = slice_set w.seats place (record (seat_at w.seats place) {
    phase = HasCounted;
    seen = length w.rows;
    faults = (seat_at w.seats place).faults + (faults - w.faults);
  });
}
