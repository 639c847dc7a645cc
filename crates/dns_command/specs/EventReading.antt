-- Reading the event text, line by line.
use Rattle.std.specs.Prelude.{◌≡◌, ℕ, ◌+◌, List, ◌++◌, Result, Ok, Err, Vec}
use Rattle.std.specs.declared.alloc.Global.{Global}
use Rattle.dns_server_core.specs.declared.event.Event.{Event}
use Rattle.dns_command.specs.declared.event_text.EventFault.{EventFault}
use Rattle.dns_command.specs.declared.event_text.EventFault.TheVariants.{Line, OutOfMemory}
use Rattle.dns_command.specs.declared.event_text.LinesRead.{LinesRead}
use Rattle.dns_command.specs.EventText.{events_from}

-- a fault is what the text gives, want of memory aside
abbrev pub Tells : EventFault → Result (List Event) ℕ → Type 0
Tells (Line line) text = text ≡ Err line
Tells OutOfMemory text = Unit {0}

-- an answer is what the text gives, want of memory aside
abbrev pub Gives : Result (Vec Event Global) EventFault → Result (List Event) ℕ → Type 0
Gives (Ok events) text = text ≡ Ok events.items
Gives (Err fault) text = Tells fault text

-- events that were found before those of the lines that are left
abbrev pub ahead : List Event → Result (List Event) ℕ → Result (List Event) ℕ
ahead found (Ok events) = Ok (found ++ events)
ahead found (Err line) = Err line

-- what the text gives, where these lines are left
abbrev pub given_by : LinesRead → List (List ℕ) → Result (List Event) ℕ
given_by state lines = ahead state.events.items (events_from (state.lines + 1) lines)
