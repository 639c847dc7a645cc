-- One connection among all.
use Rattle.std.specs.Prelude.{◌≢◌, ℕ, List}
use Rattle.std.specs.List.{AllByRecursion}
use Rattle.dns_book.specs.declared.ask.Ask.{Ask}
use Rattle.dns_server_core.specs.declared.event.Event.{Event}
use Rattle.dns_server_core.specs.declared.event.Receiver.TheVariants.{Conn}
use Rattle.dns_server_core.specs.Events.{number_in}
use Rattle.dns_server_core.specs.Runs.{Completed}

-- no connection of this number is accepted
abbrev pub IsNeverAccepted : ℕ → List Event → Type 0
IsNeverAccepted number events = AllByRecursion (λ e. AllByRecursion (λ n. n ≢ number) (number_in e)) events

-- a message of the connection of a number
abbrev pub on : ℕ → Ask → Completed
on number ask = record { to = Conn number; ask = ask }
