-- Messages that are settled at the system's time, whatever moment their event has.
use Rattle.std.specs.Prelude.{◌<◌, ◌^◌, ℕ}
use Rattle.dns_book.specs.declared.ask.Ask.{Ask}
use Rattle.dns_book.specs.declared.ask.Settled.{Settled}

-- a message was settled as one that came at this moment, which is the stamp of its rows
abbrev pub AtSomeMoment : {H : Type 0} → (H → Ask → Settled → H → Type 0) → H → Ask → Settled → H → Type 0
AtSomeMoment serves before ask settled after = (at : ℕ) × (at < 2 ^ 47) × serves before (record ask { at = at }) settled after
