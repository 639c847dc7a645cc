-- What a run over messages does to a book's keeper.
use Rattle.std.specs.Prelude.{ℕ, ◌+◌, ◌-◌, ◌^◌, ◌≤◌, min, List, [], ◌∷◌, if◌then◌else◌}
use Rattle.dns_keeper.specs.Keeping.{KeeperOf}
use Rattle.dns_book.specs.Access.{Access}
use Rattle.dns_book.specs.Book.{SeenOf, Settles}
use Rattle.dns_server_core.specs.declared.event.Out.{Out}
use Rattle.dns_server_core.specs.Runs.{Completed, Run}

-- how many steps of a run bring records that the keeper failed to take: each is an update that gets ServFail (RFC 2136 3.8)
abbrev pub failures : {K : Type 0} → (keeper : KeeperOf K) → (access : Access)
    → (before : SeenOf K) → (asks : List Completed) → (outs : List Out)
    → (after : SeenOf K) → Run (Settles keeper access) before asks outs after → ℕ
failures keeper access before [] outs after ran = 0
failures keeper access before (c ∷ cs) outs after ran = (if ran.3.failed then 1 else 0) + failures keeper access ran.1 cs ran.2 after ran.5

-- a count of faults rose by this many at least, or stands at its last value
abbrev pub RoseBy : ℕ → ℕ → ℕ → Type 0
RoseBy count before now = min (before + count) (2 ^ 64 - 1) ≤ now
