-- What a row that a query shows reads as.
use Rattle.std.specs.Prelude.{◌≡◌, List, [], ◌∷◌, Option, Some, None}
use Rattle.sqlite.specs.Order.{Row as Shown}
use Rattle.dns_keeper.specs.declared.row.Row.{Row}
use Rattle.dns_sqlite.specs.Reads.{ReadsAs}

-- what the first of the rows that a query shows reads as, if it shows one
abbrev pub FirstReadsAs : List Shown → Option Row → Type 0
FirstReadsAs shown None = shown ≡ []
FirstReadsAs shown (Some row) = (first : Shown) × (more : List Shown) × (shown ≡ first ∷ more) × ReadsAs first row
