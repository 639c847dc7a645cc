-- The front of a journal's rows that a follower has.
use Rattle.std.proofs.Common.{◌≡◌, ℕ, List, ◌++◌, length, map, take, Some, None, Ok, sym, ap, ◌∙◌}
use Rattle.std.proofs.lemmas.List.{append_assoc, length-map, take-map, take_at}
use Rattle.dns_keeper.specs.declared.row.Row.{Row}
use Rattle.dns_keeper.specs.declared.batch_row.BatchRow.{BatchRow}
use Rattle.dns_follow.specs.Feed.{bare}
use Rattle.dns_follow.specs.Behind.{IsBehind, StandAlike}
use Rattle.dns_follow.proofs.Alike.{replays_alike, bare_alike}

-- stored rows are the journal's up to their number, stamps aside
front_of : (rows : List Row) (batches : List BatchRow) (stored held : List Row) → IsBehind rows batches stored held
    → map bare stored ≡ map bare (take (length stored) rows)
front_of rows batches stored held behind =
    let all : map bare rows ≡ map bare stored ++ (held ++ behind.rest) = behind.parts ∙ append_assoc (map bare stored) held behind.rest in
    let front : take (length stored) (map bare rows) ≡ map bare stored =
    ap (λ l. take (length stored) l) all ∙ take_at (map bare stored) (held ++ behind.rest) (length stored) (length-map stored bare) in
    sym front ∙ take-map bare (length stored) rows

-- so they stand for what those do
pub stand_alike : (origin : List (List ℕ)) (rows : List Row) (batches : List BatchRow) (stored held : List Row) → IsBehind rows batches stored held
    → StandAlike origin rows stored
stand_alike origin rows batches stored held behind None none = ap (λ (l : List Row). take (length l) rows) none
stand_alike origin rows batches stored held behind (Some zone) stands =
    let seen : map bare stored ≡ map bare (take (length stored) rows) = front_of rows batches stored held behind in
    replays_alike origin stored (take (length stored) rows) (Ok zone.records) (bare_alike stored (take (length stored) rows) seen) stands
