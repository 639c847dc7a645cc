-- Rows that were taken behind others of which something is known, and where they end.
use Rattle.std.proofs.Common.{◌≡◌, ℕ, ◌+◌, ◌<◌, List, ◌∷◌, ◌++◌, length, take, drop, get_or, Ok, ap, ◌∙◌, subst}
use Rattle.std.proofs.lemmas.List.{append_assoc}
use Rattle.dns_keeper.specs.declared.row.Row.{Row}
use Rattle.dns_zone_map.specs.Zone.{Contents}
use Rattle.dns_update.specs.Replay.{Replays}
use Rattle.dns_zone.specs.declared.replaying.ReplayFault.{ReplayFault}
use Rattle.dns_zone.specs.Replayed.{Replayed}
use Rattle.dns_zone.specs.Replaying.{HasTaken, TellsEnd}
use Rattle.dns_zone.specs.Growing.{Behind}
use Rattle.dns_zone.proofs.TakenRows.{tells, rows_parted}

-- a row that is refused is where all rows end
pub tells_behind : (P : List Row → Type 0) (origin : List (List ℕ)) (now : Replayed) (rows : List Row) (i : ℕ) (row : Row) → now.origin ≡ origin
    → ((front : List Row) → P front → HasTaken now (front ++ take i rows)) → i < length rows → row ≡ get_or rows i row
    → (f : ReplayFault) → TellsEnd (λ end. (before more : List Row) → HasTaken now before → Replays now.origin (before ++ row ∷ more) end) f
    → TellsEnd (λ end. (front : List Row) → P front → Replays origin (front ++ rows) end) f
tells_behind P origin now rows i row named taken within is f told =
    let parted : (front : List Row) → (front ++ take i rows) ++ row ∷ drop (i + 1) rows ≡ front ++ rows =
    λ front. append_assoc front (take i rows) (row ∷ drop (i + 1) rows) ∙ ap (λ (l : List Row). front ++ l) (rows_parted rows i row within is) in
    tells (λ end. (before more : List Row) → HasTaken now before → Replays now.origin (before ++ row ∷ more) end)
    (λ end. (front : List Row) → P front → Replays origin (front ++ rows) end) f
    (λ end p front h. subst (λ (o : List (List ℕ)). Replays o (front ++ rows) end) named
    (subst (λ (l : List Row). Replays now.origin l end) (parted front) (p (front ++ take i rows) (drop (i + 1) rows) (taken front h))))
    told

-- so it is behind the rows of a zone
pub tells_behind_zone : (zone : Contents) (done : ℕ) (now : Replayed) (rows : List Row) (i : ℕ) (row : Row) → now.origin ≡ zone.origin
    → Behind zone done (λ front. HasTaken now (front ++ take i rows)) → i < length rows → row ≡ get_or rows i row
    → (f : ReplayFault) → TellsEnd (λ end. (before more : List Row) → HasTaken now before → Replays now.origin (before ++ row ∷ more) end) f
    → TellsEnd (λ end. Behind zone done (λ front. Replays zone.origin (front ++ rows) end)) f
tells_behind_zone zone done now rows i row named taken within is f told =
    let P : List Row → Type 0 = λ front. (length front ≡ done) × Replays zone.origin front (Ok zone.records) in
    tells (λ end. (front : List Row) → P front → Replays zone.origin (front ++ rows) end) (λ end. Behind zone done (λ front. Replays zone.origin (front ++ rows) end)) f
    (λ end p front size runs. p front (size, runs))
    (tells_behind P zone.origin now rows i row named (λ front h. taken front h.0 h.1) within is f told)
