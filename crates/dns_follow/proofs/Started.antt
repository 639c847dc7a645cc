-- What holds of a follower that was opened on rows that it had stored of the feed, and then took payloads of it.
use Rattle.std.proofs.Common.{◌≡◌, inl, ℕ, pos, ◌+◌, List, [], ◌∷◌, ◌++◌, length, map, false, Some, refl, ap, ◌∙◌, subst, arith}
use Rattle.std.specs.List.{All}
use Rattle.std.proofs.lemmas.List.{append_assoc}
use Rattle.std.proofs.lemmas.List.Elements.{All-nil}
use Rattle.dns_io.specs.Told.{Rose}
use Rattle.dns_keeper.specs.declared.row.Row.{Row}
use Rattle.dns_keeper.specs.declared.batch_row.BatchRow.{BatchRow}
use Rattle.dns_keeper.specs.Rows.{id_of, last_id}
use Rattle.dns_follow.specs.Feed.{bare, ends_batch}
use Rattle.dns_follow.specs.Following.{State, empty, want, Step, Runs}
use Rattle.dns_follow.specs.Behind.{IsUncompressed, IsPrimary, IsBehind, StandAlike, StartsOn, IsNoRefusal, AreFed, IsNoWant, StoreWanted}
use Rattle.dns_follow.proofs.Parts.{NumberedFrom, numbered_by}
use Rattle.dns_follow.proofs.Bare.{numbered_bare}
use Rattle.dns_follow.proofs.Holding.{last_of-next}
use Rattle.dns_follow.proofs.Fronted.{stand_alike}
use Rattle.dns_follow.proofs.Law.{IsFollowing, moved, run_keeps, run_goes}

-- ids that count up in all rows do in those in front
numbered_front : (n : ℕ) (front back : List Row) → NumberedFrom n (front ++ back) → NumberedFrom n front
numbered_front n [] back h = tt
numbered_front n (x ∷ front) back h = (h.0, numbered_front (n + 1) front back h.1)

-- and where the stamps are put back
numbered_stamped : (n : ℕ) (rows : List Row) → NumberedFrom n (map bare rows) → NumberedFrom n rows
numbered_stamped n [] h = tt
numbered_stamped n (x ∷ rows) h = (h.0, numbered_stamped (n + 1) rows h.1)

last_some : (n : ℕ) (x : Row) (rows : List Row) → NumberedFrom n (x ∷ rows) → last_id (x ∷ rows) ≡ pos (n + length rows)
last_some n x [] h = let e : n ≡ n + 0 = omega arith in h.0 ∙ ap pos e
last_some n x (y ∷ rows) h =
    let e : n + 1 + length rows ≡ n + length (y ∷ rows) = omega arith in
    ap id_of (last_of-next x y rows) ∙ last_some (n + 1) y rows h.1 ∙ ap pos e

-- the last of ids from 1 on is their number
last_numbered : (rows : List Row) → NumberedFrom 1 rows → last_id rows ≡ pos (length rows)
last_numbered [] h = refl
last_numbered (x ∷ rows) h = let e : 1 + length rows ≡ length (x ∷ rows) = omega arith in last_some 1 x rows h ∙ ap pos e

module _ (origin : List (List ℕ)) (rows : List Row) (batches : List BatchRow) (primary : IsPrimary origin rows batches) where
  -- a follower at its start
  at_start : (s : State) (had : List Row) → StartsOn rows batches s had → IsFollowing rows batches had s.count s.held
  at_start s had start =
      let behind = start.behind in
      let numbered : NumberedFrom 1 (map bare rows) = numbered_bare 1 rows (numbered_by 1 rows primary.numbered) in
      let all : map bare rows ≡ map bare had ++ ([] ++ behind.rest) = behind.parts ∙ append_assoc (map bare had) [] behind.rest in
      let front : NumberedFrom 1 (map bare had) = numbered_front 1 (map bare had) ([] ++ behind.rest) (subst (λ (l : List Row). NumberedFrom 1 l) all numbered) in
      let first : IsFollowing rows batches had (length had) [] = record {
        behind = behind;
        size = refl;
        last = last_numbered had (numbered_stamped 1 had front);
        client = 0;
        serial = 0;
        records = [];
        held_is = tt;
        plain = All-nil (λ row. IsUncompressed row.bytes);
      } in
      moved origin rows batches primary had had (length had) s.count [] s.held refl start.count start.held first

  module _ (s : State) (had : List Row) (start : StartsOn rows batches s had) (steps : List Step) (t : State) (stored : List Row) (fed : AreFed rows batches steps)
      (runs : Runs origin s steps t) (tells : t.told.rows ≡ Some stored) where
    ends : IsFollowing rows batches stored t.count t.held × All (λ step. IsNoRefusal step.answer) steps
    ends = run_keeps origin rows batches primary s steps t had stored start.told tells (at_start s had start) fed runs

    pub start_keeps : IsBehind rows batches stored t.held × All (λ step. IsNoRefusal step.answer) steps
    start_keeps = (ends.0.behind, ends.1)

    pub start_stands : StandAlike origin rows stored
    start_stands = stand_alike origin rows batches stored t.held ends.0.behind

    pub start_goes : (more : List Step) (u : State) (last : List Row) → AreFed rows batches more → Runs origin t more u → u.told.rows ≡ Some last
        → (Rose t.told.faults u.told.faults → ⊥) → All IsNoWant more → StoreWanted (want t) more
    start_goes more u last fed' runs' tells' still fine =
        run_goes origin rows batches primary t more u stored last tells tells' ends.0 fed' runs' still fine

-- a follower without rows is at a start
pub empty_starts : (rows : List Row) (batches : List BatchRow) (faults : ℕ) → StartsOn rows batches (empty faults) []
empty_starts rows batches faults = record {
  told = refl;
  count = refl;
  held = refl;
  behind = record { rest = map bare rows; parts = refl; ended = inl refl; short = All-nil (λ row. ends_batch batches row.id ≡ false) };
}
