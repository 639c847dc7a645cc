-- Rows that were taken, with one more, or with one that is refused.
use Rattle.std.proofs.Common.{◌≡◌, ℕ, ◌+◌, ◌<◌, List, [], ◌∷◌, ◌++◌, length, take, drop, get_or, refl, sym, ap, ◌∙◌, subst, arith, length-append, false}
use Rattle.std.specs.Prelude.{pos, Result, Ok, Err}
use Rattle.std.specs.List.{list_any}
use Rattle.std.proofs.lemmas.List.{drop_more, take-append-drop}
use Rattle.dns_wire.specs.declared.record.Record.{Record}
use Rattle.dns_keeper.specs.declared.row.Row.{Row}
use Rattle.dns_keeper.specs.Rows.{last_id}
use Rattle.dns_zone_map.specs.Zone.{is_type}
use Rattle.dns_update.specs.declared.replay_kind.ReplayKind.TheVariants.{NotOneSoa}
use Rattle.dns_update.specs.Replay.{Refusal, RunsTo, Replays}
use Rattle.dns_update.proofs.Rows.{runs_on, last_is}
use Rattle.dns_zone.specs.declared.replaying.ReplayFault.{ReplayFault}
use Rattle.dns_zone.specs.declared.replaying.ReplayFault.TheVariants.{Refused, OutOfMemory}
use Rattle.dns_zone.specs.Replayed.{Replayed}
use Rattle.dns_zone.specs.Replaying.{HasTaken, TellsEnd}

-- what follows from an end that is told
pub tells : (P Q : Result (List Record) Refusal → Type 0) (f : ReplayFault) → ((end : Result (List Record) Refusal) → P end → Q end) → TellsEnd P f → TellsEnd Q f
tells P Q (Refused row kind) on told = on (Err (record { row = row; kind = kind })) told
tells P Q OutOfMemory on told = tt

-- the last id is the number of the rows
last_of : (origin : List (List ℕ)) (rows : List Row) (end : List Record) → RunsTo origin 1 [] rows (Ok end) → last_id rows ≡ pos (length rows)
last_of origin [] end runs = refl
last_of origin (row ∷ rows) end runs = last_is origin 1 [] row rows end runs ∙ ap pos (omega arith)

module _ (state : Replayed) (place : ℕ) (rows : List Row) (row : Row) (h : HasTaken state rows) (is : place ≡ length rows + 1) where
  here : place ≡ 1 + length rows
  here = omega (arith, is)

  pub more_taken : (after : Replayed) → after.origin ≡ state.origin → RunsTo state.origin place state.records (row ∷ []) (Ok after.records) → after.last ≡ row.id → HasTaken after (rows ++ row ∷ [])
  more_taken after origin runs last =
      let all : RunsTo state.origin 1 [] (rows ++ row ∷ []) (Ok after.records) =
      runs_on state.origin 1 [] rows (row ∷ []) state.records (Ok after.records) h.runs (subst (λ (n : ℕ). RunsTo state.origin n state.records (row ∷ []) (Ok after.records)) here runs) in
      let size : length (rows ++ row ∷ []) ≡ length rows + 1 = length-append rows (row ∷ []) in
      record {
        runs = subst (λ (o : List (List ℕ)). RunsTo o 1 [] (rows ++ row ∷ []) (Ok after.records)) (sym origin) all;
        last = last ∙ last_is state.origin place state.records row [] after.records runs ∙ ap pos (omega (arith, is, size));
      }

  pub ends_there : (more : List Row) (refusal : Refusal) → RunsTo state.origin place state.records (row ∷ more) (Err refusal) → Replays state.origin (rows ++ row ∷ more) (Err refusal)
  ends_there more refusal runs =
      record {
        run = Err refusal;
        runs = runs_on state.origin 1 [] rows (row ∷ more) state.records (Err refusal) h.runs (subst (λ (n : ℕ). RunsTo state.origin n state.records (row ∷ more) (Err refusal)) here runs);
        is = refl;
      }

-- a row that is refused is where all rows end
pub tells_there : (state : Replayed) (place : ℕ) (row : Row) (f : ReplayFault) → ((n : ℕ) → state.last ≡ pos n → place ≡ n + 1)
    → TellsEnd (λ end. (more : List Row) → RunsTo state.origin place state.records (row ∷ more) end) f
    → TellsEnd (λ end. (rows more : List Row) → HasTaken state rows → Replays state.origin (rows ++ row ∷ more) end) f
tells_there state place row (Refused id kind) placed told = λ rows more h. ends_there state place rows row h (placed (length rows) h.last) more _ (told more)
tells_there state place row OutOfMemory placed told = tt

-- rows that leave no SOA
pub no_soa : (state : Replayed) (rows : List Row) → HasTaken state rows → list_any (is_type 6) state.records ≡ false → Replays state.origin rows (Err (record { row = state.last; kind = NotOneSoa }))
no_soa state rows h none =
    let last : state.last ≡ last_id rows = h.last ∙ sym (last_of state.origin rows state.records h.runs) in
    record { run = Ok state.records; runs = h.runs; is = rw (none, last) refl }

-- rows are those before one, that one, and those behind it
pub rows_parted : (rows : List Row) (i : ℕ) (one : Row) → i < length rows → one ≡ get_or rows i one → take i rows ++ one ∷ drop (i + 1) rows ≡ rows
rows_parted rows i one within is =
    let parts : drop i rows ≡ one ∷ drop (i + 1) rows = drop_more rows i one within ∙ ap (λ (r : Row). r ∷ drop (i + 1) rows) (sym is) in
    ap (λ (l : List Row). take i rows ++ l) (sym parts) ∙ take-append-drop i rows

-- so that is how all rows end
pub soa_missing : (state : Replayed) (f : ReplayFault) → f ≡ Refused state.last NotOneSoa → list_any (is_type 6) state.records ≡ false
    → TellsEnd (λ end. (rows : List Row) → HasTaken state rows → Replays state.origin rows end) f
soa_missing state f is none =
    subst (TellsEnd (λ end. (rows : List Row) → HasTaken state rows → Replays state.origin rows end)) (sym is) (λ rows h. no_soa state rows h none)

-- the rows behind those that were taken
pub tells_all : (origin : List (List ℕ)) (state : Replayed) (rows : List Row) (i : ℕ) (row : Row) (f : ReplayFault) → state.origin ≡ origin → HasTaken state (take i rows) → i < length rows → row ≡ get_or rows i row
    → TellsEnd (λ end. (before more : List Row) → HasTaken state before → Replays state.origin (before ++ row ∷ more) end) f → TellsEnd (Replays origin rows) f
tells_all origin state rows i row f same h within is told =
    tells (λ end. (before more : List Row) → HasTaken state before → Replays state.origin (before ++ row ∷ more) end) (Replays origin rows) f
    (λ end p. subst (λ (o : List (List ℕ)). Replays o rows end) same (subst (λ (l : List Row). Replays state.origin l end) (rows_parted rows i row within is) (p (take i rows) (drop (i + 1) rows) h)))
    told
