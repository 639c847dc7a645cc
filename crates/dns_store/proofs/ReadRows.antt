-- Rows that are read back one by one.
use Rattle.std.proofs.Common.{◌≡◌, ℕ, ◌+◌, ◌≤◌, ℤ, pos, ◌+ℤ◌, List, [], ◌∷◌, ◌++◌, length, Option, Some, None, true, false, refl, sym, ap, ◌∙◌, subst, arith, append_assoc, length-append}
use Rattle.std.specs.Prelude.{IfSome, Result, Ok, Err}
use Rattle.std.specs.Int.Signed.{le_z}
use Rattle.std.proofs.lemmas.Int.{ints}
use Rattle.std.proofs.lemmas.List.{append-nil}
use Rattle.std.proofs.lemmas.Option.{same_Some}
use Rattle.dns_name.specs.Name.{fold_of}
use Rattle.dns_io.specs.Told.{Keeps}
use Rattle.dns_io.proofs.ToldContents.{Keeps-same}
use Rattle.dns_wire.specs.declared.record.Record.{Record}
use Rattle.dns_keeper.specs.declared.row.Row.{Row}
use Rattle.dns_keeper.specs.Rows.{first_of, first_from, is_ascending, AreAscending}
use Rattle.dns_keeper.specs.declared.keeper.KeepFault.{KeepFault}
use Rattle.dns_keeper.specs.declared.keeper.KeepFault.TheVariants as keep
use Rattle.dns_keeper.specs.RunsSoFar.{RunsSoFar, AreRunsOf}
use Rattle.dns_keeper.specs.Keeping.{KeeperOf, IsRowFrom, IsFirstRow, TellsAscending, KeepsBatches}
use Rattle.dns_keeper.specs.Calls.{ReadsRow}
use Rattle.dns_keeper.specs.Crash.{LeavesNoOther}
use Rattle.dns_zone.specs.declared.replaying.ReplayFault.{ReplayFault}
use Rattle.dns_zone.specs.declared.replaying.ReplayFault.TheVariants as fault
use Rattle.dns_update.specs.Replay.{Refusal, Replays}
use Rattle.dns_update.proofs.Replayed.{numbered_replayed}
use Rattle.dns_zone.specs.Replayed.{Replayed}
use Rattle.dns_zone.specs.Replaying.{HasTaken}
use Rattle.dns_store.specs.declared.opening.OpenKind.{OpenKind}
use Rattle.dns_store.specs.declared.opening.OpenKind.TheVariants.{Recovery, KeeperFault, NoZone, OutOfMemory}
use Rattle.dns_store.specs.Opening.{AreUnread, IsKeepers, CountsByKind}
use Rattle.dns_store.specs.Covering.{HaveRuns}
use Rattle.dns_store.proofs.ToldBatches.{batches_on, batches_same}
use Rattle.dns_store.specs.Recovering.{kind_of, keeper_kind, TellsRefusal, ReadsRows, IsFirst, IsFirstFrom, IsReadUpTo, AreTaken}

-- a row has a lower id than each row behind it
is_below : (r : Row) (front : List Row) (row : Row) (rest : List Row) → is_ascending (r ∷ front ++ row ∷ rest) ≡ true → le_z row.id r.id ≡ false
is_below r [] row rest ascending = grind arith
is_below r (s ∷ front) row rest ascending =
    let step : le_z s.id r.id ≡ false = grind arith in
    let tail : is_ascending (s ∷ front ++ row ∷ rest) ≡ true = grind arith in
    let more : le_z row.id s.id ≡ false = is_below s front row rest tail in
    grind (arith, ints)

-- the first row with a greater id than a row is the one behind it
pub first_behind : (front : List Row) (row : Row) (rest : List Row) → is_ascending (front ++ row ∷ rest) ≡ true → first_from (row.id +ℤ pos 1) (front ++ row ∷ rest) ≡ first_of rest
first_behind [] row [] ascending =
    let past : le_z (row.id +ℤ pos 1) row.id ≡ false = grind (arith, ints) in
    rw past refl
first_behind [] row (s ∷ rest) ascending =
    let past : le_z (row.id +ℤ pos 1) row.id ≡ false = grind (arith, ints) in
    let step : le_z s.id row.id ≡ false = grind arith in
    let here : le_z (row.id +ℤ pos 1) s.id ≡ true = grind (arith, ints) in
    rw (past, here) refl
first_behind (r ∷ front) row rest ascending =
    let below : le_z row.id r.id ≡ false = is_below r front row rest ascending in
    let past : le_z (row.id +ℤ pos 1) r.id ≡ false = grind (arith, ints) in
    let tail : is_ascending (front ++ row ∷ rest) ≡ true = grind arith in
    rw past (first_behind front row rest tail)

-- what a keeper answers
pub found_from : (id next : ℤ) (found : Option Row) (rows : Option (List Row)) → next ≡ id → IsRowFrom rows next found → TellsAscending rows → IfSome rows (IsFirstFrom id found)
found_from id next found None same is ascending = tt
found_from id next found (Some rows) same is ascending = record { is = is ∙ ap (λ (n : ℤ). first_from n rows) same; ascending = ascending }

-- rows that a call keeps, after one that kept them
pub kept_on : (start before now : Option (List Row)) → Keeps start before → Keeps before now → Keeps start now
kept_on start before None first second = tt
kept_on start None (Some rows) first second = absurd second
kept_on None (Some middle) (Some rows) first second = absurd first
kept_on (Some old) (Some middle) (Some rows) first second = second ∙ first

-- before the first row
begins_at : (state : Replayed) (runs : RunsSoFar) (next : Option Row) (rows : List Row) → HasTaken state [] → AreRunsOf [] runs → IsFirst next rows → IsReadUpTo state runs 0 next rows
begins_at state runs next rows none no_runs first = record { front = []; rest = rows; parts = refl; taken = none; counted = no_runs; number = refl; follows = first.is; ascending = first.ascending }

pub begins : (state : Replayed) (runs : RunsSoFar) (next : Option Row) (rows : Option (List Row)) → HasTaken state [] → AreRunsOf [] runs → IfSome rows (IsFirst next) → IfSome rows (IsReadUpTo state runs 0 next)
begins state runs next None none no_runs first = tt
begins state runs next (Some rows) none no_runs first = begins_at state runs next rows none no_runs first

-- behind one row more
goes_on_at : (state after : Replayed) (runs more : RunsSoFar) (count : ℕ) (row : Row) (found : Option Row) (rows front rest : List Row) → rows ≡ front ++ rest → HasTaken state front → AreRunsOf front runs
    → length front ≡ count → Some row ≡ first_of rest → ((taken : List Row) → HasTaken state taken → HasTaken after (taken ++ row ∷ []))
    → ((taken : List Row) → AreRunsOf taken runs → AreRunsOf (taken ++ row ∷ []) more) → IsFirstFrom (row.id +ℤ pos 1) found rows → IsReadUpTo after more (count + 1) found rows
goes_on_at state after runs more count row found rows front [] parts taken counted number next takes counts first = absurd (let none = next in cc)
goes_on_at state after runs more count row found rows front (r ∷ rest) parts taken counted number next takes counts first =
    let same : row ≡ r = same_Some _ _ next in
    let all : rows ≡ front ++ row ∷ rest = parts ∙ ap (λ (one : Row). front ++ one ∷ rest) (sym same) in
    let size : length (front ++ row ∷ []) ≡ length front + 1 = length-append front (row ∷ []) in
    record {
      front = front ++ row ∷ [];
      rest = rest;
      parts = all ∙ sym (append_assoc front (row ∷ []) rest);
      taken = takes front taken;
      counted = counts front counted;
      number = size ∙ ap (λ (n : ℕ). n + 1) number;
      follows = first.is ∙ ap (first_from (row.id +ℤ pos 1)) all ∙ first_behind front row rest (subst AreAscending all first.ascending);
      ascending = first.ascending;
    }

pub goes_on : (state after : Replayed) (runs more : RunsSoFar) (count : ℕ) (row : Row) (found : Option Row) (before now : Option (List Row)) → Keeps before now
    → IfSome before (IsReadUpTo state runs count (Some row)) → ((taken : List Row) → HasTaken state taken → HasTaken after (taken ++ row ∷ []))
    → ((taken : List Row) → AreRunsOf taken runs → AreRunsOf (taken ++ row ∷ []) more) → IfSome now (IsFirstFrom (row.id +ℤ pos 1) found) → IfSome now (IsReadUpTo after more (count + 1) found)
goes_on state after runs more count row found before None keeps read takes counts first = tt
goes_on state after runs more count row found None (Some rows) keeps read takes counts first = absurd keeps
goes_on state after runs more count row found (Some old) (Some rows) keeps read takes counts first =
    goes_on_at state after runs more count row found rows read.front read.rest (keeps ∙ read.parts) read.taken read.counted read.number read.follows takes counts first

-- at the end
ends_at : (state : Replayed) (runs : RunsSoFar) (count : ℕ) (rows front rest : List Row) → rows ≡ front ++ rest → HasTaken state front → AreRunsOf front runs → length front ≡ count → None ≡ first_of rest
    → AreTaken state runs count rows
ends_at state runs count rows front [] parts taken counted number next =
    let all : rows ≡ front = parts ∙ append-nil front in
    record { taken = subst (HasTaken state) (sym all) taken; counted = subst (λ (l : List Row). AreRunsOf l runs) (sym all) counted; number = ap length all ∙ number }
ends_at state runs count rows front (r ∷ rest) parts taken counted number next = absurd (let none = next in cc)

pub ends : (state : Replayed) (runs : RunsSoFar) (count : ℕ) (rows : Option (List Row)) → IfSome rows (IsReadUpTo state runs count None) → IfSome rows (AreTaken state runs count)
ends state runs count None read = tt
ends state runs count (Some rows) read = ends_at state runs count rows read.front read.rest read.parts read.taken read.counted read.number read.follows

-- a row that is refused is how all rows end
refused_at : (origin : List (List ℕ)) (state : Replayed) (row : Row) (refusal : Refusal) (rows front rest : List Row) → state.origin ≡ fold_of origin → rows ≡ front ++ rest → HasTaken state front → Some row ≡ first_of rest
    → ((taken more : List Row) → HasTaken state taken → Replays state.origin (taken ++ row ∷ more) (Err refusal)) → Replays (fold_of origin) rows (Err refusal)
refused_at origin state row refusal rows front [] same parts taken next told = absurd (let none = next in cc)
refused_at origin state row refusal rows front (r ∷ rest) same parts taken next told =
    let is : row ≡ r = same_Some _ _ next in
    let all : rows ≡ front ++ row ∷ rest = parts ∙ ap (λ (one : Row). front ++ one ∷ rest) (sym is) in
    subst (λ (l : List Row). Replays (fold_of origin) l (Err refusal)) (sym all) (subst (λ (o : List (List ℕ)). Replays o (front ++ row ∷ rest) (Err refusal)) same (told front rest taken))

pub refused_there : (start now : Option (List Row)) (origin : List (List ℕ)) (state : Replayed) (runs : RunsSoFar) (count : ℕ) (row : Row) (kind : OpenKind) → Keeps start now
    → IfSome now (IsReadUpTo state runs count (Some row)) → state.origin ≡ fold_of origin
    → TellsRefusal (λ end. (taken more : List Row) → HasTaken state taken → Replays state.origin (taken ++ row ∷ more) end) kind → AreUnread start now origin kind
refused_there start None origin state runs count row (Recovery id why) keeps read same told = tt
refused_there None (Some rows) origin state runs count row (Recovery id why) keeps read same told = absurd keeps
refused_there (Some old) (Some rows) origin state runs count row (Recovery id why) keeps read same told =
    subst (λ (l : List Row). Replays (fold_of origin) l (Err (record { row = id; kind = why }))) keeps
    (refused_at origin state row (record { row = id; kind = why }) rows read.front read.rest same read.parts read.taken read.follows told)
refused_there start now origin state runs count row KeeperFault keeps read same told = absurd told
refused_there start now origin state runs count row NoZone keeps read same told = absurd told
refused_there start now origin state runs count row OutOfMemory keeps read same told = tt

-- and a call of the keeper that is refused
pub failed_there : (start now : Option (List Row)) (origin : List (List ℕ)) (kind : OpenKind) → IsKeepers kind → AreUnread start now origin kind
failed_there start now origin (Recovery id why) told = absurd told
failed_there start now origin KeeperFault told = tt
failed_there start now origin NoZone told = absurd told
failed_there start now origin OutOfMemory told = tt

-- or memory ran out
pub wanting_there : (start now : Option (List Row)) (origin : List (List ℕ)) (kind : OpenKind) → kind ≡ OutOfMemory → AreUnread start now origin kind
wanting_there start now origin kind is = subst (AreUnread start now origin) (sym is) tt

-- the runs of rows that stand for a zone
runs_at : (rows : List Row) (state : Replayed) (runs : RunsSoFar) (count : ℕ) (records : List Record) → AreTaken state runs count rows → Replays state.origin rows (Ok records) → HaveRuns runs rows
runs_at rows state runs count records taken replays = record { counted = taken.counted; numbered = numbered_replayed state.origin rows records replays }

pub runs_told : (rows : Option (List Row)) (state : Replayed) (runs : RunsSoFar) (count : ℕ) (records : List Record) → IfSome rows (AreTaken state runs count)
    → ((l : List Row) → HasTaken state l → Replays state.origin l (Ok records)) → IfSome rows (HaveRuns runs)
runs_told None state runs count records taken replays = tt
runs_told (Some rows) state runs count records taken replays = runs_at rows state runs count records taken (replays rows taken.taken)

-- the first row, as the keeper answers
pub found_first : (found : Option Row) (rows : Option (List Row)) → IsFirstRow rows found → TellsAscending rows → IfSome rows (IsFirst found)
found_first found None is ascending = tt
found_first found (Some rows) is ascending = record { is = is; ascending = ascending }

-- a call of the keeper is refused for a fault of the keeper, or for want of memory
pub is_keepers : (f : KeepFault) (kind : OpenKind) → kind ≡ keeper_kind f → IsKeepers kind
is_keepers keep.Failed kind is = subst IsKeepers (sym is) tt
is_keepers keep.OutOfMemory kind is = subst IsKeepers (sym is) tt

-- what a count of faults did since it was so, and since it was as it then was
pub counts_since : (first before now : ℕ) (kind : OpenKind) → before ≡ first → CountsByKind before now kind → CountsByKind first now kind
counts_since first before now kind same counts = subst (λ (n : ℕ). CountsByKind n now kind) same counts

module _ {K : Type 0} (keeper : KeeperOf K) where
  -- one row was read
  pub reads_found : {T : Type 0} (old new : K) (id : ℤ) (found : Option Row) (value : T) → ReadsRow keeper old new id (Ok found) → ReadsRows keeper old new (Ok value)
  reads_found old new id found value read = record { kept = read.kept; batches = read.batches; left = read.left; later = read.cause.later; counts = read.cause.counts }

  pub reads_failed : {T : Type 0} (old new : K) (id : ℤ) (f : KeepFault) (kind : OpenKind) → kind ≡ keeper_kind f → ReadsRow keeper old new id (Err f) → ReadsRows {T = T} keeper old new (Err kind)
  reads_failed {T} old new id f kind is read = subst (λ (k : OpenKind). ReadsRows {T = T} keeper old new (Err k)) (sym is) (by f read)
    where
      by : (f : KeepFault) → ReadsRow keeper old new id (Err f) → ReadsRows {T = T} keeper old new (Err (keeper_kind f))
      by keep.Failed read = record { kept = read.kept; batches = read.batches; left = read.left; later = read.cause.later; counts = read.cause.counts }
      by keep.OutOfMemory read = record { kept = read.kept; batches = read.batches; left = read.left; later = read.cause.later; counts = read.cause.counts }

  -- none was read, for want of memory
  pub reads_none : {T : Type 0} (held : K) (kind : OpenKind) → kind ≡ OutOfMemory → ReadsRows {T = T} keeper held held (Err kind)
  reads_none {T} held kind is = subst (λ (k : OpenKind). ReadsRows {T = T} keeper held held (Err k)) (sym is) (record {
    kept = Keeps-same (keeper.told held).rows;
    batches = batches_same (keeper.told held);
    left = λ rows now. now;
    later = omega arith;
    counts = refl;
  })

  -- so do all of them, one after the other
  module _ {T : Type 0} (start now : K) (kept : Keeps (keeper.told start).rows (keeper.told now).rows) (batches : KeepsBatches (keeper.told start) (keeper.told now))
      (left : LeavesNoOther (keeper.may_leave start) (keeper.may_leave now))
      (same : (keeper.told now).faults ≡ (keeper.told start).faults) where
    pub reads_all : (value : T) → ReadsRows keeper start now (Ok value)
    reads_all value = record { kept = kept; batches = batches; left = left; later = omega (arith, same); counts = same }

    pub reads_wanting : ReadsRows {T = T} keeper start now (Err OutOfMemory)
    reads_wanting = record { kept = kept; batches = batches; left = left; later = omega (arith, same); counts = same }

    pub reads_want : (kind : OpenKind) → kind ≡ OutOfMemory → ReadsRows {T = T} keeper start now (Err kind)
    reads_want kind is = subst (λ (k : OpenKind). ReadsRows {T = T} keeper start now (Err k)) (sym is) reads_wanting

    -- a refusal of rows is no fault of the keeper
    pub reads_refused : (End : Result (List Record) Refusal → Type 0) (kind : OpenKind) → TellsRefusal End kind → ReadsRows {T = T} keeper start now (Err kind)
    reads_refused End (Recovery id why) told = record { kept = kept; batches = batches; left = left; later = omega (arith, same); counts = same }
    reads_refused End KeeperFault told = absurd told
    reads_refused End NoZone told = absurd told
    reads_refused End OutOfMemory told = record { kept = kept; batches = batches; left = left; later = omega (arith, same); counts = same }

    pub reads_unfinished : (f : ReplayFault) (kind : OpenKind) → kind ≡ kind_of f → ReadsRows {T = T} keeper start now (Err kind)
    reads_unfinished f kind is = subst (λ (k : OpenKind). ReadsRows {T = T} keeper start now (Err k)) (sym is) (by f)
      where
        by : (f : ReplayFault) → ReadsRows {T = T} keeper start now (Err (kind_of f))
        by (fault.Refused row kind) = record { kept = kept; batches = batches; left = left; later = omega (arith, same); counts = same }
        by fault.OutOfMemory = record { kept = kept; batches = batches; left = left; later = omega (arith, same); counts = same }

    -- then one failed
    pub reads_then : {U : Type 0} (last : K) (kind : OpenKind) → ReadsRows {T = U} keeper now last (Err kind) → ReadsRows {T = T} keeper start last (Err kind)
    reads_then last kind read =
        let later : (keeper.told now).faults ≤ (keeper.told last).faults = read.later in
        record {
          kept = kept_on (keeper.told start).rows (keeper.told now).rows (keeper.told last).rows kept read.kept;
          batches = batches_on (keeper.told start) (keeper.told now) (keeper.told last) kept batches read.batches;
          left = λ rows some. left rows (read.left rows some);
          later = omega (arith, same, later);
          counts = counts_since (keeper.told start).faults (keeper.told now).faults (keeper.told last).faults kind same read.counts;
        }

  -- the same, whatever was to be read
  pub reads_alike : {T U : Type 0} (old new : K) (kind : OpenKind) → ReadsRows {T = T} keeper old new (Err kind) → ReadsRows {T = U} keeper old new (Err kind)
  reads_alike old new kind read = record { kept = read.kept; batches = read.batches; left = read.left; later = read.later; counts = read.counts }

  pub reads_as_well : {T U : Type 0} (old new : K) (value : T) (other : U) → ReadsRows keeper old new (Ok value) → ReadsRows keeper old new (Ok other)
  reads_as_well old new value other read = record { kept = read.kept; batches = read.batches; left = read.left; later = read.later; counts = read.counts }

  -- rows were read, and then batches
  pub reads_both : {T U V : Type 0} (start between now : K) (a : T) (b : U) (c : V) → ReadsRows keeper start between (Ok a) → ReadsRows keeper between now (Ok b) → ReadsRows keeper start now (Ok c)
  reads_both start between now a b c first second = record {
    kept = kept_on (keeper.told start).rows (keeper.told between).rows (keeper.told now).rows first.kept second.kept;
    batches = batches_on (keeper.told start) (keeper.told between) (keeper.told now) first.kept first.batches second.batches;
    left = λ kept some. first.left kept (second.left kept some);
    later = let a : (keeper.told start).faults ≤ (keeper.told between).faults = first.later in let b : (keeper.told between).faults ≤ (keeper.told now).faults = second.later in omega (arith, a, b);
    counts = second.counts ∙ first.counts;
  }

  pub reads_first : {T U V : Type 0} (start between now : K) (a : T) (kind : OpenKind) → ReadsRows keeper start between (Ok a) → ReadsRows {T = U} keeper between now (Err kind) → ReadsRows {T = V} keeper start now (Err kind)
  reads_first start between now a kind first second = reads_then start between first.kept first.batches first.left first.counts now kind second
