-- Batches that are read one by one, and how far they cover rows.
use Rattle.std.proofs.Common.{◌≡◌, ◌+ℤ◌, ◌++◌, ℤ, pos, List, [], ◌∷◌, Option, Some, None, true, false, refl, sym, ap, ◌∙◌, subst, arith, append_assoc}
use Rattle.std.specs.Prelude.{IfSome, Ok, Err}
use Rattle.std.specs.Int.Signed.{le_z}
use Rattle.std.proofs.lemmas.Int.{ints}
use Rattle.std.proofs.lemmas.Option.{same_Some}
use Rattle.dns_io.specs.Told.{Keeps, Told}
use Rattle.dns_keeper.specs.declared.row.Row.{Row}
use Rattle.dns_keeper.specs.declared.batch_row.BatchRow.{BatchRow}
use Rattle.dns_keeper.specs.declared.keeper.KeepFault.{KeepFault}
use Rattle.dns_keeper.specs.declared.keeper.KeepFault.TheVariants as keep
use Rattle.dns_keeper.specs.Batches.{first_batch, batch_from, is_by_first, AreByFirst, AreNumbered, Covers, uncovered}
use Rattle.dns_keeper.specs.Cutting.{Reached, Reaches, Passes}
use Rattle.dns_keeper.specs.RunsSoFar.{RunsSoFar, AreRunsOf}
use Rattle.dns_keeper.specs.Keeping.{KeeperTold, KeeperOf, IsBatchFrom, IsFirstBatch, TellsByFirst, KeepsBatches}
use Rattle.dns_keeper.specs.Calls.{ReadsBatch}
use Rattle.dns_keeper.proofs.Covering.{covered}
use Rattle.dns_update.specs.declared.replay_kind.ReplayKind.{ReplayKind}
use Rattle.dns_update.specs.declared.replay_kind.ReplayKind.TheVariants.{BatchOutOfPlace}
use Rattle.dns_store.specs.declared.opening.OpenKind.{OpenKind}
use Rattle.dns_store.specs.declared.opening.OpenKind.TheVariants.{Recovery, KeeperFault, NoZone, OutOfMemory}
use Rattle.dns_store.specs.Opening.{IsKeepers, HadNoRow}
use Rattle.dns_store.specs.Covered.{IsCovered, HadNothing}
use Rattle.dns_store.specs.Covering.{HasBatches, IsFirstOf, IsFirstOn, HaveRuns, IsCoveredUpTo, TellsPlace, IsUncovered}
use Rattle.dns_store.specs.Recovering.{keeper_kind, ReadsRows}

-- ---- what a keeper answers

both_told : {A B C : Type 0} (rows : Option (List Row)) → (A → B → C) → IfSome rows (λ l. A) → IfSome rows (λ l. B) → IfSome rows (λ l. C)
both_told None make a b = tt
both_told (Some rows) make a b = make a b

pub found_on : (id next : ℤ) (found : Option BatchRow) (told : KeeperTold) → next ≡ id → IsBatchFrom told next found → TellsByFirst told → HasBatches told (IsFirstOn id found)
found_on id next found told same is by_first =
    both_told {A = found ≡ batch_from next told.batches} {B = AreByFirst told.batches} {C = IsFirstOn id found told.batches} told.rows
    (λ a b. record { is = a ∙ ap (λ (n : ℤ). batch_from n told.batches) same; by_first = b }) is by_first

pub found_first : (found : Option BatchRow) (told : KeeperTold) → IsFirstBatch told found → TellsByFirst told → HasBatches told (IsFirstOf found)
found_first found told is by_first =
    both_told {A = found ≡ first_batch told.batches} {B = AreByFirst told.batches} {C = IsFirstOf found told.batches} told.rows
    (λ a b. record { is = a; by_first = b }) is by_first

module _ {K : Type 0} (keeper : KeeperOf K) where
  pub reads_batch : {T : Type 0} (old new : K) (id : ℤ) (found : Option BatchRow) (value : T) → ReadsBatch keeper old new id (Ok found) → ReadsRows keeper old new (Ok value)
  reads_batch old new id found value read =
      record { kept = read.kept; batches = read.batches; left = read.left; later = read.cause.later; counts = read.cause.counts }

  pub reads_no_batch : {T : Type 0} (old new : K) (id : ℤ) (f : KeepFault) (kind : OpenKind) → kind ≡ keeper_kind f → ReadsBatch keeper old new id (Err f) → ReadsRows {T = T} keeper old new (Err kind)
  reads_no_batch {T} old new id f kind is read = subst (λ (k : OpenKind). ReadsRows {T = T} keeper old new (Err k)) (sym is) (by f read)
    where
      by : (f : KeepFault) → ReadsBatch keeper old new id (Err f) → ReadsRows {T = T} keeper old new (Err (keeper_kind f))
      by keep.Failed read = record { kept = read.kept; batches = read.batches; left = read.left; later = read.cause.later; counts = read.cause.counts }
      by keep.OutOfMemory read = record { kept = read.kept; batches = read.batches; left = read.left; later = read.cause.later; counts = read.cause.counts }

-- ---- the batch that comes next

begins_below : (b : BatchRow) (front : List BatchRow) (c : BatchRow) (rest : List BatchRow) → is_by_first (b ∷ front ++ c ∷ rest) ≡ true → le_z c.first b.first ≡ false
begins_below b [] c rest by_first = grind arith
begins_below b (d ∷ front) c rest by_first =
    let step : le_z d.first b.first ≡ false = grind arith in
    let tail : is_by_first (d ∷ front ++ c ∷ rest) ≡ true = grind arith in
    let more : le_z c.first d.first ≡ false = begins_below d front c rest tail in
    grind (arith, ints)

-- the first batch with a greater first than a batch is the one behind it
pub next_behind : (front : List BatchRow) (b : BatchRow) (rest : List BatchRow) → is_by_first (front ++ b ∷ rest) ≡ true → batch_from (b.first +ℤ pos 1) (front ++ b ∷ rest) ≡ first_batch rest
next_behind [] b [] by_first =
    let past : le_z (b.first +ℤ pos 1) b.first ≡ false = grind (arith, ints) in
    rw past refl
next_behind [] b (c ∷ rest) by_first =
    let past : le_z (b.first +ℤ pos 1) b.first ≡ false = grind (arith, ints) in
    let step : le_z c.first b.first ≡ false = grind arith in
    let here : le_z (b.first +ℤ pos 1) c.first ≡ true = grind (arith, ints) in
    rw (past, here) refl
next_behind (d ∷ front) b rest by_first =
    let below : le_z b.first d.first ≡ false = begins_below d front b rest by_first in
    let past : le_z (b.first +ℤ pos 1) d.first ≡ false = grind (arith, ints) in
    let tail : is_by_first (front ++ b ∷ rest) ≡ true = grind arith in
    rw past (next_behind front b rest tail)

-- ---- before the first batch

starts_at : (coverage : Reached) (runs : RunsSoFar) (next : Option BatchRow) (batches : List BatchRow) (rows : List Row) → coverage.place ≡ pos 1
    → ((l : List Row) → AreRunsOf l runs → AreNumbered (pos 1) l → Reaches l coverage) → HaveRuns runs rows → IsFirstOf next batches → IsCoveredUpTo coverage next batches rows
starts_at coverage runs next batches rows one reaches have first = record {
  front = [];
  rest = batches;
  parts = refl;
  follows = first.is;
  by_first = first.by_first;
  left = rows;
  reaches = reaches rows have.counted have.numbered;
  same = ap (λ (n : ℤ). uncovered n rows batches) (sym one);
}

starts_by : (b n : Option (List Row)) (coverage : Reached) (runs : RunsSoFar) (next : Option BatchRow) (batches : List BatchRow) → Keeps b n → IfSome b (HaveRuns runs) → coverage.place ≡ pos 1
    → ((l : List Row) → AreRunsOf l runs → AreNumbered (pos 1) l → Reaches l coverage) → IfSome n (λ rows. IsFirstOf next batches) → IfSome n (IsCoveredUpTo coverage next batches)
starts_by b None coverage runs next batches kept have one reaches first = tt
starts_by None (Some n) coverage runs next batches kept have one reaches first = absurd kept
starts_by (Some b) (Some n) coverage runs next batches kept have one reaches first =
    starts_at coverage runs next batches n one reaches (subst (HaveRuns runs) (sym kept) have) first

pub covering_starts : (before now : KeeperTold) (coverage : Reached) (runs : RunsSoFar) (next : Option BatchRow) → Keeps before.rows now.rows → IfSome before.rows (HaveRuns runs) → coverage.place ≡ pos 1
    → ((l : List Row) → AreRunsOf l runs → AreNumbered (pos 1) l → Reaches l coverage) → HasBatches now (IsFirstOf next) → IfSome now.rows (IsCoveredUpTo coverage next now.batches)
covering_starts before now coverage runs next kept have one reaches first = starts_by before.rows now.rows coverage runs next now.batches kept have one reaches first

-- ---- behind one batch more

goes_on_at : (coverage after : Reached) (b : BatchRow) (found : Option BatchRow) (batches : List BatchRow) (rows left : List Row) (front rest : List BatchRow) → batches ≡ front ++ rest
    → Some b ≡ first_batch rest → Reaches left coverage → uncovered (pos 1) rows batches ≡ uncovered coverage.place left rest
    → ((l : List Row) → Reaches l coverage → Passes l b coverage after) → IsFirstOn (b.first +ℤ pos 1) found batches → IsCoveredUpTo after found batches rows
goes_on_at coverage after b found batches rows left front [] parts next reaches same passes first = absurd (let none = next in cc)
goes_on_at coverage after b found batches rows left front (c ∷ rest) parts next reaches same passes first =
    let is : b ≡ c = same_Some _ _ next in
    let all : batches ≡ front ++ b ∷ rest = parts ∙ ap (λ (one : BatchRow). front ++ one ∷ rest) (sym is) in
    let here : uncovered (pos 1) rows batches ≡ uncovered coverage.place left (b ∷ rest) = same ∙ ap (λ (one : BatchRow). uncovered coverage.place left (one ∷ rest)) (sym is) in
    let step = passes left reaches in
    record {
      front = front ++ b ∷ [];
      rest = rest;
      parts = all ∙ sym (append_assoc front (b ∷ []) rest);
      follows = first.is ∙ ap (batch_from (b.first +ℤ pos 1)) all ∙ next_behind front b rest (subst AreByFirst all first.by_first);
      by_first = first.by_first;
      left = step.left;
      reaches = step.reaches;
      same = here ∙ step.same rest;
    }

goes_on_by : (w n : Option (List Row)) (wb nb : List BatchRow) (coverage after : Reached) (b : BatchRow) (found : Option BatchRow) → Keeps w n → Told (λ (o : List Row) (s : List Row). nb ≡ wb) w n
    → IfSome w (IsCoveredUpTo coverage (Some b) wb) → ((l : List Row) → Reaches l coverage → Passes l b coverage after) → IfSome n (λ rows. IsFirstOn (b.first +ℤ pos 1) found nb)
    → IfSome n (IsCoveredUpTo after found nb)
goes_on_by w None wb nb coverage after b found kept same read passes first = tt
goes_on_by None (Some n) wb nb coverage after b found kept same read passes first = absurd kept
goes_on_by (Some w) (Some n) wb nb coverage after b found kept same read passes first =
    let now : uncovered (pos 1) n nb ≡ uncovered (pos 1) w wb = ap (λ (l : List Row). uncovered (pos 1) l nb) kept ∙ ap (λ (bs : List BatchRow). uncovered (pos 1) w bs) same in
    goes_on_at coverage after b found nb n read.left read.front read.rest (same ∙ read.parts) read.follows read.reaches (now ∙ read.same) passes first

pub covering_goes_on : (was now : KeeperTold) (coverage after : Reached) (b : BatchRow) (found : Option BatchRow) → Keeps was.rows now.rows → KeepsBatches was now
    → IfSome was.rows (IsCoveredUpTo coverage (Some b) was.batches) → ((l : List Row) → Reaches l coverage → Passes l b coverage after) → HasBatches now (IsFirstOn (b.first +ℤ pos 1) found)
    → IfSome now.rows (IsCoveredUpTo after found now.batches)
covering_goes_on was now coverage after b found kept same read passes first =
    goes_on_by was.rows now.rows was.batches now.batches coverage after b found kept same read passes first

-- ---- at the end

ends_at : (coverage : Reached) (batches : List BatchRow) (rows left : List Row) (rest : List BatchRow) (end : Option ℤ) → None ≡ first_batch rest → Reaches left coverage
    → uncovered (pos 1) rows batches ≡ uncovered coverage.place left rest → ((l : List Row) → Reaches l coverage → uncovered coverage.place l [] ≡ end) → uncovered (pos 1) rows batches ≡ end
ends_at coverage batches rows left [] end next reaches same ends = same ∙ ends left reaches
ends_at coverage batches rows left (b ∷ rest) end next reaches same ends = absurd (let none = next in cc)

covered_by : (rows : Option (List Row)) (batches : List BatchRow) (coverage : Reached) → IfSome rows (IsCoveredUpTo coverage None batches)
    → ((l : List Row) → Reaches l coverage → uncovered coverage.place l [] ≡ None) → IfSome rows (λ l. Covers (pos 1) l batches)
covered_by None batches coverage read ends = tt
covered_by (Some rows) batches coverage read ends =
    covered (pos 1) rows batches (ends_at coverage batches rows read.left read.rest None read.follows read.reaches read.same ends)

pub covering_ends : (told : KeeperTold) (coverage : Reached) → IfSome told.rows (IsCoveredUpTo coverage None told.batches)
    → ((l : List Row) → Reaches l coverage → uncovered coverage.place l [] ≡ None) → IsCovered told
covering_ends told coverage read ends = covered_by told.rows told.batches coverage read ends

-- ---- where batches cease to cover rows

ceases : (s n : Option (List Row)) (sb nb : List BatchRow) (place : ℤ) (kind : ReplayKind) (coverage : Reached) (next : Option BatchRow) → Keeps s n → Told (λ (o : List Row) (l : List Row). nb ≡ sb) s n
    → IfSome n (IsCoveredUpTo coverage next nb) → kind ≡ BatchOutOfPlace → ((rows : List Row) → IsCoveredUpTo coverage next nb rows → uncovered (pos 1) rows nb ≡ Some place)
    → Told (λ old new. (kind ≡ BatchOutOfPlace) × (uncovered (pos 1) old sb ≡ Some place)) s n
ceases s None sb nb place kind coverage next kept same read is at = tt
ceases None (Some n) sb nb place kind coverage next kept same read is at = absurd kept
ceases (Some s) (Some n) sb nb place kind coverage next kept same read is at =
    let now : uncovered (pos 1) n nb ≡ uncovered (pos 1) s sb = ap (λ (l : List Row). uncovered (pos 1) l nb) kept ∙ ap (λ (bs : List BatchRow). uncovered (pos 1) s bs) same in
    (is, sym now ∙ at n read)

-- no batch comes any more
pub uncovered_end : (start now : KeeperTold) (coverage : Reached) (kind : OpenKind) → Keeps start.rows now.rows → KeepsBatches start now → IfSome now.rows (IsCoveredUpTo coverage None now.batches)
    → TellsPlace (λ place. (l : List Row) → Reaches l coverage → uncovered coverage.place l [] ≡ Some place) kind → IsUncovered start now kind
uncovered_end start now coverage (Recovery place kind) kept same read told =
    ceases start.rows now.rows start.batches now.batches place kind coverage None kept same read told.0
    (λ rows up. ends_at coverage now.batches rows up.left up.rest (Some place) up.follows up.reaches up.same told.1)
uncovered_end start now coverage KeeperFault kept same read told = absurd told
uncovered_end start now coverage NoZone kept same read told = absurd told
uncovered_end start now coverage OutOfMemory kept same read told = tt

-- or the next one covers no rows
refused_at : (coverage : Reached) (batches : List BatchRow) (b : BatchRow) (rows left : List Row) (rest : List BatchRow) (place : ℤ) → Some b ≡ first_batch rest → Reaches left coverage
    → uncovered (pos 1) rows batches ≡ uncovered coverage.place left rest → ((l : List Row) (more : List BatchRow) → Reaches l coverage → uncovered coverage.place l (b ∷ more) ≡ Some place)
    → uncovered (pos 1) rows batches ≡ Some place
refused_at coverage batches b rows left [] place next reaches same ends = absurd (let none = next in cc)
refused_at coverage batches b rows left (c ∷ rest) place next reaches same ends =
    let is : b ≡ c = same_Some _ _ next in
    same ∙ ap (λ (one : BatchRow). uncovered coverage.place left (one ∷ rest)) (sym is) ∙ ends left rest reaches

pub uncovered_there : (start now : KeeperTold) (coverage : Reached) (b : BatchRow) (kind : OpenKind) → Keeps start.rows now.rows → KeepsBatches start now
    → IfSome now.rows (IsCoveredUpTo coverage (Some b) now.batches)
    → TellsPlace (λ place. (l : List Row) (more : List BatchRow) → Reaches l coverage → uncovered coverage.place l (b ∷ more) ≡ Some place) kind → IsUncovered start now kind
uncovered_there start now coverage b (Recovery place kind) kept same read told =
    ceases start.rows now.rows start.batches now.batches place kind coverage (Some b) kept same read told.0
    (λ rows up. refused_at coverage now.batches b rows up.left up.rest place up.follows up.reaches up.same told.1)
uncovered_there start now coverage b KeeperFault kept same read told = absurd told
uncovered_there start now coverage b NoZone kept same read told = absurd told
uncovered_there start now coverage b OutOfMemory kept same read told = tt

-- or a call of the keeper was refused
pub uncovered_failed : (start now : KeeperTold) (kind : OpenKind) → IsKeepers kind → IsUncovered start now kind
uncovered_failed start now (Recovery place kind) told = absurd told
uncovered_failed start now KeeperFault told = tt
uncovered_failed start now NoZone told = absurd told
uncovered_failed start now OutOfMemory told = tt

-- ---- without rows

nothing_by : (b n : Option (List Row)) (bb nb : List BatchRow) → HadNoRow b b → Keeps b n → Told (λ (o : List Row) (s : List Row). nb ≡ bb) b n → IfSome n (λ rows. IsFirstOf None nb)
    → Told (λ (o : List Row) (s : List Row). (o ≡ []) × (bb ≡ [])) b n
nothing_by b None bb nb none kept same first = tt
nothing_by None (Some n) bb nb none kept same first = absurd kept
nothing_by (Some b) (Some n) bb nb none kept same first = (none, sym same ∙ no_first nb first.is)
  where
    no_first : (batches : List BatchRow) → None ≡ first_batch batches → batches ≡ []
    no_first [] is = refl
    no_first (c ∷ batches) is = absurd (let some = is in cc)

pub nothing_seen : (before now : KeeperTold) → HadNoRow before.rows before.rows → Keeps before.rows now.rows → KeepsBatches before now → HasBatches now (IsFirstOf None) → HadNothing before now
nothing_seen before now none kept same first = nothing_by before.rows now.rows before.batches now.batches none kept same first

stray_by : (b n : Option (List Row)) (bb nb : List BatchRow) (one : BatchRow) → HadNoRow b b → Keeps b n → Told (λ (o : List Row) (s : List Row). nb ≡ bb) b n → IfSome n (λ rows. IsFirstOf (Some one) nb)
    → Told (λ old new. (BatchOutOfPlace ≡ BatchOutOfPlace) × (uncovered (pos 1) old bb ≡ Some (pos 1))) b n
stray_by b None bb nb one none kept same first = tt
stray_by None (Some n) bb nb one none kept same first = absurd kept
stray_by (Some b) (Some n) bb nb one none kept same first =
    (refl, ap (λ (l : List Row). uncovered (pos 1) l bb) none ∙ ap (λ (bs : List BatchRow). uncovered (pos 1) [] bs) (sym same) ∙ stray nb first.is)
  where
    stray : (batches : List BatchRow) → Some one ≡ first_batch batches → uncovered (pos 1) [] batches ≡ Some (pos 1)
    stray [] is = absurd (let none = is in cc)
    stray (c ∷ batches) is = refl

pub stray_seen : (before now : KeeperTold) (one : BatchRow) (kind : OpenKind) → HadNoRow before.rows before.rows → Keeps before.rows now.rows → KeepsBatches before now
    → HasBatches now (IsFirstOf (Some one)) → kind ≡ Recovery (pos 1) BatchOutOfPlace → IsUncovered before now kind
stray_seen before now one kind none kept same first is =
    subst (IsUncovered before now) (sym is) (stray_by before.rows now.rows before.batches now.batches one none kept same first)
