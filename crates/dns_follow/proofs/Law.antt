-- A follower that takes payloads of a journal's feed has a front of its rows, stamps aside, where its keeper tells its rows.
use Rattle.std.proofs.Common.{◌≡◌, inl, inr, ℕ, ℤ, pos, ◌+ℤ◌, ◌+◌, ◌-◌, ◌^◌, ◌<◌, ◌≤◌, List, [], ◌∷◌, ◌++◌, length, map, take, Bool, true, false, Option, Some, None, Ok, Err, Result, refl, sym, ap, ◌∙◌, subst, arith}
use Rattle.std.specs.Prelude.{◌&&◌, ◌==◌, ◌≢◌, ◌⊎◌, if◌then◌else◌, IfSome, min}
use Rattle.std.specs.Ordering.{int_eq}
use Rattle.std.specs.List.{All, Contains}
use Rattle.std.proofs.lemmas.List.{append_assoc, append-nil, length-append, length-map, map-append, take-map, take_at}
use Rattle.std.proofs.lemmas.List.Elements.{All-nil, All-cons, All-head, All-tail, All-push, All-map, All-contains, Contains-append_right}
use Rattle.std.proofs.lemmas.Bool.{cases_lt}
use Rattle.std.proofs.lemmas.Bool.Decides.{Decides-eqb, Decides-int_eq}
use Rattle.dns_io.specs.Told.{Rose, Told, Keeps}
use Rattle.dns_wire.specs.declared.record.Record.{Record}
use Rattle.dns_keeper.specs.declared.row.Row.{Row}
use Rattle.dns_keeper.specs.declared.batch_row.BatchRow.{BatchRow}
use Rattle.dns_keeper.specs.Rows.{last_id, rows_of}
use Rattle.dns_keeper.specs.Keeping.{HasBatch}
use Rattle.dns_update.specs.Replay.{Replays}
use Rattle.dns_update.proofs.Replayed.{replays_one}
use Rattle.dns_follow.specs.declared.frame.Frame.{Frame}
use Rattle.dns_follow.specs.declared.answer.Taken.{Taken}
use Rattle.dns_follow.specs.declared.answer.Taken.TheVariants.{Known, Ahead, Held, Stored}
use Rattle.dns_follow.specs.declared.answer.FollowFault.{FollowFault}
use Rattle.dns_follow.specs.declared.answer.FollowFault.TheVariants.{BadFrame, Mixed, Refused, KeeperFault, Read, Turns, OutOfMemory}
use Rattle.dns_follow.specs.Feed.{bare, ends_batch, row_of, IsFed, frame_in}
use Rattle.dns_follow.specs.Following.{State, want, IsRow, Carries, IsBad, last_of, joins, dropped, AreOf, WouldEnd, IsWithout, TakesFrame, Takes, Step, Runs}
use Rattle.dns_follow.specs.Seen.{AreRowsOf}
use Rattle.dns_follow.specs.Behind.{IsUncompressed, IsPrimary, IsPayload, IsBehind, IsNoRefusal, AreFed, IsNoWant, wanted_after, StoreWanted}
use Rattle.dns_follow.proofs.Payloads.{read_back}
use Rattle.dns_follow.proofs.Parts.{NumberedFrom, Parts, numbered_by, parts_by}
use Rattle.dns_follow.proofs.Fronts.{found, same_rest, id_at, ends}
use Rattle.dns_follow.proofs.Parted.{next_alike}
use Rattle.dns_follow.proofs.Holding.{next_id, of_pos, held_of, held_with, held_length, length-rows_of, last_behind}
use Rattle.dns_follow.proofs.Alike.{replays_alike, bare_alike}
use Rattle.dns_follow.proofs.Bare.{numbered_bare, parts_bare, held_bare, written_bare, one_reading}

ends_by : (b : Bool) (mark : ℕ) → mark ≡ (if b then 1 else 0) → mark ≡ 1 → b ≡ true
ends_by true mark e one = refl
ends_by false mark e one = absurd (omega arith)

goes_by : (b : Bool) (mark : ℕ) → mark ≡ (if b then 1 else 0) → mark ≡ 0 → b ≡ false
goes_by true mark e none = absurd (omega arith)
goes_by false mark e none = refl

small : (b : Bool) (mark : ℕ) → mark ≡ (if b then 1 else 0) → mark ≤ 1
small true mark e = omega arith
small false mark e = omega arith

both_true : (p q : Bool) → p ≡ true → q ≡ true → (p && q) ≡ true
both_true p q e h = rw (e, h) refl

regroup : {X : Type 0} (a b c : List X) (x : X) → (a ++ b) ++ x ∷ c ≡ (a ++ (b ++ x ∷ [])) ++ c
regroup a b c x = simp append_assoc

-- a keeper that tells its rows told them before
told_before : (R : List Row → List Row → Type 0) (a b : Option (List Row)) (new : List Row) → b ≡ Some new
    → Told R a b → (old : List Row) × (a ≡ Some old) × R old new
told_before R a None new e h = absurd cc
told_before R None (Some b) new e h = absurd h
told_before R (Some a) (Some b) new e h = let same : b ≡ new = cc in (a, refl, subst (λ (l : List Row). R a l) same h)

one_old : (a : Option (List Row)) (old other : List Row) → a ≡ Some old → a ≡ Some other → other ≡ old
one_old a old other e h = let same : Some other ≡ Some old = sym h ∙ e in cc

same_rows : (s t : State) → t ≡ s → t.told.rows ≡ s.told.rows
same_rows s t e = ap (λ (m : State). m.told.rows) e

-- ---- the id that is wanted

-- a number is another one or not
is_or_not : (a b : ℕ) → (a ≡ b) ⊎ (a ≢ b)
is_or_not a b = elim (cases_lt a b) [
  | inl less ↦ inr (λ (e : a ≡ b). absurd (omega arith))
  | inr most ↦ elim (cases_lt b a) [ inl more ↦ inr (λ (e : a ≡ b). absurd (omega arith)) | inr least ↦ inl (omega arith) ]
]

by_false : (b : Bool) → (b ≡ true → ⊥) → b ≡ false
by_false true h = absurd (h refl)
by_false false h = refl

after_here : (id : ℕ) (o : Option Frame) (f : Frame) → o ≡ Some f → f.id ≡ id → wanted_after id o ≡ id + 1
after_here id o f e h =
    let yes : (f.id == id) ≡ true = (Decides-eqb f.id id).1 h in
    ap (λ (x : Option Frame). wanted_after id x) e ∙ ap (λ (b : Bool). if b then id + 1 else id) yes

after_other : (id : ℕ) (o : Option Frame) (f : Frame) → o ≡ Some f → f.id ≢ id → wanted_after id o ≡ id
after_other id o f e h =
    let no : (f.id == id) ≡ false = by_false (f.id == id) (λ same. h ((Decides-eqb f.id id).0 same)) in
    ap (λ (x : Option Frame). wanted_after id x) e ∙ ap (λ (b : Bool). if b then id + 1 else id) no

-- ---- counts of faults

same_faults : (s t m : State) → t ≡ m → m.told.faults ≡ s.told.faults → s.told.faults ≤ t.told.faults
same_faults s t m e h = let is : t.told.faults ≡ m.told.faults = ap (λ (x : State). x.told.faults) e in omega arith

module _ (origin : List (List ℕ)) where
  was_told : (s : State) (f : Frame) (moment : ℕ) (answer : Result Taken FollowFault) (t : State) (new : List Row) → TakesFrame origin s f moment answer t → t.told.rows ≡ Some new
      → (old : List Row) × (s.told.rows ≡ Some old)
  was_told s f moment (Ok Known) t new takes e = (new, sym (same_rows s t takes.1) ∙ e)
  was_told s f moment (Ok (Ahead w got)) t new takes e = (new, sym (same_rows s t takes.3) ∙ e)
  was_told s f moment (Ok Held) t new takes e = (new, sym (same_rows (record s { held = s.held ++ row_of f ∷ [] }) t takes.2) ∙ e)
  was_told s f moment (Ok (Stored n)) t new takes e =
      let at = told_before (λ old now. HasBatch old f.client f.serial moment takes.3.records now) s.told.rows t.told.rows new e takes.3.grown in (at.0, at.1)
  was_told s f moment (Err BadFrame) t new takes e = absurd takes
  was_told s f moment (Err (Mixed row)) t new takes e = (new, sym (same_rows (dropped s) t takes.3) ∙ e)
  was_told s f moment (Err (Refused row kind)) t new takes e = (new, sym (same_rows (dropped s) t takes.2) ∙ e)
  was_told s f moment (Err KeeperFault) t new takes e = let at = told_before (λ old now. now ≡ old) s.told.rows t.told.rows new e takes.2.left.rows in (at.0, at.1)
  was_told s f moment (Err OutOfMemory) t new takes e = let at = told_before (λ old now. now ≡ old) s.told.rows t.told.rows new e takes.left.rows in (at.0, at.1)
  was_told s f moment (Err Read) t new takes e = absurd takes
  was_told s f moment (Err (Turns reads)) t new takes e = absurd takes

  grows : (s : State) (f : Frame) (moment : ℕ) (answer : Result Taken FollowFault) (t : State) → TakesFrame origin s f moment answer t → s.told.faults ≤ t.told.faults
  grows s f moment (Ok Known) t takes = same_faults s t s takes.1 refl
  grows s f moment (Ok (Ahead w got)) t takes = same_faults s t s takes.3 refl
  grows s f moment (Ok Held) t takes = same_faults s t (record s { held = s.held ++ row_of f ∷ [] }) takes.2 refl
  grows s f moment (Ok (Stored n)) t takes = let same : t.told.faults ≡ s.told.faults = takes.3.uncounted in omega arith
  grows s f moment (Err BadFrame) t takes = absurd takes
  grows s f moment (Err (Mixed row)) t takes = same_faults s t (dropped s) takes.3 refl
  grows s f moment (Err (Refused row kind)) t takes = same_faults s t (dropped s) takes.2 refl
  grows s f moment (Err KeeperFault) t takes = takes.2.later
  grows s f moment (Err OutOfMemory) t takes = let same : t.told.faults ≡ s.told.faults = takes.uncounted in omega arith
  grows s f moment (Err Read) t takes = absurd takes
  grows s f moment (Err (Turns reads)) t takes = absurd takes

  -- a frame that is not the wanted one leaves the wanted id
  passes : (s : State) (f : Frame) (moment : ℕ) (answer : Result Taken FollowFault) (t : State) → TakesFrame origin s f moment answer t → f.id ≢ want s → want t ≡ want s
  passes s f moment (Ok Known) t takes other = ap want takes.1
  passes s f moment (Ok (Ahead w got)) t takes other = ap want takes.3
  passes s f moment (Ok Held) t takes other = absurd (other takes.0.wanted)
  passes s f moment (Ok (Stored n)) t takes other = absurd (other takes.0.fits.wanted)
  passes s f moment (Err BadFrame) t takes other = absurd takes
  passes s f moment (Err (Mixed row)) t takes other = absurd (other takes.0)
  passes s f moment (Err (Refused row kind)) t takes other = absurd (other takes.0.fits.wanted)
  passes s f moment (Err KeeperFault) t takes other = absurd (other takes.0.fits.wanted)
  passes s f moment (Err OutOfMemory) t takes other =
      let count : t.count ≡ s.count = takes.left.count in
      let long : length t.held ≡ length s.held = ap length takes.left.held in
      omega arith
  passes s f moment (Err Read) t takes other = absurd takes
  passes s f moment (Err (Turns reads)) t takes other = absurd takes

  -- what a payload did: it carries no row, or memory ran out, or its frame was taken
  pub record IsTaken (s : State) (payload : List ℕ) (moment : ℕ) (answer : Result Taken FollowFault) (t : State) : Type 0 where
    pub frame : Frame
    pub carries : Carries payload frame
    pub takes : TakesFrame origin s frame moment answer t

  pub data Did (s : State) (payload : List ℕ) (moment : ℕ) (answer : Result Taken FollowFault) (t : State) : Type 0 where
    bad : answer ≡ Err BadFrame → IsBad payload → t ≡ s → Did s payload moment answer t
    wanting : answer ≡ Err OutOfMemory → IsWithout s t → Did s payload moment answer t
    taken : IsTaken s payload moment answer t → Did s payload moment answer t

  of_frame : (s : State) (payload : List ℕ) (moment : ℕ) (answer : Result Taken FollowFault) (t : State) → (f : Frame) × Carries payload f × TakesFrame origin s f moment answer t → Did s payload moment answer t
  of_frame s payload moment answer t h = taken (record { frame = h.0; carries = h.1; takes = h.2 })

  pub did : (s : State) (payload : List ℕ) (moment : ℕ) (answer : Result Taken FollowFault) (t : State) → Takes origin s payload moment answer t → Did s payload moment answer t
  did s payload moment (Ok Known) t h = of_frame s payload moment (Ok Known) t h
  did s payload moment (Ok (Ahead w got)) t h = of_frame s payload moment (Ok (Ahead w got)) t h
  did s payload moment (Ok Held) t h = of_frame s payload moment (Ok Held) t h
  did s payload moment (Ok (Stored n)) t h = of_frame s payload moment (Ok (Stored n)) t h
  did s payload moment (Err BadFrame) t h = bad refl h.0 h.1
  did s payload moment (Err (Mixed row)) t h = of_frame s payload moment (Err (Mixed row)) t h
  did s payload moment (Err (Refused row kind)) t h = of_frame s payload moment (Err (Refused row kind)) t h
  did s payload moment (Err KeeperFault) t h = of_frame s payload moment (Err KeeperFault) t h
  did s payload moment (Err OutOfMemory) t h = wanting refl h
  did s payload moment (Err Read) t h = of_frame s payload moment (Err Read) t h
  did s payload moment (Err (Turns reads)) t h = of_frame s payload moment (Err (Turns reads)) t h

  did_told : (s : State) (payload : List ℕ) (moment : ℕ) (answer : Result Taken FollowFault) (t : State) (new : List Row) → Did s payload moment answer t → t.told.rows ≡ Some new
      → (old : List Row) × (s.told.rows ≡ Some old)
  did_told s payload moment answer t new (bad is none same) e = (new, sym (same_rows s t same) ∙ e)
  did_told s payload moment answer t new (wanting is left) e = let at = told_before (λ old now. now ≡ old) s.told.rows t.told.rows new e left.left.rows in (at.0, at.1)
  did_told s payload moment answer t new (taken h) e = was_told s h.frame moment answer t new h.takes e

  did_grow : (s : State) (payload : List ℕ) (moment : ℕ) (answer : Result Taken FollowFault) (t : State) → Did s payload moment answer t → s.told.faults ≤ t.told.faults
  did_grow s payload moment answer t (bad is none same) = same_faults s t s same refl
  did_grow s payload moment answer t (wanting is left) = let same : t.told.faults ≡ s.told.faults = left.uncounted in omega arith
  did_grow s payload moment answer t (taken h) = grows s h.frame moment answer t h.takes

  run_grows : (s : State) (steps : List Step) (t : State) → Runs origin s steps t → s.told.faults ≤ t.told.faults
  run_grows s [] t runs = same_faults s t s runs refl
  run_grows s (step ∷ steps) t runs =
      let one : s.told.faults ≤ runs.0.told.faults = did_grow s step.payload step.moment step.answer runs.0 (did s step.payload step.moment step.answer runs.0 runs.1) in
      let more : runs.0.told.faults ≤ t.told.faults = run_grows runs.0 steps t runs.2 in
      omega arith

-- a count that rose on the way rose
rose_on : (a b c d : ℕ) → a ≤ b → Rose b c → c ≤ d → Rose a d
rose_on a b c d first rose last =
    let here : min (b + 1) (2 ^ 64 - 1) ≤ c = rose in
    let low : min (a + 1) (2 ^ 64 - 1) ≤ min (b + 1) (2 ^ 64 - 1) = omega arith in
    omega arith

-- what holds of a follower whose keeper tells these rows
pub record IsFollowing (rows : List Row) (batches : List BatchRow) (old : List Row) (count : ℕ) (held : List Row) : Type 0 where
  pub behind : IsBehind rows batches old held
  pub size : length old ≡ count
  pub last : last_id old ≡ pos count
  pub client : ℕ
  pub serial : ℕ
  pub records : List Record
  pub held_is : AreRowsOf (λ r. Unit {0}) (count + 1) client serial held records
  pub plain : All (λ row. IsUncompressed row.bytes) held

module _ (origin : List (List ℕ)) (rows : List Row) (batches : List BatchRow) (primary : IsPrimary origin rows batches) where
  numbered : NumberedFrom 1 (map bare rows)
  numbered = numbered_bare 1 rows (numbered_by 1 rows primary.numbered)

  parted : Parts 1 (map bare rows) batches
  parted = parts_bare 1 rows batches (parts_by 1 rows batches primary.covers)

  record Placed (f : Frame) : Type 0 where
    front : List Row
    back : List Row
    parts : map bare rows ≡ front ++ row_of f ∷ back
    id : f.id ≡ length front + 1

  placed : (f : Frame) → IsFed rows batches f → Placed f
  placed f fed =
      let at = found (map bare rows) (row_of f) fed.row in
      let id : pos f.id ≡ pos (1 + length at.front) = id_at 1 at.front (row_of f) at.back (subst (λ (l : List Row). NumberedFrom 1 l) at.parts numbered) in
      let is : f.id ≡ 1 + length at.front = of_pos f.id (1 + length at.front) id in
      record { front = at.front; back = at.back; parts = at.parts; id = omega arith }

  plain_frame : (f : Frame) → IsFed rows batches f → IsUncompressed f.bytes
  plain_frame f fed = All-contains (λ (row : Row). IsUncompressed row.bytes) (map bare rows) (row_of f) (All-map (λ (row : Row). IsUncompressed row.bytes) bare rows primary.uncompressed) fed.row

  good : (f : Frame) (fed : IsFed rows batches f) → IsRow f (plain_frame f fed).0
  good f fed =
      let at = placed f fed in
      let id : f.id ≡ length at.front + 1 = at.id in
      let long : length (map bare rows) ≡ length at.front + length (row_of f ∷ at.back) = ap length at.parts ∙ length-append at.front (row_of f ∷ at.back) in
      let same : length (map bare rows) ≡ length rows = length-map rows bare in
      let few : length rows < 2 ^ 63 = primary.few in
      let plain = plain_frame f fed in
      record { some = omega arith; few = omega arith; mark = small (ends_batch batches (pos f.id)) f.mark fed.mark; one = plain.1 }

  -- the frame that is wanted carries the first row behind those of the follower
  record Next (old held : List Row) (f : Frame) : Type 0 where
    back : List Row
    parts : map bare rows ≡ (map bare old ++ held) ++ row_of f ∷ back

  next : (old held : List Row) (f : Frame) → IsBehind rows batches old held → IsFed rows batches f → f.id ≡ length old + length held + 1 → Next old held f
  next old held f behind fed wanted =
      let at = placed f fed in
      let id : f.id ≡ length at.front + 1 = at.id in
      let same : length (map bare old) ≡ length old = length-map old bare in
      let long : length (map bare old ++ held) ≡ length at.front = omega (arith, length-append (map bare old) held) in
      let rest : behind.rest ≡ row_of f ∷ at.back = same_rest (map bare old ++ held) behind.rest at.front (row_of f ∷ at.back) (sym behind.parts ∙ at.parts) long in
      record { back = at.back; parts = behind.parts ∙ ap (λ l. (map bare old ++ held) ++ l) rest }

  on : (stored held : List Row) (row : Row) (back : List Row) → map bare rows ≡ (stored ++ held) ++ row ∷ back → All (λ r. ends_batch batches r.id ≡ false) held
      → joins (last_of held) row ≡ true
  on stored [] row back parts short = refl
  on stored (x ∷ held) row back parts short =
      let last = ends x held in
      let at : map bare rows ≡ (stored ++ last.init) ++ last.last ∷ row ∷ back =
      subst (λ (l : List Row). map bare rows ≡ (stored ++ l) ++ row ∷ back) last.parts parts ∙ sym (regroup stored last.init (row ∷ back) last.last) in
      let there : Contains (x ∷ held) last.last = subst (λ (l : List Row). Contains l last.last) (sym last.parts) (Contains-append_right last.init (last.last ∷ []) last.last (0, omega arith, refl)) in
      let alike = next_alike 1 (map bare rows) batches numbered parted (stored ++ last.init) last.last row back at
      (All-contains (λ r. ends_batch batches r.id ≡ false) (x ∷ held) last.last short there) in
      subst (λ o. joins o row ≡ true) (sym last.is)
      (both_true (int_eq last.last.client row.client) (int_eq last.last.serial row.serial)
      ((Decides-int_eq last.last.client row.client).1 alike.client) ((Decides-int_eq last.last.serial row.serial).1 alike.serial))

  fits : (old held : List Row) (f : Frame) → IsBehind rows batches old held → IsFed rows batches f → f.id ≡ length old + length held + 1 → joins (last_of held) (row_of f) ≡ true
  fits old held f behind fed wanted = let at = next old held f behind fed wanted in on (map bare old) held (row_of f) at.back at.parts behind.short

  let_go : (old : List Row) (count : ℕ) (held : List Row) → IsFollowing rows batches old count held → IsFollowing rows batches old count []
  let_go old count held inv = record {
    behind = record {
      rest = held ++ inv.behind.rest;
      parts = inv.behind.parts ∙ simp (append_assoc, append-nil);
      ended = inv.behind.ended;
      short = All-nil (λ row. ends_batch batches row.id ≡ false);
    };
    size = inv.size;
    last = inv.last;
    client = 0;
    serial = 0;
    records = [];
    held_is = tt;
    plain = All-nil (λ row. IsUncompressed row.bytes);
  }

  -- the held rows with the wanted one, and the records that they are
  record Batch (old : List Row) (count : ℕ) (held : List Row) (f : Frame) : Type 0 where
    back : List Row
    parts : map bare rows ≡ (map bare old ++ (held ++ row_of f ∷ [])) ++ back
    records : List Record
    held_is : AreRowsOf (λ r. Unit {0}) (count + 1) f.client f.serial (held ++ row_of f ∷ []) records
    plain : All (λ row. IsUncompressed row.bytes) (held ++ row_of f ∷ [])
    size : length old + length (held ++ row_of f ∷ []) ≡ f.id

  batch : (old : List Row) (count : ℕ) (held : List Row) (f : Frame) → IsFollowing rows batches old count held → IsFed rows batches f → f.id ≡ count + length held + 1 → Batch old count held f
  batch old count held f inv fed wanted =
      let size : length old ≡ count = inv.size in
      let at = next old held f inv.behind fed (omega arith) in
      let plain = plain_frame f fed in
      let id : f.id ≡ count + 1 + length held = omega arith in
      record {
        back = at.back;
        parts = at.parts ∙ regroup (map bare old) held at.back (row_of f);
        records = inv.records ++ plain.0 ∷ [];
        held_is = held_with (λ r. Unit {0}) (count + 1) inv.client inv.serial held inv.records f plain.0 inv.held_is (fits old held f inv.behind fed (omega arith)) id plain.1 tt;
        plain = All-push (λ row. IsUncompressed row.bytes) held (row_of f) inv.plain plain;
        size = omega (arith, length-append held (row_of f ∷ []));
      }

  holds : (old : List Row) (count : ℕ) (held : List Row) (f : Frame) → IsFollowing rows batches old count held → IsFed rows batches f → f.id ≡ count + length held + 1 → f.mark ≡ 0
      → IsFollowing rows batches old count (held ++ row_of f ∷ [])
  holds old count held f inv fed wanted none =
      let at = batch old count held f inv fed wanted in
      record {
        behind = record {
          rest = at.back;
          parts = at.parts;
          ended = inv.behind.ended;
          short = All-push (λ row. ends_batch batches row.id ≡ false) held (row_of f) inv.behind.short (goes_by (ends_batch batches (pos f.id)) f.mark fed.mark none);
        };
        size = inv.size;
        last = inv.last;
        client = f.client;
        serial = f.serial;
        records = at.records;
        held_is = at.held_is;
        plain = at.plain;
      }

  replays : (old : List Row) (count : ℕ) (held : List Row) (f : Frame) → IsFollowing rows batches old count held → IsFed rows batches f → f.id ≡ count + length held + 1 → f.mark ≡ 1
      → (records : List Record) × Replays origin (old ++ (held ++ row_of f ∷ [])) (Ok records)
  replays old count held f inv fed wanted one =
      let at = batch old count held f inv fed wanted in
      let more : List Row = held ++ row_of f ∷ [] in
      let same : length (map bare old) ≡ length old = length-map old bare in
      let is : length old + length more ≡ f.id = at.size in
      let long : length (map bare old ++ more) ≡ f.id = length-append (map bare old) more ∙ ap (λ n. n + length more) same ∙ is in
      let all : length (map bare rows) ≡ length (map bare old ++ more) + length at.back = ap length at.parts ∙ length-append (map bare old ++ more) at.back in
      let all' : length (map bare rows) ≡ length rows = length-map rows bare in
      let within : f.id ≤ length rows = omega arith in
      let some : 0 < f.id = omega arith in
      let front : take f.id (map bare rows) ≡ map bare old ++ more = ap (λ l. take f.id l) at.parts ∙ take_at (map bare old ++ more) at.back f.id long in
      let seen : map bare (take f.id rows) ≡ map bare (old ++ more) =
      sym (take-map bare f.id rows) ∙ front ∙ ap (λ l. map bare old ++ l) (sym (held_bare (λ r. Unit {0}) (count + 1) f.client f.serial more at.records at.held_is)) ∙ sym (map-append bare old more) in
      let whole = primary.replay f.id some within (ends_by (ends_batch batches (pos f.id)) f.mark fed.mark one) in
      (whole.0, replays_alike origin (take f.id rows) (old ++ more) (Ok whole.0) (bare_alike (take f.id rows) (old ++ more) seen) whole.1)

  stores : (old : List Row) (count : ℕ) (held : List Row) (f : Frame) (moment : ℕ) (records : List Record) (new : List Row) → IsFollowing rows batches old count held → IsFed rows batches f
      → f.id ≡ count + length held + 1 → f.mark ≡ 1 → AreOf (held ++ row_of f ∷ []) records → HasBatch old f.client f.serial moment records new → IsFollowing rows batches new f.id []
  stores old count held f moment records new inv fed wanted one are grown =
      let at = batch old count held f inv fed wanted in
      let more : List Row = held ++ row_of f ∷ [] in
      let same : records ≡ at.records = one_reading more records at.records are (held_of (λ r. Unit {0}) (count + 1) f.client f.serial more at.records at.held_is) in
      let total : length old + length more ≡ f.id = at.size in
      let before : length old ≡ count = inv.size in
      let some : length more ≡ length held + 1 = length-append held (row_of f ∷ []) in
      let many : length more ≡ length at.records = held_length (λ r. Unit {0}) (count + 1) f.client f.serial more at.records at.held_is in
      let from : last_id old +ℤ pos 1 ≡ pos (count + 1) = ap (λ (z : ℤ). z +ℤ pos 1) inv.last ∙ next_id count in
      let new_at : new ≡ old ++ rows_of (pos (count + 1)) f.client f.serial grown.stamp records =
      grown.is ∙ ap (λ (z : ℤ). old ++ rows_of z f.client f.serial grown.stamp records) from in
      let new_is : new ≡ old ++ rows_of (pos (count + 1)) f.client f.serial grown.stamp at.records =
      new_at ∙ ap (λ (l : List Record). old ++ rows_of (pos (count + 1)) f.client f.serial grown.stamp l) same in
      let seen : map bare new ≡ map bare old ++ more =
      ap (λ l. map bare l) new_is ∙ map-append bare old (rows_of (pos (count + 1)) f.client f.serial grown.stamp at.records)
      ∙ ap (λ l. map bare old ++ l) (written_bare (λ r. Unit {0}) (count + 1) f.client f.serial grown.stamp more at.records at.held_is at.plain) in
      let ended : ends_batch batches (pos f.id) ≡ true = ends_by (ends_batch batches (pos f.id)) f.mark fed.mark one in
      let written : length (rows_of (pos (count + 1)) f.client f.serial grown.stamp at.records) ≡ length at.records = length-rows_of (pos (count + 1)) f.client f.serial grown.stamp at.records in
      let whole : length new ≡ length old + length (rows_of (pos (count + 1)) f.client f.serial grown.stamp at.records) =
      ap length new_is ∙ length-append old (rows_of (pos (count + 1)) f.client f.serial grown.stamp at.records) in
      let long : length new ≡ f.id = omega arith in
      let records_some : 0 < length at.records = omega arith in
      let far : count + 1 + length at.records - 1 ≡ f.id = omega arith in
      record {
        behind = record {
          rest = at.back;
          parts = at.parts ∙ ap (λ l. l ++ at.back) (sym seen ∙ sym (append-nil (map bare new)));
          ended = inr (subst (λ (n : ℕ). ends_batch batches (pos n) ≡ true) (sym long) ended);
          short = All-nil (λ row. ends_batch batches row.id ≡ false);
        };
        size = long;
        last = ap last_id new_is ∙ last_behind old (count + 1) f.client f.serial grown.stamp at.records records_some ∙ ap pos far;
        client = 0;
        serial = 0;
        records = [];
        held_is = tt;
        plain = All-nil (λ row. IsUncompressed row.bytes);
      }

  pub moved : (old new : List Row) (count n : ℕ) (held more : List Row) → new ≡ old → n ≡ count → more ≡ held → IsFollowing rows batches old count held → IsFollowing rows batches new n more
  moved old new count n held more e h g inv =
      subst (λ (l : List Row). IsFollowing rows batches l n more) (sym e)
      (subst (λ (k : ℕ). IsFollowing rows batches old k more) (sym h) (subst (λ (l : List Row). IsFollowing rows batches old count l) (sym g) inv))

  module _ (s : State) (f : Frame) (moment : ℕ) (t : State) (old new : List Row) (told : s.told.rows ≡ Some old) (tells : t.told.rows ≡ Some new) (inv : IsFollowing rows batches old s.count s.held) (fed : IsFed rows batches f) where
    wanted_of : f.id ≡ want s → f.id ≡ length old + length s.held + 1
    wanted_of wanted = let size : length old ≡ s.count = inv.size in omega arith

    -- a state with the same rows that are told
    rows_as : (m : State) → t ≡ m → m.told.rows ≡ s.told.rows → new ≡ old
    rows_as m e same = one_old s.told.rows old new told (sym same ∙ sym (same_rows m t e) ∙ tells)

    pub stays : t ≡ s → IsFollowing rows batches new t.count t.held
    stays e = moved old new s.count t.count s.held t.held (rows_as s e refl) (ap (λ (m : State). m.count) e) (ap (λ (m : State). m.held) e) inv

    drops : t ≡ dropped s → IsFollowing rows batches new t.count t.held
    drops e = moved old new s.count t.count [] t.held (rows_as (dropped s) e refl) (ap (λ (m : State). m.count) e) (ap (λ (m : State). m.held) e) (let_go old s.count s.held inv)

    kept : Keeps s.told.rows t.told.rows → new ≡ old
    kept keeps =
        let at = told_before (λ before now. now ≡ before) s.told.rows t.told.rows new tells keeps in
        at.2 ∙ one_old s.told.rows old at.0 told at.1

    refused_here : (row : ℤ) (kind : _) → WouldEnd origin s f (Err (record { row = row; kind = kind })) → Replays origin (old ++ (s.held ++ row_of f ∷ [])) (Err (record { row = row; kind = kind }))
    refused_here row kind would =
        subst (λ (o : Option (List Row)). IfSome o (λ rows. Replays origin (rows ++ (s.held ++ row_of f ∷ [])) (Err (record { row = row; kind = kind })))) told would

    pub keeps : (answer : Result Taken FollowFault) → TakesFrame origin s f moment answer t → IsFollowing rows batches new t.count t.held × IsNoRefusal answer
    keeps (Ok Known) takes = (stays takes.1, tt)
    keeps (Ok (Ahead w got)) takes = (stays takes.3, tt)
    keeps (Ok Held) takes =
        let e = takes.2 in (
          moved old new s.count t.count (s.held ++ row_of f ∷ []) t.held (rows_as (record s { held = s.held ++ row_of f ∷ [] }) e refl) (ap (λ (m : State). m.count) e)
              (ap (λ (m : State). m.held) e) (holds old s.count s.held f inv fed takes.0.wanted takes.1),
          tt,
        )
    keeps (Ok (Stored n)) takes =
        let to = takes.3 in
        let at = told_before (λ before now. HasBatch before f.client f.serial moment to.records now) s.told.rows t.told.rows new tells to.grown in
        let batch' : HasBatch old f.client f.serial moment to.records new = subst (λ (l : List Row). HasBatch l f.client f.serial moment to.records new) (one_old s.told.rows old at.0 told at.1) at.2 in
        (moved new new f.id t.count [] t.held refl to.count to.held (stores old s.count s.held f moment to.records new inv fed takes.0.fits.wanted takes.0.marked to.are batch'), tt)
    keeps (Err BadFrame) takes = absurd takes
    keeps (Err (Mixed row)) takes = let yes = fits old s.held f inv.behind fed (wanted_of takes.0) in let no = takes.1 in absurd cc
    keeps (Err (Refused row kind)) takes =
        let whole = replays old s.count s.held f inv fed takes.0.fits.wanted takes.0.marked in
        let one = replays_one origin (old ++ (s.held ++ row_of f ∷ [])) (Ok whole.0) (Err (record { row = row; kind = kind })) whole.1 (refused_here row kind takes.1) in
        absurd cc
    keeps (Err KeeperFault) takes =
        (moved old new s.count t.count [] t.held (kept takes.2.left.rows) takes.2.left.count takes.2.left.held (let_go old s.count s.held inv), tt)
    keeps (Err OutOfMemory) takes = (moved old new s.count t.count s.held t.held (kept takes.left.rows) takes.left.count takes.left.held inv, tt)
    keeps (Err Read) takes = absurd takes
    keeps (Err (Turns reads)) takes = absurd takes

    pub goes : (answer : Result Taken FollowFault) → TakesFrame origin s f moment answer t → f.id ≡ want s → (Rose s.told.faults t.told.faults → ⊥) → answer ≢ Err OutOfMemory
        → (f.mark ≡ 1 → answer ≡ Ok (Stored f.id)) × (want t ≡ f.id + 1)
    goes (Ok Known) takes wanted still fine = absurd (omega (arith, takes.0))
    goes (Ok (Ahead w got)) takes wanted still fine = absurd (omega (arith, takes.0))
    goes (Ok Held) takes wanted still fine =
        let none : f.mark ≡ 0 = takes.1 in
        let up : want t ≡ s.count + length (s.held ++ row_of f ∷ []) + 1 = ap want takes.2 in
        (λ (one : f.mark ≡ 1). absurd (omega arith), omega (arith, length-append s.held (row_of f ∷ [])))
    goes (Ok (Stored n)) takes wanted still fine =
        let count : t.count ≡ f.id = takes.3.count in
        let none : length t.held ≡ 0 = ap length takes.3.held in
        (λ (one : f.mark ≡ 1). ap (λ k. Ok (Stored k)) takes.2, omega arith)
    goes (Err BadFrame) takes wanted still fine = absurd takes
    goes (Err (Mixed row)) takes wanted still fine = absurd (keeps (Err (Mixed row)) takes).1
    goes (Err (Refused row kind)) takes wanted still fine = absurd (keeps (Err (Refused row kind)) takes).1
    goes (Err KeeperFault) takes wanted still fine = absurd (still takes.2.rose)
    goes (Err OutOfMemory) takes wanted still fine = absurd (fine refl)
    goes (Err Read) takes wanted still fine = absurd takes
    goes (Err (Turns reads)) takes wanted still fine = absurd takes

  -- the frame of a payload of the feed
  framed_back : (payload : List ℕ) (is : IsPayload rows batches payload) → frame_in payload ≡ Some is.frame
  framed_back payload is = ap frame_in is.is ∙ read_back is.frame is.range

  one_frame : (payload : List ℕ) (is : IsPayload rows batches payload) (f : Frame) → frame_in payload ≡ Some f → IsFed rows batches f
  one_frame payload is f e =
      let same : Some is.frame ≡ Some f = sym (framed_back payload is) ∙ e in
      let at : is.frame ≡ f = cc in
      subst (IsFed rows batches) at is.fed

  never_bad : (payload : List ℕ) → IsPayload rows batches payload → IsBad payload → ⊥
  never_bad payload is bad' =
      bad' is.frame (record { is = framed_back payload is; reading = (plain_frame is.frame is.fed).0; row = good is.frame is.fed })

  module _ (s : State) (payload : List ℕ) (moment : ℕ) (answer : Result Taken FollowFault) (t : State) (old new : List Row) (told : s.told.rows ≡ Some old) (tells : t.told.rows ≡ Some new)
      (inv : IsFollowing rows batches old s.count s.held) (fed : IsPayload rows batches payload) where
    without : IsWithout s t → IsFollowing rows batches new t.count t.held
    without left =
        let at = told_before (λ before now. now ≡ before) s.told.rows t.told.rows new tells left.left.rows in
        moved old new s.count t.count s.held t.held (at.2 ∙ one_old s.told.rows old at.0 told at.1) left.left.count left.left.held inv

    pub payload_keeps : Did origin s payload moment answer t → IsFollowing rows batches new t.count t.held × IsNoRefusal answer
    payload_keeps (bad is none same) = absurd (never_bad payload fed none)
    payload_keeps (wanting is left) = (without left, subst IsNoRefusal (sym is) tt)
    payload_keeps (taken h) = keeps s h.frame moment t old new told tells inv (one_frame payload fed h.frame h.carries.is) answer h.takes

    same_frame : (g f : Frame) → frame_in payload ≡ Some g → frame_in payload ≡ Some f → f.mark ≡ 1 → (g.mark ≡ 1 → answer ≡ Ok (Stored g.id)) → answer ≡ Ok (Stored f.id)
    same_frame g f is e one goes' =
        let both : Some g ≡ Some f = sym is ∙ e in
        let same : g ≡ f = cc in
        (subst (λ (x : Frame). x.mark ≡ 1 → answer ≡ Ok (Stored x.id)) same goes') one

    pub payload_goes : Did origin s payload moment answer t → (Rose s.told.faults t.told.faults → ⊥) → answer ≢ Err OutOfMemory
        → ((f : Frame) → frame_in payload ≡ Some f → f.id ≡ want s → f.mark ≡ 1 → answer ≡ Ok (Stored f.id)) × (want t ≡ wanted_after (want s) (frame_in payload))
    payload_goes (bad is none same) still fine = absurd (never_bad payload fed none)
    payload_goes (wanting is left) still fine = absurd (fine is)
    payload_goes (taken h) still fine =
        let at : frame_in payload ≡ Some h.frame = h.carries.is in
        elim (is_or_not h.frame.id (want s)) [
          | inl here ↦
              let on = goes s h.frame moment t old new told tells inv (one_frame payload fed h.frame at) answer h.takes here still fine in
              (λ f e id one. same_frame h.frame f at e one on.0, on.1 ∙ ap (λ n. n + 1) here ∙ sym (after_here (want s) (frame_in payload) h.frame at here))
          | inr other ↦ (
            λ f e id one. let same : Some h.frame ≡ Some f = sym at ∙ e in let both : h.frame ≡ f = cc in absurd (other (ap (λ (x : Frame). x.id) both ∙ id)),
            passes origin s h.frame moment answer t h.takes other ∙ sym (after_other (want s) (frame_in payload) h.frame at other),
          )
        ]

  -- a run whose end is told was told from its start
  runs_told : (s : State) (steps : List Step) (t : State) (new : List Row) → Runs origin s steps t → t.told.rows ≡ Some new → (old : List Row) × (s.told.rows ≡ Some old)
  runs_told s [] t new runs e = (new, sym (same_rows s t runs) ∙ e)
  runs_told s (step ∷ steps) t new runs e =
      let mid = runs_told runs.0 steps t new runs.2 e in
      did_told origin s step.payload step.moment step.answer runs.0 mid.0 (did origin s step.payload step.moment step.answer runs.0 runs.1) mid.1

  pub run_keeps : (s : State) (steps : List Step) (t : State) (old new : List Row) → s.told.rows ≡ Some old → t.told.rows ≡ Some new → IsFollowing rows batches old s.count s.held
      → AreFed rows batches steps → Runs origin s steps t → IsFollowing rows batches new t.count t.held × All (λ step. IsNoRefusal step.answer) steps
  run_keeps s [] t old new told tells inv are runs = (
    moved old new s.count t.count s.held t.held (one_old s.told.rows old new told (sym (same_rows s t runs) ∙ tells)) (ap (λ (m : State). m.count) runs) (ap (λ (m : State). m.held) runs) inv,
    All-nil (λ step. IsNoRefusal step.answer),
  )
  run_keeps s (step ∷ steps) t old new told tells inv are runs =
      let fed = All-head (λ st. IsPayload rows batches st.payload) step steps are in
      let others = All-tail (λ st. IsPayload rows batches st.payload) step steps are in
      let mid = runs_told runs.0 steps t new runs.2 tells in
      let one = payload_keeps s step.payload step.moment step.answer runs.0 old mid.0 told mid.1 inv fed (did origin s step.payload step.moment step.answer runs.0 runs.1) in
      let more = run_keeps runs.0 steps t mid.0 new mid.1 tells one.0 others runs.2 in
      (more.0, All-cons (λ st. IsNoRefusal st.answer) step steps one.1 more.1)

  pub run_goes : (s : State) (steps : List Step) (t : State) (old new : List Row) → s.told.rows ≡ Some old → t.told.rows ≡ Some new → IsFollowing rows batches old s.count s.held
      → AreFed rows batches steps → Runs origin s steps t → (Rose s.told.faults t.told.faults → ⊥) → All IsNoWant steps → StoreWanted (want s) steps
  run_goes s [] t old new told tells inv are runs still fine = tt
  run_goes s (step ∷ steps) t old new told tells inv are runs still fine =
      let fed = All-head (λ st. IsPayload rows batches st.payload) step steps are in
      let others = All-tail (λ st. IsPayload rows batches st.payload) step steps are in
      let well = All-head IsNoWant step steps fine in
      let mid = runs_told runs.0 steps t new runs.2 tells in
      let made = did origin s step.payload step.moment step.answer runs.0 runs.1 in
      let one = payload_keeps s step.payload step.moment step.answer runs.0 old mid.0 told mid.1 inv fed made in
      let first : s.told.faults ≤ runs.0.told.faults = did_grow origin s step.payload step.moment step.answer runs.0 made in
      let rest : runs.0.told.faults ≤ t.told.faults = run_grows origin runs.0 steps t runs.2 in
      let here : Rose s.told.faults runs.0.told.faults → ⊥ = λ rose. still (rose_on s.told.faults s.told.faults runs.0.told.faults t.told.faults (omega arith) rose rest) in
      let there : Rose runs.0.told.faults t.told.faults → ⊥ = λ rose. still (rose_on s.told.faults runs.0.told.faults t.told.faults t.told.faults first rose (omega arith)) in
      let step_on = payload_goes s step.payload step.moment step.answer runs.0 old mid.0 told mid.1 inv fed made here well in
      let others_go = run_goes runs.0 steps t mid.0 new mid.1 tells one.0 others runs.2 there (All-tail IsNoWant step steps fine) in
      (step_on.0, subst (λ (n : ℕ). StoreWanted n steps) step_on.1 others_go)
