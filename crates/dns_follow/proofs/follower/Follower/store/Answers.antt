use Rattle.std.proofs.Common.{◌≡◌, ◌∙◌, [], ◌∷◌, ◌++◌, List, Option, Result, Ok, Err, ap, sym, subst}
use Rattle.dns_wire.specs.declared.record.Record.{Record}
use Rattle.dns_wire.specs.WireFormat.{AreShort}
use Rattle.dns_keeper.specs.declared.row.Row.{Row}
use Rattle.dns_keeper.specs.declared.keeper.KeepFault.{KeepFault}
use Rattle.dns_keeper.specs.Calls.{Appends}
use Rattle.dns_zone_map.specs.Zone.{Contents}
use Rattle.dns_follow.specs.declared.answer.Taken.{Taken}
use Rattle.dns_follow.specs.declared.answer.FollowFault.{FollowFault}
use Rattle.dns_follow.specs.Feed.{row_of}
use Rattle.dns_follow.specs.Following.{Fits, State, TakesFrame}
use Rattle.dns_follow.specs.Seen.{SeenOf, state_of}
use Rattle.dns_follow.specs.Growing.{next_of, EndBehind}
use Rattle.dns_follow.specs.Leaving.{LeavesFrame}
use Rattle.dns_follow.specs.BatchEnds.{stored_as, refused_as, LeavesHeld}
use Rattle.dns_follow.proofs.Sound.{GoesOn, short_now}
use Rattle.dns_follow.proofs.BatchEnded.{unchanged_on_err, ended_sound, ended_takes, ended_leaves, refusal_sound}
use Rattle.dns_follow.proofs.follower.Follower.store.Goals as goal

pub append_batch-zone-requires-clause-short : goal.append_batch-zone-requires-clause-short
append_batch-zone-requires-clause-short g c =
    let in_ = c.self.inside in
    let keeper = g.K.Keeper.keeper in
    let view : SeenOf g.row.K.Denot = record { keeper = in_.keeper; origin = in_.origin; zone = in_.zone; count = in_.count; held = in_.held.items } in
    let fits : Fits (state_of keeper view) c.args.frame = subst (λ (v : SeenOf g.row.K.Denot). Fits (state_of keeper v) c.args.frame) (sym c.self.view_is) c.requires.fits in
    let goes : GoesOn in_.count in_.held.items c.args.frame c.args.one = record { row = c.requires.row; good = c.requires.good; wanted = fits.wanted; on = fits.on } in
    subst AreShort (sym c.in-Ok.ensures.records) (short_now in_.origin in_.zone in_.count in_.held.items in_.records.items c.args.frame c.args.one (keeper.told in_.keeper) c.self.invariant goes)

pub invariant_of-self-in-Ok-make_ready : goal.invariant_of-self-in-Ok-make_ready
invariant_of-self-in-Ok-make_ready g c =
    let in_ = c.self.inside in
    let keeper = g.K.Keeper.keeper in
    let view : SeenOf g.row.K.Denot = record { keeper = in_.keeper; origin = in_.origin; zone = in_.zone; count = in_.count; held = in_.held.items } in
    let fits : Fits (state_of keeper view) c.args.frame = subst (λ (v : SeenOf g.row.K.Denot). Fits (state_of keeper v) c.args.frame) (sym c.self.view_is) c.requires.fits in
    let goes : GoesOn in_.count in_.held.items c.args.frame c.args.one = record { row = c.requires.row; good = c.requires.good; wanted = fits.wanted; on = fits.on } in
    let held : c.push_row.new.held.items ≡ in_.held.items ++ row_of c.args.frame ∷ [] = c.in-Ok.ensures.held ∙ ap (λ (x : Row). in_.held.items ++ x ∷ []) c.row_of-row.ensures in
    let records : c.push_row.new.records.items ≡ in_.records.items ++ c.args.one ∷ [] = c.in-Ok.ensures.records in
    let next : Contents = next_of c.in-Ok-make_ready.ready in
    let ends : EndBehind in_.origin in_.zone in_.count (in_.held.items ++ row_of c.args.frame ∷ []) (Ok next.records) =
    subst (λ (l : List Row). EndBehind in_.origin in_.zone in_.count l (Ok next.records)) held
    (subst (λ (z : Option Contents). EndBehind in_.origin z in_.count c.push_row.new.held.items (Ok next.records)) c.replace-zone.ensures.value c.in-Ok-make_ready.ensures.stands) in
    let done : Result (Unit {0}) KeepFault = c.append_batch-zone.result.1 in
    let appends : Appends keeper in_.keeper c.append_batch-zone.new.keeper c.args.frame.client c.args.frame.serial c.args.moment (in_.records.items ++ c.args.one ∷ []) done =
    subst (λ (l : List Record). Appends keeper in_.keeper c.append_batch-zone.new.keeper c.args.frame.client c.args.frame.serial c.args.moment l done) records c.append_batch-zone.ensures.appended in
    let left : LeavesHeld (stored_as c.args.frame.id done) (in_.held.items ++ row_of c.args.frame ∷ []) c.end_batch.new.held.items =
    subst (λ (l : List Row). LeavesHeld (stored_as c.args.frame.id done) l c.end_batch.new.held.items) held c.end_batch.ensures.held in
    let left_records : LeavesHeld (stored_as c.args.frame.id done) (in_.records.items ++ c.args.one ∷ []) c.end_batch.new.records.items =
    subst (λ (l : List Record). LeavesHeld (stored_as c.args.frame.id done) l c.end_batch.new.records.items) (c.append_batch-zone.ensures.same ∙ records) c.end_batch.ensures.records in
    ended_sound keeper in_.keeper in_.origin in_.zone in_.count in_.held.items in_.records.items c.args.frame c.args.one c.args.moment c.self.invariant goes c.requires.mark c.append_batch-zone.new.keeper next ends done appends c.in-Ok-make_ready.ensures.named c.append_batch-zone.result.0 c.end_batch.new.count c.end_batch.new.held.items
    c.end_batch.new.records.items c.append_batch-zone.ensures.kept (unchanged_on_err done _ _ _ c.append_batch-zone.ensures.undone (c.in-Ok-make_ready.ensures.before ∙ c.replace-zone.ensures.value))
    c.end_batch.ensures.counted c.end_batch.ensures.uncounted left left_records

pub returns-in-Ok-make_ready-clause-takes : goal.returns-in-Ok-make_ready-clause-takes
returns-in-Ok-make_ready-clause-takes g c =
    let in_ = c.self.inside in
    let keeper = g.K.Keeper.keeper in
    let view : SeenOf g.row.K.Denot = record { keeper = in_.keeper; origin = in_.origin; zone = in_.zone; count = in_.count; held = in_.held.items } in
    let fits : Fits (state_of keeper view) c.args.frame = subst (λ (v : SeenOf g.row.K.Denot). Fits (state_of keeper v) c.args.frame) (sym c.self.view_is) c.requires.fits in
    let goes : GoesOn in_.count in_.held.items c.args.frame c.args.one = record { row = c.requires.row; good = c.requires.good; wanted = fits.wanted; on = fits.on } in
    let held : c.push_row.new.held.items ≡ in_.held.items ++ row_of c.args.frame ∷ [] = c.in-Ok.ensures.held ∙ ap (λ (x : Row). in_.held.items ++ x ∷ []) c.row_of-row.ensures in
    let records : c.push_row.new.records.items ≡ in_.records.items ++ c.args.one ∷ [] = c.in-Ok.ensures.records in
    let next : Contents = next_of c.in-Ok-make_ready.ready in
    let ends : EndBehind in_.origin in_.zone in_.count (in_.held.items ++ row_of c.args.frame ∷ []) (Ok next.records) =
    subst (λ (l : List Row). EndBehind in_.origin in_.zone in_.count l (Ok next.records)) held
    (subst (λ (z : Option Contents). EndBehind in_.origin z in_.count c.push_row.new.held.items (Ok next.records)) c.replace-zone.ensures.value c.in-Ok-make_ready.ensures.stands) in
    let done : Result (Unit {0}) KeepFault = c.append_batch-zone.result.1 in
    let appends : Appends keeper in_.keeper c.append_batch-zone.new.keeper c.args.frame.client c.args.frame.serial c.args.moment (in_.records.items ++ c.args.one ∷ []) done =
    subst (λ (l : List Record). Appends keeper in_.keeper c.append_batch-zone.new.keeper c.args.frame.client c.args.frame.serial c.args.moment l done) records c.append_batch-zone.ensures.appended in
    let left : LeavesHeld (stored_as c.args.frame.id done) (in_.held.items ++ row_of c.args.frame ∷ []) c.end_batch.new.held.items =
    subst (λ (l : List Row). LeavesHeld (stored_as c.args.frame.id done) l c.end_batch.new.held.items) held c.end_batch.ensures.held in
    let after : State = record { count = c.end_batch.new.count; told = keeper.told c.append_batch-zone.new.keeper; held = c.end_batch.new.held.items } in
    subst (λ (v : SeenOf g.row.K.Denot). TakesFrame v.origin (state_of keeper v) c.args.frame c.args.moment c.end_batch.result after) c.self.view_is
    (subst (λ (x : Result Taken FollowFault). TakesFrame in_.origin (state_of keeper view) c.args.frame c.args.moment x after) (sym c.end_batch.ensures.answer)
    (ended_takes keeper in_.keeper in_.origin in_.zone in_.count in_.held.items in_.records.items c.args.frame c.args.one c.args.moment c.self.invariant goes c.requires.mark c.append_batch-zone.new.keeper next ends done appends c.end_batch.new.count c.end_batch.new.held.items
    c.end_batch.ensures.counted c.end_batch.ensures.uncounted left))

pub returns-in-Ok-make_ready-clause-left : goal.returns-in-Ok-make_ready-clause-left
returns-in-Ok-make_ready-clause-left g c =
    let in_ = c.self.inside in
    let keeper = g.K.Keeper.keeper in
    let view : SeenOf g.row.K.Denot = record { keeper = in_.keeper; origin = in_.origin; zone = in_.zone; count = in_.count; held = in_.held.items } in
    let fits : Fits (state_of keeper view) c.args.frame = subst (λ (v : SeenOf g.row.K.Denot). Fits (state_of keeper v) c.args.frame) (sym c.self.view_is) c.requires.fits in
    let goes : GoesOn in_.count in_.held.items c.args.frame c.args.one = record { row = c.requires.row; good = c.requires.good; wanted = fits.wanted; on = fits.on } in
    let held : c.push_row.new.held.items ≡ in_.held.items ++ row_of c.args.frame ∷ [] = c.in-Ok.ensures.held ∙ ap (λ (x : Row). in_.held.items ++ x ∷ []) c.row_of-row.ensures in
    let records : c.push_row.new.records.items ≡ in_.records.items ++ c.args.one ∷ [] = c.in-Ok.ensures.records in
    let next : Contents = next_of c.in-Ok-make_ready.ready in
    let ends : EndBehind in_.origin in_.zone in_.count (in_.held.items ++ row_of c.args.frame ∷ []) (Ok next.records) =
    subst (λ (l : List Row). EndBehind in_.origin in_.zone in_.count l (Ok next.records)) held
    (subst (λ (z : Option Contents). EndBehind in_.origin z in_.count c.push_row.new.held.items (Ok next.records)) c.replace-zone.ensures.value c.in-Ok-make_ready.ensures.stands) in
    let done : Result (Unit {0}) KeepFault = c.append_batch-zone.result.1 in
    let appends : Appends keeper in_.keeper c.append_batch-zone.new.keeper c.args.frame.client c.args.frame.serial c.args.moment (in_.records.items ++ c.args.one ∷ []) done =
    subst (λ (l : List Record). Appends keeper in_.keeper c.append_batch-zone.new.keeper c.args.frame.client c.args.frame.serial c.args.moment l done) records c.append_batch-zone.ensures.appended in
    let left : LeavesHeld (stored_as c.args.frame.id done) (in_.held.items ++ row_of c.args.frame ∷ []) c.end_batch.new.held.items =
    subst (λ (l : List Row). LeavesHeld (stored_as c.args.frame.id done) l c.end_batch.new.held.items) held c.end_batch.ensures.held in
    let after : SeenOf g.row.K.Denot = record { keeper = c.append_batch-zone.new.keeper; origin = in_.origin; zone = c.append_batch-zone.result.0; count = c.end_batch.new.count; held = c.end_batch.new.held.items } in
    subst (λ (v : SeenOf g.row.K.Denot). LeavesFrame keeper v c.args.frame c.args.moment after c.end_batch.result) c.self.view_is
    (subst (λ (x : Result Taken FollowFault). LeavesFrame keeper view c.args.frame c.args.moment after x) (sym c.end_batch.ensures.answer)
    (ended_leaves keeper in_.keeper in_.origin in_.zone in_.count in_.held.items in_.records.items c.args.frame c.args.one c.args.moment c.self.invariant goes c.requires.mark c.append_batch-zone.new.keeper next ends done appends c.append_batch-zone.result.0 c.end_batch.new.count c.end_batch.new.held.items))

pub invariant_of-self-in-Err-make_ready : goal.invariant_of-self-in-Err-make_ready
invariant_of-self-in-Err-make_ready g c =
    let in_ = c.self.inside in
    let keeper = g.K.Keeper.keeper in
    let view : SeenOf g.row.K.Denot = record { keeper = in_.keeper; origin = in_.origin; zone = in_.zone; count = in_.count; held = in_.held.items } in
    let fits : Fits (state_of keeper view) c.args.frame = subst (λ (v : SeenOf g.row.K.Denot). Fits (state_of keeper v) c.args.frame) (sym c.self.view_is) c.requires.fits in
    let goes : GoesOn in_.count in_.held.items c.args.frame c.args.one = record { row = c.requires.row; good = c.requires.good; wanted = fits.wanted; on = fits.on } in
    let held : c.push_row.new.held.items ≡ in_.held.items ++ row_of c.args.frame ∷ [] = c.in-Ok.ensures.held ∙ ap (λ (x : Row). in_.held.items ++ x ∷ []) c.row_of-row.ensures in
    let records : c.push_row.new.records.items ≡ in_.records.items ++ c.args.one ∷ [] = c.in-Ok.ensures.records in
    let left : LeavesHeld (Err (refused_as c.in-Err-make_ready.field-0.fault)) (in_.held.items ++ row_of c.args.frame ∷ []) c.refuse_batch.new.held.items =
    subst (λ (l : List Row). LeavesHeld (Err (refused_as c.in-Err-make_ready.field-0.fault)) l c.refuse_batch.new.held.items) held c.refuse_batch.ensures.held in
    let left_records : LeavesHeld (Err (refused_as c.in-Err-make_ready.field-0.fault)) (in_.records.items ++ c.args.one ∷ []) c.refuse_batch.new.records.items =
    subst (λ (l : List Record). LeavesHeld (Err (refused_as c.in-Err-make_ready.field-0.fault)) l c.refuse_batch.new.records.items) records c.refuse_batch.ensures.records in
    refusal_sound keeper in_.keeper in_.origin in_.zone in_.count in_.held.items in_.records.items c.args.frame c.args.one c.args.moment c.self.invariant goes c.requires.mark c.in-Err-make_ready.field-0.fault c.in-Err-make_ready.field-0.zone c.refuse_batch.new.held.items c.refuse_batch.new.records.items (c.in-Err-make_ready.ensures.back ∙ c.replace-zone.ensures.value) left left_records
