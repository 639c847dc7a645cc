use Rattle.std.proofs.Common.{sym, subst}
use Rattle.dns_follow.specs.Following.{Fits}
use Rattle.dns_follow.specs.Seen.{SeenOf, state_of}
use Rattle.dns_follow.proofs.Sound.{GoesOn}
use Rattle.dns_follow.proofs.Pushed.{pushed_sound}
use Rattle.dns_follow.proofs.follower.Follower.hold.Goals as goal

pub invariant_of-self : goal.invariant_of-self
invariant_of-self g c =
    let in_ = c.self.inside in
    let fits : Fits (state_of g.K.Keeper.keeper (record { keeper = in_.keeper; origin = in_.origin; zone = in_.zone; count = in_.count; held = in_.held.items })) c.args.frame =
    subst (λ (v : SeenOf g.row.K.Denot). Fits (state_of g.K.Keeper.keeper v) c.args.frame) (sym c.self.view_is) c.requires.fits in
    let goes : GoesOn in_.count in_.held.items c.args.frame c.args.one = record { row = c.requires.row; good = c.requires.good; wanted = fits.wanted; on = fits.on } in
    pushed_sound in_.origin in_.zone in_.count in_.held.items c.push_row.new.held.items in_.records.items c.push_row.new.records.items c.args.frame c.args.one
    (g.K.Keeper.keeper.told in_.keeper) c.push_row.result c.row_of-row.result c.self.invariant goes c.row_of-row.ensures c.push_row.ensures.held c.push_row.ensures.records
    c.push_row.ensures.same_held c.push_row.ensures.same_records
