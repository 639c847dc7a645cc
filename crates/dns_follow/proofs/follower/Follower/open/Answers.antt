use Rattle.std.proofs.Common.{sym, subst}
use Rattle.dns_follow.specs.declared.open_fault.FollowOpenKind.{FollowOpenKind}
use Rattle.dns_follow.specs.Opening.{IsNotOpened}
use Rattle.dns_follow.proofs.NotOpened.{not_opened}
use Rattle.dns_follow.proofs.follower.Follower.open.Goals as goal

pub returns-in-Err-clause-err : goal.returns-in-Err-clause-err
returns-in-Err-clause-err g c =
    let told = g.K.Keeper.keeper.told in
    let was = c.in-Err.field-0 in
    subst (λ (k : FollowOpenKind). IsNotOpened (told c.args.keeper) (told was.keeper) c.args.origin k) (sym c.follow_kind.ensures)
    (not_opened (told c.args.keeper) (told was.keeper) c.args.origin was.kind c.in-Err.ensures.err)
