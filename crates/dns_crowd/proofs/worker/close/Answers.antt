-- The one that is done is closed, and no other.
use Rattle.std.proofs.Common.{Bool, [], ◌∷◌, cond, subst, sym}
use Rattle.std.specs.Prelude.{OnOk}
use Rattle.dns_io.specs.Told.{Grows}
use Rattle.dns_crowd.proofs.worker.close.Goals as goal

pub returns-clause-closed : goal.returns-clause-closed
returns-clause-closed g c =
    subst (λ (b : Bool). OnOk c.close.result (Grows (g.C.Crowd.told c.args.crowd.now).closed (g.C.Crowd.told c.close.new.self).closed (cond b (c.args.number ∷ []) [])))
    (sym c.if-not-is_done.false) c.close.ensures.told.grows
