use Rattle.std.proofs.Common.{◌≡◌, ◌∙◌, ℕ, List, Some, None, sym, subst}
use Rattle.dns_update.specs.Replay.{IsOneRecord, IsReading}
use Rattle.dns_follow.specs.declared.frame.Frame.{Frame}
use Rattle.dns_follow.proofs.carrying.carried.Goals as goal

pub returns-in-None-clause-bad : goal.returns-in-None-clause-bad
returns-in-None-clause-bad c = λ f carries.
    let found : Some c.in-Some.frame ≡ Some f = sym c.in-Some.is ∙ c.in_ok-frame.ensures ∙ carries.is in
    let same : c.in-Some.frame ≡ f = cc in
    let none : IsReading c.in-Some.frame.bytes None =
    subst (λ (bytes : List ℕ). IsReading bytes None) c.as_slice.ensures (subst (IsReading c.as_slice.result.now) c.in-None.is c.in_ok-one.ensures.reading) in
    none carries.reading (subst (λ (g : Frame). IsOneRecord g.bytes carries.reading) (sym same) carries.row.one)
