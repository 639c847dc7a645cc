-- One more may come.
use Rattle.std.proofs.Common.{◌∙◌, List, [], ◌∷◌, None, Option, ℕ, append-nil, map, rules, subst, take}
use Rattle.std.proofs.lemmas.List.{take_all}
use Rattle.dns_server_core.specs.Events.{moment}
use Rattle.dns_crowd.specs.declared.coming.Coming.{Coming}
use Rattle.dns_crowd.specs.Crowds.{AllMayCome, event_by}
use Rattle.dns_crowd.proofs.CameEvents.{all_come, taken_more}
use Rattle.dns_crowd.proofs.coming.may_come.Goals as goal

pub loop-one-init : goal.loop-one-init
loop-one-init c = λ rest h. h

pub loop-one-preserved : goal.loop-one-preserved
loop-one-preserved c =
    λ rest h.
    let one = c.one-item.result in
    subst (λ (l : List Coming). AllMayCome 0 None (map event_by l)) (taken_more c.args.coming.now c.loop-one.one-index one rest (search rules) c.one-item.is)
    (c.loop-one.invariant (one ∷ rest)
    (all_come c.loop-one.last c.loop-one.greatest (event_by one) (map event_by rest) (c.may_follow.ensures c.if-not-may_follow.false)
    (subst (λ (o : Option ℕ). AllMayCome (moment (event_by one)) o (map event_by rest)) c.greatest_behind-greatest.ensures
    (subst (λ (m : ℕ). AllMayCome m c.greatest_behind-greatest.result (map event_by rest)) c.moment-last.ensures h))))

pub returns : goal.returns
returns c =
    λ _. subst (λ (l : List Coming). AllMayCome 0 None (map event_by l))
    (append-nil (take c.loop-one.one-index c.args.coming.now) ∙ take_all c.loop-one.one-index c.args.coming.now (search rules))
    (c.loop-one.invariant [] (record { fit = tt; moments = tt; numbers = tt }))
