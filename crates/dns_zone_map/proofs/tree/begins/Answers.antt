use Rattle.std.proofs.Common.{◌≡◌, ◌∙◌, sym, length, take, ap, arith}
use Rattle.std.proofs.lemmas.List.{take_all}
use Rattle.dns_zone_map.proofs.Firsts.{begins_with, begins_otherwise}
use Rattle.dns_zone_map.proofs.tree.begins.Goals as goal

pub returns-then-key-place : goal.returns-then-key-place
returns-then-key-place c = begins_otherwise _ _ _ c.loop-place-test.true c.if-key-place.true

pub returns : goal.returns
returns c =
    let all : c.loop-place.place ≡ length c.args.front.now = omega (arith, c.loop-place.auto.place-end, c.loop-place-test.false) in
    begins_with _ _ (ap (λ n. take n c.args.key.now) (sym all) ∙ c.loop-place.invariant ∙ ap (λ n. take n c.args.front.now) all ∙ take_all _ _ (omega arith))
