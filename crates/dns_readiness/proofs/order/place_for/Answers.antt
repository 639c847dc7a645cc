-- One entry more is looked at.
use Rattle.std.proofs.Common.{◌≡◌, ◌≤◌, ◌<◌, ◌-◌, ℕ, drop, length, suc, subst, sym, take, arith}
use Rattle.std.specs.List.{AllByRecursion}
use Rattle.dns_readiness.proofs.InOrder.{all_from, all_through}
use Rattle.dns_readiness.proofs.order.place_for.Goals as goal

pub returns-then-index-at-clause-before : goal.returns-then-index-at-clause-before
returns-then-index-at-clause-before c =
    let more : suc (c.loop-place.place - 1) ≡ c.loop-place.place = omega (arith, c.loop-place-test.true) in
    let inside : c.loop-place.place - 1 < length c.args.entries.now.items = omega (arith, c.loop-place.invariant.inside, c.loop-place-test.true) in
    subst (λ (n : ℕ). AllByRecursion (λ (e : ℕ × ℕ). e.0 ≤ c.args.at) (take n c.args.entries.now.items)) more
    (all_through c.args.entries.now.items (c.loop-place.place - 1) c.index.result.now c.args.at c.requires inside
    (subst (λ (e : ℕ × ℕ). e.0 ≤ c.args.at) c.index.ensures c.if-index-at.true))

pub loop-place-preserved : goal.loop-place-preserved
loop-place-preserved c =
    let more : suc (c.loop-place.place - 1) ≡ c.loop-place.place = omega (arith, c.loop-place-test.true) in
    let inside : c.loop-place.place - 1 < length c.args.entries.now.items = omega (arith, c.loop-place.invariant.inside, c.loop-place-test.true) in
    let later : c.args.at < c.index.result.now.0 = omega (arith, c.if-index-at.false) in
    record {
      inside = omega (arith, inside);
      behind = all_from (λ e. c.args.at < e.0) c.args.entries.now.items (c.loop-place.place - 1) c.index.result.now inside
          (subst (λ (e : ℕ × ℕ). c.args.at < e.0) c.index.ensures later)
          (subst (λ (n : ℕ). AllByRecursion (λ (e : ℕ × ℕ). c.args.at < e.0) (drop n c.args.entries.now.items)) (sym more) c.loop-place.invariant.behind);
    }
