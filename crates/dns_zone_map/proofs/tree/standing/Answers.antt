use Rattle.std.proofs.Common.{arith}
use Rattle.dns_zone_map.proofs.KeyOrder.{stands_among, stands_greater, stands_less, stands_on, stands_short}
use Rattle.dns_zone_map.proofs.tree.standing.Goals.{then-place-key-via-then-place-key, then-place-key-via-else-place-key+then-key-place}
use Rattle.dns_zone_map.proofs.tree.standing.Goals as goal

pub returns-then-place-key : goal.returns-then-place-key
returns-then-place-key c =
    elim c.then-place-key.branch [
      | then-place-key-via-then-place-key w ↦ stands_short c.args.key.now c.args.front.now c.loop-place.place c.loop-place.invariant (omega (arith, w.if-place-key.true)) (omega (arith, c.loop-place-test.true))
      | then-place-key-via-else-place-key+then-key-place w ↦
          stands_less c.args.key.now c.args.front.now c.loop-place.place c.loop-place.invariant (omega (arith, w.if-place-key.false)) (omega (arith, c.loop-place-test.true)) (omega (arith, w.if-key-place.true))
    ]

pub returns-then-key-place-2 : goal.returns-then-key-place-2
returns-then-key-place-2 c =
    stands_greater c.args.key.now c.args.front.now c.loop-place.place c.loop-place.invariant (omega (arith, c.if-place-key.false)) (omega (arith, c.loop-place-test.true)) (omega (arith, c.if-key-place-2.true))

pub loop-place-preserved : goal.loop-place-preserved
loop-place-preserved c =
    stands_on c.args.key.now c.args.front.now c.loop-place.place c.loop-place.invariant (omega (arith, c.if-place-key.false)) (omega (arith, c.loop-place-test.true))
    (λ less. omega (arith, less, c.if-key-place.false)) (λ greater. omega (arith, greater, c.if-key-place-2.false))

pub returns : goal.returns
returns c = stands_among c.args.key.now c.args.front.now c.loop-place.place c.loop-place.invariant (omega (arith, c.loop-place-test.false))
