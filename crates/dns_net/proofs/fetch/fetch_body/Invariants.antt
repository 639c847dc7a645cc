use Rattle.std.proofs.Common.{◌≡◌, ◌≤◌, ◌-◌, length}
use Rattle.dns_io.specs.Told.{Told, Takes}
use Rattle.dns_net.specs.Bodies.{AsksNext, ReadsUpTo}
use Rattle.dns_net.proofs.Fetching.{TakesBytes}
use Rattle.dns_net.proofs.fetch.fetch_body.Given as goal

abbrev pub invariant-loop-body : goal.invariant-loop-body
invariant-loop-body g l =
    Told (TakesBytes l.body) (g.P.BodyPieces.told l.fn.stream).left (g.P.BodyPieces.told l.stream).left
    × (length l.body ≤ 65535)
    × Takes (g.P.BodyPieces.told l.fn.stream).left_bytes (g.P.BodyPieces.told l.stream).left_bytes l.body
    × ((g.P.BodyPieces.told l.stream).faults ≡ (g.P.BodyPieces.told l.fn.stream).faults)
    × ReadsUpTo (AsksNext g.P.BodyPieces.told) l.fn.stream l.body l.stream

abbrev pub decreases-loop-body : goal.decreases-loop-body
decreases-loop-body g l = 65535 - length l.body
