use Rattle.std.proofs.Common.{rules, ◌<◌, length, ◌∙◌}
use Rattle.dns_connections.specs.Links.{patience_of}
use Rattle.dns_connections.proofs.Stepping.{moved_then, quiet_then, swept, swept_size}
use Rattle.dns_connections.proofs.crowd.Crowd.close_over.Goals as goal

pub loop-place-preserved : goal.loop-place-preserved
loop-place-preserved g c =
    let inside : c.loop-place.place < length c.loop-place.self.links = search rules in
    record {
      moved = moved_then c.args.self.now c.loop-place.self c.close_if_over.new.self c.loop-place.invariant.moved c.close_if_over.ensures.moved;
      quiet = quiet_then c.args.self.now c.loop-place.self c.close_if_over.new.self c.loop-place.invariant.quiet c.close_if_over.ensures.quiet;
      clocks = c.close_if_over.ensures.clocks ∙ c.loop-place.invariant.clocks;
      size = swept_size c.args.self.now c.loop-place.self c.close_if_over.new.self c.loop-place.place (patience_of c.loop-place.self.limit) c.loop-place.self.clocks.ticks c.loop-place.invariant.size c.close_if_over.ensures.over;
      none = swept c.args.self.now c.loop-place.self c.close_if_over.new.self c.loop-place.place c.loop-place.invariant.moved c.loop-place.invariant.clocks c.loop-place.invariant.size c.loop-place.invariant.none inside c.close_if_over.ensures.over;
    }
