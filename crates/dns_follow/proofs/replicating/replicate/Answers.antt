use Rattle.std.proofs.Common.{subst, Some, sym, ap, ◌∙◌, map, string_bytes}
use Rattle.dns_follow.proofs.Endings.{tells_feed, tells_usage, tells_wanting}
use Rattle.std.specs.Prelude.{Option, IfSome}
use Rattle.dns_follow.specs.declared.commands.Command.{Command}
use Rattle.dns_follow.specs.Commands.{HasFrom}
use Rattle.dns_follow.proofs.replicating.replicate.Goals as goal

pub print_feed-status-requires : goal.print_feed-status-requires
print_feed-status-requires g c = record {
  from = subst HasFrom c.in-Ok-Some-Feed.field-0-0-is (subst (λ (f : Option Command). IfSome f HasFrom) c.in-Ok-Some-Feed.field-0-is c.in-Ok-Some-Feed.ensures.some);
}

pub returns-in-Ok-Some-Feed : goal.returns-in-Ok-Some-Feed
returns-in-Ok-Some-Feed g c =
    let asked = rw c.as_slice.ensures.value at (sym c.in-Ok-Some-Feed.ensures.is ∙ c.in-Ok-Some-Feed.field-0-is ∙ ap Some c.in-Ok-Some-Feed.field-0-0-is) in
    tells_feed g.K.Keeper.keeper g.R.Source.source g.C.Clock.clock g.W.Sink.sink (map string_bytes c.args.words.now.items) _ c.in-Ok-Some-Feed.from
    c.args.keeper c.print_feed-status.new.keeper c.args.input.now c.args.clock.now c.args.out.now c.print_feed-status.new.out c.print_feed-status.result asked
    c.print_feed-status.ensures.ends c.print_feed-status.ensures.reads

pub returns-in-Ok-Some-Follow : goal.returns-in-Ok-Some-Follow
returns-in-Ok-Some-Follow g c =
    let asked = rw c.as_slice.ensures.value at (sym c.in-Ok-Some-Follow.ensures.is ∙ c.in-Ok-Some-Follow.field-0-is ∙ ap Some c.in-Ok-Some-Follow.field-0-0-is) in
    c.follow_input.ensures (map string_bytes c.args.words.now.items) asked

pub returns-in-Ok-None : goal.returns-in-Ok-None
returns-in-Ok-None g c =
    let none = rw c.as_slice.ensures.value at (sym c.in-Ok-None.ensures.is ∙ c.in-Ok-None.field-0-is) in
    tells_usage g.K.Keeper.keeper g.R.Source.source g.C.Clock.clock g.W.Sink.sink (map string_bytes c.args.words.now.items) c.args.keeper c.args.input.now
    c.args.clock.now c.args.out.now c.refuse.new.out c.refuse.result none c.refuse.ensures.ends

pub returns : goal.returns
returns g c =
    tells_wanting g.K.Keeper.keeper g.R.Source.source g.C.Clock.clock g.W.Sink.sink (map string_bytes c.args.words.now.items) c.args.keeper c.args.input.now
    c.args.clock.now c.args.out.now
