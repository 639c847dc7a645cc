use Rattle.std.proofs.Common.{◌≡◌, ◌+◌, ◌≤◌, ◌∷◌, length, sym, ap, ◌∙◌, subst, arith}
use Rattle.dns_zone_map.specs.Zone.{IsSoFar}
use Rattle.dns_presentation.specs.LogicalLines.{logical_lines}
use Rattle.dns_presentation.specs.Entries.{entry_of, first_context}
use Rattle.dns_zone.specs.Contexts.{IsSound}
use Rattle.dns_zone.specs.ZoneText.{records_from, zone_of, context_behind}
use Rattle.dns_zone.proofs.Placing.{IsSoFar-none, IsSound-first, records_step}
use Rattle.dns_name.specs.Name.{IsName}
use Rattle.dns_zone.proofs.zone_text.zone_under.Goals as goal

pub loop-line-init : goal.loop-line-init
loop-line-init c =
    let first : c.new-context.result ≡ first_context c.args.origin = c.new-context.ensures.context ∙ ap first_context c.in_ok-copy.ensures in
    let name : IsName c.args.origin = subst IsName c.in_ok-copy.ensures c.new-context.ensures.name in
    record {
      counted = omega (arith, c.in_ok-line.ensures);
      under = c.in_ok-map.ensures.origin;
      sound = subst IsSound (sym first) (IsSound-first c.args.origin c.requires name);
      so_far = subst (IsSoFar c.in_ok-map.map.origin) (sym c.in_ok-map.ensures.records) (IsSoFar-none c.in_ok-map.map.origin);
      settled = c.in_ok-map.ensures.before;
      left =
          ap (λ next. records_from c.in_ok-map.map.origin c.new-context.result c.in_ok-map.map.records (logical_lines next c.args.text.now)) c.in_ok-line.ensures
          ∙ ap (λ context. records_from c.in_ok-map.map.origin context c.in_ok-map.map.records (logical_lines 1 c.args.text.now)) (first ∙ ap first_context (sym c.in_ok-map.ensures.origin))
          ∙ ap (λ records. records_from c.in_ok-map.map.origin (first_context c.in_ok-map.map.origin) records (logical_lines 1 c.args.text.now)) c.in_ok-map.ensures.records;
    }

pub loop-line-preserved : goal.loop-line-preserved
loop-line-preserved c =
    let line = c.pass.new.self in
    let map = c.loop-line.map in
    let more = c.take_line.new.map in
    let some : logical_lines c.loop-line.line.next c.loop-line.rest.now ≡ line ∷ logical_lines line.next c.in-Some.after.now = rw c.in-Some.is at c.in_ok-after.ensures.some in
    let counted : line.next + length c.in-Some.after.now ≤ c.loop-line.line.next + length c.loop-line.rest.now = rw c.in-Some.is at c.in_ok-after.ensures.counted in
    let context : c.take_line.new.context ≡ context_behind c.loop-line.context (entry_of c.loop-line.context line) = c.in-Ok.ensures.context in
    let origin : more.origin ≡ map.origin = c.take_line.ensures.origin in
    record {
      counted = omega (arith, counted, c.loop-line.invariant.counted);
      under = origin ∙ c.loop-line.invariant.under;
      sound = c.in-Ok.ensures.sound;
      so_far = c.take_line.ensures.so_far;
      settled = c.take_line.ensures.before ∙ c.loop-line.invariant.settled;
      left =
          ap (λ top. records_from top c.take_line.new.context more.records (logical_lines line.next c.in-Some.after.now)) origin
          ∙ ap (λ context. records_from map.origin context more.records (logical_lines line.next c.in-Some.after.now)) context
          ∙ sym (records_step map.origin c.loop-line.context map.records more.records line (logical_lines line.next c.in-Some.after.now) c.in-Ok.ensures.ok)
          ∙ ap (records_from map.origin c.loop-line.context map.records) (sym some)
          ∙ c.loop-line.invariant.left
          ∙ ap (λ top. zone_of top c.args.text.now) (sym origin);
    }
