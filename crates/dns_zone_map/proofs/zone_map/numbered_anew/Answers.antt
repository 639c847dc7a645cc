use Rattle.std.proofs.Common.{◌≡◌, ◌∙◌, ◌++◌, ap, sym, subst, List, ℕ}
use Rattle.dns_wire.specs.declared.record.Record.{Record}
use Rattle.dns_zone_map.specs.Zone.{IsEntry, IsSoFar}
use Rattle.dns_zone_map.proofs.Anew.{next_end, next_entry, none_so_far}
use Rattle.dns_zone_map.proofs.zone_map.numbered_anew.Goals as goal

pub loop-one-init : goal.loop-one-init
loop-one-init c =
    let given : c.into_iter-one-iterator.result.rest.items ≡ c.args.records = c.into_iter-one-iterator.ensures.into_iter_gives.0 ∙ c.into_vec-one-items.ensures in
    let rest : c.in_ok-anew.anew.records ++ c.into_iter-one-iterator.result.rest.items ≡ c.args.records = ap (λ (rs : List Record). rs ++ c.into_iter-one-iterator.result.rest.items) c.in_ok-anew.ensures.records ∙ given in
    record {
      top = c.in_ok-anew.ensures.origin ∙ c.in_ok-copy.ensures;
      some = subst (IsSoFar c.in_ok-anew.anew.origin) (sym c.in_ok-anew.ensures.records) (none_so_far c.in_ok-anew.anew.origin);
      all = subst (IsSoFar c.args.origin.now) (sym rest) c.requires;
      alone = c.in_ok-anew.ensures.before;
      rest = rest;
    }

pub loop-one-preserved : goal.loop-one-preserved
loop-one-preserved c =
    let was = c.loop-one.invariant in
    let all = subst (λ (rs : List Record). IsSoFar c.args.origin.now (c.loop-one.anew.records ++ rs)) c.in-Some.ensures.steps.0 was.all in
    let rest : c.put_again.new.self.records ++ c.next.new.self.rest.items ≡ c.args.records =
    ap (λ (rs : List Record). rs ++ c.next.new.self.rest.items) c.in_ok-put_again.ensures.records ∙ next_end c.args.origin.now c.loop-one.anew.records c.next.new.self.rest.items c.in-Some.one all
    ∙ ap (λ (rs : List Record). c.loop-one.anew.records ++ rs) (sym c.in-Some.ensures.steps.0) ∙ was.rest in
    record {
      top = c.in_ok-put_again.ensures.origin ∙ was.top;
      some = c.in_ok-put_again.ensures.so_far;
      all = subst (IsSoFar c.args.origin.now) (sym rest) c.requires;
      alone = c.in_ok-put_again.ensures.before ∙ was.alone;
      rest = rest;
    }

pub put_again-requires-clause-entry : goal.put_again-requires-clause-entry
put_again-requires-clause-entry c =
    let was = c.loop-one.invariant in
    let all = subst (λ (rs : List Record). IsSoFar c.args.origin.now (c.loop-one.anew.records ++ rs)) c.in-Some.ensures.steps.0 was.all in
    subst (λ (o : List (List ℕ)). IsEntry o c.in-Some.one) (sym was.top) (next_entry c.args.origin.now c.loop-one.anew.records c.next.new.self.rest.items c.in-Some.one all)
