use Rattle.std.proofs.Common.{◌∙◌, sym, ap, refl, inl, inr, List}
use Rattle.std.proofs.lemmas.Result.{on_ok_weaker}
use Rattle.dns_zone_map.specs.declared.former.FormerSets.{FormerSets}
use Rattle.dns_zone_map.specs.Former.{covers}
use Rattle.dns_zone_map.proofs.former.keep_in.Goals as goal

pub returns-then-is_kept_last-clause-ok : goal.returns-then-is_kept_last-clause-ok
returns-then-is_kept_last-clause-ok c = inr (record { covered = ap (λ (fs : List FormerSets). covers fs c.args.key.now) (sym c.as_slice.ensures.value) ∙ c.is_kept_last.ensures c.if-is_kept_last.true; same = refl; log = refl })

pub returns-clause-ok : goal.returns-clause-ok
returns-clause-ok c = on_ok_weaker c.keep_last.result (λ k. inl k) c.keep_last.ensures.ok
