use Rattle.std.proofs.Common.{◌≡◌, ◌<◌, ◌∙◌, sym, ap, subst, arith, [], refl, drop, true}
use Rattle.std.specs.Prelude.{is_some, ◌&&◌, ◌==◌}
use Rattle.std.proofs.lemmas.Bool.Decides.{Decides-eqb}
use Rattle.dns_zone_map.specs.Presence.{IsPresence}
use Rattle.dns_zone_map.specs.Sets.{AreSetsOf, records_or_none}
use Rattle.dns_zone_map.proofs.Owned.{set_is}
use Rattle.dns_zone.specs.Descent.{along}
use Rattle.dns_zone.proofs.Owned.{sets_exist}
use Rattle.dns_zone.proofs.Descending.{IsStepped, stepped, gone_here, above_here, cut_here, name_here, ds_here, and-first, and-second}
use Rattle.dns_zone.proofs.descent.step.Goals as goal

pub returns-in-Absent-clause-end : goal.returns-in-Absent-clause-end
returns-in-Absent-clause-end c =
    let s : IsStepped c.down.new.self = stepped c.args.walk.now c.down.new.self c.down.ensures.way c.requires.within c.requires.labels c.requires.below c.requires.above in
    let met = subst (IsPresence c.down.new.self.records (drop c.down.new.self.left c.down.new.self.name)) c.in-Absent.is c.in_ok-down.ensures.met in
    gone_here (along c.down.new.self) c.down.new.self.name c.args.rtype c.down.new.self.left s.within s.more s.above met

pub returns-then-left-gt0-clause-end : goal.returns-then-left-gt0-clause-end
returns-then-left-gt0-clause-end c =
    let s : IsStepped c.down.new.self = stepped c.args.walk.now c.down.new.self c.down.ensures.way c.requires.within c.requires.labels c.requires.below c.requires.above in
    let met = subst (IsPresence c.down.new.self.records (drop c.down.new.self.left c.down.new.self.name)) c.in-Empty.is c.in_ok-down.ensures.met in
    let left : 0 < c.down.new.self.left = omega (arith, c.left.ensures, c.if-left-gt0.true) in (left, above_here (along c.down.new.self) c.down.new.self.name c.args.rtype c.down.new.self.left s.within s.more s.above [] met.0 met.1 refl)

pub returns-else-left-gt0-clause-end : goal.returns-else-left-gt0-clause-end
returns-else-left-gt0-clause-end c =
    let s : IsStepped c.down.new.self = stepped c.args.walk.now c.down.new.self c.down.ensures.way c.requires.within c.requires.labels c.requires.below c.requires.above in
    let met = subst (IsPresence c.down.new.self.records (drop c.down.new.self.left c.down.new.self.name)) c.in-Empty.is c.in_ok-down.ensures.met in
    let last : c.down.new.self.left ≡ 0 = omega (arith, c.left.ensures, c.if-left-gt0.false) in (name_here (along c.down.new.self) c.down.new.self.name c.args.rtype c.down.new.self.left s.within s.more s.above last [] met.0 met.1 refl, subst (λ n. AreSetsOf c.down.new.self.records (drop n c.down.new.self.name) []) last met.0)

pub returns-then-is_above_cut-clause-end : goal.returns-then-is_above_cut-clause-end
returns-then-is_above_cut-clause-end c =
    let s : IsStepped c.down.new.self = stepped c.args.walk.now c.down.new.self c.down.ensures.way c.requires.within c.requires.labels c.requires.below c.requires.above in
    let met = subst (IsPresence c.down.new.self.records (drop c.down.new.self.left c.down.new.self.name)) c.in-Owner.is c.in_ok-down.ensures.met in
    let both = sym c.is_above_cut.ensures ∙ c.if-is_above_cut.true in
    let last : c.down.new.self.left ≡ 0 = sym c.left-in-Owner.ensures ∙ (Decides-eqb c.left-in-Owner.result 0).0 (and-first (c.left-in-Owner.result == 0) (c.args.rtype == 43) both) in
    (ds_here (along c.down.new.self) c.down.new.self.name c.args.rtype c.down.new.self.left s.within s.more s.above last (sets_exist c.down.new.self.records (drop c.down.new.self.left c.down.new.self.name) c.in-Owner.sets.now met.0 met.1) (and-second (c.left-in-Owner.result == 0) (c.args.rtype == 43) both), subst (λ n. AreSetsOf c.down.new.self.records (drop n c.down.new.self.name) c.in-Owner.sets.now) last met.0)

pub returns-in-Some-clause-end : goal.returns-in-Some-clause-end
returns-in-Some-clause-end c =
    let s : IsStepped c.down.new.self = stepped c.args.walk.now c.down.new.self c.down.ensures.way c.requires.within c.requires.labels c.requires.below c.requires.above in
    let met = subst (IsPresence c.down.new.self.records (drop c.down.new.self.left c.down.new.self.name)) c.in-Owner.is c.in_ok-down.ensures.met in
    cut_here (along c.down.new.self) c.down.new.self.name c.args.rtype c.down.new.self.left s.within s.more s.above c.in-Owner.sets.now met.0 c.in-Some.set.now.records (ap is_some (sym c.in-Some.ensures))
    (ap (λ n. (n == 0) && (c.args.rtype == 43)) (sym c.left-in-Owner.ensures) ∙ sym c.is_above_cut.ensures ∙ c.if-is_above_cut.false)
    (sym (set_is c.down.new.self.records (drop c.down.new.self.left c.down.new.self.name) c.in-Owner.sets.now 2 met.0 ∙ ap records_or_none (sym c.in-Some.ensures)))

pub returns-then-left-gt0-2-clause-end : goal.returns-then-left-gt0-2-clause-end
returns-then-left-gt0-2-clause-end c =
    let s : IsStepped c.down.new.self = stepped c.args.walk.now c.down.new.self c.down.ensures.way c.requires.within c.requires.labels c.requires.below c.requires.above in
    let met = subst (IsPresence c.down.new.self.records (drop c.down.new.self.left c.down.new.self.name)) c.in-Owner.is c.in_ok-down.ensures.met in
    let left : 0 < c.down.new.self.left = omega (arith, c.left-in-Owner-2.ensures, c.if-left-gt0-2.true) in (left, above_here (along c.down.new.self) c.down.new.self.name c.args.rtype c.down.new.self.left s.within s.more s.above c.in-Owner.sets.now met.0 (sets_exist c.down.new.self.records (drop c.down.new.self.left c.down.new.self.name) c.in-Owner.sets.now met.0 met.1) (ap is_some (sym c.in_default.ensures)))

pub returns-else-left-gt0-2-clause-end : goal.returns-else-left-gt0-2-clause-end
returns-else-left-gt0-2-clause-end c =
    let s : IsStepped c.down.new.self = stepped c.args.walk.now c.down.new.self c.down.ensures.way c.requires.within c.requires.labels c.requires.below c.requires.above in
    let met = subst (IsPresence c.down.new.self.records (drop c.down.new.self.left c.down.new.self.name)) c.in-Owner.is c.in_ok-down.ensures.met in
    let last : c.down.new.self.left ≡ 0 = omega (arith, c.left-in-Owner-2.ensures, c.if-left-gt0-2.false) in (name_here (along c.down.new.self) c.down.new.self.name c.args.rtype c.down.new.self.left s.within s.more s.above last c.in-Owner.sets.now met.0 (sets_exist c.down.new.self.records (drop c.down.new.self.left c.down.new.self.name) c.in-Owner.sets.now met.0 met.1) (ap is_some (sym c.in_default.ensures)), subst (λ n. AreSetsOf c.down.new.self.records (drop n c.down.new.self.name) c.in-Owner.sets.now) last met.0)
