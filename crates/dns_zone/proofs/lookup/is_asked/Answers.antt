use Rattle.std.proofs.Common.{◌≡◌, ◌∙◌, sym, ap, false}
use Rattle.dns_name.specs.Name.{is_same_name}
use Rattle.dns_zone.proofs.lookup.is_asked.Goals as goal

pub returns-else-same : goal.returns-else-same
returns-else-same c =
    let other : is_same_name c.args.name.now c.args.first.now ≡ false = sym (ap (λ name. is_same_name name c.args.first.now) c.view.ensures) ∙ sym c.same.ensures.test ∙ c.if-same.false in
    rw other c.is_target.ensures
