use Rattle.std.proofs.Common.{◌≡◌, ◌+◌, ◌++◌, length, take, subst}
use Rattle.dns_wire.specs.WireFormat.{records_bytes}
use Rattle.dns_wire.specs.declared.reply.Reply.{Reply}
use Rattle.dns_wire.specs.Given.{in_parts}
use Rattle.dns_wire.specs.Written.{all_of, Fits}
use Rattle.dns_wire.proofs.Fitting.{fits_some, fits_all}
use Rattle.dns_wire.proofs.Lending.{less_then, not_less_then, left_both, left_some}
use Rattle.dns_wire.proofs.lent_reply.kept_in.Goals as goal

pub returns-then-answers-clause-fits : goal.returns-then-answers-clause-fits
returns-then-answers-clause-fits c =
    subst (λ (r : Reply). Fits c.args.room (all_of r) c.fitting_in_parts-answers.result.count) c.reply.view_is
    (fits_some (in_parts c.reply.inside.answers.now) (c.reply.inside.authority ++ c.reply.inside.additional) _ _ c.fitting_in_parts-answers.ensures.fits
    (less_then _ _ _ c.fitting_in_parts-answers.ensures.cut c.if-answers.true))

pub returns-clause-fits : goal.returns-clause-fits
returns-clause-fits c =
    subst (λ (r : Reply). Fits c.args.room (all_of r) (c.fitting_in_parts-answers.result.count + c.kept_behind-behind.result.count)) c.reply.view_is
    (fits_all (in_parts c.reply.inside.answers.now) (c.reply.inside.authority ++ c.reply.inside.additional) _ _ _ _ c.fitting_in_parts-answers.ensures.fits
    (not_less_then _ _ _ c.fitting_in_parts-answers.ensures.cut c.if-answers.false) c.fitting_in_parts-answers.ensures.left c.kept_behind-behind.ensures.fits)

pub returns-then-answers-clause-left : goal.returns-then-answers-clause-left
returns-then-answers-clause-left c =
    subst (λ (r : Reply). c.fitting_in_parts-answers.result.left + length (records_bytes (take c.fitting_in_parts-answers.result.count (all_of r))) ≡ c.args.room) c.reply.view_is
    (left_some (in_parts c.reply.inside.answers.now) (c.reply.inside.authority ++ c.reply.inside.additional) _ _ _
    (less_then _ _ _ c.fitting_in_parts-answers.ensures.cut c.if-answers.true) c.fitting_in_parts-answers.ensures.left)

pub returns-clause-left : goal.returns-clause-left
returns-clause-left c =
    subst (λ (r : Reply). c.kept_behind-behind.result.left + length (records_bytes (take (c.fitting_in_parts-answers.result.count + c.kept_behind-behind.result.count) (all_of r))) ≡ c.args.room) c.reply.view_is
    (left_both (in_parts c.reply.inside.answers.now) (c.reply.inside.authority ++ c.reply.inside.additional) _ _ _ _ _
    (not_less_then _ _ _ c.fitting_in_parts-answers.ensures.cut c.if-answers.false) c.fitting_in_parts-answers.ensures.fits.within c.fitting_in_parts-answers.ensures.left
    c.kept_behind-behind.ensures.fits.within c.kept_behind-behind.ensures.left)
