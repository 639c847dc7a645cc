use Rattle.std.proofs.lemmas.Bool.{ne_eqb, eq-eqb}
use Rattle.dns_presentation.proofs.NameRooms.{named_dot, named_below_some}
use Rattle.dns_presentation.proofs.names.put_name.Goals as goal

pub returns-then-end-text-clause-named : goal.returns-then-end-text-clause-named
returns-then-end-text-clause-named c = named_dot _ _ _ _ c.requires.text c.in_ok-end.ensures.written (eq-eqb _ _ c.if-end-text.true)

pub returns-clause-named : goal.returns-clause-named
returns-clause-named c =
    named_below_some _ _ _ _ _ _ c.requires.text c.in_ok-end.ensures.size c.put_origin.ensures.size c.in_ok-end.ensures.written (ne_eqb _ _ c.if-end-text.false) c.put_origin.ensures.name c.put_origin.ensures.put c.put_origin.ensures.within
