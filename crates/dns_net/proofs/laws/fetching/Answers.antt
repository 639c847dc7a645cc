use Rattle.std.proofs.Common.{sym, ap, ◌∙◌}
use Rattle.dns_net.specs.Bodies.{whole_body}
use Rattle.dns_net.proofs.Faultless.{faultless}
use Rattle.dns_net.proofs.laws.fetching.Goals as goal

pub returns : goal.returns
returns c = λ said left rest other_left other_rest result other one two same sound other_sound room other_room.
    sym (faultless said result left rest one sound room) ∙ ap (whole_body said) same ∙ faultless said other other_left other_rest two other_sound other_room
