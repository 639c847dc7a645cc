use Rattle.dns_presentation.proofs.NamesInData.{name_at-read, name_at-unread}
use Rattle.dns_presentation.proofs.typed_data.name_at.Goals as goal

pub returns-in-Some-clause-found : goal.returns-in-Some-clause-found
returns-in-Some-clause-found c =
    (name_at-read c.args.bytes.now c.args.place c.in_ok-found.field-0 c.in_ok-found.ensures.found c.in-Some.found c.in-Some.is).0

pub returns-in-Some-clause-behind : goal.returns-in-Some-clause-behind
returns-in-Some-clause-behind c =
    (name_at-read c.args.bytes.now c.args.place c.in_ok-found.field-0 c.in_ok-found.ensures.found c.in-Some.found c.in-Some.is).1

pub returns-in-None-clause-found : goal.returns-in-None-clause-found
returns-in-None-clause-found c = name_at-unread c.args.bytes.now c.args.place c.in_ok-found.field-0 c.in_ok-found.ensures.only c.in-None.is
