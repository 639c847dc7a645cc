use Rattle.dns_query.proofs.Walked.{spelled_wire, spelled_read}
use Rattle.dns_query.proofs.query_name.name_between.Goals as goal

pub of_wire-requires : goal.of_wire-requires
of_wire-requires c = spelled_wire _ _ _ _ c.requires.spelled c.part.ensures

pub returns : goal.returns
returns c = rw (c.of_wire.ensures) (spelled_read _ _ _ _ c.requires.spelled c.part.ensures)
