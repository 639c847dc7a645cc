-- Queries of plain form, which are looked at where they stand.
use Rattle.std.specs.Prelude.{ℕ, Some, if◌then◌else◌}
use Rattle.dns_io.specs.declared.peer.Protocol.{Protocol}
use Rattle.dns_wire.specs.declared.question.Question.{Question}
use Rattle.dns_query.specs.declared.query.Query.{Query}
use Rattle.dns_zone_map.specs.Zone.{Contents}
use Rattle.dns_book.specs.declared.decision.Request.{Request}
use Rattle.dns_book.specs.declared.decision.Case.{Case}
use Rattle.dns_book.specs.declared.decision.Case.TheVariants.{UnsupportedVersion}
use Rattle.dns_book.specs.Cases.{is_newer, query_case}

-- the question of a query
abbrev pub question_in : Query → Question
question_in q = record { name = q.name; qtype = q.qtype; qclass = q.qclass }

-- what a reply takes from a query that came so, where no datagram has more than `most` bytes
abbrev pub request_in : ℕ → Protocol → Query → Request
request_in most protocol q = record { payload = most; protocol = protocol; header = q.header; edns = q.edns }

-- the case of a query of plain form: its EDNS version isn't known, or it is a query with one question
abbrev pub plain_case : Contents → Query → Case
plain_case zone q = if is_newer q.edns then UnsupportedVersion (Some (question_in q)) else query_case zone (question_in q)
