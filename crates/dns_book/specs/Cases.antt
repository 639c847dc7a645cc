-- The case of a message, by the first rule that fits (RFC 1035 4.1.1, RFC 2136 2.2, RFC 6891 6.1.3).
use Rattle.std.specs.Prelude.{◌≡◌, ℕ, List, [], ◌∷◌, Option, Some, None, Bool, true, false, not, is_err, nat_lt, ◌==◌, ◌||◌, if◌then◌else◌}
use Rattle.dns_io.specs.declared.peer.Protocol.{Protocol}
use Rattle.dns_wire.specs.declared.header.Header.{Header}
use Rattle.dns_wire.specs.declared.edns.Edns.{Edns}
use Rattle.dns_wire.specs.declared.message.Message.{Message}
use Rattle.dns_wire.specs.declared.question.Question.{Question}
use Rattle.dns_wire.specs.Header.{header_of}
use Rattle.dns_wire.specs.Messages.{MessageAt, OneQuestionAt}
use Rattle.dns_wire.specs.Standing.{ReadsOne}
use Rattle.dns_name.specs.Name.{is_at_or_below}
use Rattle.dns_zone_map.specs.Zone.{Contents}
use Rattle.dns_book.specs.declared.ask.Ask.{Ask}
use Rattle.dns_book.specs.declared.decision.Request.{Request}
use Rattle.dns_book.specs.declared.decision.Case.{Case}
use Rattle.dns_book.specs.declared.decision.Case.TheVariants.{ShutOut, Malformed, UnsupportedVersion, NotImplemented, NotOneQuestion, Foreign, Query, Update}
use Rattle.dns_book.specs.declared.decision.Decision.{Decision}
use Rattle.dns_book.specs.Sources.{sanitized}
use Rattle.dns_book.specs.Access.{Access, lets_in}

-- an EDNS version that isn't known here (RFC 6891 6.1.3)
abbrev pub is_newer : Option Edns → Bool
is_newer None = false
is_newer (Some e) = nat_lt 0 e.version

-- the question of a message with exactly one
abbrev pub only_question : List Question → Option Question
only_question [] = None
only_question (q ∷ []) = Some q
only_question (q ∷ r ∷ qs) = None

-- a question that isn't for this zone: another class than IN (1), another name, or a zone transfer: IXFR (251), AXFR (252)
abbrev pub is_foreign : Contents → Question → Bool
is_foreign zone q = not (q.qclass == 1) || not (is_at_or_below q.name zone.origin) || (q.qtype == 251) || (q.qtype == 252)

-- the case of a query with this question alone
abbrev pub query_case : Contents → Question → Case
query_case zone q = if is_foreign zone q then Foreign q else Query q

-- the case of a query (opcode 0) or an update (5), whose one question is this, if it has exactly one
abbrev pub question_case : Contents → Message → Option Question → Case
question_case zone m None = NotOneQuestion
question_case zone m (Some q) = if m.header.opcode == 5 then Update m else query_case zone q

-- the case of a message that was read: an EDNS version that isn't known, an opcode that is neither QUERY (0) nor UPDATE (5),
-- or a query or an update
unfoldable pub message_case : Contents → Message → Case
message_case zone m =
    if is_newer m.edns then UnsupportedVersion (only_question m.questions)
    else if not ((m.header.opcode == 0) || (m.header.opcode == 5)) then NotImplemented (only_question m.questions)
    else question_case zone m (only_question m.questions)

-- a header whose message is no reply itself
abbrev pub request_in : Option Header → Option Header
request_in None = None
request_in (Some h) = if h.qr then None else Some h

-- the header of a message that is owed a reply: its source is safe, it has twelve bytes, and it is no reply itself
unfoldable pub request_of : Ask → Option Header
request_of ask = if is_err (sanitized ask.source) then None else request_in (header_of ask.bytes)

-- what a reply takes from a request of which nothing but the header is read, where no datagram has more than `most` bytes
abbrev pub header_alone : ℕ → Protocol → Header → Request
header_alone most protocol h = record { payload = most; protocol = protocol; header = h; edns = None }

-- what a reply takes from a message that was read, where no datagram has more than `most` bytes
abbrev pub request_by : ℕ → Protocol → Message → Request
request_by most protocol m = record { payload = most; protocol = protocol; header = m.header; edns = m.edns }

-- what is decided of a message: no reply; or else, from a source that is shut out, a case with its question where there is
-- exactly one that reads, whatever the message is; or else that it is no message; or else the case of the message that it is
pub data Decides (zone : Contents) (access : Access) (ask : Ask) : Option Decision → Type 0 where
  silent : request_of ask ≡ None → Decides zone access ask None
  shut_out : (h : Header) → request_of ask ≡ Some h → lets_in access ask.source.ip ≡ false
      → (question : Option Question) → ReadsOne (OneQuestionAt ask.bytes) question
      → Decides zone access ask (Some (record { request = header_alone access.payload ask.protocol h; case = ShutOut question }))
  malformed : (h : Header) → request_of ask ≡ Some h → lets_in access ask.source.ip ≡ true
      → ((m : Message) → MessageAt ask.bytes m → ⊥)
      → Decides zone access ask (Some (record { request = header_alone access.payload ask.protocol h; case = Malformed }))
  read : (h : Header) → request_of ask ≡ Some h → lets_in access ask.source.ip ≡ true
      → (m : Message) → MessageAt ask.bytes m
      → Decides zone access ask (Some (record { request = request_by access.payload ask.protocol m; case = message_case zone m }))
