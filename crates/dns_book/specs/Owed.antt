-- What a message is owed (RFC 1034 4.3, RFC 2136 3, RFC 6891 6.1).
use Rattle.std.specs.Prelude.{◌≡◌, ℕ, ◌/◌, ◌≤◌, max, min, List, [], length, Option, Some, None, IfSome, Bool, true, false, if◌then◌else◌}
use Rattle.std.specs.List.{AllByRecursion}
use Rattle.std.specs.Option.{option_map}
use Rattle.dns_io.specs.declared.peer.Protocol.{Protocol}
use Rattle.dns_io.specs.declared.peer.Protocol.TheVariants.{Udp, Tcp, Tls, Https, Quic, H3}
use Rattle.dns_wire.specs.declared.edns.Edns.{Edns}
use Rattle.dns_wire.specs.declared.question.Question.{Question}
use Rattle.dns_wire.specs.declared.message.Message.{Message}
use Rattle.dns_wire.specs.declared.record.Record.{Record}
use Rattle.dns_wire.specs.declared.reply.Reply.{Reply}
use Rattle.dns_wire.specs.Written.{Written}
use Rattle.dns_wire.specs.ReadBack.{ReadsBack}
use Rattle.dns_name.specs.Name.{is_at_or_below}
use Rattle.dns_zone.specs.declared.lookup.Looked.{Looked}
use Rattle.dns_zone.specs.Lookup.{lookup_of}
use Rattle.dns_zone_map.specs.Zone.{Contents}
use Rattle.dns_update.specs.declared.verdict.Verdict.{Verdict}
use Rattle.dns_update.specs.declared.verdict.Verdict.TheVariants.{Fails, Passes}
use Rattle.dns_update.specs.Verdict.{verdict_of}
use Rattle.dns_update.specs.Change.{batch_of}
use Rattle.dns_book.specs.declared.ask.Ask.{Ask}
use Rattle.dns_book.specs.declared.decision.Request.{Request}
use Rattle.dns_book.specs.declared.decision.Case.{Case}
use Rattle.dns_book.specs.declared.decision.Case.TheVariants.{ShutOut, Malformed, UnsupportedVersion, NotImplemented, NotOneQuestion, Foreign, Query, Update}
use Rattle.dns_book.specs.declared.decision.Decision.{Decision}
use Rattle.dns_book.specs.Access.{Access}
use Rattle.dns_book.specs.Cases.{only_question, Decides}

-- the id of a reply: the request's, but 0 over QUIC (RFC 9250 4.2.1)
abbrev pub id_for : Protocol → ℕ → ℕ
id_for Udp id = id
id_for Tcp id = id
id_for Tls id = id
id_for Https id = id
id_for Quic id = 0
id_for H3 id = id

-- the OPT of a reply, where the request has one: at least 512 bytes, version 0, DO copied, the code's upper eight bits
abbrev pub edns_for : ℕ → Option Edns → Option Edns
edns_for code None = None
edns_for code (Some e) = Some (record { payload = max 512 e.payload; extended = code / 16; version = 0; dnssec_ok = e.dnssec_ok })

-- how many bytes a reply may take, where no datagram has more than `most`: a datagram's what its OPT says, 512 without one
-- (RFC 1035 4.2.1, RFC 6891 6.2.3, 6.2.5)
abbrev pub limit_of : ℕ → Protocol → Option Edns → ℕ
limit_of most Udp None = 512
limit_of most Udp (Some e) = min e.payload most
limit_of most Tcp edns = 65535
limit_of most Tls edns = 65535
limit_of most Https edns = 65535
limit_of most Quic edns = 65535
limit_of most H3 edns = 65535

-- a reply to a request: opcode, RD and CD are the request's
abbrev pub reply_to : Request → ℕ → Bool → Option Question → List Record → Reply
reply_to r code aa question answers = record {
  id = id_for r.protocol r.header.id;
  opcode = r.header.opcode;
  aa = aa;
  rd = r.header.rd;
  cd = r.header.cd;
  code = code;
  question = question;
  answers = answers;
  authority = [];
  additional = [];
  edns = edns_for code r.edns;
}

-- the reply of what the zone is looked up for (RFC 1034 4.3.2)
abbrev pub looked_reply : Request → Question → Looked → Reply
looked_reply request q looked = record (reply_to request looked.code looked.aa (Some q) looked.answers) { authority = looked.authority }

-- what a reply depends on beside its message: the zone, whether updates are let in, and whether the journal failed that an
-- update's records were to come into
pub record Grounds : Type 0 where
  pub zone : Contents
  pub allow_update : Bool
  pub failed : Bool

-- the code of the reply to an update: that of the first rule that it breaks, or else NoError (0), or ServFail (2) where the
-- journal failed (RFC 2136 3.4.2.7, 3.8)
abbrev pub code_of : Bool → Verdict → ℕ
code_of failed (Fails code) = code
code_of failed Passes = if failed then 2 else 0

-- the reply to an update: its code, and its question
abbrev pub update_reply : Grounds → Request → Message → Reply
update_reply g r m = reply_to r (code_of g.failed (verdict_of g.zone m g.allow_update)) false (only_question m.questions) []

-- the reply to a request, by its case: Refused (5), FormErr (1), BADVERS (16), NotImp (4), what the look-up finds, or what
-- becomes of an update
abbrev pub case_reply : Grounds → Request → Case → Reply
case_reply g r (ShutOut q) = reply_to r 5 false q []
case_reply g r Malformed = reply_to r 1 false None []
case_reply g r (UnsupportedVersion q) = reply_to r 16 false q []
case_reply g r (NotImplemented q) = reply_to r 4 false q []
case_reply g r NotOneQuestion = reply_to r 1 false None []
case_reply g r (Foreign q) = reply_to r 5 false (Some q) []
case_reply g r (Query q) = looked_reply r q (lookup_of g.zone q.name q.qtype)
case_reply g r (Update m) = update_reply g r m

abbrev pub reply_of : Grounds → Decision → Reply
reply_of g d = case_reply g d.request d.case

-- the records that an update brings into the journal: those that change the zone, where it breaks no rule
abbrev pub passing_batch : Contents → Message → Verdict → List Record
passing_batch zone m (Fails code) = []
passing_batch zone m Passes = batch_of zone.origin zone.records m.authority

abbrev pub case_batch : Contents → Bool → Case → List Record
case_batch zone allow_update (ShutOut q) = []
case_batch zone allow_update Malformed = []
case_batch zone allow_update (UnsupportedVersion q) = []
case_batch zone allow_update (NotImplemented q) = []
case_batch zone allow_update NotOneQuestion = []
case_batch zone allow_update (Foreign q) = []
case_batch zone allow_update (Query q) = []
case_batch zone allow_update (Update m) = passing_batch zone m (verdict_of zone m allow_update)

-- and those that a message brings
abbrev pub batch_by : Contents → Bool → Option Decision → List Record
batch_by zone allow_update None = []
batch_by zone allow_update (Some d) = case_batch zone allow_update d.case

-- the reply that a message is owed, or that it is owed none
pub record Owes (grounds : Grounds) (access : Access) (ask : Ask) (reply : Option Reply) : Type 0 where
  pub decision : Option Decision
  pub decided : Decides grounds.zone access ask decision
  pub is : reply ≡ option_map (reply_of grounds) decision

-- a reply in its written form, within its limit
abbrev pub IsWritten : ℕ → Protocol → Option Reply → Option (List ℕ) → Type 0
IsWritten most protocol None None = Unit {0}
IsWritten most protocol None (Some bytes) = ⊥
IsWritten most protocol (Some reply) None = ⊥
IsWritten most protocol (Some reply) (Some bytes) = Written reply (limit_of most protocol reply.edns) bytes

-- the bytes that a message is owed
pub record OwesBytes (grounds : Grounds) (access : Access) (ask : Ask) (bytes : Option (List ℕ)) : Type 0 where
  pub decision : Option Decision
  pub decided : Decides grounds.zone access ask decision
  pub written : IsWritten access.payload ask.protocol (option_map (reply_of grounds) decision) bytes

-- a reply whose OPT lets at least 512 bytes in
abbrev pub HasRoom : Reply → Type 0
HasRoom reply = IfSome reply.edns (λ e. 512 ≤ e.payload)

-- what holds of the case that was decided of a message: a query that the zone is looked up for is for a name of the zone; an
-- update has one question, and its records read as themselves when they were written
abbrev pub IsFit : Contents → Case → Type 0
IsFit zone (Query q) = is_at_or_below q.name zone.origin ≡ true
IsFit zone (Update m) = (length m.questions ≡ 1) × AllByRecursion ReadsBack m.authority
IsFit zone _ = Unit {0}
