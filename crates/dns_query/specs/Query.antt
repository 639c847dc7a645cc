-- Queries that are read in place: one question, whose name holds no pointer, and at most an OPT beside it (RFC 1035 4.1, RFC 6891 6.1).
use Rattle.std.specs.Prelude.{◌≡◌, ℕ, ◌+◌, ◌≤◌, false, List, [], ◌∷◌, length, slice_get, Option, Some, None}
use Rattle.dns_name.specs.Name.{IsName, name_bytes}
use Rattle.dns_wire.specs.declared.header.Header.{Header}
use Rattle.dns_wire.specs.declared.record.Record.{Record}
use Rattle.dns_wire.specs.declared.record_type.TheConstants.{OPT}
use Rattle.dns_wire.specs.declared.opcode.TheConstants.{QUERY}
use Rattle.dns_wire.specs.declared.edns.Edns.{Edns}
use Rattle.dns_wire.specs.declared.message.Message.{Message}
use Rattle.dns_wire.specs.Edns.{edns_of}
use Rattle.dns_wire.specs.Header.{header_of}
use Rattle.dns_wire.specs.Standing.{word_at, between, RecordAt}
use Rattle.dns_query.specs.declared.query.Query.{Query}

-- a name stands without a pointer from one place to another (RFC 1035 3.1)
pub record SpelledAt (m : List ℕ) (place : ℕ) (labels : List (List ℕ)) (end : ℕ) : Type 0 where
  pub name : IsName labels
  pub order : place ≤ end
  pub within : end ≤ length m
  pub spelled : between m place end ≡ name_bytes labels

-- the header of a query with one question, without answers or an authority section
pub record HasPlainForm (h : Header) : Type 0 where
  pub request : h.qr ≡ false
  pub query : h.opcode ≡ QUERY
  pub questions : h.questions ≡ 1
  pub answers : h.answers ≡ 0
  pub authority : h.authority ≡ 0

-- an OPT stands at a place, whose name is the one zero byte of the root, and says this
pub record OptAt (m : List ℕ) (i : ℕ) (edns : Edns) : Type 0 where
  pub root : slice_get m i ≡ Some 0
  pub opt : Record
  pub end : ℕ
  pub stands : RecordAt m i opt end
  pub kind : opt.rtype ≡ OPT
  pub says : edns ≡ edns_of opt

-- an additional section of so many records is empty, or it is an OPT that says this
abbrev pub BesideAt : List ℕ → ℕ → ℕ → Option Edns → Type 0
BesideAt m i n None = n ≡ 0
BesideAt m i n (Some edns) = (n ≡ 1) × OptAt m i edns

-- m is this query, whatever follows it
pub record IsPlainQuery (m : List ℕ) (q : Query) : Type 0 where
  pub header : header_of m ≡ Some q.header
  pub form : HasPlainForm q.header
  pub end : ℕ
  pub name : SpelledAt m 12 q.name end
  pub within : end + 4 ≤ length m
  pub qtype : q.qtype ≡ word_at m end
  pub qclass : q.qclass ≡ word_at m (end + 2)
  pub beside : BesideAt m (end + 4) q.header.additional q.edns

-- the message that a query is
abbrev pub message_of : Query → Message
message_of q = record {
  header = q.header;
  questions = record { name = q.name; qtype = q.qtype; qclass = q.qclass } ∷ [];
  answers = [];
  authority = [];
  additional = [];
  edns = q.edns;
}
