-- The messages that a drawn number asks for: queries (RFC 1035 4.1) and updates (RFC 2136 2).
use Rattle.std.specs.Prelude.{ℕ, ◌+◌, ◌*◌, ◌%◌, ◌^◌, Bool, true, false, List, [], ◌∷◌, ◌++◌, None, codes}
use Rattle.std.specs.Fmt.{decimal}
use Rattle.dns_wire.specs.declared.header.Header.{Header}
use Rattle.dns_wire.specs.declared.message.Message.{Message}
use Rattle.dns_wire.specs.declared.question.Question.{Question}
use Rattle.dns_wire.specs.declared.record.Record.{Record}
use Rattle.dns_wire.specs.declared.rdata.Data.TheVariants as data_of
use Rattle.dns_wire.specs.declared.opcode.TheConstants.{QUERY, UPDATE}
use Rattle.dns_wire.specs.declared.class.TheConstants as class
use Rattle.dns_wire.specs.declared.record_type.TheConstants.{A, SOA}
use Rattle.dns_generator.specs.Draws.{host_number, rest_of}

-- example.com.
abbrev pub origin_name : List (List ℕ)
origin_name = codes "example" ∷ codes "com" ∷ []

-- the label of the host with this number: the letter h, and the number in decimal
abbrev pub host_label : ℕ → List ℕ
host_label number = codes "h" ++ decimal number

-- the host of a drawn number: hN.example.com.
abbrev pub host_of : ℕ → List (List ℕ)
host_of draw = host_label (host_number draw) ∷ origin_name

-- the header of the request with this number. The counts of the sections are those that it is written with.
abbrev pub header_for : ℕ → ℕ → Bool → Header
header_for number opcode recursion = record {
  id = number % 65536;
  qr = false;
  opcode = opcode;
  aa = false;
  tc = false;
  rd = recursion;
  ra = false;
  ad = false;
  cd = false;
  code = 0;
  questions = 0;
  answers = 0;
  authority = 0;
  additional = 0;
}

-- the request with this header, question and updates (RFC 2136 2.2)
abbrev pub request : Header → Question → List Record → Message
request header question updates = record {
  header = header;
  questions = question ∷ [];
  answers = [];
  authority = updates;
  additional = [];
  edns = None;
}

-- a query for the address of the host, with recursion desired
abbrev pub query : ℕ → ℕ → Message
query number draw = request (header_for number QUERY true) (record { name = host_of draw; qtype = A; qclass = class.IN }) []

-- an update of the zone (RFC 2136 2.3)
abbrev pub update : ℕ → Record → Message
update number one = request (header_for number UPDATE false) (record { name = origin_name; qtype = SOA; qclass = class.IN }) (one ∷ [])

-- the address 10.0.0.x is added to the host, with a TTL of a minute (RFC 2136 2.5.1)
abbrev pub addition : ℕ → Record
addition draw = record { name = host_of draw; rtype = A; class = class.IN; ttl = 60; rdata = data_of.A (10 * 2 ^ 24 + rest_of draw % 256) }

-- all addresses of the host are deleted (RFC 2136 2.5.2)
abbrev pub deletion : ℕ → Record
deletion draw = record { name = host_of draw; rtype = A; class = class.ANY; ttl = 0; rdata = data_of.Empty }
