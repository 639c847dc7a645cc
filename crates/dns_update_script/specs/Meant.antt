-- The messages that a script means (RFC 2136 2).
use Rattle.std.specs.Prelude.{ℕ, ◌+◌, ◌%◌, false, List, [], ◌∷◌, None}
use Rattle.dns_wire.specs.declared.header.Header.{Header}
use Rattle.dns_wire.specs.declared.message.Message.{Message}
use Rattle.dns_wire.specs.declared.opcode.TheConstants.{UPDATE}
use Rattle.dns_wire.specs.declared.class.TheConstants.{IN}
use Rattle.dns_wire.specs.declared.record_type.TheConstants.{SOA}
use Rattle.dns_update_script.specs.declared.script.Sending.{Sending}

-- the header of an update with this id; the counts of the sections are those that it is written with
abbrev pub update_header : ℕ → Header
update_header id = record {
  id = id;
  qr = false;
  opcode = UPDATE;
  aa = false;
  tc = false;
  rd = false;
  ra = false;
  ad = false;
  cd = false;
  code = 0;
  questions = 0;
  answers = 0;
  authority = 0;
  additional = 0;
}

-- the update of one sending: its zone (RFC 2136 2.3), its prerequisites (2.4) and its changes (2.5)
abbrev pub update_of : Sending → ℕ → Message
update_of sending id = record {
  header = update_header id;
  questions = record { name = sending.zone; qtype = SOA; qclass = IN } ∷ [];
  answers = sending.prerequisites;
  authority = sending.changes;
  additional = [];
  edns = None;
}

-- one update for each sending, in order, with ids that count on from this one modulo 2^16
abbrev pub meant_by : List Sending → ℕ → List Message
meant_by [] id = []
meant_by (sending ∷ sendings) id = update_of sending (id % 65536) ∷ meant_by sendings (id + 1)
