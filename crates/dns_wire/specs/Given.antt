-- Records as a reply gives them: with the owner that is answered for, and a negative reply's SOA with its TTL (RFC 4592 3.3.2,
-- RFC 2308 3).
use Rattle.std.specs.Prelude.{ℕ, List, map, min, Bool, true, false, Option, Some, None}
use Rattle.std.specs.List.{flat_map}
use Rattle.dns_wire.specs.declared.rdata.Data.{Data}
use Rattle.dns_wire.specs.declared.rdata.Data.TheVariants.{Soa}
use Rattle.dns_wire.specs.declared.record.Record.{Record}

-- the record with the owner, if one is given (RFC 4592 3.3.2)
abbrev pub given : Option (List (List ℕ)) → Record → Record
given None r = r
given (Some owner) r = record { name = owner; rtype = r.rtype; class = r.class; ttl = r.ttl; rdata = r.rdata }

-- how long a name or set that is not there may be remembered: the lesser of the SOA's TTL and its minimum (RFC 2308 3)
abbrev pub negative_ttl : Data → ℕ → ℕ
negative_ttl (Soa serial mname rname refresh retry expire minimum) ttl = min ttl minimum
negative_ttl rdata ttl = ttl

-- the SOA as it stands in a negative reply
abbrev pub negative : Record → Record
negative r = record { name = r.name; rtype = r.rtype; class = r.class; ttl = negative_ttl r.rdata r.ttl; rdata = r.rdata }

-- the record with the owner, if one is given, and as a negative reply has it, if it is one's
abbrev pub given_as : Option (List (List ℕ)) → Bool → Record → Record
given_as owner true r = negative (given owner r)
given_as owner false r = given owner r

-- the records of parts, in order
abbrev pub in_parts : List (List Record) → List Record
in_parts = flat_map (λ part. part)

-- the type and class of each record
abbrev pub kinds : List Record → List (ℕ × ℕ)
kinds = map (λ r. (r.rtype, r.class))
