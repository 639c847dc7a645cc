-- Records whose lines are written out, one for each form of data.
use Rattle.std.specs.Prelude.{ℕ, ◌+◌, ◌*◌, ◌^◌, List, [], ◌∷◌}
use lib.Chars.{codes}
use Rattle.dns_wire.specs.declared.class.TheConstants.{IN}
use Rattle.dns_wire.specs.declared.rdata.Data.{Data}
use Rattle.dns_wire.specs.declared.rdata.Data.TheVariants as form
use Rattle.dns_wire.specs.declared.record_type.TheConstants.{A, NS, CNAME, SOA, PTR, MX, TXT, AAAA, SRV}
use Rattle.dns_wire.specs.declared.record.Record.{Record}

-- a name below example.com
abbrev pub below : List (List ℕ) → List (List ℕ)
below [] = codes "example" ∷ codes "com" ∷ []
below (label ∷ labels) = label ∷ below labels

-- a record of class IN
abbrev pub row : List (List ℕ) → ℕ → ℕ → Data → Record
row name rtype ttl rdata = record { name = name; rtype = rtype; class = IN; ttl = ttl; rdata = rdata }

abbrev pub address : Record
address = row (below (codes "www" ∷ [])) A 3600 (form.A (192 * 2 ^ 24 + 2 * 2 ^ 8 + 1))

abbrev pub wide_address : Record
wide_address = row (below (codes "www" ∷ [])) AAAA 3600 (form.Aaaa (0x20010db8 * 2 ^ 96 + 1))

abbrev pub host : Record
host = row (below (codes "www" ∷ [])) NS 0 (form.Ns [])

abbrev pub exchange : Record
exchange = row (below (codes "www" ∷ [])) MX 4294967295 (form.Mx 10 (below (codes "mail" ∷ [])))

abbrev pub service : Record
service = row (below (codes "_sip" ∷ codes "_tcp" ∷ [])) SRV 3600 (form.Srv 1 20 5060 (below (codes "sip" ∷ [])))

abbrev pub start : Record
start = row (below []) SOA 3600 (form.Soa 2024010100 (below (codes "ns" ∷ [])) (below (codes "admin" ∷ [])) 7200 3600 1209600 300)

-- the strings hold a space and a semicolon, nothing, and a quote, a backslash, a line feed and the byte 255
abbrev pub strings : Record
strings = row (below (codes "www" ∷ [])) TXT 3600 (form.Txt (codes "a b;c" ∷ [] ∷ (34 ∷ 92 ∷ 10 ∷ 255 ∷ []) ∷ []))

abbrev pub private_type : Record
private_type = row (below (codes "www" ∷ [])) 65280 3600 (form.Opaque (0 ∷ 171 ∷ 15 ∷ []))

abbrev pub wildcard : Record
wildcard = row (below (codes "*" ∷ [])) CNAME 3600 (form.Cname (below (codes "www" ∷ [])))

-- a dot and the byte 0 stand in a label, and an at sign is one
abbrev pub odd_name : Record
odd_name = row (below ((97 ∷ 46 ∷ 98 ∷ 0 ∷ 99 ∷ []) ∷ [])) PTR 3600 (form.Ptr (codes "@" ∷ []))
