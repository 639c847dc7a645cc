-- What the types keep of records: numbers and names in their bounds, and bytes.
use Rattle.std.specs.Prelude.{ℕ, ◌<◌, List}
use Rattle.std.specs.List.{AllByRecursion}
use Rattle.dns_wire.specs.declared.rdata.Data.{Data}
use Rattle.dns_wire.specs.declared.rdata.Data.TheVariants.{A, Aaaa, Ns, Cname, Ptr, Mx, Srv, Soa, Txt, Opaque, Empty}
use Rattle.dns_wire.specs.declared.record.Record.{Record}
use Rattle.dns_wire.specs.ReadBack.{IsRecord}

-- each of the numbers is a byte
abbrev pub AreBytes : List ℕ → Type 0
AreBytes = AllByRecursion (λ byte. byte < 256)

-- the labels of a name, or other strings, have bytes
abbrev pub AreOfBytes : List (List ℕ) → Type 0
AreOfBytes = AllByRecursion AreBytes

-- the names and strings of data have bytes
abbrev pub IsDataOfBytes : Data → Type 0
IsDataOfBytes (A address) = Unit {0}
IsDataOfBytes (Aaaa address) = Unit {0}
IsDataOfBytes (Ns host) = AreOfBytes host
IsDataOfBytes (Cname target) = AreOfBytes target
IsDataOfBytes (Ptr target) = AreOfBytes target
IsDataOfBytes (Mx preference exchange) = AreOfBytes exchange
IsDataOfBytes (Srv priority weight port target) = AreOfBytes target
IsDataOfBytes (Soa serial mname rname refresh retry expire minimum) = AreOfBytes mname × AreOfBytes rname
IsDataOfBytes (Txt texts) = AreOfBytes texts
IsDataOfBytes (Opaque bytes) = AreBytes bytes
IsDataOfBytes Empty = Unit {0}

-- a record as the types keep it; each value of type `Record` is one, as `kept_records` says
pub record IsKept (r : Record) : Type 0 where
  pub ranges : IsRecord r
  pub owner : AreOfBytes r.name
  pub «data» : IsDataOfBytes r.rdata
