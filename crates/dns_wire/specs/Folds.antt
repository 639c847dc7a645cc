-- Data with its names in small letters.
use Rattle.dns_name.specs.Name.{fold_of}
use Rattle.dns_wire.specs.declared.rdata.Data.{Data}
use Rattle.dns_wire.specs.declared.rdata.Data.TheVariants.{A, Aaaa, Ns, Cname, Ptr, Mx, Srv, Soa, Txt, Opaque, Empty}

-- data with the ASCII capitals of its names made small
abbrev pub fold_data : Data → Data
fold_data (A address) = A address
fold_data (Aaaa address) = Aaaa address
fold_data (Ns host) = Ns (fold_of host)
fold_data (Cname target) = Cname (fold_of target)
fold_data (Ptr target) = Ptr (fold_of target)
fold_data (Mx preference exchange) = Mx preference (fold_of exchange)
fold_data (Srv priority weight port target) = Srv priority weight port (fold_of target)
fold_data (Soa serial mname rname refresh retry expire minimum) = Soa serial (fold_of mname) (fold_of rname) refresh retry expire minimum
fold_data (Txt texts) = Txt texts
fold_data (Opaque bytes) = Opaque bytes
fold_data Empty = Empty
