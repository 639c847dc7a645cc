-- The labels of the counters and what each stands for.
use Rattle.std.specs.Prelude.{ℕ, ◌/◌, ◌%◌, List, [], ◌∷◌, map, Bool, if◌then◌else◌, codes}
use Rattle.std.specs.Str.{bytes_eq}
use Rattle.dns_wire.specs.declared.header.Header.{Header}
use Rattle.dns_io.specs.declared.peer.Protocol.{Protocol}
use Rattle.dns_io.specs.declared.peer.Protocol.TheVariants.{Udp, Tcp, Tls, Https, Quic, H3}

-- a label and its code
abbrev pub Labelled : Type 0
Labelled = List ℕ × ℕ

abbrev pub labels_of : List Labelled → List (List ℕ)
labels_of coded = map (λ one. one.0) coded

abbrev pub codes_of : List Labelled → List ℕ
codes_of coded = map (λ one. one.1) coded

-- the label of every other code
abbrev pub unknown : List (List ℕ)
unknown = codes "unknown" ∷ []

-- kinds of query (RFC 1035 4.1.1, RFC 1996 3.1, RFC 2136 1.3)
abbrev pub operations : List Labelled
operations = (codes "query", 0) ∷ (codes "status", 2) ∷ (codes "notify", 4) ∷ (codes "update", 5) ∷ []

-- response codes (RFC 1035 4.1.1, RFC 2136 2.2, RFC 6891 9)
abbrev pub response_codes : List Labelled
response_codes =
    (codes "no_error", 0) ∷ (codes "form_error", 1) ∷ (codes "serv_fail", 2) ∷ (codes "nx_domain", 3)
    ∷ (codes "not_imp", 4) ∷ (codes "refused", 5) ∷ (codes "yx_domain", 6) ∷ (codes "yx_rrset", 7)
    ∷ (codes "nx_rrset", 8) ∷ (codes "not_auth", 9) ∷ (codes "not_zone", 10) ∷ (codes "bad_vers", 16) ∷ []

-- labels of response codes that no reply of this server has
abbrev pub unused_codes : List (List ℕ)
unused_codes =
    codes "bad_sig" ∷ codes "bad_key" ∷ codes "bad_time" ∷ codes "bad_mode" ∷ codes "bad_name" ∷ codes "bad_alg"
    ∷ codes "bad_trunc" ∷ codes "bad_cookie" ∷ codes "unknown" ∷ []

-- whether a look-up in the zone found its name: NoError, or NXDomain (RFC 1035 4.1.1)
abbrev pub lookups : List Labelled
lookups = (codes "true", 0) ∷ (codes "false", 3) ∷ []

-- classes (RFC 1035 3.2.4 and 3.2.5, RFC 2136 2.4)
abbrev pub classes : List Labelled
classes = (codes "in", 1) ∷ (codes "ch", 3) ∷ (codes "hs", 4) ∷ (codes "none", 254) ∷ (codes "any", 255) ∷ []

-- types of records and questions (the registry of RFC 6895 3.1)
abbrev pub types : List Labelled
types =
    (codes "zero", 0) ∷ (codes "a", 1) ∷ (codes "ns", 2) ∷ (codes "cname", 5) ∷ (codes "soa", 6) ∷ (codes "null", 10)
    ∷ (codes "ptr", 12) ∷ (codes "hinfo", 13) ∷ (codes "mx", 15) ∷ (codes "txt", 16) ∷ (codes "sig", 24)
    ∷ (codes "key", 25) ∷ (codes "aaaa", 28) ∷ (codes "srv", 33) ∷ (codes "naptr", 35) ∷ (codes "cert", 37)
    ∷ (codes "opt", 41) ∷ (codes "ds", 43) ∷ (codes "sshfp", 44) ∷ (codes "rrsig", 46) ∷ (codes "nsec", 47)
    ∷ (codes "dnskey", 48) ∷ (codes "nsec3", 50) ∷ (codes "nsec3param", 51) ∷ (codes "tlsa", 52)
    ∷ (codes "smimea", 53) ∷ (codes "cds", 59) ∷ (codes "cdnskey", 60) ∷ (codes "openpgpkey", 61)
    ∷ (codes "csync", 62) ∷ (codes "svcb", 64) ∷ (codes "https", 65) ∷ (codes "tsig", 250) ∷ (codes "ixfr", 251)
    ∷ (codes "axfr", 252) ∷ (codes "any", 255) ∷ (codes "caa", 257) ∷ (codes "aname", 65305) ∷ []

-- one for what is so
abbrev pub unit : Bool → ℕ
unit b = if b then 1 else 0

-- the flags of a header (RFC 1035 4.1.1, RFC 4035 3.1.6 and 3.2.2)
abbrev pub flag_labels : List (List ℕ)
flag_labels = codes "aa" ∷ codes "ad" ∷ codes "cd" ∷ codes "ra" ∷ codes "rd" ∷ codes "tc" ∷ []

abbrev pub flags_of : Header → List ℕ
flags_of h = unit h.aa ∷ unit h.ad ∷ unit h.cd ∷ unit h.ra ∷ unit h.rd ∷ unit h.tc ∷ []

-- the flags of the third and fourth byte of a message, read as one number
abbrev pub flags_in : ℕ → List ℕ
flags_in word =
    word / 0x0400 % 2 ∷ word / 0x0020 % 2 ∷ word / 0x0010 % 2 ∷ word / 0x0080 % 2 ∷ word / 0x0100 % 2 ∷ word / 0x0200 % 2 ∷ []

-- transports
abbrev pub protocol_labels : List (List ℕ)
protocol_labels = codes "udp" ∷ codes "tcp" ∷ codes "tls" ∷ codes "https" ∷ codes "quic" ∷ codes "http3" ∷ []

abbrev pub label_of_protocol : Protocol → List ℕ
label_of_protocol Udp = codes "udp"
label_of_protocol Tcp = codes "tcp"
label_of_protocol Tls = codes "tls"
label_of_protocol Https = codes "https"
label_of_protocol Quic = codes "quic"
label_of_protocol H3 = codes "http3"

-- one for the label of the transport
abbrev pub protocol_units : Protocol → List ℕ
protocol_units p = map (λ label. unit (bytes_eq label (label_of_protocol p))) protocol_labels
