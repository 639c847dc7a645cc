-- How long the messages that are drawn are.
use Rattle.std.proofs.Common.{◌≡◌, ℕ, ◌+◌, ◌≤◌, List, [], ◌∷◌, ◌++◌, length, refl, arith}
use Rattle.std.proofs.lemmas.List.{length-append}
use Rattle.std.proofs.lemmas.List.Sums.{sum_by-cons}
use Rattle.std.specs.List.{sum_by}
use Rattle.std.specs.Int.{w16, to_be_bytes}
use Rattle.dns_name.specs.Name.{name_bytes, name_len}
use Rattle.dns_name.proofs.Lengths.{length_name_bytes}
use Rattle.dns_wire.specs.declared.header.Header.{Header}
use Rattle.dns_wire.specs.declared.question.Question.{Question}
use Rattle.dns_wire.specs.declared.record.Record.{Record}
use Rattle.dns_wire.specs.Header.{header_bytes}
use Rattle.dns_wire.specs.MessageBytes.{message_bytes, counted}
use Rattle.dns_wire.specs.WireFormat.{question_bytes, record_bytes, records_bytes, data_bytes}
use Rattle.dns_wire.proofs.Back.{record_size}
use Rattle.dns_generator.specs.Draws.{host_number}
use Rattle.dns_generator.specs.Requests.{host_label, host_of, origin_name, request, query, update, addition, deletion}
use Rattle.dns_generator.proofs.Hosts.{length_host_label}

question_size : (q : Question) → length (question_bytes q) ≡ length (name_bytes q.name) + 4
question_size q = omega (arith, length-append (name_bytes q.name ++ to_be_bytes w16 q.qtype) (to_be_bytes w16 q.qclass), length-append (name_bytes q.name) (to_be_bytes w16 q.qtype))

head_size : (h : Header) → length (header_bytes h) ≡ 12
head_size h = refl

request_size : (h : Header) (q : Question) (us : List Record) → length (message_bytes (request h q us)) ≡ 12 + length (question_bytes q) + length (records_bytes us)
request_size h q us =
    omega (
      arith,
      head_size (counted (request h q us)).header,
      length-append (header_bytes (counted (request h q us)).header) ((question_bytes q ++ []) ++ (records_bytes us ++ [])),
      length-append (question_bytes q ++ []) (records_bytes us ++ []),
      length-append (question_bytes q) [],
      length-append (records_bytes us) [],
    )

host_size : (draw : ℕ) → length (name_bytes (host_of draw)) ≤ 17
host_size draw =
    let short = length_host_label (host_number draw) (omega arith) in
    let all : sum_by length (host_of draw) ≡ length (host_label (host_number draw)) + sum_by length origin_name = sum_by-cons length (host_label (host_number draw)) origin_name in
    let rest : sum_by length origin_name ≡ 10 = refl in
    let count : length (host_of draw) ≡ 3 = refl in
    let size : name_len (host_of draw) ≡ sum_by length (host_of draw) + length (host_of draw) + 1 = refl in
    omega (arith, short, all, rest, count, size, length_name_bytes (host_of draw))

origin_size : length (name_bytes origin_name) ≡ 13
origin_size = refl

pub short_query : (number draw : ℕ) → length (message_bytes (query number draw)) ≤ 65535
short_query number draw =
    let m = query number draw in
    let q : Question = record { name = host_of draw; qtype = 1; qclass = 1 } in
    omega (arith, request_size m.header q [], question_size q, host_size draw)

one_size : (r : Record) → length (records_bytes (r ∷ [])) ≡ length (name_bytes r.name) + 10 + length (data_bytes r.rdata)
one_size r = omega (arith, length-append (record_bytes r) [], record_size r)

update_size : (number : ℕ) (r : Record) → length (message_bytes (update number r)) ≡ 29 + length (records_bytes (r ∷ []))
update_size number r =
    let m = update number r in
    let q : Question = record { name = origin_name; qtype = 6; qclass = 1 } in
    omega (arith, request_size m.header q (r ∷ []), question_size q, origin_size)

pub short_addition : (number draw : ℕ) → length (message_bytes (update number (addition draw))) ≤ 65535
short_addition number draw =
    let size : length (data_bytes (addition draw).rdata) ≡ 4 = refl in
    omega (arith, size, update_size number (addition draw), one_size (addition draw), host_size draw)

pub short_deletion : (number draw : ℕ) → length (message_bytes (update number (deletion draw))) ≤ 65535
short_deletion number draw =
    let size : length (data_bytes (deletion draw).rdata) ≡ 0 = refl in
    omega (arith, size, update_size number (deletion draw), one_size (deletion draw), host_size draw)
