-- What the counters are told of a message and its reply.
use Rattle.std.specs.Prelude.{ℕ, List, length, map, take, Option, Some, None}
use Rattle.dns_wire.specs.declared.record.Record.{Record}
use Rattle.dns_wire.specs.declared.reply.Reply.{Reply}
use Rattle.dns_wire.specs.Standing.{word_at}
use Rattle.dns_zone_map.specs.Zone.{Contents}
use Rattle.dns_counts.specs.declared.asked.Asked.{Asked}
use Rattle.dns_counts.specs.declared.asked.Replied.{Replied}
use Rattle.dns_counts.specs.Counters.{no_counts, recorded, changed}
use Rattle.dns_book.specs.declared.decision.Case.{Case}
use Rattle.dns_book.specs.declared.decision.Case.TheVariants.{ShutOut, Malformed, UnsupportedVersion, NotImplemented, NotOneQuestion, Foreign, Query, Update}
use Rattle.dns_book.specs.declared.decision.Decision.{Decision}
use Rattle.dns_update.specs.Modified.{modified_of}
use Rattle.dns_book.specs.Owed.{Grounds, reply_of}
pub use Rattle.dns_store.specs.Store.{zone_with}

-- the type and class of the question that is counted: that of a query with exactly one
abbrev pub counted_question : Case → Option (ℕ × ℕ)
counted_question (ShutOut q) = None
counted_question Malformed = None
counted_question (UnsupportedVersion q) = None
counted_question (NotImplemented q) = None
counted_question NotOneQuestion = None
counted_question (Foreign q) = Some (q.qtype, q.qclass)
counted_question (Query q) = Some (q.qtype, q.qclass)
counted_question (Update m) = None

-- what is told of a message
abbrev pub asked_of : Decision → Asked
asked_of d = record { protocol = d.request.protocol; header = d.request.header; question = counted_question d.case }

-- the type and class of each of the first records of a list
abbrev pub kinds_of : ℕ → List Record → List (ℕ × ℕ)
kinds_of count records = map (λ r. (r.rtype, r.class)) (take count records)

-- what is told of a reply that was written: the flags of its header, and the answers that its header counts (RFC 1035 4.1.1)
abbrev pub replied_of : Reply → List ℕ → Replied
replied_of reply bytes = record { code = reply.code; flags = word_at bytes 2; answers = kinds_of (word_at bytes 6) reply.answers }

-- the counts after a message: a reply is counted once, and no reply leaves them
abbrev pub counts_after : Grounds → Option Decision → Option (List ℕ) → List (List ℕ) → List (List ℕ)
counts_after grounds (Some d) (Some bytes) before = recorded (asked_of d) (replied_of (reply_of grounds d) bytes) before
counts_after grounds (Some d) None before = before
counts_after grounds None bytes before = before

-- the counts after a batch of this zone: how many of its records did what, and how many records the zone then has
abbrev pub counts_with : Contents → List Record → List (List ℕ) → List (List ℕ)
counts_with zone batch before =
    let modified = modified_of zone.origin zone.records batch in
    changed (record {
      added = modified.added;
      deleted = modified.deleted;
      updated = modified.updated;
      records = length (zone_with zone batch).records;
    }) before

-- the counts of a book that was opened: nothing but how many records its zone has
abbrev pub counts_of_zone : List Record → List (List ℕ)
counts_of_zone records = changed (record { added = 0; deleted = 0; updated = 0; records = length records }) no_counts
