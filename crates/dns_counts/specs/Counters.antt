-- The counters: what each is called, its labels, and what raises or sets the count of each label.
use Rattle.std.specs.Prelude.{ℕ, List, [], ◌∷◌, ◌++◌, length, map, filter, replicate, Option, None, Some, Bool, false, not, ◌==◌, if◌then◌else◌, codes}
use Rattle.std.specs.Str.{bytes_eq}
use Rattle.std.specs.List.{list_any}
use Rattle.dns_counts.specs.declared.asked.Asked.{Asked}
use Rattle.dns_counts.specs.declared.asked.Replied.{Replied}
use Rattle.dns_counts.specs.Counting.{grown, seen_of, seen_or_unknown}
use Rattle.dns_counts.specs.Labels.{labels_of, codes_of, unknown, operations, response_codes, unused_codes, lookups, classes, types, flag_labels, flags_of, flags_in, protocol_labels, protocol_units}

-- a batch that changed the zone: how many of its records were added, deleted and updated, and how many records the zone has then
pub record Change : Type 0 where
  pub added : ℕ
  pub deleted : ℕ
  pub updated : ℕ
  pub records : ℕ

pub record Counter : Type 0 where
  pub name : List ℕ
  pub labels : List (List ℕ)
  -- by how much a reply raises the count of each label
  pub growth : Asked → Replied → List ℕ
  -- the counts after a batch
  pub after : Change → List ℕ → List ℕ

-- a counter of what is asked and replied, which no batch changes
abbrev pub of_replies : List ℕ → List (List ℕ) → (Asked → Replied → List ℕ) → Counter
of_replies name labels growth = record { name = name; labels = labels; growth = growth; after = λ change counts. counts }

-- a counter of the zone, which no reply changes
abbrev pub of_zone : List ℕ → List (List ℕ) → (Change → List ℕ → List ℕ) → Counter
of_zone name labels after = record { name = name; labels = labels; growth = λ asked replied. []; after = after }

-- a counter that is kept for its name alone: it has the empty label alone, and counts nothing
abbrev pub idle : List ℕ → Counter
idle name = of_zone name ([] ∷ []) (λ change counts. counts)

-- the question, where it is counted
abbrev pub questions : Option (ℕ × ℕ) → List (ℕ × ℕ)
questions None = []
questions (Some question) = question ∷ []

-- the answers, which are counted where the question is
abbrev pub answers_to : Option (ℕ × ℕ) → List (ℕ × ℕ) → List (ℕ × ℕ)
answers_to None answers = []
answers_to (Some question) answers = answers

-- the response code of a look-up in the zone: that of a reply whose question is counted
abbrev pub codes_to : Option (ℕ × ℕ) → ℕ → List ℕ
codes_to None code = []
codes_to (Some question) code = code ∷ []

-- the first of each pair: the type
abbrev pub types_in : List (ℕ × ℕ) → List ℕ
types_in pairs = map (λ one. one.0) pairs

-- the second of each pair: the class
abbrev pub classes_in : List (ℕ × ℕ) → List ℕ
classes_in pairs = map (λ one. one.1) pairs

-- records that have a class: an OPT has a payload size in its place (RFC 6891 6.1.2)
abbrev pub classed : List (ℕ × ℕ) → List (ℕ × ℕ)
classed pairs = filter (λ one. not (one.0 == 41)) pairs

-- the counters, in the order in which their counts stand
unfoldable pub counters : List Counter
counters =
    of_replies (codes "hickory_request_flags_total") flag_labels (λ asked replied. flags_of asked.header)
    ∷ of_replies (codes "hickory_response_flags_total") flag_labels (λ asked replied. flags_in replied.flags)
    ∷ of_replies (codes "hickory_request_operations_total") (labels_of operations ++ unknown)
    (λ asked replied. seen_or_unknown (codes_of operations) (asked.header.opcode ∷ []))
    ∷ of_replies (codes "hickory_response_codes_total") (labels_of response_codes ++ unused_codes)
    (λ asked replied. seen_of (codes_of response_codes) (replied.code ∷ []))
    ∷ of_replies (codes "hickory_zone_lookups_total") (labels_of lookups)
    (λ asked replied. seen_of (codes_of lookups) (codes_to asked.question replied.code))
    ∷ of_replies (codes "hickory_request_dns_classes_total") (labels_of classes ++ unknown)
    (λ asked replied. seen_or_unknown (codes_of classes) (classes_in (questions asked.question)))
    ∷ of_replies (codes "hickory_response_dns_classes_total") (labels_of classes ++ unknown)
    (λ asked replied. seen_or_unknown (codes_of classes) (classes_in (classed (answers_to asked.question replied.answers))))
    ∷ of_replies (codes "hickory_request_record_types_total") (labels_of types ++ unknown)
    (λ asked replied. seen_or_unknown (codes_of types) (types_in (questions asked.question)))
    ∷ of_replies (codes "hickory_response_record_types_total") (labels_of types ++ unknown)
    (λ asked replied. seen_or_unknown (codes_of types) (types_in (answers_to asked.question replied.answers)))
    ∷ of_zone (codes "hickory_zone_records_total") (codes "file" ∷ [])
    (λ change counts. change.records ∷ [])
    ∷ of_zone (codes "hickory_zone_records_modified_total") (codes "added" ∷ codes "updated" ∷ codes "deleted" ∷ [])
    (λ change counts. grown counts (change.added ∷ change.updated ∷ change.deleted ∷ []))
    ∷ of_replies (codes "hickory_request_protocols_total") protocol_labels (λ asked replied. protocol_units asked.protocol)
    ∷ idle (codes "hickory_blocklist_list_entries_total")
    ∷ idle (codes "hickory_blocklist_blocked_queries_total")
    ∷ idle (codes "hickory_blocklist_logged_queries_total")
    ∷ idle (codes "hickory_blocklist_list_hits_total")
    ∷ idle (codes "hickory_blocklist_queries_total")
    ∷ []

-- the counts of each counter after a step
abbrev pub each : (Counter → List ℕ → List ℕ) → List Counter → List (List ℕ) → List (List ℕ)
each step [] rest = rest
each step (counter ∷ others) [] = []
each step (counter ∷ others) (counts ∷ rest) = step counter counts ∷ each step others rest

-- nothing was counted yet: a zero for each label
abbrev pub no_counts : List (List ℕ)
no_counts = map (λ counter. replicate (length counter.labels) 0) counters

-- the counts after a reply
abbrev pub recorded : Asked → Replied → List (List ℕ) → List (List ℕ)
recorded asked replied before = each (λ counter counts. grown counts (counter.growth asked replied)) counters before

-- the counts after a batch
abbrev pub changed : Change → List (List ℕ) → List (List ℕ)
changed change before = each (λ counter counts. counter.after change counts) counters before

-- the count at the place of a label
abbrev pub count_at : List (List ℕ) → List ℕ → List ℕ → Option ℕ
count_at [] counts label = None
count_at (known ∷ labels) [] label = None
count_at (known ∷ labels) (count ∷ counts) label = if bytes_eq label known then Some count else count_at labels counts label

-- the count at the places of a counter's name and of a label of it
abbrev pub find_count : List Counter → List (List ℕ) → List ℕ → List ℕ → Option ℕ
find_count [] all name label = None
find_count (counter ∷ others) [] name label = None
find_count (counter ∷ others) (counts ∷ rest) name label =
    if bytes_eq name counter.name then count_at counter.labels counts label else find_count others rest name label

-- what the counts say for a name and a label: none where no counter has that name or it has no such label
abbrev pub count_of : List (List ℕ) → List ℕ → List ℕ → Option ℕ
count_of counts name label = find_count counters counts name label

-- whether the counter of this name has this label; none has a label where no counter has the name
abbrev pub has_label_in : List Counter → List ℕ → List ℕ → Bool
has_label_in [] name label = false
has_label_in (counter ∷ others) name label =
    if bytes_eq name counter.name then list_any (λ known. bytes_eq label known) counter.labels else has_label_in others name label

abbrev pub has_label : List ℕ → List ℕ → Bool
has_label name label = has_label_in counters name label
