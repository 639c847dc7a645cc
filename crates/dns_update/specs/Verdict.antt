-- Whether an update may be done: the first rule that it breaks gives the code (RFC 2136 3.1 to 3.4.1).
use Rattle.std.specs.Prelude.{ℕ, List, [], ◌∷◌, filter, map, Bool, true, false, ◌==◌, ◌&&◌, ◌||◌, not, if◌then◌else◌}
use Rattle.std.specs.List.{list_any, list_all}
use Rattle.dns_name.specs.Name.{is_same_name, is_at_or_below}
use Rattle.dns_wire.specs.declared.rdata.Data.{Data}
use Rattle.dns_wire.specs.declared.rdata.Data.TheVariants.{Empty}
use Rattle.dns_wire.specs.declared.record.Record.{Record}
use Rattle.dns_wire.specs.declared.question.Question.{Question}
use Rattle.dns_wire.specs.declared.message.Message.{Message}
use Rattle.dns_wire.specs.declared.class.TheConstants as class
use Rattle.dns_wire.specs.declared.record_type.TheConstants as record_type
use Rattle.dns_wire.specs.declared.record_type.TheConstants.{SOA}
use Rattle.dns_wire.specs.declared.response_code.TheConstants.{FORM_ERR, NX_DOMAIN, REFUSED, YX_DOMAIN, YX_RR_SET, NX_RR_SET, NOT_AUTH, NOT_ZONE}
use Rattle.dns_zone_map.specs.SameData.{data_eq}
use Rattle.dns_zone_map.specs.Zone.{Contents, is_meta, set_of}
use Rattle.dns_zone_map.specs.Existence.{owns_type}
use Rattle.dns_update.specs.declared.verdict.Verdict.{Verdict}
use Rattle.dns_update.specs.declared.verdict.Verdict.TheVariants.{Fails, Passes}
use Rattle.dns_zone_map.specs.Changes.{bears}
use Rattle.dns_update.specs.Change.{fold_record}

-- no data
abbrev pub is_empty : Data → Bool
is_empty Empty = true
is_empty rdata = false

-- a rule that breaks with this code
abbrev pub demand : Bool → ℕ → Verdict
demand true code = Passes
demand false code = Fails code

-- one rule, and then another
abbrev pub and_then : Verdict → Verdict → Verdict
and_then Passes next = next
and_then (Fails code) next = Fails code

-- one rule at each record in turn
abbrev pub in_turn : (Record → Verdict) → List Record → Verdict
in_turn rule [] = Passes
in_turn rule (r ∷ rs) = and_then (rule r) (in_turn rule rs)

-- the zone section names the zone by its SOA, and updates are let in (RFC 2136 3.1.1, 3.1.2, 3.3)
abbrev pub zone_rule : List (List ℕ) → Bool → Question → Verdict
zone_rule origin allow_update q =
    if not (q.qtype == SOA) then Fails FORM_ERR
    else if not (is_same_name q.name origin && (q.qclass == class.IN)) then Fails NOT_AUTH
    else demand allow_update REFUSED

-- there is one question in the zone section (RFC 2136 3.1.1)
abbrev pub section_rule : List (List ℕ) → Bool → List Question → Verdict
section_rule origin allow_update [] = Fails FORM_ERR
section_rule origin allow_update (q ∷ []) = zone_rule origin allow_update q
section_rule origin allow_update (q ∷ p ∷ qs) = Fails FORM_ERR

-- a name is in use where it owns a record (RFC 2136 2.4.4)
abbrev pub is_in_use : List Record → List (List ℕ) → Bool
is_in_use records name = list_any (bears name) records

-- a name, or a set of records, must exist (RFC 2136 2.4.1, 2.4.4)
abbrev pub existence_rule : List Record → Record → Verdict
existence_rule records r =
    if not (is_empty r.rdata) then Fails FORM_ERR
    else if r.rtype == record_type.ANY then demand (is_in_use records r.name) NX_DOMAIN
    else demand (owns_type records r.name r.rtype) NX_RR_SET

-- a name, or a set of records, must not exist (RFC 2136 2.4.3, 2.4.5)
abbrev pub absence_rule : List Record → Record → Verdict
absence_rule records r =
    if not (is_empty r.rdata) then Fails FORM_ERR
    else if r.rtype == record_type.ANY then demand (not (is_in_use records r.name)) YX_DOMAIN
    else demand (not (owns_type records r.name r.rtype)) YX_RR_SET

-- one prerequisite (RFC 2136 3.2.5); those of class IN are gathered
abbrev pub prerequisite_rule : List (List ℕ) → List Record → Record → Verdict
prerequisite_rule origin records r =
    if not (r.ttl == 0) then Fails FORM_ERR
    else if not (is_at_or_below r.name origin) then Fails NOT_ZONE
    else if r.class == class.ANY then existence_rule records r
    else if r.class == class.NONE then absence_rule records r
    else demand ((r.class == class.IN) && not (is_empty r.rdata)) FORM_ERR

-- the prerequisites of class IN, whose sets must exist with that data (RFC 2136 2.4.2); their names are folded
abbrev pub is_gathered : Record → Bool
is_gathered r = r.class == class.IN

abbrev pub gathered_of : List Record → List Record
gathered_of prerequisites = map fold_record (filter is_gathered prerequisites)

-- a record's data is that of one of the records
abbrev pub has_data : List Record → Record → Bool
has_data records r = list_any (λ s. data_eq s.rdata r.rdata) records

-- two lists of records are one set of data
abbrev pub is_same_set : List Record → List Record → Bool
is_same_set set other = list_all (has_data other) set && list_all (has_data set) other

-- the set that was gathered for a record's name and type is that of the zone
abbrev pub set_rule : List Record → List Record → Record → Verdict
set_rule records gathered r = demand (is_same_set (set_of gathered r.name r.rtype) (set_of records r.name r.rtype)) NX_RR_SET

-- each gathered set is that of the zone (RFC 2136 3.2.3)
abbrev pub gathered_rule : List Record → List Record → Verdict
gathered_rule records gathered = in_turn (set_rule records gathered) gathered

-- an addition has data and a type that a zone may have
abbrev pub is_addition : Record → Bool
is_addition r = not (is_meta r.rtype) && not (is_empty r.rdata)

-- a deletion of a set or of a name has no data, and TTL 0
abbrev pub is_deletion_of_sets : Record → Bool
is_deletion_of_sets r = (r.ttl == 0) && (is_empty r.rdata && ((r.rtype == record_type.ANY) || not (is_meta r.rtype)))

-- a deletion of a record has data, and TTL 0
abbrev pub is_deletion_of_record : Record → Bool
is_deletion_of_record r = (r.ttl == 0) && (not (is_meta r.rtype) && not (is_empty r.rdata))

-- a record has the form that its class asks of an update record
abbrev pub is_update : Record → Bool
is_update r =
    if r.class == class.IN then is_addition r
    else if r.class == class.ANY then is_deletion_of_sets r
    else (r.class == class.NONE) && is_deletion_of_record r

-- one update record, before any is done (RFC 2136 3.4.1)
abbrev pub prescan_rule : List (List ℕ) → Record → Verdict
prescan_rule origin r = if not (is_at_or_below r.name origin) then Fails NOT_ZONE else demand (is_update r) FORM_ERR

-- the prescan, each update record in turn
abbrev pub prescan : List (List ℕ) → List Record → Verdict
prescan origin updates = in_turn (prescan_rule origin) updates

-- the prerequisites, and then the sets that they gather
abbrev pub prerequisites_rule : Contents → List Record → Verdict
prerequisites_rule zone prerequisites =
    and_then (in_turn (prerequisite_rule zone.origin zone.records) prerequisites) (gathered_rule zone.records (gathered_of prerequisites))

-- the prerequisites, and then the prescan
abbrev pub records_rule : Contents → Message → Verdict
records_rule zone message = and_then (prerequisites_rule zone message.answers) (prescan zone.origin message.authority)

-- the verdict on an update: its prerequisites are the answers of the message, its update records the authority (RFC 2136 2)
abbrev pub verdict_of : Contents → Message → Bool → Verdict
verdict_of zone message allow_update = and_then (section_rule zone.origin allow_update message.questions) (records_rule zone message)
