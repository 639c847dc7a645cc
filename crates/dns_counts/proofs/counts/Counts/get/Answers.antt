use Rattle.std.proofs.Common.{◌≡◌, ℕ, List, Bool, true, false, refl}
use Rattle.std.specs.Prelude.{codes}
use Rattle.std.specs.Str.{bytes_eq}
use Rattle.std.proofs.lemmas.Slice.Eq.{bytes_eq-Decides}
use Rattle.dns_counts.specs.Counters.{counters}
use Rattle.dns_counts.proofs.counts.Counts.get.Goals as goal

not_true : (b : Bool) → (b ≡ true → ⊥) → b ≡ false
not_true true never = absurd (never refl)
not_true false never = refl

-- a name that is not this one
differ : (name known : List ℕ) → (name ≡ known → ⊥) → bytes_eq name known ≡ false
differ name known other = not_true (bytes_eq name known) (λ same. other ((bytes_eq-Decides name known).0 same))

pub returns-in_default-clause-found : goal.returns-in_default-clause-found
unfolding counters
returns-in_default-clause-found c =
    let n0 : bytes_eq c.args.name.now (codes "hickory_request_flags_total") ≡ false = differ c.args.name.now (codes "hickory_request_flags_total") c.in_default.not-hickory_request_flags_total in
    let n1 : bytes_eq c.args.name.now (codes "hickory_response_flags_total") ≡ false = differ c.args.name.now (codes "hickory_response_flags_total") c.in_default.not-hickory_response_flags_total in
    let n2 : bytes_eq c.args.name.now (codes "hickory_request_operations_total") ≡ false = differ c.args.name.now (codes "hickory_request_operations_total") c.in_default.not-hickory_request_operations_total in
    let n3 : bytes_eq c.args.name.now (codes "hickory_response_codes_total") ≡ false = differ c.args.name.now (codes "hickory_response_codes_total") c.in_default.not-hickory_response_codes_total in
    let n4 : bytes_eq c.args.name.now (codes "hickory_zone_lookups_total") ≡ false = differ c.args.name.now (codes "hickory_zone_lookups_total") c.in_default.not-hickory_zone_lookups_total in
    let n5 : bytes_eq c.args.name.now (codes "hickory_request_dns_classes_total") ≡ false = differ c.args.name.now (codes "hickory_request_dns_classes_total") c.in_default.not-hickory_request_dns_classes_total in
    let n6 : bytes_eq c.args.name.now (codes "hickory_response_dns_classes_total") ≡ false = differ c.args.name.now (codes "hickory_response_dns_classes_total") c.in_default.not-hickory_response_dns_classes_total in
    let n7 : bytes_eq c.args.name.now (codes "hickory_request_record_types_total") ≡ false = differ c.args.name.now (codes "hickory_request_record_types_total") c.in_default.not-hickory_request_record_types_total in
    let n8 : bytes_eq c.args.name.now (codes "hickory_response_record_types_total") ≡ false = differ c.args.name.now (codes "hickory_response_record_types_total") c.in_default.not-hickory_response_record_types_total in
    let n9 : bytes_eq c.args.name.now (codes "hickory_zone_records_total") ≡ false = differ c.args.name.now (codes "hickory_zone_records_total") c.in_default.not-hickory_zone_records_total in
    let n10 : bytes_eq c.args.name.now (codes "hickory_zone_records_modified_total") ≡ false = differ c.args.name.now (codes "hickory_zone_records_modified_total") c.in_default.not-hickory_zone_records_modified_total in
    let n11 : bytes_eq c.args.name.now (codes "hickory_request_protocols_total") ≡ false = differ c.args.name.now (codes "hickory_request_protocols_total") c.in_default.not-hickory_request_protocols_total in
    let n12 : bytes_eq c.args.name.now (codes "hickory_blocklist_list_entries_total") ≡ false = differ c.args.name.now (codes "hickory_blocklist_list_entries_total") c.in_default.not-hickory_blocklist_list_entries_total in
    let n13 : bytes_eq c.args.name.now (codes "hickory_blocklist_blocked_queries_total") ≡ false = differ c.args.name.now (codes "hickory_blocklist_blocked_queries_total") c.in_default.not-hickory_blocklist_blocked_queries_total in
    let n14 : bytes_eq c.args.name.now (codes "hickory_blocklist_logged_queries_total") ≡ false = differ c.args.name.now (codes "hickory_blocklist_logged_queries_total") c.in_default.not-hickory_blocklist_logged_queries_total in
    let n15 : bytes_eq c.args.name.now (codes "hickory_blocklist_list_hits_total") ≡ false = differ c.args.name.now (codes "hickory_blocklist_list_hits_total") c.in_default.not-hickory_blocklist_list_hits_total in
    let n16 : bytes_eq c.args.name.now (codes "hickory_blocklist_queries_total") ≡ false = differ c.args.name.now (codes "hickory_blocklist_queries_total") c.in_default.not-hickory_blocklist_queries_total in
    rw (n0, n1, n2, n3, n4, n5, n6, n7, n8, n9, n10, n11, n12, n13, n14, n15, n16) refl
