-- The serial that a batch leaves is the zone's.
use Rattle.std.proofs.Common.{◌≡◌, ℕ, List, [], ◌∷◌, refl, ◌∙◌, Bool, true, false}
use Rattle.std.specs.Prelude.{◌==◌, ◌||◌}
use Rattle.std.specs.List.{list_any, AllByRecursion}
use Rattle.dns_wire.specs.declared.record.Record.{Record}
use Rattle.dns_wire.specs.declared.rdata.Data.{Data}
use Rattle.dns_wire.specs.declared.rdata.Data.TheVariants.{A, Aaaa, Ns, Cname, Ptr, Mx, Srv, Soa, Txt, Opaque, Empty}
use Rattle.dns_wire.specs.declared.rdata.Form.TheVariants as form
use Rattle.dns_wire.specs.Forms.{variant_of}
use Rattle.dns_zone_map.specs.Zone.{is_type, serial_or, serial_of, IsEntry, IsZone, IsSoFar}
use Rattle.dns_zone_map.specs.Changes.{data_at, set_serial}
use Rattle.dns_update.specs.Change.{steps, applied}
use Rattle.dns_update.specs.Replay.{IsJournalledAsIs}
use Rattle.dns_update.proofs.Zones.{steps_so_far, steps_soa}
use Rattle.dns_update.proofs.ZoneSerials.{other_serial, soa_form}

set_own : (k : ℕ) (d : Data) (other : ℕ) → form.Soa ≡ variant_of d → serial_or (data_at k d) other ≡ k
set_own k (A address) other h = absurd cc
set_own k (Aaaa address) other h = absurd cc
set_own k (Ns host) other h = absurd cc
set_own k (Cname target) other h = absurd cc
set_own k (Ptr target) other h = absurd cc
set_own k (Mx preference exchange) other h = absurd cc
set_own k (Srv priority weight port target) other h = absurd cc
set_own k (Soa serial mname rname refresh retry expire minimum) other h = refl
set_own k (Txt texts) other h = absurd cc
set_own k (Opaque bytes) other h = absurd cc
set_own k Empty other h = absurd cc

set_if : (soa : Bool) (origin : List (List ℕ)) (k : ℕ) (r : Record) (records : List Record) → (r.rtype == 6) ≡ soa → IsEntry origin r → (soa || list_any (is_type 6) records) ≡ true
    → (list_any (is_type 6) records ≡ true → serial_of (set_serial k records) ≡ k) → serial_of (set_serial k (r ∷ records)) ≡ k
set_if true origin k r records soa entry some rest = rw soa (set_own k r.rdata (serial_of (set_serial k records)) (soa_form origin r entry soa))
set_if false origin k r records soa entry some rest = rw soa (other_serial origin r (serial_of (set_serial k records)) entry soa ∙ rest some)

serial_set : (origin : List (List ℕ)) (k : ℕ) (records : List Record) → AllByRecursion (IsEntry origin) records → list_any (is_type 6) records ≡ true → serial_of (set_serial k records) ≡ k
serial_set origin k [] entries some = absurd cc
serial_set origin k (r ∷ records) entries some = set_if (r.rtype == 6) origin k r records refl entries.0 some (serial_set origin k records entries.1)

pub applied_serial : (origin : List (List ℕ)) (records : List Record) (batch : List Record) (serial : ℕ) → IsZone origin records → AllByRecursion (IsJournalledAsIs origin) batch → serial_of (applied origin records batch serial) ≡ serial
applied_serial origin records batch serial zone all =
    let before : IsSoFar origin records = record { entries = zone.entries; distinct = zone.distinct } in
    let after = steps_so_far origin records batch all before in
    serial_set origin serial (steps origin records batch) after.entries (steps_soa origin records batch all before zone.soa)
