-- A name that owns sets exists.
use Rattle.std.proofs.Common.{◌≡◌, ℕ, ◌<◌, List, [], ◌∷◌, length, refl, ◌∙◌, arith, true}
use Rattle.std.specs.Prelude.{◌==◌}
use Rattle.std.proofs.lemmas.Bool.Decides.{Decides-eqb}
use Rattle.dns_wire.specs.declared.record.Record.{Record}
use Rattle.dns_zone_map.specs.declared.sets.RecordSet.{RecordSet}
use Rattle.dns_zone_map.specs.Existence.{exists}
use Rattle.dns_zone_map.specs.Sets.{AreSetsOf}
use Rattle.dns_zone_map.proofs.Owned.{owned_is}
use Rattle.dns_zone.proofs.Absent.{owned_exists}

-- a name that has a set is there
pub sets_exist : (records : List Record) (name : List (List ℕ)) (sets : List RecordSet) → AreSetsOf records name sets → 0 < length sets → exists records name ≡ true
sets_exist records name [] own some = absurd (omega arith)
sets_exist records name (s ∷ sets) own some =
    let same : (s.rtype == s.rtype) ≡ true = (Decides-eqb s.rtype s.rtype).1 refl in
    owned_exists records name s.rtype (owned_is records name (s ∷ sets) s.rtype own ∙ rw same refl)
