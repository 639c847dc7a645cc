-- Records that are put one by one into an empty map are its list.
use Rattle.std.proofs.Common.{◌≡◌, ℕ, false, List, [], ◌∷◌, ◌++◌, refl, ap, ◌∙◌, append_assoc}
use Rattle.std.specs.List.{IsDistinct, list_any}
use Rattle.dns_wire.specs.declared.record.Record.{Record}
use Rattle.dns_zone_map.specs.Zone.{is_rival, IsEntry, IsSoFar}
use Rattle.dns_zone_map.specs.Changes.{put_over}
use Rattle.dns_zone_map.proofs.Putting.{put_end}
use Rattle.dns_zone_map.proofs.Rivals.{is_rival-turned}
use Rattle.dns_zone_map.proofs.Rest.{all_back}

no_rival : (one : Record) (front back : List Record) → IsDistinct is_rival (front ++ one ∷ back) → list_any (is_rival one) front ≡ false
unfolding IsDistinct
no_rival one [] back h = refl
no_rival one (r ∷ front) back h =
    let apart : is_rival one r ≡ false = is_rival-turned one r ∙ (all_back (λ s. is_rival r s ≡ false) front (one ∷ back) h.0).0 in
    rw apart (no_rival one front back h.1)

-- the next record is an entry
pub next_entry : (origin : List (List ℕ)) (front back : List Record) (one : Record) → IsSoFar origin (front ++ one ∷ back) → IsEntry origin one
next_entry origin front back one h = (all_back (IsEntry origin) front (one ∷ back) h.entries).0

-- and comes to the end
pub next_end : (origin : List (List ℕ)) (front back : List Record) (one : Record) → IsSoFar origin (front ++ one ∷ back) → put_over (is_rival one) one front ++ back ≡ front ++ one ∷ back
next_end origin front back one h = ap (λ (rs : List Record). rs ++ back) (put_end (is_rival one) one front (no_rival one front back h.distinct)) ∙ append_assoc front (one ∷ []) back

-- no records may become those of a zone
pub none_so_far : (origin : List (List ℕ)) → IsSoFar origin []
unfolding IsDistinct
none_so_far origin = record { entries = tt; distinct = tt }
