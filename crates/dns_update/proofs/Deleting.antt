-- What deletions take.
use Rattle.std.proofs.Common.{◌≡◌, ℕ, List, [], ◌∷◌, refl, sym, ap, ◌∙◌, Bool, true, false}
use Rattle.std.specs.Prelude.{not, ◌==◌, ◌&&◌, ◌||◌}
use Rattle.std.proofs.lemmas.Bool.Decides.{Decides-eqb}
use Rattle.dns_name.specs.Name.{fold_of, is_same_name}
use Rattle.dns_name.proofs.SameNames.{is_same_name-Decides}
use Rattle.dns_wire.specs.declared.record.Record.{Record}
use Rattle.dns_zone_map.specs.SameData.{data_eq}
use Rattle.dns_zone_map.specs.Zone.{is_type, is_equal}
use Rattle.dns_zone_map.specs.Changes.{is_taken_with_name, is_taken_with_set}
use Rattle.dns_update.specs.Change.{is_only_ns, is_taken_by_none, is_taken_by_any, is_taken, without}
use Rattle.dns_update.proofs.SameRecords.{both_of}

-- tests that agree leave the same records
pub same_without : (p q : Record → Bool) (records : List Record) → ((s : Record) → p s ≡ q s) → without p records ≡ without q records
same_without p q [] same = refl
same_without p q (s ∷ records) same = rw (same s, same_without p q records same) refl

-- a test that fails takes nothing
pub none_without : (p : Record → Bool) (records : List Record) → ((s : Record) → p s ≡ false) → without p records ≡ records
none_without p [] none = refl
none_without p (s ∷ records) none = rw (none s) (ap (λ (l : List Record). s ∷ l) (none_without p records none))

pub any_name : (origin : List (List ℕ)) (r : Record) (records : List Record) → r.rtype ≡ 255 → without (is_taken_with_name origin r.name) records ≡ without (is_taken_by_any origin r) records
any_name origin r records is =
    let test : (r.rtype == 255) ≡ true = (Decides-eqb r.rtype 255).1 is in
    same_without (is_taken_with_name origin r.name) (is_taken_by_any origin r) records (λ s. rw test refl)

false_unless : (b : Bool) → (b ≡ true → ⊥) → b ≡ false
false_unless true f = absurd (f refl)
false_unless false f = refl

pub any_set : (origin : List (List ℕ)) (r : Record) (records : List Record) → (r.rtype ≡ 255 → ⊥) → without (is_taken_with_set origin r.name r.rtype) records ≡ without (is_taken_by_any origin r) records
any_set origin r records not_any =
    let test : (r.rtype == 255) ≡ false = false_unless (r.rtype == 255) (λ h. not_any ((Decides-eqb r.rtype 255).0 h)) in
    same_without (is_taken_with_set origin r.name r.rtype) (is_taken_by_any origin r) records (λ s. rw test refl)

pub by_any : (origin : List (List ℕ)) (count : ℕ) (r : Record) (records : List Record) → r.class ≡ 255 → without (is_taken_by_any origin r) records ≡ without (is_taken origin count r) records
by_any origin count r records is =
    let test : (r.class == 255) ≡ true = (Decides-eqb r.class 255).1 is in
    same_without (is_taken_by_any origin r) (is_taken origin count r) records (λ s. rw test refl)

pub by_none : (origin : List (List ℕ)) (count : ℕ) (r : Record) (records : List Record) → (r.class ≡ 255 → ⊥) → without (is_taken_by_none origin count r) records ≡ without (is_taken origin count r) records
by_none origin count r records not_any =
    let test : (r.class == 255) ≡ false = false_unless (r.class == 255) (λ h. not_any ((Decides-eqb r.class 255).0 h)) in
    same_without (is_taken_by_none origin count r) (is_taken origin count r) records (λ s. rw test refl)

-- of two equal records both are kept or none is
not_or : (a b : Bool) → (not a && not b) ≡ not (a || b)
not_or true b = refl
not_or false b = refl

kept_alike : (equal : Bool) (origin : List (List ℕ)) (count : ℕ) (r s : Record) → is_equal r s ≡ equal → is_taken_by_none origin count r s ≡ (equal && not ((r.rtype == 6) || is_only_ns origin count r))
kept_alike false origin count r s e = rw e refl
kept_alike true origin count r s e =
    let first = both_of (r.rtype == s.rtype) (is_same_name r.name s.name && data_eq r.rdata s.rdata) e in
    let second = both_of (is_same_name r.name s.name) (data_eq r.rdata s.rdata) first.1 in
    let type : r.rtype ≡ s.rtype = (Decides-eqb r.rtype s.rtype).0 first.0 in
    let name : fold_of r.name ≡ fold_of s.name = (is_same_name-Decides r.name s.name).0 second.0 in
    let soa : is_type 6 s ≡ (r.rtype == 6) = ap (λ (t : ℕ). t == 6) (sym type) in
    let ns : is_only_ns origin count s ≡ is_only_ns origin count r = rw (type, name) refl in
    rw (e, soa, ns) (not_or (r.rtype == 6) (is_only_ns origin count r))

pub kept : (origin : List (List ℕ)) (count : ℕ) (r : Record) (records : List Record) (stays : Bool) → stays ≡ ((r.rtype == 6) || is_only_ns origin count r) → stays ≡ true → records ≡ without (is_taken_by_none origin count r) records
kept origin count r records stays e h =
    sym (none_without (is_taken_by_none origin count r) records (λ s. kept_alike (is_equal r s) origin count r s refl ∙ off (is_equal r s) ((r.rtype == 6) || is_only_ns origin count r) (sym e ∙ h)))
  where
    off : (a b : Bool) → b ≡ true → (a && not b) ≡ false
    off true b h = rw h refl
    off false b h = refl

pub gone : (origin : List (List ℕ)) (count : ℕ) (r : Record) (records : List Record) (stays : Bool) → stays ≡ ((r.rtype == 6) || is_only_ns origin count r) → stays ≡ false → without (is_equal r) records ≡ without (is_taken_by_none origin count r) records
gone origin count r records stays e h =
    same_without (is_equal r) (is_taken_by_none origin count r) records
    (λ s. sym (kept_alike (is_equal r s) origin count r s refl ∙ on (is_equal r s) ((r.rtype == 6) || is_only_ns origin count r) (sym e ∙ h)))
  where
    on : (a b : Bool) → b ≡ false → (a && not b) ≡ a
    on true b h = rw h refl
    on false b h = refl
