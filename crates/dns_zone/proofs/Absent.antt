-- What stands at the names between the origin and a name: where one is not there, none below it is.
use Rattle.std.proofs.Common.{◌≡◌, ℕ, zero, suc, ◌<◌, List, [], ◌∷◌, ◌++◌, length, drop, map, refl, sym, ◌∙◌, arith, Bool, true, false, append_assoc}
use Rattle.std.specs.Prelude.{None, Some, ◌||◌, ◌&&◌}
use Rattle.std.specs.List.{list_any}
use Rattle.std.specs.Char.{to_ascii_lowercase}
use Rattle.dns_name.specs.Name.{fold_of, IsAtOrBelow, is_same_name, is_at_or_below, is_strictly_below}
use Rattle.dns_name.proofs.SameNames.{is_same_name-Decides, is_at_or_below-Decides}
use Rattle.dns_wire.specs.declared.record.Record.{Record}
use Rattle.dns_zone_map.specs.Zone.{Contents, is_type, is_in_set}
use Rattle.dns_zone_map.specs.Existence.{owns_type, exists, is_at_or_under}
use Rattle.dns_zone.specs.Look.{is_cut, topmost, nearest}

or-second : (a b : Bool) → b ≡ true → (a || b) ≡ true
or-second true b h = refl
or-second false b h = h

more_by : (b : Bool) (p q : Record → Bool) (r : Record) (records : List Record) → p r ≡ b → (p r ≡ true → q r ≡ true) → (list_any p records ≡ true → list_any q records ≡ true)
    → (b || list_any p records) ≡ true → (q r || list_any q records) ≡ true
more_by true p q r records is more left h = rw (more is) refl
more_by false p q r records is more left h = or-second (q r) (list_any q records) (left h)

-- where each record that passes one test passes another, and some passes the one, some passes the other
pub any_more : (p q : Record → Bool) → ((r : Record) → p r ≡ true → q r ≡ true) → (records : List Record) → list_any p records ≡ true → list_any q records ≡ true
any_more p q more [] h = absurd cc
any_more p q more (r ∷ records) h = more_by (p r) p q r records refl (more r) (any_more p q more records) h

pub not_true : (a b : Bool) → (a ≡ true → b ≡ true) → b ≡ false → a ≡ false
not_true true b h none = absurd (let y : b ≡ true = h refl in cc)
not_true false b h none = refl

below_above : (r : List (List ℕ)) (l : List ℕ) (ls : List (List ℕ)) → is_at_or_below r (l ∷ ls) ≡ true → is_at_or_below r ls ≡ true
below_above r l ls h =
    let b : IsAtOrBelow r (l ∷ ls) = (is_at_or_below-Decides r (l ∷ ls)).0 h in
    (is_at_or_below-Decides r ls).1 (b.0 ++ map to_ascii_lowercase l ∷ [], b.1 ∙ sym (append_assoc b.0 (map to_ascii_lowercase l ∷ []) (fold_of ls)))

-- a name is not there where the name above it is not
pub gone_next : (records : List Record) (l : List ℕ) (ls : List (List ℕ)) → exists records ls ≡ false → exists records (l ∷ ls) ≡ false
gone_next records l ls = not_true (exists records (l ∷ ls)) (exists records ls) (any_more (is_at_or_under (l ∷ ls)) (is_at_or_under ls) (λ r. below_above r.name l ls) records)

-- nor where any name above it is not
pub gone : (records : List Record) (name : List (List ℕ)) (k : ℕ) → exists records (drop k name) ≡ false → exists records name ≡ false
gone records name zero h = h
gone records [] (suc k) h = h
gone records (l ∷ ls) (suc k) h = gone_next records l ls (gone records ls k h)

same_below : (a b : List (List ℕ)) → is_same_name a b ≡ true → is_at_or_below a b ≡ true
same_below a b h = (is_at_or_below-Decides a b).1 ([], (is_same_name-Decides a b).0 h)

and-both : (a b : Bool) → (a && b) ≡ true → b ≡ true
and-both true b h = h
and-both false b h = absurd cc

-- a name that owns a record is there
pub owned_exists : (records : List Record) (name : List (List ℕ)) (rtype : ℕ) → owns_type records name rtype ≡ true → exists records name ≡ true
owned_exists records name rtype = any_more (is_in_set name rtype) (is_at_or_under name) (λ r h. same_below r.name name (and-both (is_type rtype r) (is_same_name r.name name) h)) records

-- a name that is not there is no cut
gone_cut : (zone : Contents) (name : List (List ℕ)) → exists zone.records name ≡ false → is_cut zone name ≡ false
gone_cut zone name h =
    let none : owns_type zone.records name 2 ≡ false = not_true (owns_type zone.records name 2) (exists zone.records name) (owned_exists zone.records name 2) h in
    not_true (is_cut zone name) (owns_type zone.records name 2) (and-both (is_strictly_below name zone.origin) (owns_type zone.records name 2)) none

-- where a name is not there, and no cut stands above it, there is none at the names below it
pub gone_uncut : (zone : Contents) (name : List (List ℕ)) (k : ℕ) → exists zone.records (drop k name) ≡ false → topmost (is_cut zone) (drop (suc k) name) ≡ None → topmost (is_cut zone) name ≡ None
gone_uncut zone [] k h none = refl
gone_uncut zone (l ∷ ls) zero h none = rw (none, gone_cut zone (l ∷ ls) h) refl
gone_uncut zone (l ∷ ls) (suc k) h none =
    rw (gone_uncut zone ls k h none, gone_cut zone (l ∷ ls) (gone_next zone.records l ls (gone zone.records ls k h))) refl

-- the closest encloser is the last name on the way that is there
pub gone_nearest : (records : List Record) (name : List (List ℕ)) (k : ℕ) → k < length name → exists records (drop k name) ≡ false → exists records (drop (suc k) name) ≡ true → nearest (exists records) name ≡ Some (drop (suc k) name)
gone_nearest records [] k less h there = absurd (omega arith)
gone_nearest records (l ∷ ls) zero less h there = rw there refl
gone_nearest records (l ∷ ls) (suc k) less h there = rw (gone records ls k h) (gone_nearest records ls k (omega arith) h there)
