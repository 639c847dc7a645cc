-- What a look finds where the way down to a name ends.
use Rattle.std.proofs.Common.{◌≡◌, ℕ, zero, suc, ◌+◌, ◌-◌, ◌<◌, ◌≤◌, List, [], ◌∷◌, length, drop, map, refl, sym, ap, ◌∙◌, subst, arith, Bool, true, false, length-drop}
use Rattle.std.specs.Prelude.{None, Some, is_some, ◌||◌, ◌&&◌, ◌==◌, nat_le}
use Rattle.std.specs.List.{list_any, AllByRecursion}
use Rattle.std.specs.Char.{to_ascii_lowercase}
use Rattle.std.proofs.lemmas.List.{length-map}
use Rattle.std.proofs.lemmas.Bool.Decides.{Decides-eqb}
use Rattle.dns_name.specs.Name.{SameName, is_same_name, is_at_or_below}
use Rattle.dns_name.proofs.SameNames.{is_same_name-Decides, is_at_or_below-Decides}
use Rattle.dns_wire.specs.declared.record.Record.{Record}
use Rattle.dns_zone_map.specs.declared.sets.RecordSet.{RecordSet}
use Rattle.dns_zone_map.specs.Zone.{Contents, IsZone, IsEntry, is_type, set_of}
use Rattle.dns_zone_map.specs.Existence.{exists, is_at_or_under}
use Rattle.dns_zone_map.specs.Sets.{AreSetsOf, set_in}
use Rattle.dns_zone.specs.declared.look.Look.TheVariants.{Referral}
use Rattle.dns_zone.specs.Look.{is_cut, topmost, nearest, cut_of, only_if, look_of, look_at, wildcard_under}
use Rattle.dns_zone_map.specs.Walk.{Way, down}
use Rattle.dns_zone.specs.Descent.{along, IsAbove, IsEnclosed, IsSameWay}
use Rattle.dns_zone.proofs.Absent.{gone, gone_uncut, gone_nearest}
use Rattle.dns_zone_map.proofs.Owned.{owned_is}
use Rattle.dns_zone.proofs.Walk.{cut_below, no_cut_above, none_here, found_here}

-- a name below the origin is a cut where it has a set of type NS
pub cut_is : (zone : Contents) (name : List (List ℕ)) (k : ℕ) (sets : List RecordSet) → is_at_or_below name zone.origin ≡ true → length zone.origin + k < length name → AreSetsOf zone.records (drop k name) sets
    → is_cut zone (drop k name) ≡ is_some (set_in 2 sets)
cut_is zone name k sets within more own = cut_below zone name k within more ∙ owned_is zone.records (drop k name) sets 2 own

-- the topmost cut of a name below no other
top_here : (test : List (List ℕ) → Bool) (name : List (List ℕ)) → 0 < length name → topmost test (drop 1 name) ≡ None → topmost test name ≡ only_if (test name) name
top_here test [] more none = absurd (omega arith)
top_here test (l ∷ ls) more none = rw none refl

same_self : (name : List (List ℕ)) → is_same_name name name ≡ true
same_self name = (is_same_name-Decides name name).1 refl

not_same : (name : List (List ℕ)) (k : ℕ) → 0 < k → k < length name → is_same_name name (drop k name) ≡ false
not_same name k some less = by_test (is_same_name name (drop k name)) refl
  where
    by_test : (b : Bool) → is_same_name name (drop k name) ≡ b → b ≡ false
    by_test true is =
        let same : SameName name (drop k name) = (is_same_name-Decides name (drop k name)).0 is in
        absurd (omega (arith, ap length same, length-map name (map to_ascii_lowercase), length-map (drop k name) (map to_ascii_lowercase), length-drop k name))
    by_test false is = refl

and_none : (a b : Bool) → b ≡ false → (a && b) ≡ false
and_none true b h = h
and_none false b h = refl

cut_above : (zone : Contents) (name : List (List ℕ)) (rtype k : ℕ) → topmost (is_cut zone) name ≡ Some (drop k name) → 0 < k → k < length name → cut_of zone name rtype ≡ Some (drop k name)
cut_above zone name rtype k top some less =
    let other : ((rtype == 43) && is_same_name name (drop k name)) ≡ false = and_none (rtype == 43) (is_same_name name (drop k name)) (not_same name k some less) in
    rw (top, other) refl

not_ds : {P : Type 0} (b : Bool) → (b ≡ true → P) → (P → ⊥) → b ≡ false
not_ds true means plain = absurd (plain (means refl))
not_ds false means plain = refl

cut_at : (zone : Contents) (name : List (List ℕ)) (rtype : ℕ) → topmost (is_cut zone) name ≡ Some name → (rtype == 43) ≡ false → cut_of zone name rtype ≡ Some name
cut_at zone name rtype top plain = rw (top, plain) refl

uncut_ds : (zone : Contents) (name : List (List ℕ)) (rtype : ℕ) (here : Bool) → topmost (is_cut zone) name ≡ only_if here name → (rtype == 43) ≡ true → cut_of zone name rtype ≡ None
uncut_ds zone name rtype true top ds = rw (top, ds, same_self name) refl
uncut_ds zone name rtype false top ds = rw top refl

uncut : (zone : Contents) (name : List (List ℕ)) (rtype : ℕ) → topmost (is_cut zone) name ≡ None → cut_of zone name rtype ≡ None
uncut zone name rtype top = rw top refl

look_cut : (zone : Contents) (name cut : List (List ℕ)) (rtype : ℕ) (records : List Record) → cut_of zone name rtype ≡ Some cut → records ≡ set_of zone.records cut 2 → look_of zone name rtype ≡ Referral records
unfolding look_of
look_cut zone name cut rtype records is set = rw (is, set) refl

look_own : (zone : Contents) (name : List (List ℕ)) (rtype : ℕ) → cut_of zone name rtype ≡ None → exists zone.records name ≡ true
    → look_of zone name rtype ≡ look_at zone.records (Some (record { name = name; synthesized = None })) rtype
unfolding look_of
look_own zone name rtype none there = rw (none, there) refl

look_gone : (zone : Contents) (name near : List (List ℕ)) (rtype : ℕ) → cut_of zone name rtype ≡ None → exists zone.records name ≡ false → nearest (exists zone.records) name ≡ Some near
    → look_of zone name rtype ≡ look_at zone.records (wildcard_under zone.records name (Some near)) rtype
unfolding look_of
look_gone zone name near rtype none absent is = rw (none, absent, is) refl

module _ (zone : Contents) (name : List (List ℕ)) (rtype : ℕ) where
  -- at a cut above the name
  pub at_cut : (k : ℕ) (records : List Record) → 0 < k → k < length name → topmost (is_cut zone) (drop (k + 1) name) ≡ None → is_cut zone (drop k name) ≡ true → records ≡ set_of zone.records (drop k name) 2
      → look_of zone name rtype ≡ Referral records
  at_cut k records some less none cut set =
      let next : k + 1 ≡ suc k = omega arith in
      look_cut zone name (drop k name) rtype records (cut_above zone name rtype k (found_here (is_cut zone) name k less (rw next at none) cut) some less) set

  -- the name is not there, and the one above it on the way is
  pub at_gone : (k : ℕ) → k < length name → length zone.origin + k < length name → IsAbove zone name (k + 1) → exists zone.records (drop k name) ≡ false → IsEnclosed zone name rtype (k + 1)
  at_gone k less below above absent =
      let next : k + 1 ≡ suc k = omega arith in
      let top : topmost (is_cut zone) name ≡ None = gone_uncut zone name k absent (rw next at above.uncut) in
      let near : nearest (exists zone.records) name ≡ Some (drop (suc k) name) = gone_nearest zone.records name k less absent (rw next at above.there) in
      record {
        within = omega arith;
        finds = look_gone zone name (drop (k + 1) name) rtype (uncut zone name rtype top) (gone zone.records name k absent) (rw next near);
      }

  -- one name farther down
  pub above_next : (k : ℕ) → k < length name → IsAbove zone name (k + 1) → is_cut zone (drop k name) ≡ false → exists zone.records (drop k name) ≡ true → IsAbove zone name k
  above_next k less above plain there =
      let next : k + 1 ≡ suc k = omega arith in
      record { uncut = none_here (is_cut zone) name k less (rw next at above.uncut) plain; there = there }

  -- at the name itself
  pub at_name : (sets : List RecordSet) → is_at_or_below name zone.origin ≡ true → length zone.origin < length name → IsAbove zone name 1 → AreSetsOf zone.records name sets
      → exists zone.records name ≡ true → is_some (set_in 2 sets) ≡ false → look_of zone name rtype ≡ look_at zone.records (Some (record { name = name; synthesized = None })) rtype
  at_name sets within below above own there plain =
      let here : is_cut zone name ≡ false = cut_is zone name 0 sets within (omega arith) own ∙ plain in
      look_own zone name rtype (uncut zone name rtype (top_here (is_cut zone) name (omega arith) above.uncut ∙ rw here refl)) there

  -- for DS the cut at the name itself is passed over
  pub at_name_ds : length zone.origin < length name → IsAbove zone name 1 → exists zone.records name ≡ true → rtype ≡ 43
      → look_of zone name rtype ≡ look_at zone.records (Some (record { name = name; synthesized = None })) rtype
  at_name_ds below above there ds =
      look_own zone name rtype (uncut_ds zone name rtype (is_cut zone name) (top_here (is_cut zone) name (omega arith) above.uncut) ((Decides-eqb rtype 43).1 ds)) there

  -- a cut at the name itself
  pub at_own_cut : (sets : List RecordSet) (records : List Record) → is_at_or_below name zone.origin ≡ true → length zone.origin < length name → IsAbove zone name 1 → AreSetsOf zone.records name sets
      → is_some (set_in 2 sets) ≡ true → (rtype ≡ 43 → ⊥) → records ≡ set_of zone.records name 2 → look_of zone name rtype ≡ Referral records
  at_own_cut sets records within below above own cut plain set =
      let here : is_cut zone name ≡ true = cut_is zone name 0 sets within (omega arith) own ∙ cut in
      look_cut zone name name rtype records (cut_at zone name rtype (top_here (is_cut zone) name (omega arith) above.uncut ∙ rw here refl) (not_ds (rtype == 43) (Decides-eqb rtype 43).0 plain)) set

  -- at the origin
  pub at_origin : length name ≤ length zone.origin → exists zone.records name ≡ true → look_of zone name rtype ≡ look_at zone.records (Some (record { name = name; synthesized = None })) rtype
  at_origin few there = look_own zone name rtype (uncut zone name rtype (no_cut_above zone name few)) there

-- what is met at the next name, with so many labels left
module _ (zone : Contents) (name : List (List ℕ)) (rtype k : ℕ) (within : is_at_or_below name zone.origin ≡ true) (more : length zone.origin + k < length name) (above : IsAbove zone name (k + 1)) where
  -- it is not there
  pub gone_here : exists zone.records (drop k name) ≡ false → IsEnclosed zone name rtype (k + 1)
  gone_here absent = at_gone zone name rtype k (omega (arith, more)) more above absent

  module _ (sets : List RecordSet) (own : AreSetsOf zone.records (drop k name) sets) where
    -- it is there, and no cut
    pub above_here : exists zone.records (drop k name) ≡ true → is_some (set_in 2 sets) ≡ false → IsAbove zone name k
    above_here there plain = above_next zone name rtype k (omega (arith, more)) above (cut_is zone name k sets within more own ∙ plain) there

    -- it is a cut
    pub cut_here : (records : List Record) → is_some (set_in 2 sets) ≡ true → ((k == 0) && (rtype == 43)) ≡ false → records ≡ set_of zone.records (drop k name) 2 → look_of zone name rtype ≡ Referral records
    cut_here records cut plain set = by_labels k refl
      where
        by_labels : (n : ℕ) → k ≡ n → look_of zone name rtype ≡ Referral records
        by_labels zero none =
            at_own_cut zone name rtype sets records within (omega (arith, more)) (subst (λ n. IsAbove zone name (n + 1)) none above) (subst (λ n. AreSetsOf zone.records (drop n name) sets) none own) cut
            (λ ds. let e : ((k == 0) && (rtype == 43)) ≡ true = rw ((Decides-eqb k 0).1 none, (Decides-eqb rtype 43).1 ds) refl in cc)
            (subst (λ n. records ≡ set_of zone.records (drop n name) 2) none set)
        by_labels (suc n) some =
            at_cut zone name rtype k records (omega (arith, some)) (omega (arith, more)) above.uncut (cut_is zone name k sets within more own ∙ cut) set

  -- it is the name itself
  module _ (last : k ≡ 0) where
    above_last : IsAbove zone name 1
    above_last = subst (λ n. IsAbove zone name (n + 1)) last above

    pub name_here : (sets : List RecordSet) → AreSetsOf zone.records (drop k name) sets → exists zone.records (drop k name) ≡ true → is_some (set_in 2 sets) ≡ false → look_of zone name rtype ≡ look_at zone.records (Some (record { name = name; synthesized = None })) rtype
    name_here sets own there plain =
        at_name zone name rtype sets within (omega (arith, more)) above_last (subst (λ n. AreSetsOf zone.records (drop n name) sets) last own) (subst (λ n. exists zone.records (drop n name) ≡ true) last there) plain

    pub ds_here : exists zone.records (drop k name) ≡ true → (rtype == 43) ≡ true → look_of zone name rtype ≡ look_at zone.records (Some (record { name = name; synthesized = None })) rtype
    ds_here there ds = at_name_ds zone name rtype (omega (arith, more)) above_last (subst (λ n. exists zone.records (drop n name) ≡ true) last there) ((Decides-eqb rtype 43).0 ds)

any_with : (P : Record → Type 0) (p q : Record → Bool) (records : List Record) → AllByRecursion P records → ((r : Record) → P r → p r ≡ true → q r ≡ true) → list_any p records ≡ true → list_any q records ≡ true
any_with P p q [] all more h = absurd cc
any_with P p q (r ∷ records) all more h = by_first (p r) (list_any p records) (q r) (list_any q records) (more r all.0) (any_with P p q records all.1 more) h
  where
    by_first : (a b c d : Bool) → (a ≡ true → c ≡ true) → (b ≡ true → d ≡ true) → (a || b) ≡ true → (c || d) ≡ true
    by_first true b c d f g h = rw (f refl) refl
    by_first false b true d f g h = refl
    by_first false b false d f g h = g h

pub and-first : (a b : Bool) → (a && b) ≡ true → a ≡ true
and-first true b h = refl
and-first false b h = absurd cc

pub and-second : (a b : Bool) → (a && b) ≡ true → b ≡ true
and-second true b h = h
and-second false b h = absurd cc

-- above a name of the zone, with so many labels less, stands the origin
top_same : (name origin : List (List ℕ)) (depth : ℕ) → is_at_or_below name origin ≡ true → length origin + depth ≡ length name → SameName (drop depth name) origin
top_same name origin depth within size =
    let d : length name - length origin ≡ depth = omega arith in
    (is_same_name-Decides (drop depth name) origin).0 (subst (λ k. is_same_name (drop k name) origin ≡ true) d (and-second (nat_le (length origin) (length name)) _ within))

-- the origin of a zone is there
pub origin_exists : (origin : List (List ℕ)) (records : List Record) (name : List (List ℕ)) (depth : ℕ) → IsZone origin records → is_at_or_below name origin ≡ true → length origin + depth ≡ length name
    → exists records (drop depth name) ≡ true
origin_exists origin records name depth zone within size =
    any_with (IsEntry origin) (is_type 6) (is_at_or_under (drop depth name)) records zone.entries
    (λ r entry soa. (is_at_or_below-Decides r.name (drop depth name)).1 ([], (is_same_name-Decides r.name origin).0 (entry.soa soa) ∙ sym (top_same name origin depth within size))) zone.soa

-- so the way down begins there
pub above_first : (zone : Contents) (name : List (List ℕ)) (depth : ℕ) → IsZone zone.origin zone.records → is_at_or_below name zone.origin ≡ true → length zone.origin + depth ≡ length name → IsAbove zone name depth
above_first zone name depth is within size = record {
  uncut = no_cut_above zone (drop depth name) (omega (arith, length-drop depth name));
  there = origin_exists zone.origin zone.records name depth is within size;
}

-- the way is under way from where it began: it stands at a name that is there, at or above which there is no cut
pub record IsUnderway (from way : Way) : Type 0 where
  pub same : IsSameWay from way
  pub within : is_at_or_below way.name way.origin ≡ true
  pub labels : length way.origin + way.left ≤ length way.name
  pub below : 0 < way.left
  pub above : IsAbove (along way) way.name way.left

pub underway_first : (way : Way) → IsZone way.origin way.records → is_at_or_below way.name way.origin ≡ true → length way.origin + way.left ≡ length way.name → 0 < way.left → IsUnderway way way
underway_first way zone within top below = record {
  same = record { origin = refl; records = refl; name = refl };
  within = within;
  labels = omega (arith, top);
  below = below;
  above = above_first (along way) way.name way.left zone within top;
}

pub same_next : (from way next : Way) → IsUnderway from way → next ≡ down way → IsSameWay from next
same_next from way next u is = record {
  origin = ap (λ (w : Way). w.origin) is ∙ u.same.origin;
  records = ap (λ (w : Way). w.records) is ∙ u.same.records;
  name = ap (λ (w : Way). w.name) is ∙ u.same.name;
}

pub underway_next : (from way next : Way) → IsUnderway from way → next ≡ down way → 0 < next.left → IsAbove (along next) next.name next.left → IsUnderway from next
underway_next from way next u is below above = record {
  same = same_next from way next u is;
  within = subst (λ (w : Way). is_at_or_below w.name w.origin ≡ true) (sym is) u.within;
  labels = subst (λ (w : Way). length w.origin + w.left ≤ length w.name) (sym is) (omega (arith, u.labels));
  below = below;
  above = above;
}

-- one label farther down, below a name that is there, at or above which there is no cut
pub record IsStepped (way : Way) : Type 0 where
  pub within : is_at_or_below way.name way.origin ≡ true
  pub more : length way.origin + way.left < length way.name
  pub above : IsAbove (along way) way.name (way.left + 1)

pub stepped : (way next : Way) → next ≡ down way → is_at_or_below way.name way.origin ≡ true → length way.origin + way.left ≤ length way.name → 0 < way.left → IsAbove (along way) way.name way.left → IsStepped next
stepped way next is within labels below above =
    let one : way.left ≡ way.left - 1 + 1 = omega (arith, below) in
    subst IsStepped (sym is) (record {
      within = within;
      more = omega (arith, labels, below);
      above = subst (IsAbove (along way) way.name) one above;
    })

-- a look along the way is one for its name in its zone
pub look_along : (zone : Contents) (name : List (List ℕ)) (rtype : ℕ) (from way : Way) → from.origin ≡ zone.origin → from.records ≡ zone.records → from.name ≡ name → IsSameWay from way → look_of (along way) way.name rtype ≡ look_of zone name rtype
look_along zone name rtype from way origin records named same =
    ap (λ (o : List (List ℕ)). look_of (record { origin = o; records = way.records }) way.name rtype) (same.origin ∙ origin)
    ∙ ap (λ (rs : List Record). look_of (record { origin = zone.origin; records = rs }) way.name rtype) (same.records ∙ records)
    ∙ ap (λ (n : List (List ℕ)). look_of zone n rtype) (same.name ∙ named)
