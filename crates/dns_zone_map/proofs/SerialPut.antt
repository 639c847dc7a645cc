-- A serial that is set in the map is set in its list.
use Rattle.std.proofs.Common.{◌≡◌, ℕ, ◌+◌, ◌<◌, suc, Bool, true, false, List, [], ◌∷◌, ◌++◌, length, map, get_or, take, drop, refl, sym, ap, ◌∙◌, subst, arith, ◌==◌, if◌then◌else◌, append_assoc, inl, inr, Some, None}
use Rattle.std.specs.Prelude.{slice_set}
use Rattle.std.specs.List.{AllByRecursion}
use Rattle.std.specs.Str.{bytes_eq}
use Rattle.std.proofs.lemmas.Bool.Decides.{Decides-eqb}
use Rattle.std.proofs.lemmas.List.Concat.{flat_map-append}
use Rattle.std.proofs.lemmas.List.{take_more_set, drop-set-lt, drop_more, map-append, length-map, set_split}
use Rattle.dns_name.specs.Name.{is_at_or_below}
use Rattle.dns_wire.specs.declared.record.Record.{Record}
use Rattle.dns_wire.specs.declared.record_type.TheConstants.{SOA}
use Rattle.dns_zone_map.specs.declared.sets.RecordSet.{RecordSet}
use Rattle.dns_zone_map.specs.Keys.{key_of}
use Rattle.dns_zone_map.specs.Zone.{Contents, is_type, IsEntry, IsSoFar}
use Rattle.dns_zone_map.specs.Changes.{at_record, at_serial, set_serial}
use Rattle.dns_zone_map.specs.Order.{Numbered, list_of, of_plain, AreBelow}
use Rattle.dns_zone_map.specs.Sets.{TypesRise, set_in, in_set, in_sets}
use Rattle.dns_zone_map.specs.Tree.{in_entries, Belongs, IsSet, AreSets, AreEntries, IsTree, KeysApart}
use Rattle.dns_zone_map.specs.Insertion.{StandsAt}
use Rattle.dns_zone_map.specs.Removal.{is_key, IsAbsent, ChangedIn}
use Rattle.dns_zone_map.specs.Serial.{serial_set, SerialSet, IsSerialSet, IsSerialSetAt}
use Rattle.dns_zone_map.proofs.Keyed.{same_keys}
use Rattle.dns_zone_map.proofs.Putting.{list_map}
use Rattle.dns_zone_map.proofs.Lent.{bytes_turned, all_to}
use Rattle.dns_zone_map.proofs.Exists.{all_append}
use Rattle.dns_zone_map.proofs.InEntries.{absent_all, other_bytes}
use Rattle.dns_zone_map.proofs.Rest.{Entries, Fails, FailsAt, all_front, all_back, all_numbered, sets_fail, entries_fail}
use Rattle.dns_zone_map.proofs.Put.{around, around_entry, apart_front, apart_back}
use Rattle.dns_zone_map.proofs.PutSets.{numbered_map, rise_lower, rise_upper, rise_same}
use Rattle.dns_zone_map.proofs.Taking.{key_is}
use Rattle.dns_zone_map.proofs.Taken.{no_true}
use Rattle.dns_zone_map.proofs.Freed.{at_itself, top_key}
use Rattle.dns_zone_map.proofs.EqualTaken.{parts_at, no_set}
use Rattle.dns_zone_map.proofs.SerialSet.{same_type_at, same_name_at, so_far_at}

-- the next record of those that are left
pub next_serial : (k : ℕ) (rs : List Record) (place : ℕ) (d y : Record) → place < length rs → y ≡ at_serial k (get_or rs place d) → take (place + 1) (slice_set rs place y) ++ set_serial k (drop (place + 1) (slice_set rs place y)) ≡ take place rs ++ set_serial k (drop place rs)
next_serial k rs place d y within is =
    ap (λ (xs : List Record). xs ++ set_serial k (drop (place + 1) (slice_set rs place y))) (take_more_set rs place y within) ∙ ap (λ (xs : List Record). (take place rs ++ y ∷ []) ++ set_serial k xs) (drop-set-lt (place + 1) rs place y (omega arith))
    ∙ append_assoc (take place rs) (y ∷ []) (set_serial k (drop (place + 1) rs)) ∙ ap (λ (z : Record). take place rs ++ z ∷ set_serial k (drop (place + 1) rs)) is ∙ ap (λ (xs : List Record). take place rs ++ set_serial k xs) (sym (drop_more rs place d within))

-- the set of the SOA, where it stands
pub serial_there : (k : ℕ) (items read seen after : List RecordSet) (place : ℕ) → items ≡ seen → read ≡ items → StandsAt SOA read place → ((d : RecordSet) → after ≡ slice_set items place (serial_set k (get_or items place d))) → IsSerialSet k seen after
serial_there k items read seen after place view same at is =
    let here : StandsAt SOA items place = subst (λ (ss : List RecordSet). StandsAt SOA ss place) same at in
    inl (record {
      front = take place items;
      set = get_or items place no_set;
      back = drop (suc place) items;
      was = sym view ∙ parts_at items place no_set here.within ∙ ap (λ n. take place items ++ get_or items place no_set ∷ drop n items) (let e : place + 1 ≡ suc place = omega arith in e);
      typed = here.typed no_set;
      is = is no_set ∙ set_split items place (serial_set k (get_or items place no_set)) here.within;
    })

other_types_if : (b : Bool) (rtype : ℕ) (s : RecordSet) (ss : List RecordSet) → (s.rtype == rtype) ≡ b → (if b then Some s else set_in rtype ss) ≡ None → (set_in rtype ss ≡ None → AllByRecursion (λ t. t.rtype ≡ rtype → ⊥) ss) → AllByRecursion (λ t. t.rtype ≡ rtype → ⊥) (s ∷ ss)
other_types_if true rtype s ss e h ih = absurd cc
other_types_if false rtype s ss e h ih = ((λ t. let y : (s.rtype == rtype) ≡ true = (Decides-eqb s.rtype rtype).1 t in absurd cc), ih h)

other_types : (rtype : ℕ) (ss : List RecordSet) → set_in rtype ss ≡ None → AllByRecursion (λ t. t.rtype ≡ rtype → ⊥) ss
other_types rtype [] h = tt
other_types rtype (s ∷ ss) h = other_types_if (s.rtype == rtype) rtype s ss refl h (other_types rtype ss)

all_map : (P Q : Record → Type 0) (f : Record → Record) → ((r : Record) → P r → Q (f r)) → (rs : List Record) → AllByRecursion P rs → AllByRecursion Q (map f rs)
all_map P Q f h [] a = tt
all_map P Q f h (r ∷ rs) a = (h r a.0, all_map P Q f h rs a.1)

below_map : (f : Record → Record) (next : ℕ) (xs : List Numbered) → AreBelow next xs → AreBelow next (map (at_record f) xs)
below_map f next [] h = tt
below_map f next (x ∷ xs) h = (h.0, below_map f next xs h.1)

module _ (origin : List (List ℕ)) (k : ℕ) where
  abbrev f : Record → Record
  f = at_serial k

  abbrev g : Numbered → Numbered
  g = at_record (at_serial k)

  abbrev test : Record → Bool
  test = is_type SOA

  abbrev key : List ℕ
  key = key_of origin origin

  -- a record that is no SOA stays
  fixed : (b : Bool) (x : Numbered) → is_type SOA x.one ≡ b → b ≡ false → g x ≡ x
  fixed true x e h = absurd cc
  fixed false x e h = rw e refl

  all_fixed : (xs : List Numbered) → Fails test xs → map g xs ≡ xs
  all_fixed [] h = refl
  all_fixed (x ∷ xs) h = ap (λ (y : Numbered). y ∷ map g xs) (fixed (test x.one) x refl h.0) ∙ ap (λ (ys : List Numbered). x ∷ ys) (all_fixed xs h.1)

  other_key : (kk : List ℕ) → bytes_eq key kk ≡ false → (kind : ℕ) → FailsAt test (IsEntry origin) origin kk kind
  other_key kk other kind r b may =
      no_true (test r) (λ h.
      let same : bytes_eq (key_of origin r.name) key ≡ true = sym (same_keys origin r.name origin b.within (at_itself origin)) ∙ may.soa h in
      let here : bytes_eq kk key ≡ true = ap (λ (z : List ℕ). bytes_eq z key) (sym b.under) ∙ same in
      let there : bytes_eq kk key ≡ false = bytes_turned kk key ∙ other in
      cc)

  other_type : (kk : List ℕ) (kind : ℕ) → (kind ≡ SOA → ⊥) → FailsAt test (IsEntry origin) origin kk kind
  other_type kk kind other r b may = no_true (test r) (λ h. other (sym b.typed ∙ (Decides-eqb r.rtype SOA).0 h))

  still_belongs : (kk : List ℕ) (kind : ℕ) (r : Record) → Belongs origin kk kind r → Belongs origin kk kind (f r)
  still_belongs kk kind r b = record {
    within = ap (λ n. is_at_or_below n origin) (same_name_at k r) ∙ b.within;
    under = ap (key_of origin) (same_name_at k r) ∙ b.under;
    typed = same_type_at k r ∙ b.typed;
  }

  still_set : (kk : List ℕ) (s : RecordSet) → IsSet origin kk s → IsSet origin kk (serial_set k s)
  still_set kk s h = record {
    filled = omega (arith, h.filled, length-map s.records f);
    paired = h.paired ∙ sym (length-map s.records f);
    belong = all_map (Belongs origin kk s.rtype) (Belongs origin kk s.rtype) f (λ r b. still_belongs kk s.rtype r b) s.records h.belong;
    rising = h.rising;
  }

  module _ (es fs : Entries) (each : AreEntries origin es) (apart : KeysApart es) (may : AllByRecursion (λ x. IsEntry origin x.one) (in_entries es)) where
    -- the entries after that
    pub record IsAfter : Type 0 where
      pub listed : in_entries fs ≡ map g (in_entries es)
      pub whole : AreEntries origin fs

    none_set : Fails test (in_entries es) → fs ≡ es → IsAfter
    none_set fails same = record { listed = ap in_entries same ∙ sym (all_fixed (in_entries es) fails); whole = subst (AreEntries origin) (sym same) each }

    absent : IsAbsent key es → fs ≡ es → IsAfter
    absent none same =
        none_set
        (entries_fail test (IsEntry origin) origin es each
        (all_to (λ e. bytes_eq key e.0.items ≡ false) (λ e. (kind : ℕ) → FailsAt test (IsEntry origin) origin e.0.items kind) (λ e p. other_key e.0.items p) es (other_bytes key es (absent_all (is_key key) es none))) may)
        same

    module _ (left : ℕ) (t : ChangedIn key (IsSerialSet k) es fs left) where
      keyed : t.stored.items ≡ key
      keyed = key_is key t.stored t.found

      each_was : AreEntries origin (t.front ++ (t.stored, t.sets) ∷ t.back)
      each_was = subst (AreEntries origin) t.was each

      apart_was : KeysApart (t.front ++ (t.stored, t.sets) ∷ t.back)
      apart_was = subst KeysApart t.was apart

      each_front : AreEntries origin t.front
      each_front = all_front (λ e. AreSets origin e.0.items e.1) t.front ((t.stored, t.sets) ∷ t.back) each_was

      here : AreSets origin t.stored.items t.sets
      here = (all_back (λ e. AreSets origin e.0.items e.1) t.front ((t.stored, t.sets) ∷ t.back) each_was).0

      each_back : AreEntries origin t.back
      each_back = (all_back (λ e. AreSets origin e.0.items e.1) t.front ((t.stored, t.sets) ∷ t.back) each_was).1

      other_keys : (gs : Entries) → AllByRecursion (λ e. bytes_eq t.stored.items e.0.items ≡ false) gs → AllByRecursion (λ e. (kind : ℕ) → FailsAt test (IsEntry origin) origin e.0.items kind) gs
      other_keys gs h = all_to (λ e. bytes_eq t.stored.items e.0.items ≡ false) (λ e. (kind : ℕ) → FailsAt test (IsEntry origin) origin e.0.items kind) (λ e p. other_key e.0.items (ap (λ (z : List ℕ). bytes_eq z e.0.items) (sym keyed) ∙ p)) gs h

      abbrev May : Numbered → Type 0
      May x = IsEntry origin x.one

      may_was : AllByRecursion May (in_entries t.front ++ (in_sets t.sets ++ in_entries t.back))
      may_was = subst (AllByRecursion May) (ap in_entries t.was ∙ around_entry t.front t.back t.stored t.sets) may

      front_fails : Fails test (in_entries t.front)
      front_fails = entries_fail test (IsEntry origin) origin t.front each_front (other_keys t.front (apart_front t.front t.back (t.stored, t.sets) apart_was)) (all_front May (in_entries t.front) (in_sets t.sets ++ in_entries t.back) may_was)

      rest_may : AllByRecursion May (in_sets t.sets ++ in_entries t.back)
      rest_may = all_back May (in_entries t.front) (in_sets t.sets ++ in_entries t.back) may_was

      back_fails : Fails test (in_entries t.back)
      back_fails = entries_fail test (IsEntry origin) origin t.back each_back (other_keys t.back (apart_back t.front t.back (t.stored, t.sets) apart_was)) (all_back May (in_sets t.sets) (in_entries t.back) rest_may)

      some_fail : (ss : List RecordSet) → AllByRecursion (IsSet origin t.stored.items) ss → AllByRecursion (λ s. s.rtype ≡ SOA → ⊥) ss → AllByRecursion May (in_sets ss) → Fails test (in_sets ss)
      some_fail ss e h m = sets_fail test (IsEntry origin) origin t.stored.items ss e (all_to (λ s. s.rtype ≡ SOA → ⊥) (λ s. FailsAt test (IsEntry origin) origin t.stored.items s.rtype) (λ s p. other_type t.stored.items s.rtype p) ss h) m

      no_soa : set_in SOA t.sets ≡ None → t.changed ≡ t.sets → IsAfter
      no_soa none same =
          let sets : Fails test (in_sets t.sets) = some_fail t.sets here.each (other_types SOA t.sets none) (all_front May (in_sets t.sets) (in_entries t.back) rest_may) in
          none_set
          (subst (Fails test) (sym (ap in_entries t.was ∙ around_entry t.front t.back t.stored t.sets))
          (all_append (λ x. of_plain test x ≡ false) (in_entries t.front) (in_sets t.sets ++ in_entries t.back) front_fails (all_append (λ x. of_plain test x ≡ false) (in_sets t.sets) (in_entries t.back) sets back_fails)))
          (t.is ∙ ap (λ (ss : List RecordSet). t.front ++ (t.stored, ss) ∷ t.back) same ∙ sym t.was)

      module _ (s : SerialSet k t.sets t.changed) where
        each_set : AllByRecursion (IsSet origin t.stored.items) (s.front ++ s.set ∷ s.back)
        each_set = subst (AllByRecursion (IsSet origin t.stored.items)) s.was here.each

        rise : TypesRise (s.front ++ s.set ∷ s.back)
        rise = subst TypesRise s.was here.rise

        lower : AllByRecursion (IsSet origin t.stored.items) s.front
        lower = all_front (IsSet origin t.stored.items) s.front (s.set ∷ s.back) each_set

        upper : IsSet origin t.stored.items s.set × AllByRecursion (IsSet origin t.stored.items) s.back
        upper = all_back (IsSet origin t.stored.items) s.front (s.set ∷ s.back) each_set

        may_sets : AllByRecursion May (in_sets s.front ++ (in_set s.set ++ in_sets s.back))
        may_sets = subst (AllByRecursion May) (ap in_sets s.was ∙ flat_map-append in_set s.front (s.set ∷ s.back)) (all_front May (in_sets t.sets) (in_entries t.back) rest_may)

        lower_fails : Fails test (in_sets s.front)
        lower_fails =
            some_fail s.front lower (all_to (λ u. u.rtype < s.set.rtype) (λ u. u.rtype ≡ SOA → ⊥) (λ u p e. omega (arith, p, e, s.typed)) s.front (rise_lower s.front s.back s.set rise)) (all_front May (in_sets s.front) (in_set s.set ++ in_sets s.back) may_sets)

        upper_fails : Fails test (in_sets s.back)
        upper_fails =
            some_fail s.back upper.1 (all_to (λ u. s.set.rtype < u.rtype) (λ u. u.rtype ≡ SOA → ⊥) (λ u p e. omega (arith, p, e, s.typed)) s.back (rise_upper s.front s.back s.set rise))
            (all_back May (in_set s.set) (in_sets s.back) (all_back May (in_sets s.front) (in_set s.set ++ in_sets s.back) may_sets))

        xs_are : in_entries es ≡ (in_entries t.front ++ in_sets s.front) ++ (in_set s.set ++ (in_sets s.back ++ in_entries t.back))
        xs_are = ap in_entries t.was ∙ ap (λ (ss : List RecordSet). in_entries (t.front ++ (t.stored, ss) ∷ t.back)) s.was ∙ around t.front t.back t.stored s.front s.back s.set

        ys_are : in_entries fs ≡ (in_entries t.front ++ in_sets s.front) ++ (in_set (serial_set k s.set) ++ (in_sets s.back ++ in_entries t.back))
        ys_are = ap in_entries t.is ∙ ap (λ (ss : List RecordSet). in_entries (t.front ++ (t.stored, ss) ∷ t.back)) s.is ∙ around t.front t.back t.stored s.front s.back (serial_set k s.set)

        is_set : IsAfter
        is_set =
            let fa : map g (in_entries t.front ++ in_sets s.front) ≡ in_entries t.front ++ in_sets s.front = all_fixed (in_entries t.front ++ in_sets s.front) (all_append (λ x. of_plain test x ≡ false) (in_entries t.front) (in_sets s.front) front_fails lower_fails) in
            let fb : map g (in_sets s.back ++ in_entries t.back) ≡ in_sets s.back ++ in_entries t.back = all_fixed (in_sets s.back ++ in_entries t.back) (all_append (λ x. of_plain test x ≡ false) (in_sets s.back) (in_entries t.back) upper_fails back_fails) in
            let parts : map g (in_entries es) ≡ map g (in_entries t.front ++ in_sets s.front) ++ (map g (in_set s.set) ++ map g (in_sets s.back ++ in_entries t.back)) =
            ap (map g) xs_are ∙ map-append g (in_entries t.front ++ in_sets s.front) (in_set s.set ++ (in_sets s.back ++ in_entries t.back))
            ∙ ap (λ (zs : List Numbered). map g (in_entries t.front ++ in_sets s.front) ++ zs) (map-append g (in_set s.set) (in_sets s.back ++ in_entries t.back)) in
            record {
              listed = ys_are ∙ ap (λ (zs : List Numbered). (in_entries t.front ++ in_sets s.front) ++ (zs ++ (in_sets s.back ++ in_entries t.back))) (numbered_map f s.set.numbers s.set.records)
                  ∙ sym (parts ∙ ap (λ (zs : List Numbered). zs ++ (map g (in_set s.set) ++ map g (in_sets s.back ++ in_entries t.back))) fa ∙ ap (λ (zs : List Numbered). (in_entries t.front ++ in_sets s.front) ++ (map g (in_set s.set) ++ zs)) fb);
              whole = subst (AreEntries origin) (sym t.is)
                  (all_append (λ e. AreSets origin e.0.items e.1) t.front ((t.stored, t.changed) ∷ t.back) each_front (
                    record {
                      each = subst (AllByRecursion (IsSet origin t.stored.items)) (sym s.is) (all_append (IsSet origin t.stored.items) s.front (serial_set k s.set ∷ s.back) lower (still_set t.stored.items s.set upper.0, upper.1));
                      rise = subst TypesRise (sym s.is) (rise_same s.front s.back s.set (serial_set k s.set) refl rise);
                    },
                    each_back,
                  ));
            }

      by_change : IsSerialSet k t.sets t.changed → IsAfter
      by_change (inl s) = is_set s
      by_change (inr n) = no_soa n.1 n.0

    pub after : IsSerialSetAt key k es fs → IsAfter
    after (inl c) = by_change c.0 c.1 c.1.change
    after (inr n) = absent n.1 n.0

-- the same of a map that is seen as its list
module _ (origin : List (List ℕ)) (k : ℕ) (es fs : Entries) (next count : ℕ) (zone : Contents) (view : record { origin = origin; records = list_of (in_entries es) } ≡ zone) (tree : IsTree origin es next count) (so_far : IsSoFar zone.origin zone.records) (apart : KeysApart es) (set : IsSerialSetAt [] k es fs) where
  so_far_here : IsSoFar origin (list_of (in_entries es))
  so_far_here = subst (λ z. IsSoFar z.origin z.records) (sym view) so_far

  done : IsAfter origin k es fs tree.each apart (all_numbered (IsEntry origin) (in_entries es) so_far_here.entries)
  done = after origin k es fs tree.each apart (all_numbered (IsEntry origin) (in_entries es) so_far_here.entries) (subst (λ z. IsSerialSetAt z k es fs) (top_key origin) set)

  list_is : list_of (in_entries fs) ≡ set_serial k (list_of (in_entries es))
  list_is = ap list_of done.listed ∙ list_map (at_serial k) (in_entries es)

  pub serial_list : list_of (in_entries fs) ≡ set_serial k zone.records
  serial_list = list_is ∙ ap (λ z. set_serial k z.records) view

  pub serial_tree : IsTree origin fs next count
  serial_tree = record {
    each = done.whole;
    below = subst (AreBelow next) (sym done.listed) (below_map (at_serial k) next (in_entries es) tree.below);
    counted = tree.counted ∙ sym (length-map (in_entries es) (at_record (at_serial k))) ∙ ap length (sym done.listed);
    few = tree.few;
  }

  pub serial_so_far : IsSoFar origin (list_of (in_entries fs))
  serial_so_far = subst (IsSoFar origin) (sym list_is) (so_far_at origin k (list_of (in_entries es)) so_far_here)
