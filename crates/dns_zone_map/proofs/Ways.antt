-- The way down to a name: the keys of the names on it are fronts of the name's key, and stand in one tree.
use Rattle.std.proofs.Common.{◌≡◌, ℕ, zero, suc, ◌+◌, ◌-◌, ◌<◌, ◌≤◌, true, List, [], ◌∷◌, ◌++◌, length, map, take, drop, refl, sym, ap, ◌∙◌, arith, append_assoc, length-append, length-drop, Result, Ok, Err, IfOk}
use Rattle.std.specs.Prelude.{◌%◌}
use Rattle.std.proofs.Math.ListN.{get_or}
use Rattle.std.specs.Char.{to_ascii_lowercase}
use Rattle.std.proofs.Math.Seq.{drop-cons, get_or-append_seam}
use Rattle.std.proofs.lemmas.List.{take_at}
use Rattle.dns_name.specs.Name.{is_at_or_below}
use Rattle.dns_wire.specs.declared.record.Record.{Record}
use Rattle.dns_zone_map.specs.declared.presence.Presence.{Presence}
use Rattle.dns_zone_map.specs.declared.presence.Presence.TheVariants.{Owner, Empty, Absent}
use Rattle.dns_zone_map.specs.Keys.{key_of, star_above}
use Rattle.dns_zone_map.specs.Presence.{IsPresence, IsPresenceAt, is_begun}
use Rattle.dns_zone_map.specs.Sets.{sets_or_none}
use Rattle.dns_zone_map.specs.Table.{first_label, HasWholeLabel, hash_from, place_of, all_in, IsTable}
use Rattle.dns_zone_map.specs.Walk.{HasAllBehind, Tells, IsWay}
use Rattle.dns_zone_map.proofs.Begun.{begun_in, whole_key, same_label}
use Rattle.dns_zone_map.proofs.Lifted.{seen}
use Rattle.dns_zone_map.proofs.Rest.{Entries}
use Rattle.dns_zone_map.proofs.Table.{TreeOf, Parted, found_tree}
use Rattle.dns_zone_map.proofs.Written.{Fronts, fronts, key_step, star_key, above_in, within_below}

-- the tree of a key has all entries with its first label
pub all_behind : (ts : List TreeOf) (all : Entries) (first : List ℕ) (count place : ℕ) (t : TreeOf) → IsTable ts → all_in ts ≡ all → count ≡ length ts → place ≡ place_of count first → place < count → t ≡ get_or ts place t → HasAllBehind (first_label first) t.entries all
all_behind ts all first count place t table view many here within at =
    let led : (key : List ℕ) → first_label key ≡ first_label first → place ≡ place_of count key = λ key same. here ∙ ap (λ (label : List ℕ). hash_from 0 label % count) (sym same) in
    let found : (key : List ℕ) → first_label key ≡ first_label first → Parted ts t key place = λ key same. found_tree ts key count place t table many (led key same) within at in
    record {
      sets = λ key same. sym (ap sets_or_none (seen ts t t key place (found key same) all view));
      begun = λ key whole some same. begun_in ts t key place all (is_begun t.entries key) (found key same) view whole some refl;
    }

-- what one tree tells of a key, all entries tell
pub in_all : (label : List ℕ) (tree all : Entries) (key : List ℕ) (found : Presence) → HasAllBehind label tree all → HasWholeLabel key → 0 < length key → first_label key ≡ label → IsPresenceAt tree key found → IsPresenceAt all key found
in_all label tree all key (Owner sets) h whole some first at = (at.0 ∙ h.sets key first, at.1)
in_all label tree all key Empty h whole some first at = (at.0 ∙ h.sets key first, sym (h.begun key whole some first) ∙ at.1)
in_all label tree all key Absent h whole some first at = sym (h.begun key whole some first) ∙ at

-- the key of a name below the origin is that of the name above, and its first label
pub record Label (origin name : List (List ℕ)) (left : ℕ) : Type 0 where
  pub label : List ℕ
  pub rest : List ℕ
  pub is : key_of origin name ≡ key_of origin (drop (left + 1) name) ++ length label ∷ (label ++ rest)
  pub next : key_of origin (drop left name) ≡ key_of origin (drop (left + 1) name) ++ length label ∷ label

pub label_at : (origin name : List (List ℕ)) (left : ℕ) → length origin + left < length name → Label origin name left
label_at origin name left more =
    let one : suc left ≡ left + 1 = omega arith in
    let less : left < length name = omega (arith, more) in
    let small : List ℕ = map to_ascii_lowercase (get_or name left []) in
    let up : List (List ℕ) = drop (left + 1) name in
    let f : Fronts origin name left = fronts origin name left (omega (arith, more)) in
    let parts : drop left name ≡ get_or name left [] ∷ up = drop-cons name left [] less ∙ ap (λ n. get_or name left [] ∷ drop n name) one in
    let next : key_of origin (drop left name) ≡ key_of origin up ++ length small ∷ small = ap (key_of origin) parts ∙ key_step origin (get_or name left []) up (omega (arith, more, length-drop (left + 1) name)) in
    record {
      label = small;
      rest = f.rest;
      is = f.is ∙ ap (λ (bytes : List ℕ). bytes ++ f.rest) next ∙ append_assoc (key_of origin up) (length small ∷ small) f.rest;
      next = next;
    }

-- the key of a name above is a front
pub front_at : (origin name : List (List ℕ)) (key : List ℕ) (left end : ℕ) → length origin + left ≤ length name → key ≡ key_of origin name → end ≡ length (key_of origin (drop left name)) → (end ≤ length key) × (take end key ≡ key_of origin (drop left name))
front_at origin name key left end labels is here =
    let f : Fronts origin name left = fronts origin name left labels in (
      omega (arith, here, ap length (is ∙ f.is), length-append (key_of origin (drop left name)) f.rest),
      ap (take end) (is ∙ f.is) ∙ take_at (key_of origin (drop left name)) f.rest end (sym here),
    )

module _ (origin : List (List ℕ)) (records : List Record) (name : List (List ℕ)) (key : List ℕ) (tree : Entries) (end above left : ℕ) (w : IsWay origin records name key tree end above left) where
  -- a key of a name with the first label of all names on the way
  told : {E : Type 0} (other : List (List ℕ)) (bytes : List ℕ) (result : Result Presence E) → is_at_or_below other origin ≡ true → bytes ≡ key_of origin other → 0 < length bytes → first_label bytes ≡ first_label key → IfOk result (IsPresenceAt tree bytes) → IfOk result (IsPresence records other)
  told other bytes (Ok found) within is some first h = w.tells other bytes found within is some first h
  told other bytes (Err e) within is some first h = tt

  -- a label is left
  module _ (some : 0 < left) where
    before : left - 1 + 1 ≡ left
    before = omega (arith, some)

    abbrev label : Label origin name (left - 1)
    label = label_at origin name (left - 1) (omega (arith, w.labels, some))

    here : end ≡ length (key_of origin (drop (left - 1 + 1) name))
    here = w.here ∙ ap (λ n. length (key_of origin (drop n name))) (sym before)

    pub size_there : end < length key
    size_there =
        omega (arith, here, ap length (w.is ∙ label.is), length-append (key_of origin (drop (left - 1 + 1) name)) (length label.label ∷ (label.label ++ label.rest)))

    -- the byte at which it stands is the length of the next label
    module _ (size : ℕ) (at : size ≡ get_or key end 0) where
      size_is : size ≡ length label.label
      size_is =
          at ∙ ap (λ (bytes : List ℕ). get_or bytes end 0) (w.is ∙ label.is) ∙ ap (λ n. get_or (key_of origin (drop (left - 1 + 1) name) ++ length label.label ∷ (label.label ++ label.rest)) n 0) here
          ∙ get_or-append_seam (key_of origin (drop (left - 1 + 1) name)) (length label.label) (label.label ++ label.rest) 0

      next_end : end + (size + 1) ≡ length (key_of origin (drop (left - 1) name))
      next_end = omega (arith, size_is, here, ap length label.next, length-append (key_of origin (drop (left - 1 + 1) name)) (length label.label ∷ label.label))

      pub next_within : end + (size + 1) ≤ length key
      next_within = (front_at origin name key (left - 1) (end + (size + 1)) (omega (arith, w.labels)) w.is next_end).0

      pub next_way : IsWay origin records name key tree (end + (size + 1)) end (left - 1)
      next_way = record {
        within = w.within;
        labels = omega (arith, w.labels);
        is = w.is;
        short = w.short;
        here = next_end;
        over = λ more. here;
        tells = w.tells;
      }

      pub met : {E : Type 0} (front : List ℕ) (result : Result Presence E) → front ≡ take (end + (size + 1)) key → IfOk result (IsPresenceAt tree front) → IfOk result (IsPresence records (drop (left - 1) name))
      met front result is h =
          let less : length origin + (left - 1) ≤ length name = omega (arith, w.labels) in
          let f = front_at origin name key (left - 1) (end + (size + 1)) less w.is next_end in
          let fr : Fronts origin name (left - 1) = fronts origin name (left - 1) less in
          let bytes : front ≡ key_of origin (drop (left - 1) name) = is ∙ f.1 in
          let filled : 0 < length (key_of origin (drop (left - 1) name)) = omega (arith, next_end) in
          told (drop (left - 1) name) front result (above_in origin name (left - 1) w.within less) bytes (omega (arith, ap length bytes, filled))
          (ap first_label bytes ∙ sym (same_label (key_of origin (drop (left - 1) name)) fr.rest (whole_key origin (drop (left - 1) name) _ refl) filled) ∙ ap first_label (sym (w.is ∙ fr.is))) h

  -- it stands below the origin
  module _ (below : length origin + left < length name) where
    up_labels : length origin + (left + 1) ≤ length name
    up_labels = omega (arith, below)

    pub up_within : above ≤ length key
    up_within = (front_at origin name key (left + 1) above up_labels w.is (w.over below)).0

    up : take above key ≡ key_of origin (drop (left + 1) name)
    up = (front_at origin name key (left + 1) above up_labels w.is (w.over below)).1

    pub star_is : (bytes : List ℕ) → bytes ≡ take above key ++ 1 ∷ 42 ∷ [] → bytes ≡ key_of origin (star_above (left + 1) name)
    star_is bytes is = star_key origin (drop (left + 1) name) bytes (take above key) (above_in origin name (left + 1) w.within up_labels) up is

    pub star_within : is_at_or_below (star_above (left + 1) name) origin ≡ true
    star_within = within_below origin (drop (left + 1) name) (42 ∷ []) (above_in origin name (left + 1) w.within up_labels)

    -- under a name below the origin the label `*` stands in the tree of the way
    pub star_met : {E : Type 0} (bytes : List ℕ) (result : Result Presence E) → (above ≡ 0 → ⊥) → bytes ≡ take above key ++ 1 ∷ 42 ∷ [] → IfOk result (IsPresenceAt tree bytes) → IfOk result (IsPresence records (star_above (left + 1) name))
    star_met bytes result far is h =
        let fr : Fronts origin name (left + 1) = fronts origin name (left + 1) up_labels in
        let filled : 0 < length (key_of origin (drop (left + 1) name)) = positive (length (key_of origin (drop (left + 1) name))) (λ none. far (w.over below ∙ none)) in
        let whole : HasWholeLabel (key_of origin (drop (left + 1) name)) = whole_key origin (drop (left + 1) name) _ refl in
        told (star_above (left + 1) name) bytes result star_within (star_is bytes is) (omega (arith, ap length is, length-append (take above key) (1 ∷ 42 ∷ [])))
        (ap first_label (is ∙ ap (λ (front : List ℕ). front ++ 1 ∷ 42 ∷ []) up) ∙ same_label (key_of origin (drop (left + 1) name)) (1 ∷ 42 ∷ []) whole filled
        ∙ sym (same_label (key_of origin (drop (left + 1) name)) fr.rest whole filled) ∙ ap first_label (sym (w.is ∙ fr.is))) h
      where
        positive : (n : ℕ) → (n ≡ 0 → ⊥) → 0 < n
        positive zero none = absurd (none refl)
        positive (suc n) none = omega arith

-- under the origin it stands in a tree of its own
pub star_alone : {E : Type 0} (origin : List (List ℕ)) (records : List Record) (other : List (List ℕ)) (tree : Entries) (bytes front : List ℕ) (result : Result Presence E) → Tells origin records (first_label bytes) tree → is_at_or_below other origin ≡ true → bytes ≡ key_of origin other
    → bytes ≡ front ++ 1 ∷ 42 ∷ [] → IfOk result (IsPresenceAt tree bytes) → IfOk result (IsPresence records other)
star_alone origin records other tree bytes front (Ok found) tells within is parts h = tells other bytes found within is (omega (arith, ap length parts, length-append front (1 ∷ 42 ∷ []))) refl h
star_alone origin records other tree bytes front (Err e) tells within is parts h = tt
