-- The keys that begin with a key stand in its tree.
use Rattle.std.proofs.Common.{◌≡◌, ℕ, ◌+◌, ◌<◌, Bool, true, false, List, [], ◌∷◌, ◌++◌, length, take, reverse, refl, sym, ap, ◌∙◌, subst, arith, length-append, eqb}
use Rattle.std.specs.Prelude.{◌||◌, ◌&&◌, ◌-◌, ◌%◌, slice_get, Some}
use Rattle.std.specs.List.{AllByRecursion, list_any, starts_with}
use Rattle.std.proofs.lemmas.List.{take-append-le}
use Rattle.std.proofs.lemmas.Option.{same_Some}
use Rattle.dns_name.specs.Name.{labels_bytes, fold_of}
use Rattle.dns_zone_map.specs.Keys.{key_of, BeginsWith}
use Rattle.dns_zone_map.specs.Presence.{is_begun}
use Rattle.dns_zone_map.specs.Sets.{are_some}
use Rattle.dns_zone_map.specs.Table.{first_label, HasWholeLabel, hash_from, place_of, all_in}
use Rattle.dns_zone_map.proofs.Firsts.{starts-Decides}
use Rattle.dns_zone_map.proofs.Lent.{all_to}
use Rattle.dns_zone_map.proofs.Rest.{Entries}
use Rattle.dns_zone_map.proofs.Table.{Entry, TreeOf, LeadElsewhere, Parted}

-- a key of labels has a whole first label
whole_labels : (labels : List (List ℕ)) → HasWholeLabel (labels_bytes labels)
whole_labels [] = tt
whole_labels (label ∷ labels) = let e : length (label ++ labels_bytes labels) ≡ length label + length (labels_bytes labels) = length-append label (labels_bytes labels) in omega (arith, e)

pub whole_key : (origin name : List (List ℕ)) (key : List ℕ) → key ≡ key_of origin name → HasWholeLabel key
whole_key origin name key is = subst HasWholeLabel (sym is) (whole_labels (reverse (fold_of (take (length name - length origin) name))))

longer : (key rest : List ℕ) → HasWholeLabel key → HasWholeLabel rest → HasWholeLabel (key ++ rest)
longer [] rest h r = r
longer (size ∷ bytes) rest h r = let e : length (bytes ++ rest) ≡ length bytes + length rest = length-append bytes rest in omega (arith, e, h)

pub whole_star : (origin name : List (List ℕ)) (front key : List ℕ) → front ≡ key_of origin name → key ≡ front ++ 1 ∷ 42 ∷ [] → HasWholeLabel key
whole_star origin name front key at is = subst HasWholeLabel (sym is) (longer front (1 ∷ 42 ∷ []) (whole_key origin name front at) (omega arith))

-- so what begins with the key has its first label
pub same_label : (key rest : List ℕ) → HasWholeLabel key → 0 < length key → first_label (key ++ rest) ≡ first_label key
same_label [] rest h some = absurd (omega (arith, some))
same_label (size ∷ bytes) rest h some = take-append-le size bytes rest h

not_true : (b : Bool) → (b ≡ true → ⊥) → b ≡ false
not_true true h = absurd (h refl)
not_true false h = refl

-- and no other entry begins with it
none_begins : (count : ℕ) (key : List ℕ) (es : Entries) → HasWholeLabel key → 0 < length key → LeadElsewhere count (place_of count key) es → AllByRecursion (λ e. starts_with eqb e.0.items key ≡ false) es
none_begins count key es whole some h =
    all_to (λ e. place_of count e.0.items ≡ place_of count key → ⊥) (λ e. starts_with eqb e.0.items key ≡ false)
    (λ e p. not_true (starts_with eqb e.0.items key) (λ t.
    let b : BeginsWith e.0.items key = (starts-Decides e.0.items key).0 t in
    p (ap (λ bytes. hash_from 0 bytes % count) (ap first_label b.1 ∙ same_label key b.0 whole some)))) es h

abbrev begins : List ℕ → Entry → Bool
begins key e = starts_with eqb e.0.items key && are_some e.1

none_any : (key : List ℕ) (es : Entries) → AllByRecursion (λ e. starts_with eqb e.0.items key ≡ false) es → list_any (begins key) es ≡ false
none_any key [] h = refl
none_any key (e ∷ es) h = rw h.0 (none_any key es h.1)

any_behind : (key : List ℕ) (front es : Entries) → AllByRecursion (λ e. starts_with eqb e.0.items key ≡ false) front → list_any (begins key) (front ++ es) ≡ list_any (begins key) es
any_behind key [] es h = refl
any_behind key (e ∷ front) es h = rw h.0 (any_behind key front es h.1)

or_false : (b : Bool) → (b || false) ≡ b
or_false true = refl
or_false false = refl

-- where one entry stands alone, it is asked alone
pub only_begun : (key : List ℕ) (es : Entries) (e : Entry) → length es ≡ 1 → slice_get es 0 ≡ Some e → begins key e ≡ is_begun es key
only_begun key [] e one is = absurd (omega (arith, one))
only_begun key (x ∷ []) e one is = sym (ap (begins key) (same_Some x e is)) ∙ sym (or_false (begins key x))
only_begun key (x ∷ y ∷ es) e one is = absurd (omega (arith, one))

any_before : (key : List ℕ) (es back : Entries) → AllByRecursion (λ e. starts_with eqb e.0.items key ≡ false) back → list_any (begins key) (es ++ back) ≡ list_any (begins key) es
any_before key [] back h = none_any key back h
any_before key (e ∷ es) back h = ap (λ b. begins key e || b) (any_before key es back h)

-- a search in the tree of the key is one in all
pub begun_in : (ts : List TreeOf) (t : TreeOf) (key : List ℕ) (place : ℕ) (zone : Entries) (there : Bool) → Parted ts t key place → all_in ts ≡ zone → HasWholeLabel key → 0 < length key → there ≡ list_any (begins key) t.entries → there ≡ list_any (begins key) zone
begun_in ts t key place zone there p view whole some is =
    is
    ∙ sym (ap (list_any (begins key)) (sym view ∙ p.was) ∙ any_behind key p.front (t.entries ++ p.back) (none_begins (length ts) key p.front whole some p.led_before)
    ∙ any_before key t.entries p.back (none_begins (length ts) key p.back whole some p.led_behind))

-- nothing begins so where there is nothing
pub none_begun : (es : Entries) (key : List ℕ) → length es ≡ 0 → false ≡ is_begun es key
none_begun [] key none = refl
none_begun (e ∷ es) key none = absurd (omega (arith, none))
