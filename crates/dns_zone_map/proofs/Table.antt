-- A table of trees as the one list of its entries.
use Rattle.std.proofs.Common.{◌≡◌, ℕ, suc, ◌+◌, ◌<◌, ◌≤◌, Bool, true, false, List, [], ◌∷◌, ◌++◌, length, take, drop, get_or, refl, sym, ap, ◌∙◌, subst, arith, length-append, Vec, Global}
use Rattle.std.specs.Prelude.{slice_set}
use Rattle.std.specs.BTreeMap.{BTreeMap}
use Rattle.std.specs.List.{AllByRecursion}
use Rattle.std.specs.Str.{bytes_eq}
use Rattle.std.proofs.lemmas.List.{set_split, take-append-drop, drop_more, length-take-le}
use Rattle.std.proofs.lemmas.List.Concat.{flat_map-append}
use Rattle.std.proofs.lemmas.Slice.Eq.{bytes_eq-Decides}
use Rattle.dns_zone_map.specs.declared.sets.RecordSet.{RecordSet}
use Rattle.dns_zone_map.specs.Removal.{is_key}
use Rattle.dns_zone_map.specs.Table.{place_of, all_in, InPlace, AreInPlace, IsTable}
use Rattle.dns_zone_map.specs.Tree.{KeysApart}
use Rattle.dns_zone_map.proofs.Exists.{all_append}
use Rattle.dns_zone_map.proofs.Lent.{all_to}
use Rattle.dns_zone_map.proofs.Rest.{Entries}
use Rattle.dns_zone_map.proofs.Taking.{key_is}

abbrev pub Entry : Type 0
Entry = Vec ℕ Global × List RecordSet

abbrev pub TreeOf : Type 0
TreeOf = BTreeMap (Vec ℕ Global) (List RecordSet)

-- a tree among others
pub all_split : (fs bs : List TreeOf) (t : TreeOf) → all_in (fs ++ t ∷ bs) ≡ all_in fs ++ (t.entries ++ all_in bs)
all_split fs bs t = flat_map-append (λ (u : TreeOf). u.entries) fs (t ∷ bs)

-- no entry of trees at other places leads to a place
abbrev pub LeadElsewhere : ℕ → ℕ → Entries → Type 0
LeadElsewhere count place = AllByRecursion (λ e. place_of count e.0.items ≡ place → ⊥)

elsewhere_one : (count i place : ℕ) (es : Entries) → (i ≡ place → ⊥) → AllByRecursion (λ e. place_of count e.0.items ≡ i) es → LeadElsewhere count place es
elsewhere_one count i place es other h = all_to (λ e. place_of count e.0.items ≡ i) (λ e. place_of count e.0.items ≡ place → ⊥) (λ e p q. other (sym p ∙ q)) es h

above : (count i place : ℕ) (ts : List TreeOf) → place < i → AreInPlace count i ts → LeadElsewhere count place (all_in ts)
above count i place [] l h = tt
above count i place (t ∷ ts) l h =
    all_append (λ (e : Entry). place_of count e.0.items ≡ place → ⊥) t.entries (all_in ts) (elsewhere_one count i place t.entries (λ q. omega (arith, l, q)) h.0.placed) (above count (suc i) place ts (omega (arith, l)) h.1)

below : (count i place : ℕ) (ts : List TreeOf) → i + length ts ≤ place → AreInPlace count i ts → LeadElsewhere count place (all_in ts)
below count i place [] l h = tt
below count i place (t ∷ ts) l h =
    all_append (λ (e : Entry). place_of count e.0.items ≡ place → ⊥) t.entries (all_in ts) (elsewhere_one count i place t.entries (λ q. omega (arith, l, q)) h.0.placed) (below count (suc i) place ts (omega (arith, l)) h.1)

not_true : (b : Bool) → (b ≡ true → ⊥) → b ≡ false
not_true true h = absurd (h refl)
not_true false h = refl

-- so none has a key that leads there
other_keys : (count : ℕ) (key : List ℕ) (es : Entries) → LeadElsewhere count (place_of count key) es → AllByRecursion (λ e. is_key key e.0 ≡ false) es
other_keys count key es h = all_to (λ e. place_of count e.0.items ≡ place_of count key → ⊥) (λ e. is_key key e.0 ≡ false) (λ e p. not_true (is_key key e.0) (λ t. p (ap (place_of count) (key_is key e.0 t)))) es h

-- and none the same key as one of a tree there
differ : (count place : ℕ) (e : Entry) (es : Entries) → place_of count e.0.items ≡ place → LeadElsewhere count place es → AllByRecursion (λ f. bytes_eq e.0.items f.0.items ≡ false) es
differ count place e es here h =
    all_to (λ f. place_of count f.0.items ≡ place → ⊥) (λ f. bytes_eq e.0.items f.0.items ≡ false)
    (λ f p. not_true (bytes_eq e.0.items f.0.items) (λ t. p (ap (place_of count) (sym ((bytes_eq-Decides e.0.items f.0.items).0 t)) ∙ here))) es h

apart_both : (count place : ℕ) (es others : Entries) → AllByRecursion (λ e. place_of count e.0.items ≡ place) es → LeadElsewhere count place others → KeysApart es → KeysApart others → KeysApart (es ++ others)
apart_both count place [] others h o a b = b
apart_both count place (e ∷ es) others h o a b =
    (all_append (λ f. bytes_eq e.0.items f.0.items ≡ false) es others a.0 (differ count place e others h.0 o), apart_both count place es others h.1 o a.1 b)

-- no key stands twice in the trees
pub apart_all : (count i : ℕ) (ts : List TreeOf) → AreInPlace count i ts → KeysApart (all_in ts)
apart_all count i [] h = tt
apart_all count i (t ∷ ts) h = apart_both count i t.entries (all_in ts) h.0.placed (above count (suc i) i ts (omega arith) h.1) h.0.apart (apart_all count (suc i) ts h.1)

-- the trees before one, and those behind it
in_front : (count i : ℕ) (fs : List TreeOf) (t : TreeOf) (bs : List TreeOf) → AreInPlace count i (fs ++ t ∷ bs) → AreInPlace count i fs
in_front count i [] t bs h = tt
in_front count i (f ∷ fs) t bs h = (h.0, in_front count (suc i) fs t bs h.1)

at_place : (count i : ℕ) (fs : List TreeOf) (t : TreeOf) (bs : List TreeOf) → AreInPlace count i (fs ++ t ∷ bs) → InPlace count (i + length fs) t.entries × AreInPlace count (suc (i + length fs)) bs
at_place count i [] t bs h = let e : i ≡ i + 0 = omega arith in (subst (λ n. InPlace count n t.entries) e h.0, subst (λ n. AreInPlace count (suc n) bs) e h.1)
at_place count i (f ∷ fs) t bs h =
    let m = at_place count (suc i) fs t bs h.1 in
    let e : suc i + length fs ≡ i + suc (length fs) = omega arith in
    (subst (λ n. InPlace count n t.entries) e m.0, subst (λ n. AreInPlace count (suc n) bs) e m.1)

-- another tree in its place
exchanged : (count i : ℕ) (fs : List TreeOf) (t u : TreeOf) (bs : List TreeOf) → AreInPlace count i (fs ++ t ∷ bs) → InPlace count (i + length fs) u.entries → AreInPlace count i (fs ++ u ∷ bs)
exchanged count i [] t u bs h p = let e : i + 0 ≡ i = omega arith in (subst (λ n. InPlace count n u.entries) e p, h.1)
exchanged count i (f ∷ fs) t u bs h p = let e : i + suc (length fs) ≡ suc i + length fs = omega arith in (h.0, exchanged count (suc i) fs t u bs h.1 (subst (λ n. InPlace count n u.entries) e p))

-- the tree of a key among the others
pub record Parted (ts : List TreeOf) (t : TreeOf) (key : List ℕ) (place : ℕ) : Type 0 where
  pub front : Entries
  pub back : Entries
  pub was : all_in ts ≡ front ++ (t.entries ++ back)
  pub before : AllByRecursion (λ e. is_key key e.0 ≡ false) front
  pub behind : AllByRecursion (λ e. is_key key e.0 ≡ false) back
  pub led_before : LeadElsewhere (length ts) (place_of (length ts) key) front
  pub led_behind : LeadElsewhere (length ts) (place_of (length ts) key) back
  pub held : InPlace (length ts) (place_of (length ts) key) t.entries
  pub is : (u : TreeOf) → all_in (slice_set ts place u) ≡ front ++ (u.entries ++ back)
  pub kept : (u : TreeOf) → InPlace (length ts) (place_of (length ts) key) u.entries → IsTable (slice_set ts place u)

module _ (ts : List TreeOf) (key : List ℕ) (place : ℕ) (t : TreeOf) (table : IsTable ts) (here : place ≡ place_of (length ts) key) (within : place < length ts) (at : t ≡ get_or ts place t) where
  abbrev fs : List TreeOf
  fs = take place ts

  abbrev bs : List TreeOf
  bs = drop (suc place) ts

  split : ts ≡ fs ++ t ∷ bs
  split =
      sym (take-append-drop place ts) ∙ ap (λ (xs : List TreeOf). take place ts ++ xs) (drop_more ts place t within) ∙ ap (λ (x : TreeOf). take place ts ++ x ∷ drop (place + 1) ts) (sym at)
      ∙ ap (λ n. take place ts ++ t ∷ drop n ts) (let e : place + 1 ≡ suc place = omega arith in e)

  size : length fs ≡ place
  size = length-take-le place ts (omega (arith, within))

  each : AreInPlace (length ts) 0 (fs ++ t ∷ bs)
  each = subst (AreInPlace (length ts) 0) split table.each

  middle : InPlace (length ts) (0 + length fs) t.entries × AreInPlace (length ts) (suc (0 + length fs)) bs
  middle = at_place (length ts) 0 fs t bs each

  spot : 0 + length fs ≡ place_of (length ts) key
  spot = omega (arith, size, here)

  set : (u : TreeOf) → slice_set ts place u ≡ fs ++ u ∷ bs
  set u = set_split ts place u within

  length-set : (u : TreeOf) → length (fs ++ u ∷ bs) ≡ length ts
  length-set u = length-append fs (u ∷ bs) ∙ sym (ap length split ∙ length-append fs (t ∷ bs))

  lower : LeadElsewhere (length ts) (place_of (length ts) key) (all_in fs)
  lower = below (length ts) 0 (place_of (length ts) key) fs (omega (arith, spot)) (in_front (length ts) 0 fs t bs each)

  upper : LeadElsewhere (length ts) (place_of (length ts) key) (all_in bs)
  upper = above (length ts) (suc (0 + length fs)) (place_of (length ts) key) bs (omega (arith, spot)) middle.1

  pub parted : Parted ts t key place
  parted = record {
    front = all_in fs;
    back = all_in bs;
    was = ap all_in split ∙ all_split fs bs t;
    before = other_keys (length ts) key (all_in fs) lower;
    behind = other_keys (length ts) key (all_in bs) upper;
    led_before = lower;
    led_behind = upper;
    held = subst (λ n. InPlace (length ts) n t.entries) spot middle.0;
    is = λ u. ap all_in (set u) ∙ all_split fs bs u;
    kept = λ u p.
        subst IsTable (sym (set u)) (record {
          some = omega (arith, length-set u, table.some);
          each = subst (λ n. AreInPlace n 0 (fs ++ u ∷ bs)) (sym (length-set u)) (exchanged (length ts) 0 fs t u bs each (subst (λ n. InPlace (length ts) n u.entries) (sym spot) p));
        });
  }

-- the same, where the number of trees was read
pub found_tree : (ts : List TreeOf) (key : List ℕ) (count place : ℕ) (t : TreeOf) → IsTable ts → count ≡ length ts → place ≡ place_of count key → place < count → t ≡ get_or ts place t → Parted ts t key place
found_tree ts key count place t table many here within at = parted ts key place t table (here ∙ ap (λ n. place_of n key) many) (omega (arith, many, within)) at

-- trees of no names
abbrev pub AreEmpty : List TreeOf → Type 0
AreEmpty = AllByRecursion (λ t. t.entries ≡ [])

pub one_more : (ts : List TreeOf) (t : TreeOf) → AreEmpty ts → t.entries ≡ [] → AreEmpty (ts ++ t ∷ [])
one_more ts t h e = all_append (λ (u : TreeOf). u.entries ≡ []) ts (t ∷ []) h (e, tt)

pub empty_all : (ts : List TreeOf) → AreEmpty ts → all_in ts ≡ []
empty_all [] h = refl
empty_all (t ∷ ts) h = ap (λ (es : Entries). es ++ all_in ts) h.0 ∙ empty_all ts h.1

empty_placed : (count i : ℕ) (ts : List TreeOf) → AreEmpty ts → AreInPlace count i ts
empty_placed count i [] h = tt
empty_placed count i (t ∷ ts) h = (subst (InPlace count i) (sym h.0) (record { placed = tt; apart = tt }), empty_placed count (suc i) ts h.1)

pub empty_table : (ts : List TreeOf) → 0 < length ts → AreEmpty ts → IsTable ts
empty_table ts some h = record { some = some; each = empty_placed (length ts) 0 ts h }

-- the entries from a tree on
pub next_in : (ts : List TreeOf) (place : ℕ) (t : TreeOf) → place < length ts → t ≡ get_or ts place t → all_in (drop place ts) ≡ t.entries ++ all_in (drop (place + 1) ts)
next_in ts place t within at = ap all_in (drop_more ts place t within) ∙ ap (λ (u : TreeOf). u.entries ++ all_in (drop (place + 1) ts)) (sym at)
