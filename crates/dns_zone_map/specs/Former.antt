-- What names owned before a change that may be undone.
use Rattle.std.specs.Prelude.{◌≡◌, ◌⊎◌, ℕ, Bool, true, List, [], ◌∷◌, ◌++◌, map, if◌then◌else◌, Option, Some, None, IfSome, Vec}
use Rattle.std.specs.List.{AllByRecursion, list_any}
use Rattle.std.specs.Map.{lookup}
use Rattle.std.specs.Str.{bytes_eq}
use Rattle.std.specs.declared.alloc.Global.{Global}
use Rattle.dns_zone_map.specs.declared.sets.RecordSet.{RecordSet}
use Rattle.dns_zone_map.specs.declared.former.FormerSets.{FormerSets}
use Rattle.dns_wire.specs.declared.record.Record.{Record}
use Rattle.dns_zone_map.specs.declared.former.Undoing.{Undoing}
use Rattle.dns_zone_map.specs.Order.{list_of}
use Rattle.dns_zone_map.specs.Tree.{in_entries, IsTree, KeysApart}
use Rattle.dns_zone_map.specs.Sets.{sets_or_none}
use Rattle.dns_zone_map.specs.Insertion.{IsAdded}
use Rattle.dns_zone_map.specs.Removal.{is_key}

-- a name with the sets that it owned before: those that were kept of it first, or where none were kept those that it owns
abbrev pub former : List FormerSets → Vec ℕ Global × List RecordSet → Vec ℕ Global × List RecordSet
former [] e = e
former (f ∷ fs) e = if is_key f.key.items e.0 then (e.0, f.sets) else former fs e

-- the names with the sets that they owned before
abbrev pub restored : List FormerSets → List (Vec ℕ Global × List RecordSet) → List (Vec ℕ Global × List RecordSet)
restored fs = map (former fs)

-- the records before the changes, where they can be undone
abbrev pub before_of : Option Undoing → List (Vec ℕ Global × List RecordSet) → Option (List Record)
before_of None es = None
before_of (Some undoing) es = Some (list_of (in_entries (restored undoing.formers.items es)))

-- sets were kept of the name with this key
abbrev pub covers : List FormerSets → List ℕ → Bool
covers fs key = list_any (λ f. bytes_eq f.key.items key) fs

-- the map has each name of which sets were kept
abbrev pub ArePresent : List FormerSets → List (Vec ℕ Global × List RecordSet) → Type 0
ArePresent fs es = AllByRecursion (λ f. list_any (λ e. is_key f.key.items e.0) es ≡ true) fs

-- what was changed can be undone
pub record CanUndo (origin : List (List ℕ)) (es : List (Vec ℕ Global × List RecordSet)) (undoing : Undoing) : Type 0 where
  pub present : ArePresent undoing.formers.items es
  pub tree : IsTree origin (restored undoing.formers.items es) undoing.next undoing.count

-- a map of a zone, whose changes can be undone or not
pub record IsMap (origin : List (List ℕ)) (es : List (Vec ℕ Global × List RecordSet)) (next count : ℕ) (undoing : Option Undoing) : Type 0 where
  pub tree : IsTree origin es next count
  pub undo : IfSome undoing (CanUndo origin es)

-- the names but for the sets of the one with this key
abbrev pub blanked : List ℕ → List (Vec ℕ Global × List RecordSet) → List (Vec ℕ Global × List RecordSet)
blanked key = map (λ e. if is_key key e.0 then (e.0, []) else e)

-- the map has the name with this key: it was there, or was added without sets
abbrev pub HasName : List ℕ → List (Vec ℕ Global × List RecordSet) → List (Vec ℕ Global × List RecordSet) → Type 0
HasName key before after = ((sets : List RecordSet) × (lookup (is_key key) before ≡ Some sets) × (after ≡ before)) ⊎ ((lookup (is_key key) before ≡ None) × IsAdded key [] before after)

-- what the name with this key owns was kept last, and the map, in which no key stands twice, has the name
pub record KeptLast (key : List ℕ) (before : List (Vec ℕ Global × List RecordSet)) (was : List FormerSets) (after : List (Vec ℕ Global × List RecordSet)) (is : List FormerSets) : Type 0 where
  pub last : FormerSets
  pub more : is ≡ was ++ last ∷ []
  pub keyed : last.key.items ≡ key
  pub sets : last.sets ≡ sets_or_none (lookup (is_key key) before)
  pub here : HasName key before after
  pub apart : KeysApart before

-- sets were kept of the name before, and nothing changes
pub record KeptBefore (key : List ℕ) (before : List (Vec ℕ Global × List RecordSet)) (was : List FormerSets) (after : List (Vec ℕ Global × List RecordSet)) (is : List FormerSets) : Type 0 where
  pub covered : covers was key ≡ true
  pub same : after ≡ before
  pub log : is ≡ was

-- either of the two
abbrev pub IsKeptIn : List ℕ → List (Vec ℕ Global × List RecordSet) → List FormerSets → List (Vec ℕ Global × List RecordSet) → List FormerSets → Type 0
IsKeptIn key before was after is = KeptLast key before was after is ⊎ KeptBefore key before was after is

-- what the name with this key owns was kept, where changes can be undone
abbrev pub IsKept : List ℕ → List (Vec ℕ Global × List RecordSet) → Option Undoing → List (Vec ℕ Global × List RecordSet) → Option Undoing → Type 0
IsKept key before None after is = (after ≡ before) × (is ≡ None)
IsKept key before (Some was) after None = ⊥
IsKept key before (Some was) after (Some is) = IsKeptIn key before was.formers.items after is.formers.items × (is.next ≡ was.next) × (is.count ≡ was.count)

-- the same was kept
pub record KeepSame (was is : Undoing) : Type 0 where
  pub formers : is.formers.items ≡ was.formers.items
  pub next : is.next ≡ was.next
  pub count : is.count ≡ was.count

-- nothing more was kept
abbrev pub IsSameUndoing : Option Undoing → Option Undoing → Type 0
IsSameUndoing None None = Unit {0}
IsSameUndoing None (Some is) = ⊥
IsSameUndoing (Some was) None = ⊥
IsSameUndoing (Some was) (Some is) = KeepSame was is
