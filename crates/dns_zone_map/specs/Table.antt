-- A table of trees: the names of a zone are parted among ordered maps by their first label below the origin.
use Rattle.std.specs.Prelude.{◌≡◌, ℕ, ◌+◌, ◌*◌, ◌%◌, ◌<◌, ◌≤◌, suc, List, [], ◌∷◌, length, take, Vec}
use Rattle.std.specs.BTreeMap.{BTreeMap}
use Rattle.std.specs.List.{AllByRecursion, flat_map}
use Rattle.std.specs.declared.alloc.Global.{Global}
use Rattle.dns_zone_map.specs.declared.sets.RecordSet.{RecordSet}
use Rattle.dns_zone_map.specs.Tree.{KeysApart}

-- the first label of a key, without its length
abbrev pub first_label : List ℕ → List ℕ
first_label [] = []
first_label (size ∷ bytes) = take size bytes

-- the first label of a key, if there is one, is whole
abbrev pub HasWholeLabel : List ℕ → Type 0
HasWholeLabel [] = Unit {0}
HasWholeLabel (size ∷ bytes) = size ≤ length bytes

-- a number that many labels do not share, from one on
abbrev pub hash_from : ℕ → List ℕ → ℕ
hash_from hash [] = hash
hash_from hash (byte ∷ bytes) = hash_from ((hash * 16777619 + byte) % 4294967296) bytes

-- the place of the tree, among so many, in which a key stands
abbrev pub place_of : ℕ → List ℕ → ℕ
place_of count key = hash_from 0 (first_label key) % count

-- the entries of all trees, one tree after another
abbrev pub all_in : List (BTreeMap (Vec ℕ Global) (List RecordSet)) → List (Vec ℕ Global × List RecordSet)
all_in = flat_map (λ t. t.entries)

-- the entries of the tree at a place: each has its place there, and no key stands twice
pub record InPlace (count place : ℕ) (es : List (Vec ℕ Global × List RecordSet)) : Type 0 where
  pub placed : AllByRecursion (λ e. place_of count e.0.items ≡ place) es
  pub apart : KeysApart es

-- the same of trees, the first of which is at a place
abbrev pub AreInPlace : ℕ → ℕ → List (BTreeMap (Vec ℕ Global) (List RecordSet)) → Type 0
AreInPlace count place [] = Unit {0}
AreInPlace count place (t ∷ ts) = InPlace count place t.entries × AreInPlace count (suc place) ts

-- a table has a tree at least, and each entry stands in its tree
pub record IsTable (trees : List (BTreeMap (Vec ℕ Global) (List RecordSet))) : Type 0 where
  pub some : 0 < length trees
  pub each : AreInPlace (length trees) 0 trees
