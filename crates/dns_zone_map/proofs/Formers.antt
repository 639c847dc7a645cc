-- Names get back what they owned before a change.
use Rattle.std.proofs.Common.{◌≡◌, ℕ, zero, suc, ◌<◌, ◌≤◌, Bool, true, false, List, [], ◌∷◌, ◌++◌, length, get_or, map, take, refl, sym, ap, ◌∙◌, arith, if◌then◌else◌, Some, None, Vec, Global}
use Rattle.std.specs.Prelude.{cond}
use Rattle.std.specs.List.{AllByRecursion}
use Rattle.std.specs.Str.{bytes_eq}
use Rattle.std.specs.Map.{lookup, set_value}
use Rattle.std.proofs.lemmas.Map.Text.{is_eq-slice_cmp}
use Rattle.dns_zone_map.specs.declared.sets.RecordSet.{RecordSet}
use Rattle.dns_zone_map.specs.declared.former.FormerSets.{FormerSets}
use Rattle.dns_zone_map.specs.Tree.{KeysApart}
use Rattle.dns_zone_map.specs.Removal.{is_key}
use Rattle.dns_zone_map.specs.Former.{former, restored}
use Rattle.dns_zone_map.proofs.Lent.{all_to}
use Rattle.dns_zone_map.proofs.Rest.{Entries}
use Rattle.dns_zone_map.proofs.Taking.{key_is}

abbrev Entry : Type 0
Entry = Vec ℕ Global × List RecordSet

-- a name with the sets that were kept, if they are its own
abbrev pub with_former : FormerSets → Entry → Entry
with_former f e = if is_key f.key.items e.0 then (e.0, f.sets) else e

key_stays : (b : Bool) (e : Entry) (sets : List RecordSet) → (if b then (e.0, sets) else e).0 ≡ e.0
key_stays true e sets = refl
key_stays false e sets = refl

same_key : (g : FormerSets) (fs : List FormerSets) (x e : Entry) → x.0 ≡ e.0 → (if is_key g.key.items x.0 then (x.0, g.sets) else former fs x) ≡ (if is_key g.key.items e.0 then (e.0, g.sets) else former fs x)
same_key g fs x e k = ap (λ (z : Vec ℕ Global). if is_key g.key.items z then (z, g.sets) else former fs x) k

-- what was kept last is given back first
former_last : (fs : List FormerSets) (f : FormerSets) (e : Entry) → former (fs ++ f ∷ []) e ≡ former fs (with_former f e)
former_last [] f e = refl
former_last (g ∷ fs) f e =
    ap (λ (x : Entry). if is_key g.key.items e.0 then (e.0, g.sets) else x) (former_last fs f e) ∙ sym (same_key g fs (with_former f e) e (key_stays (is_key f.key.items e.0) e f.sets))

pub restored_last : (fs : List FormerSets) (f : FormerSets) (es : Entries) → restored (fs ++ f ∷ []) es ≡ restored fs (map (with_former f) es)
restored_last fs f [] = refl
restored_last fs f (e ∷ es) = ap (λ (x : Entry). x ∷ restored (fs ++ f ∷ []) es) (former_last fs f e) ∙ ap (λ (xs : Entries). former fs (with_former f e) ∷ xs) (restored_last fs f es)

not_given : (b : Bool) (e : Entry) (sets : List RecordSet) → b ≡ false → (if b then (e.0, sets) else e) ≡ e
not_given true e sets h = absurd cc
not_given false e sets h = refl

pub none_given : (f : FormerSets) (es : Entries) → AllByRecursion (λ e. is_key f.key.items e.0 ≡ false) es → map (with_former f) es ≡ es
none_given f [] h = refl
none_given f (e ∷ es) h = ap (λ (x : Entry). x ∷ map (with_former f) es) (not_given (is_key f.key.items e.0) e f.sets h.0) ∙ ap (λ (xs : Entries). e ∷ xs) (none_given f es h.1)

other_key : (f : FormerSets) (e g : Entry) → is_key f.key.items e.0 ≡ true → bytes_eq e.0.items g.0.items ≡ false → is_key f.key.items g.0 ≡ false
other_key f e g t h = is_eq-slice_cmp f.key.items g.0.items ∙ ap (λ (k : List ℕ). bytes_eq k g.0.items) (sym (key_is f.key.items e.0 t)) ∙ h

given_if : (b : Bool) (f : FormerSets) (e : Entry) (es : Entries) → is_key f.key.items e.0 ≡ b → AllByRecursion (λ g. bytes_eq e.0.items g.0.items ≡ false) es → set_value (is_key f.key.items) es f.sets ≡ map (with_former f) es
    → cond b ((e.0, f.sets) ∷ es) (e ∷ set_value (is_key f.key.items) es f.sets) ≡ (if b then (e.0, f.sets) else e) ∷ map (with_former f) es
given_if true f e es t others ih =
    ap (λ (xs : Entries). (e.0, f.sets) ∷ xs) (sym (none_given f es (all_to (λ g. bytes_eq e.0.items g.0.items ≡ false) (λ g. is_key f.key.items g.0 ≡ false) (λ g h. other_key f e g t h) es others)))
given_if false f e es t others ih = ap (λ (xs : Entries). e ∷ xs) ih

-- to give a name its sets back is to write them at its key
pub given : (f : FormerSets) (es : Entries) → KeysApart es → set_value (is_key f.key.items) es f.sets ≡ map (with_former f) es
given f [] a = refl
given f (e ∷ es) a = given_if (is_key f.key.items e.0) f e es refl a.0 (given f es a.1)

some_former : (fs : List FormerSets) → 0 < length fs → FormerSets
some_former [] h = absurd (omega arith)
some_former (f ∷ fs) h = f

take_next : (fs : List FormerSets) (place : ℕ) (d : FormerSets) → place < length fs → take (suc place) fs ≡ take place fs ++ get_or fs place d ∷ []
take_next [] place d h = absurd (omega arith)
take_next (f ∷ fs) zero d h = refl
take_next (f ∷ fs) (suc place) d h = ap (λ (gs : List FormerSets). f ∷ gs) (take_next fs place d (omega arith))

-- one name more has its sets back
pub next_back : (fs gs : List FormerSets) (es after : Entries) (place left : ℕ) → left ≡ suc place → left ≤ length fs → KeysApart es
    → ((d : FormerSets) → after ≡ set_value (is_key (get_or fs place d).key.items) es (get_or fs place d).sets) → take place gs ≡ take place fs → restored (take place gs) after ≡ restored (take left fs) es
next_back fs gs es after place left is within apart written same =
    let d : FormerSets = some_former fs (omega arith) in
    let f : FormerSets = get_or fs place d in
    ap (λ (hs : List FormerSets). restored hs after) same ∙ ap (restored (take place fs)) (written d ∙ given f es apart) ∙ sym (restored_last (take place fs) f es) ∙ ap (λ (hs : List FormerSets). restored hs es) (sym (take_next fs place d (omega arith)))
    ∙ ap (λ n. restored (take n fs) es) (sym is)

-- where nothing is left to be given back, all is
pub all_given : (es : Entries) → restored [] es ≡ es
all_given [] = refl
all_given (e ∷ es) = ap (λ (xs : Entries). e ∷ xs) (all_given es)

-- where the map has no such name, nothing is written
absent_if : (b : Bool) (key : List ℕ) (e : Entry) (es : Entries) (sets : List RecordSet) → cond b (Some e.1) (lookup (is_key key) es) ≡ None → (lookup (is_key key) es ≡ None → set_value (is_key key) es sets ≡ es) → cond b ((e.0, sets) ∷ es) (e ∷ set_value (is_key key) es sets) ≡ e ∷ es
absent_if true key e es sets h ih = absurd cc
absent_if false key e es sets h ih = ap (λ (xs : Entries). e ∷ xs) (ih h)

pub not_written : (key : List ℕ) (es : Entries) (sets : List RecordSet) → lookup (is_key key) es ≡ None → set_value (is_key key) es sets ≡ es
not_written key [] sets h = refl
not_written key (e ∷ es) sets h = absent_if (is_key key e.0) key e es sets h (not_written key es sets)
