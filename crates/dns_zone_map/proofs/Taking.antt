-- A set that is taken from the map: where it stood.
use Rattle.std.proofs.Common.{◌≡◌, ℕ, suc, ◌+◌, ◌<◌, Bool, true, false, List, [], ◌∷◌, ◌++◌, length, get_or, take, drop, refl, sym, ap, ◌∙◌, subst, arith, ◌==◌, Some, None, Vec, Global}
use Rattle.std.specs.Prelude.{Option, cond, IfSome}
use Rattle.std.specs.List.{AllByRecursion}
use Rattle.std.specs.Option.{option_and_then}
use Rattle.std.specs.Map.{lookup, set_value, remove_entry}
use Rattle.std.proofs.lemmas.List.{set_split, set-get_or, take-append-drop}
use Rattle.std.proofs.lemmas.Bool.{ne_eqb}
use Rattle.std.proofs.lemmas.Map.Steps.{set_value_same}
use Rattle.dns_zone_map.specs.declared.sets.RecordSet.{RecordSet}
use Rattle.dns_zone_map.specs.Sets.{TypesRise, set_in}
use Rattle.std.proofs.lemmas.Slice.Eq.{bytes_eq-Decides}
use Rattle.std.proofs.lemmas.Map.Text.{is_eq-slice_cmp}
use Rattle.dns_zone_map.proofs.Lent.{looked}
use Rattle.dns_zone_map.specs.Insertion.{StandsAt, ComesAt}
use Rattle.dns_zone_map.specs.Removal.{SetTaken, IsTaken, is_key, ChangedIn, ChangedFrom, IsTakenFrom}

abbrev Entries : Type 0
Entries = List (Vec ℕ Global × List RecordSet)

not_in : (rtype : ℕ) (s : RecordSet) (ss : List RecordSet) → (s.rtype ≡ rtype → ⊥) → set_in rtype ss ≡ None → set_in rtype (s ∷ ss) ≡ None
not_in rtype s ss other h = let t : (s.rtype == rtype) ≡ false = ne_eqb s.rtype rtype other in rw t h

none_upper : (rtype : ℕ) (ss : List RecordSet) → AllByRecursion (λ s. rtype < s.rtype) ss → set_in rtype ss ≡ None
none_upper rtype [] h = refl
none_upper rtype (s ∷ ss) h = not_in rtype s ss (λ e. let l : rtype < s.rtype = h.0 in omega (arith, l, e)) (none_upper rtype ss h.1)

none_either : (rtype : ℕ) (fs bs : List RecordSet) → AllByRecursion (λ s. s.rtype < rtype) fs → AllByRecursion (λ s. rtype < s.rtype) bs → set_in rtype (fs ++ bs) ≡ None
none_either rtype [] bs l u = none_upper rtype bs u
none_either rtype (f ∷ fs) bs l u = not_in rtype f (fs ++ bs) (λ e. let m : f.rtype < rtype = l.0 in omega (arith, m, e)) (none_either rtype fs bs l.1 u)

-- where none would stand, there is none
pub none_there : (rtype : ℕ) (items read seen : List RecordSet) (place : ℕ) → items ≡ seen → read ≡ items → ComesAt rtype read place → IsTaken rtype seen items None
none_there rtype items read seen place view same at =
    (view, ap (set_in rtype) (sym (take-append-drop place read ∙ same ∙ view)) ∙ none_either rtype (take place read) (drop place read) at.lower at.upper)

-- where one stands, it is taken
pub taken_there : (rtype : ℕ) (items read seen after : List RecordSet) (place : ℕ) (set : RecordSet) → items ≡ seen → read ≡ items → StandsAt rtype read place → set ≡ get_or items place set → after ≡ take place items ++ drop (place + 1) items → IsTaken rtype seen after (Some set)
taken_there rtype items read seen after place set view same at is gone =
    let here : StandsAt rtype items place = subst (λ (ss : List RecordSet). StandsAt rtype ss place) same at in
    record {
      front = take place items;
      back = drop (suc place) items;
      was = sym view ∙ sym (set-get_or items place set) ∙ set_split items place (get_or items place set) here.within ∙ ap (λ s. take place items ++ s ∷ drop (suc place) items) (sym is);
      typed = ap (λ (s : RecordSet). s.rtype) is ∙ here.typed set;
      is = gone ∙ ap (λ n. take place items ++ drop n items) (let e : place + 1 ≡ suc place = omega arith in e);
    }

-- an entry that is found first
pub record FirstAt (key : List ℕ) (es : Entries) (sets : List RecordSet) : Type 0 where
  pub front : Entries
  pub stored : Vec ℕ Global
  pub back : Entries
  pub was : es ≡ front ++ (stored, sets) ∷ back
  pub first : AllByRecursion (λ e. is_key key e.0 ≡ false) front
  pub found : is_key key stored ≡ true
  pub written : (w : List RecordSet) → set_value (is_key key) es w ≡ front ++ (stored, w) ∷ back

first_if : (b : Bool) (key : List ℕ) (e : Vec ℕ Global × List RecordSet) (es : Entries) (sets : List RecordSet) → is_key key e.0 ≡ b → cond b (Some e.1) (lookup (is_key key) es) ≡ Some sets → (lookup (is_key key) es ≡ Some sets → FirstAt key es sets) → FirstAt key (e ∷ es) sets
first_if true key e es sets t h ih =
    let same : e.1 ≡ sets = cc in
    record { front = []; stored = e.0; back = es; was = ap (λ (s : List RecordSet). (e.0, s) ∷ es) same; first = tt; found = t; written = λ w. rw t refl }
first_if false key e es sets t h ih =
    let f : FirstAt key es sets = ih h in
    record { front = e ∷ f.front; stored = f.stored; back = f.back; was = ap (λ (xs : Entries). e ∷ xs) f.was; first = (t, f.first); found = f.found; written = λ w. rw t (ap (λ (xs : Entries). e ∷ xs) (f.written w)) }

pub first_at : (key : List ℕ) (es : Entries) (sets : List RecordSet) → lookup (is_key key) es ≡ Some sets → FirstAt key es sets
first_at key [] sets h = absurd cc
first_at key (e ∷ es) sets h = first_if (is_key key e.0) key e es sets refl h (first_at key es sets)

gone_here : (key : List ℕ) (front back : Entries) (stored : Vec ℕ Global) (ss : List RecordSet) → AllByRecursion (λ e. is_key key e.0 ≡ false) front → is_key key stored ≡ true → remove_entry (is_key key) (front ++ (stored, ss) ∷ back) ≡ front ++ back
gone_here key [] back stored ss h t = rw t refl
gone_here key (e ∷ front) back stored ss h t = rw h.0 (ap (λ (xs : Entries). e ∷ xs) (gone_here key front back stored ss h.1 t))

-- the sets that are found became others
pub changed_in : (key : List ℕ) (before after : Entries) (Change : List RecordSet → List RecordSet → Type 0) (sets changed : List RecordSet) (left : ℕ) → Some sets ≡ lookup (is_key key) before → after ≡ set_value (is_key key) before changed → Change sets changed → left ≡ length changed → ChangedIn key Change before after left
changed_in key before after Change sets changed left at is change count =
    let f : FirstAt key before sets = first_at key before sets (sym at) in
    record { front = f.front; stored = f.stored; sets = sets; changed = changed; back = f.back; was = f.was; first = f.first; found = f.found; is = is ∙ f.written changed; change = change; left_is = count }

pub key_is : (key : List ℕ) (k : Vec ℕ Global) → is_key key k ≡ true → k.items ≡ key
key_is key k t = sym ((bytes_eq-Decides key k.items).0 (sym (is_eq-slice_cmp key k.items) ∙ t))

-- the same, the name staying
pub changed_from : (key : List ℕ) (before after : Entries) (Change : List RecordSet → List RecordSet → Type 0) (sets changed : List RecordSet) → Some sets ≡ lookup (is_key key) before → after ≡ set_value (is_key key) before changed → Change sets changed → ChangedFrom key Change before after
changed_from key before after Change sets changed at is change =
    let f : FirstAt key before sets = first_at key before sets (sym at) in
    record { front = f.front; stored = f.stored; sets = sets; changed = changed; back = f.back; was = f.was; keyed = key_is key f.stored f.found; is = is ∙ f.written changed; change = change }

module _ (key : List ℕ) (rtype : ℕ) (before after : Entries) where
  -- a set is taken from the sets that are found
  pub taken_from : (sets changed : List RecordSet) (result : Option RecordSet) → Some sets ≡ lookup (is_key key) before → after ≡ set_value (is_key key) before changed → IsTaken rtype sets changed result → IsTakenFrom key rtype before after result
  taken_from sets changed None at is none =
      (is ∙ ap (set_value (is_key key) before) none.0 ∙ set_value_same (is_key key) before sets (sym at), ap (option_and_then (λ ss. set_in rtype ss)) (sym at) ∙ none.1)
  taken_from sets changed (Some set) at is taken = changed_from key before after (λ ss cs. SetTaken rtype ss cs set) sets changed at is taken

  -- there is no such name
  pub no_name : None ≡ lookup (is_key key) before → after ≡ before → IsTakenFrom key rtype before after None
  no_name at same = (same, ap (option_and_then (λ sets. set_in rtype sets)) (sym at))

  -- the sets that are found rise
  pub rising_at : (sets : List RecordSet) → AllByRecursion (λ e. TypesRise e.1) before → Some sets ≡ lookup (is_key key) before → TypesRise sets
  rising_at sets rise at = subst (λ (f : Option (List RecordSet)). IfSome f TypesRise) (sym at) (looked TypesRise (is_key key) before rise)

-- a name that is found was taken away
pub record GoneAt (key : List ℕ) (before after : Entries) (sets : List RecordSet) : Type 0 where
  pub front : Entries
  pub stored : Vec ℕ Global
  pub back : Entries
  pub was : before ≡ front ++ (stored, sets) ∷ back
  pub is : after ≡ front ++ back

pub gone_at : (key : List ℕ) (before after : Entries) (sets : List RecordSet) → Some sets ≡ lookup (is_key key) before → after ≡ remove_entry (is_key key) before → GoneAt key before after sets
gone_at key before after sets at gone =
    let f : FirstAt key before sets = first_at key before sets (sym at) in
    record { front = f.front; stored = f.stored; back = f.back; was = f.was; is = gone ∙ ap (remove_entry (is_key key)) f.was ∙ gone_here key f.front f.back f.stored sets f.first f.found }
