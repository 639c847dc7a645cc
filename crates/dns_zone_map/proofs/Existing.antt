-- Names that exist.
use Rattle.std.proofs.Common.{◌≡◌, ℕ, Bool, true, false, List, [], ◌∷◌, ◌++◌, map, refl, sym, ◌∙◌, append_assoc}
use Rattle.std.specs.Prelude.{◌||◌, ◌&&◌, ◌==◌}
use Rattle.std.specs.List.{list_any}
use Rattle.std.specs.Char.{to_ascii_lowercase}
use Rattle.dns_name.specs.Name.{fold_of, SameName, IsAtOrBelow, is_same_name}
use Rattle.dns_name.proofs.SameNames.{is_same_name-Decides, is_at_or_below-Decides}
use Rattle.dns_wire.specs.declared.record.Record.{Record}
use Rattle.dns_zone_map.specs.Zone.{is_in_set}
use Rattle.dns_zone_map.specs.Existence.{owns_type, is_at_or_under, exists}

any_if : (p q : Record → Bool) (b c : Bool) (r : Record) (rs : List Record) → p r ≡ b → q r ≡ c → (p r ≡ true → q r ≡ true) → (list_any p rs ≡ true → list_any q rs ≡ true) → (b || list_any p rs) ≡ true → (c || list_any q rs) ≡ true
any_if p q b true r rs t u f ih h = refl
any_if p q true false r rs t u f ih h = absurd (let y : q r ≡ true = f t in cc)
any_if p q false false r rs t u f ih h = ih h

any_to : (p q : Record → Bool) → ((r : Record) → p r ≡ true → q r ≡ true) → (rs : List Record) → list_any p rs ≡ true → list_any q rs ≡ true
any_to p q f [] h = absurd cc
any_to p q f (r ∷ rs) h = any_if p q (p r) (q r) r rs refl refl (f r) (any_to p q f rs) h

pub exists_above : (records : List Record) (label : List ℕ) (name : List (List ℕ)) → exists records (label ∷ name) ≡ true → exists records name ≡ true
exists_above records label name h =
    any_to (is_at_or_under (label ∷ name)) (is_at_or_under name)
    (λ r t.
    let b : IsAtOrBelow r.name (label ∷ name) = (is_at_or_below-Decides r.name (label ∷ name)).0 t in
    (is_at_or_below-Decides r.name name).1 (b.0 ++ map to_ascii_lowercase label ∷ [], b.1 ∙ sym (append_assoc b.0 (map to_ascii_lowercase label ∷ []) (fold_of name))))
    records h

second : (a b : Bool) → (a && b) ≡ true → b ≡ true
second true b h = h
second false b h = absurd cc

pub exists_owner : (records : List Record) (name : List (List ℕ)) (rtype : ℕ) → owns_type records name rtype ≡ true → exists records name ≡ true
exists_owner records name rtype h =
    any_to (is_in_set name rtype) (is_at_or_under name)
    (λ r t.
    let same : SameName r.name name = (is_same_name-Decides r.name name).0 (second (r.rtype == rtype) (is_same_name r.name name) t) in
    (is_at_or_below-Decides r.name name).1 ([], same))
    records h
