-- One look at a zone: the cut of a name, its closest encloser, and the records that answer for it (RFC 1034 4.3.2,
-- RFC 4592 3.3).
use Rattle.std.specs.Prelude.{◌≡◌, ◌≤◌, ◌<◌, ◌++◌, ℕ, ◌+◌, zero, suc, Bool, true, false, not, ◌==◌, ◌&&◌, ◌||◌, if◌then◌else◌, List, [], ◌∷◌, length, map, Option, Some, None}
use Rattle.std.specs.List.{flat_map}
use Rattle.dns_name.specs.Name.{fold_of, is_same_name, is_strictly_below}
use Rattle.dns_wire.specs.declared.record.Record.{Record}
use Rattle.dns_wire.specs.Given.{given}
use Rattle.dns_wire.specs.declared.record_type.TheConstants.{NS, CNAME, DS, ANY}
use Rattle.dns_zone_map.specs.Zone.{Contents, set_of}
use Rattle.dns_zone_map.specs.Existence.{owns_type, exists}
use Rattle.dns_zone.specs.declared.look.Look.{Look}
use Rattle.dns_zone.specs.declared.look.Look.TheVariants.{Referral, NoName, Alias, Found, NoData}

-- a name strictly below the origin that owns NS (RFC 1034 4.2)
abbrev pub is_cut : Contents → List (List ℕ) → Bool
is_cut zone name = is_strictly_below name zone.origin && owns_type zone.records name NS

-- a value where a test passed
abbrev pub only_if : {A : Type 0} → Bool → A → Option A
only_if true x = Some x
only_if false x = None

-- a value, or the other where there is none
abbrev pub or_else : {A : Type 0} → Option A → Option A → Option A
or_else (Some x) other = Some x
or_else None other = other

-- of a name and the names above it, the one with the fewest labels that passes a test; the root is not tried
abbrev pub topmost : (List (List ℕ) → Bool) → List (List ℕ) → Option (List (List ℕ))
topmost test [] = None
topmost test (label ∷ above) = or_else (topmost test above) (only_if (test (label ∷ above)) (label ∷ above))

-- of the names above a name, the one with the most labels that passes a test
abbrev pub nearest : (List (List ℕ) → Bool) → List (List ℕ) → Option (List (List ℕ))
nearest test [] = None
nearest test (label ∷ above) = or_else (only_if (test above) above) (nearest test above)

-- DS of the cut itself is not below the cut: it belongs to this zone (RFC 4035 3.1.4.1)
abbrev pub unless_ds : List (List ℕ) → ℕ → List (List ℕ) → Option (List (List ℕ))
unless_ds name rtype cut = only_if (not ((rtype == DS) && is_same_name name cut)) cut

abbrev pub cut_under : List (List ℕ) → ℕ → Option (List (List ℕ)) → Option (List (List ℕ))
cut_under name rtype None = None
cut_under name rtype (Some cut) = unless_ds name rtype cut

-- the cut of a name: the topmost one at it or above it
abbrev pub cut_of : Contents → List (List ℕ) → ℕ → Option (List (List ℕ))
cut_of zone name rtype = cut_under name rtype (topmost (is_cut zone) name)

-- the label `*` under a name (RFC 4592 2.1.1)
abbrev pub star_under : List (List ℕ) → List (List ℕ)
star_under name = (42 ∷ []) ∷ name

-- the nearest name above a name that exists (RFC 4592 3.3.1)
abbrev pub closest_encloser : List Record → List (List ℕ) → Option (List (List ℕ))
closest_encloser records name = nearest (exists records) name

-- who answers for a name: the owner of the records, and the name that they are given as their owner where they are a wildcard's
-- (RFC 4592 3.3.2)
pub record Owner : Type 0 where
  pub name : List (List ℕ)
  pub synthesized : Option (List (List ℕ))

abbrev pub wildcard_under : List Record → List (List ℕ) → Option (List (List ℕ)) → Option Owner
wildcard_under records name None = None
wildcard_under records name (Some encloser) =
    only_if (exists records (star_under encloser)) (record { name = star_under encloser; synthesized = Some (fold_of name) })

-- a name that exists answers for itself; for another the wildcard under its closest encloser does, if that exists
abbrev pub owner_of : List Record → List (List ℕ) → Option Owner
owner_of records name =
    if exists records name then Some (record { name = name; synthesized = None })
    else wildcard_under records name (closest_encloser records name)

-- the records of one type that answer
abbrev pub found_set : List Record → Owner → ℕ → List Record
found_set records owner rtype = map (given owner.synthesized) (set_of records owner.name rtype)

-- `more` numbers, from `first` on
abbrev pub numbers_from : ℕ → ℕ → List ℕ
numbers_from first zero = []
numbers_from first (suc more) = first ∷ numbers_from (first + 1) more

-- the records that answer of `more` types, from `first` on, by ascending type
unfoldable pub found_from : List Record → Owner → ℕ → ℕ → List Record
found_from records owner first more = flat_map (found_set records owner) (numbers_from first more)

-- the records of all types that answer
abbrev pub found_all : List Record → Owner → List Record
found_all records owner = found_from records owner 0 65536

-- the records that answer a question of this type: for ANY those of all types
abbrev pub found_of : List Record → Owner → ℕ → List Record
found_of records owner rtype = if rtype == ANY then found_all records owner else found_set records owner rtype

abbrev pub first_of : List Record → Option Record
first_of [] = None
first_of (r ∷ rs) = Some r

-- the alias that answers, unless CNAME or ANY was asked
abbrev pub alias_of : List Record → Owner → ℕ → Option Record
alias_of records owner rtype = if (rtype == CNAME) || (rtype == ANY) then None else first_of (found_set records owner CNAME)

abbrev pub found_or_none : List Record → Look
found_or_none [] = NoData
found_or_none (r ∷ rs) = Found (r ∷ rs)

abbrev pub alias_or : Option Record → List Record → Look
alias_or (Some r) found = Alias r
alias_or None found = found_or_none found

abbrev pub look_at : List Record → Option Owner → ℕ → Look
look_at records None rtype = NoName
look_at records (Some owner) rtype = alias_or (alias_of records owner rtype) (found_of records owner rtype)

abbrev pub look_under : Contents → List (List ℕ) → ℕ → Option (List (List ℕ)) → Look
look_under zone name rtype (Some cut) = Referral (set_of zone.records cut NS)
look_under zone name rtype None = look_at zone.records (owner_of zone.records name) rtype

-- what a look for a name and a type finds
unfoldable pub look_of : Contents → List (List ℕ) → ℕ → Look
look_of zone name rtype = look_under zone name rtype (cut_of zone name rtype)

-- what the topmost name means: it is one of those that pass, and none of them has fewer labels
pub record IsTopmost (test : List (List ℕ) → Bool) (name top : List (List ℕ)) : Type 0 where
  pub front : List (List ℕ)
  pub above : name ≡ front ++ top
  pub passes : test top ≡ true
  pub fewest : (others more : List (List ℕ)) → name ≡ others ++ more → test more ≡ true → length top ≤ length more

-- what the nearest name means: it is strictly above, it passes, and of those that do none has more labels
pub record IsNearest (test : List (List ℕ) → Bool) (name near : List (List ℕ)) : Type 0 where
  pub front : List (List ℕ)
  pub above : name ≡ front ++ near
  pub strictly : length near < length name
  pub passes : test near ≡ true
  pub most : (others more : List (List ℕ)) → name ≡ others ++ more
      → length more < length name → test more ≡ true → length more ≤ length near

-- the test fails at the name and at all names above it
abbrev pub PassesNowhere : (List (List ℕ) → Bool) → List (List ℕ) → Type 0
PassesNowhere test name = (front more : List (List ℕ)) → name ≡ front ++ more → test more ≡ false

-- the test fails at all names above the name
abbrev pub PassesNowhereAbove : (List (List ℕ) → Bool) → List (List ℕ) → Type 0
PassesNowhereAbove test name = (front more : List (List ℕ)) → name ≡ front ++ more → length more < length name → test more ≡ false
