-- The names of a context in which an entry of a zone's text stands.
use Rattle.std.specs.Prelude.{◌≡◌, ℕ, ◌≤◌, List, length, Option, Some, None}
use Rattle.dns_name.specs.Name.{fold_of, name_bytes}
use Rattle.dns_presentation.specs.declared.entry.Context.{Context}

-- a name in small letters that takes at most 255 bytes in a message (RFC 1035 2.3.4)
pub record IsFolded (name : List (List ℕ)) : Type 0 where
  pub folded : fold_of name ≡ name
  pub short : length (name_bytes name) ≤ 255

-- the last owner, if there is one, is such a name
abbrev pub IsOwner : Option (List (List ℕ)) → Type 0
IsOwner None = Unit {0}
IsOwner (Some owner) = IsFolded owner

-- the names of a context are such names
pub record IsSound (context : Context) : Type 0 where
  pub origin : IsFolded context.origin
  pub owner : IsOwner context.owner
