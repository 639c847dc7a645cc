-- Where a file stands that a configuration names.
use Rattle.std.specs.Prelude.{ℕ, ◌-◌, ◌==◌, Bool, false, ◌||◌, if◌then◌else◌, List, [], ◌∷◌, ◌++◌, length, codes, Option, Some, None}
use Rattle.std.specs.Option.{option_map_or}
use Rattle.std.specs.List.{slice_get}

-- the path begins with a slash
abbrev pub is_absolute : List ℕ → Bool
is_absolute [] = false
is_absolute (b ∷ bs) = b == 47

-- the last byte of the text is a slash
abbrev pub ends_with_slash : List ℕ → Bool
ends_with_slash text = option_map_or (λ b. b == 47) (slice_get text (length text - 1)) false

-- a path below a folder: a slash stands between the two, but behind an empty folder and one that ends with a slash
abbrev pub joined : List ℕ → List ℕ → List ℕ
joined folder path = if (length folder == 0) || ends_with_slash folder then folder ++ path else folder ++ (codes "/" ++ path)

-- the path of a file that is named by a path, below a folder where there is one and the path does not begin with a slash
abbrev pub path_from : Option (List ℕ) → List ℕ → List ℕ
path_from None path = path
path_from (Some folder) path = if is_absolute path then path else joined folder path
