use Rattle.std.proofs.Common.{◌≡◌, ℕ, List, [], ◌∷◌, map, refl}
use Rattle.std.specs.Char.{to_ascii_lowercase}
use Rattle.std.proofs.lemmas.Str.Ascii.{lowercase-lowercase}
use Rattle.dns_name.specs.Name.{fold_of}
use Rattle.dns_name.proofs.name_laws.folded_names.Goals as goal

fold-fold : (label : List ℕ) → map to_ascii_lowercase (map to_ascii_lowercase label) ≡ map to_ascii_lowercase label
fold-fold [] = refl
fold-fold (b ∷ bs) = let first : to_ascii_lowercase (to_ascii_lowercase b) ≡ to_ascii_lowercase b = lowercase-lowercase b in let others = fold-fold bs in cc

fold_of-fold_of : (name : List (List ℕ)) → fold_of (fold_of name) ≡ fold_of name
fold_of-fold_of [] = refl
fold_of-fold_of (l ∷ ls) = let first = fold-fold l in let others = fold_of-fold_of ls in cc

pub returns : goal.returns
returns c = fold_of-fold_of
