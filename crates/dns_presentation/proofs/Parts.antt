-- The parts of a text round a separator.
use Rattle.std.proofs.Common.{◌≡◌, ℕ, true, false, ◌==◌, if◌then◌else◌, List, [], ◌∷◌, ◌++◌, None, refl}
use Rattle.dns_presentation.specs.Lines.{parts_from, parts_of}
use Rattle.dns_presentation.specs.Values.{address_from}

-- five parts or more are no address
many : (separator : ℕ) (a b c d part text : List ℕ) → address_from (a ∷ b ∷ c ∷ d ∷ parts_from separator part text) ≡ None
unfolding address_from
many separator a b c d part [] = refl
many separator a b c d part (byte ∷ text) =
    elim (byte == separator) as (λ ends. address_from (a ∷ b ∷ c ∷ d ∷ (if ends then part ∷ parts_from separator [] text else parts_from separator (part ++ byte ∷ []) text)) ≡ None) [
      | true ↦ refl
      | false ↦ many separator a b c d (part ++ byte ∷ []) text
    ]

-- four parts before those of a text are no address
pub address_from_many : (separator : ℕ) (a b c d text : List ℕ) → address_from (a ∷ b ∷ c ∷ d ∷ parts_of separator text) ≡ None
address_from_many separator a b c d text = many separator a b c d [] text
