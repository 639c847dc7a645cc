-- Texts that were read to their end.
use Rattle.std.proofs.Common.{◌≡◌, ℕ, List, Option, Some, None, sym, subst}
use Rattle.dns_io.specs.Told.{WasRead}

-- what holds of the bytes that were read holds of the text
pub WasRead-bytes : (a b : Option (List ℕ)) (bytes : List ℕ) (P : List ℕ → Type 0) → WasRead a b (λ text. text ≡ bytes) → P bytes → WasRead a b P
WasRead-bytes a None bytes P w p = tt
WasRead-bytes None (Some t) bytes P w p = absurd w
WasRead-bytes (Some s) (Some t) bytes P w p = (w.0, subst P (sym w.1) p)
