-- The message in the query of a request by GET (RFC 8484 4.1.1).
use Rattle.std.specs.Prelude.{◌≡◌, ℕ, ◌<◌, ◌≤◌, ◌==◌, if◌then◌else◌, List, [], ◌∷◌, codes, bytes_eq, length, take, drop, Option, Some, None, Result, Ok, Err}
use Rattle.std.specs.List.{slice_split}
use Rattle.base64.specs.Engines.{url_safe_no_pad}
use Rattle.base64.specs.GeneralPurpose.{IsBytes, encode_of}
use Rattle.dns_transport.specs.declared.error.NetError.{NetError}
use Rattle.dns_transport.specs.declared.error.NetError.TheVariants.{BadRequest, OutOfMemory, RequestTooLarge}
use Rattle.dns_transport.specs.declared.error.BadRequestKind.TheVariants.{Base64, Query}

-- what stands behind `dns=` in a part that begins so
abbrev pub value_of : List ℕ → Option (List ℕ)
value_of part = if bytes_eq (take 4 part) (codes "dns=") then Some (drop 4 part) else None

-- the first of two, or else the second
abbrev pub or_else : Option (List ℕ) → Option (List ℕ) → Option (List ℕ)
or_else None other = other
or_else (Some text) other = Some text

-- that of the first part that begins so
abbrev pub first_value : List (List ℕ) → Option (List ℕ)
first_value [] = None
first_value (part ∷ parts) = or_else (value_of part) (first_value parts)

-- the text of the message that a query says, whose parts stand between `&`
abbrev pub text_in : Option (List ℕ) → Option (List ℕ)
text_in None = None
text_in (Some query) = first_value (slice_split (λ b. b == 38) query)

-- a text stands for these bytes: base64url without padding (RFC 4648 3.2, 5)
pub record IsTextOf (bytes text : List ℕ) : Type 0 where
  pub bytes_are : IsBytes bytes
  pub is : text ≡ encode_of url_safe_no_pad bytes

-- what comes of a text: the bytes that it stands for, at most 65,535; it stands for none, or for more; or memory ran out
abbrev pub IsDecoded : List ℕ → Result (List ℕ) NetError → Type 0
IsDecoded text (Ok bytes) = IsTextOf bytes text × (length bytes ≤ 65535)
IsDecoded text (Err (BadRequest Base64)) = (bytes : List ℕ) → ¬ (IsTextOf bytes text)
IsDecoded text (Err RequestTooLarge) = (bytes : List ℕ) × IsTextOf bytes text × (65535 < length bytes)
IsDecoded text (Err OutOfMemory) = Unit {0}
IsDecoded text (Err _) = ⊥

-- what comes of a query, by the text that it says: it says none, or what comes of the text
abbrev pub TellsMessage : Option (List ℕ) → Result (List ℕ) NetError → Type 0
TellsMessage None result = result ≡ Err (BadRequest Query)
TellsMessage (Some text) result = IsDecoded text result
