-- Numbers, bytes and addresses in words.
use Rattle.std.specs.Prelude.{ℕ, ◌+◌, ◌*◌, ◌-◌, List, [], ◌∷◌, length, take, drop, position, Option, Some, None, nat_lt, ◌==◌, if◌then◌else◌, codes}
use Rattle.std.specs.Char.{is_ascii_digit}
use Rattle.std.specs.Int.{w32, w128, from_be_bytes}
use Rattle.std.specs.Option.{option_map}
use Rattle.std.specs.Result.{result_ok}
use Rattle.std.specs.Str.{bytes_eq}
use Rattle.hex.specs.Hex.{decode_of}
use Rattle.dns_io.specs.declared.peer.Peer.{Peer}
use Rattle.dns_io.specs.declared.peer.Ip.{Ip}
use Rattle.dns_io.specs.declared.peer.Ip.TheVariants.{V4, V6}

-- a value, and then what is made of it
infixl 10 ◌>>=◌
abbrev pub ◌>>=◌ : {A B : Type 0} → Option A → (A → Option B) → Option B
(Some x) >>= f = f x
None >>= f = None

-- the number that decimal digits make behind those that made this one
abbrev pub digits_behind : ℕ → List ℕ → Option ℕ
digits_behind n [] = Some n
digits_behind n (b ∷ bs) = if is_ascii_digit b then digits_behind (10 * n + (b - 48)) bs else None

-- a number, where it is below a limit
abbrev pub below : ℕ → Option ℕ → Option ℕ
below limit None = None
below limit (Some n) = if nat_lt n limit then Some n else None

-- a decimal number below a limit: digits, no zero before another one
unfoldable pub decimal_of : ℕ → List ℕ → Option ℕ
decimal_of limit [] = None
decimal_of limit (b ∷ []) = below limit (digits_behind 0 (b ∷ []))
decimal_of limit (b ∷ c ∷ bs) = if b == 48 then None else below limit (digits_behind 0 (b ∷ c ∷ bs))

-- an address: eight hex digits of either case, or thirty-two
unfoldable pub ip_of : List ℕ → Option Ip
ip_of word =
    if length word == 8 then option_map (λ bytes. V4 (from_be_bytes w32 bytes)) (result_ok (decode_of word))
    else if length word == 32 then option_map (λ bytes. V6 (from_be_bytes w128 bytes)) (result_ok (decode_of word))
    else None

-- bytes: `-` for none, or two hex digits of either case for each
unfoldable pub bytes_of : List ℕ → Option (List ℕ)
bytes_of [] = None
bytes_of (b ∷ bs) = if bytes_eq (b ∷ bs) (codes "-") then Some [] else result_ok (decode_of (b ∷ bs))

-- an address and a port
unfoldable pub peer_of : List ℕ → List ℕ → Option Peer
peer_of ip port = do
  address ← ip_of ip
  number ← decimal_of 65536 port
  Some (record { ip = address; port = number })

-- an address and a port: hex digits, `:`, and a decimal number
unfoldable pub address_of : List ℕ → Option Peer
address_of text = do
  place ← position (λ b. b == 58) text
  peer_of (take place text) (drop (place + 1) text)
