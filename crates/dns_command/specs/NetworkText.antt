-- A network in text.
use Rattle.std.specs.Prelude.{ℕ, ◌+◌, List, Option, take, drop, position, ◌==◌}
use Rattle.dns_book.specs.declared.access.IpNet.{IpNet}
use Rattle.dns_book.specs.Access.{net_of}
use Rattle.dns_words.specs.Values.{◌>>=◌, ip_of, decimal_of}

-- a network: an address in hex digits, `/`, and how many of its first bits count, as a decimal number (RFC 4632 3.1)
unfoldable pub network_of : List ℕ → Option IpNet
network_of text = do
  place ← position (λ b. b == 47) text
  ip ← ip_of (take place text)
  prefix ← decimal_of 256 (drop (place + 1) text)
  net_of ip prefix
