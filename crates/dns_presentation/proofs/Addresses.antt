-- The IPv6 address that a text writes, as the standard library reads it.
use Rattle.std.proofs.Common.{◌≡◌, ℕ, List, [], ◌∷◌, length, Some, None, sym, ◌∙◌, subst, append-nil, ne_eqb, refl, arith, option_map}
use Rattle.std.specs.declared.net.ipv6_addr.Ipv6Addr.{Ipv6Addr}
use Rattle.std.specs.Net.Addr.{ipv6_segments, ipv6_bits}
use Rattle.std.specs.Net.Grammar.{IsColonHex}
use Rattle.std.specs.Net.Reader.{Read, read_ipv6, whole_value}
use Rattle.std.proofs.NetLemmas.Ipv6.{read_ipv6_sound, read_ipv6_complete, EndsGroups-nil}
use Rattle.dns_presentation.specs.Values.{segments_number, wide_address_of}

-- an address that the text writes is the one that is read
pub address_read : (text : List ℕ) (a : Ipv6Addr) → IsColonHex text (ipv6_segments a) → wide_address_of text ≡ Some (ipv6_bits a)
unfolding wide_address_of segments_number ipv6_bits
address_read text a is =
    let read : read_ipv6 text ≡ Some (ipv6_segments a, []) = rw append-nil at (read_ipv6_complete text (ipv6_segments a) [] is EndsGroups-nil) in
    rw read refl

-- where the text writes none, none is read
pub no_address : (text : List ℕ) → ((a : Ipv6Addr) → IsColonHex text (ipv6_segments a) → ⊥) → wide_address_of text ≡ None
unfolding wide_address_of
no_address text none = by_read (read_ipv6 text) refl
  where
    by_parts : (segments rest : List ℕ) → read_ipv6 text ≡ Some (segments, rest) → option_map segments_number (whole_value (Some (segments, rest))) ≡ None
    by_parts segments [] is =
        let (front, split, spells) = read_ipv6_sound text segments [] is in
        absurd (none (record { segments = segments }) (subst (λ t. IsColonHex t segments) (sym (split ∙ append-nil front)) spells))
    by_parts segments (byte ∷ rest) is = rw (ne_eqb (length (byte ∷ rest)) 0 (omega arith)) refl

    by_read : (read : Read (List ℕ)) → read_ipv6 text ≡ read → option_map segments_number (whole_value read) ≡ None
    by_read None is = refl
    by_read (Some p) is = by_parts p.0 p.1 is
