-- The addresses that texts write, as the standard library reads them.
use Rattle.std.proofs.Common.{◌≡◌, ℕ, List, [], ◌∷◌, length, Some, None, sym, ◌∙◌, subst, append-nil, ne_eqb, refl, arith, lit≤}
use Rattle.std.specs.Option.{option_map}
use Rattle.std.specs.declared.net.ipv4_addr.Ipv4Addr.{Ipv4Addr}
use Rattle.std.specs.declared.net.ipv6_addr.Ipv6Addr.{Ipv6Addr}
use Rattle.std.specs.Net.Addr.{ipv4_octets, ipv6_segments, ipv6_octets, octets_of}
use Rattle.std.specs.Net.Grammar.{IsDotted, IsColonHex}
use Rattle.std.specs.Net.Reader.{Read, read_ipv4, read_ipv6, whole_value}
use Rattle.std.proofs.NetLemmas.Ipv4.{read_ipv4_sound, read_ipv4_complete}
use Rattle.std.proofs.NetLemmas.Ipv6.{read_ipv6_sound, read_ipv6_complete, EndsGroups-nil}
use Rattle.dns_words.specs.Written.{dotted, coloned}

-- an address that the text writes is the one that is read
pub dotted_read : (text : List ℕ) (a : Ipv4Addr) → IsDotted text (ipv4_octets a) → dotted text ≡ Some (ipv4_octets a)
unfolding dotted
dotted_read text a is =
    let read : read_ipv4 text ≡ Some (ipv4_octets a, []) = rw append-nil at (read_ipv4_complete text (ipv4_octets a) [] is (lit≤ tt)) in
    rw read refl

pub coloned_read : (text : List ℕ) (a : Ipv6Addr) → IsColonHex text (ipv6_segments a) → coloned text ≡ Some (ipv6_octets a)
unfolding coloned
coloned_read text a is =
    let read : read_ipv6 text ≡ Some (ipv6_segments a, []) = rw append-nil at (read_ipv6_complete text (ipv6_segments a) [] is EndsGroups-nil) in
    rw read refl

-- where the text writes none, none is read
pub no_dotted : (text : List ℕ) → ((a : Ipv4Addr) → IsDotted text (ipv4_octets a) → ⊥) → dotted text ≡ None
unfolding dotted
no_dotted text none = by_read (read_ipv4 text) refl
  where
    by_parts : (octets rest : List ℕ) → read_ipv4 text ≡ Some (octets, rest) → whole_value (Some (octets, rest)) ≡ None
    by_parts octets [] is =
        let (front, split, spells) = read_ipv4_sound text octets [] is in
        absurd (none (record { octets = octets }) (subst (λ t. IsDotted t octets) (sym (split ∙ append-nil front)) spells))
    by_parts octets (byte ∷ rest) is = rw (ne_eqb (length (byte ∷ rest)) 0 (omega arith)) refl

    by_read : (read : Read (List ℕ)) → read_ipv4 text ≡ read → whole_value read ≡ None
    by_read None is = refl
    by_read (Some p) is = by_parts p.0 p.1 is

pub no_coloned : (text : List ℕ) → ((a : Ipv6Addr) → IsColonHex text (ipv6_segments a) → ⊥) → coloned text ≡ None
unfolding coloned
no_coloned text none = by_read (read_ipv6 text) refl
  where
    by_parts : (segments rest : List ℕ) → read_ipv6 text ≡ Some (segments, rest) → option_map octets_of (whole_value (Some (segments, rest))) ≡ None
    by_parts segments [] is =
        let (front, split, spells) = read_ipv6_sound text segments [] is in
        absurd (none (record { segments = segments }) (subst (λ t. IsColonHex t segments) (sym (split ∙ append-nil front)) spells))
    by_parts segments (byte ∷ rest) is = rw (ne_eqb (length (byte ∷ rest)) 0 (omega arith)) refl

    by_read : (read : Read (List ℕ)) → read_ipv6 text ≡ read → option_map octets_of (whole_value read) ≡ None
    by_read None is = refl
    by_read (Some p) is = by_parts p.0 p.1 is
