-- What the network of an address is.
use Rattle.std.proofs.Common.{◌≡◌, ℕ, ◌-◌, List, ◌++◌, length, take, drop, replicate, Bool, true, false, ◌&&◌, nat_le, if◌then◌else◌, Some, None, refl, sym, ap, ◌∙◌, subst, zero, suc, arith}
use Rattle.std.proofs.lemmas.List.{take-append-drop}
use Rattle.std.specs.Str.{bytes_eq}
use Rattle.dns_io.specs.declared.peer.Ip.{Ip}
use Rattle.dns_io.specs.declared.peer.Ip.TheVariants.{V4, V6}
use Rattle.dns_book.specs.declared.access.IpNet.{IpNet}
use Rattle.dns_book.specs.Bits.{bits_of, front_of}
use Rattle.dns_book.specs.Access.{is_one_family, address_bits, share_front, net_of, lies_in}
use Rattle.dns_book.proofs.FirstBits.{front_kept, rest_cleared}

-- what stands for a network whose prefix an address has room for
taken : (fits : Bool) (one net : IpNet) → (if fits then Some one else None) ≡ Some net → one ≡ net
taken true one net e = cc
taken false one net e = absurd cc

-- a list is its front and the rest
parts : (n : ℕ) (xs front rest : List ℕ) → take n xs ≡ front → drop n xs ≡ rest → xs ≡ front ++ rest
parts n xs front rest e f = sym (take-append-drop n xs) ∙ ap (λ (ys : List ℕ). ys ++ drop n xs) e ∙ ap (λ (ys : List ℕ). front ++ ys) f

length-bits : (w n : ℕ) → length (bits_of w n) ≡ w
unfolding bits_of
length-bits zero n = refl
length-bits (suc w) n = let rest : length (bits_of w n) ≡ w = length-bits w n in rw rest (omega arith)

bits_left : (w p n : ℕ) → bits_of w (front_of w p n) ≡ take p (bits_of w n) ++ replicate (length (bits_of w n) - p) 0
bits_left w p n = rw length-bits (parts p (bits_of w (front_of w p n)) (take p (bits_of w n)) (replicate (w - p) 0) (front_kept w p n) (rest_cleared w p n))

pub net_of-family : (at : Ip) (prefix : ℕ) (net : IpNet) → net_of at prefix ≡ Some net → is_one_family net.ip at ≡ true
net_of-family (V4 n) prefix net e = subst (λ (one : IpNet). is_one_family one.ip (V4 n) ≡ true) (taken (nat_le prefix 32) (record { ip = V4 (front_of 32 prefix n); prefix = prefix }) net e) refl
net_of-family (V6 n) prefix net e = subst (λ (one : IpNet). is_one_family one.ip (V6 n) ≡ true) (taken (nat_le prefix 128) (record { ip = V6 (front_of 128 prefix n); prefix = prefix }) net e) refl

pub net_of-bits : (at : Ip) (prefix : ℕ) (net : IpNet) → net_of at prefix ≡ Some net → address_bits net.ip ≡ take prefix (address_bits at) ++ replicate (length (address_bits at) - prefix) 0
net_of-bits (V4 n) prefix net e =
    subst (λ (one : IpNet). address_bits one.ip ≡ take prefix (address_bits (V4 n)) ++ replicate (length (address_bits (V4 n)) - prefix) 0)
    (taken (nat_le prefix 32) (record { ip = V4 (front_of 32 prefix n); prefix = prefix }) net e) (bits_left 32 prefix n)
net_of-bits (V6 n) prefix net e =
    subst (λ (one : IpNet). address_bits one.ip ≡ take prefix (address_bits (V6 n)) ++ replicate (length (address_bits (V6 n)) - prefix) 0)
    (taken (nat_le prefix 128) (record { ip = V6 (front_of 128 prefix n); prefix = prefix }) net e) (bits_left 128 prefix n)

fronts_alike : (w p n : ℕ) (xs : List ℕ) (same : Bool) → (same && bytes_eq xs (take p (bits_of w (front_of w p n)))) ≡ (same && bytes_eq xs (take p (bits_of w n)))
fronts_alike w p n xs same = ap (λ (ys : List ℕ). same && bytes_eq xs ys) (front_kept w p n)

pub net_of-inside : (at ip : Ip) (prefix : ℕ) (net : IpNet) → net_of at prefix ≡ Some net → lies_in ip net ≡ share_front prefix ip at
net_of-inside (V4 n) (V4 a) prefix net e =
    subst (λ (one : IpNet). lies_in (V4 a) one ≡ share_front prefix (V4 a) (V4 n)) (taken (nat_le prefix 32) (record { ip = V4 (front_of 32 prefix n); prefix = prefix }) net e)
    (fronts_alike 32 prefix n (take prefix (bits_of 32 a)) true)
net_of-inside (V4 n) (V6 a) prefix net e =
    subst (λ (one : IpNet). lies_in (V6 a) one ≡ share_front prefix (V6 a) (V4 n)) (taken (nat_le prefix 32) (record { ip = V4 (front_of 32 prefix n); prefix = prefix }) net e) refl
net_of-inside (V6 n) (V4 a) prefix net e =
    subst (λ (one : IpNet). lies_in (V4 a) one ≡ share_front prefix (V4 a) (V6 n)) (taken (nat_le prefix 128) (record { ip = V6 (front_of 128 prefix n); prefix = prefix }) net e) refl
net_of-inside (V6 n) (V6 a) prefix net e =
    subst (λ (one : IpNet). lies_in (V6 a) one ≡ share_front prefix (V6 a) (V6 n)) (taken (nat_le prefix 128) (record { ip = V6 (front_of 128 prefix n); prefix = prefix }) net e)
    (fronts_alike 128 prefix n (take prefix (bits_of 128 a)) true)
