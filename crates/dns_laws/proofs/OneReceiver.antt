-- Receivers are told apart.
use Rattle.std.proofs.Common.{◌≡◌, ◌↔◌, ℕ, Bool, true, false, not, refl, sym, ap, ◌∙◌, subst, eqb}
use Rattle.std.proofs.lemmas.Bool.{and_parts, and_from, eqb-true, eq-eqb, ne_eqb}
use Rattle.dns_io.specs.declared.peer.Peer.{Peer}
use Rattle.dns_io.specs.declared.peer.Ip.{Ip}
use Rattle.dns_io.specs.declared.peer.Ip.TheVariants.{V4, V6}
use Rattle.dns_server_core.specs.declared.event.Receiver.{Receiver}
use Rattle.dns_server_core.specs.declared.event.Receiver.TheVariants as to
use Rattle.dns_laws.specs.Receivers.{is_one_address, is_one_peer, is_one}

address_same : (a b : Ip) → is_one_address a b ≡ true → a ≡ b
address_same (V4 a) (V4 b) h = ap (λ (n : ℕ). V4 n) (eqb-true a b h)
address_same (V4 a) (V6 b) h = absurd cc
address_same (V6 a) (V4 b) h = absurd cc
address_same (V6 a) (V6 b) h = ap (λ (n : ℕ). V6 n) (eqb-true a b h)

address_self : (a : Ip) → is_one_address a a ≡ true
address_self (V4 a) = eq-eqb a a refl
address_self (V6 a) = eq-eqb a a refl

abbrev peer_of : Ip → ℕ → Peer
peer_of ip port = record { ip = ip; port = port }

peer_same : (a b : Peer) → is_one_peer a b ≡ true → a ≡ b
peer_same a b h =
    let p = and_parts (is_one_address a.ip b.ip) (eqb a.port b.port) h in
    ap (λ (ip : Ip). peer_of ip a.port) (address_same a.ip b.ip p.0) ∙ ap (peer_of b.ip) (eqb-true a.port b.port p.1)

peer_self : (a : Peer) → is_one_peer a a ≡ true
peer_self a = and_from (is_one_address a.ip a.ip) (eqb a.port a.port) (address_self a.ip) (eq-eqb a.port a.port refl)

one_same : (a b : Receiver) → is_one a b ≡ true → a ≡ b
one_same (to.Conn a) (to.Conn b) h = ap (λ (n : ℕ). to.Conn n) (eqb-true a b h)
one_same (to.Conn a) (to.Peer b) h = absurd cc
one_same (to.Peer a) (to.Conn b) h = absurd cc
one_same (to.Peer a) (to.Peer b) h = ap (λ (p : Peer). to.Peer p) (peer_same a b h)

one_self : (a : Receiver) → is_one a a ≡ true
one_self (to.Conn a) = eq-eqb a a refl
one_self (to.Peer a) = peer_self a

pub one-exact : (a b : Receiver) → (is_one a b ≡ true) ↔ (a ≡ b)
one-exact a b = (one_same a b, λ e. subst (λ (c : Receiver). is_one a c ≡ true) e (one_self a))

not_both : (x : Bool) → x ≡ not x → ⊥
not_both true e = cc
not_both false e = cc

-- of two connections of which a receiver is one, the numbers differ
pub differs : (r : Receiver) (a b : ℕ) (x : Bool) → is_one r (to.Conn a) ≡ x → is_one r (to.Conn b) ≡ not x → eqb a b ≡ false
differs r a b x p q = ne_eqb a b (λ e. not_both x (sym p ∙ ap (λ (n : ℕ). is_one r (to.Conn n)) e ∙ q))
