-- What the replies that messages are owed obey.
use Rattle.std.proofs.Common.{◌≡◌, ℕ, ◌<◌, ◌≤◌, ◌^◌, List, [], length, true, false, Option, Some, None, IsSomeAnd, refl, sym, ap, ◌∙◌, subst, arith}
use Rattle.std.specs.Prelude.{IfSome}
use Rattle.std.specs.Option.{option_map}
use Rattle.dns_io.specs.declared.peer.Protocol.{Protocol}
use Rattle.dns_io.specs.declared.peer.Protocol.TheVariants.{Udp, Tcp, Tls, Https, Quic, H3}
use Rattle.dns_wire.specs.declared.header.Header.{Header}
use Rattle.dns_wire.specs.declared.edns.Edns.{Edns}
use Rattle.dns_wire.specs.declared.message.Message.{Message}
use Rattle.dns_wire.specs.declared.reply.Reply.{Reply}
use Rattle.dns_wire.specs.Header.{header_of}
use Rattle.dns_wire.specs.Messages.{MessageAt}
use Rattle.dns_wire.specs.Written.{Written}
use Rattle.dns_book.specs.declared.ask.Ask.{Ask}
use Rattle.dns_book.specs.declared.decision.Request.{Request}
use Rattle.dns_book.specs.declared.decision.Case.{Case}
use Rattle.dns_book.specs.declared.decision.Case.TheVariants.{ShutOut, Malformed, UnsupportedVersion, NotImplemented, NotOneQuestion, Foreign, Query, Update}
use Rattle.dns_book.specs.declared.decision.Decision.{Decision}
use Rattle.dns_book.specs.Access.{Access, IsPayload, lets_in}
use Rattle.dns_book.specs.Cases.{message_case, request_by, Decides, silent, shut_out, malformed, read}
use Rattle.dns_book.specs.Owed.{Grounds, id_for, edns_for, limit_of, case_reply, reply_of, Owes, IsWritten, OwesBytes}
use Rattle.dns_book.proofs.Deciding.{OneMessage, decided_head, in_or_out, same_decision, some_same}

-- what any reply to a request has of it
pub record IsOf (request : Request) (reply : Reply) : Type 0 where
  pub id : reply.id ≡ id_for request.protocol request.header.id
  pub code : ℕ
  pub opt : reply.edns ≡ edns_for code request.edns

of_case : (grounds : Grounds) (request : Request) (one : Case) → IsOf request (case_reply grounds request one)
of_case grounds request (ShutOut q) = record { id = refl; code = 5; opt = refl }
of_case grounds request Malformed = record { id = refl; code = 1; opt = refl }
of_case grounds request (UnsupportedVersion q) = record { id = refl; code = 16; opt = refl }
of_case grounds request (NotImplemented q) = record { id = refl; code = 4; opt = refl }
of_case grounds request NotOneQuestion = record { id = refl; code = 1; opt = refl }
of_case grounds request (Foreign q) = record { id = refl; code = 5; opt = refl }
of_case grounds request (Query q) = record { id = refl; code = (case_reply grounds request (Query q)).code; opt = refl }
of_case grounds request (Update m) = record { id = refl; code = (case_reply grounds request (Update m)).code; opt = refl }

id_small : (protocol : Protocol) (id : ℕ) → id < 2 ^ 16 → id_for protocol id < 2 ^ 16
id_small Udp id small = small
id_small Tcp id small = small
id_small Tls id small = small
id_small Https id small = small
id_small Quic id small = omega arith
id_small H3 id small = small

limit_same : (most : ℕ) (protocol : Protocol) (code : ℕ) (edns : Option Edns) → limit_of most protocol (edns_for code edns) ≡ limit_of most protocol (edns_for 0 edns)
limit_same most Udp code None = refl
limit_same most Udp code (Some e) = refl
limit_same most Tcp code edns = refl
limit_same most Tls code edns = refl
limit_same most Https code edns = refl
limit_same most Quic code edns = refl
limit_same most H3 code edns = refl

-- what the laws of written replies give
abbrev pub OneForm : Type 0
OneForm = (r : Reply) (limit : ℕ) (a b : List ℕ) → Written r limit a → Written r limit b → a ≡ b

abbrev pub IsShorter : Type 0
IsShorter = (r : Reply) (limit : ℕ) (bytes : List ℕ) → Written r limit bytes → length bytes ≤ limit

abbrev pub HeadBack : Type 0
HeadBack = (r : Reply) (limit : ℕ) (bytes : List ℕ) → r.id < 2 ^ 16 → Written r limit bytes → IsSomeAnd (header_of bytes) (λ h. (h.id ≡ r.id) × (h.qr ≡ true))

same_written : OneForm → (most : ℕ) (protocol : Protocol) (reply : Option Reply) (a b : Option (List ℕ)) → IsWritten most protocol reply a → IsWritten most protocol reply b → a ≡ b
same_written one most protocol None None None x y = refl
same_written one most protocol None None (Some bytes) x y = absurd y
same_written one most protocol None (Some bytes) b x y = absurd x
same_written one most protocol (Some r) None b x y = absurd x
same_written one most protocol (Some r) (Some bytes) None x y = absurd y
same_written one most protocol (Some r) (Some bytes) (Some others) x y = ap Some (one r (limit_of most protocol r.edns) bytes others x y)

pub Owes-one : OneMessage → (grounds : Grounds) (access : Access) (ask : Ask) (a b : Option Reply) → Owes grounds access ask a → Owes grounds access ask b → a ≡ b
Owes-one message grounds access ask a b x y =
    let same : x.decision ≡ y.decision = same_decision message grounds.zone access ask x.decision y.decision x.decided y.decided in
    x.is ∙ ap (option_map (reply_of grounds)) same ∙ sym y.is

pub OwesBytes-one : OneMessage → OneForm → (grounds : Grounds) (access : Access) (ask : Ask) (a b : Option (List ℕ)) → OwesBytes grounds access ask a → OwesBytes grounds access ask b → a ≡ b
OwesBytes-one message form grounds access ask a b x y =
    let same : y.decision ≡ x.decision = same_decision message grounds.zone access ask y.decision x.decision y.decided x.decided in
    same_written form access.payload ask.protocol (option_map (reply_of grounds) x.decision) a b x.written (subst (λ (d : Option Decision). IsWritten access.payload ask.protocol (option_map (reply_of grounds) d) b) same y.written)

head_of : HeadBack → (grounds : Grounds) (access : Access) (ask : Ask) (h : Header) (decision : Option Decision) (bytes : List ℕ) → header_of ask.bytes ≡ Some h → h.id < 2 ^ 16
    → Decides grounds.zone access ask decision → IsWritten access.payload ask.protocol (option_map (reply_of grounds) decision) (Some bytes)
    → IsSomeAnd (header_of bytes) (λ r. (r.id ≡ id_for ask.protocol h.id) × (r.qr ≡ true))
head_of back grounds access ask h None bytes head small decided written = absurd written
head_of back grounds access ask h (Some d) bytes head small decided written =
    let facts = decided_head grounds.zone access ask (Some d) decided in
    let same : d.request.header ≡ h = some_same (sym facts.0 ∙ head) in
    let id : (reply_of grounds d).id ≡ id_for ask.protocol h.id =
    (of_case grounds d.request d.case).id ∙ ap (λ (p : Protocol). id_for p d.request.header.id) facts.2 ∙ ap (λ (x : Header). id_for ask.protocol x.id) same
    in
    let little : (reply_of grounds d).id < 2 ^ 16 = subst (λ (n : ℕ). n < 2 ^ 16) (sym id) (id_small ask.protocol h.id small) in
    subst (λ (n : ℕ). IsSomeAnd (header_of bytes) (λ r. (r.id ≡ n) × (r.qr ≡ true))) id (back (reply_of grounds d) (limit_of access.payload ask.protocol (reply_of grounds d).edns) bytes little written)

pub OwesBytes-header : HeadBack → (grounds : Grounds) (access : Access) (ask : Ask) (h : Header) (bytes : List ℕ) → header_of ask.bytes ≡ Some h → h.id < 2 ^ 16 → OwesBytes grounds access ask (Some bytes)
    → IsSomeAnd (header_of bytes) (λ r. (r.id ≡ id_for ask.protocol h.id) × (r.qr ≡ true))
OwesBytes-header back grounds access ask h bytes head small x = head_of back grounds access ask h x.decision bytes head small x.decided x.written

-- what a reply without an OPT may take, one with an OPT may take too
limit_least : (most : ℕ) → 512 ≤ most → (protocol : Protocol) (edns : Option Edns) → limit_of most protocol None ≤ limit_of most protocol (edns_for 0 edns)
limit_least most least Udp None = omega arith
limit_least most least Udp (Some e) = omega (arith, least)
limit_least most least Tcp edns = omega arith
limit_least most least Tls edns = omega arith
limit_least most least Https edns = omega arith
limit_least most least Quic edns = omega arith
limit_least most least H3 edns = omega arith

-- a datagram has no more than the greatest
limit_most : (most : ℕ) (edns : Option Edns) → 512 ≤ most → limit_of most Udp edns ≤ most
limit_most most None least = least
limit_most most (Some e) least = omega arith

-- a reply's written form takes no more than what bounds its limit
within : IsShorter → (grounds : Grounds) (access : Access) (ask : Ask) (decision : Option Decision) (limit : ℕ) (bytes : List ℕ) → IfSome decision (λ d. limit_of access.payload ask.protocol (reply_of grounds d).edns ≤ limit)
    → IsWritten access.payload ask.protocol (option_map (reply_of grounds) decision) (Some bytes) → length bytes ≤ limit
within short grounds access ask None limit bytes bound written = absurd written
within short grounds access ask (Some d) limit bytes bound written = omega (arith, bound, short (reply_of grounds d) (limit_of access.payload ask.protocol (reply_of grounds d).edns) bytes written)

room_of : OneMessage → (grounds : Grounds) (access : Access) (ask : Ask) (m : Message) (decision : Option Decision) → IsPayload access.payload → MessageAt ask.bytes m → Decides grounds.zone access ask decision
    → IfSome decision (λ d. limit_of access.payload ask.protocol (reply_of grounds d).edns ≤ limit_of access.payload ask.protocol (edns_for 0 m.edns))
room_of one grounds access ask m _ range at (silent none) = tt
room_of one grounds access ask m _ range at (shut_out h e out q asked) = limit_least access.payload range.least ask.protocol m.edns
room_of one grounds access ask m _ range at (malformed h e let_in none) = absurd (none m at)
room_of one grounds access ask m _ range at (read h e let_in n there) =
    let same : n ≡ m = one ask.bytes n m there at in
    let of = of_case grounds (request_by access.payload ask.protocol n) (message_case grounds.zone n) in
    let room : limit_of access.payload ask.protocol (case_reply grounds (request_by access.payload ask.protocol n) (message_case grounds.zone n)).edns ≡ limit_of access.payload ask.protocol (edns_for 0 m.edns) =
    ap (λ (e : Option Edns). limit_of access.payload ask.protocol e) of.opt ∙ limit_same access.payload ask.protocol of.code n.edns ∙ ap (λ (x : Message). limit_of access.payload ask.protocol (edns_for 0 x.edns)) same
    in
    omega (arith, room)

pub OwesBytes-limit : OneMessage → IsShorter → (grounds : Grounds) (access : Access) (ask : Ask) (m : Message) (bytes : List ℕ) → IsPayload access.payload → MessageAt ask.bytes m → OwesBytes grounds access ask (Some bytes) → length bytes ≤ limit_of access.payload ask.protocol (edns_for 0 m.edns)
OwesBytes-limit one short grounds access ask m bytes range at x = within short grounds access ask x.decision _ bytes (room_of one grounds access ask m x.decision range at x.decided) x.written

no_room_of : (grounds : Grounds) (access : Access) (ask : Ask) (decision : Option Decision) → ((m : Message) → MessageAt ask.bytes m → ⊥) → Decides grounds.zone access ask decision
    → IfSome decision (λ d. limit_of access.payload ask.protocol (reply_of grounds d).edns ≤ limit_of access.payload ask.protocol None)
no_room_of grounds access ask _ none (silent nor) = tt
no_room_of grounds access ask _ none (shut_out h e out q asked) = omega arith
no_room_of grounds access ask _ none (malformed h e let_in nor) = omega arith
no_room_of grounds access ask _ none (read h e let_in m at) = absurd (none m at)

pub OwesBytes-malformed : IsShorter → (grounds : Grounds) (access : Access) (ask : Ask) (bytes : List ℕ) → ((m : Message) → MessageAt ask.bytes m → ⊥) → OwesBytes grounds access ask (Some bytes) → length bytes ≤ limit_of access.payload ask.protocol None
OwesBytes-malformed short grounds access ask bytes none x = within short grounds access ask x.decision _ bytes (no_room_of grounds access ask x.decision none x.decided) x.written

-- whatever it is owed
datagram_room : (grounds : Grounds) (access : Access) (ask : Ask) (decision : Option Decision) → IsPayload access.payload → ask.protocol ≡ Udp
    → IfSome decision (λ d. limit_of access.payload ask.protocol (reply_of grounds d).edns ≤ access.payload)
datagram_room grounds access ask None range way = tt
datagram_room grounds access ask (Some d) range way =
    subst (λ (p : Protocol). limit_of access.payload p (reply_of grounds d).edns ≤ access.payload) (sym way) (limit_most access.payload (reply_of grounds d).edns range.least)

pub OwesBytes-datagram : IsShorter → (grounds : Grounds) (access : Access) (ask : Ask) (bytes : List ℕ) → IsPayload access.payload → ask.protocol ≡ Udp → OwesBytes grounds access ask (Some bytes)
    → length bytes ≤ access.payload
OwesBytes-datagram short grounds access ask bytes range way x = within short grounds access ask x.decision _ bytes (datagram_room grounds access ask x.decision range way) x.written

no_reply : (a : Header) (n : ℕ) (found : Option Header) → IsSomeAnd found (λ r. (r.id ≡ n) × (r.qr ≡ true)) → found ≡ Some a → a.qr ≡ false → ⊥
no_reply a n None is e qr = absurd is
no_reply a n (Some r) is e qr =
    let same : r ≡ a = some_same e in
    let set : a.qr ≡ true = subst (λ (x : Header). x.qr ≡ true) same is.1 in
    absurd cc

owed_none : (other : Grounds) (others : Access) (again : Ask) (n : ℕ) (decision : Option Decision) (reply : Option (List ℕ)) → IsSomeAnd (header_of again.bytes) (λ r. (r.id ≡ n) × (r.qr ≡ true))
    → Decides other.zone others again decision → IsWritten others.payload again.protocol (option_map (reply_of other) decision) reply → reply ≡ None
owed_none other others again n None None head decided written = refl
owed_none other others again n None (Some bytes) head decided written = absurd written
owed_none other others again n (Some d) reply head decided written =
    let facts = decided_head other.zone others again (Some d) decided in
    absurd (no_reply d.request.header n (header_of again.bytes) head facts.0 facts.1)

pub OwesBytes-silent : HeadBack → (grounds other : Grounds) (access others : Access) (ask again : Ask) (h : Header) (bytes : List ℕ) (reply : Option (List ℕ)) → header_of ask.bytes ≡ Some h → h.id < 2 ^ 16
    → OwesBytes grounds access ask (Some bytes) → again.bytes ≡ bytes → OwesBytes other others again reply → reply ≡ None
OwesBytes-silent back grounds other access others ask again h bytes reply head small x same y =
    let there = OwesBytes-header back grounds access ask h bytes head small x in
    let here = subst (λ (b : List ℕ). IsSomeAnd (header_of b) (λ r. (r.id ≡ id_for ask.protocol h.id) × (r.qr ≡ true))) (sym same) there in
    owed_none other others again (id_for ask.protocol h.id) y.decision reply here y.decided y.written

refused : (grounds : Grounds) (access : Access) (ask : Ask) (decision : Option Decision) → lets_in access ask.source.ip ≡ false → Decides grounds.zone access ask decision
    → IfSome decision (λ d. ((reply_of grounds d).code ≡ 5) × ((reply_of grounds d).answers ≡ []) × ((reply_of grounds d).edns ≡ None))
refused grounds access ask _ out (silent none) = tt
refused grounds access ask _ out (shut_out h e shut q asked) = (refl, refl, refl)
refused grounds access ask _ out (malformed h e let_in none) = absurd (in_or_out _ let_in out)
refused grounds access ask _ out (read h e let_in m at) = absurd (in_or_out _ let_in out)

refused_reply : (grounds : Grounds) (decision : Option Decision) (reply : Reply) → IfSome decision (λ d. ((reply_of grounds d).code ≡ 5) × ((reply_of grounds d).answers ≡ []) × ((reply_of grounds d).edns ≡ None))
    → Some reply ≡ option_map (reply_of grounds) decision → (reply.code ≡ 5) × (reply.answers ≡ []) × (reply.edns ≡ None)
refused_reply grounds None reply facts is = absurd cc
refused_reply grounds (Some d) reply facts is = subst (λ (r : Reply). (r.code ≡ 5) × (r.answers ≡ []) × (r.edns ≡ None)) (some_same (sym is)) facts

pub Owes-refused : (grounds : Grounds) (access : Access) (ask : Ask) (reply : Reply) → lets_in access ask.source.ip ≡ false → Owes grounds access ask (Some reply) → (reply.code ≡ 5) × (reply.answers ≡ []) × (reply.edns ≡ None)
Owes-refused grounds access ask reply out x = refused_reply grounds x.decision reply (refused grounds access ask x.decision out x.decided) x.is

shut_room : (grounds : Grounds) (access : Access) (ask : Ask) (decision : Option Decision) → lets_in access ask.source.ip ≡ false → Decides grounds.zone access ask decision
    → IfSome decision (λ d. limit_of access.payload ask.protocol (reply_of grounds d).edns ≤ limit_of access.payload ask.protocol None)
shut_room grounds access ask _ out (silent none) = tt
shut_room grounds access ask _ out (shut_out h e shut q asked) = omega arith
shut_room grounds access ask _ out (malformed h e let_in none) = absurd (in_or_out _ let_in out)
shut_room grounds access ask _ out (read h e let_in m at) = absurd (in_or_out _ let_in out)

pub OwesBytes-refused : IsShorter → (grounds : Grounds) (access : Access) (ask : Ask) (bytes : List ℕ) → lets_in access ask.source.ip ≡ false → OwesBytes grounds access ask (Some bytes) → length bytes ≤ limit_of access.payload ask.protocol None
OwesBytes-refused short grounds access ask bytes out x = within short grounds access ask x.decision _ bytes (shut_room grounds access ask x.decision out x.decided) x.written
