-- What is decided of a message: by what was read of it, and that it is one decision.
use Rattle.std.proofs.Common.{◌≡◌, List, [], ◌∷◌, length, Bool, true, false, not, is_err, if◌then◌else◌, Option, Some, None, ℕ, refl, sym, ap, ◌∙◌, subst}
use Rattle.std.specs.List.{AllByRecursion}
use Rattle.std.specs.Prelude.{IfSome, IsSomeAnd, ◌==◌, ◌||◌}
use Rattle.dns_wire.specs.declared.header.Header.{Header}
use Rattle.dns_wire.specs.declared.message.Message.{Message}
use Rattle.dns_wire.specs.declared.question.Question.{Question}
use Rattle.dns_name.specs.Name.{is_at_or_below}
use Rattle.dns_wire.specs.Header.{header_of}
use Rattle.dns_wire.specs.Messages.{MessageAt, OneQuestionAt}
use Rattle.dns_wire.specs.Standing.{ReadsOne}
use Rattle.dns_wire.specs.ReadBack.{ReadsBack}
use Rattle.dns_zone_map.specs.Zone.{Contents}
use Rattle.dns_book.specs.declared.ask.Ask.{Ask}
use Rattle.dns_book.specs.declared.decision.Decision.{Decision}
use Rattle.dns_book.specs.declared.decision.Case.{Case}
use Rattle.dns_book.specs.declared.decision.Case.TheVariants.{ShutOut, Malformed, UnsupportedVersion, NotImplemented, Foreign, Query, Update}
use Rattle.dns_query.specs.declared.query.Query.{Query as Looked}
use Rattle.dns_query.specs.Query.{message_of, IsPlainQuery}
use Rattle.dns_book.specs.Plain.{plain_case, request_in as asked_by}
use Rattle.dns_book.specs.Owed.{IsFit}
use Rattle.dns_book.specs.Sources.{sanitized}
use Rattle.dns_book.specs.Access.{Access, lets_in}
use Rattle.dns_book.specs.Cases.{is_newer, is_foreign, query_case, question_case, only_question, message_case, request_in, request_of, header_alone, request_by, Decides, silent, shut_out, malformed, read}

-- a query of plain form is decided by its question alone
plain_message : (zone : Contents) (q : Looked) → q.header.opcode ≡ 0 → message_case zone (message_of q) ≡ plain_case zone q
unfolding message_case
plain_message zone q asks = rw asks refl

-- what is decided of a message, by what was read of the bytes that are lent
module _ (zone : Contents) (access : Access) (asked ask : Ask) (same : asked ≡ ask) (most : ℕ) (bound : most ≡ access.payload) (h : Header) (head : request_of ask ≡ Some h)
    (d : Decision) where
  pub decided_shut_out : lets_in access asked.source.ip ≡ false → (q : Option Question) → ReadsOne (OneQuestionAt asked.bytes) q
      → d ≡ record { request = header_alone most asked.protocol h; case = ShutOut q } → Decides zone access ask (Some d)
  decided_shut_out out q reads is =
      subst (λ (e : Decision). Decides zone access ask (Some e)) (sym (is ∙ ap (λ (a : Ask). record { request = header_alone most a.protocol h; case = ShutOut q }) same ∙ ap (λ (n : ℕ). record { request = header_alone n ask.protocol h; case = ShutOut q }) bound))
      (shut_out h head (subst (λ (a : Ask). lets_in access a.source.ip ≡ false) same out) q (subst (λ (a : Ask). ReadsOne (OneQuestionAt a.bytes) q) same reads))

  pub decided_malformed : lets_in access asked.source.ip ≡ true → ((m : Message) → MessageAt asked.bytes m → ⊥)
      → d ≡ record { request = header_alone most asked.protocol h; case = Malformed } → Decides zone access ask (Some d)
  decided_malformed let_in none is =
      subst (λ (e : Decision). Decides zone access ask (Some e)) (sym (is ∙ ap (λ (a : Ask). record { request = header_alone most a.protocol h; case = Malformed }) same ∙ ap (λ (n : ℕ). record { request = header_alone n ask.protocol h; case = Malformed }) bound))
      (malformed h head (subst (λ (a : Ask). lets_in access a.source.ip ≡ true) same let_in) (subst (λ (a : Ask). (m : Message) → MessageAt a.bytes m → ⊥) same none))

  pub decided_message : lets_in access asked.source.ip ≡ true → (m : Message) → MessageAt asked.bytes m → (lent : Contents) → lent ≡ zone
      → d ≡ record { request = request_by most asked.protocol m; case = message_case lent m } → Decides zone access ask (Some d)
  decided_message let_in m at lent here is =
      subst (λ (e : Decision). Decides zone access ask (Some e))
      (sym (is ∙ ap (λ (a : Ask). record { request = request_by most a.protocol m; case = message_case lent m }) same ∙ ap (λ (z : Contents). record { request = request_by most ask.protocol m; case = message_case z m }) here
      ∙ ap (λ (n : ℕ). record { request = request_by n ask.protocol m; case = message_case zone m }) bound))
      (read h head (subst (λ (a : Ask). lets_in access a.source.ip ≡ true) same let_in) m (subst (λ (a : Ask). MessageAt a.bytes m) same at))

  -- a query of plain form was read
  pub decided_query : lets_in access asked.source.ip ≡ true → (q : Looked) → MessageAt asked.bytes (message_of q) → IsPlainQuery asked.bytes q → (lent : Contents) → lent ≡ zone
      → d ≡ record { request = asked_by most asked.protocol q; case = plain_case lent q } → Decides zone access ask (Some d)
  decided_query let_in q at plain lent here is =
      decided_message let_in (message_of q) at lent here
      (is ∙ ap (λ (c : Case). record { request = asked_by most asked.protocol q; case = c }) (sym (plain_message lent q plain.form.query)))

-- a request has a header, which is no reply's
head_by : (qr : Bool) (g h : Header) → g.qr ≡ qr → (if qr then None else Some g) ≡ Some h → (Some g ≡ Some h) × (h.qr ≡ false)
head_by true g h is e = absurd cc
head_by false g h is e = let same : g ≡ h = cc in (ap Some same, subst (λ (x : Header). x.qr ≡ false) same is)

request_head : (source : Bool) (found : Option Header) (h : Header) → (if source then None else request_in found) ≡ Some h → (found ≡ Some h) × (h.qr ≡ false)
request_head true found h e = absurd cc
request_head false None h e = absurd cc
request_head false (Some g) h e = head_by g.qr g h refl e

pub request_of-head : (ask : Ask) (h : Header) → request_of ask ≡ Some h → (header_of ask.bytes ≡ Some h) × (h.qr ≡ false)
unfolding request_of
request_of-head ask h e = request_head (is_err (sanitized ask.source)) (header_of ask.bytes) h e

pub some_same : {T : Type 0} {a b : T} → Some a ≡ Some b → a ≡ b
some_same e = cc

-- a decision is of the message's own header, which is no reply's, of its transport, and of how large a datagram may go out
pub decided_head : (zone : Contents) (access : Access) (ask : Ask) (decision : Option Decision) → Decides zone access ask decision
    → IfSome decision (λ d. (header_of ask.bytes ≡ Some d.request.header) × (d.request.header.qr ≡ false) × (d.request.protocol ≡ ask.protocol) × (d.request.payload ≡ access.payload))
decided_head zone access ask _ (silent none) = tt
decided_head zone access ask _ (shut_out h e out q asked) = let head = request_of-head ask h e in (head.0, head.1, refl, refl)
decided_head zone access ask _ (malformed h e let_in none) = let head = request_of-head ask h e in (head.0, head.1, refl, refl)
decided_head zone access ask _ (read h e let_in m at) =
    let head = request_of-head ask h e in
    let same : h ≡ m.header = some_same (sym head.0 ∙ at.header) in
    (at.header, subst (λ (x : Header). x.qr ≡ false) same head.1, refl, refl)

-- what the laws of messages give
abbrev pub OneMessage : Type 0
OneMessage = (m : List ℕ) (a b : Message) → MessageAt m a → MessageAt m b → a ≡ b

-- nobody is let in and shut out
pub in_or_out : (lets : Bool) → lets ≡ true → lets ≡ false → ⊥
in_or_out lets let_in out = absurd cc

found_same : (p : Question) (b : Option Question) → IsSomeAnd b (λ f. f ≡ p) → Some p ≡ b
found_same p None is = absurd is
found_same p (Some q) is = ap Some (sym is)

-- one question is read, or none
same_question : (bytes : List ℕ) (a b : Option Question) → ReadsOne (OneQuestionAt bytes) a → ReadsOne (OneQuestionAt bytes) b → a ≡ b
same_question bytes None None x y = refl
same_question bytes None (Some q) x y = absurd (x.only q y.found)
same_question bytes (Some p) b x y = found_same p b (y.only p x.found)

none_some : (ask : Ask) (h : Header) → request_of ask ≡ None → request_of ask ≡ Some h → ⊥
none_some ask h none some = absurd cc

same_header : (ask : Ask) (g h : Header) → request_of ask ≡ Some g → request_of ask ≡ Some h → g ≡ h
same_header ask g h e f = some_same (sym e ∙ f)

pub same_decision : OneMessage → (zone : Contents) (access : Access) (ask : Ask) (a b : Option Decision) → Decides zone access ask a → Decides zone access ask b → a ≡ b
same_decision one zone access ask _ _ (silent none) (silent nor) = refl
same_decision one zone access ask _ _ (silent none) (shut_out h e out q asked) = absurd (none_some ask h none e)
same_decision one zone access ask _ _ (silent none) (malformed h e let_in nor) = absurd (none_some ask h none e)
same_decision one zone access ask _ _ (silent none) (read h e let_in m at) = absurd (none_some ask h none e)
same_decision one zone access ask _ _ (shut_out h e out q asked) (silent none) = absurd (none_some ask h none e)
same_decision one zone access ask _ _ (malformed h e let_in nor) (silent none) = absurd (none_some ask h none e)
same_decision one zone access ask _ _ (read h e let_in m at) (silent none) = absurd (none_some ask h none e)
same_decision one zone access ask _ _ (shut_out g e out q asked) (shut_out h f shut r heard) =
    ap (λ (x : Header). Some (record { request = header_alone access.payload ask.protocol x; case = ShutOut q })) (same_header ask g h e f)
    ∙ ap (λ (x : Option Question). Some (record { request = header_alone access.payload ask.protocol h; case = ShutOut x })) (same_question ask.bytes q r asked heard)
same_decision one zone access ask _ _ (shut_out g e out q asked) (malformed h f let_in none) = absurd (in_or_out _ let_in out)
same_decision one zone access ask _ _ (shut_out g e out q asked) (read h f let_in m at) = absurd (in_or_out _ let_in out)
same_decision one zone access ask _ _ (malformed g e let_in none) (shut_out h f out q asked) = absurd (in_or_out _ let_in out)
same_decision one zone access ask _ _ (read g e let_in m at) (shut_out h f out q asked) = absurd (in_or_out _ let_in out)
same_decision one zone access ask _ _ (malformed g e let_in none) (malformed h f again nor) =
    ap (λ (x : Header). Some (record { request = header_alone access.payload ask.protocol x; case = Malformed })) (same_header ask g h e f)
same_decision one zone access ask _ _ (malformed g e let_in none) (read h f again m at) = absurd (none m at)
same_decision one zone access ask _ _ (read g e let_in m at) (malformed h f again none) = absurd (none m at)
same_decision one zone access ask _ _ (read g e let_in m at) (read h f again n there) =
    ap (λ (x : Message). Some (record { request = request_by access.payload ask.protocol x; case = message_case zone x })) (one ask.bytes m n at there)

-- what is not foreign is a name of the zone
below : (a b c d : Bool) → (not a || not b || c || d) ≡ false → b ≡ true
below true true c d e = refl
below true false c d e = absurd cc
below false b c d e = absurd cc

fit_if : (zone : Contents) (q : Question) (foreign : Bool) → (foreign ≡ false → is_at_or_below q.name zone.origin ≡ true) → IsFit zone (if foreign then Foreign q else Query q)
fit_if zone q true here = tt
fit_if zone q false here = here refl

fit_query : (zone : Contents) (q : Question) → IsFit zone (query_case zone q)
fit_query zone q =
    fit_if zone q (is_foreign zone q) (below (q.qclass == 1) (is_at_or_below q.name zone.origin) (q.qtype == 251) (q.qtype == 252))

fit_either : (zone : Contents) (test : Bool) (a b : Case) → IsFit zone a → IsFit zone b → IsFit zone (if test then a else b)
fit_either zone true a b first second = first
fit_either zone false a b first second = second

fit_question : (zone : Contents) (m : Message) (questions : List Question) → questions ≡ m.questions → AllByRecursion ReadsBack m.authority → IsFit zone (question_case zone m (only_question questions))
fit_question zone m [] e back = tt
fit_question zone m (q ∷ []) e back = fit_either zone (m.header.opcode == 5) (Update m) (query_case zone q) (ap length (sym e), back) (fit_query zone q)
fit_question zone m (q ∷ r ∷ qs) e back = tt

fit_message : (zone : Contents) (m : Message) → AllByRecursion ReadsBack m.authority → IsFit zone (message_case zone m)
unfolding message_case
fit_message zone m back =
    fit_either zone (is_newer m.edns) (UnsupportedVersion (only_question m.questions)) _ tt
    (fit_either zone (not ((m.header.opcode == 0) || (m.header.opcode == 5))) (NotImplemented (only_question m.questions)) _ tt (fit_question zone m m.questions refl back))

-- the records of updates that are read from bytes read as themselves
abbrev pub ReadUpdates : List ℕ → Type 0
ReadUpdates bytes = (m : Message) → MessageAt bytes m → AllByRecursion ReadsBack m.authority

pub decided_fit : (zone : Contents) (access : Access) (ask : Ask) (d : Decision) → ReadUpdates ask.bytes → Decides zone access ask (Some d) → IsFit zone d.case
decided_fit zone access ask d law decided = fit zone access ask (Some d) law decided
  where
    fit : (zone : Contents) (access : Access) (ask : Ask) (decision : Option Decision) → ReadUpdates ask.bytes → Decides zone access ask decision → IfSome decision (λ e. IsFit zone e.case)
    fit zone access ask _ law (silent none) = tt
    fit zone access ask _ law (shut_out h e out q asked) = tt
    fit zone access ask _ law (malformed h e let_in none) = tt
    fit zone access ask _ law (read h e let_in m at) = fit_message zone m (law m at)
