-- The reply is ServFail exactly where the keeper failed (RFC 2136 3.4.2.7).
use Rattle.std.proofs.Common.{◌≡◌, ◌≢◌, ◌↔◌, ℕ, ◌+◌, ◌*◌, ◌%◌, ◌<◌, List, ◌++◌, length, Option, Some, None, Bool, true, false, refl, sym, ap, ◌∙◌, subst, arith}
use Rattle.std.specs.Prelude.{IsSomeAnd, IfSome, not, ◌==◌, ◌||◌, if◌then◌else◌}
use Rattle.std.specs.Option.{option_map}
use Rattle.dns_io.specs.declared.peer.Protocol.{Protocol}
use Rattle.dns_wire.specs.declared.header.Header.{Header}
use Rattle.dns_wire.specs.declared.message.Message.{Message}
use Rattle.dns_wire.specs.declared.question.Question.{Question}
use Rattle.dns_wire.specs.declared.reply.Reply.{Reply}
use Rattle.dns_wire.specs.Header.{header_of, header_bytes, unit}
use Rattle.dns_wire.specs.MessageBytes.{counted}
use Rattle.dns_wire.specs.Written.{Written, shortened}
use Rattle.dns_wire.proofs.Heads.{not_short}
use Rattle.dns_keeper.specs.Keeping.{KeeperOf}
use Rattle.dns_zone_map.specs.Zone.{Contents}
use Rattle.dns_update.specs.declared.verdict.Verdict.{Verdict}
use Rattle.dns_update.specs.declared.verdict.Verdict.TheVariants.{Fails, Passes}
use Rattle.dns_update.specs.Verdict.{verdict_of}
use Rattle.dns_book.specs.declared.ask.Ask.{Ask}
use Rattle.dns_book.specs.declared.ask.Settled.{Settled}
use Rattle.dns_book.specs.declared.decision.Request.{Request}
use Rattle.dns_book.specs.declared.decision.Case.{Case}
use Rattle.dns_book.specs.declared.decision.Case.TheVariants.{ShutOut, Malformed, UnsupportedVersion, NotImplemented, NotOneQuestion, Foreign, Query, Update}
use Rattle.dns_book.specs.declared.decision.Decision.{Decision}
use Rattle.dns_book.specs.Access.{Access}
use Rattle.dns_book.specs.Cases.{is_newer, only_question, query_case, question_case, message_case, Decides, silent, shut_out, malformed, read}
use Rattle.dns_book.specs.Owed.{code_of, case_reply, reply_of, case_batch, batch_by, IsWritten}
use Rattle.dns_book.specs.Book.{SeenOf, grounds_of, Settles}
use Rattle.dns_book.proofs.Deciding.{some_same}
use Rattle.dns_book.proofs.Carried.{servfail_case, owed_if}
use Rattle.dns_book.proofs.Codes.{HasCode, failing_code, verdict_code}
use Rattle.dns_book.proofs.Failing.{Settles-some}

-- the code of a written header
low_bits : (a b c k : ℕ) → (128 * a + 32 * b + 16 * c + k % 16) % 16 ≡ k % 16
low_bits a b c k = omega arith

code_read : (h : Header) (rest : List ℕ) → IsSomeAnd (header_of (header_bytes h ++ rest)) (λ g. g.code ≡ h.code % 16)
code_read h rest = rw (not_short (header_bytes h ++ rest) (omega arith)) (low_bits (unit h.ra) (unit h.ad) (unit h.cd) h.code)

twice : (n : ℕ) → n % 16 % 16 ≡ n % 16
twice n = omega arith

written_code : (r : Reply) (limit : ℕ) (bytes : List ℕ) → Written r limit bytes → IsSomeAnd (header_of bytes) (λ h. h.code ≡ r.code % 16)
written_code r limit bytes w =
    subst (λ (n : ℕ). IsSomeAnd (header_of bytes) (λ h. h.code ≡ n)) (twice r.code) (rw w.is (code_read (counted (shortened r w.kept)).header _))

-- a code that is not that of ServFail
abbrev IsOther : ℕ → Type 0
IsOther code = code % 16 ≢ 2

-- a case that no query has
abbrev IsNoLookup : Case → Type 0
IsNoLookup (Query q) = ⊥
IsNoLookup _ = Unit {0}

no_lookup_either : (test : Bool) (a b : Case) → IsNoLookup a → IsNoLookup b → IsNoLookup (if test then a else b)
no_lookup_either true a b first second = first
no_lookup_either false a b first second = second

no_lookup_update : (zone : Contents) (m : Message) (q : Question) (opcode : ℕ) → opcode ≡ 5 → IsNoLookup (if opcode == 5 then Update m else query_case zone q)
no_lookup_update zone m q opcode is = rw is tt

no_lookup_question : (zone : Contents) (m : Message) (question : Option Question) → m.header.opcode ≡ 5 → IsNoLookup (question_case zone m question)
no_lookup_question zone m None is = tt
no_lookup_question zone m (Some q) is = no_lookup_update zone m q m.header.opcode is

no_lookup_message : (zone : Contents) (m : Message) → m.header.opcode ≡ 5 → IsNoLookup (message_case zone m)
unfolding message_case
no_lookup_message zone m is =
    no_lookup_either (is_newer m.edns) (UnsupportedVersion (only_question m.questions)) _ tt
    (no_lookup_either (not ((m.header.opcode == 0) || (m.header.opcode == 5))) (NotImplemented (only_question m.questions)) _ tt (no_lookup_question zone m (only_question m.questions) is))

no_lookup_decided : (zone : Contents) (access : Access) (ask : Ask) (h : Header) (decision : Option Decision) → header_of ask.bytes ≡ Some h → h.opcode ≡ 5 → Decides zone access ask decision → IfSome decision (λ d. IsNoLookup d.case)
no_lookup_decided zone access ask h _ head is (silent none) = tt
no_lookup_decided zone access ask h _ head is (shut_out g e out q asked) = tt
no_lookup_decided zone access ask h _ head is (malformed g e let_in none) = tt
no_lookup_decided zone access ask h _ head is (read g e let_in m at) =
    let same : h ≡ m.header = some_same (sym head ∙ at.header) in
    no_lookup_message zone m (subst (λ (x : Header). x.opcode ≡ 5) same is)

verdict_other : (verdict : Verdict) → HasCode verdict → IsOther (code_of false verdict)
verdict_other (Fails code) has = λ e. let is = failing_code (Fails code) code has refl in is.1 (omega (arith, is.0, e))
verdict_other Passes has = λ e. omega (arith, e)

-- where the keeper did not fail, no reply but to a query could be
case_other : (zone : Contents) (allow_update : Bool) (request : Request) (c : Case) → IsNoLookup c → IsOther (case_reply (record { zone = zone; allow_update = allow_update; failed = false }) request c).code
case_other zone allow_update request (ShutOut q) other = λ e. omega (arith, e)
case_other zone allow_update request Malformed other = λ e. omega (arith, e)
case_other zone allow_update request (UnsupportedVersion q) other = λ e. omega (arith, e)
case_other zone allow_update request (NotImplemented q) other = λ e. omega (arith, e)
case_other zone allow_update request NotOneQuestion other = λ e. omega (arith, e)
case_other zone allow_update request (Foreign q) other = λ e. omega (arith, e)
case_other zone allow_update request (Query q) other = absurd other
case_other zone allow_update request (Update m) other = verdict_other (verdict_of zone m allow_update) (verdict_code zone m allow_update)

exact : (zone : Contents) (allow_update : Bool) (d : Decision) (fails : Bool) (code : ℕ) → IsNoLookup d.case → (fails ≡ true → 0 < length (case_batch zone allow_update d.case)) → code ≡ (owed_if zone allow_update d fails).code % 16
    → (code ≡ 2) ↔ (fails ≡ true)
exact zone allow_update d false code other some is = (λ two. absurd (case_other zone allow_update d.request d.case other (sym is ∙ two)), λ e. absurd cc)
exact zone allow_update d true code other some is = (λ two. refl, λ e. is ∙ ap (λ (r : Reply). r.code % 16) (servfail_case zone allow_update d.request d.case (some refl)))

some_and : (found : Option Header) (P Q : Header → Type 0) → ((h : Header) → P h → Q h) → IsSomeAnd found P → IsSomeAnd found Q
some_and None P Q step is = absurd is
some_and (Some h) P Q step is = step h is

servfail_if : {K : Type 0} (book : SeenOf K) (most : ℕ) (protocol : Protocol) (decision : Option Decision) (fails : Bool) (bytes : List ℕ) → IfSome decision (λ d. IsNoLookup d.case)
    → IsWritten most protocol (option_map (reply_of (grounds_of book fails)) decision) (Some bytes) → (fails ≡ true → 0 < length (batch_by book.zone book.allow_update decision))
    → IsSomeAnd (header_of bytes) (λ h. (h.code ≡ 2) ↔ (fails ≡ true))
servfail_if book most protocol None fails bytes other written some = absurd written
servfail_if book most protocol (Some d) fails bytes other written some =
    some_and (header_of bytes) (λ h. h.code ≡ (reply_of (grounds_of book fails) d).code % 16) (λ h. (h.code ≡ 2) ↔ (fails ≡ true))
    (λ h. exact book.zone book.allow_update d fails h.code other some) (written_code (reply_of (grounds_of book fails) d) _ bytes written)

pub Settles-servfail : {K : Type 0} (keeper : KeeperOf K) (access : Access) (before after : SeenOf K) (ask : Ask) (settled : Settled) (h : Header) (bytes : List ℕ)
    → (is : Settles keeper access before ask settled after) → header_of ask.bytes ≡ Some h → h.opcode ≡ 5 → settled.reply ≡ Some bytes → IsSomeAnd (header_of bytes) (λ r. (r.code ≡ 2) ↔ (is.failed ≡ true))
Settles-servfail keeper access before after ask settled h bytes is head update given =
    servfail_if before access.payload ask.protocol is.reply.decision is.failed bytes (no_lookup_decided before.zone access ask h is.reply.decision head update is.reply.decided)
    (subst (λ (b : Option (List ℕ)). IsWritten access.payload ask.protocol (option_map (reply_of (grounds_of before is.failed)) is.reply.decision) b) given is.reply.written)
    (Settles-some keeper access before after ask settled is)
