-- The reply that an update is owed is short, and reads back as a reply to it.
use Rattle.std.proofs.Common.{◌≡◌, ◌≢◌, ℕ, ◌<◌, ◌≤◌, ◌^◌, List, [], ◌∷◌, ◌++◌, length, take, Option, Some, None, Bool, true, false, refl, sym, ap, ◌∙◌, subst, arith}
use Rattle.std.specs.Prelude.{IfSome, is_err, not, ◌==◌, ◌||◌, if◌then◌else◌}
use Rattle.std.specs.List.{AllByRecursion}
use Rattle.std.specs.Option.{option_map}
use Rattle.std.proofs.Math.Seq.{take-nil}
use Rattle.dns_io.specs.declared.peer.Protocol.{Protocol}
use Rattle.dns_io.specs.declared.peer.Protocol.TheVariants.{Udp, Tcp, Tls, Https, Quic, H3}
use Rattle.dns_wire.specs.declared.edns.Edns.{Edns}
use Rattle.dns_wire.specs.declared.header.Header.{Header}
use Rattle.dns_wire.specs.declared.message.Message.{Message}
use Rattle.dns_wire.specs.declared.question.Question.{Question}
use Rattle.dns_wire.specs.declared.reply.Reply.{Reply}
use Rattle.dns_wire.specs.MessageBytes.{counted, message_bytes}
use Rattle.dns_wire.specs.Header.{header_of}
use Rattle.dns_wire.specs.Messages.{MessageAt, OneQuestionAt}
use Rattle.dns_wire.specs.ReadBack.{IsMessage, IsPlain, IsQuestion}
use Rattle.dns_wire.specs.Sections.{ItemsAt}
use Rattle.dns_wire.specs.Standing.{QuestionAt, ReadsOne}
use Rattle.dns_wire.specs.Written.{question_list, shortened, Written}
use Rattle.dns_wire.proofs.ItemsDetermined.{QuestionAt-one}
use Rattle.dns_wire.proofs.MessageDetermined.{messages_one}
use Rattle.dns_wire.proofs.Messaging.{message_alone}
use Rattle.dns_keeper.specs.Keeping.{KeeperOf}
use Rattle.dns_zone_map.specs.Zone.{Contents}
use Rattle.dns_update.specs.declared.verdict.Verdict.{Verdict}
use Rattle.dns_update.specs.declared.verdict.Verdict.TheVariants.{Fails, Passes}
use Rattle.dns_update.specs.Verdict.{verdict_of}
use Rattle.dns_book.specs.declared.ask.Ask.{Ask}
use Rattle.dns_book.specs.declared.ask.Settled.{Settled}
use Rattle.dns_book.specs.Sources.{sanitized, IsSafe}
use Rattle.dns_book.specs.Access.{Access}
use Rattle.dns_book.specs.Cases.{request_in, request_of, is_newer, only_question, question_case, message_case, request_by, Decides, silent, shut_out, malformed, read}
use Rattle.dns_book.specs.Owed.{code_of, case_reply, edns_for, id_for, limit_of, reply_of, Grounds, IsWritten}
use Rattle.dns_book.specs.Book.{SeenOf, grounds_of, Settles}
use Rattle.dns_book.proofs.Codes.{HasCode, failing_code, verdict_code}
use Rattle.dns_book.proofs.Deciding.{request_of-head, some_same}
use Rattle.dns_update_client.specs.Exchange.{upper_bits, Answers, Exchanges, IsDecided, Replies, StopsAt}
use Rattle.dns_update_client.specs.Framed.{frames_of}
use Rattle.dns_update_client.specs.SettledUpdates.{IsUpdate, SettlesUpdate, SettlesUpdates}
use Rattle.dns_update_client.specs.declared.submit_fault.SubmitFault.{SubmitFault}
use Rattle.dns_update_client.proofs.Unique.{Answers-codes, Answers-not}

-- a reply to an update: its question alone, and a code of four bits
record IsBare (m : Message) (protocol : Protocol) (r : Reply) : Type 0 where
  pub same : r.id ≡ id_for protocol m.header.id
  pub kind : r.opcode ≡ 5
  pub small : r.code < 16
  pub asked : AllByRecursion IsQuestion (question_list r.question)
  pub no_answers : r.answers ≡ []
  pub no_authority : r.authority ≡ []
  pub no_additional : r.additional ≡ []
  pub alone : r.edns ≡ None

-- what a request has of an update that was written
record IsFrom (m : Message) (header : Header) (edns : Option Edns) : Type 0 where
  pub id : header.id ≡ m.header.id
  pub kind : header.opcode ≡ 5
  pub alone : edns ≡ None

bare : (m : Message) (protocol : Protocol) (header : Header) (edns : Option Edns) (code : ℕ) (question : Option Question) → IsFrom m header edns → code < 16 → AllByRecursion IsQuestion (question_list question)
    → IsBare m protocol (record { id = id_for protocol header.id; opcode = header.opcode; aa = false; rd = header.rd; cd = header.cd; code = code; question = question; answers = []; authority = []; additional = []; edns = edns_for code edns })
bare m protocol header edns code question from small asked = record {
  same = ap (id_for protocol) from.id;
  kind = from.kind;
  small = small;
  asked = asked;
  no_answers = refl;
  no_authority = refl;
  no_additional = refl;
  alone = ap (edns_for code) from.alone;
}

code-small : (verdict : Verdict) (fails : Bool) → HasCode verdict → code_of fails verdict < 16
code-small (Fails code) fails has = (failing_code (Fails code) code has refl).0
code-small Passes true has = omega arith
code-small Passes false has = omega arith

only-asked : (questions : List Question) → AllByRecursion IsQuestion questions → AllByRecursion IsQuestion (question_list (only_question questions))
only-asked [] all = tt
only-asked (q ∷ []) all = all
only-asked (q ∷ r ∷ qs) all = tt

if-false : {X : Type 0} (test : Bool) (a b : X) → test ≡ false → (if test then a else b) ≡ b
if-false true a b e = absurd cc
if-false false a b e = refl

if-true : {X : Type 0} (test : Bool) (a b : X) → test ≡ true → (if test then a else b) ≡ a
if-true true a b e = refl
if-true false a b e = absurd cc

-- the case of an update
case-is : (zone : Contents) (n : Message) → n.edns ≡ None → n.header.opcode ≡ 5 → message_case zone n ≡ question_case zone n (only_question n.questions)
unfolding message_case
case-is zone n alone kind =
    if-false (is_newer n.edns) _ _ (ap is_newer alone)
    ∙ if-false (not ((n.header.opcode == 0) || (n.header.opcode == 5))) _ _ (ap (λ (o : ℕ). not ((o == 0) || (o == 5))) kind)

bare-question : (grounds : Grounds) (m n : Message) (most : ℕ) (protocol : Protocol) (question : Option Question) → IsFrom m n.header n.edns → AllByRecursion IsQuestion n.questions
    → IsBare m protocol (case_reply grounds (request_by most protocol n) (question_case grounds.zone n question))
bare-question grounds m n most protocol None from all = bare m protocol n.header n.edns 1 None from (omega arith) tt
bare-question grounds m n most protocol (Some q) from all =
    subst (λ c. IsBare m protocol (case_reply grounds (request_by most protocol n) c)) (sym (if-true (n.header.opcode == 5) _ _ (ap (λ (o : ℕ). o == 5) from.kind)))
    (bare m protocol n.header n.edns (code_of grounds.failed (verdict_of grounds.zone n grounds.allow_update)) (only_question n.questions) from
    (code-small (verdict_of grounds.zone n grounds.allow_update) grounds.failed (verdict_code grounds.zone n grounds.allow_update)) (only-asked n.questions all))

bare-read : (grounds : Grounds) (m n : Message) (most : ℕ) (protocol : Protocol) → IsFrom m n.header n.edns → AllByRecursion IsQuestion n.questions
    → IsBare m protocol (case_reply grounds (request_by most protocol n) (message_case grounds.zone n))
bare-read grounds m n most protocol from all =
    subst (λ c. IsBare m protocol (case_reply grounds (request_by most protocol n) c)) (sym (case-is grounds.zone n from.alone from.kind)) (bare-question grounds m n most protocol (only_question n.questions) from all)

-- the question that stands alone in a message is the message's
first-asked : (bytes : List ℕ) (q : Question) (j end : ℕ) (questions : List Question) → QuestionAt bytes 12 q j → ItemsAt (QuestionAt bytes) 12 questions end → length questions ≡ 1 → AllByRecursion IsQuestion questions → IsQuestion q
first-asked bytes q j end [] stands items one all = absurd (omega (arith, one))
first-asked bytes q j end (p ∷ ps) stands items one all =
    let same : p ≡ q = (QuestionAt-one bytes 12 items.0 j p q items.1 stands).0 in
    subst IsQuestion same all.0

question-asked : (bytes : List ℕ) (n : Message) (question : Option Question) → MessageAt bytes n → AllByRecursion IsQuestion n.questions → ReadsOne (OneQuestionAt bytes) question → AllByRecursion IsQuestion (question_list question)
question-asked bytes n None at all reads = tt
question-asked bytes n (Some q) at all reads =
    let one = reads.found in
    let head : one.header ≡ n.header = some_same (sym one.head ∙ at.header) in
    let count : length n.questions ≡ 1 = at.questions.count ∙ sym (ap (λ (h : Header). h.questions) head) ∙ one.one in
    (first-asked bytes q one.end at.i n.questions one.stands at.questions.stand count all, tt)

-- the reply that an update is owed
bare-owed : (grounds : Grounds) (access : Access) (ask : Ask) (m : Message) (decision : _) (owed : Reply) → IsUpdate m → MessageAt ask.bytes (counted m) → Decides grounds.zone access ask decision
    → option_map (reply_of grounds) decision ≡ Some owed → IsBare m ask.protocol owed
bare-owed grounds access ask m _ owed update at (silent none) is = absurd cc
bare-owed grounds access ask m _ owed update at (shut_out h e out question reads) is =
    let P : Reply → Type 0 = λ (r : Reply). IsBare m ask.protocol r in
    let head : h ≡ (counted m).header = some_same (sym (request_of-head ask h e).0 ∙ at.header) in
    let from : IsFrom m h None = record { id = ap (λ (x : Header). x.id) head; kind = ap (λ (x : Header). x.opcode) head ∙ update.opcode; alone = refl } in
    subst P (some_same is) (bare m ask.protocol h None 5 question from (omega arith) (question-asked ask.bytes (counted m) question at update.kept.questions reads))
bare-owed grounds access ask m _ owed update at (malformed h e let_in none) is = absurd (none (counted m) at)
bare-owed grounds access ask m _ owed update at (read h e let_in n there) is =
    let P : Reply → Type 0 = λ (r : Reply). IsBare m ask.protocol r in
    let same : counted m ≡ n = messages_one ask.bytes (counted m) n at there in
    let Q : Message → Type 0 = λ (x : Message). IsBare m ask.protocol (case_reply grounds (request_by access.payload ask.protocol x) (message_case grounds.zone x)) in
    let from : IsFrom m (counted m).header (counted m).edns = record { id = refl; kind = update.opcode; alone = update.alone } in
    subst P (some_same is) (subst Q same (bare-read grounds m (counted m) access.payload ask.protocol from update.kept.questions))

none-of : {X : Type 0} (P : X → Type 0) (n : ℕ) (xs : List X) → xs ≡ [] → AllByRecursion P (take n xs)
none-of P n xs none =
    let Q = AllByRecursion P in
    subst Q (sym (ap (take n) none ∙ take-nil n)) tt

none-if : (P : Edns → Type 0) (edns : Option Edns) → edns ≡ None → IfSome edns P
none-if P None none = tt
none-if P (Some e) none = absurd cc

id-kept : (protocol : Protocol) (id : ℕ) → protocol ≢ Quic → id_for protocol id ≡ id
id-kept Udp id other = refl
id-kept Tcp id other = refl
id-kept Tls id other = refl
id-kept Https id other = refl
id-kept Quic id other = absurd (other refl)
id-kept H3 id other = refl

limit-short : (most : ℕ) (protocol : Protocol) → limit_of most protocol None ≤ 65535
limit-short most Udp = omega arith
limit-short most Tcp = omega arith
limit-short most Tls = omega arith
limit-short most Https = omega arith
limit-short most Quic = omega arith
limit-short most H3 = omega arith

-- the written form of such a reply is a reply to the update
replies-by : (m : Message) (most : ℕ) (protocol : Protocol) (r : Reply) (bytes : List ℕ) (code : ℕ) → m.header.id < 2 ^ 16 → protocol ≢ Quic → IsBare m protocol r → Written r (limit_of most protocol r.edns) bytes → code ≡ r.code
    → Replies m.header.id bytes code
replies-by m most protocol r bytes code small other b w says =
    let same : r.id ≡ m.header.id = b.same ∙ id-kept protocol m.header.id other in
    let fits : length bytes ≤ limit_of most protocol r.edns = w.fits in
    let limit : limit_of most protocol r.edns ≡ limit_of most protocol None = ap (limit_of most protocol) b.alone in
    let short : length bytes ≤ 65535 = omega (arith, fits, limit, limit-short most protocol) in
    let kept : IsMessage (shortened r w.kept) = record {
      id = omega (arith, same, small);
      questions = b.asked;
      answers = none-of _ w.kept r.answers b.no_answers;
      authority = none-of _ _ r.authority b.no_authority;
      additional = none-of _ _ r.additional b.no_additional;
      edns = none-if _ r.edns b.alone;
    } in
    let plain : IsPlain (shortened r w.kept) = record {
      opcode = omega (arith, b.kind);
      code = omega arith;
      answers = none-of _ w.kept r.answers b.no_answers;
      authority = none-of _ _ r.authority b.no_authority;
      additional = none-of _ _ r.additional b.no_additional;
      answers_plain = none-of _ w.kept r.answers b.no_answers;
      authority_plain = none-of _ _ r.authority b.no_authority;
      additional_plain = none-of _ _ r.additional b.no_additional;
    } in
    let P : List ℕ → Type 0 = λ (l : List ℕ). length l ≤ 65535 in
    let Q : List ℕ → Type 0 = λ (l : List ℕ). MessageAt l (counted (shortened r w.kept)) in
    let bits : upper_bits r.edns ≡ 0 = ap upper_bits b.alone in
    record {
      short = short;
      reply = counted (shortened r w.kept);
      stands = subst Q (sym w.is) (message_alone (shortened r w.kept) kept plain (subst P w.is short));
      same = same;
      kind = (refl, b.kind);
      says = omega (arith, says, bits, b.small);
    }

written-owed : (most : ℕ) (protocol : Protocol) (reply : Option Reply) (owed : Reply) (bytes : List ℕ) (told : Option (List ℕ)) → IsWritten most protocol reply told → reply ≡ Some owed → told ≡ Some bytes → Written owed (limit_of most protocol owed.edns) bytes
written-owed most protocol None owed bytes told written is given = absurd cc
written-owed most protocol (Some r) owed bytes None written is given = absurd cc
written-owed most protocol (Some r) owed bytes (Some b) written is given =
    let P : Reply → Type 0 = λ (x : Reply). Written x (limit_of most protocol x.edns) bytes in
    let Q : List ℕ → Type 0 = λ (x : List ℕ). Written r (limit_of most protocol r.edns) x in
    subst P (some_same is) (subst Q (some_same given) written)

-- an update that was settled is answered
SettlesUpdate-replies : {K : Type 0} (keeper : KeeperOf K) (access : Access) (before : SeenOf K) (m : Message) (bytes : List ℕ) (code : ℕ) (after : SeenOf K)
    → SettlesUpdate keeper access before m bytes code after → Replies m.header.id bytes code
SettlesUpdate-replies keeper access before m bytes code after s =
    let P : List ℕ → Type 0 = λ (l : List ℕ). MessageAt l (counted m) in
    let at : MessageAt s.ask.bytes (counted m) = subst P (sym s.asked) (message_alone m s.update.kept s.update.plain s.update.short.short) in
    replies-by m access.payload s.ask.protocol s.owed bytes code s.update.kept.id s.protocol
    (bare-owed (grounds_of before s.settles.failed) access s.ask m s.settles.reply.decision s.owed s.update at s.settles.reply.decided s.is_owed)
    (written-owed access.payload s.ask.protocol (option_map (reply_of (grounds_of before s.settles.failed)) s.settles.reply.decision) s.owed bytes s.settled.reply s.settles.reply.written s.is_owed s.answered) s.says

pub SettlesUpdates-exchange : {K : Type 0} (keeper : KeeperOf K) (access : Access) (before after : SeenOf K) (messages : List Message) (replies : List (List ℕ)) (codes : List ℕ)
    → SettlesUpdates keeper access before messages replies codes after → Exchanges messages replies codes
SettlesUpdates-exchange keeper access before after [] [] [] s = tt
SettlesUpdates-exchange keeper access before after [] [] (c ∷ codes) s = absurd s
SettlesUpdates-exchange keeper access before after [] (b ∷ replies) codes s = absurd s
SettlesUpdates-exchange keeper access before after (m ∷ messages) [] codes s = absurd s
SettlesUpdates-exchange keeper access before after (m ∷ messages) (b ∷ replies) [] s = absurd s
SettlesUpdates-exchange keeper access before after (m ∷ messages) (b ∷ replies) (c ∷ codes) s =
    (s.1.update.short, SettlesUpdate-replies keeper access before m b c s.0 s.1, SettlesUpdates-exchange keeper access s.0 after messages replies codes s.2)

-- the exchange that the input has
held : (messages : List Message) (replies : List (List ℕ)) (codes more : List ℕ) → Exchanges messages replies codes → Answers messages codes (Some (frames_of replies ++ more)) (Some more) None None
held messages replies codes more done = record { replies = replies; answered = done; received = refl; sent = tt }

pub SettlesUpdates-codes : {K : Type 0} (keeper : KeeperOf K) (access : Access) (before after : SeenOf K) (messages : List Message) (replies : List (List ℕ)) (codes more given rest : List ℕ) (p q : Option (List ℕ))
    → SettlesUpdates keeper access before messages replies codes after → Answers messages given (Some (frames_of replies ++ more)) (Some rest) p q → given ≡ codes
SettlesUpdates-codes keeper access before after messages replies codes more given rest p q s answers =
    Answers-codes messages given codes (frames_of replies ++ more) rest more p q None None answers (held messages replies codes more (SettlesUpdates-exchange keeper access before after messages replies codes s))

pub SettlesUpdates-answered : {K : Type 0} (keeper : KeeperOf K) (access : Access) (before after : SeenOf K) (messages : List Message) (replies : List (List ℕ)) (codes more rest : List ℕ) (fault : SubmitFault) (p q : Option (List ℕ))
    → SettlesUpdates keeper access before messages replies codes after → StopsAt messages fault (Some (frames_of replies ++ more)) (Some rest) p q → IsDecided fault → ⊥
SettlesUpdates-answered keeper access before after messages replies codes more rest fault p q s stops decided =
    Answers-not messages codes (frames_of replies ++ more) more rest fault None None p q (held messages replies codes more (SettlesUpdates-exchange keeper access before after messages replies codes s)) stops decided

-- an update in its written form, from a safe source, is a request
request-made : (ask : Ask) (h : Header) → IsSafe ask.source → header_of ask.bytes ≡ Some h → h.qr ≡ false → request_of ask ≡ Some h
unfolding request_of
request-made ask h safe head asks = if-false (is_err (sanitized ask.source)) _ _ (ap (λ r. is_err r) safe) ∙ ap request_in head ∙ if-false h.qr _ _ asks

reply-there : (most : ℕ) (protocol : Protocol) (r : Reply) (told : Option (List ℕ)) → IsWritten most protocol (Some r) told → (bytes : List ℕ) × (told ≡ Some bytes)
reply-there most protocol r None written = absurd written
reply-there most protocol r (Some bytes) written = (bytes, refl)

owed-there : (grounds : Grounds) (access : Access) (ask : Ask) (h : Header) (decision : _) (told : Option (List ℕ)) → Decides grounds.zone access ask decision → request_of ask ≡ Some h
    → IsWritten access.payload ask.protocol (option_map (reply_of grounds) decision) told → (bytes : List ℕ) × (told ≡ Some bytes)
owed-there grounds access ask h _ told (silent none) asks written = absurd (let it : None ≡ Some h = sym none ∙ asks in cc)
owed-there grounds access ask h _ told (shut_out g e out question reads) asks written = reply-there access.payload ask.protocol _ told written
owed-there grounds access ask h _ told (malformed g e let_in none) asks written = reply-there access.payload ask.protocol _ told written
owed-there grounds access ask h _ told (read g e let_in n at) asks written = reply-there access.payload ask.protocol _ told written

-- it is owed a reply
pub Settles-replied : {K : Type 0} (keeper : KeeperOf K) (access : Access) (before after : SeenOf K) (m : Message) (ask : Ask) (settled : Settled)
    → IsUpdate m → m.header.qr ≡ false → ask.bytes ≡ message_bytes m → IsSafe ask.source → Settles keeper access before ask settled after → (bytes : List ℕ) × (settled.reply ≡ Some bytes)
Settles-replied keeper access before after m ask settled update asks asked safe s =
    let P : List ℕ → Type 0 = λ (l : List ℕ). MessageAt l (counted m) in
    let at : MessageAt ask.bytes (counted m) = subst P (sym asked) (message_alone m update.kept update.plain update.short.short) in
    owed-there (grounds_of before s.failed) access ask (counted m).header s.reply.decision settled.reply s.reply.decided (request-made ask (counted m).header safe at.header asks) s.reply.written
