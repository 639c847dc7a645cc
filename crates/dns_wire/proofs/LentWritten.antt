-- A reply whose records are lent, written part by part.
use Rattle.std.proofs.Common.{◌≡◌, ℕ, ◌+◌, ◌-◌, ◌≤◌, List, [], ◌++◌, length, take, min, refl, sym, ap, ◌∙◌, subst, arith, length-append, append_assoc, Option, Result, Ok, Err}
use Rattle.std.specs.Int.{w16, to_be_bytes}
use Rattle.std.specs.Result.{OnOk}
use Rattle.std.proofs.lemmas.List.{length-take}
use Rattle.std.proofs.lemmas.List.Concat.{flat_map-append}
use Rattle.dns_wire.specs.declared.record.Record.{Record}
use Rattle.dns_wire.specs.declared.question.Question.{Question}
use Rattle.dns_wire.specs.declared.reply.Reply.{Reply}
use Rattle.dns_wire.specs.declared.message.Message.{Message}
use Rattle.dns_wire.specs.declared.edns.Edns.{Edns}
use Rattle.dns_wire.specs.declared.header.Header.{Header}
use Rattle.dns_wire.specs.Edns.{opt_records}
use Rattle.dns_wire.specs.Header.{flag_bytes}
use Rattle.dns_wire.specs.MessageBytes.{message_bytes}
use Rattle.dns_wire.specs.WireFormat.{record_bytes, records_bytes, questions_bytes}
use Rattle.dns_wire.specs.Written.{all_of, question_list, reply_header, shortened, reply_bytes}
use Rattle.dns_wire.proofs.Fitting.{first_of}
use Rattle.dns_wire.proofs.Putting.{message_put}

-- how many records of each section of a reply are kept, where its first n are
pub record AreKept (r : Reply) (n x y z : ℕ) : Type 0 where
  pub within : n ≤ length (all_of r)
  pub answers : x ≡ min n (length r.answers)
  pub authority : y ≡ min (n - length r.answers) (length r.authority)
  pub additional : z ≡ n - length r.answers - length r.authority

-- the message that a reply is, with so many records of each section
abbrev made_of : Reply → ℕ → ℕ → ℕ → ℕ → Message
made_of r n x y z = record {
  header = reply_header r n;
  questions = question_list r.question;
  answers = take x r.answers;
  authority = take y r.authority;
  additional = take z r.additional;
  edns = r.edns;
}

shortened_is : (r : Reply) (n x y z : ℕ) → AreKept r n x y z → shortened r n ≡ made_of r n x y z
shortened_is r n x y z k =
    let a : take n r.answers ≡ take x r.answers = sym (ap (λ (i : ℕ). take i r.answers) k.answers ∙ first_of n r.answers) in
    let b : take (n - length r.answers) r.authority ≡ take y r.authority = sym (ap (λ (i : ℕ). take i r.authority) k.authority ∙ first_of (n - length r.answers) r.authority) in
    let d : take (n - length r.answers - length r.authority) r.additional ≡ take z r.additional = ap (λ (i : ℕ). take i r.additional) (sym k.additional) in
    rw (a, b, d) refl

-- how many records are written of each section
sizes : (r : Reply) (n x y z : ℕ) → AreKept r n x y z
    → (length (take x r.answers) ≡ x) × (length (take y r.authority) ≡ y) × (length (take z r.additional ++ opt_records r.edns) ≡ z + length (opt_records r.edns))
sizes r n x y z k = (
  omega (arith, length-take x r.answers, k.answers),
  omega (arith, length-take y r.authority, k.authority),
  omega (arith, length-append (take z r.additional) (opt_records r.edns), length-take z r.additional, k.additional, k.within, length-append r.answers (r.authority ++ r.additional), length-append r.authority r.additional),
)

-- the OPT behind the other records of its section
extra : {T E : Type 0} (res : Result T E) (e f new : List ℕ) (rs opts : List Record) → f ≡ e ++ records_bytes rs → OnOk res (new ≡ f ++ records_bytes ([] ++ opts)) → OnOk res (new ≡ e ++ records_bytes (rs ++ opts))
extra (Ok t) e f new rs opts hf last = last ∙ rw (hf, flat_map-append record_bytes rs opts) (append_assoc e (records_bytes rs) (records_bytes opts))
extra (Err t) e f new rs opts hf last = tt

-- header, counts, question, the three sections and the OPT, all said of the reply
parts_put : {T E : Type 0} (res : Result T E) (out b c d e f new : List ℕ) (r : Reply) (n k x y z m : ℕ) → AreKept r n x y z
    → k ≡ length (question_list r.question) → m ≡ z + length (opt_records r.edns)
    → b ≡ out ++ ((to_be_bytes w16 r.id ++ flag_bytes (reply_header r n)) ++ (to_be_bytes w16 k ++ (to_be_bytes w16 x ++ (to_be_bytes w16 y ++ to_be_bytes w16 m))))
    → c ≡ b ++ questions_bytes (question_list r.question) → d ≡ c ++ records_bytes (take x r.answers) → e ≡ d ++ records_bytes (take y r.authority)
    → f ≡ e ++ records_bytes (take z r.additional)
    → OnOk res (new ≡ f ++ records_bytes ([] ++ opt_records r.edns)) → OnOk res (new ≡ out ++ reply_bytes r n)
parts_put res out b c d e f new r n k x y z m kept ke me hb hc hd he hf last =
    let s = sizes r n x y z kept in
    rw (ap message_bytes (shortened_is r n x y z kept), s.0, s.1, s.2, ← ke, ← me)
    (message_put res out b c d e new _ _ _ _ _ hb hc hd he (extra res e f new (take z r.additional) (opt_records r.edns) hf last))

-- the same, where what is written is known to be what the reply has
pub lent_put : {T E : Type 0} (res : Result T E) (out b c d e f new : List ℕ) (r : Reply) (header : Header) (asked : Option Question) (answers authority additional : List Record) (edns : Option Edns)
    (n k x y z m : ℕ) → AreKept r n x y z → header ≡ reply_header r n → asked ≡ r.question → answers ≡ r.answers → authority ≡ r.authority → additional ≡ r.additional → edns ≡ r.edns
    → k ≡ length (question_list asked) → m ≡ z + length (opt_records edns)
    → b ≡ out ++ ((to_be_bytes w16 header.id ++ flag_bytes header) ++ (to_be_bytes w16 k ++ (to_be_bytes w16 x ++ (to_be_bytes w16 y ++ to_be_bytes w16 m))))
    → c ≡ b ++ questions_bytes (question_list asked) → d ≡ c ++ records_bytes (take x answers) → e ≡ d ++ records_bytes (take y authority) → f ≡ e ++ records_bytes (take z additional)
    → OnOk res (new ≡ f ++ records_bytes ([] ++ opt_records edns)) → OnOk res (new ≡ out ++ reply_bytes r n)
lent_put res out b c d e f new r header asked answers authority additional edns n k x y z m kept hh hq hx hy hz ho ke me hb hc hd he hf last =
    parts_put res out b c d e f new r n k x y z m kept (ke ∙ ap (λ (q : Option Question). length (question_list q)) hq)
    (me ∙ ap (λ (one : Option Edns). z + length (opt_records one)) ho)
    (hb ∙ ap (λ (h : Header). out ++ ((to_be_bytes w16 h.id ++ flag_bytes h) ++ (to_be_bytes w16 k ++ (to_be_bytes w16 x ++ (to_be_bytes w16 y ++ to_be_bytes w16 m))))) hh)
    (hc ∙ ap (λ (q : Option Question). b ++ questions_bytes (question_list q)) hq)
    (hd ∙ ap (λ (rs : List Record). c ++ records_bytes (take x rs)) hx) (he ∙ ap (λ (rs : List Record). d ++ records_bytes (take y rs)) hy)
    (hf ∙ ap (λ (rs : List Record). e ++ records_bytes (take z rs)) hz)
    (subst (λ (one : Option Edns). OnOk res (new ≡ f ++ records_bytes ([] ++ opt_records one))) ho last)
