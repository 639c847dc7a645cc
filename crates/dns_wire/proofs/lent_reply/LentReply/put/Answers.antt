use Rattle.std.proofs.Common.{Bool, if◌then◌else◌, append_assoc, ◌≡◌, ◌++◌, ◌-◌, List, ℕ, arith, length, [], ap, ◌∙◌}
use Rattle.std.specs.Int.{w16, to_be_bytes, from_be_bytes}
use Rattle.dns_wire.specs.declared.header.Header.{Header}
use Rattle.dns_wire.specs.declared.reply.Reply.{Reply}
use Rattle.dns_wire.specs.Edns.{opt_records}
use Rattle.dns_wire.specs.Header.{flag_bytes}
use Rattle.dns_wire.specs.WireFormat.{questions_bytes, records_bytes}
use Rattle.dns_wire.specs.Written.{question_list, reply_bytes, Written, sent_as}
use Rattle.dns_wire.proofs.Fitting.{written_made, length-reply_bytes, answers_written}
use Rattle.dns_wire.proofs.lent_reply.LentReply.put.Goals as goal

sent : (before reserved headed after bytes : List ℕ) (framed : Bool) (len : ℕ) → reserved ≡ before → headed ≡ reserved ++ (if framed then to_be_bytes w16 len else []) → after ≡ headed ++ bytes → len ≡ length bytes
    → after ≡ before ++ sent_as framed bytes
sent before reserved headed after bytes framed len same head body size =
    let length_is : (if framed then to_be_bytes w16 len else []) ≡ (if framed then to_be_bytes w16 (length bytes) else []) = ap (λ (k : ℕ). if framed then to_be_bytes w16 k else []) size in
    body ∙ ap (λ (b : List ℕ). b ++ bytes) (head ∙ ap (λ (b : List ℕ). b ++ (if framed then to_be_bytes w16 len else [])) same ∙ ap (λ (b : List ℕ). before ++ b) length_is)
    ∙ append_assoc before (if framed then to_be_bytes w16 (length bytes) else []) bytes

pub returns-clause-ok : goal.returns-clause-ok
returns-clause-ok c =
    let r : Reply = c.args.self.now in
    let n : ℕ = c.kept_in-kept.result.count in
    let bytes : List ℕ = reply_bytes r n in
    let written : Written r c.args.limit bytes = written_made r c.args.limit _ n
    (omega (
      arith,
      c.asked_len.ensures.is,
      c.opt_len.ensures.is,
      c.from-limit.ensures,
      c.requires,
      ap (λ (x : Reply). length (questions_bytes (question_list x.question))) c.self.view_is,
      ap (λ (x : Reply). length (records_bytes (opt_records x.edns))) c.self.view_is,
    ))
    c.kept_in-kept.ensures.fits in
    let size : c.from-limit.result - c.kept_in-kept.result.left ≡ length bytes =
    omega (
      arith,
      length-reply_bytes r n,
      c.kept_in-kept.ensures.left,
      c.asked_len.ensures.is,
      c.opt_len.ensures.is,
      c.from-limit.ensures,
      c.requires,
      ap (λ (x : Reply). length (questions_bytes (question_list x.question))) c.self.view_is,
      ap (λ (x : Reply). length (records_bytes (opt_records x.edns))) c.self.view_is,
    ) in
    record {
      bytes = bytes;
      written = written;
      is = sent _ _ _ _ bytes c.args.is_framed _ c.in_ok-reserve.ensures.items c.in_ok-put_len.ensures.ok c.in_ok-put_kept.ensures.ok size;
      length = size;
      flags = c.flag_word.ensures ∙ ap (λ (h : Header). from_be_bytes w16 (flag_bytes h)) (c.header_of-header.ensures n c.kept_in-kept.ensures.cut);
      answers = c.kept_in-kept.ensures.answers ∙ answers_written r _ (omega (arith, c.kept_in-kept.ensures.few, c.from-limit.ensures));
    }
