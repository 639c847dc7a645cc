-- A reply that was written, given another code.
use Rattle.std.proofs.Common.{◌≡◌, ℕ, ◌+◌, ◌-◌, ◌*◌, ◌/◌, ◌%◌, ◌<◌, List, [], ◌++◌, length, get_or, set, refl, sym, ap, ◌∙◌, arith, length-append, append_assoc, Bool, if◌then◌else◌}
use Rattle.std.specs.Int.{w16, to_be_bytes}
use Rattle.std.proofs.lemmas.List.{get_or-append-add, set-append_right}
use Rattle.dns_wire.specs.declared.reply.Reply.{Reply}
use Rattle.dns_wire.specs.declared.lent_reply.Appended.{Appended}
use Rattle.dns_wire.specs.Header.{unit}
use Rattle.dns_wire.specs.Standing.{word_at}
use Rattle.dns_wire.specs.Written.{reply_bytes, sent_as, Appends}
use Rattle.dns_wire.proofs.Fitting.{length-reply_bytes}
use Rattle.dns_wire.proofs.Heads.{unit_small}

-- the byte of RA, AD, CD and the code
abbrev low_byte : Bool → ℕ → ℕ
low_byte cd code = 128 * 0 + 32 * 0 + 16 * unit cd + code % 16 % 16

low_recoded : (cd : Bool) (code d : ℕ) → d < 16 → low_byte cd code / 16 * 16 + d ≡ low_byte cd d
low_recoded cd code d small = omega (arith, unit_small cd)

-- with another code
abbrev recoded : Reply → ℕ → Reply
recoded r d = record r { code = d }

set_code : (r : Reply) (n d x : ℕ) → d < 16 → x ≡ low_byte r.cd r.code → set (reply_bytes r n) 3 (x / 16 * 16 + d) ≡ reply_bytes (recoded r d) n
set_code r n d x small is = ap (λ (b : ℕ). set (reply_bytes r n) 3 b) (ap (λ (b : ℕ). b / 16 * 16 + d) is ∙ low_recoded r.cd r.code d small)

same_size : (r : Reply) (n d : ℕ) → length (reply_bytes (recoded r d) n) ≡ length (reply_bytes r n)
same_size r n d = length-reply_bytes (recoded r d) n ∙ sym (length-reply_bytes r n)

word_recoded : (high low new d : ℕ) → new ≡ low / 16 * 16 + d → high * 256 + new ≡ (high * 256 + low) / 16 * 16 + d
word_recoded high low new d is = omega (arith, is)

flags_recoded : (r : Reply) (n d : ℕ) → d < 16 → word_at (reply_bytes (recoded r d) n) 2 ≡ word_at (reply_bytes r n) 2 / 16 * 16 + d
flags_recoded r n d small = word_recoded (get_or (reply_bytes r n) 2 0) (low_byte r.cd r.code) (low_byte r.cd d) d (sym (low_recoded r.cd r.code d small))

-- a reply at the end of a buffer, of which the fourth byte is written anew
pub recode : (r : Reply) (limit : ℕ) (framed : Bool) (before after : List ℕ) (told : Appended) (d place x : ℕ) → d < 16 → Appends r limit framed before after told
    → place ≡ length after - told.len + 3 → x ≡ get_or after place x
    → Appends (recoded r d) limit framed before (set after place (x / 16 * 16 + d)) (record { len = told.len; flags = told.flags / 16 * 16 + d; answers = told.answers })
recode r limit framed before after told d place x small a p e =
    let n : ℕ = a.written.kept in
    let bytes : List ℕ = reply_bytes r n in
    let made : List ℕ = reply_bytes (recoded r d) n in
    let prefix : List ℕ = if framed then to_be_bytes w16 (length bytes) else [] in
    let front : List ℕ = before ++ prefix in
    let size : length a.bytes ≡ length bytes = ap length a.written.is in
    let whole : after ≡ front ++ bytes = a.is ∙ ap (λ (b : List ℕ). before ++ sent_as framed b) a.written.is ∙ sym (append_assoc before prefix bytes) in
    let at : place ≡ length front + 3 = omega (arith, p, ap length whole, length-append front bytes, a.length, size) in
    let byte : x ≡ low_byte r.cd r.code = e ∙ ap (λ (i : ℕ). get_or after i x) at ∙ ap (λ (b : List ℕ). get_or b (length front + 3) x) whole ∙ get_or-append-add front bytes 3 x in
    let third : length front + 3 - length front ≡ 3 = omega arith in
    let written : set after place (x / 16 * 16 + d) ≡ front ++ made =
    ap (λ (i : ℕ). set after i (x / 16 * 16 + d)) at ∙ ap (λ (b : List ℕ). set b (length front + 3) (x / 16 * 16 + d)) whole
    ∙ set-append_right front bytes (length front) (length front + 3) (x / 16 * 16 + d) refl (omega arith)
    ∙ ap (λ (i : ℕ). front ++ set bytes i (x / 16 * 16 + d)) third ∙ ap (λ (b : List ℕ). front ++ b) (set_code r n d x small byte) in
    record {
      bytes = made;
      written = record {
        kept = n;
        within = a.written.within;
        is = refl;
        fits = omega (arith, same_size r n d, size, a.written.fits);
        longest = λ k w l. a.written.longest k w (omega (arith, same_size r k d, l));
      };
      is = written ∙ append_assoc before prefix made ∙ ap (λ (k : ℕ). before ++ ((if framed then to_be_bytes w16 k else []) ++ made)) (sym (same_size r n d));
      length = a.length ∙ size ∙ sym (same_size r n d);
      flags = ap (λ (w : ℕ). w / 16 * 16 + d) (a.flags ∙ ap (λ (b : List ℕ). word_at b 2) a.written.is) ∙ sym (flags_recoded r n d small);
      answers = a.answers ∙ ap (λ (b : List ℕ). word_at b 6) a.written.is;
    }
