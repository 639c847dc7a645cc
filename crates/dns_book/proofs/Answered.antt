-- Replies that are written at the end of a buffer and counted: what was decided is carried out by them.
use Rattle.std.proofs.Common.{◌≡◌, ℕ, ◌≤◌, List, [], length, Option, Some, None, Bool, true, false, Result, Ok, Err, is_err, inl, refl, sym, ap, ◌∙◌, subst, arith}
use Rattle.dns_io.specs.declared.fault.OutOfMemory.{OutOfMemory}
use Rattle.dns_io.specs.declared.peer.Protocol.{Protocol}
use Rattle.dns_wire.specs.declared.edns.Edns.{Edns}
use Rattle.dns_wire.specs.declared.question.Question.{Question}
use Rattle.dns_wire.specs.declared.record.Record.{Record}
use Rattle.dns_wire.specs.declared.reply.Reply.{Reply}
use Rattle.dns_wire.specs.declared.lent_reply.Appended.{Appended}
use Rattle.dns_wire.specs.Standing.{word_at}
use Rattle.dns_wire.specs.Written.{Written, Appends}
use Rattle.dns_keeper.specs.Keeping.{KeeperOf}
use Rattle.dns_counts.specs.declared.asked.Replied.{Replied}
use Rattle.dns_counts.specs.Counters.{recorded}
use Rattle.dns_book.specs.declared.ask.Ask.{Ask}
use Rattle.dns_book.specs.declared.ask.Receipt.{Receipt}
use Rattle.dns_book.specs.declared.ask.SettledInto.{SettledInto}
use Rattle.dns_book.specs.declared.decision.Request.{Request}
use Rattle.dns_book.specs.declared.decision.Decision.{Decision}
use Rattle.dns_book.specs.Owed.{edns_for, limit_of, reply_to, reply_of, case_batch}
use Rattle.dns_book.specs.Counted.{counted_question, kinds_of, replied_of}
use Rattle.dns_book.specs.Book.{SeenOf, IsKept, Ends, idle, grounds_of}
use Rattle.dns_book.specs.Crash.{LeavesBy, LeavesSettled, LeavesOn}
use Rattle.dns_book.specs.Into.{SettlesInto}
use Rattle.dns_book.specs.Carrying.{replied_by, IsPut, CarriesOut, Carries}
use Rattle.dns_book.proofs.Carried.{left_by}
use Rattle.dns_book.proofs.Growing.{IsLeft-same}

-- what was told of a reply when it was written is what its bytes say
replied_same : (reply : Reply) (limit : ℕ) (framed : Bool) (before after : List ℕ) (told : Appended) → (a : Appends reply limit framed before after told) → replied_by reply told ≡ replied_of reply a.bytes
replied_same reply limit framed before after told a =
    ap (λ (flags : ℕ). record { code = reply.code; flags = flags; answers = kinds_of told.answers reply.answers }) a.flags
    ∙ ap (λ (n : ℕ). record { code = reply.code; flags = word_at a.bytes 2; answers = kinds_of n reply.answers }) a.answers

-- it was added to a buffer, and counted
pub appended_put : (request : Request) (question : Option (ℕ × ℕ)) (reply : Reply) (framed : Bool) (before after : List ℕ) (told : Appended) (old new : List (List ℕ))
    → Appends reply (limit_of request.payload request.protocol reply.edns) framed before after told → told.len ≤ 65535
    → new ≡ recorded (record { protocol = request.protocol; header = request.header; question = question }) (replied_by reply told) old
    → IsPut request question reply framed before after old new
appended_put request question reply framed before after told old new a short is = record {
  bytes = a.bytes;
  written = a.written;
  short = omega (arith, a.length, short);
  sent = a.is;
  counted =
      is
      ∙ ap (λ (r : Replied). recorded (record { protocol = request.protocol; header = request.header; question = question }) r old)
      (replied_same reply (limit_of request.payload request.protocol reply.edns) framed before after told a);
}

-- a message of which this was decided was carried out: so it ended, and then this reply to it was put at the end of a buffer, and counted
module _ {K : Type 0} (keeper : KeeperOf K) (before : SeenOf K) (ask : Ask) (d : Decision) (way : d.request.protocol ≡ ask.protocol) where
  pub put_carries : (fails : Bool) (receipt : Option Receipt) (batch : List Record) (ended after : SeenOf K) (question : Option (ℕ × ℕ)) (reply : Reply) (framed : Bool) (had has : List ℕ)
      → (counts : List (List ℕ)) (into : SettledInto) → question ≡ counted_question d.case → reply_of (grounds_of before fails) d ≡ reply
      → case_batch before.zone before.allow_update d.case ≡ batch → Ends keeper before ask batch fails receipt ended → LeavesSettled keeper before ask batch fails receipt after
      → IsPut d.request question reply framed had has ended.counts counts → after ≡ record ended { counts = counts }
      → into ≡ record { is_owed = true; length = ended.row_count; receipt = receipt }
      → SettlesInto (λ settled. CarriesOut keeper before ask d settled after) framed had has into
  put_carries fails receipt batch ended after question reply framed had has counts into asked is brings ends leaves p same told =
      let written : Written reply (limit_of d.request.payload ask.protocol reply.edns) p.bytes =
      subst (λ (w : Protocol). Written reply (limit_of d.request.payload w reply.edns) p.bytes) way p.written in
      let grounds = grounds_of before fails in
      let counted : counts ≡ recorded (record { protocol = d.request.protocol; header = d.request.header; question = counted_question d.case }) (replied_of (reply_of grounds d) p.bytes) ended.counts =
      p.counted
      ∙ ap (λ (q : Option (ℕ × ℕ)). recorded (record { protocol = d.request.protocol; header = d.request.header; question = q }) (replied_of reply p.bytes) ended.counts) asked
      ∙ ap (λ (r : Reply). recorded (record { protocol = d.request.protocol; header = d.request.header; question = counted_question d.case }) (replied_of r p.bytes) ended.counts) (sym is) in
      record {
        settled = record { reply = Some p.bytes; length = ended.row_count; receipt = receipt };
        is = record {
          failed = fails;
          bytes = p.bytes;
          reply = refl;
          written = subst (λ (r : Reply). Written r (limit_of d.request.payload ask.protocol r.edns) p.bytes) (sym is) written;
          ended = ended;
          ends = subst (λ (b : List Record). Ends keeper before ask b fails receipt ended) (sym brings) ends;
          counted = same ∙ ap (λ (cs : List (List ℕ)). record ended { counts = cs }) counted;
          length = ap (λ (b : SeenOf K). b.row_count) (sym same);
          leaves = subst (λ (b : List Record). LeavesSettled keeper before ask b fails receipt after) (sym brings) leaves;
        };
        sent = p.sent;
        short = p.short;
        told = told;
      }

  -- where it brings no records
  pub put_idle : (after : SeenOf K) (question : Option (ℕ × ℕ)) (reply : Reply) (framed : Bool) (had has : List ℕ) (counts : List (List ℕ)) (into : SettledInto) → question ≡ counted_question d.case
      → reply_of (grounds_of before false) d ≡ reply → case_batch before.zone before.allow_update d.case ≡ [] → IsPut d.request question reply framed had has before.counts counts
      → after ≡ record before { counts = counts } → into ≡ record { is_owed = true; length = before.row_count; receipt = None }
      → SettlesInto (λ settled. CarriesOut keeper before ask d settled after) framed had has into
  put_idle after question reply framed had has counts into asked is none p same told =
      put_carries false None [] before after question reply framed had has counts into asked is none (idle refl) (λ some now. subst (λ (b : SeenOf K). keeper.may_leave b.keeper some) same now) p same told

  -- where the records that it brings came to an append
  pub put_journalled : (fails : Bool) (receipt : Option Receipt) (batch : List Record) (ended after : SeenOf K) (reply : Reply) (framed : Bool) (had has : List ℕ) (counts : List (List ℕ)) (into : SettledInto)
      → counted_question d.case ≡ None → reply_of (grounds_of before fails) d ≡ reply → case_batch before.zone before.allow_update d.case ≡ batch
      → Ends keeper before ask batch fails receipt ended → LeavesBy keeper before ask batch receipt ended → IsPut d.request None reply framed had has ended.counts counts
      → after ≡ record ended { counts = counts } → into ≡ record { is_owed = true; length = ended.row_count; receipt = receipt }
      → SettlesInto (λ settled. CarriesOut keeper before ask d settled after) framed had has into
  put_journalled fails receipt batch ended after reply framed had has counts into asked is brings ends by p same told =
      put_carries fails receipt batch ended after None reply framed had has counts into (sym asked) is brings ends
      (subst (λ (b : SeenOf K). LeavesSettled keeper before ask batch fails receipt b) (sym same) (left_by keeper before ask batch fails receipt ended (record ended { counts = counts }) ends (by_same receipt by)))
      p same told
    where
      by_same : (r : Option Receipt) → LeavesBy keeper before ask batch r ended → LeavesBy keeper before ask batch r (record ended { counts = counts })
      by_same None l = l
      by_same (Some one) l = l

-- where no memory was found before anything was done
pub carries_none : {K : Type 0} (keeper : KeeperOf K) (before : SeenOf K) (ask : Ask) (d : Decision) (framed : Bool) (had has : List ℕ) (answer : Result SettledInto OutOfMemory) (after : SeenOf K)
    → is_err answer ≡ true → IsKept keeper before → after ≡ before → has ≡ had → Carries keeper before ask d framed had has answer after
carries_none keeper before ask d framed had has (Ok into) after fails kept same as_before = absurd cc
carries_none keeper before ask d framed had has (Err fault) after fails kept same as_before = subst (λ (b : SeenOf _). Carries keeper before ask d framed had has (Err fault) b) (sym same) (record {
  ok = tt;
  kept = kept;
  err = IsLeft-same keeper before;
  out = as_before;
  left = λ some now. inl now;
  left_on = λ on. on;
})

-- what settling a message told, by the book that it left and by the one before it was counted
told_before : {K : Type 0} (into : SettledInto) (receipt : Option Receipt) (counts : List (List ℕ)) (ended after : SeenOf K) → after ≡ record ended { counts = counts }
    → into ≡ record { is_owed = true; length = after.row_count; receipt = receipt } → into ≡ record { is_owed = true; length = ended.row_count; receipt = receipt }
told_before into receipt counts ended after same told = told ∙ ap (λ (b : SeenOf _). record { is_owed = true; length = b.row_count; receipt = receipt }) same

-- a message that brings no records was carried out: its reply was put at the end of a buffer, and counted
pub carries_idle : {K : Type 0} (keeper : KeeperOf K) (before : SeenOf K) (ask : Ask) (d : Decision) (framed : Bool) (had has : List ℕ) (after : SeenOf K)
    → IsKept keeper before → d.request.protocol ≡ ask.protocol → (question : Option (ℕ × ℕ)) (reply : Reply) (counts : List (List ℕ)) (into : SettledInto)
    → question ≡ counted_question d.case → reply_of (grounds_of before false) d ≡ reply → case_batch before.zone before.allow_update d.case ≡ []
    → IsPut d.request question reply framed had has before.counts counts → after ≡ record before { counts = counts }
    → into ≡ record { is_owed = true; length = after.row_count; receipt = None } → Carries keeper before ask d framed had has (Ok into) after
carries_idle keeper before ask d framed had has after kept way question reply counts into asked is none p same told = record {
  ok = put_idle keeper before ask d way after question reply framed had has counts into asked is none p same (told_before into None counts before after same told);
  kept = subst (IsKept keeper) (sym same) kept;
  err = tt;
  out = tt;
  left = tt;
  left_on = λ on. subst (LeavesOn keeper) (sym same) on;
}

-- an update whose records came to an append was carried out: so it ended, and then its reply was put at the end of a buffer, and counted
pub carries_journalled : {K : Type 0} (keeper : KeeperOf K) (before : SeenOf K) (ask : Ask) (d : Decision) (framed : Bool) (had has : List ℕ) (after : SeenOf K)
    → d.request.protocol ≡ ask.protocol → (fails : Bool) (receipt : Option Receipt) (batch : List Record) (ended : SeenOf K) (reply : Reply) (counts : List (List ℕ)) (into : SettledInto)
    → IsKept keeper ended → (LeavesOn keeper before → LeavesOn keeper ended) → counted_question d.case ≡ None → reply_of (grounds_of before fails) d ≡ reply
    → case_batch before.zone before.allow_update d.case ≡ batch → Ends keeper before ask batch fails receipt ended → LeavesBy keeper before ask batch receipt ended
    → IsPut d.request None reply framed had has ended.counts counts → after ≡ record ended { counts = counts }
    → into ≡ record { is_owed = true; length = after.row_count; receipt = receipt } → Carries keeper before ask d framed had has (Ok into) after
carries_journalled keeper before ask d framed had has after way fails receipt batch ended reply counts into kept goes asked is brings ends by p same told = record {
  ok = put_journalled keeper before ask d way fails receipt batch ended after reply framed had has counts into asked is brings ends by p same (told_before into receipt counts ended after same told);
  kept = subst (IsKept keeper) (sym same) kept;
  err = tt;
  out = tt;
  left = tt;
  left_on = λ on. subst (LeavesOn keeper) (sym same) (goes on);
}

-- a reply to an update that is a code alone is ServFail by its code alone
edns_same : (e : Option Edns) → edns_for 0 e ≡ edns_for 2 e
edns_same None = refl
edns_same (Some e) = refl

failed_same : (r : Request) (q : Option Question) → record (reply_to r 0 false q []) { code = 2 } ≡ reply_to r 2 false q []
failed_same r q = ap (λ (e : Option Edns). record (reply_to r 0 false q []) { code = 2; edns = e }) (edns_same r.edns)

-- so it is where it stands at the end of a buffer
pub failed_put : (request : Request) (q : Option Question) (done failed : Reply) (framed : Bool) (before first after : List ℕ) (told again : Appended) (old new : List (List ℕ))
    → done ≡ reply_to request 0 false q [] → failed ≡ reply_to request 2 false q [] → limit_of request.payload request.protocol done.edns ≤ 65535
    → Appends done (limit_of request.payload request.protocol done.edns) framed before first told
    → ((r : Reply) (limit : ℕ) (framed : Bool) (before : List ℕ) → Appends r limit framed before first told → Appends (record r { code = 2 }) limit framed before after again)
    → new ≡ recorded (record { protocol = request.protocol; header = request.header; question = None }) (replied_by failed again) old
    → IsPut request None failed framed before after old new
failed_put request q done failed framed before first after told again old new is fails short a step counted =
    let same : record done { code = 2 } ≡ failed = ap (λ (r : Reply). record r { code = 2 }) is ∙ failed_same request q ∙ sym fails in
    let b : Appends (record done { code = 2 }) (limit_of request.payload request.protocol done.edns) framed before after again = step done (limit_of request.payload request.protocol done.edns) framed before a in
    let fits : length b.bytes ≤ limit_of request.payload request.protocol done.edns = b.written.fits in
    let small : again.len ≤ 65535 = omega (arith, b.length, fits, short) in
    appended_put request None failed framed before after again old new
    (subst (λ (r : Reply). Appends r (limit_of request.payload request.protocol r.edns) framed before after again) same b) small counted
