-- A message is settled where what was decided of it is carried out, and a crash leaves no more than so.
use Rattle.std.proofs.Common.{◌≡◌, ℕ, ◌<◌, List, [], length, Option, Some, None, Bool, true, false, Result, Ok, Err, IfOk, inl, inr, refl, sym, ◌∙◌, subst, arith}
use Rattle.std.specs.Prelude.{OnErr}
use Rattle.std.proofs.lemmas.List.{append-nil}
use Rattle.dns_io.specs.declared.fault.OutOfMemory.{OutOfMemory}
use Rattle.dns_wire.specs.declared.message.Message.{Message}
use Rattle.dns_wire.specs.declared.record.Record.{Record}
use Rattle.dns_wire.specs.declared.reply.Reply.{Reply}
use Rattle.dns_wire.specs.Written.{Written}
use Rattle.dns_keeper.specs.Keeping.{KeeperOf}
use Rattle.dns_zone_map.specs.Zone.{Contents}
use Rattle.dns_update.specs.declared.verdict.Verdict.{Verdict}
use Rattle.dns_update.specs.declared.verdict.Verdict.TheVariants.{Fails, Passes}
use Rattle.dns_update.specs.Verdict.{verdict_of}
use Rattle.dns_book.specs.declared.ask.Ask.{Ask}
use Rattle.dns_book.specs.declared.ask.Receipt.{Receipt}
use Rattle.dns_book.specs.declared.ask.Settled.{Settled}
use Rattle.dns_book.specs.declared.ask.SettledInto.{SettledInto}
use Rattle.dns_book.specs.declared.decision.Request.{Request}
use Rattle.dns_book.specs.declared.decision.Case.{Case}
use Rattle.dns_book.specs.declared.decision.Case.TheVariants.{ShutOut, Malformed, UnsupportedVersion, NotImplemented, NotOneQuestion, Foreign, Query, Update}
use Rattle.dns_book.specs.declared.decision.Decision.{Decision}
use Rattle.dns_book.specs.Access.{Access}
use Rattle.dns_book.specs.Cases.{only_question, Decides}
use Rattle.dns_book.specs.Owed.{code_of, reply_to, case_reply, reply_of, passing_batch, case_batch, limit_of, IsWritten}
use Rattle.dns_book.specs.Counted.{counts_after}
use Rattle.dns_book.specs.Book.{SeenOf, IsKept, grounds_of, Ends, idle, journalled, failed, Settles}
use Rattle.dns_book.specs.Crash.{LeavesBatch, LeavesBy, LeavesSettled, SettlesLeaving, LeavesUnsettled, refused}
use Rattle.dns_book.specs.Into.{SettlesInto}
use Rattle.dns_book.specs.Carrying.{CarriesOut, Carries}
use Rattle.dns_book.proofs.Deciding.{decided_head}
use Rattle.dns_book.proofs.IntoBuffer.{into_ok}

-- the reply to an update that passes is ServFail where the journal fails, and else as without a fault
servfail_update : (zone : Contents) (request : Request) (m : Message) (verdict : Verdict) → 0 < length (passing_batch zone m verdict)
    → reply_to request (code_of true verdict) false (only_question m.questions) [] ≡ record (reply_to request (code_of false verdict) false (only_question m.questions) []) { code = 2 }
servfail_update zone request m (Fails code) some = absurd (omega (arith, some))
servfail_update zone request m Passes some = refl

pub servfail_case : (zone : Contents) (allow_update : Bool) (request : Request) (c : Case) → 0 < length (case_batch zone allow_update c)
    → case_reply (record { zone = zone; allow_update = allow_update; failed = true }) request c ≡ record (case_reply (record { zone = zone; allow_update = allow_update; failed = false }) request c) { code = 2 }
servfail_case zone allow_update request (ShutOut q) some = absurd (omega (arith, some))
servfail_case zone allow_update request Malformed some = absurd (omega (arith, some))
servfail_case zone allow_update request (UnsupportedVersion q) some = absurd (omega (arith, some))
servfail_case zone allow_update request (NotImplemented q) some = absurd (omega (arith, some))
servfail_case zone allow_update request NotOneQuestion some = absurd (omega (arith, some))
servfail_case zone allow_update request (Foreign q) some = absurd (omega (arith, some))
servfail_case zone allow_update request (Query q) some = absurd (omega (arith, some))
servfail_case zone allow_update request (Update m) some = servfail_update zone request m (verdict_of zone m allow_update) some

-- the keeper fails only where there is a batch
pub failed_some : {K : Type 0} (keeper : KeeperOf K) (before : SeenOf K) (ask : Ask) (batch : List Record) (fails : Bool) (receipt : Option Receipt) (ended : SeenOf K)
    → Ends keeper before ask batch fails receipt ended → fails ≡ true → 0 < length batch
failed_some keeper before ask batch _ _ _ (idle none) e = absurd cc
failed_some keeper before ask batch _ _ _ (journalled some held grown run later) e = some
failed_some keeper before ask batch _ _ _ (failed some held kept batches later rose) e = some

-- what is owed where the journal failed or not
abbrev pub owed_if : Contents → Bool → Decision → Bool → Reply
owed_if zone allow_update d fails = reply_of (record { zone = zone; allow_update = allow_update; failed = fails }) d

-- what may be left after an append, by how the message ended
pub left_by : {K : Type 0} (keeper : KeeperOf K) (before : SeenOf K) (ask : Ask) (batch : List Record) (fails : Bool) (receipt : Option Receipt) (ended after : SeenOf K)
    → Ends keeper before ask batch fails receipt ended → LeavesBy keeper before ask batch receipt after → LeavesSettled keeper before ask batch fails receipt after
left_by keeper before ask batch _ _ _ after (idle none) by = λ some now. elim (by some now) [
  | inl was ↦ was
  | inr grown ↦ absurd (omega (arith, none, grown.0))
]
left_by keeper before ask batch _ _ _ after (journalled more held grew run later) by = by
left_by keeper before ask batch _ _ _ after (failed more held kept batches later rose) by = by

err_map : {T E : Type 0} (answer : Result T E) (P Q : Type 0) → (P → Q) → OnErr answer P → OnErr answer Q
err_map (Ok t) P Q step p = tt
err_map (Err e) P Q step p = step p

-- what was decided of a message was carried out
module _ {K : Type 0} (keeper : KeeperOf K) (access : Access) (before : SeenOf K) (ask : Ask) (d : Decision) (after : SeenOf K) (stood : IsKept keeper before) (kept : IsKept keeper after)
    (decided : Decides before.zone access ask (Some d)) where
  pub SettlesLeaving-carried : (settled : Settled) → CarriesOut keeper before ask d settled after → SettlesLeaving keeper access before ask settled after
  SettlesLeaving-carried settled done = record {
    settles = record {
      stood = stood;
      failed = done.failed;
      reply = record {
        decision = Some d;
        decided = decided;
        written = subst (λ (b : Option (List ℕ)). IsWritten access.payload ask.protocol (Some (reply_of (grounds_of before done.failed) d)) b) (sym done.reply)
            (subst (λ (n : ℕ). Written (reply_of (grounds_of before done.failed) d) (limit_of n ask.protocol (reply_of (grounds_of before done.failed) d).edns) done.bytes)
            (decided_head before.zone access ask (Some d) decided).3 done.written);
      };
      ended = done.ended;
      ends = done.ends;
      counted =
          subst (λ (b : Option (List ℕ)). after ≡ record done.ended { counts = counts_after (grounds_of before done.failed) (Some d) b done.ended.counts }) (sym done.reply) done.counted;
      length = done.length;
      kept = kept;
    };
    leaves = done.leaves;
  }

  -- so it is where its reply went into a buffer, and where no memory was found
  pub carried_left : (framed : Bool) (had has : List ℕ) (answer : Result SettledInto OutOfMemory) → Carries keeper before ask d framed had has answer after
      → IfOk answer (SettlesInto (λ settled. SettlesLeaving keeper access before ask settled after) framed had has)
  carried_left framed had has answer c =
      into_ok (λ settled. CarriesOut keeper before ask d settled after) (λ settled. SettlesLeaving keeper access before ask settled after) framed had has answer SettlesLeaving-carried c.ok

  pub carried_ok : (framed : Bool) (had has : List ℕ) (answer : Result SettledInto OutOfMemory) → Carries keeper before ask d framed had has answer after
      → IfOk answer (SettlesInto (λ settled. Settles keeper access before ask settled after) framed had has)
  carried_ok framed had has answer c =
      into_ok (λ settled. SettlesLeaving keeper access before ask settled after) (λ settled. Settles keeper access before ask settled after) framed had has answer (λ settled is. is.settles)
      (carried_left framed had has answer c)

  pub carried_unsettled : (framed : Bool) (had has : List ℕ) (answer : Result SettledInto OutOfMemory) → Carries keeper before ask d framed had has answer after
      → OnErr answer (LeavesUnsettled keeper access before ask after)
  carried_unsettled framed had has answer c =
      err_map answer (LeavesBatch keeper before ask (case_batch before.zone before.allow_update d.case) after) (LeavesUnsettled keeper access before ask after)
      (λ by. refused (Some d) decided by) c.left

-- a message that is owed no reply changes nothing, and adds nothing to a buffer
pub silent_left : {K : Type 0} (keeper : KeeperOf K) (access : Access) (book : SeenOf K) (ask : Ask) (framed : Bool) (had has : List ℕ) (into : SettledInto) → IsKept keeper book
    → Decides book.zone access ask None → has ≡ had → into ≡ record { is_owed = false; length = book.row_count; receipt = None }
    → SettlesInto (λ settled. SettlesLeaving keeper access book ask settled book) framed had has into
silent_left keeper access book ask framed had has into stood decided same told = record {
  settled = record { reply = None; length = book.row_count; receipt = None };
  is = record {
    settles = record {
      stood = stood;
      failed = false;
      reply = record { decision = None; decided = decided; written = tt };
      ended = book;
      ends = idle refl;
      counted = refl;
      length = refl;
      kept = stood;
    };
    leaves = λ some now. now;
  };
  sent = same ∙ sym (append-nil had);
  short = tt;
  told = told;
}
