-- How what was decided of a message is carried out: its reply, the batch that it brings, the counts.
use Rattle.std.specs.Prelude.{◌≡◌, ℕ, ◌≤◌, List, ◌++◌, length, Option, Some, None, Bool, true, false, Result, Ok, Err, IfOk, OnErr}
use Rattle.std.specs.List.{AllByRecursion}
use Rattle.dns_io.specs.declared.fault.OutOfMemory.{OutOfMemory}
use Rattle.dns_wire.specs.declared.record.Record.{Record}
use Rattle.dns_wire.specs.declared.reply.Reply.{Reply}
use Rattle.dns_wire.specs.declared.lent_reply.Appended.{Appended}
use Rattle.dns_wire.specs.ReadBack.{ReadsBack}
use Rattle.dns_wire.specs.Written.{Written, sent_as}
use Rattle.dns_keeper.specs.declared.keeper.KeepFault.{KeepFault}
use Rattle.dns_keeper.specs.declared.keeper.KeepFault.TheVariants as keep
use Rattle.dns_keeper.specs.Keeping.{KeeperOf}
use Rattle.dns_zone_map.specs.Zone.{Contents}
use Rattle.dns_update.specs.declared.verdict.Verdict.TheVariants.{Passes}
use Rattle.dns_update.specs.Verdict.{prescan}
use Rattle.dns_counts.specs.declared.asked.Replied.{Replied}
use Rattle.dns_counts.specs.Counters.{recorded}
use Rattle.dns_book.specs.declared.ask.Ask.{Ask}
use Rattle.dns_book.specs.declared.ask.Receipt.{Receipt}
use Rattle.dns_book.specs.declared.ask.Settled.{Settled}
use Rattle.dns_book.specs.declared.ask.SettledInto.{SettledInto}
use Rattle.dns_book.specs.declared.decision.Request.{Request}
use Rattle.dns_book.specs.declared.decision.Decision.{Decision}
use Rattle.dns_book.specs.Owed.{limit_of, reply_of, case_batch}
use Rattle.dns_book.specs.Counted.{asked_of, kinds_of, replied_of}
use Rattle.dns_book.specs.Book.{SeenOf, IsKept, IsLeft, Ends, grounds_of}
use Rattle.dns_book.specs.Crash.{LeavesBatch, LeavesSettled, LeavesOn}
use Rattle.dns_book.specs.Into.{SettlesInto}

-- update records of a message that pass the prescan of this zone
pub record IsPassing (zone : Contents) (updates : List Record) : Type 0 where
  pub passes : prescan zone.origin updates ≡ Passes
  pub back : AllByRecursion ReadsBack updates

-- what the counters are told of a reply, of which this was told when it was written
abbrev pub replied_by : Reply → Appended → Replied
replied_by reply appended = record { code = reply.code; flags = appended.flags; answers = kinds_of appended.answers reply.answers }

-- a reply to such a request was added to what a buffer had, and counted with its message
pub record IsPut (request : Request) (question : Option (ℕ × ℕ)) (reply : Reply) (framed : Bool) (before after : List ℕ)
    (old new : List (List ℕ)) : Type 0 where
  pub bytes : List ℕ
  pub written : Written reply (limit_of request.payload request.protocol reply.edns) bytes
  pub short : length bytes ≤ 65535
  pub sent : after ≡ before ++ sent_as framed bytes
  pub counted : new ≡ recorded (record {
    protocol = request.protocol;
    header = request.header;
    question = question;
  }) (replied_of reply bytes) old

-- an update ended so: its batch came into the journal and the zone, or it had none, or the keeper failed, or memory ran out
abbrev pub Journals : {K : Type 0} → KeeperOf K → SeenOf K → Ask → List Record → Result (Option Receipt) KeepFault → SeenOf K → Type 0
Journals keeper before ask batch (Ok receipt) after = Ends keeper before ask batch false receipt after
Journals keeper before ask batch (Err keep.Failed) after = Ends keeper before ask batch true None after
Journals keeper before ask batch (Err keep.OutOfMemory) after = IsLeft keeper before after

-- what was decided of a message was carried out: its reply is what it is owed, the records that it brings came into the journal and the zone
-- or into neither, it was counted, and a crash then leaves no more than so
pub record CarriesOut {K : Type 0} (keeper : KeeperOf K) (before : SeenOf K) (ask : Ask) (d : Decision) (settled : Settled)
    (after : SeenOf K) : Type 0 where
  pub failed : Bool
  pub bytes : List ℕ
  pub reply : settled.reply ≡ Some bytes
  pub written : Written (reply_of (grounds_of before failed) d)
      (limit_of d.request.payload ask.protocol (reply_of (grounds_of before failed) d).edns) bytes
  pub ended : SeenOf K
  pub ends : Ends keeper before ask (case_batch before.zone before.allow_update d.case) failed settled.receipt ended
  pub counted : after ≡ record ended {
    counts = recorded (asked_of d)
        (replied_of (reply_of (grounds_of before failed) d) bytes) ended.counts;
  }
  pub length : settled.length ≡ after.row_count
  pub leaves : LeavesSettled keeper before ask (case_batch before.zone before.allow_update d.case) failed settled.receipt after

-- so it was, with its reply at the end of a buffer, or no memory was found: then nothing has changed but what the keeper does not tell, and the
-- buffer has what it had
pub record Carries {K : Type 0} (keeper : KeeperOf K) (before : SeenOf K) (ask : Ask) (d : Decision) (framed : Bool)
    (had has : List ℕ) (answer : Result SettledInto OutOfMemory)
    (after : SeenOf K) : Type 0 where
  pub ok : IfOk answer (SettlesInto (λ settled. CarriesOut keeper before ask d settled after) framed had has)
  pub kept : IsKept keeper after
  pub err : OnErr answer (IsLeft keeper before after)
  pub out : OnErr answer (has ≡ had)
  pub left : OnErr answer (LeavesBatch keeper before ask (case_batch before.zone before.allow_update d.case) after)
  pub left_on : LeavesOn keeper before → LeavesOn keeper after
