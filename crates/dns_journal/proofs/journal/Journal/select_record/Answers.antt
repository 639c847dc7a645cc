use Rattle.std.proofs.Common.{w64}
use Rattle.std.proofs.lemmas.Int.{to_z-of_z}
use Rattle.dns_journal.proofs.Selecting.{selects_none, selects_row, selects_failed, selects_wants}
use Rattle.dns_journal.proofs.journal.Journal.select_record.Goals as goal
use Rattle.dns_journal.proofs.journal.Journal.select_record.Goals.{in-Ok-None, in-Ok-Some, in-Err-Failed, in-Err-OutOfMemory}

pub returns : goal.returns
returns g c = record {
  selected =
      let old = c.args.self.now in
      let new = c.row_from.new.self in
      let id = c.args.row_id in
      elim c.match-row_from.branch [
        | in-Ok-None w ↦
            let e = rw (to_z-of_z w64 c.args.row_id c.ranges.row_id, w.in-Ok-None.field-0-is) at w.in-Ok-None.ensures in
            rw w.result-is (selects_none g.S.Store old new id e.stays e.read.found e.shown e.other e.read.cause)
        | in-Ok-Some w ↦
            let e = rw (to_z-of_z w64 c.args.row_id c.ranges.row_id, w.in-Ok-Some.field-0-is) at w.in-Ok-Some.ensures in
            rw w.result-is (selects_row g.S.Store old new id e.stays w.in-Ok-Some.row e.read.found e.shown e.other e.read.cause w.found.result w.found.ensures.ok w.found.ensures.fits w.found.ensures.err)
        | in-Err-Failed w ↦
            let e = rw w.in-Err-Failed.field-0-is at w.in-Err-Failed.ensures in
            rw w.result-is (selects_failed g.S.Store old new id e.stays e.other e.read.cause)
        | in-Err-OutOfMemory w ↦
            let e = rw w.in-Err-OutOfMemory.field-0-is at w.in-Err-OutOfMemory.ensures in
            rw w.result-is (selects_wants g.S.Store old new id e.stays e.other e.read.cause)
      ];
}
