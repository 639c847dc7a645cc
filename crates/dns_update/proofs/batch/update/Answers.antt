use Rattle.std.proofs.Common.{vec_len, ◌≡◌, ◌∙◌, sym, ap, subst, arith, List}
use Rattle.std.specs.Prelude.{length}
use Rattle.std.specs.List.{AllByRecursion}
use Rattle.std.proofs.lemmas.List.{append-nil}
use Rattle.dns_wire.specs.declared.record.Record.{Record}
use Rattle.dns_zone_map.specs.Mapped.{contents}
use Rattle.dns_zone_map.specs.Zone.{serial_of}
use Rattle.dns_update.specs.Change.{batch_of, serial_after_batch}
use Rattle.dns_update.specs.Replay.{IsJournalledAsIs}
use Rattle.dns_update.proofs.Batches.{batch_journalled}
use Rattle.dns_update.proofs.HalfDone.{zone_serial, short_journalled}
use Rattle.dns_update.proofs.batch.update.Goals as goal

pub returns-clause-zone : goal.returns-clause-zone
returns-clause-zone c =
    zone_serial c.gathered.new.map.origin c.set_serial.new.map.origin c.gathered.new.map.records c.set_serial.new.map.records c.serial_behind-serial.result c.in_ok-work.ensures.done.zone c.set_serial.ensures.origin
    c.in_ok-set_serial.ensures.records

pub returns-clause-journalled : goal.returns-clause-journalled
returns-clause-journalled c =
    let z = contents c.args.map.now in
    let is : c.from_vec.result ≡ batch_of z.origin z.records c.args.updates.now = c.from_vec.ensures ∙ sym (append-nil c.in_ok-work.work.records.items) ∙ c.in_ok-work.ensures.done.whole in
    subst (λ (l : List Record). AllByRecursion (IsJournalledAsIs z.origin) l) (sym is) (batch_journalled z.origin z.records c.args.updates.now c.requires.back c.requires.passes)

pub returns-clause-serial : goal.returns-clause-serial
returns-clause-serial c =
    let z = contents c.args.map.now in
    let batch = c.in_ok-work.work.records.items in
    let is : batch ≡ batch_of z.origin z.records c.args.updates.now = sym (append-nil batch) ∙ c.in_ok-work.ensures.done.whole in
    let size : vec_len c.in_ok-work.work.records ≡ length batch = omega (arith, c.in_ok-work.work.records.ok.0) in
    c.serial_behind-serial.ensures z batch (c.len.ensures ∙ size) (c.serial.ensures ∙ ap serial_of c.in_ok-work.ensures.done.made) ∙ ap (serial_after_batch z.origin z.records) is

pub returns-clause-short : goal.returns-clause-short
returns-clause-short c = short_journalled c.args.map.now.origin c.from_vec.result (returns-clause-journalled c)
