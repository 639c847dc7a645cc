use Rattle.std.proofs.Common.{Some, None, refl, sym, ap, ◌∙◌, map, string_bytes}
use Rattle.dns_io.proofs.ToldContents.{Keeps-same}
use Rattle.dns_edges.specs.Edges.{around}
use Rattle.dns_keeper.proofs.KeptBatches.{keeps_batches_same}
use Rattle.dns_audit.proofs.Endings.{tells_zone, tells_batches, tells_compacted, tells_usage, tells_wanting}
use Rattle.dns_audit.proofs.Compacted.{leaves_into, leaves_unused}
use Rattle.dns_audit.proofs.auditing.audit.Goals as goal

-- a zone was asked for
pub returns-in-Ok-Some-PrintZone-clause-ends : goal.returns-in-Ok-Some-PrintZone-clause-ends
returns-in-Ok-Some-PrintZone-clause-ends g c =
    let told = g.K.Keeper.keeper.told in
    let other = g.L.Keeper.keeper.told in
    let legal = rw c.as_slice.ensures.value at (sym c.in-Ok-Some-PrintZone.ensures ∙ c.in-Ok-Some-PrintZone.field-0-is ∙ ap Some c.in-Ok-Some-PrintZone.field-0-0-is) in (
      None,
      refl,
      tells_zone g.W.Sink.sink c.args.out.now c.print_zone.new.out (map string_bytes c.args.words.now.items) (around told c.args.keeper.now c.print_zone.new.keeper)
          (around other c.args.into.now c.args.into.now) None c.in-Ok-Some-PrintZone.origin c.in-Ok-Some-PrintZone.length c.print_zone.result legal
          (record { into = refl; unasked = refl }) c.print_zone.ensures.kept c.print_zone.ensures.batches c.print_zone.ensures.ends,
    )

pub returns-in-Ok-Some-PrintZone-clause-left_into : goal.returns-in-Ok-Some-PrintZone-clause-left_into
returns-in-Ok-Some-PrintZone-clause-left_into g c = leaves_unused _ _ _ _ _

-- the batches were
pub returns-in-Ok-Some-ListBatches-clause-ends : goal.returns-in-Ok-Some-ListBatches-clause-ends
returns-in-Ok-Some-ListBatches-clause-ends g c =
    let told = g.K.Keeper.keeper.told in
    let other = g.L.Keeper.keeper.told in
    let legal = rw c.as_slice.ensures.value at (sym c.in-Ok-Some-ListBatches.ensures ∙ c.in-Ok-Some-ListBatches.field-0-is ∙ ap Some c.in-Ok-Some-ListBatches.field-0-0-is) in (
      None,
      refl,
      tells_batches g.W.Sink.sink c.args.out.now c.print_batches.new.out (map string_bytes c.args.words.now.items) (around told c.args.keeper.now c.print_batches.new.keeper)
          (around other c.args.into.now c.args.into.now) None c.in-Ok-Some-ListBatches.origin c.print_batches.result legal
          (record { into = refl; unasked = refl }) c.print_batches.ensures.kept c.print_batches.ensures.batches c.print_batches.ensures.ends,
    )

pub returns-in-Ok-Some-ListBatches-clause-left_into : goal.returns-in-Ok-Some-ListBatches-clause-left_into
returns-in-Ok-Some-ListBatches-clause-left_into g c = leaves_unused _ _ _ _ _

-- another journal was
pub returns-in-Ok-Some-Compact-clause-ends : goal.returns-in-Ok-Some-Compact-clause-ends
returns-in-Ok-Some-Compact-clause-ends g c =
    let told = g.K.Keeper.keeper.told in
    let other = g.L.Keeper.keeper.told in
    let legal = rw c.as_slice.ensures.value at (sym c.in-Ok-Some-Compact.ensures ∙ c.in-Ok-Some-Compact.field-0-is ∙ ap Some c.in-Ok-Some-Compact.field-0-0-is) in (
      Some c.now-moment.result,
      (c.now-moment.ensures.next, c.now-moment.ensures.reading),
      tells_compacted g.W.Sink.sink c.args.out.now c.print_compacted.new.out (map string_bytes c.args.words.now.items) (around told c.args.keeper.now c.print_compacted.new.keeper)
          (around other c.args.into.now c.print_compacted.new.into) (Some c.now-moment.result) c.in-Ok-Some-Compact.origin c.now-moment.result c.print_compacted.result legal refl
          c.print_compacted.ensures.kept c.print_compacted.ensures.batches c.print_compacted.ensures.ends,
    )

pub returns-in-Ok-Some-Compact-clause-left_into : goal.returns-in-Ok-Some-Compact-clause-left_into
returns-in-Ok-Some-Compact-clause-left_into g c =
    let legal = rw c.as_slice.ensures.value at (sym c.in-Ok-Some-Compact.ensures ∙ c.in-Ok-Some-Compact.field-0-is ∙ ap Some c.in-Ok-Some-Compact.field-0-0-is) in
    leaves_into g.L.Keeper.keeper (map string_bytes c.args.words.now.items) c.in-Ok-Some-Compact.origin c.now-moment.result (g.C.Clock.clock.last c.now-moment.new.self)
    (g.K.Keeper.keeper.told c.print_compacted.new.keeper).rows c.args.into.now c.print_compacted.new.into legal c.now-moment.ensures.reading c.print_compacted.ensures.left_into

-- the words are no command
pub returns-in-Ok-None-clause-ends : goal.returns-in-Ok-None-clause-ends
returns-in-Ok-None-clause-ends g c =
    let told = g.K.Keeper.keeper.told in
    let other = g.L.Keeper.keeper.told in
    let none = rw c.as_slice.ensures.value at (sym c.in-Ok-None.ensures ∙ c.in-Ok-None.field-0-is) in (
      None,
      refl,
      tells_usage g.W.Sink.sink c.args.out.now c.refuse.new.out (map string_bytes c.args.words.now.items) (around told c.args.keeper.now c.args.keeper.now)
          (around other c.args.into.now c.args.into.now) None c.refuse.result none refl (record { into = refl; unasked = refl }) (Keeps-same (told c.args.keeper.now).rows) (keeps_batches_same (told c.args.keeper.now)) c.refuse.ensures.ends,
    )

pub returns-in-Ok-None-clause-left_into : goal.returns-in-Ok-None-clause-left_into
returns-in-Ok-None-clause-left_into g c = leaves_unused _ _ _ _ _

-- memory ran out before it was known what they are
pub returns-in-Err-clause-ends : goal.returns-in-Err-clause-ends
returns-in-Err-clause-ends g c =
    let told = g.K.Keeper.keeper.told in
    let other = g.L.Keeper.keeper.told in (
      None,
      refl,
      tells_wanting g.W.Sink.sink c.args.out.now c.args.out.now (map string_bytes c.args.words.now.items) (around told c.args.keeper.now c.args.keeper.now)
          (around other c.args.into.now c.args.into.now) None refl (record { into = refl; unasked = refl }) (Keeps-same (told c.args.keeper.now).rows) (keeps_batches_same (told c.args.keeper.now)) refl,
    )

pub returns-in-Err-clause-left_into : goal.returns-in-Err-clause-left_into
returns-in-Err-clause-left_into g c = leaves_unused _ _ _ _ _
