use Rattle.std.proofs.Common.{◌≡◌, ◌∙◌, sym, subst, true, false}
use Rattle.std.specs.Prelude.{Some, IfSome}
use Rattle.dns_wire.specs.WireFormat.{IsShort}
use Rattle.dns_update.specs.declared.row_change.RowEffect.TheVariants.{Change}
use Rattle.dns_update.specs.Change.{fold_record}
use Rattle.dns_update.specs.Replay.{IsReading, is_in_place, is_snapshot, serial_in, Does}
use Rattle.dns_update.proofs.Effects.{serial_placed, changed}
use Rattle.dns_update.proofs.row_change.read_row.Goals as goal

pub returns : goal.returns
returns c =
    let origin = c.args.origin.now in
    let place = c.args.place in
    let row = c.args.row.now in
    let one = c.in-Some.one in
    let bytes : IsReading row.bytes c.in_ok-one.field-0 = subst (λ b. IsReading b c.in_ok-one.field-0) c.as_slice.ensures c.in_ok-one.ensures.reading in
    let reading : IsReading row.bytes (Some one) = subst (λ o. IsReading row.bytes o) c.in-Some.is bytes in
    let short : IfSome (Some one) IsShort = subst (λ o. IfSome o IsShort) c.in-Some.is c.in_ok-one.ensures.short in
    let placed : is_in_place origin place row one ≡ true = sym c.is_in_place.ensures ∙ c.if-not-is_in_place.false in
    let other : is_snapshot origin one ≡ false = sym c.is_snapshot.ensures ∙ c.if-is_snapshot.false in
    let does : Does origin place row (Change (fold_record one) (serial_in row.serial)) = changed origin place row one reading short placed other in
    subst (λ s. Does origin place row (Change c.in_ok-small.small s)) (sym c.serial_in-serial.ensures)
    (subst (λ r. Does origin place row (Change r (serial_in row.serial))) (sym c.in_ok-small.ensures) does)

pub serial_in-serial-requires : goal.serial_in-serial-requires
serial_in-serial-requires c =
    serial_placed c.args.origin.now c.args.place c.args.row.now c.in-Some.one (sym c.is_in_place.ensures ∙ c.if-not-is_in_place.false)
