use Rattle.std.proofs.Common.{◌≡◌, ◌<◌, ◌+◌, ◌++◌, ℕ, List, length, drop, add-one, arith, subst}
use Rattle.dns_printed.specs.Appending.{IsPutUpTo}
use Rattle.dns_printed.specs.Printed.{zone_text, line_at}
use Rattle.dns_printed.proofs.Putting.{went_on}
use Rattle.dns_printed.proofs.LineByLine.{line_next}
use Rattle.dns_printed.proofs.zone_lines.put_lines.Goals as goal

pub loop-place-preserved : goal.loop-place-preserved
loop-place-preserved c =
    let records = c.args.lines.now in
    let place = c.loop-place.place in
    let within : place < length records = omega (arith, c.loop-place-test.true, c.len-place-end.ensures) in
    let next : zone_text (drop place records) ≡ line_at records place ++ zone_text (drop (place + 1) records) = rw add-one (line_next records place within) in
    went_on c.args.out.now.items c.loop-place.out.items c.put_line_at.new.out.items (zone_text records) (line_at records place) (zone_text (drop (place + 1) records))
    (subst (λ (rest : List ℕ). IsPutUpTo c.args.out.now.items c.loop-place.out.items (zone_text records) rest) next c.loop-place.invariant) c.in_ok-put_line_at.ensures
