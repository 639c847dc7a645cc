use Rattle.std.proofs.Common.{◌≡◌, ◌<◌, List, length, map, arith, ap, ◌∙◌, Bor}
use Rattle.std.proofs.lemmas.List.{length-map}
use Rattle.dns_wire.specs.declared.record.Record.{Record}
use Rattle.dns_printed.specs.Printed.{printed_line, line_at}
use Rattle.dns_printed.proofs.Putting.{same_text}
use Rattle.dns_printed.proofs.LineByLine.{line_of}
use Rattle.dns_printed.proofs.zone_lines.ZoneLines.put_line_at.Goals as goal

pub returns : goal.returns
returns c =
    let held = c.self.inside.records.items in
    let seen : length (map (λ (r : Bor Record). r.now) held) ≡ length c.args.self.now = ap length c.self.view_is in
    let within : c.args.place < length held = omega (arith, c.requires, seen, length-map held (λ (r : Bor Record). r.now)) in
    same_text c.args.out.now.items c.put_line.new.out.items (printed_line c.index-one.result.now.now) (line_at c.args.self.now c.args.place) c.put_line.result
    (ap (λ (r : Bor Record). printed_line r.now) c.index-one.ensures ∙ line_of held c.args.place c.index-one.result.now within ∙ ap (λ (rs : List Record). line_at rs c.args.place) c.self.view_is)
    c.put_line.ensures
