-- A text that goes on behind a logical line has a second one.
use Rattle.std.proofs.Common.{◌≡◌, ◌<◌, ◌∷◌, Err, length, ap, sym, ◌∙◌, arith}
use Rattle.dns_presentation.specs.Entries.{◌>>=◌}
use Rattle.dns_presentation.specs.LogicalLines.{logical_lines}
use Rattle.dns_update_script.specs.Entry.{only_line, line_entry, text_entry}
use Rattle.dns_update_script.proofs.LogicalLines.{logical_lines-some}
use Rattle.dns_update_script.proofs.entry.text_entry.Goals as goal

pub returns-in-len1-up : goal.returns-in-len1-up
unfolding text_entry
returns-in-len1-up c =
    let filled : 0 < length c.in-Some.rest.now = omega (arith, c.in-len1-up.len_at_least) in
    let more = logical_lines-some c.pass.new.self.next c.in-Some.rest.now filled in
    let some : logical_lines c.in_ok-line.line.next c.args.text.now ≡ c.pass.new.self ∷ logical_lines c.pass.new.self.next c.in-Some.rest.now = rw c.in-Some.is at c.in_ok-rest.ensures.some in
    let lines : logical_lines 1 c.args.text.now ≡ c.pass.new.self ∷ more.0 ∷ more.1 = ap (λ n. logical_lines n c.args.text.now) (sym c.in_ok-line.ensures) ∙ some ∙ ap (λ rest. c.pass.new.self ∷ rest) more.2 in
    ap (λ found. only_line found >>= λ line. line_entry c.args.origin c.args.ttl line) lines ∙ ap Err (sym c.broken.ensures)
