use Rattle.std.proofs.Common.{◌≡◌, ◌<◌, ◌+◌, ◌++◌, ◌∙◌, ℕ, List, length, drop, add-one, arith, ap, subst}
use Rattle.dns_io.specs.Told.{Grows, GrowsByPrefix}
use Rattle.dns_io.proofs.ToldContents.{Keeps-more}
use Rattle.dns_edges.specs.Edges.{around}
use Rattle.dns_printed.specs.Printed.{zone_text, line_at}
use Rattle.dns_printed.proofs.LineByLine.{line_next, written, written_in_part, failed}
use Rattle.dns_printed.proofs.zone_lines.ZoneLines.write.Goals as goal

pub loop-place-preserved : goal.loop-place-preserved
loop-place-preserved g c =
    let told = g.W.Sink.sink.told in
    let records = c.args.self.now in
    let place = c.loop-place.place in
    let within : place < length records = omega (arith, c.loop-place-test.true, c.len-place-end.ensures) in
    let next : zone_text (drop place records) ≡ line_at records place ++ zone_text (drop (place + 1) records) = rw add-one (line_next records place within) in
    let line : c.deref.result.now ≡ line_at records place =
    c.deref.ensures.value ∙ c.in_ok-put_line_at.ensures ∙ ap (λ (l : List ℕ). l ++ line_at records place) c.clear.ensures.items in
    let before : GrowsByPrefix (told c.args.sink.now).taken (told c.loop-place.sink).taken (zone_text records) (line_at records place ++ zone_text (drop (place + 1) records)) =
    subst (λ (rest : List ℕ). GrowsByPrefix (told c.args.sink.now).taken (told c.loop-place.sink).taken (zone_text records) rest) next c.loop-place.invariant.grown in
    record {
      grown = written _ _ _ (zone_text records) (line_at records place) (zone_text (drop (place + 1) records)) before
          (subst (λ (l : List ℕ). Grows (told c.loop-place.sink).taken (told c.write_all.new.sink).taken l) line c.in_ok-write_all.ensures.ok);
      unflushed = Keeps-more _ _ _ c.loop-place.invariant.unflushed c.in_ok-write_all.ensures.unflushed;
      calm = c.in_ok-write_all.ensures.cause.counts ∙ c.loop-place.invariant.calm;
    }

pub returns-in_err-write_all-clause-written : goal.returns-in_err-write_all-clause-written
returns-in_err-write_all-clause-written g c =
    let told = g.W.Sink.sink.told in
    let records = c.args.self.now in
    let place = c.loop-place.place in
    let within : place < length records = omega (arith, c.loop-place-test.true, c.len-place-end.ensures) in
    let next : zone_text (drop place records) ≡ line_at records place ++ zone_text (drop (place + 1) records) = rw add-one (line_next records place within) in
    let line : c.deref.result.now ≡ line_at records place =
    c.deref.ensures.value ∙ c.in_ok-put_line_at.ensures ∙ ap (λ (l : List ℕ). l ++ line_at records place) c.clear.ensures.items in
    let before : GrowsByPrefix (told c.args.sink.now).taken (told c.loop-place.sink).taken (zone_text records) (line_at records place ++ zone_text (drop (place + 1) records)) =
    subst (λ (rest : List ℕ). GrowsByPrefix (told c.args.sink.now).taken (told c.loop-place.sink).taken (zone_text records) rest) next c.loop-place.invariant.grown in
    let left = c.in_err-write_all.ensures.err in
    failed (around told c.args.sink.now c.write_all.new.sink) (zone_text records) (left.0 ++ zone_text (drop (place + 1) records)) (told c.loop-place.sink).faults c.in_err-write_all.field-0.0
    c.from_residual-in_err-write_all.result c.from_residual-in_err-write_all.ensures.0 c.from_residual-in_err-write_all.ensures.1
    (written_in_part _ _ _ (zone_text records) (line_at records place) (zone_text (drop (place + 1) records)) before left.0
    (subst (λ (l : List ℕ). GrowsByPrefix (told c.loop-place.sink).taken (told c.write_all.new.sink).taken l left.0) line left.1))
    c.loop-place.invariant.calm c.in_err-write_all.ensures.cause
