use Rattle.std.proofs.Common.{Ok, Err}
use Rattle.std.proofs.lemmas.Result.{err_from_is_err_and}
use Rattle.dns_edges.specs.Edges.{around}
use Rattle.dns_words.specs.Writing.{Writes}
use Rattle.dns_words.proofs.TextsWritten.{Whole-stop, Whole-flush, wanted_write, wanted_flush}
use Rattle.dns_words.proofs.texts.put_whole.Goals as goal

pub returns-in_err-write_all-clause-written : goal.returns-in_err-write_all-clause-written
returns-in_err-write_all-clause-written g c =
    let p = err_from_is_err_and c.from_residual.result c.from_residual.ensures.1 in
    let out = around g.W.Sink.sink.told c.args.out.now c.write_all.new.sink in
    let written : Writes out c.args.text.now (Err c.in_err-write_all.field-0.0) = record {
      ok = tt;
      err = rw c.as_bytes.ensures.value at c.in_err-write_all.ensures.err;
      cause = c.in_err-write_all.ensures.cause;
    } in
    rw (p.1, p.2) (Whole-stop out c.args.text.now _ written)

pub returns-in_err-write_all-clause-wanted : goal.returns-in_err-write_all-clause-wanted
returns-in_err-write_all-clause-wanted g c =
    let p = err_from_is_err_and c.from_residual.result c.from_residual.ensures.1 in
    let broke = rw c.as_bytes.ensures.value at c.in_err-write_all.ensures.broke in
    rw (p.1, p.2) (wanted_write g.W.Sink.sink _ c.args.text.now _ _ broke c.in_err-write_all.ensures.wanted)

pub returns-clause-written : goal.returns-clause-written
returns-clause-written g c =
    let before = g.W.Sink.sink.told c.args.out.now in
    let between = g.W.Sink.sink.told c.write_all.new.sink in
    let written : Writes (record { before = before; after = between }) c.args.text.now (Ok tt) = record {
      ok = rw c.as_bytes.ensures.value at c.in_ok-write_all.ensures.ok;
      err = tt;
      cause = c.in_ok-write_all.ensures.cause;
    } in
    Whole-flush before between (g.W.Sink.sink.told c.flush.new.self) c.args.text.now c.flush.result written
    c.flush.ensures.told.kept c.flush.ensures.told.all c.flush.ensures.told.cause

pub returns-clause-wanted : goal.returns-clause-wanted
returns-clause-wanted g c =
    let up = rw c.as_bytes.ensures.value at c.in_ok-write_all.ensures.written in
    let grown = rw c.as_bytes.ensures.value at c.in_ok-write_all.ensures.ok in
    wanted_flush g.W.Sink.sink _ _ _ c.args.text.now c.flush.result up grown c.in_ok-write_all.ensures.wanted c.flush.ensures.told c.flush.ensures.wanted
