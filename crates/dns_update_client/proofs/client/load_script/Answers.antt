use Rattle.std.proofs.lemmas.Result.{err_from_is_err_and}
use Rattle.dns_edges.specs.Edges.{around}
use Rattle.dns_update_client.proofs.ScriptRead.{calm_read, script_cut, script_faulty}
use Rattle.dns_update_client.proofs.client.load_script.Goals as goal

pub returns-in_err-text-clause-err : goal.returns-in_err-text-clause-err
returns-in_err-text-clause-err g c =
    let p = err_from_is_err_and c.from_residual.result c.from_residual.ensures.1 in
    rw (p.1, p.2) (script_cut _ _ c.in_err-text.ensures.long c.in_err-text.ensures.cause c.in_err-text.ensures.calm)

pub returns-in_err-read_script-clause-err : goal.returns-in_err-read_script-clause-err
returns-in_err-read_script-clause-err g c =
    let p = err_from_is_err_and c.from_residual-in_err-read_script.result c.from_residual-in_err-read_script.ensures.1 in
    let source = around g.E.Source.source.told c.args.source.now c.read_to_end.new.source in
    let calm = calm_read source c.in_ok-text.text c.in_ok-text.ensures.calm in
    rw (p.1, p.2) (script_faulty source _ _ c.in_ok-text.ensures.all c.in_ok-text.ensures.short (rw c.as_slice.ensures.value at c.in_err-read_script.ensures.fault) calm)
