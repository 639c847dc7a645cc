-- What was read line by line is what the script says, and its records are of their types.
use Rattle.std.proofs.Common.{◌≡◌, ◌∷◌, Ok, sym, ap, subst, ◌∙◌, arith}
use Rattle.dns_presentation.specs.Lines.{lines_of}
use Rattle.dns_update_script.specs.Script.{script_of, Tells}
use Rattle.dns_update_script.specs.Reading.{standing, given_by}
use Rattle.dns_update_script.proofs.Standings.{sendings-first, sendings-last}
use Rattle.dns_update_script.proofs.Plainness.{ArePlain-script}
use Rattle.dns_update_script.proofs.script.read_script.Goals as goal

pub loop-line-init : goal.loop-line-init
loop-line-init c = record {
  counted = omega arith;
  same = sendings-first c.new.result c.new-2.result c.new-3.result.items (lines_of c.args.text.now) c.new.ensures c.new-2.ensures c.new-3.ensures.items;
}

pub invariant_of-result : goal.invariant_of-result
invariant_of-result c =
    let state = c.loop-line.state in
    let whole : script_of c.args.text.now ≡ Ok state.sendings.items = sendings-last state.sendings.items (standing state) (lines_of c.loop-line.rest.now) (script_of c.args.text.now) c.loop-line.invariant.same c.in_default.ensures.none c.in_default-first.is in
    ArePlain-script (lines_of c.args.text.now) state.sendings.items whole

pub returns-in-Err-clause-fault : goal.returns-in-Err-clause-fault
returns-in-Err-clause-fault c =
    let whole : given_by c.loop-line.state (c.in-Some.line.now ∷ lines_of c.in-Some.after.now) ≡ script_of c.args.text.now = ap (given_by c.loop-line.state) (sym c.in-Some.ensures.some) ∙ c.loop-line.invariant.same in
    subst (λ meant. Tells meant c.in-Err.fault) whole (c.in-Err.ensures.err (lines_of c.in-Some.after.now))
