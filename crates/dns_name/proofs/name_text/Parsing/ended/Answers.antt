use Rattle.std.proofs.Common.{◌+◌, [], length, Ok, ap, arith, length-drop}
use Rattle.dns_name.specs.NameParsing.{Pieces}
use Rattle.dns_name.proofs.OpenNames.{Tells-ended}
use Rattle.dns_name.proofs.name_text.Parsing.ended.Goals as goal

pub returns-in-Err-clause-err : goal.returns-in-Err-clause-err
returns-in-Err-clause-err c =
    let size = length-drop (c.self.inside.place + 1) c.self.inside.wire.items in
    let label = ap (λ (p : Pieces). length p.label) c.self.view_is in
    Tells-ended c.in-Err.error c.args.self.labels c.args.self.label (omega (arith, c.self.inside.wire.ok.0)) (c.in-Err.ensures.err (Ok []))
