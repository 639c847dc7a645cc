use Rattle.std.proofs.Common.{arith, ap, ◌-◌, ◌+◌, ◌∙◌, ◌≡◌, length}
use Rattle.std.specs.Prelude.{vec_len}
use Rattle.dns_wire.proofs.Recoded.{recode}
use Rattle.dns_wire.proofs.lent_reply.Appended.with_code.Goals as goal

pub returns : goal.returns
returns c =
    let size : vec_len c.args.out.now ≡ length c.args.out.now.items = omega (arith, c.args.out.now.ok.0) in
    λ r limit framed before a.
    rw (c.from.ensures)
    (recode r limit framed before c.args.out.now.items c.args.self.now c.args.code (c.len.result - c.args.self.now.len + 3) c.index.result.now c.requires.code a
    (ap (λ n. n - c.args.self.now.len + 3) (c.len.ensures ∙ size)) c.index.ensures)
