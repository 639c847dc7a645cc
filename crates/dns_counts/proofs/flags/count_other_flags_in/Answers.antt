use Rattle.std.proofs.Common.{◌/◌, ◌%◌, ap, ◌∙◌, sym, List, ℕ}
use Rattle.dns_counts.proofs.Places.{raised_in, raised-nothing, raised-six}
use Rattle.dns_counts.proofs.flags.count_other_flags_in.Goals as goal

pub returns : goal.returns
returns c =
    let counts : List ℕ = c.args.counts.now in
    let b : ℕ = c.args.word / 0x0020 % 2 in
    let d : ℕ = c.args.word / 0x0010 % 2 in
    let e : ℕ = c.args.word / 0x0080 % 2 in
    let f : ℕ = c.args.word / 0x0200 % 2 in
    let six = raised-six counts 0 b d e 0 f in
    rw (
      c.raise_where-4.ensures,
      c.raise_where-3.ensures,
      c.raise_where-2.ensures,
      c.raise_where.ensures,
      c.has_bit.ensures,
      c.has_bit-2.ensures,
      c.has_bit-3.ensures,
      c.has_bit-4.ensures,
    )
    (ap (λ (ns : List ℕ). raised_in (raised_in (raised_in (raised_in ns 1 b) 2 d) 3 e) 5 f) (sym (raised-nothing counts 0))
    ∙ ap (λ (ns : List ℕ). raised_in ns 5 f) (sym (raised-nothing _ 4)) ∙ six)
