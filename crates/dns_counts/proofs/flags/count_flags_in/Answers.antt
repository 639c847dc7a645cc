use Rattle.std.proofs.Common.{◌/◌, ◌%◌, ◌∙◌, sym, ℕ}
use Rattle.dns_counts.proofs.Places.{raised-others, grown-six}
use Rattle.dns_counts.proofs.flags.count_flags_in.Goals as goal

pub returns-then-has_bit : goal.returns-then-has_bit
returns-then-has_bit c =
    let word : ℕ = c.args.word in
    let six = raised-others c.args.counts.now (word / 0x0400 % 2) (word / 0x0020 % 2) (word / 0x0010 % 2) (word / 0x0080 % 2) (word / 0x0100 % 2) (word / 0x0200 % 2) in
    c.count_other_flags_in.ensures ∙ (rw (c.raise_where-2.ensures, c.raise_where.ensures, c.has_bit.ensures, c.has_bit-2.ensures) six)

pub returns-else-has_bit-4 : goal.returns-else-has_bit-4
returns-else-has_bit-4 c =
    let six = raised-others c.args.counts.now (c.args.word / 0x0400 % 2) 0 0 0 (c.args.word / 0x0100 % 2) 0 in
    rw (← c.if-has_bit.ensures, ← c.if-has_bit-2.ensures, ← c.if-has_bit-3.ensures, ← c.if-has_bit-4.ensures)
    (rw (c.raise_where-2.ensures, c.raise_where.ensures, c.has_bit.ensures, c.has_bit-2.ensures) (sym (grown-six _) ∙ six))
