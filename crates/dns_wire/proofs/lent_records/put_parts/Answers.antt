use Rattle.std.proofs.Common.{◌≡◌, ◌++◌, ◌-◌, ◌+◌, ◌<◌, suc, length, get_or, List, ℕ, take, drop, sym, ap, ◌∙◌, arith}
use Rattle.std.proofs.lemmas.List.{append_assoc}
use Rattle.std.proofs.Transfers.{starts_with_trans}
use Rattle.dns_wire.specs.declared.record.Record.{Record}
use Rattle.dns_wire.specs.Given.{in_parts}
use Rattle.dns_wire.specs.WireFormat.{records_bytes}
use Rattle.dns_wire.proofs.Lending.{parts_put}
use Rattle.dns_wire.proofs.lent_records.put_parts.Goals as goal

step : (out new first rest all whole : List ℕ) → new ≡ out ++ first → whole ≡ first ++ rest → out ++ whole ≡ all → new ++ rest ≡ all
step out new first rest all whole n w h = ap (λ (b : List ℕ). b ++ rest) n ∙ append_assoc out first rest ∙ ap (λ (b : List ℕ). out ++ b) (sym w) ∙ h

next : (parts : List (List Record)) (i left : ℕ) (part : List Record) → i < length parts → part ≡ get_or parts i part
    → records_bytes (take left (in_parts (drop i parts))) ≡ records_bytes (take left part) ++ records_bytes (take (left - length part) (in_parts (drop (i + 1) parts)))
next parts i left part h is =
    parts_put parts i left part h is
    ∙ ap (λ (k : ℕ). records_bytes (take left part) ++ records_bytes (take (left - length part) (in_parts (drop k parts)))) (let e : suc i ≡ i + 1 = omega arith in e)

pub loop-part-preserved : goal.loop-part-preserved
loop-part-preserved c = record {
  begins = starts_with_trans _ _ _ c.in_ok-put.ensures.begins c.loop-part.invariant.begins;
  written = rw (c.saturating_sub-left.ensures, c.len.ensures)
      (step c.loop-part.out.items _ _ _ _ _ c.in_ok-put.ensures.ok (next c.args.parts.now c.loop-part.part-index c.loop-part.left c.part-item.result c.loop-part-test.true c.part-item.is) c.loop-part.invariant.written);
}
