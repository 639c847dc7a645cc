-- The digits so far make a number below the limit, behind which the others stand.
use Rattle.std.proofs.Common.{◌≡◌, ◌<◌, drop}
use Rattle.dns_words.specs.Values.{below, digits_behind}
use Rattle.dns_words.proofs.values.digits_below.Given as goal

abbrev pub invariant-loop-digit : goal.invariant-loop-digit
invariant-loop-digit l =
    record {
      small : l.number < l.limit;
      same : below l.limit (digits_behind l.number (drop l.digit-index l.digits)) ≡ below l.limit (digits_behind 0 l.digits);
    }
