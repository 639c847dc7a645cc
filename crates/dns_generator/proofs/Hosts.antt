-- How long the label of a host is.
use Rattle.std.proofs.Common.{ℕ, ◌<◌, ◌≤◌, length, arith}
use Rattle.std.proofs.lemmas.Grind.{common_steps}
use Rattle.std.proofs.lemmas.Fmt.{length-decimal-le}
use Rattle.std.specs.Fmt.{decimal}
use Rattle.dns_generator.specs.Requests.{host_label}

pub length_host_label : (n : ℕ) → n < 64 → length (host_label n) ≤ 3
length_host_label n small =
    let short : length (decimal n) ≤ 2 = length-decimal-le 2 n (omega arith) (omega arith) (omega arith) in
    grind (arith, common_steps, short)
