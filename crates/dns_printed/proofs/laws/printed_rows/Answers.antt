use Rattle.std.proofs.Common.{refl}
use Rattle.std.specs.Fmt.{digits}
use Rattle.std.specs.Net.Text.{hex}
use Rattle.hex.specs.Hex.{encode_with}
use Rattle.dns_printed.proofs.laws.printed_rows.Goals as goal

pub returns-clause-a : goal.returns-clause-a
unfolding digits encode_with
returns-clause-a c = refl

pub returns-clause-aaaa : goal.returns-clause-aaaa
unfolding digits encode_with hex
returns-clause-aaaa c = refl

pub returns-clause-ns : goal.returns-clause-ns
unfolding digits encode_with
returns-clause-ns c = refl

pub returns-clause-mx : goal.returns-clause-mx
unfolding digits encode_with
returns-clause-mx c = refl

pub returns-clause-srv : goal.returns-clause-srv
unfolding digits encode_with
returns-clause-srv c = refl

pub returns-clause-soa : goal.returns-clause-soa
unfolding digits encode_with
returns-clause-soa c = refl

pub returns-clause-txt : goal.returns-clause-txt
unfolding digits encode_with
returns-clause-txt c = refl

pub returns-clause-opaque : goal.returns-clause-opaque
unfolding digits encode_with
returns-clause-opaque c = refl

pub returns-clause-wildcard : goal.returns-clause-wildcard
unfolding digits encode_with
returns-clause-wildcard c = refl

pub returns-clause-odd : goal.returns-clause-odd
unfolding digits encode_with
returns-clause-odd c = refl
