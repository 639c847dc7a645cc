use Rattle.dns_wire.proofs.Back.{record_alone}
use Rattle.dns_update.proofs.Reading.{form_at}
use Rattle.dns_update.proofs.Folded.{back_folded}
use Rattle.dns_update.proofs.Bytes.{back_at}
use Rattle.dns_update.proofs.laws.standing_records.Goals as goal

pub returns : goal.returns
returns c = record { form = form_at; back = λ bytes i j r small. back_at bytes small i j r; alone = record_alone; folded = back_folded }
