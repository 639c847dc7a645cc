use Rattle.std.proofs.Common.{◌≡◌, refl, sym, ◌∙◌}
use Rattle.jiff_core.proofs.DateTimeLemmas.{civil_nanos_injective, time_nanos_injective}
use Rattle.jiff_core.proofs.DateLemmas.{epoch_day_injective}
use Rattle.dns_keeper.specs.Stamp.{stamp_text}
use Rattle.dns_keeper.proofs.laws.one_stamp.Goals as goal

pub returns : goal.returns
returns c moment a b first second =
    let same = civil_nanos_injective first.shown second.shown (first.at ∙ sym second.at) in
    let date = epoch_day_injective first.shown.date second.shown.date same.0 in
    let time = time_nanos_injective first.shown.time second.shown.time same.1 in
    let text : stamp_text first.shown ≡ stamp_text second.shown = rw (date.0, date.1, date.2, time.0, time.1, time.2, time.3) refl in
    first.is ∙ text ∙ sym second.is
