use Rattle.dns_presentation.proofs.TypedData.{typed_data-stands, typed_data-found, typed_data-written}
use Rattle.dns_presentation.proofs.laws.general_forms.Goals as goal

pub returns-clause-standing : goal.returns-clause-standing
returns-clause-standing c = λ number bytes rdata. (typed_data-stands number bytes rdata, typed_data-found number bytes rdata)

pub returns-clause-written : goal.returns-clause-written
returns-clause-written c = typed_data-written
