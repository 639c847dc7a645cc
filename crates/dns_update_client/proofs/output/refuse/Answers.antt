use Rattle.std.proofs.Common.{◌∙◌, sym, refl}
use Rattle.dns_update_client.specs.Writing.{by_line}
use Rattle.dns_update_client.proofs.Counting.{wanted_line}
use Rattle.dns_update_client.proofs.output.refuse.Goals as goal

pub returns-in-ReadFault-clause-ends : goal.returns-in-ReadFault-clause-ends
returns-in-ReadFault-clause-ends g c =
    rw c.in-ReadFault.is (by_line refl (record { result = c.put_whole.result; written = c.put_whole.ensures.written; status = c.after_writing.ensures }))

pub returns-in-ReadFault-clause-wanted : goal.returns-in-ReadFault-clause-wanted
returns-in-ReadFault-clause-wanted g c fault none = c.put_whole.ensures.wanted (wanted_line c.put_whole.result (sym c.after_writing.ensures ∙ none))
