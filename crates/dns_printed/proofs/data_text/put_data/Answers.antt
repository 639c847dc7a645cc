use Rattle.std.proofs.Common.{◌≡◌, [], ◌∷◌, ◌++◌}
use Rattle.std.specs.Fmt.{decimal}
use Rattle.dns_printed.specs.Appending.{IsCutShort}
use Rattle.dns_printed.specs.Printed.{name_text, spaced}
use Rattle.dns_printed.proofs.Putting.{words, words_stopped}
use Rattle.dns_printed.proofs.data_text.put_data.Goals as goal

pub returns-in_err-put_soa_names-in-Soa : goal.returns-in_err-put_soa_names-in-Soa
returns-in_err-put_soa_names-in-Soa c =
    let names : IsCutShort c.args.out.now.items c.put_soa_names.new.out.items (spaced (name_text c.in-Soa.mname ∷ name_text c.in-Soa.rname ∷ [])) = rw (c.as_name.ensures, c.as_name-in-Soa.ensures) at c.in_err-put_soa_names-in-Soa.ensures in
    rw c.in-Soa.is
    (words_stopped c.args.out.now.items c.put_soa_names.new.out.items (name_text c.in-Soa.mname ∷ name_text c.in-Soa.rname ∷ []) (decimal c.in-Soa.serial ∷ decimal c.in-Soa.refresh ∷ decimal c.in-Soa.retry ∷ decimal c.in-Soa.expire ∷ decimal c.in-Soa.minimum ∷ []) c.from_residual.result c.from_residual.ensures.0 names)

pub returns-in_ok-put_soa_names-in-Soa : goal.returns-in_ok-put_soa_names-in-Soa
returns-in_ok-put_soa_names-in-Soa c =
    let names : c.put_soa_names.new.out.items ≡ c.args.out.now.items ++ spaced (name_text c.in-Soa.mname ∷ name_text c.in-Soa.rname ∷ []) = rw (c.as_name.ensures, c.as_name-in-Soa.ensures) at c.in_ok-put_soa_names-in-Soa.ensures in
    rw c.in-Soa.is
    (words c.args.out.now.items c.put_soa_names.new.out.items c.put_soa_numbers.new.out.items (name_text c.in-Soa.mname ∷ name_text c.in-Soa.rname ∷ []) (decimal c.in-Soa.serial ∷ decimal c.in-Soa.refresh ∷ decimal c.in-Soa.retry ∷ decimal c.in-Soa.expire ∷ decimal c.in-Soa.minimum ∷ []) c.put_soa_numbers.result names c.put_soa_numbers.ensures)
