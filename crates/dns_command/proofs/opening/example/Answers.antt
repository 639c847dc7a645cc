use Rattle.std.proofs.Common.{◌≡◌, ℕ, List, Ok, Err, ap, subst, ◌∙◌}
use Rattle.dns_name.specs.Name.{fold_of}
use Rattle.dns_zone.specs.ZoneText.{zone_of}
use Rattle.dns_zone.specs.declared.zone_text.ZoneTextFault.TheVariants.{Refused}
use Rattle.dns_generator.specs.Requests.{origin_name}
use Rattle.dns_command.specs.Example.{example_text}
use Rattle.dns_command.proofs.ExampleRead.{not_refused}
use Rattle.dns_command.proofs.opening.example.Goals as goal

pub returns-in-Ok : goal.returns-in-Ok
returns-in-Ok c =
    let named : fold_of c.in_ok-origin.origin ≡ origin_name = ap fold_of c.in_ok-origin.ensures in
    let read = rw c.as_bytes.ensures.value at c.in-Ok.ensures.records in
    record {
      origin = c.in-Ok.ensures.origin ∙ named;
      records = subst (λ (origin : List (List ℕ)). zone_of origin example_text ≡ Ok c.in-Ok.zone.records) named read;
    }

pub unreachable-requires : goal.unreachable-requires
unreachable-requires c =
    let faulty : zone_of (fold_of c.in_ok-origin.origin) c.as_bytes.result.now ≡ Err (Refused c.in-Err-Refused.field-0-0 c.in-Err-Refused.field-0-1) = rw c.in-Err-Refused.field-0-is at c.in-Err-Refused.ensures.fault in
    not_refused c.in_ok-origin.origin c.as_bytes.result.now (Refused c.in-Err-Refused.field-0-0 c.in-Err-Refused.field-0-1) c.in_ok-origin.ensures c.as_bytes.ensures.value faulty
