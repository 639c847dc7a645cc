-- What was put is what comes of the kind that was drawn.
use Rattle.std.proofs.Common.{◌≡◌, ◌++◌, ap, sym, subst, ◌∙◌, OnOk}
use Rattle.dns_generator.specs.Loaded.{datagram, coming_as, coming}
use Rattle.dns_generator.proofs.events.put_coming.Goals as goal

pub returns-in_ok-query-in-Query : goal.returns-in_ok-query-in-Query
returns-in_ok-query-in-Query c =
    let as_drawn : coming c.args.number c.args.draw.0 ≡ datagram c.args.number c.args.draw.0 c.in_ok-query-in-Query.field-0 = ap (λ k. coming_as k c.args.number c.args.draw.0) (sym c.kind.ensures ∙ c.in-Query.is) ∙ ap (datagram c.args.number c.args.draw.0) (sym c.in_ok-query-in-Query.ensures.bytes) in
    subst (λ es. OnOk c.put_datagram.result (c.put_datagram.new.list.items ≡ c.args.list.now.items ++ es)) (sym as_drawn) c.put_datagram.ensures

pub returns-in_ok-addition-in-Addition : goal.returns-in_ok-addition-in-Addition
returns-in_ok-addition-in-Addition c =
    let as_drawn : coming c.args.number c.args.draw.0 ≡ datagram c.args.number c.args.draw.0 c.in_ok-addition-in-Addition.field-0 = ap (λ k. coming_as k c.args.number c.args.draw.0) (sym c.kind.ensures ∙ c.in-Addition.is) ∙ ap (datagram c.args.number c.args.draw.0) (sym c.in_ok-addition-in-Addition.ensures.bytes) in
    subst (λ es. OnOk c.put_datagram-in-Addition.result (c.put_datagram-in-Addition.new.list.items ≡ c.args.list.now.items ++ es)) (sym as_drawn) c.put_datagram-in-Addition.ensures

pub returns-in_ok-deletion-in-Deletion : goal.returns-in_ok-deletion-in-Deletion
returns-in_ok-deletion-in-Deletion c =
    let as_drawn : coming c.args.number c.args.draw.0 ≡ datagram c.args.number c.args.draw.0 c.in_ok-deletion-in-Deletion.field-0 = ap (λ k. coming_as k c.args.number c.args.draw.0) (sym c.kind.ensures ∙ c.in-Deletion.is) ∙ ap (datagram c.args.number c.args.draw.0) (sym c.in_ok-deletion-in-Deletion.ensures.bytes) in
    subst (λ es. OnOk c.put_datagram-in-Deletion.result (c.put_datagram-in-Deletion.new.list.items ≡ c.args.list.now.items ++ es)) (sym as_drawn) c.put_datagram-in-Deletion.ensures
