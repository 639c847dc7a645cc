use Rattle.std.proofs.Common.{rules, ◌≡◌, ◌<◌, ◌∙◌, length, true, false, sym, ap}
use Rattle.dns_connections.specs.Crowds.{CrowdSeen}
use Rattle.dns_connections.proofs.Finding.{handed_none, handed_open, handed_shut, rises}
use Rattle.dns_connections.proofs.crowd.Crowd.send.Goals as goal

pub place_of-requires : goal.place_of-requires
place_of-requires g c = rises _ _ c.self.invariant.0.climb

pub returns-in_default-clause-handed : goal.returns-in_default-clause-handed
returns-in_default-clause-handed g c =
    handed_none c.args.conn _ _ (sym (ap (λ (s : CrowdSeen _). s.links) c.self.view_is)) c.args.self.now.handed c.args.bytes.now c.in_default.ensures.none

pub returns-then-not-is_open-clause-handed : goal.returns-then-not-is_open-clause-handed
returns-then-not-is_open-clause-handed g c =
    let shut : c.is_open.result ≡ false = search rules in
    handed_shut c.args.conn _ _ (sym (ap (λ (s : CrowdSeen _). s.links) c.self.view_is)) c.args.self.now.handed c.args.bytes.now c.in-Some.place _ c.index.result.now
    c.self.invariant.0.climb c.in-Some.ensures.found c.index.ensures (sym c.is_open.ensures ∙ shut)

pub returns-clause-handed : goal.returns-clause-handed
returns-clause-handed g c =
    let opened : c.is_open.result ≡ true = search rules in
    let some : 0 < length c.args.bytes.now = search rules in
    handed_open c.args.conn _ _ (sym (ap (λ (s : CrowdSeen _). s.links) c.self.view_is)) c.hand.result c.args.self.now.handed c.hand.new.self.handed c.args.bytes.now c.in-Some.place _ c.index.result.now
    c.self.invariant.0.climb c.in-Some.ensures.found c.index.ensures (sym c.is_open.ensures ∙ opened) some c.hand.ensures.handed
