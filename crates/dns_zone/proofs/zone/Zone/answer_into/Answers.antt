use Rattle.std.proofs.Common.{ℕ, List, sym, ap, refl, ◌∙◌}
use Rattle.dns_wire.specs.declared.question.Question.{Question}
use Rattle.dns_zone.specs.declared.look.Look.TheVariants.{Referral, NoName, Alias, Found, NoData}
use Rattle.dns_zone.specs.Look.{look_of}
use Rattle.dns_zone.specs.Lookup.{negative_soa}
use Rattle.dns_zone.proofs.Aliases.{answer_is}
use Rattle.dns_zone.proofs.zone.Zone.answer_into.Goals as goal

pub returns-in_ok-put_found-in-Found-clause-is : goal.returns-in_ok-put_found-in-Found-clause-is
returns-in_ok-put_found-in-Found-clause-is c =
    let r = c.put_found.new.answer in
    let is = c.in_ok-put_found-in-Found.ensures in
    answer_is c.args.self.now c.args.question.now.name c.args.question.now.qtype (Found c.in-Found.found) r.code r.aa r.answers r.authority
    (sym c.in-Found.is ∙ c.in_ok-found.ensures ∙ ap (λ (name : List (List ℕ)). look_of c.args.self.now name c.question.inside.qtype) c.again.ensures
    ∙ ap (λ (q : Question). look_of c.args.self.now q.name q.qtype) c.question.view_is)
    is.aa (rw (is.code, is.answers, is.authority) refl)

pub returns-in-Referral-clause-is : goal.returns-in-Referral-clause-is
returns-in-Referral-clause-is c =
    let r = c.set.new.self in
    let is = c.set.ensures in
    answer_is c.args.self.now c.args.question.now.name c.args.question.now.qtype (Referral c.in-Referral.ns) r.code r.aa r.answers r.authority
    (sym c.in-Referral.is ∙ c.in_ok-found.ensures ∙ ap (λ (name : List (List ℕ)). look_of c.args.self.now name c.question.inside.qtype) c.again.ensures
    ∙ ap (λ (q : Question). look_of c.args.self.now q.name q.qtype) c.question.view_is)
    is.aa (rw (is.code, is.answers, c.none.ensures, is.authority) refl)

pub returns-in-NoName-clause-is : goal.returns-in-NoName-clause-is
returns-in-NoName-clause-is c =
    let r = c.set-in-NoName.new.self in
    let is = c.set-in-NoName.ensures in
    answer_is c.args.self.now c.args.question.now.name c.args.question.now.qtype NoName r.code r.aa r.answers r.authority
    (sym c.in-NoName.is ∙ c.in_ok-found.ensures ∙ ap (λ (name : List (List ℕ)). look_of c.args.self.now name c.question.inside.qtype) c.again.ensures
    ∙ ap (λ (q : Question). look_of c.args.self.now q.name q.qtype) c.question.view_is)
    is.aa (rw (is.code, is.answers, c.none-in-NoName.ensures, is.authority, c.negative_soa.ensures ∙ ap negative_soa c.map-map.ensures.is) refl)

pub returns-in-NoData-clause-is : goal.returns-in-NoData-clause-is
returns-in-NoData-clause-is c =
    let r = c.set-in-NoData.new.self in
    let is = c.set-in-NoData.ensures in
    answer_is c.args.self.now c.args.question.now.name c.args.question.now.qtype NoData r.code r.aa r.answers r.authority
    (sym c.in-NoData.is ∙ c.in_ok-found.ensures ∙ ap (λ (name : List (List ℕ)). look_of c.args.self.now name c.question.inside.qtype) c.again.ensures
    ∙ ap (λ (q : Question). look_of c.args.self.now q.name q.qtype) c.question.view_is)
    is.aa (rw (is.code, is.answers, c.none-in-NoData.ensures, is.authority, c.negative_soa-in-NoData.ensures ∙ ap negative_soa c.map-map.ensures.is) refl)

pub returns-in_ok-follow-in-Alias-clause-is : goal.returns-in_ok-follow-in-Alias-clause-is
returns-in_ok-follow-in-Alias-clause-is c =
    let r = c.follow.new.answer in
    answer_is c.args.self.now c.args.question.now.name c.args.question.now.qtype (Alias c.in-Alias.one) r.code r.aa r.answers r.authority
    (sym c.in-Alias.is ∙ c.in_ok-found.ensures ∙ ap (λ (name : List (List ℕ)). look_of c.args.self.now name c.question.inside.qtype) c.again.ensures
    ∙ ap (λ (q : Question). look_of c.args.self.now q.name q.qtype) c.question.view_is)
    c.in_ok-follow-in-Alias.ensures.own (rw c.new-aliases.ensures.items at c.in_ok-follow-in-Alias.ensures.is)
