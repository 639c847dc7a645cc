-- The first in the order goes from it, or is put off.
use Rattle.std.proofs.Common.{◌≡◌, ◌∙◌, ℕ, List, ◌∷◌, true, false, ap, subst, sym}
use Rattle.std.specs.List.{AllByRecursion, remove}
use Rattle.std.specs.List.Sorted.{IsPermutation}
use Rattle.dns_server_core.specs.Connections.{Connection, is_within}
use Rattle.dns_server_core.specs.Order.{Climbs}
use Rattle.dns_server_core.proofs.ConnectionTurns.{ended_goes}
use Rattle.dns_crowd.specs.Tables.{IsTimed, KeepsTable}
use Rattle.dns_crowd.specs.Turns.{late_numbers, timely}
use Rattle.dns_crowd.proofs.Closings.{removed_gone}
use Rattle.dns_crowd.proofs.Late.{all_remove, front_goes, front_timed, late_alike, late_removed, off_fewer, off_timed, removed_climbs, removed_table, some_ok}
use Rattle.dns_crowd.proofs.deadlines.close_first.Goals as goal

pub returns-in_default-clause-timed : goal.returns-in_default-clause-timed
returns-in_default-clause-timed g c =
    front_timed c.args.last c.args.last c.args.number c.args.order.now c.take_first.new.self c.requires.first
    (front_goes c.args.order.now c.take_first.new.self c.args.last c.args.number c.requires.first c.take_first.ensures)
    c.args.sessions.now c.in_default.ensures.none c.requires.timed

pub returns-then-is_within-clause-timed : goal.returns-then-is_within-clause-timed
returns-then-is_within-clause-timed g c =
    let f = c.requires.first in
    let until = c.last_within-until.result in
    let one = c.in-Some.ensures.some in
    let d : Connection = c.in-Some.session.now in
    let found = ap (λ (k : Connection). k.number) (one.is d) ∙ one.of_number in
    off_timed c.args.last c.args.last c.args.number until c.args.order.now c.put_off.new.self f (c.put_off.ensures (f.at, c.args.number) f.others f.is)
    c.args.sessions.now one.at d c.requires.climbs one.inside found
    (subst (λ (k : Connection). is_within k.limit k.base until ≡ true) (sym (one.is d)) c.last_within-until.ensures.within) c.requires.timed

pub returns-then-is_within-clause-fewer : goal.returns-then-is_within-clause-fewer
returns-then-is_within-clause-fewer g c =
    let f = c.requires.first in
    off_fewer c.args.last c.args.number c.last_within-until.result c.args.order.now c.put_off.new.self f c.last_within-until.ensures.later
    (c.put_off.ensures (f.at, c.args.number) f.others f.is)

pub returns-clause-alike : goal.returns-clause-alike
returns-clause-alike g c =
    let one = c.in-Some.ensures.some in
    let d : Connection = c.in-Some.session.now in
    let found = ap (λ (k : Connection). k.number) (one.is d) ∙ one.of_number in
    let removed = c.end.ensures ∙ sym (ended_goes c.args.last c.args.number c.args.sessions.now one.at d c.requires.climbs one.inside found) in
    let late = subst (λ (k : Connection). is_within k.limit k.base c.args.last ≡ false) (sym (one.is d)) (sym c.is_within.ensures ∙ c.if-is_within.false) in
    ap (timely c.args.last) removed ∙ late_alike c.args.last c.args.sessions.now one.at d one.inside late

pub returns-clause-shut : goal.returns-clause-shut
returns-clause-shut g c =
    let told = g.C.Crowd.told in
    let ks : List Connection = c.args.sessions.now in
    let one = c.in-Some.ensures.some in
    let d : Connection = c.in-Some.session.now in
    let found = ap (λ (k : Connection). k.number) (one.is d) ∙ one.of_number in
    let removed = c.end.ensures ∙ sym (ended_goes c.args.last c.args.number c.args.sessions.now one.at d c.requires.climbs one.inside found) in
    let late = subst (λ (k : Connection). is_within k.limit k.base c.args.last ≡ false) (sym (one.is d)) (sym c.is_within.ensures ∙ c.if-is_within.false) in
    let goes : IsPermutation (late_numbers c.args.last ks) (c.args.number ∷ late_numbers c.args.last (remove ks one.at)) =
    subst (λ (n : ℕ). IsPermutation (late_numbers c.args.last ks) (n ∷ late_numbers c.args.last (remove ks one.at))) found (late_removed c.args.last ks one.at d one.inside late)
    in
    some_ok c.close.result (told c.args.crowd.now).closed (told c.close.new.self).closed c.args.number (late_numbers c.args.last ks) (late_numbers c.args.last c.end.new.self) c.close.ensures.told.grows
    (subst (λ (l : List Connection). IsPermutation (late_numbers c.args.last ks) (c.args.number ∷ late_numbers c.args.last l)) (sym removed) goes)

pub returns-clause-climbs : goal.returns-clause-climbs
returns-clause-climbs g c =
    let one = c.in-Some.ensures.some in
    let d : Connection = c.in-Some.session.now in
    let found = ap (λ (k : Connection). k.number) (one.is d) ∙ one.of_number in
    let removed = c.end.ensures ∙ sym (ended_goes c.args.last c.args.number c.args.sessions.now one.at d c.requires.climbs one.inside found) in
    subst Climbs (sym removed) (removed_climbs c.args.sessions.now one.at d c.args.number c.requires.climbs one.inside found)

pub returns-clause-timed : goal.returns-clause-timed
returns-clause-timed g c =
    let ks : List Connection = c.args.sessions.now in
    let one = c.in-Some.ensures.some in
    let d : Connection = c.in-Some.session.now in
    let found = ap (λ (k : Connection). k.number) (one.is d) ∙ one.of_number in
    let removed = c.end.ensures ∙ sym (ended_goes c.args.last c.args.number c.args.sessions.now one.at d c.requires.climbs one.inside found) in
    subst (λ (l : List Connection). AllByRecursion (IsTimed c.args.last c.take_first-2.new.self) l) (sym removed)
    (front_timed c.args.last c.args.last c.args.number c.args.order.now c.take_first-2.new.self c.requires.first
    (front_goes c.args.order.now c.take_first-2.new.self c.args.last c.args.number c.requires.first c.take_first-2.ensures)
    (remove ks one.at) (removed_gone ks one.at c.args.number d c.requires.climbs one.inside found)
    (all_remove (IsTimed c.args.last c.args.order.now) ks one.at c.requires.timed))

pub returns-clause-kept : goal.returns-clause-kept
returns-clause-kept g c =
    let one = c.in-Some.ensures.some in
    let d : Connection = c.in-Some.session.now in
    let found = ap (λ (k : Connection). k.number) (one.is d) ∙ one.of_number in
    let removed = c.end.ensures ∙ sym (ended_goes c.args.last c.args.number c.args.sessions.now one.at d c.requires.climbs one.inside found) in
    subst (KeepsTable c.args.sessions.now) (sym removed) (removed_table c.args.sessions.now one.at d c.args.number c.requires.climbs one.inside found)
