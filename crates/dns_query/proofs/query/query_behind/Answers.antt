use Rattle.std.proofs.Common.{refl, arith}
use Rattle.dns_query.proofs.Whole.{plain_of, plain_message, no_room, no_beside}
use Rattle.dns_query.proofs.query.query_behind.Goals as goal

pub returns-then-m-end-lt4-clause-none : goal.returns-then-m-end-lt4-clause-none
returns-then-m-end-lt4-clause-none c =
    let name = c.in-Some.ensures.found in
    no_room _ _ _ name.1 (omega (arith, c.if-m-end-lt4.true, name.1.within))

pub returns-in_default-read_beside-clause-none : goal.returns-in_default-read_beside-clause-none
returns-in_default-read_beside-clause-none c =
    let name = c.in-Some.ensures.found in
    no_beside _ _ _ _ c.requires name.1 c.in_default-read_beside.ensures.none

pub returns-clause-plain : goal.returns-clause-plain
returns-clause-plain c =
    plain_of _ _ _ _ _ _ _ c.requires (c.if-not-has_plain_form.ensures.0 refl) c.name_between.ensures (omega (arith, c.if-m-end-lt4.false, c.name_between.ensures.within)) c.word.ensures c.word-2.ensures c.in-Some-read_beside.ensures.found

pub returns-clause-message : goal.returns-clause-message
returns-clause-message c =
    plain_message _ _ (plain_of _ _ _ _ _ _ _ c.requires (c.if-not-has_plain_form.ensures.0 refl) c.name_between.ensures (omega (arith, c.if-m-end-lt4.false, c.name_between.ensures.within)) c.word.ensures c.word-2.ensures c.in-Some-read_beside.ensures.found)
