use Rattle.std.proofs.Common.{rules, arith, Ok, Err, subst, true, false, refl, ap, [], ◌∙◌, ◌≡◌, ◌+◌, ◌≤◌, length}
use Rattle.std.proofs.lemmas.Result.{err_from_is_err_and}
use Rattle.std.proofs.lemmas.List.{length-append}
use Rattle.dns_transport.specs.declared.error.NetError.{NetError}
use Rattle.dns_transport.specs.declared.error.NetError.TheVariants.{BadRequest}
use Rattle.dns_transport.specs.declared.error.BadRequestKind.TheVariants.{Length}
use Rattle.dns_transport.specs.Pieces.{GivesNext}
use Rattle.dns_io.proofs.ToldContents.{Told-same}
use Rattle.dns_net.specs.Bodies.{is_said, begun, went_on}
use Rattle.dns_net.proofs.Fetching.{TakesBytes, Takes-nothing, bytes-ended, bytes-more, bytes-no-memory, bytes-past, bytes-within, took-more, took-past, took-short, took-all, ended, no-memory, whole-as-said, whole-not-said}
use Rattle.dns_net.proofs.Reading.{asked, broke, no-room, no-call}
use Rattle.dns_net.proofs.fetch.fetch_body.Goals as goal

pub returns-then-len-clause-told : goal.returns-then-len-clause-told
returns-then-len-clause-told g c =
    let next = subst (λ given. GivesNext (g.P.BodyPieces.told c.loop-body.stream).left (g.P.BodyPieces.told c.next.new.self).left given) c.in-Some.is c.in_ok-piece.ensures.told.given in
    took-past _ (g.P.BodyPieces.told c.loop-body.stream).left _ c.loop-body.body c.in-Some.piece c.loop-body.invariant.0 next c.loop-body.invariant.1 (omega (arith, c.if-len.true, c.len.ensures.value, c.len-in-Some.ensures))

pub loop-body-preserved : goal.loop-body-preserved
loop-body-preserved g c =
    let next = subst (λ given. GivesNext (g.P.BodyPieces.told c.loop-body.stream).left (g.P.BodyPieces.told c.next.new.self).left given) c.in-Some.is c.in_ok-piece.ensures.told.given in
    let more = took-more _ (g.P.BodyPieces.told c.loop-body.stream).left _ c.loop-body.body c.in-Some.piece c.loop-body.invariant.0 next in
    let bytes = bytes-more (g.P.BodyPieces.told c.args.stream.now).left_bytes (g.P.BodyPieces.told c.loop-body.stream).left_bytes (g.P.BodyPieces.told c.next.new.self).left_bytes c.loop-body.body c.in-Some.piece c.loop-body.invariant.2 (rw c.in-Some.is at c.in_ok-piece.ensures.told.bytes_given) in
    let short : length c.loop-body.body + length c.in-Some.piece ≤ 65535 = omega (arith, c.loop-body.invariant.1, c.if-len.false, c.len.ensures.value, c.len-in-Some.ensures) in
    let piece = asked g.P.BodyPieces.told c.loop-body.stream c.next.new.self _ _ c.in-Some.is c.in_ok-piece.ensures.told in
    rw (c.in_ok-append.ensures.ok, c.as_slice.ensures) (more, rw length-append short, bytes, search rules, went_on c.loop-body.invariant.4 piece)

pub loop-body-preserved-in_ok-append : goal.loop-body-preserved-in_ok-append
loop-body-preserved-in_ok-append g c =
    let next = subst (λ given. GivesNext (g.P.BodyPieces.told c.loop-body.stream).left (g.P.BodyPieces.told c.next.new.self).left given) c.in-Some.is c.in_ok-piece.ensures.told.given in
    let more = took-more _ (g.P.BodyPieces.told c.loop-body.stream).left _ c.loop-body.body c.in-Some.piece c.loop-body.invariant.0 next in
    let bytes = bytes-more (g.P.BodyPieces.told c.args.stream.now).left_bytes (g.P.BodyPieces.told c.loop-body.stream).left_bytes (g.P.BodyPieces.told c.next.new.self).left_bytes c.loop-body.body c.in-Some.piece c.loop-body.invariant.2 (rw c.in-Some.is at c.in_ok-piece.ensures.told.bytes_given) in
    let short : length c.loop-body.body + length c.in-Some.piece ≤ 65535 = omega (arith, c.loop-body.invariant.1, c.if-len.false, c.len.ensures.value, c.len-in-Some.ensures) in
    let piece = asked g.P.BodyPieces.told c.loop-body.stream c.next.new.self _ _ c.in-Some.is c.in_ok-piece.ensures.told in
    rw (c.in_ok-append.ensures.ok, c.as_slice.ensures) (more, rw length-append short, bytes, search rules, went_on c.loop-body.invariant.4 piece)

pub returns-in_err-append-clause-told : goal.returns-in_err-append-clause-told
returns-in_err-append-clause-told g c =
    let next = subst (λ given. GivesNext (g.P.BodyPieces.told c.loop-body.stream).left (g.P.BodyPieces.told c.next.new.self).left given) c.in-Some.is c.in_ok-piece.ensures.told.given in
    let more = took-more _ (g.P.BodyPieces.told c.loop-body.stream).left _ c.loop-body.body c.in-Some.piece c.loop-body.invariant.0 next in
    let short : length c.loop-body.body + length c.in-Some.piece ≤ 65535 = omega (arith, c.loop-body.invariant.1, c.if-len.false, c.len.ensures.value, c.len-in-Some.ensures) in
    no-memory c.args.length _ (g.P.BodyPieces.told c.args.stream.now).left (g.P.BodyPieces.told c.next.new.self).left (search rules) (took-short _ _ _ more (rw length-append short))

pub returns-then-not-is_said-clause-told : goal.returns-then-not-is_said-clause-told
returns-then-not-is_said-clause-told g c =
    let end = subst (λ given. GivesNext (g.P.BodyPieces.told c.loop-body.stream).left (g.P.BodyPieces.told c.next.new.self).left given) c.in_default.is c.in_ok-piece.ensures.told.given in
    let all = took-all (g.P.BodyPieces.told c.args.stream.now).left (g.P.BodyPieces.told c.loop-body.stream).left _ c.loop-body.body c.loop-body.invariant.0 end in
    let other : is_said c.args.length (length c.loop-body.body) ≡ false = rw (← c.len-2.ensures) (rw (← c.is_said.ensures) c.if-not-is_said.true) in
    ended c.args.length _ _ c.loop-body.body (Err (BadRequest Length)) all (whole-not-said _ _ c.loop-body.invariant.1 other) (λ left rest is whole. (is, whole))

pub returns-clause-told : goal.returns-clause-told
returns-clause-told g c =
    let end = subst (λ given. GivesNext (g.P.BodyPieces.told c.loop-body.stream).left (g.P.BodyPieces.told c.next.new.self).left given) c.in_default.is c.in_ok-piece.ensures.told.given in
    let all = took-all (g.P.BodyPieces.told c.args.stream.now).left (g.P.BodyPieces.told c.loop-body.stream).left _ c.loop-body.body c.loop-body.invariant.0 end in
    let same : is_said c.args.length (length c.loop-body.body) ≡ true = rw (← c.len-2.ensures) (rw (← c.is_said.ensures) c.if-not-is_said.false) in
    ended c.args.length _ _ c.loop-body.body (Ok c.loop-body.body) all (whole-as-said _ _ c.loop-body.invariant.1 same) (λ left rest is whole. (is, whole))

pub returns-then-len-clause-told_bytes : goal.returns-then-len-clause-told_bytes
returns-then-len-clause-told_bytes g c =
    let bytes = bytes-more (g.P.BodyPieces.told c.args.stream.now).left_bytes (g.P.BodyPieces.told c.loop-body.stream).left_bytes (g.P.BodyPieces.told c.next.new.self).left_bytes c.loop-body.body c.in-Some.piece c.loop-body.invariant.2 (rw c.in-Some.is at c.in_ok-piece.ensures.told.bytes_given) in
    bytes-past _ _ c.loop-body.body c.in-Some.piece bytes (omega (arith, c.if-len.true, c.len.ensures.value, c.len-in-Some.ensures))

pub returns-in_err-append-clause-told_bytes : goal.returns-in_err-append-clause-told_bytes
returns-in_err-append-clause-told_bytes g c =
    let bytes = bytes-more (g.P.BodyPieces.told c.args.stream.now).left_bytes (g.P.BodyPieces.told c.loop-body.stream).left_bytes (g.P.BodyPieces.told c.next.new.self).left_bytes c.loop-body.body c.in-Some.piece c.loop-body.invariant.2 (rw c.in-Some.is at c.in_ok-piece.ensures.told.bytes_given) in
    let short : length c.loop-body.body + length c.in-Some.piece ≤ 65535 = omega (arith, c.loop-body.invariant.1, c.if-len.false, c.len.ensures.value, c.len-in-Some.ensures) in
    bytes-no-memory c.args.length _ (g.P.BodyPieces.told c.args.stream.now).left_bytes (g.P.BodyPieces.told c.next.new.self).left_bytes (search rules) (bytes-within _ _ _ bytes (rw length-append short))

pub returns-then-not-is_said-clause-told_bytes : goal.returns-then-not-is_said-clause-told_bytes
returns-then-not-is_said-clause-told_bytes g c =
    let other : is_said c.args.length (length c.loop-body.body) ≡ false = rw (← c.len-2.ensures) (rw (← c.is_said.ensures) c.if-not-is_said.true) in
    bytes-ended c.args.length _ (g.P.BodyPieces.told c.loop-body.stream).left_bytes _ c.loop-body.body (Err (BadRequest Length)) c.loop-body.invariant.2 (rw c.in_default.is at c.in_ok-piece.ensures.told.bytes_given)
    (whole-not-said _ _ c.loop-body.invariant.1 other) (λ left rest is whole. (is, whole))

pub returns-clause-told_bytes : goal.returns-clause-told_bytes
returns-clause-told_bytes g c =
    let same : is_said c.args.length (length c.loop-body.body) ≡ true = rw (← c.len-2.ensures) (rw (← c.is_said.ensures) c.if-not-is_said.false) in
    bytes-ended c.args.length _ (g.P.BodyPieces.told c.loop-body.stream).left_bytes _ c.loop-body.body (Ok c.loop-body.body) c.loop-body.invariant.2 (rw c.in_default.is at c.in_ok-piece.ensures.told.bytes_given)
    (whole-as-said _ _ c.loop-body.invariant.1 same) (λ left rest is whole. (is, whole))

pub returns-in_err-with_capacity-clause-read : goal.returns-in_err-with_capacity-clause-read
returns-in_err-with_capacity-clause-read g c = no-call g.P.BodyPieces.told _ _ _ (search rules)

pub loop-body-init : goal.loop-body-init
loop-body-init g c =
    rw (c.from_vec-body.ensures, c.in_ok-with_capacity.ensures.items)
    (Told-same (TakesBytes []) (λ x. record { front = []; parts = refl; taken = refl }) _, omega arith, Takes-nothing _, refl, begun)

pub returns-in_err-piece-clause-read : goal.returns-in_err-piece-clause-read
returns-in_err-piece-clause-read g c =
    let p = err_from_is_err_and c.from_residual-in_err-piece.result c.from_residual-in_err-piece.ensures.1 in
    broke g.P.BodyPieces.told c.args.length _ c.loop-body.stream _ c.loop-body.body c.in_err-piece.field-0.0 _
    (p.1 ∙ ap (λ (x : NetError). Err x) p.2) c.loop-body.invariant.4 c.loop-body.invariant.1 c.in_err-piece.ensures.told

pub returns-in_err-append-clause-read : goal.returns-in_err-append-clause-read
returns-in_err-append-clause-read g c =
    let piece = asked g.P.BodyPieces.told c.loop-body.stream c.next.new.self _ _ c.in-Some.is c.in_ok-piece.ensures.told in
    no-room g.P.BodyPieces.told _ _ _ _ _ _ _ (search rules) c.loop-body.invariant.4 c.loop-body.invariant.1 piece
    (omega (arith, c.loop-body.invariant.1, c.if-len.false, c.len.ensures.value, c.len-in-Some.ensures))

pub returns-then-len-clause-read : goal.returns-then-len-clause-read
returns-then-len-clause-read g c =
    let piece = asked g.P.BodyPieces.told c.loop-body.stream c.next.new.self _ _ c.in-Some.is c.in_ok-piece.ensures.told in
    record {
      kept = c.loop-body.body;
      between = c.loop-body.stream;
      given = c.loop-body.invariant.4;
      short = c.loop-body.invariant.1;
      ended = (c.in-Some.piece, piece, omega (arith, c.if-len.true, c.len.ensures.value, c.len-in-Some.ensures));
    }

pub returns-then-not-is_said-clause-read : goal.returns-then-not-is_said-clause-read
returns-then-not-is_said-clause-read g c =
    let end = asked g.P.BodyPieces.told c.loop-body.stream c.next.new.self _ _ c.in_default.is c.in_ok-piece.ensures.told in
    record {
      kept = c.loop-body.body;
      between = c.loop-body.stream;
      given = c.loop-body.invariant.4;
      short = c.loop-body.invariant.1;
      ended = (end, rw (← c.len-2.ensures) (rw (← c.is_said.ensures) c.if-not-is_said.true));
    }

pub returns-clause-read : goal.returns-clause-read
returns-clause-read g c =
    let end = asked g.P.BodyPieces.told c.loop-body.stream c.next.new.self _ _ c.in_default.is c.in_ok-piece.ensures.told in
    record {
      kept = c.loop-body.body;
      between = c.loop-body.stream;
      given = c.loop-body.invariant.4;
      short = c.loop-body.invariant.1;
      ended = (end, refl, rw (← c.len-2.ensures) (rw (← c.is_said.ensures) c.if-not-is_said.false));
    }
