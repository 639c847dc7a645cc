use Rattle.std.proofs.Common.{◌≡◌, ◌∙◌, ℤ, w64, to_z, of_z, sym, subst, refl}
use Rattle.std.proofs.lemmas.Result.{err_from_is_err_and}
use Rattle.std.proofs.lemmas.Int.{to_z-of_z}
use Rattle.dns_edges.specs.Edges.{around}
use Rattle.dns_follow.specs.Feeding.{SendsNot, long, row_id}
use Rattle.dns_follow.specs.declared.feed_fault.FeedFault.TheVariants.{TooLong}
use Rattle.dns_follow.proofs.SentFeeds.{cut_off, not_handed_on, all_sent}
use Rattle.dns_follow.proofs.feeding.send.Goals as goal

pub returns-in_err-put_frames : goal.returns-in_err-put_frames
returns-in_err-put_frames g c =
    let p = err_from_is_err_and c.from_residual.result c.from_residual.ensures.1 in
    rw p.1 (record {
      ok = tt;
      err = cut_off (around g.W.Sink.sink.told c.args.out.now c.put_frames.new.out) c.args.frames.now c.in_err-put_frames.field-0.0 p.0 p.2 c.in_err-put_frames.ensures;
    })

pub returns-in_err-flush : goal.returns-in_err-flush
returns-in_err-flush g c =
    let told = g.W.Sink.sink.told in
    let p = err_from_is_err_and c.from_residual-in_err-flush.result c.from_residual-in_err-flush.ensures.1 in
    rw p.1 (record {
      ok = tt;
      err = not_handed_on (told c.args.out.now) (told c.put_frames.new.out) (told c.flush.new.self) c.args.frames.now c.in_err-flush.field-0.0 p.0 p.2
          c.in_ok-put_frames.ensures c.in_err-flush.ensures.told;
    })

pub returns-in-Some : goal.returns-in-Some
returns-in-Some g c =
    let output = around g.W.Sink.sink.told c.args.out.now c.put_frames.new.out in
    let is : to_z w64 (of_z w64 c.row_id.result) ≡ row_id c.in-Some.row = to_z-of_z w64 c.row_id.result c.row_id.ensures.fits ∙ c.row_id.ensures.is in
    record {
      ok = tt;
      err = subst (λ (row : ℤ). SendsNot output c.args.frames.now (TooLong row)) (sym is)
          (long (sym c.too_long.ensures ∙ c.in-Some.is) c.in_ok-put_frames.ensures.ok c.in_ok-put_frames.ensures.cause.counts);
    }

pub returns : goal.returns
returns g c =
    let told = g.W.Sink.sink.told in
    record {
      ok = all_sent (told c.args.out.now) (told c.put_frames.new.out) (told c.flush.new.self) c.args.frames.now _
          (sym c.in_default.is ∙ c.too_long.ensures) c.in_ok-put_frames.ensures c.in_ok-flush.ensures.told refl;
      err = tt;
    }
