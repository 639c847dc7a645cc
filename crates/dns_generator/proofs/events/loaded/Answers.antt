-- One message more.
use Rattle.std.proofs.Common.{◌≡◌, ℕ, suc, ◌+◌, ◌++◌, ap, ◌∙◌, arith}
use Rattle.dns_generator.specs.Draws.{next_state, state_after, drawn}
use Rattle.dns_generator.specs.Loaded.{coming, loaded}
use Rattle.dns_generator.proofs.events.loaded.Goals as goal

one_more : (n : ℕ) → suc n ≡ n + 1
one_more n = omega arith

pub loop-number-preserved : goal.loop-number-preserved
loop-number-preserved c =
    let n = c.loop-number.number in
    let seed = c.args.seed in
    let step : c.next_state-state.result ≡ state_after seed (suc n) = c.next_state-state.ensures ∙ ap next_state c.loop-number.invariant.state in
    let draw : c.of.result.0 ≡ drawn (state_after seed (suc n)) = c.of.ensures ∙ ap drawn step in
    let so_far : loaded seed n ++ coming n c.of.result.0 ≡ loaded seed (suc n) = ap (λ d. loaded seed n ++ coming n d) draw in
    record {
      state = step ∙ ap (state_after seed) (one_more n);
      so_far = c.in_ok-put_coming.ensures ∙ ap (λ es. es ++ coming n c.of.result.0) c.loop-number.invariant.so_far ∙ so_far ∙ ap (loaded seed) (one_more n);
    }
