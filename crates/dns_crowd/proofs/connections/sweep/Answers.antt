-- What of those that are open stood in the order stays.
use Rattle.std.proofs.Common.{◌≡◌, ℕ, List, Bool, rules, subst, sym}
use Rattle.std.specs.List.{Contains, filter}
use Rattle.std.proofs.lemmas.Fn.{filter_same}
use Rattle.dns_crowd.specs.Slots.{has_number}
use Rattle.dns_crowd.proofs.Placed.{each_own}
use Rattle.dns_crowd.proofs.Timed.{stays_in}
use Rattle.dns_crowd.proofs.connections.sweep.Goals as goal

pub returns : goal.returns
returns c =
    let test : ℕ × ℕ → Bool = λ e. has_number c.args.sessions.now e.1 in
    let left : c.retain.new.self ≡ filter test c.args.order.now = filter_same _ _ _ (λ x b f' k. search rules) _ _ c.retain.ensures in
    each_own (λ n. (at : ℕ) → Contains {X = ℕ × ℕ} c.args.order.now (at, n) → Contains {X = ℕ × ℕ} c.retain.new.self (at, n)) c.args.sessions.now
    (λ n has at h. subst (λ (l : List (ℕ × ℕ)). Contains {X = ℕ × ℕ} l (at, n)) (sym left) (stays_in test c.args.order.now (at, n) has h))
