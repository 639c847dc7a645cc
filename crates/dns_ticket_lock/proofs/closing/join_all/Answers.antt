use Rattle.std.proofs.Common.{◌≡◌, inl, inr, ⊎_elim, ℕ, suc, ◌+◌, ◌-◌, List, [], ◌∷◌, ◌++◌, length, sym, ap, subst, ◌∙◌, arith}
use mathlib.Core.Option.{some}
use lib.ListN.{get_elem?}
use Rattle.atomic_table.specs.Table.{Me}
use Rattle.dns_ticket_lock.specs.declared.view.Account.{Account}
use Rattle.dns_ticket_lock.specs.declared.view.View.{View}
use Rattle.dns_ticket_lock.specs.Lists.{total}
use Rattle.dns_ticket_lock.specs.Rule.{terms_of, faults_of}
use Rattle.dns_ticket_lock.specs.Passes.{PassSeen, pass_faults}
use Rattle.dns_ticket_lock.proofs.Ends.{joins}
use Rattle.dns_ticket_lock.proofs.Removed.{none_left, no_faults}
use Rattle.dns_ticket_lock.proofs.closing.join_all.Goals as goal

pub take_out-requires-in-loop-number : goal.take_out-requires-in-loop-number
take_out-requires-in-loop-number g c =
    let i = c.loop-number.invariant in
    let more = c.loop-number-test.true in
    (i.left, omega arith)

pub join_seat-requires : goal.join_seat-requires
join_seat-requires g c =
    let i = c.loop-number.invariant in
    let o = c.take_out-in-loop-number.ensures in
    let more = c.loop-number-test.true in
    let words = c.requires.board.0 in
    let e = c.seat_of-seat.ensures in
    let v : View = c.seat_of-seat.result.me.0 in
    let place = e.rests.2 in
    let number = o.is.0 in
    let one = ap (λ (l : List Account). length l) e.account in
    let at = i.at in
    (e.table ∙ o.is.1, i.table, i.bare, omega arith, joins g.T.Carried.names (terms_of c.args.board.now.key.views) c.seat_of-seat.result.id v c.loop-number.all.id c.loop-number.all.me.0 e.rests.1 i.rests (omega arith) (omega arith))

pub loop-number-preserved : goal.loop-number-preserved
loop-number-preserved g c =
    let i = c.loop-number.invariant in
    let p : PassSeen = c.take_out-in-loop-number.result in
    let o = c.take_out-in-loop-number.ensures in
    let more = c.loop-number-test.true in
    let e = c.seat_of-seat.ensures in
    let j = c.join_seat.ensures in
    let old : List Account = c.loop-number.all.me.0.accounts in
    let now : List Account = c.join_seat.new.seat.me.0.accounts in
    let accounts : now ≡ p.account ∷ old = ap (λ (m : Me _ View). m.0.accounts) j.2 ∙ ap (λ (l : List Account). l ++ old) e.account in
    let long : length now ≡ length old + 1 = ap (λ (l : List Account). length l) accounts ∙ (omega arith) in
    let faults : total faults_of now ≡ pass_faults p + total faults_of old = ap (λ (l : List Account). total faults_of l) accounts in
    let many = i.many in
    let sum = i.sum in
    let taken = o.faults in
    let p_number : p.number ≡ c.loop-number.number - 1 = o.is.0 in
    let as_first : (q : PassSeen) → q ≡ p → (d : ℕ) × (q.number ≡ c.loop-number.number - 1 + d) × (get_elem? now d ≡ some q.account) = λ q is.
    let q_number : q.number ≡ p.number = ap (λ (x : PassSeen). x.number) is in
    let number : q.number ≡ c.loop-number.number - 1 + 0 = omega arith in
    (0, number, subst (λ (l : List Account). get_elem? l 0 ≡ some q.account) (sym accounts) (ap (λ (x : PassSeen). some x.account) (sym is))) in
    let as_before : (q : PassSeen) → ((d : ℕ) × (q.number ≡ c.loop-number.number + d) × (get_elem? old d ≡ some q.account)) → (d : ℕ) × (q.number ≡ c.loop-number.number - 1 + d) × (get_elem? now d ≡ some q.account) = λ q f.
    let its : q.number ≡ c.loop-number.number + f.0 = f.1 in
    let number : q.number ≡ c.loop-number.number - 1 + suc f.0 = omega arith in
    (suc f.0, number, subst (λ (l : List Account). get_elem? l (suc f.0) ≡ some q.account) (sym accounts) f.2) in
    record {
      table = j.0 ∙ (e.table ∙ o.is.1);
      bare = ap (λ (m : Me _ View). m.1) j.2 ∙ e.rests.0;
      rests = ap (λ (m : Me _ View). m.0.phase) j.2 ∙ e.rests.1;
      more = omega arith;
      at = ap (λ (m : Me _ View). m.0.low + 1) j.2 ∙ (e.rests.2 ∙ o.is.0);
      many = omega arith;
      left = o.left;
      found = λ k q at. ⊎_elim
          (λ still. ⊎_elim (λ there. inl there) (λ is. inr (as_first q is)) (o.found still.0 q still.1))
          (λ found. inr (as_before q found))
          (i.found k q at);
      sum = omega arith;
    }

pub loop-number-init : goal.loop-number-init
loop-number-init g c =
    let p : PassSeen = c.take_out.result in
    let o = c.take_out.ensures in
    let e = c.seat_of-all.ensures in
    let now : List Account = c.seat_of-all.result.me.0.accounts in
    let accounts : now ≡ p.account ∷ [] = e.account in
    let long : length now ≡ 1 = ap (λ (l : List Account). length l) accounts in
    let faults : total faults_of now ≡ pass_faults p + 0 = ap (λ (l : List Account). total faults_of l) accounts in
    let some_pass = c.requires.all.1 in
    let taken = o.faults in
    let p_number : p.number ≡ c.args.seats = o.is.0 in
    let as_first : (q : PassSeen) → q ≡ p → (d : ℕ) × (q.number ≡ c.args.seats + d) × (get_elem? now d ≡ some q.account) = λ q is.
    let q_number : q.number ≡ p.number = ap (λ (x : PassSeen). x.number) is in
    let number : q.number ≡ c.args.seats + 0 = omega arith in
    (0, number, subst (λ (l : List Account). get_elem? l 0 ≡ some q.account) (sym accounts) (ap (λ (x : PassSeen). some x.account) (sym is))) in
    record {
      table = e.table ∙ o.is.1;
      bare = e.rests.0;
      rests = e.rests.1;
      more = some_pass;
      at = e.rests.2 ∙ o.is.0;
      many = omega arith;
      left = o.left;
      found = λ k q at. ⊎_elim (λ there. inl there) (λ is. inr (as_first q is)) (o.found k q at);
      sum = omega arith;
    }

pub returns-clause-table : goal.returns-clause-table
returns-clause-table g c = c.loop-number.invariant.table

pub returns-clause-rests : goal.returns-clause-rests
returns-clause-rests g c =
    let i = c.loop-number.invariant in
    let stop = c.loop-number-test.false in
    let more = i.more in
    let at = i.at in
    (i.bare, i.rests, omega arith)

pub returns-clause-many : goal.returns-clause-many
returns-clause-many g c =
    let i = c.loop-number.invariant in
    let stop = c.loop-number-test.false in
    let more = i.more in
    let many = i.many in
    omega arith

pub returns-clause-found : goal.returns-clause-found
returns-clause-found g c k q at =
    let i = c.loop-number.invariant in
    let stop = c.loop-number-test.false in
    let more = i.more in
    let left = i.left.many in
    ⊎_elim
    (λ still. absurd (none_left c.loop-number.passes.items still.0 q (omega arith) still.1))
    (λ found. (let is = found.1 in (found.0, omega arith, found.2)))
    (i.found k q at)

pub returns-clause-faults : goal.returns-clause-faults
returns-clause-faults g c =
    let i = c.loop-number.invariant in
    let stop = c.loop-number-test.false in
    let more = i.more in
    let left = i.left.many in
    let none = no_faults c.loop-number.passes.items (omega arith) in
    let sum = i.sum in
    omega arith
