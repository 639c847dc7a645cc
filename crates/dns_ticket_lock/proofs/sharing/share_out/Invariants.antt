use Rattle.std.proofs.Common.{◌≡◌, ◌+◌, ◌-◌, ◌≤◌, length, replicate, vec_capacity, []}
use Rattle.dns_ticket_lock.specs.declared.view.Phase.TheVariants.{Idle}
use Rattle.dns_ticket_lock.specs.Rule.{fresh, terms_of}
use Rattle.dns_ticket_lock.specs.Passes.{InOrder, AreNew}
use Rattle.dns_ticket_lock.proofs.sharing.share_out.Given as goal

abbrev pub invariant-loop-number : goal.invariant-loop-number
invariant-loop-number g l = record {
  table : l.rest.table_id ≡ l.board.table_id;
  bare : l.rest.me.1 ≡ [];
  rests : l.rest.me.0.phase ≡ Idle;
  at : l.rest.me.0.low + 1 ≡ l.number;
  terms : l.rest.me.0.terms ≡ terms_of l.board.key.views;
  accounts : l.rest.me.0.accounts ≡ replicate (l.seats + 1 - l.number) (fresh (terms_of l.board.key.views));
  many : length l.passes.items + 1 ≡ l.number;
  room : l.seats ≤ vec_capacity l.passes;
  order : InOrder l.board.table_id l.passes.items;
  new : AreNew (terms_of l.board.key.views) l.passes.items;
}
