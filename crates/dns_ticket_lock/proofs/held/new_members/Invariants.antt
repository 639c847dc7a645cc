use Rattle.std.proofs.Common.{◌≡◌, replicate}
use Rattle.dns_ticket_lock.specs.Shares.{new_member}
use Rattle.dns_ticket_lock.proofs.held.new_members.Given as goal

abbrev pub invariant-loop : goal.invariant-loop
invariant-loop l = l.members.items ≡ replicate l.counter new_member
