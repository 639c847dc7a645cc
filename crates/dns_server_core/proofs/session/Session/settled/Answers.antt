-- None was whole, or all that it may have are let go.
use Rattle.std.proofs.Common.{◌≡◌, ◌≤◌, ◌+◌, ◌-◌, ap, arith, List, ℕ, length, subst, sym}
use Rattle.dns_server_core.specs.Connections.{Connection, messages_left}
use Rattle.dns_server_core.specs.Steps.{fed_by}
use Rattle.dns_server_core.proofs.FirstFrames.{behind_le, fed_none, fed_some, first_count}
use Rattle.dns_server_core.proofs.session.Session.settled.Goals as goal

pub returns-then-answered-eq0 : goal.returns-then-answered-eq0
returns-then-answered-eq0 c = fed_none c.args.self.now c.args.at (subst (λ (n : ℕ). n ≡ 0) c.requires.messages c.if-answered-eq0.true)

pub keep_last-requires : goal.keep_last-requires
keep_last-requires c =
    let rest = ap (λ (k : Connection). k.rest) c.self.view_is in
    subst (λ (l : List ℕ). c.args.answered.rest ≤ length l) (sym rest)
    (subst (λ (n : ℕ). n ≤ length c.args.self.now.rest) (sym c.requires.rest) (behind_le (messages_left c.args.self.now) c.args.self.now.rest))

pub returns : goal.returns
returns c =
    let s = c.self.inside in
    let k : Connection = record { number = s.number; peer = s.peer; limit = s.limit; base = s.base; rest = s.unread.items; taken = s.taken } in
    let messages = rw (← c.self.view_is) at c.requires.messages in
    let rest = rw (← c.self.view_is) at c.requires.rest in
    let left = ap (λ (l : List ℕ). record { number = s.number; peer = s.peer; limit = s.limit; base = c.args.at; rest = l; taken = s.taken + c.args.answered.messages }) c.keep_last.ensures in
    subst (λ (old : Connection). record { number = s.number; peer = s.peer; limit = s.limit; base = c.args.at; rest = c.keep_last.new.bytes.items; taken = s.taken + c.args.answered.messages } ≡ fed_by old c.args.at old.rest) c.self.view_is
    (fed_some k _ c.args.at c.args.answered.messages c.args.answered.rest messages c.if-answered-eq0.false rest left)

pub overflow_add-self : goal.overflow_add-self
overflow_add-self c =
    let messages = rw (← c.self.view_is) at c.requires.messages in
    let few = first_count (100 - c.self.inside.taken) c.self.inside.unread.items in
    omega (arith, messages, few)
