use Rattle.std.proofs.Common.{◌≡◌, ℕ, List, Option, Some, None, length, sym, ap, subst, subst₂, ◌∙◌, arith, rules}
use mathlib.Core.Option.{some-injective}
use lib.ListN.{get_elem?}
use Rattle.dns_book.specs.Book.{IsKept}
use Rattle.dns_ticket_lock.specs.Rule.{terms_of}
use Rattle.dns_ticket_lock.specs.Settling.{Names}
use Rattle.dns_ticket_lock.specs.Passes.{BookSeen, AreAll, ClosedFor}
use Rattle.dns_ticket_lock.proofs.Ends.{closes, closed_for, some_is}
use Rattle.dns_ticket_lock.proofs.pass.TicketBook.close.Goals as goal

pub overflow_cast-seats : goal.overflow_cast-seats
overflow_cast-seats g c =
    let len : c.len-seats.result ≡ length c.args.passes.items = search rules in
    let is : c.args.self ≡ record { id = c.self.inside.table.shared.table_id; terms = terms_of c.self.inside.table.shared.key.views } = sym c.self.view_is in
    let many = c.requires.all.many in
    let seats = ap (λ (b : BookSeen). b.terms.seats) is in
    let few = c.self.invariant.3 in
    omega arith

pub join_all-seat-requires-clause-all : goal.join_all-seat-requires-clause-all
join_all-seat-requires-clause-all g c =
    let len : c.len-seats.result ≡ length c.args.passes.items = search rules in
    let is : c.args.self ≡ record { id = c.self.inside.table.shared.table_id; terms = terms_of c.self.inside.table.shared.key.views } = sym c.self.view_is in
    let all = subst (λ (b : BookSeen). AreAll b.id b.terms.seats c.args.passes.items) is c.requires.all in
    let many = all.many in
    let some_seats = c.self.invariant.2 in
    let few = c.self.invariant.3 in
    (subst (λ (n : ℕ). AreAll c.self.inside.table.shared.table_id n c.args.passes.items) (sym many ∙ sym len) all, omega arith, omega arith)

pub unreachable-requires : goal.unreachable-requires
unreachable-requires g c =
    let t = terms_of c.self.inside.table.shared.key.views in
    let len : c.len-seats.result ≡ length c.args.passes.items = search rules in
    let is : c.args.self ≡ record { id = c.self.inside.table.shared.table_id; terms = t } = sym c.self.view_is in
    let all = subst (λ (b : BookSeen). AreAll b.id b.terms.seats c.args.passes.items) is c.requires.all in
    let seat = c.join_all-seat.result in
    let rests = c.join_all-seat.ensures.rests in
    let many : length seat.me.0.accounts ≡ t.seats = c.join_all-seat.ensures.many ∙ (len ∙ all.many) in
    let last = c.close_with-closed.ensures.values.2 in
    let got = closes _ t last.0 last.1.0 seat.id seat.me.0 last.1.1 rests.1 rests.2 many in
    let there = last.4 0 (Some got.0) (ap (λ (l : List (mathlib.Core.Option.Option (Option _))). get_elem? l 0) got.1) in
    let is_slot : Some got.0 ≡ c.take-slot.result = some-injective (Some got.0) c.take-slot.result (sym there ∙ c.take-slot.ensures.value) in
    let no_book : Some got.0 ≡ None = is_slot ∙ c.in-None.is in
    grind arith

pub returns : goal.returns
returns g c =
    let t = terms_of c.self.inside.table.shared.key.views in
    let len : c.len-seats.result ≡ length c.args.passes.items = search rules in
    let is : c.args.self ≡ record { id = c.self.inside.table.shared.table_id; terms = t } = sym c.self.view_is in
    let all = subst (λ (b : BookSeen). AreAll b.id b.terms.seats c.args.passes.items) is c.requires.all in
    let seat = c.join_all-seat.result in
    let rests = c.join_all-seat.ensures.rests in
    let many : length seat.me.0.accounts ≡ t.seats = c.join_all-seat.ensures.many ∙ (len ∙ all.many) in
    let last = c.close_with-closed.ensures.values.2 in
    let got = closes _ t last.0 last.1.0 seat.id seat.me.0 last.1.1 rests.1 rests.2 many in
    let there = last.4 0 (Some got.0) (ap (λ (l : List (mathlib.Core.Option.Option (Option _))). get_elem? l 0) got.1) in
    let is_slot : Some got.0 ≡ c.take-slot.result = some-injective (Some got.0) c.take-slot.result (sym there ∙ c.take-slot.ensures.value) in
    let h = c.in-Some.held in
    let same : got.0 ≡ h = some_is got.0 h (is_slot ∙ c.in-Some.is) in
    let n : Names g.K.Keeper.keeper t got.2 got.3 h.value.book h.value.members.items h.value.start = subst (λ (y : _). Names g.K.Keeper.keeper t got.2 got.3 y.value.book y.value.members.items y.value.start) same got.4 in
    let back : c.book_of-book.result ≡ h.value.book = c.book_of-book.ensures ∙ ap (λ (x : _). x.book) c.into_inner.ensures in
    let kept = subst (λ (b : _). IsKept g.K.Keeper.keeper b) back c.journal_len-rows.ensures.book in
    subst₂ (λ (t2 : BookSeen) (b : _). ClosedFor g.K.Keeper.keeper t2.terms c.args.passes.items b) (sym is) (sym back)
    (closed_for g.K.Keeper.keeper t c.args.passes.items seat.me.0.accounts h.value.book got.2 got.3 h.value.members.items h.value.start n got.5 got.6 got.7 got.8 many h.value.sums h.value.marked kept
    c.join_all-seat.ensures.found c.join_all-seat.ensures.faults)
