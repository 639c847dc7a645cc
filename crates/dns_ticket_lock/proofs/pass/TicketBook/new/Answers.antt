use Rattle.std.proofs.Common.{◌≡◌, List, [], ◌∷◌, ◌++◌, length, sym, refl, subst, subst₂, ap, ◌∙◌, Option, Some}
use Rattle.atomic_table.specs.Table.{opening}
use Rattle.dns_ticket_lock.specs.declared.view.Terms.{Terms}
use Rattle.dns_ticket_lock.specs.Naming.{NamesRows, terms_at}
use Rattle.dns_ticket_lock.specs.Rule.{Kept, first_view, terms_of}
use Rattle.dns_ticket_lock.specs.Settling.{Names}
use Rattle.dns_ticket_lock.proofs.Advancing.{opening_named}
use Rattle.dns_ticket_lock.proofs.Ends.{opens}
use Rattle.dns_ticket_lock.proofs.pass.TicketBook.new.Goals as goal

pub new-requires : goal.new-requires
new-requires g c =
    let h = c.in-Ok-new_held.held in
    let book = c.args.book in
    let t : Terms = terms_at g.K.Keeper.keeper book c.args.seats in
    let made = c.in-Ok-new_held.ensures.book in
    let deed : terms_of c.in-Some-deed.terms.views ≡ t = ap terms_of c.in-Some-deed.ensures in
    let is : c.push_reserved.new.self.items ≡ Some h ∷ [] = c.push_reserved.ensures.items ∙ ap (λ (xs : List (Option _)). xs ++ Some h ∷ []) c.in-Ok-with_capacity.ensures.items in
    let named = opening_named g.K.Keeper.keeper book c.journal_len-rows.ensures.book in
    subst₂ (λ (x : Terms) (xs : List (Option _)). Kept (λ t rows members h. Names g.K.Keeper.keeper t rows members h.value.book h.value.members.items h.value.start) x (opening (0 ∷ 0 ∷ c.journal_len-rows.result ∷ []) xs (first_view x))) (sym deed) (sym is)
    (opens (λ t rows members h. Names g.K.Keeper.keeper t rows members h.value.book h.value.members.items h.value.start) t c.journal_len-rows.result h t.rows h.value.members.items
    (c.journal_len-rows.ensures.is ∙ sym named.count) c.requires.seats.1
    (record {
      has_rows = subst (λ (b : _). NamesRows g.K.Keeper.keeper b t.rows) (sym made.0) named;
      has_members = refl;
      same_start = made.1;
      same_terms = record { origin = ap (λ (b : _). b.zone.origin) made.0; updates = ap (λ (b : _). b.allow_update) made.0 };
    })
    refl (c.in-Ok-new_held.ensures.members ∙ c.in-Some.ensures))

pub held_back-requires : goal.held_back-requires
held_back-requires g c =
    let h = c.in-Ok-new_held.held in
    (h, c.in-Err-new.ensures.err ∙ (c.push_reserved.ensures.items ∙ ap (λ (xs : List (Option _)). xs ++ Some h ∷ []) c.in-Ok-with_capacity.ensures.items))

pub share_out-passes-requires-clause-seen : goal.share_out-passes-requires-clause-seen
share_out-passes-requires-clause-seen g c =
    let book = c.args.book in
    let t : Terms = terms_at g.K.Keeper.keeper book c.args.seats in
    let deed : terms_of c.in-Some-deed.terms.views ≡ t = ap terms_of c.in-Some-deed.ensures in
    let key = ap (λ (b : _). terms_of b.views) c.in-Ok-new.ensures.ok.5 in
    let named = opening_named g.K.Keeper.keeper book c.journal_len-rows.ensures.book in
    ap (λ (x : Terms). length x.rows) (key ∙ deed) ∙ (named.count ∙ sym c.journal_len-rows.ensures.is)
