-- Both lists complete the same messages.
use Rattle.std.proofs.Common.{◌≡◌, ◌↔◌, List, sym, subst}
use Rattle.dns_book.specs.declared.ask.Ask.{Ask}
use Rattle.dns_book.specs.declared.ask.Settled.{Settled}
use Rattle.dns_server_core.specs.declared.event.Out.{Out}
use Rattle.dns_server_core.specs.Order.{IsKept}
use Rattle.dns_server_core.specs.Runs.{Completed, Answers}
use Rattle.dns_server_core.specs.Serving.{ServerOf}
use Rattle.dns_server_core.proofs.PieceCut.{cut_piece}
use Rattle.dns_server_core.proofs.server.Server.cut_pieces.Goals as goal

-- the runs over one list of messages
either_way : {H : Type 0} (serves : H → Ask → Settled → H → Type 0) (before later : H) (a b : List Completed) (old new : List Out) → a ≡ b
    → Answers serves before a later old new ↔ Answers serves before b later old new
either_way serves before later a b old new same = (
  λ x. subst (λ (l : List Completed). Answers serves before l later old new) same x,
  λ x. subst (λ (l : List Completed). Answers serves before l later old new) (sym same) x,
)

pub returns : goal.returns
returns g c front back at number piece more later old new valid =
    let kept : IsKept c.args.self.now.kept = subst (λ (s : ServerOf _). IsKept s.kept) c.self.view_is c.keeps_order.ensures in
    either_way _ _ _ _ _ old new (cut_piece c.args.self.now.kept front back at number piece more kept valid)
