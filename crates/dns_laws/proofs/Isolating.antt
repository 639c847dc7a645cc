-- What others do is no matter to a receiver.
use Rattle.std.proofs.Common.{◌≡◌, ℕ, List, ◌++◌, map, sym, ap, ◌∙◌, subst, arith}
use Rattle.std.proofs.lemmas.List.{map-append}
use Rattle.std.proofs.lemmas.List.Elements.{filter-append}
use Rattle.dns_keeper.specs.Keeping.{KeeperOf}
use Rattle.dns_book.specs.Access.{Access}
use Rattle.dns_book.specs.Book.{SeenOf, Settles}
use Rattle.dns_server_core.specs.declared.event.Event.{Event}
use Rattle.dns_server_core.specs.declared.event.Out.{Out}
use Rattle.dns_server_core.specs.declared.event.Receiver.{Receiver}
use Rattle.dns_server_core.specs.Connections.{Kept, done}
use Rattle.dns_server_core.specs.Runs.{Completed, Run, Answers}
use Rattle.dns_laws.specs.Receivers.{is_one, without_others, messages_to, sent_for, replies_to}
use Rattle.dns_laws.specs.Isolation.{IsQuiet, AreAlike}
use Rattle.dns_laws.proofs.OwnMessages.{own-done}
use Rattle.dns_laws.proofs.AlikeBooks.{OneAnswer}
use Rattle.dns_laws.proofs.OwnRuns.{OwnRun, own-run, same-run}

replies-append : (r : Receiver) (xs ys : List Out) → replies_to r (xs ++ ys) ≡ replies_to r xs ++ replies_to r ys
replies-append r xs ys = ap (map (λ (o : Out). o.bytes)) (filter-append (λ (o : Out). is_one r o.to) xs ys) ∙ map-append (λ (o : Out). o.bytes) (sent_for r xs) (sent_for r ys)

same_messages : (kept : Kept) (r : Receiver) (events others : List Event) → without_others r events ≡ without_others r others → messages_to r (done kept events) ≡ messages_to r (done kept others)
same_messages kept r events others same = own-done kept r events ∙ ap (done kept) same ∙ sym (own-done kept r others)

module _ {K : Type 0} (keeper : KeeperOf K) (one : OneAnswer) (access : Access) (kept : Kept) (r : Receiver) where
  seen : (messages : List Completed) (a b : SeenOf K) (outs : List Out) → IsQuiet keeper r messages a b → Run (Settles keeper access) a messages outs b → OwnRun keeper access a (messages_to r messages) (sent_for r outs) b
  seen messages a b outs quiet ran = own-run keeper access r a b messages outs quiet.queries (omega (arith, quiet.faultless)) quiet.below ran

  pub isolated_runs : (events others : List Event) (a b later last : SeenOf K) (outs sent : List Out) → without_others r events ≡ without_others r others → AreAlike keeper a b
      → IsQuiet keeper r (done kept events) a later → Run (Settles keeper access) a (done kept events) outs later
      → IsQuiet keeper r (done kept others) b last → Run (Settles keeper access) b (done kept others) sent last
      → (replies_to r outs ≡ replies_to r sent) × AreAlike keeper later last
  isolated_runs events others a b later last outs sent same alike quiet ran still went =
      let second : OwnRun keeper access b (messages_to r (done kept events)) (sent_for r sent) last =
      subst (λ (l : List Completed). OwnRun keeper access b l (sent_for r sent) last) (sym (same_messages kept r events others same)) (seen (done kept others) b last sent still went) in
      let both = same-run keeper access one (messages_to r (done kept events)) a b later last (sent_for r outs) (sent_for r sent) (seen (done kept events) a later outs quiet ran) second alike in
      (ap (map (λ (o : Out). o.bytes)) both.0, both.1)

  pub isolated_answers : (events others : List Event) (a b later last : SeenOf K) (old new before after : List Out) → without_others r events ≡ without_others r others → AreAlike keeper a b
      → replies_to r old ≡ replies_to r before
      → IsQuiet keeper r (done kept events) a later → Answers (Settles keeper access) a (done kept events) later old new
      → IsQuiet keeper r (done kept others) b last → Answers (Settles keeper access) b (done kept others) last before after
      → (replies_to r new ≡ replies_to r after) × AreAlike keeper later last
  isolated_answers events others a b later last old new before after same alike begun quiet x still y =
      let both = isolated_runs events others a b later last x.outs y.outs same alike quiet x.run still y.run in (
        ap (replies_to r) x.added
            ∙ replies-append r old x.outs
            ∙ ap (λ (l : List (List ℕ)). l ++ replies_to r x.outs) begun
            ∙ ap (λ (l : List (List ℕ)). replies_to r before ++ l) both.0
            ∙ sym (ap (replies_to r) y.added ∙ replies-append r before y.outs),
        both.1,
      )
