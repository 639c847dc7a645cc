-- What a run of an account is to its pass.
use Rattle.std.proofs.Common.{◌≡◌, ℕ, List, [], map, refl, sym}
use Rattle.std.proofs.lemmas.List.{append-nil}
use Rattle.dns_keeper.specs.Keeping.{KeeperOf}
use Rattle.dns_book.specs.Access.{Access}
use Rattle.dns_book.specs.declared.ask.Ask.{Ask}
use Rattle.dns_book.specs.declared.ask.Settled.{Settled}
use Rattle.dns_server_core.specs.FrameRuns.{Adds, Halts}
use Rattle.dns_server_core.proofs.LongerRuns.{Adds-map, Halts-map}
use Rattle.dns_ticket_lock.specs.declared.view.Account.{Account}
use Rattle.dns_ticket_lock.specs.declared.view.Terms.{Terms}
use Rattle.dns_ticket_lock.specs.Passes.{BookId, PassSeen, SettledBy, LeftBy}
use Rattle.dns_ticket_lock.specs.Settling.{SettledAs, LeftAs, asked_by}
use Rattle.dns_ticket_lock.proofs.Turning.{asked_once}

-- a pass by its parts
abbrev pub pass_of : BookId → Terms → ℕ → Account → PassSeen
pass_of book terms number account = record { book = book; terms = terms; number = number; account = account }

pub same_pass : (book book2 : BookId) (terms terms2 : Terms) (number number2 : ℕ) (a a2 : Account) → book2 ≡ book → terms2 ≡ terms → number2 ≡ number → a2 ≡ a → pass_of book2 terms2 number2 a2 ≡ pass_of book terms number a
same_pass book book2 terms terms2 number number2 a a2 b t n e = rw b (rw t (rw n (rw e refl)))

module _ {K : Type 0} (keeper : KeeperOf K) (access : Access) (p : PassSeen) (ask : Ask) where
  by_pass : (a b : Account) (m : List ℕ) (settled : Settled) → SettledAs keeper p.terms access p.number a (record (asked_by p.number ask) { bytes = m }) settled b
      → SettledBy keeper access (record p { account = a }) (record ask { bytes = m }) settled (record p { account = b })
  by_pass a b m settled s = record {
    same = record { book = refl; terms = refl; number = refl };
    account = asked_once keeper p.terms access p.number a (record ask { bytes = m }) settled b s;
  }

  left_by_pass : (a b : Account) → LeftAs a b → LeftBy (record p { account = a }) (record p { account = b })
  left_by_pass a b s = record { same = record { book = refl; terms = refl; number = refl }; account = s }

  pub passes-adds : (ms : List (List ℕ)) (a b : Account) (old new : List ℕ) → Adds (SettledAs keeper p.terms access p.number) a (map (λ m. record (asked_by p.number ask) { bytes = m }) ms) b old new
      → Adds (SettledBy keeper access) (record p { account = a }) (map (λ m. record ask { bytes = m }) ms) (record p { account = b }) old new
  passes-adds ms a b old new r =
      Adds-map (SettledAs keeper p.terms access p.number) (SettledBy keeper access) (λ x. record p { account = x }) (λ m. record (asked_by p.number ask) { bytes = m }) (λ m. record ask { bytes = m })
      by_pass ms a b old new r

  pub passes-halts : (ms : List (List ℕ)) (a b : Account) (old new : List ℕ) → Halts (SettledAs keeper p.terms access p.number) LeftAs a (map (λ m. record (asked_by p.number ask) { bytes = m }) ms) b old new
      → Halts (SettledBy keeper access) LeftBy (record p { account = a }) (map (λ m. record ask { bytes = m }) ms) (record p { account = b }) old new
  passes-halts ms a b old new r =
      Halts-map (SettledAs keeper p.terms access p.number) LeftAs (SettledBy keeper access) LeftBy (λ x. record p { account = x }) (λ m. record (asked_by p.number ask) { bytes = m }) (λ m. record ask { bytes = m })
      by_pass left_by_pass ms a b old new r
