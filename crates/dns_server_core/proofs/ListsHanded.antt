-- A whole list, for any handler.
use Rattle.std.proofs.Common.{◌≡◌, ◌<◌, ℕ, ◌+◌, List, [], ◌∷◌, ◌++◌, length, ap, ◌∙◌, subst, take, drop, get_or}
use Rattle.dns_book.specs.Access.{Access}
use Rattle.dns_book.specs.declared.ask.Ask.{Ask}
use Rattle.dns_book.specs.declared.ask.Settled.{Settled}
use Rattle.dns_server_core.specs.declared.event.Event.{Event}
use Rattle.dns_server_core.specs.Runs.{Completed}
use Rattle.dns_server_core.specs.Connections.{Kept, done_from}
use Rattle.dns_server_core.specs.Steps.{completed_now}
use Rattle.dns_server_core.specs.Handing.{ResponderOf, Hands, HandsFront, Breaks}
use Rattle.dns_server_core.proofs.AllConnections.{pendings}
use Rattle.dns_server_core.proofs.ListsKept.{so_far, done-next, front-more, left-next}
use Rattle.dns_server_core.proofs.Running.{Front-within, Front-all, Breaks-within}

module _ {H : Type 0} (serves : Access → H → Ask → Settled → H → Type 0) where
  shown : (kept : Kept) (events : List Event) (i : ℕ) (e : Event) (a b : ResponderOf H) (all : List Completed) → i < length events → e ≡ get_or events i e
      → HandsFront serves a all b (done_from kept.connections (take i events) (drop i events))
      → HandsFront serves a all b (completed_now e (pendings kept.connections (take i events)) ++ done_from kept.connections (take i events ++ e ∷ []) (drop (i + 1) events))
  shown kept events i e a b all l h g =
      subst (λ (r : List Completed). HandsFront serves a all b r)
      (ap (done_from kept.connections (take i events)) (left-next events i e l h) ∙ done-next kept.connections (take i events) (drop (i + 1) events) e) g

  pub listed-more : (kept before : Kept) (events : List Event) (i : ℕ) (e : Event) (a b c : ResponderOf H) (all : List Completed) → i < length events → e ≡ get_or events i e
      → before ≡ so_far kept (take i events) → HandsFront serves a all b (done_from kept.connections (take i events) (drop i events)) → Hands serves b (completed_now e before.connections) c
      → HandsFront serves a all c (done_from kept.connections (take (i + 1) events) (drop (i + 1) events))
  listed-more kept before events i e a b c all l h s g o =
      rw (front-more events i e l h)
      (Front-within serves a b c all (completed_now e (pendings kept.connections (take i events))) [] (done_from kept.connections (take i events ++ e ∷ []) (drop (i + 1) events)) (shown kept events i e a b all l h g)
      (Front-all serves b c (completed_now e (pendings kept.connections (take i events))) (subst (λ (z : Kept). Hands serves b (completed_now e z.connections) c) s o)))

  pub listed-broke : (skips : H → H → Type 0) (kept before : Kept) (events : List Event) (i : ℕ) (e : Event) (a b c : ResponderOf H) (all : List Completed) → i < length events → e ≡ get_or events i e
      → before ≡ so_far kept (take i events) → HandsFront serves a all b (done_from kept.connections (take i events) (drop i events)) → Breaks serves skips b (completed_now e before.connections) c
      → Breaks serves skips a all c
  listed-broke skips kept before events i e a b c all l h s g o =
      Breaks-within serves skips a b c all (completed_now e (pendings kept.connections (take i events))) (done_from kept.connections (take i events ++ e ∷ []) (drop (i + 1) events)) (shown kept events i e a b all l h g)
      (subst (λ (z : Kept). Breaks serves skips b (completed_now e z.connections) c) s o)
