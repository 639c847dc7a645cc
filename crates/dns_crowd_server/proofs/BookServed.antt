-- How serving a book ends, from before it was shared.
use Rattle.std.proofs.Common.{◌≡◌, ◌+◌, ◌∙◌, ℕ, List, Result, Ok, Err, refl, subst, ap, arith}
use Rattle.dns_io.specs.declared.io_fault.IoFault.{IoFault}
use Rattle.dns_io.specs.declared.io_fault.IoFault.TheVariants.{Failed, OutOfMemory}
use Rattle.dns_io.specs.Told.{Keeps, Rose}
use Rattle.dns_io.proofs.ToldContents.{Grows-Keeps}
use Rattle.dns_edges.specs.Edges.{Around, CountsBy, SourceTold}
use Rattle.dns_keeper.specs.Keeping.{KeeperOf}
use Rattle.dns_book.specs.Access.{Access}
use Rattle.dns_book.specs.Book.{SeenOf}
use Rattle.dns_ports.specs.Ports.{UdpTold}
use Rattle.dns_ticket_lock.specs.declared.view.Terms.{Terms}
use Rattle.dns_ticket_lock.specs.Naming.{terms_at}
use Rattle.dns_ticket_lock.specs.Passes.{ArePasses, BookSeen, ClosedFor, PassSeen}
use Rattle.dns_crowd.specs.Crowds.{CrowdTold}
use Rattle.dns_crowd_server.specs.declared.hub.Places.{Places}
use Rattle.dns_crowd_server.specs.Hubs.{CrowdHubTold, HasAllBack, OpensPlaces, crowds_of, seats_of, sockets_of}
use Rattle.dns_crowd_server.specs.Serving.{EndsServing, ServesPorts, served, unopened}
use Rattle.dns_crowd_server.proofs.PortsServed.{none_opened, opened_served}

-- the meanings of a keeper, of a socket and of a crowd, and who is let in
module _ {A K U C : Type 0} (keeper : KeeperOf K) (socket : U → UdpTold) (crowd : C → CrowdTold) (access : Access) where
  -- all was opened
  pub book_served : (first between last : CrowdHubTold U C) (until : Around SourceTold) (places : Places) (book after : SeenOf K) (t : Terms) (seats : ℕ) (given : A) (result : Result (Unit {0}) IoFault)
      → t ≡ terms_at keeper book seats → seats ≡ seats_of places
      → OpensPlaces first between places (Ok given) → Keeps between.opened last.opened
      → last.opened_calls ≡ between.opened_calls → last.failed_calls ≡ between.failed_calls
      → ServesPorts keeper socket crowd (record { before = between; after = last }) until places t access after result
      → EndsServing keeper socket crowd (record { before = first; after = last }) until places access book after result
  book_served first between last until places book after t seats given result is all o kept made failing p =
      served
      (record {
        grows = Grows-Keeps first.opened between.opened last.opened _ o.grows kept;
        made = made ∙ o.made;
        none_failed = failing ∙ o.failing;
      })
      (opened_served keeper socket crowd access first (record { before = between; after = last }) until places t (terms_at keeper book (seats_of places)) after result
      o.sockets_kept o.crowds_kept o.cause.counts (is ∙ ap (terms_at keeper book) all) p)

  -- nothing was
  pub book_unopened : (first last : CrowdHubTold U C) (until : Around SourceTold) (places : Places) (book after : SeenOf K) (shared : BookSeen) (passes : List PassSeen) (seats : ℕ) (fault : IoFault)
      → until.after ≡ until.before → shared.terms ≡ terms_at keeper book seats → seats ≡ seats_of places → ArePasses shared passes
      → OpensPlaces {A = A} first last places (Err fault) → ClosedFor keeper shared.terms passes after
      → EndsServing keeper socket crowd (record { before = first; after = last }) until places access book after (Err fault)
  book_unopened first last until places book after shared passes seats fault untouched is all are o closed =
      unopened fault
      (none_opened {A = A} keeper socket crowd (record { before = first; after = last }) places shared passes (terms_at keeper book (seats_of places)) after fault are o closed (is ∙ ap (terms_at keeper book) all))
      untouched refl

-- what failed was counted
pub fault_rose : (A : Type 0) (before now : ℕ) (fault : IoFault) → CountsBy {T = A} before now (Err fault) → ◌≡◌ {A = Result (Unit {0}) IoFault} (Err fault) (Err Failed) → Rose before now
fault_rose A before now Failed c e = c
fault_rose A before now OutOfMemory c e = absurd cc

pub rose_since : (first between last : ℕ) → between ≡ first → Rose between last → Rose first last
rose_since first between last calm rose = subst (λ (n : ℕ). Rose n last) calm rose

-- all came back
pub all_lent_back : {A U C : Type 0} (first between last : CrowdHubTold U C) (places : Places) (given : A) → OpensPlaces first between places (Ok given)
    → last.lent_sockets + sockets_of places ≡ between.lent_sockets → last.lent_crowds + crowds_of places ≡ between.lent_crowds → HasAllBack first last
all_lent_back first between last places given o sockets crowds =
    let one : between.lent_sockets ≡ first.lent_sockets + sockets_of places = o.sockets_lent in
    let two : between.lent_crowds ≡ first.lent_crowds + crowds_of places = o.crowds_lent in
    record { sockets = omega (arith, one, sockets); crowds = omega (arith, two, crowds) }

pub none_lent : {A U C : Type 0} (first last : CrowdHubTold U C) (places : Places) (fault : IoFault) → OpensPlaces {A = A} first last places (Err fault) → HasAllBack first last
none_lent first last places fault o =
    let one : last.lent_sockets ≡ first.lent_sockets + 0 = o.sockets_lent in
    let two : last.lent_crowds ≡ first.lent_crowds + 0 = o.crowds_lent in
    record { sockets = omega (arith, one); crowds = omega (arith, two) }
