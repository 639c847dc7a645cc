-- How serving a book ends.
use Rattle.std.proofs.Common.{◌≡◌, ◌∙◌, ℕ, List, [], length, Result, Err, refl, sym, subst, arith}
use Rattle.std.specs.List.{AllByRecursion}
use Rattle.dns_io.specs.declared.io_fault.IoFault.{IoFault}
use Rattle.dns_io.specs.declared.io_fault.IoFault.TheVariants.{Failed, OutOfMemory}
use Rattle.dns_io.specs.Told.{Grows, Keeps, Rose, counted}
use Rattle.dns_io.proofs.ToldContents.{Keeps-Grows}
use Rattle.dns_edges.specs.Edges.{Around, CountsBy, SourceTold}
use Rattle.dns_keeper.specs.Keeping.{KeeperOf}
use Rattle.dns_book.specs.Access.{Access}
use Rattle.dns_book.specs.Book.{SeenOf}
use Rattle.dns_ports.specs.Ports.{CountsPort, IsFreshSocket, UdpTold}
use Rattle.dns_ticket_lock.specs.declared.view.Terms.{Terms}
use Rattle.dns_ticket_lock.specs.Lists.{total}
use Rattle.dns_ticket_lock.specs.Passes.{ArePasses, BookSeen, ClosedFor, IsSame, PassSeen, pass_faults}
use Rattle.dns_crowd.specs.Crowds.{CrowdTold}
use Rattle.dns_server.specs.FailedUpdates.{failed_by_socket}
use Rattle.dns_server.specs.Servers.{EndsReading, Matches, ServedSocket, or_later, their_passes, their_ports}
use Rattle.dns_server.proofs.FailedUpdates.{few_failed, socket_grew, still_failed}
use Rattle.dns_server.proofs.SamePasses.{both_same, passes_same}
use Rattle.dns_crowd_server.specs.declared.hub.Places.{Places}
use Rattle.dns_crowd_server.specs.Crews.{ServedCrowd}
use Rattle.dns_crowd_server.specs.FailedUpdates.{failed_by_crowd}
use Rattle.dns_crowd_server.specs.Hubs.{CrowdHubTold, IsFreshCrowd, OpensPlaces, crowds_of, sockets_of, their_faults}
use Rattle.dns_crowd_server.specs.Serving.{Crew, OpensNone, ServesPorts, crew_answer, passes_of}
use Rattle.dns_crowd_server.proofs.AllPasses.{IsNewPass, both_all, first_all, new_passes, new_workers, none_counted, still_all}
use Rattle.dns_crowd_server.proofs.Faults.{hub_rose}
use Rattle.dns_crowd_server.proofs.FailedUpdates.{crowd_grew}

-- the meanings of a keeper, of a socket and of a crowd, and who is let in
module _ {K U C : Type 0} (keeper : KeeperOf K) (socket : U → UdpTold) (crowd : C → CrowdTold) (access : Access) where
  -- the passes of a crew that served are the same ones
  pub crew_same : (before after : Crew U C) → Matches (ServedSocket keeper socket access) before.sockets after.sockets
      → Matches (ServedCrowd keeper crowd access) before.crowds after.crowds → Matches IsSame (passes_of before) (passes_of after)
  crew_same before after m n =
      both_same (their_passes before.sockets) (their_passes after.sockets) (their_passes before.crowds) (their_passes after.crowds)
      (passes_same (ServedSocket keeper socket access) (λ a b h. h.same) before.sockets after.sockets m)
      (passes_same (ServedCrowd keeper crowd access) (λ a b h. h.same) before.crowds after.crowds n)

  -- a crew that was taken on for fresh ports, with all passes of a book, served and was dismissed
  pub ports_served : (hub : Around (CrowdHubTold U C)) (until : Around SourceTold) (places : Places) (book : BookSeen) (last : SeenOf K) (result : Result (Unit {0}) IoFault)
      (before after : Crew U C) → ArePasses book (passes_of before)
      → length before.sockets ≡ sockets_of places → length before.crowds ≡ crowds_of places
      → AllByRecursion (λ one. IsFreshSocket (socket one)) (their_ports before.sockets) → AllByRecursion (λ one. IsFreshCrowd (crowd one)) (their_ports before.crowds)
      → Matches (ServedSocket keeper socket access) before.sockets after.sockets → Matches (ServedCrowd keeper crowd access) before.crowds after.crowds
      → Grows hub.before.sockets hub.after.sockets (their_ports after.sockets) → Grows hub.before.crowds hub.after.crowds (their_ports after.crowds)
      → CountsPort (their_faults socket crowd (their_ports after.sockets) (their_ports after.crowds)) hub.before.faults hub.after.faults
      → (reading : Result (Unit {0}) IoFault) → EndsReading until reading → result ≡ or_later (crew_answer after) reading
      → ClosedFor keeper book.terms (passes_of after) last
      → ServesPorts keeper socket crowd hub until places book.terms access last result
  ports_served hub until places book last result before after passes socket_count crowd_count fresh_sockets fresh_crowds m n sockets_back crowds_back counted reading ended answer closed =
      let t = book.terms in
      let new = both_all (IsNewPass t) (their_passes before.sockets) (their_passes before.crowds) (new_passes t (passes_of before) passes.new) in
      record {
        book = book.id;
        before = before;
        after = after;
        new = record {
          socket_count = socket_count;
          crowd_count = crowd_count;
          order = passes.order;
          sockets = new_workers t (λ one. IsFreshSocket (socket one)) before.sockets new.0 fresh_sockets;
          crowds = new_workers t (λ one. IsFreshCrowd (crowd one)) before.crowds new.1 fresh_crowds;
        };
        works = record { sockets = m; crowds = n };
        sockets_back = sockets_back;
        crowds_back = crowds_back;
        counted = counted;
        reading = reading;
        ended = ended;
        answer = answer;
        closed = record { all = still_all book (passes_of before) (passes_of after) passes (crew_same before after m n); closed = closed };
        few = few_failed keeper (failed_by_socket keeper access socket) (socket_grew keeper access socket) (failed_by_crowd keeper access crowd) (crowd_grew keeper access crowd)
            before.sockets after.sockets m before.crowds after.crowds n t last closed;
        still = λ none. still_failed keeper (failed_by_socket keeper access socket) (socket_grew keeper access socket) (failed_by_crowd keeper access crowd) (crowd_grew keeper access crowd)
            before.sockets after.sockets m before.crowds after.crowds n t last [] closed refl (none_counted t (their_passes before.sockets) new.0) (none_counted t (their_passes before.crowds) new.1) none;
      }

  -- where the answer is that one failed, the hub's count of faults rose
  pub served_failed : (hub : Around (CrowdHubTold U C)) (until : Around SourceTold) (places : Places) (t : Terms) (last : SeenOf K) (result : Result (Unit {0}) IoFault)
      → ServesPorts keeper socket crowd hub until places t access last result → result ≡ Err Failed → Rose hub.before.faults hub.after.faults
  served_failed hub until places t last result p e =
      hub_rose keeper socket crowd access t p.before p.after p.new.sockets p.new.crowds p.works.sockets p.works.crowds until p.reading p.ended
      hub.before.faults hub.after.faults p.counted (sym p.answer ∙ e)

  -- seen from before its ports were opened
  pub opened_served : (first : CrowdHubTold U C) (hub : Around (CrowdHubTold U C)) (until : Around SourceTold) (places : Places) (t now : Terms) (last : SeenOf K) (result : Result (Unit {0}) IoFault)
      → Keeps first.sockets hub.before.sockets → Keeps first.crowds hub.before.crowds → hub.before.faults ≡ first.faults → t ≡ now
      → ServesPorts keeper socket crowd hub until places t access last result
      → ServesPorts keeper socket crowd (record { before = first; after = hub.after }) until places now access last result
  opened_served first hub until places t now last result sockets_kept crowds_kept calm same p =
      subst (λ (x : Terms). ServesPorts keeper socket crowd (record { before = first; after = hub.after }) until places x access last result) same (record {
        book = p.book;
        before = p.before;
        after = p.after;
        new = p.new;
        works = p.works;
        sockets_back = Keeps-Grows first.sockets hub.before.sockets hub.after.sockets (their_ports p.after.sockets) sockets_kept p.sockets_back;
        crowds_back = Keeps-Grows first.crowds hub.before.crowds hub.after.crowds (their_ports p.after.crowds) crowds_kept p.crowds_back;
        counted = subst (λ (n : ℕ). CountsPort (their_faults socket crowd (their_ports p.after.sockets) (their_ports p.after.crowds)) n hub.after.faults) calm p.counted;
        reading = p.reading;
        ended = p.ended;
        answer = p.answer;
        closed = p.closed;
        few = p.few;
        still = p.still;
      })

-- the cause of a fault does not look at what there would be without it
fault_cause : (A : Type 0) (before now : ℕ) (fault : IoFault) → CountsBy {T = A} before now (Err fault) → CountsBy {T = Unit {0}} before now (Err fault)
fault_cause A before now Failed c = c
fault_cause A before now OutOfMemory c = c

-- nor does the count of openings that failed
fault_counted : (A : Type 0) (before now : ℕ) (fault : IoFault) → now ≡ counted {T = A} before (Err fault) → now ≡ counted {T = Unit {0}} before (Err fault)
fault_counted A before now Failed e = e
fault_counted A before now OutOfMemory e = e

-- nothing was opened, and the book was closed for passes that have done nothing
pub none_opened : {A K U C : Type 0} (keeper : KeeperOf K) (socket : U → UdpTold) (crowd : C → CrowdTold) (hub : Around (CrowdHubTold U C)) (places : Places) (book : BookSeen) (passes : List PassSeen)
    (now : Terms) (last : SeenOf K) (fault : IoFault) → ArePasses book passes → OpensPlaces {A = A} hub.before hub.after places (Err fault)
    → ClosedFor keeper book.terms passes last → book.terms ≡ now → OpensNone keeper socket crowd hub now last fault
none_opened {A} keeper socket crowd hub places book passes now last fault are o closed same =
    let none : total pass_faults passes ≡ 0 = none_counted book.terms passes (new_passes book.terms passes are.new) in
    let rise = closed.rise in
    subst (λ (x : Terms). OpensNone keeper socket crowd hub x last fault) same (record {
      opened = o.kept;
      sockets_kept = o.sockets_kept;
      crowds_kept = o.crowds_kept;
      cause = record { later = o.cause.later; counts = fault_cause A hub.before.faults hub.after.faults fault o.cause.counts };
      none_made = o.made;
      failing = fault_counted A hub.before.failed_calls hub.after.failed_calls fault o.failing;
      book = book.id;
      passes = passes;
      order = are.order;
      new = are.new;
      closed = record { all = first_all book passes are; closed = closed };
      still = omega (arith, rise, none);
    })
