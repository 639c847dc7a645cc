-- How `serve` ends, by what its parts did.
use Rattle.std.proofs.Common.{◌≡◌, ◌⊎◌, ℕ, suc, List, [], ◌∷◌, ◌++◌, true, Some, Ok, inl, inr, refl, sym, ap, subst, ◌∙◌, arith}
use Rattle.std.proofs.lemmas.Option.{same_Some}
use Rattle.dns_edges.specs.Edges.{Around, SourceTold, SinkTold}
use Rattle.dns_ports.specs.Ports.{HubTold, IsFreshSocket, IsFreshListener}
use Rattle.dns_io.specs.Told.{Keeps, Rose}
use Rattle.dns_io.specs.declared.io_fault.IoFault.TheVariants.{OutOfMemory}
use Rattle.dns_io.proofs.ToldContents.{Keeps-more}
use Rattle.dns_keeper.specs.Keeping.{KeepsBatches, KeeperTold}
use Rattle.dns_zone_map.specs.Zone.{serial_of}
use Rattle.dns_book.specs.Book.{SeenOf}
use Rattle.dns_server.proofs.FailedUpdates.{few_failed_updates, still_failed_updates}
use Rattle.dns_command.specs.declared.status.Status.{Status}
use Rattle.dns_command.specs.declared.status.Status.TheVariants as status
use Rattle.dns_command.specs.declared.opening.Opening.{Opening}
use Rattle.dns_command.specs.declared.listening_words.Service.{Service}
use Rattle.dns_command.specs.ListeningWords.{service_of}
use Rattle.dns_command.specs.CommandLine.{access_of}
use Rattle.dns_command.specs.Status.{is_fault}
use Rattle.dns_command.specs.Lines.{serve_lines}
use Rattle.dns_listeners.specs.Hubs.{Meanings, FailsOpening, FailsNoOpening}
use Rattle.dns_words.specs.Writing.{IsUntouched}
use Rattle.dns_command.specs.World.{World, IsStill, IsStillJournal}
use Rattle.dns_command.specs.Steps.{Finds, OpensNot}
use Rattle.dns_command.specs.Parts.{OpensBook}
use Rattle.dns_command.specs.Completeness.{HasZone}
use Rattle.std.specs.List.{AllByRecursion}
use Rattle.dns_book.specs.Access.{Access}
use Rattle.dns_ticket_lock.specs.declared.view.Account.{Account}
use Rattle.dns_ticket_lock.specs.declared.view.Terms.{Terms}
use Rattle.dns_ticket_lock.specs.Lists.{total}
use Rattle.dns_ticket_lock.specs.Passes.{BookId, PassSeen, AreNew, pass_faults}
use Rattle.dns_ticket_lock.proofs.Totals.{total_append}
use Rattle.dns_server.specs.declared.worker.Worker.{Worker}
use Rattle.dns_server.specs.Servers.{their_ports, their_passes}
use Rattle.dns_command.specs.declared.listening_words.Listening.{Listening}
use Rattle.dns_listeners.specs.Serving.{Crew, passes_of, IsNewWorker, IsNewSocket, IsNewListener, IsNewCrew, Works, WorksToItsEnd, SharesPasses, ClosedForAll}
use Rattle.dns_listeners.specs.Serving.{failed_updates, failed_so_far, IsPortCause, MayBeRead, BeginsServing, Serves, StopsServing, IsUnserved, without_memory, at_finding, at_opening, at_sharing, RefusesServing, unserved, stopped}
use Rattle.dns_command.specs.Ends.{opening_journal}
use Rattle.dns_listeners.specs.ServingParts.{ServesBook, ServesNot, unshared, closed, ServesNone, not_opened, not_served}
use Rattle.dns_command.specs.ServingEnds.{in_refusal, in_closing, with_closing, with_refusal, with_write_fault, cut_for_memory, refused_for_memory}
use Rattle.dns_listeners.specs.ServeEnds.{IsCutServing, ServeEnds, IsSoundServing}
use Rattle.dns_command.specs.Counts.{ComesOf, with_line, CountsWriting}
use Rattle.dns_listeners.specs.RunCounts.{HasServed, TakesSomeFaulty, FailsServing, in_serving, in_stopping, RunCounts}
use Rattle.dns_command.proofs.Completing.{of_finding, of_opening}
use Rattle.dns_command.proofs.Counting.{Kept, untouched, unwritten, of_found, of_unfound, of_unfound_journal, of_unopened, zero_or_more}
use Rattle.dns_command.proofs.ServingEndings.{GivesWay, gives_way_by_fault, gives_way_by_want}
use Rattle.dns_command.proofs.Told.{NeverBegins-told}
use Rattle.dns_command.proofs.Endings.{journal_of, Finds-on, OpensNot-earlier, IsOpened-earlier, IsOpened-told, IsOpened-still}

module _ {K U T R W C : Type 0} (m : Meanings K U T R W C) (w : World) (hub : Around (HubTold U T)) where
  abbrev Ending : Status → Type 0
  Ending s = ServeEnds m w hub s

  abbrev Refusing : Status → Type 0
  Refusing s = RefusesServing m w hub s

  -- nothing is at fault
  of_port : (l : Listening) (us : List U) (ts : List T) (s : Status) → (Rose hub.before.faults hub.after.faults → ⊥) → IsPortCause m hub l us ts s → s ≡ status.OutOfMemory
  of_port l us ts status.PortFault none cause = absurd (none cause.0)
  of_port l us ts status.OutOfMemory none cause = refl
  of_port l us ts status.Ok none cause = absurd cause
  of_port l us ts status.Usage none cause = absurd cause
  of_port l us ts (status.ZoneText line kind) none cause = absurd cause
  of_port l us ts (status.EventLine line) none cause = absurd cause
  of_port l us ts status.NotValid none cause = absurd cause
  of_port l us ts (status.Recovery row kind) none cause = absurd cause
  of_port l us ts status.ReadFault none cause = absurd cause
  of_port l us ts status.WriteFault none cause = absurd cause
  of_port l us ts status.KeeperFault none cause = absurd cause
  of_port l us ts status.TooLong none cause = absurd cause

  module _ (x : IsSoundServing w hub) where
    zone_for : (service : Service) → service_of w.words ≡ Some service → HasZone w service.options.origin
    zone_for service legal = subst (λ (o : Service). HasZone w o.options.origin) (same_Some _ _ (sym x.legal ∙ legal)) x.zone

    of_unserved : (s : Status) → IsUnserved m w s → s ≡ status.OutOfMemory
    of_unserved s (without_memory a b c) = refl
    of_unserved s (at_finding service legal finds kept unasked) = of_finding w x.faultless.zone x.faultless.journal x.told.1 x.told.0 x.covered service.options.origin s (zone_for service legal) finds
    of_unserved s (at_opening service opening legal found opens kept asked) = of_opening w x.faultless.zone x.faultless.journal x.told.1 x.told.0 x.covered service.options.origin opening s (zone_for service legal) found opens
    of_unserved s (at_sharing service first begun is) = refl

    of_refusal : (s : Status) → Refusing s → s ≡ status.OutOfMemory
    of_refusal s (unserved u a b) = of_unserved s u
    of_refusal s (stopped r) = of_port r.service.listening (their_ports r.crew.sockets) (their_ports r.crew.listeners) s x.faultless.ports r.cause

  pub completes_serving : (s : Status) → Ending s → IsSoundServing w hub → (s ≡ status.Ok) ⊎ (s ≡ status.OutOfMemory)
  completes_serving s (with_closing text serves written) x = inl refl
  completes_serving s (with_refusal some refuses written) x = inr (of_refusal x s refuses)
  completes_serving s (with_write_fault rose cut) x = absurd (x.faultless.output rose)
  completes_serving s (cut_for_memory still cut wanted) x = inr refl
  completes_serving s (refused_for_memory refuses unwritten) x = inr refl

  -- ---- which counts of faults rose

  -- the count of the zone's source by what the work came to, and those of the source that is read until it ends and of the hub
  record SoFar (s : Status) : Type 0 where
    journal : IsStillJournal w.journal ⊎ ((Rose w.journal.before.faults w.journal.after.faults × (s ≡ status.KeeperFault)) ⊎ FailsServing m w hub)
    zone : IsStill w.zone ⊎ (Rose w.zone.before.faults w.zone.after.faults × (s ≡ status.ReadFault))
    events : IsStill w.events ⊎ HasServed w hub
    ports : (hub.after.faults ≡ hub.before.faults) ⊎ ((Rose hub.before.faults hub.after.faults × (s ≡ status.PortFault)) ⊎ TakesSomeFaulty m hub)
    openings : FailsNoOpening hub ⊎ (FailsOpening hub × (s ≡ status.PortFault))

  of_cause : (l : Listening) (us : List U) (ts : List T) (s : Status) → IsPortCause m hub l us ts s
      → (hub.after.faults ≡ hub.before.faults) ⊎ ((Rose hub.before.faults hub.after.faults × (s ≡ status.PortFault)) ⊎ TakesSomeFaulty m hub)
  of_cause l us ts status.PortFault cause = inr (inl (cause.0, refl))
  of_cause l us ts status.OutOfMemory cause = elim cause.1 [ inl calm ↦ inl calm | inr taken ↦ inr (inr (record { sockets = us; listeners = ts; taken = taken })) ]
  of_cause l us ts status.Ok cause = absurd cause
  of_cause l us ts status.Usage cause = absurd cause
  of_cause l us ts (status.ZoneText line kind) cause = absurd cause
  of_cause l us ts (status.EventLine line) cause = absurd cause
  of_cause l us ts status.NotValid cause = absurd cause
  of_cause l us ts (status.Recovery row kind) cause = absurd cause
  of_cause l us ts status.ReadFault cause = absurd cause
  of_cause l us ts status.WriteFault cause = absurd cause
  of_cause l us ts status.KeeperFault cause = absurd cause
  of_cause l us ts status.TooLong cause = absurd cause

  -- and that of the openings that failed
  opening_cause : (l : Listening) (us : List U) (ts : List T) (s : Status) → IsPortCause m hub l us ts s → FailsNoOpening hub ⊎ (FailsOpening hub × (s ≡ status.PortFault))
  opening_cause l us ts status.PortFault cause = elim cause.1 [ inl failed ↦ inr (failed, refl) | inr taken ↦ inl taken.0 ]
  opening_cause l us ts status.OutOfMemory cause = inl cause.0
  opening_cause l us ts status.Ok cause = absurd cause
  opening_cause l us ts status.Usage cause = absurd cause
  opening_cause l us ts (status.ZoneText line kind) cause = absurd cause
  opening_cause l us ts (status.EventLine line) cause = absurd cause
  opening_cause l us ts status.NotValid cause = absurd cause
  opening_cause l us ts (status.Recovery row kind) cause = absurd cause
  opening_cause l us ts status.ReadFault cause = absurd cause
  opening_cause l us ts status.WriteFault cause = absurd cause
  opening_cause l us ts status.KeeperFault cause = absurd cause
  opening_cause l us ts status.TooLong cause = absurd cause

  zone_unserved : (s : Status) → IsUnserved m w s → IsStill w.zone ⊎ (Rose w.zone.before.faults w.zone.after.faults × (s ≡ status.ReadFault))
  zone_unserved s (without_memory a b c) = inl (untouched w.zone a)
  zone_unserved s (at_finding service legal finds kept unasked) = of_unfound w.journal w.zone service.options.origin s finds
  zone_unserved s (at_opening service opening legal found opens kept asked) = inl (of_found w.journal w.zone service.options.origin opening found)
  zone_unserved s (at_sharing service first begun is) = inl (of_found (opening_journal m.keeper w first) w.zone service.options.origin begun.opening begun.found)

  -- and that of the journal
  opened_still : (service : Service) (first : SeenOf K) → BeginsServing m.keeper w service first → (m.keeper.told first.keeper).faults ≡ w.journal.before.faults
  opened_still service first begun = IsOpened-still m.keeper w.journal.before service.options begun.moment begun.opening first begun.opened

  journal_kept : (s : Status) → Kept w.journal s → IsStillJournal w.journal ⊎ ((Rose w.journal.before.faults w.journal.after.faults × (s ≡ status.KeeperFault)) ⊎ FailsServing m w hub)
  journal_kept s (inl still) = inl still
  journal_kept s (inr rose) = inr (inl rose)

  journal_unserved : (s : Status) → IsUnserved m w s → Kept w.journal s
  journal_unserved s (without_memory a b c) = inl (ap (λ (told : KeeperTold). told.faults) b)
  journal_unserved s (at_finding service legal finds kept unasked) = of_unfound_journal w.journal w.zone service.options.origin s finds
  journal_unserved s (at_opening service opening legal found opens kept asked) = of_unopened w.journal service.options.origin opening s opens
  journal_unserved s (at_sharing service first begun is) = inl (ap (λ (told : KeeperTold). told.faults) (sym is) ∙ opened_still service first begun)

  journal_stopped : (s : Status) → StopsServing m w hub s → IsStillJournal w.journal ⊎ ((Rose w.journal.before.faults w.journal.after.faults × (s ≡ status.KeeperFault)) ⊎ FailsServing m w hub)
  journal_stopped s r = elim (zero_or_more (failed_so_far m (access_of r.service.options) r.opened r.crew r.shared.worked)) [
    | inl none ↦ inl (ap (λ (told : KeeperTold). told.faults) (sym r.left) ∙ (r.still none ∙ opened_still r.service r.first r.begun))
    | inr some ↦ inr (inr (in_stopping s r some))
  ]

  journal_served : (text : List ℕ) (s : Status) → Serves m w hub text → IsStillJournal w.journal ⊎ ((Rose w.journal.before.faults w.journal.after.faults × (s ≡ status.KeeperFault)) ⊎ FailsServing m w hub)
  journal_served text s a = elim (zero_or_more (failed_updates m (access_of a.service.options) a.opened a.crew a.ports.worked)) [
    | inl none ↦ inl (ap (λ (told : KeeperTold). told.faults) (sym a.left) ∙ (a.few.still none ∙ opened_still a.service a.first a.begun))
    | inr some ↦ inr (inr (in_serving text a some))
  ]

  unused : IsUntouched hub → hub.after.faults ≡ hub.before.faults
  unused same = ap (λ (h : HubTold U T). h.faults) same

  unopened_hub : IsUntouched hub → FailsNoOpening hub
  unopened_hub same = ap (λ (h : HubTold U T). h.failed_calls) same

  read_stopped : (r : (s : Status) × StopsServing m w hub s) → IsStill w.events ⊎ HasServed w hub
  read_stopped (s, r) = of_read r.service r.begun.legal r.read
    where
      of_read : (service : Service) → service_of w.words ≡ Some service → MayBeRead w.events hub service.listening → IsStill w.events ⊎ HasServed w hub
      of_read service legal (inl same) = inl (untouched w.events same)
      of_read service legal (inr read) = inr (record { service = service; legal = legal; opened = read.0; calls = read.1 })

  refusing_so_far : (s : Status) → Refusing s → SoFar s
  refusing_so_far s (unserved u same still) = record {
    journal = journal_kept s (journal_unserved s u);
    zone = zone_unserved s u;
    events = inl (untouched w.events still);
    ports = inl (unused same);
    openings = inl (unopened_hub same);
  }
  refusing_so_far s (stopped r) = record {
    journal = journal_stopped s r;
    zone = inl (of_found (opening_journal m.keeper w r.first) w.zone r.service.options.origin r.begun.opening r.begun.found);
    events = read_stopped (s, r);
    ports = of_cause r.service.listening (their_ports r.crew.sockets) (their_ports r.crew.listeners) s r.cause;
    openings = opening_cause r.service.listening (their_ports r.crew.sockets) (their_ports r.crew.listeners) s r.cause;
  }

  served_so_far : (text : List ℕ) → Serves m w hub text → SoFar status.Ok
  served_so_far text a = record {
    journal = journal_served text status.Ok a;
    zone = inl (of_found (opening_journal m.keeper w a.first) w.zone a.service.options.origin a.begun.opening a.begun.found);
    events = elim a.stopped [ inl end ↦ inl end.1 | inr rose ↦ inr (record { service = a.service; legal = a.begun.legal; opened = a.ports.opened; calls = a.ports.calls }) ];
    ports = elim a.ports.counted [ inl calm ↦ inl calm | inr taken ↦ inr (inr (record { sockets = their_ports a.crew.sockets; listeners = their_ports a.crew.listeners; taken = taken })) ];
    openings = inl a.ports.unfailed;
  }

  -- the same of a status that was told, or behind a line that was cut
  counts_so_far : (s t : Status) → (is_fault s ≡ true → ComesOf w s t) → SoFar s → CountsWriting w t → RunCounts m w hub t
  counts_so_far s t comes so output = record {
    zone = elim so.zone [ inl still ↦ inl still | inr p ↦ inr (p.0, subst (λ (x : Status). ComesOf w x t) p.1 (comes (ap is_fault p.1))) ];
    events = elim so.events [ inl still ↦ inl (inl still) | inr served ↦ inr served ];
    output = output;
    ports = elim so.ports [
      | inl calm ↦ inl calm
      | inr more ↦ inr (elim more [ inl p ↦ inl (p.0, subst (λ (x : Status). ComesOf w x t) p.1 (comes (ap is_fault p.1))) | inr taken ↦ inr taken ])
    ];
    openings = elim so.openings [ inl none ↦ inl none | inr p ↦ inr (p.0, subst (λ (x : Status). ComesOf w x t) p.1 (comes (ap is_fault p.1))) ];
    journal = elim so.journal [
      | inl still ↦ inl still
      | inr more ↦ inr (elim more [ inl p ↦ inl (p.0, subst (λ (x : Status). ComesOf w x t) p.1 (comes (ap is_fault p.1))) | inr fails ↦ inr (inr fails) ])
    ];
  }

  cut_counts : (t : Status) → CountsWriting w t → (cut : IsCutServing m w hub) → GivesWay w (Serves m w hub) (RefusesServing m w hub) t cut → RunCounts m w hub t
  cut_counts t output (in_refusal s some refuses took) by = counts_so_far s t by (refusing_so_far s refuses) output
  cut_counts t output (in_closing text a took) by = counts_closed t (served_so_far text a) output
    where
      counts_closed : (t : Status) → SoFar status.Ok → CountsWriting w t → RunCounts m w hub t
      counts_closed t so output = record {
        zone = elim so.zone [ inl still ↦ inl still | inr p ↦ absurd (let x = p.1 in cc) ];
        events = elim so.events [ inl still ↦ inl (inl still) | inr served ↦ inr served ];
        output = output;
        ports = elim so.ports [ inl calm ↦ inl calm | inr more ↦ elim more [ inl p ↦ absurd (let x = p.1 in cc) | inr taken ↦ inr (inr taken) ] ];
        openings = elim so.openings [ inl none ↦ inl none | inr p ↦ absurd (let x = p.1 in cc) ];
        journal = elim so.journal [ inl still ↦ inl still | inr more ↦ elim more [ inl p ↦ absurd (let x = p.1 in cc) | inr fails ↦ inr (inr (inr fails)) ] ];
      }

  pub counts_serving : (s : Status) → Ending s → RunCounts m w hub s
  counts_serving s (with_closing text a took) = counts_so_far status.Ok status.Ok (λ fault. with_line) (served_so_far text a) (inl took.faults)
  counts_serving s (with_refusal some refuses took) = counts_so_far s s (λ fault. with_line) (refusing_so_far s refuses) (inl took.faults)
  counts_serving s (with_write_fault rose cut) = cut_counts status.WriteFault (inr (rose, refl)) cut (gives_way_by_fault w (Serves m w hub) (RefusesServing m w hub) cut)
  counts_serving s (cut_for_memory still cut wanted) = cut_counts status.OutOfMemory (inl still) cut (gives_way_by_want w (Serves m w hub) (RefusesServing m w hub) cut wanted)
  counts_serving s (refused_for_memory refuses same) = counts_so_far status.OutOfMemory status.OutOfMemory (λ fault. with_line) (refusing_so_far status.OutOfMemory refuses) (inl (unwritten w same))

-- ---- what was opened, and then served

-- workers that are new have counted nothing
new_total : {P : Type 0} (t : Terms) (most : ℕ) (Fresh : P → Type 0) (xs : List (Worker P)) → AllByRecursion (IsNewWorker t most Fresh) xs → total pass_faults (their_passes xs) ≡ 0
new_total t most Fresh [] new = refl
new_total t most Fresh (x ∷ xs) new =
    let one : x.pass.account.faults ≡ 0 = ap (λ (a : Account). a.faults) new.0.account in
    let others : total pass_faults (their_passes xs) ≡ 0 = new_total t most Fresh xs new.1 in
    omega (arith, one, others)

-- nor have passes of none
free_total : (t : Terms) (ps : List PassSeen) → AreNew t ps → total pass_faults ps ≡ 0
free_total t [] new = refl
free_total t (p ∷ ps) new =
    let one : p.account.faults ≡ 0 = ap (λ (a : Account). a.faults) (new 0 p refl).1 in
    let others : total pass_faults ps ≡ 0 = free_total t ps (λ k. new (suc k)) in
    omega (arith, one, others)

module _ {K U T R W C : Type 0} (m : Meanings K U T R W C) (book : BookId) (t : Terms) (access : Access) (last : SeenOf K) where
  -- nobody worked
  unworked_still : (limit : ℕ) (crew : Crew U T) (free : List PassSeen) → AllByRecursion (IsNewSocket m.socket t) crew.sockets → AllByRecursion (IsNewListener m.listener.told t limit) crew.listeners → AreNew t free
      → ClosedForAll m book t (free ++ passes_of crew) last → (m.keeper.told last.keeper).faults ≡ t.start
  unworked_still limit crew free sockets listeners others at_end =
      let a = new_total t 0 (λ port. IsFreshSocket (m.socket port)) crew.sockets sockets in
      let b = new_total t limit (λ port. IsFreshListener (m.listener.told port)) crew.listeners listeners in
      let c = free_total t free others in
      let all = total_append pass_faults free (passes_of crew) in
      let both = total_append pass_faults (their_passes crew.sockets) (their_passes crew.listeners) in
      let rise = at_end.closed.rise in
      omega (arith, a, b, c, all, both, rise)

  -- what was served so far counted nothing where no update got ServFail
  stopped_still : (limit : ℕ) (before after : Crew U T) (free : List PassSeen) (shared : SharesPasses m book t limit access before after free) (worked : (after ≡ before) ⊎ Works m access before after)
      → ClosedForAll m book t (free ++ passes_of after) last → failed_so_far m access before after worked ≡ 0 → (m.keeper.told last.keeper).faults ≡ t.start
  stopped_still limit before after free shared (inl same) at_end none =
      unworked_still limit before free shared.new_sockets shared.new_listeners shared.new_free (subst (λ (c : Crew U T). ClosedForAll m book t (free ++ passes_of c) last) same at_end)
  stopped_still limit before after free shared (inr worked) at_end none =
      still_failed_updates m.keeper access m.socket m.listener before.sockets after.sockets worked.sockets before.listeners after.listeners worked.listeners t last free at_end.closed
      (free_total t free shared.new_free) (new_total t 0 (λ port. IsFreshSocket (m.socket port)) before.sockets shared.new_sockets) (new_total t limit (λ port. IsFreshListener (m.listener.told port)) before.listeners shared.new_listeners) none

  -- nor did what was served to its end
  served_still : (listening : Listening) (before after : Crew U T) → IsNewCrew m listening book t before → (worked : WorksToItsEnd m access before after) → ClosedForAll m book t (passes_of after) last
      → failed_updates m access before after worked ≡ 0 → (m.keeper.told last.keeper).faults ≡ t.start
  served_still listening before after new worked at_end none =
      still_failed_updates m.keeper access m.socket m.listener before.sockets after.sockets worked.sockets before.listeners after.listeners worked.listeners t last [] at_end.closed
      refl (new_total t 0 (λ port. IsFreshSocket (m.socket port)) before.sockets new.new_sockets) (new_total t listening.limit (λ port. IsFreshListener (m.listener.told port)) before.listeners new.new_listeners) none

module _ {K U T R W C : Type 0} (m : Meanings K U T R W C) (words : List (List ℕ)) (z e : Around SourceTold) (out : Around SinkTold) (wants : List ℕ → Type 0) (hub : Around (HubTold U T))
    (b : KeeperTold) (moment : ℕ) (service : Service) (legal : service_of words ≡ Some service) (held left : K) (k : Keeps b.rows (m.keeper.told held).rows) (kb : KeepsBatches b (m.keeper.told held)) (same : (m.keeper.told held).faults ≡ b.faults)
    (opening : Opening) (found : Finds (journal_of b (m.keeper.told held)) z service.options.origin opening) where
  abbrev world : World
  world = record { words = words; zone = z; events = e; journal = journal_of b (m.keeper.told left); output = out; wants = wants; moment = Some moment }

  -- a journal was opened
  begins : (first : SeenOf K) → OpensBook m.keeper held service.options opening moment first → BeginsServing m.keeper world service first
  begins first o = record {
    opening = opening;
    legal = legal;
    moment = moment;
    asked = refl;
    found = Finds-on b (m.keeper.told held) (m.keeper.told first.keeper) z service.options.origin opening found (IsOpened-told m.keeper (m.keeper.told held) service.options moment opening first o);
    opened = IsOpened-earlier m.keeper b (m.keeper.told held) service.options moment opening first k kb same o;
  }

  -- it was not
  pub unopened : (s : Status) → OpensNot (journal_of (m.keeper.told held) (m.keeper.told left)) service.options.origin opening s → Keeps (m.keeper.told held).rows (m.keeper.told left).rows
      → IsUntouched hub → IsUntouched e → RefusesServing m world hub s
  unopened s not kept unused untouched =
      unserved
      (at_opening service opening legal
      (Finds-on b (m.keeper.told held) (m.keeper.told left) z service.options.origin opening found (NeverBegins-told _ (m.keeper.told held).rows (m.keeper.told left).rows kept))
      (OpensNot-earlier b (m.keeper.told held) (m.keeper.told left) service.options.origin opening s not k kb same)
      (Keeps-more b.rows (m.keeper.told held).rows (m.keeper.told left).rows k kept) refl)
      unused untouched

  -- everything was served
  pub serves : (first last : SeenOf K) → OpensBook m.keeper held service.options opening moment first → ServesBook m hub e service first last → left ≡ last.keeper
      → Serves m world hub (serve_lines (serial_of last.zone.records) last.row_count)
  serves first last o served is = record {
    service = service;
    first = first;
    last = last;
    book = served.book;
    opened = served.opened;
    crew = served.crew;
    begun = begins first o;
    ports = served.ports;
    stopped = served.read;
    closed = served.closed;
    few = record {
      few = few_failed_updates m.keeper _ m.socket m.listener _ _ served.ports.worked.sockets _ _ served.ports.worked.listeners _ last served.closed.closed;
      still = served_still m served.book _ _ last service.listening served.opened served.crew served.ports.new served.ports.worked served.closed;
    };
    left = ap m.keeper.told (sym is);
    text = refl;
  }

  -- the serving went no further
  pub serves_not : (s : Status) (first : SeenOf K) → OpensBook m.keeper held service.options opening moment first → ServesNot m hub e service first s left
      → RefusesServing m world hub s
  serves_not s first o (unshared is unused untouched) = unserved (at_sharing service first (begins first o) (ap m.keeper.told is)) unused untouched
  serves_not s first o (closed last leaves is) = stopped (record {
    service = service;
    first = first;
    last = last;
    book = leaves.book;
    opened = leaves.opened;
    crew = leaves.crew;
    free = leaves.free;
    begun = begins first o;
    shared = leaves.shared;
    read = leaves.read;
    closed = leaves.closed;
    still = stopped_still m leaves.book _ _ last _ leaves.opened leaves.crew leaves.free leaves.shared leaves.shared.worked leaves.closed;
    left = ap m.keeper.told is;
    cause = leaves.cause;
  })

  pub serves_none : (s : Status) → ServesNone m hub e held service opening moment s left → RefusesServing m world hub s
  serves_none s (not_opened not kept unused untouched) = unopened s not kept unused untouched
  serves_none s (not_served first o not) = serves_not s first o not
