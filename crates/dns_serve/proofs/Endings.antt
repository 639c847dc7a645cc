-- How the top call ends, by what its parts did.
use Rattle.std.proofs.Common.{◌≡◌, ◌⊎◌, ℕ, List, [], ◌∷◌, true, Some, None, Result, Ok, Err, inl, inr, refl, sym, ap, subst, ◌∙◌, arith}
use Rattle.std.proofs.lemmas.Option.{same_Some}
use Rattle.dns_io.specs.declared.io_fault.IoFault.{IoFault}
use Rattle.dns_io.specs.declared.io_fault.IoFault.TheVariants as io
use Rattle.dns_io.specs.Told.{Grows, Keeps, Rose, counted, one_more}
use Rattle.dns_io.proofs.ToldContents.{Keeps-more}
use Rattle.dns_edges.specs.Edges.{Around, CountsBy, SinkTold, SourceTold}
use Rattle.dns_keeper.specs.Keeping.{KeeperTold, KeepsBatches}
use Rattle.dns_zone_map.specs.Zone.{serial_of}
use Rattle.dns_book.specs.Book.{SeenOf}
use Rattle.dns_ports.specs.Ports.{CountsPort}
use Rattle.dns_server.specs.declared.worker.Worker.{Worker}
use Rattle.dns_server.specs.Servers.{EndsReading, IsDone, IsReadOut, first_fault, or_later, their_ports}
use Rattle.std.specs.List.{AllByRecursion}
use Rattle.dns_command.specs.declared.status.Status.{Status}
use Rattle.dns_command.specs.declared.status.Status.TheVariants as status
use Rattle.dns_command.specs.declared.opening.Opening.{Opening}
use Rattle.dns_command.specs.CommandLine.{access_of}
use Rattle.dns_command.specs.Completeness.{HasZone}
use Rattle.dns_command.specs.Counts.{ComesOf, with_line, CountsJournal, CountsWriting, FailsSome}
use Rattle.dns_command.specs.Lines.{serve_lines}
use Rattle.dns_command.specs.Parts.{OpensBook}
use Rattle.dns_command.specs.Ends.{opening_journal}
use Rattle.dns_command.specs.Status.{port_status}
use Rattle.dns_command.specs.ServingEnds.{IsCutOf, in_refusal, in_closing, with_closing, with_refusal, with_write_fault, cut_for_memory, refused_for_memory, ListTells}
use Rattle.dns_command.specs.Status.{is_fault}
use Rattle.dns_command.specs.Steps.{Finds, OpensNot}
use Rattle.dns_command.specs.World.{World, IsStill, IsStillJournal}
use Rattle.dns_words.specs.Writing.{IsUntouched}
use Rattle.dns_command.proofs.Completing.{of_finding, of_opening}
use Rattle.dns_command.proofs.Counting.{Kept, untouched, unwritten, of_found, of_unfound, of_unfound_journal, of_unopened}
use Rattle.dns_command.proofs.Endings.{journal_of, Finds-on, OpensNot-earlier, IsOpened-earlier, IsOpened-told, IsOpened-still}
use Rattle.dns_command.proofs.Counting.{zero_or_more}
use Rattle.dns_command.proofs.ServingEndings.{GivesWay, gives_way_by_fault, gives_way_by_want}
use Rattle.dns_command.proofs.Told.{NeverBegins-told}
use Rattle.dns_crowd_server.specs.Hubs.{CrowdHubTold, their_faults}
use Rattle.dns_crowd_server.specs.Serving.{EndsServing, unshared, unopened, served, crew_answer, failed_in, failed_updates}
use Rattle.dns_serve.specs.declared.words.Service.{Service}
use Rattle.dns_serve.specs.Words.{serving_of}
use Rattle.dns_serve.specs.Serving.{Meanings, Begins, Serves, Stops, IsUnserved, without_memory, at_finding, at_opening, Refuses, unserved, stopped}
use Rattle.dns_serve.specs.Counts.{HasServed, TakesSomeFaulty, FailsServing, in_serving, in_stopping, RunCounts}
use Rattle.dns_serve.specs.Ends.{ServeEnds, by_serving, by_list, IsSound, RunTells}

-- ---- answers

same_fault : {A : Type 0} (a b : IoFault) → ◌≡◌ {A = Result A IoFault} (Err a) (Err b) → a ≡ b
same_fault a b e = cc

later_done : (a b : Result (Unit {0}) IoFault) → Ok tt ≡ or_later a b → (a ≡ Ok tt) × (b ≡ Ok tt)
later_done (Ok done) b e = (refl, sym e)
later_done (Err io.Failed) b e = absurd cc
later_done (Err io.OutOfMemory) (Ok done) e = absurd cc
later_done (Err io.OutOfMemory) (Err fault) e = absurd cc

each_done : {P : Type 0} (ws : List (Worker P)) → first_fault ws ≡ Ok tt → AllByRecursion IsDone ws
each_done [] e = tt
each_done (w ∷ ws) e = let both = later_done w.answer (first_fault ws) (sym e) in (both.0, each_done ws both.1)

read_out : (until : Around SourceTold) (reading : Result (Unit {0}) IoFault) → EndsReading until reading → reading ≡ Ok tt → IsReadOut until
read_out until (Ok done) ends e = ends
read_out until (Err fault) ends e = absurd cc

-- ---- what was served, and what was refused

module _ {K U C : Type 0} (m : Meanings K U C) (w : World) (hub : Around (CrowdHubTold U C)) where
  abbrev Ending : Status → Type 0
  Ending s = ServeEnds m w hub s

  -- nothing is at fault
  of_fault : (fault : IoFault) → (Rose hub.before.faults hub.after.faults → ⊥) → (fault ≡ io.Failed → Rose hub.before.faults hub.after.faults) → port_status fault ≡ status.OutOfMemory
  of_fault io.Failed none rose = absurd (none (rose refl))
  of_fault io.OutOfMemory none rose = refl

  module _ (x : IsSound w hub) where
    zone_for : (service : Service) → serving_of w.words ≡ Some service → HasZone w service.options.origin
    zone_for service legal = subst (λ (o : Service). HasZone w o.options.origin) (same_Some _ _ (sym x.legal ∙ legal)) x.zone

    of_unserved : (s : Status) → IsUnserved m w s → s ≡ status.OutOfMemory
    of_unserved s (without_memory a b c) = refl
    of_unserved s (at_finding service legal finds kept unasked) = of_finding w x.faultless.zone x.faultless.journal x.told.1 x.told.0 x.covered service.options.origin s (zone_for service legal) finds
    of_unserved s (at_opening service opening legal found opens kept asked) = of_opening w x.faultless.zone x.faultless.journal x.told.1 x.told.0 x.covered service.options.origin opening s (zone_for service legal) found opens

    of_refusal : (s : Status) → Refuses m w hub s → s ≡ status.OutOfMemory
    of_refusal s (unserved u a b) = of_unserved s u
    of_refusal s (stopped r) = r.status ∙ of_fault r.fault x.faultless.ports r.rose

  completes_serving : (s : Status) → Ending s → IsSound w hub → (s ≡ status.Ok) ⊎ (s ≡ status.OutOfMemory)
  completes_serving s (with_closing text serves written) x = inl refl
  completes_serving s (with_refusal some refuses written) x = inr (of_refusal x s refuses)
  completes_serving s (with_write_fault rose cut) x = absurd (x.faultless.output rose)
  completes_serving s (cut_for_memory still cut wanted) x = inr refl
  completes_serving s (refused_for_memory refuses unwritten) x = inr refl

  -- ---- which counts of faults rose

  abbrev SoFarJournal : Status → Type 0
  SoFarJournal s = IsStillJournal w.journal ⊎ ((Rose w.journal.before.faults w.journal.after.faults × (s ≡ status.KeeperFault)) ⊎ FailsServing m w hub)

  abbrev SoFarPorts : Status → Type 0
  SoFarPorts s = (hub.after.faults ≡ hub.before.faults) ⊎ ((Rose hub.before.faults hub.after.faults × (s ≡ status.PortFault)) ⊎ TakesSomeFaulty m hub)

  abbrev SoFarOpenings : Status → Type 0
  SoFarOpenings s = (hub.after.failed_calls ≡ hub.before.failed_calls) ⊎ ((hub.after.failed_calls ≡ one_more hub.before.failed_calls) × (s ≡ status.PortFault))

  record SoFar (s : Status) : Type 0 where
    journal : SoFarJournal s
    zone : IsStill w.zone ⊎ (Rose w.zone.before.faults w.zone.after.faults × (s ≡ status.ReadFault))
    events : IsStill w.events ⊎ HasServed w hub
    ports : SoFarPorts s
    openings : SoFarOpenings s

  zone_unserved : (s : Status) → IsUnserved m w s → IsStill w.zone ⊎ (Rose w.zone.before.faults w.zone.after.faults × (s ≡ status.ReadFault))
  zone_unserved s (without_memory a b c) = inl (untouched w.zone a)
  zone_unserved s (at_finding service legal finds kept unasked) = of_unfound w.journal w.zone service.options.origin s finds
  zone_unserved s (at_opening service opening legal found opens kept asked) = inl (of_found w.journal w.zone service.options.origin opening found)

  journal_kept : (s : Status) → Kept w.journal s → SoFarJournal s
  journal_kept s (inl still) = inl still
  journal_kept s (inr rose) = inr (inl rose)

  journal_unserved : (s : Status) → IsUnserved m w s → Kept w.journal s
  journal_unserved s (without_memory a b c) = inl (ap (λ (told : KeeperTold). told.faults) b)
  journal_unserved s (at_finding service legal finds kept unasked) = of_unfound_journal w.journal w.zone service.options.origin s finds
  journal_unserved s (at_opening service opening legal found opens kept asked) = of_unopened w.journal service.options.origin opening s opens

  opened_still : (service : Service) (first : SeenOf K) → Begins m.keeper w service first → (m.keeper.told first.keeper).faults ≡ w.journal.before.faults
  opened_still service first begun = IsOpened-still m.keeper w.journal.before service.options begun.moment begun.opening first begun.opened

  -- where no update got ServFail, the keeper's count stands as it was opened
  still_in : (service : Service) (first last : SeenOf K) (result : Result (Unit {0}) IoFault)
      → (e : EndsServing m.keeper m.socket m.crowd hub w.events service.places (access_of service.options) first last result)
      → failed_in m.keeper m.socket m.crowd hub w.events service.places (access_of service.options) first last result e ≡ 0
      → (m.keeper.told last.keeper).faults ≡ (m.keeper.told first.keeper).faults
  still_in service first last result (unshared same unused untouched answer) none = ap (λ (b : SeenOf K). (m.keeper.told b.keeper).faults) same
  still_in service first last result (unopened fault opens untouched answer) none = opens.still
  still_in service first last result (served opened ports) none = ports.still none

  journal_stopped : (s : Status) → Stops m w hub s → SoFarJournal s
  journal_stopped s r = elim (zero_or_more (failed_in m.keeper m.socket m.crowd hub w.events r.service.places (access_of r.service.options) r.first r.last (Err r.fault) r.served)) [
    | inl none ↦ inl (ap (λ (told : KeeperTold). told.faults) (sym r.left) ∙ (still_in r.service r.first r.last (Err r.fault) r.served none ∙ opened_still r.service r.first r.begun))
    | inr some ↦ inr (inr (in_stopping s r some))
  ]

  journal_served : (text : List ℕ) (s : Status) → Serves m w hub text → SoFarJournal s
  journal_served text s a = elim (zero_or_more (failed_updates m.keeper m.socket m.crowd (access_of a.service.options) a.ports.before a.ports.after a.ports.works)) [
    | inl none ↦ inl (ap (λ (told : KeeperTold). told.faults) (sym a.left) ∙ (a.ports.still none ∙ opened_still a.service a.first a.begun))
    | inr some ↦ inr (inr (in_serving text a some))
  ]

  -- what came back has a count above 0, or the hub's stood still
  counted_back : (s : Status) (sockets : List U) (crowds : List C) → Grows hub.before.sockets hub.after.sockets sockets → Grows hub.before.crowds hub.after.crowds crowds
      → CountsPort (their_faults m.socket m.crowd sockets crowds) hub.before.faults hub.after.faults → SoFarPorts s
  counted_back s sockets crowds sockets_back crowds_back counted = elim (zero_or_more (their_faults m.socket m.crowd sockets crowds)) [
    | inl none ↦ inl (counted.calm none)
    | inr some ↦ inr (inr (record { sockets = sockets; crowds = crowds; sockets_back = sockets_back; crowds_back = crowds_back; faulty = some }))
  ]

  ports_unopened : (fault : IoFault) → (fault ≡ io.Failed → Rose hub.before.faults hub.after.faults) → (fault ≡ io.OutOfMemory → hub.after.faults ≡ hub.before.faults) → SoFarPorts (port_status fault)
  ports_unopened io.Failed rose calm = inr (inl (rose refl, refl))
  ports_unopened io.OutOfMemory rose calm = inl (calm refl)

  calm_by : (fault now : IoFault) → fault ≡ now → now ≡ io.OutOfMemory → (e : hub.after.faults ≡ hub.before.faults ⊎ (fault ≡ io.Failed)) → hub.after.faults ≡ hub.before.faults
  calm_by fault now same memory (inl calm) = calm
  calm_by fault now same memory (inr failed) = absurd cc

  unopened_calm : (fault : IoFault) → CountsBy {T = Unit {0}} hub.before.faults hub.after.faults (Err fault) → (hub.after.faults ≡ hub.before.faults) ⊎ (fault ≡ io.Failed)
  unopened_calm io.Failed rose = inr refl
  unopened_calm io.OutOfMemory calm = inl calm

  ports_in : (service : Service) (first last : SeenOf K) (fault : IoFault) → (fault ≡ io.Failed → Rose hub.before.faults hub.after.faults)
      → EndsServing m.keeper m.socket m.crowd hub w.events service.places (access_of service.options) first last (Err fault) → SoFarPorts (port_status fault)
  ports_in service first last fault rose (unshared same unused untouched answer) = inl (ap (λ (h : CrowdHubTold U C). h.faults) unused)
  ports_in service first last fault rose (unopened why opens untouched answer) =
      ports_unopened fault rose (λ memory. calm_by why fault (sym (same_fault fault why answer)) memory (unopened_calm why opens.cause.counts))
  ports_in service first last fault rose (served opened ports) =
      counted_back (port_status fault) (their_ports ports.after.sockets) (their_ports ports.after.crowds) ports.sockets_back ports.crowds_back ports.counted

  -- an opening that failed is told
  openings_unopened : (fault : IoFault) → hub.after.failed_calls ≡ counted {T = Unit {0}} hub.before.failed_calls (Err fault) → SoFarOpenings (port_status fault)
  openings_unopened io.Failed failing = inr (failing, refl)
  openings_unopened io.OutOfMemory failing = inl failing

  openings_in : (service : Service) (first last : SeenOf K) (fault : IoFault)
      → EndsServing m.keeper m.socket m.crowd hub w.events service.places (access_of service.options) first last (Err fault) → SoFarOpenings (port_status fault)
  openings_in service first last fault (unshared same unused untouched answer) = inl (ap (λ (h : CrowdHubTold U C). h.failed_calls) unused)
  openings_in service first last fault (unopened why opens untouched answer) =
      subst (λ (f : IoFault). SoFarOpenings (port_status f)) (sym (same_fault fault why answer)) (openings_unopened why opens.failing)
  openings_in service first last fault (served opened ports) = inl opened.none_failed

  events_in : (service : Service) → serving_of w.words ≡ Some service → (first last : SeenOf K) (result : Result (Unit {0}) IoFault)
      → EndsServing m.keeper m.socket m.crowd hub w.events service.places (access_of service.options) first last result → IsStill w.events ⊎ HasServed w hub
  events_in service legal first last result (unshared same unused still answer) = inl (untouched w.events still)
  events_in service legal first last result (unopened why opens still answer) = inl (untouched w.events still)
  events_in service legal first last result (served opened ports) = inr (record { service = service; legal = legal; opened = opened })

  refusing_so_far : (s : Status) → Refuses m w hub s → SoFar s
  refusing_so_far s (unserved u same still) = record {
    journal = journal_kept s (journal_unserved s u);
    zone = zone_unserved s u;
    events = inl (untouched w.events still);
    ports = inl (ap (λ (h : CrowdHubTold U C). h.faults) same);
    openings = inl (ap (λ (h : CrowdHubTold U C). h.failed_calls) same);
  }
  refusing_so_far s (stopped r) = record {
    journal = journal_stopped s r;
    zone = inl (of_found (opening_journal m.keeper w r.first) w.zone r.service.options.origin r.begun.opening r.begun.found);
    events = events_in r.service r.begun.legal r.first r.last (Err r.fault) r.served;
    ports = subst SoFarPorts (sym r.status) (ports_in r.service r.first r.last r.fault r.rose r.served);
    openings = subst SoFarOpenings (sym r.status) (openings_in r.service r.first r.last r.fault r.served);
  }

  served_so_far : (text : List ℕ) → Serves m w hub text → SoFar status.Ok
  served_so_far text a = record {
    journal = journal_served text status.Ok a;
    zone = inl (of_found (opening_journal m.keeper w a.first) w.zone a.service.options.origin a.begun.opening a.begun.found);
    events = inr (record { service = a.service; legal = a.begun.legal; opened = a.opened });
    ports = counted_back status.Ok (their_ports a.ports.after.sockets) (their_ports a.ports.after.crowds) a.ports.sockets_back a.ports.crowds_back a.ports.counted;
    openings = inl a.opened.none_failed;
  }

  -- the same of a status that was told, or behind a line that was cut
  counts_so_far : (s t : Status) → (is_fault s ≡ true → ComesOf w s t) → SoFar s → CountsWriting w t → RunCounts m w hub t
  counts_so_far s t comes so output = record {
    zone = elim so.zone [ inl still ↦ inl still | inr p ↦ inr (p.0, subst (λ (x : Status). ComesOf w x t) p.1 (comes (ap is_fault p.1))) ];
    events = elim so.events [ inl still ↦ inl (inl still) | inr some ↦ inr some ];
    output = output;
    ports = elim so.ports [
      | inl calm ↦ inl calm
      | inr more ↦ inr (elim more [ inl p ↦ inl (p.0, subst (λ (x : Status). ComesOf w x t) p.1 (comes (ap is_fault p.1))) | inr taken ↦ inr taken ])
    ];
    openings = elim so.openings [ inl calm ↦ inl calm | inr p ↦ inr (p.0, subst (λ (x : Status). ComesOf w x t) p.1 (comes (ap is_fault p.1))) ];
    journal = elim so.journal [
      | inl still ↦ inl still
      | inr more ↦ inr (elim more [ inl p ↦ inl (p.0, subst (λ (x : Status). ComesOf w x t) p.1 (comes (ap is_fault p.1))) | inr fails ↦ inr (inr fails) ])
    ];
  }

  counts_closed : (t : Status) → SoFar status.Ok → CountsWriting w t → RunCounts m w hub t
  counts_closed t so output = record {
    zone = elim so.zone [ inl still ↦ inl still | inr p ↦ absurd (let x = p.1 in cc) ];
    events = elim so.events [ inl still ↦ inl (inl still) | inr some ↦ inr some ];
    output = output;
    ports = elim so.ports [ inl calm ↦ inl calm | inr more ↦ elim more [ inl p ↦ absurd (let x = p.1 in cc) | inr taken ↦ inr (inr taken) ] ];
    openings = elim so.openings [ inl calm ↦ inl calm | inr p ↦ absurd (let x = p.1 in cc) ];
    journal = elim so.journal [ inl still ↦ inl still | inr more ↦ elim more [ inl p ↦ absurd (let x = p.1 in cc) | inr fails ↦ inr (inr (inr fails)) ] ];
  }

  cut_counts : (t : Status) → CountsWriting w t → (cut : IsCutOf w (Serves m w hub) (Refuses m w hub)) → GivesWay w (Serves m w hub) (Refuses m w hub) t cut → RunCounts m w hub t
  cut_counts t output (in_refusal s some refuses took) by = counts_so_far s t by (refusing_so_far s refuses) output
  cut_counts t output (in_closing text a took) by = counts_closed t (served_so_far text a) output

  counts_serving : (s : Status) → Ending s → RunCounts m w hub s
  counts_serving s (with_closing text a took) = counts_so_far status.Ok status.Ok (λ fault. with_line) (served_so_far text a) (inl took.faults)
  counts_serving s (with_refusal some refuses took) = counts_so_far s s (λ fault. with_line) (refusing_so_far s refuses) (inl took.faults)
  counts_serving s (with_write_fault rose cut) = cut_counts status.WriteFault (inr (rose, refl)) cut (gives_way_by_fault w (Serves m w hub) (Refuses m w hub) cut)
  counts_serving s (cut_for_memory still cut wanted) = cut_counts status.OutOfMemory (inl still) cut (gives_way_by_want w (Serves m w hub) (Refuses m w hub) cut wanted)
  counts_serving s (refused_for_memory refuses same) = counts_so_far status.OutOfMemory status.OutOfMemory (λ fault. with_line) (refusing_so_far status.OutOfMemory refuses) (inl (unwritten w same))

  -- ---- the top call

  pub by_serve : (s : Status) (service : Service) → serving_of w.words ≡ Some service → Ending s → RunTells m w hub s
  by_serve s service legal ends = record {
    ends = by_serving ends;
    completes = record { serving = completes_serving s ends; list = λ none. absurd (let a = legal in cc) };
    counts = counts_serving s ends;
  }

  of_list : {s : Status} → CountsJournal w (FailsSome m.keeper w) s → CountsJournal w (FailsSome m.keeper w ⊎ FailsServing m w hub) s
  of_list (inl still) = inl still
  of_list (inr (inl failed)) = inr (inl failed)
  of_list (inr (inr some)) = inr (inr (inl some))

  pub by_events : (s : Status) → serving_of w.words ≡ None → IsUntouched hub → ListTells m.keeper w s → RunTells m w hub s
  by_events s none unused tells = record {
    ends = by_list none unused tells.ends;
    completes = record { serving = λ x. absurd (let a = x.legal in cc); list = λ n. tells.completes };
    counts = record {
      zone = tells.counts.zone;
      events = inl tells.counts.events;
      output = tells.counts.output;
      ports = inl (ap (λ (h : CrowdHubTold U C). h.faults) unused);
      openings = inl (ap (λ (h : CrowdHubTold U C). h.failed_calls) unused);
      journal = of_list tells.counts.journal;
    };
  }

  -- for want of memory nothing was done
  pub for_memory : IsUntouched w.zone → IsUntouched w.journal → IsUntouched w.events → w.moment ≡ None → IsUntouched hub → IsUntouched w.output → RunTells m w hub status.OutOfMemory
  for_memory a b c unasked unused untold =
      let ends : Ending status.OutOfMemory = refused_for_memory (unserved (without_memory a b unasked) unused c) untold in
      record {
        ends = by_serving ends;
        completes = record { serving = λ x. inr refl; list = λ n x. inr refl };
        counts = counts_serving status.OutOfMemory ends;
      }

-- ---- what was opened, and then served

module _ {K U C : Type 0} (m : Meanings K U C) (words : List (List ℕ)) (z e : Around SourceTold) (out : Around SinkTold) (wants : List ℕ → Type 0) (hub : Around (CrowdHubTold U C))
    (b : KeeperTold) (moment : ℕ) (service : Service) (legal : serving_of words ≡ Some service) (held left : K) (k : Keeps b.rows (m.keeper.told held).rows) (kb : KeepsBatches b (m.keeper.told held)) (same : (m.keeper.told held).faults ≡ b.faults)
    (opening : Opening) (found : Finds (journal_of b (m.keeper.told held)) z service.options.origin opening) where
  abbrev world : World
  world = record { words = words; zone = z; events = e; journal = journal_of b (m.keeper.told left); output = out; wants = wants; moment = Some moment }

  -- a journal was opened
  begins : (first : SeenOf K) → OpensBook m.keeper held service.options opening moment first → Begins m.keeper world service first
  begins first o = record {
    opening = opening;
    legal = legal;
    moment = moment;
    asked = refl;
    found = Finds-on b (m.keeper.told held) (m.keeper.told first.keeper) z service.options.origin opening found (IsOpened-told m.keeper (m.keeper.told held) service.options moment opening first o);
    opened = IsOpened-earlier m.keeper b (m.keeper.told held) service.options moment opening first k kb same o;
  }

  -- it was not
  pub opens_none : (s : Status) → OpensNot (journal_of (m.keeper.told held) (m.keeper.told left)) service.options.origin opening s → Keeps (m.keeper.told held).rows (m.keeper.told left).rows
      → IsUntouched hub → IsUntouched e → Refuses m world hub s
  opens_none s not kept unused untouched =
      unserved
      (at_opening service opening legal
      (Finds-on b (m.keeper.told held) (m.keeper.told left) z service.options.origin opening found (NeverBegins-told _ (m.keeper.told held).rows (m.keeper.told left).rows kept))
      (OpensNot-earlier b (m.keeper.told held) (m.keeper.told left) service.options.origin opening s not k kb same)
      (Keeps-more b.rows (m.keeper.told held).rows (m.keeper.told left).rows k kept) refl)
      unused untouched

  -- what was served to a good end
  served_well : (first last : SeenOf K) → OpensBook m.keeper held service.options opening moment first → left ≡ last.keeper
      → EndsServing m.keeper m.socket m.crowd hub e service.places (access_of service.options) first last (Ok tt)
      → Serves m world hub (serve_lines (serial_of last.zone.records) last.row_count)
  served_well first last o is (unshared same unused untouched answer) = absurd cc
  served_well first last o is (unopened fault opens untouched answer) = absurd cc
  served_well first last o is (served opened ports) =
      let answers = later_done (crew_answer ports.after) ports.reading ports.answer in
      let workers = later_done (first_fault ports.after.sockets) (first_fault ports.after.crowds) (sym answers.0) in
      record {
        service = service;
        first = first;
        last = last;
        begun = begins first o;
        opened = opened;
        ports = ports;
        sockets_done = each_done ports.after.sockets workers.0;
        crowds_done = each_done ports.after.crowds workers.1;
        stopped = read_out e ports.reading ports.ended answers.1;
        left = ap m.keeper.told (sym is);
        text = refl;
      }

  pub serves : (first last : SeenOf K) (result : Result (Unit {0}) IoFault) → OpensBook m.keeper held service.options opening moment first → left ≡ last.keeper
      → EndsServing m.keeper m.socket m.crowd hub e service.places (access_of service.options) first last result → result ≡ Ok tt
      → Serves m world hub (serve_lines (serial_of last.zone.records) last.row_count)
  serves first last result o is ends good = served_well first last o is (subst (λ (r : Result (Unit {0}) IoFault). EndsServing m.keeper m.socket m.crowd hub e service.places (access_of service.options) first last r) good ends)

  -- the serving went no further
  pub stops : (first last : SeenOf K) (result : Result (Unit {0}) IoFault) (fault : IoFault) → OpensBook m.keeper held service.options opening moment first → left ≡ last.keeper
      → EndsServing m.keeper m.socket m.crowd hub e service.places (access_of service.options) first last result → result ≡ Err fault
      → (fault ≡ io.Failed → Rose hub.before.faults hub.after.faults) → Refuses m world hub (port_status fault)
  stops first last result fault o is ends bad rose = stopped (record {
    service = service;
    first = first;
    last = last;
    begun = begins first o;
    fault = fault;
    served = subst (λ (r : Result (Unit {0}) IoFault). EndsServing m.keeper m.socket m.crowd hub e service.places (access_of service.options) first last r) bad ends;
    rose = rose;
    status = refl;
    left = ap m.keeper.told (sym is);
  })
