-- How the top call ends: by `serve`, or by a list of events.
use Rattle.std.proofs.Common.{◌≡◌, Some, None, ◌⊎◌, inl, inr, refl, ap}
use Rattle.dns_edges.specs.Edges.{Around}
use Rattle.dns_ports.specs.Ports.{HubTold}
use Rattle.dns_command.specs.declared.status.Status.{Status}
use Rattle.dns_command.specs.declared.status.Status.TheVariants as status
use Rattle.dns_command.specs.declared.listening_words.Service.{Service}
use Rattle.dns_command.specs.ListeningWords.{service_of}
use Rattle.dns_listeners.specs.Hubs.{Meanings}
use Rattle.dns_words.specs.Writing.{IsUntouched}
use Rattle.dns_command.specs.World.{World}
use Rattle.dns_listeners.specs.Serving.{without_memory, unserved}
use Rattle.dns_listeners.specs.ServeEnds.{ServeEnds, by_serving, by_list, RunTells}
use Rattle.dns_command.specs.ServingEnds.{refused_for_memory, ListTells}
use Rattle.dns_command.specs.Counts.{CountsJournal, FailsSome}
use Rattle.dns_listeners.specs.RunCounts.{FailsServing}
use Rattle.dns_listeners.proofs.ServeEndings.{completes_serving, counts_serving}

module _ {K U T R W C : Type 0} (m : Meanings K U T R W C) (w : World) (hub : Around (HubTold U T)) where
  pub by_serve : (s : Status) (service : Service) → service_of w.words ≡ Some service → ServeEnds m w hub s → RunTells m w hub s
  by_serve s service legal ends = record {
    ends = by_serving ends;
    completes = record { serving = completes_serving m w hub s ends; list = λ none. absurd (let a = legal in cc) };
    counts = counts_serving m w hub s ends;
  }

  of_list : {s : Status} → CountsJournal w (FailsSome m.keeper w) s → CountsJournal w (FailsSome m.keeper w ⊎ FailsServing m w hub) s
  of_list (inl still) = inl still
  of_list (inr (inl failed)) = inr (inl failed)
  of_list (inr (inr some)) = inr (inr (inl some))

  pub by_events : (s : Status) → service_of w.words ≡ None → IsUntouched hub → ListTells m.keeper w s → RunTells m w hub s
  by_events s none unused tells = record {
    ends = by_list none unused tells.ends;
    completes = record { serving = λ x. absurd (let a = x.legal in cc); list = λ n. tells.completes };
    counts = record {
      zone = tells.counts.zone;
      events = inl tells.counts.events;
      output = tells.counts.output;
      ports = inl (ap (λ (h : HubTold U T). h.faults) unused);
      openings = inl (ap (λ (h : HubTold U T). h.failed_calls) unused);
      journal = of_list tells.counts.journal;
    };
  }

  -- for want of memory nothing was done
  pub for_memory : IsUntouched w.zone → IsUntouched w.journal → IsUntouched w.events → w.moment ≡ None → IsUntouched hub → IsUntouched w.output → RunTells m w hub status.OutOfMemory
  for_memory a b c unasked unused unwritten =
      let ends : ServeEnds m w hub status.OutOfMemory = refused_for_memory (unserved (without_memory a b unasked) unused c) unwritten in
      record {
        ends = by_serving ends;
        completes = record { serving = λ x. inr refl; list = λ n x. inr refl };
        counts = counts_serving m w hub status.OutOfMemory ends;
      }
