-- A worker of a crowd, from event to event.
use Rattle.std.proofs.Common.{◌≡◌, ◌≢◌, ◌≤◌, ◌∙◌, ◌||◌, ℕ, Bool, true, false, List, [], ◌∷◌, ◌++◌, Option, Some, None, Result, Ok, Err, cond, refl, sym, ap, subst, append_assoc, append-nil, arith}
use Rattle.dns_io.specs.declared.io_fault.IoFault.{IoFault}
use Rattle.dns_io.specs.declared.io_fault.IoFault.TheVariants.{Failed, OutOfMemory}
use Rattle.dns_io.specs.Told.{Grows, Keeps, Rose, Takes}
use Rattle.dns_io.proofs.ToldContents.{Grows-Keeps, Grows-more, Grows-nothing, Keeps-Grows, Takes-Keeps, Takes-more, Told-same}
use Rattle.dns_edges.specs.Edges.{CountsBy}
use Rattle.dns_book.specs.declared.ask.Ask.{Ask}
use Rattle.dns_book.specs.declared.ask.Settled.{Settled}
use Rattle.dns_ports.specs.Ports.{GivesNext, IsEmpty}
use Rattle.dns_server_core.specs.declared.event.Event.{Event}
use Rattle.dns_server_core.specs.declared.event.Out.{Out}
use Rattle.std.specs.List.{AllByRecursion, Contains, flat_map}
use Rattle.std.proofs.lemmas.Grind.{flat_map-append}
use Rattle.std.proofs.lemmas.List.Elements.{Contains-append_left}
use Rattle.dns_server_core.specs.Connections.{Connection, Kept, after as kept_after, new_kept}
use Rattle.dns_server_core.specs.Events.{has_stop, is_stop, last_moment, last_number, moment, number_in}
use Rattle.dns_server_core.specs.Runs.{Completed, Run}
use Rattle.dns_server_core.specs.Order.{IsUpTo}
use Rattle.dns_server_core.specs.Steps.{completed_now, open_next}
use Rattle.dns_server_core.specs.Valid.{IsAbove, Rises}
use Rattle.dns_server_core.proofs.Running.{Run-append}
use Rattle.dns_laws.proofs.InTurn.{left_open, next_timely, now_timely}
use Rattle.dns_laws.proofs.Through.{done_through, opens, pendings-opens, through}
use Rattle.dns_crowd.specs.Crowds.{CrowdTold, MayCome}
use Rattle.dns_crowd.specs.Replies.{sent_bytes}
use Rattle.dns_crowd.specs.Turns.{Attends, ClosesAs, EndsBy, GoesOn, IsShut, Shuts, Works, numbers_of, stands_behind, timely}
use Rattle.dns_crowd.proofs.Closings.{all_left, all_timely, gone_next, kept_shuts, known_next, known_with, of_contained, shuts_kept, shuts_more, shuts_none, shuts_same, shuts_weaker, up_next}
use Rattle.dns_crowd.proofs.FramedReplies.{sent_append}
use Rattle.dns_crowd.proofs.Shutting.{closes_kept, closes_more, closes_none, stood, stood_push}

through_push : (ks : List Connection) (es : List Event) (e : Event) → through ks (es ++ e ∷ []) ≡ through ks es ++ completed_now e (opens ks es)
through_push ks [] e = append-nil (completed_now e ks)
through_push ks (x ∷ es) e =
    ap (λ (l : List Completed). completed_now x ks ++ l) (through_push (open_next x ks) es e)
    ∙ sym (append_assoc (completed_now x ks) (through (open_next x ks) es) (completed_now e (opens (open_next x ks) es)))

opens_push : (ks : List Connection) (es : List Event) (e : Event) → opens ks (es ++ e ∷ []) ≡ open_next e (opens ks es)
opens_push ks [] e = refl
opens_push ks (x ∷ es) e = opens_push (open_next x ks) es e

numbers_push : (es : List Event) (e : Event) → flat_map number_in (es ++ e ∷ []) ≡ flat_map number_in es ++ number_in e
numbers_push es e = flat_map-append number_in es (e ∷ []) ∙ ap (λ (l : List ℕ). flat_map number_in es ++ l) (append-nil (number_in e))

moment_push : (last : ℕ) (es : List Event) (e : Event) → last_moment last (es ++ e ∷ []) ≡ moment e
moment_push last [] e = refl
moment_push last (x ∷ es) e = moment_push (moment x) es e

or_none : (a b : Bool) → a ≡ false → b ≡ false → (a || b) ≡ false
or_none true b h i = h
or_none false b h i = i

none_of : (a b : Bool) → (a || b) ≡ false → (a ≡ false) × (b ≡ false)
none_of true b h = absurd cc
none_of false b h = (refl, h)

stop_push : (es : List Event) (e : Event) → has_stop es ≡ false → is_stop e ≡ false → has_stop (es ++ e ∷ []) ≡ false
stop_push [] e h i = or_none (is_stop e) false i refl
stop_push (x ∷ es) e h i = let p = none_of (is_stop x) (has_stop es) h in or_none (is_stop x) (has_stop (es ++ e ∷ [])) p.0 (stop_push es e p.1 i)

-- the connections that are open behind events of which none is a stop
open_behind : (es : List Event) → has_stop es ≡ false → (kept_after new_kept es).connections ≡ timely (last_moment 0 es) (opens [] es)
open_behind es h = left_open new_kept es h ∙ ap (timely (last_moment 0 es)) (pendings-opens [] [] es)

-- numbers that are above one are above the other
abbrev Leads : Option ℕ → Option ℕ → Type 0
Leads greatest kept = (n : ℕ) → IsAbove greatest n → IsAbove kept n

leads_next : (greatest kept : Option ℕ) (ns : List ℕ) → Leads greatest kept → Leads (last_number greatest ns) (last_number kept ns)
leads_next greatest kept [] h = h
leads_next greatest kept (n ∷ ns) h = λ m a. a

rises_from : (greatest kept : Option ℕ) (ns : List ℕ) → Leads greatest kept → Rises greatest ns → Rises kept ns
rises_from greatest kept [] h r = tt
rises_from greatest kept (n ∷ ns) h r = (h n r.0, r.1)

pub ended_takes : (before now : Option (List Event)) → GivesNext before now None → Takes before now []
ended_takes before None g = tt
ended_takes None (Some rest) g = absurd g
ended_takes (Some left) (Some rest) g = g.0 ∙ sym g.1

at_end : (before now : Option (List Event)) → GivesNext before now None → IsEmpty now
at_end before None g = tt
at_end None (Some rest) g = absurd g
at_end (Some left) (Some rest) g = g.1

module _ {H C : Type 0} (serves : H → Ask → Settled → H → Type 0) (told : C → CrowdTold) (before : H) (crowd : C) where
  -- all that came so far was served
  pub record Going (now : H) (here : C) (kept : Kept) : Type 0 where
    pub happened : List Event
    pub came : Takes (told crowd).left (told here).left happened
    pub outs : List Out
    pub run : Run serves before (through [] happened) outs now
    pub sent : Grows (told crowd).taken (told here).taken (sent_bytes outs)
    pub alike : timely kept.last kept.connections ≡ timely kept.last (opens [] happened)
    pub running : has_stop happened ≡ false
    pub moment : kept.last ≡ last_moment 0 happened
    pub up : AllByRecursion (IsUpTo kept.greatest) (flat_map number_in happened)
    pub known : AllByRecursion (λ k. Contains (flat_map number_in happened) k.number) kept.connections
    pub closed : Shuts (told crowd).closed (told here).closed (flat_map number_in happened) (timely kept.last (opens [] happened))
    pub table : kept.connections ≡ stood [] happened
    pub closings : ClosesAs (told crowd).closed (told here).closed happened
    pub later : kept.last ≤ (told here).last
    pub above : Leads (told here).greatest kept.greatest
    pub calm : (told here).faults ≡ (told crowd).faults

  pub Going-begun : Going before crowd new_kept
  Going-begun = record {
    happened = [];
    came = Told-same (λ l r. l ≡ [] ++ r) (λ x. refl) (told crowd).left;
    outs = [];
    run = (refl, refl);
    sent = Grows-nothing (told crowd).taken;
    alike = refl;
    running = refl;
    moment = refl;
    up = tt;
    known = tt;
    closed = shuts_none (told crowd).closed [] [];
    table = refl;
    closings = closes_none (told crowd).closed;
    later = omega arith;
    above = λ n a. tt;
    calm = refl;
  }

  -- what comes may come to what is kept
  pub Going-comes : (now : H) (here : C) (kept : Kept) (e : Event) → Going now here kept → MayCome (told here).last (told here).greatest e → MayCome kept.last kept.greatest e
  Going-comes now here kept e g m = record { fit = m.fit; later = omega (arith, g.later, m.later); rises = rises_from (told here).greatest kept.greatest (number_in e) g.above m.rises }

  -- one event more
  pub Going-more : (now : H) (here between : C) (kept : Kept) (e : Event) (after : H) (there : C) (kept_now : Kept) → Going now here kept
      → MayCome (told here).last (told here).greatest e → is_stop e ≡ false → GivesNext (told here).left (told between).left (Some e)
      → (told between).last ≡ moment e → (told between).greatest ≡ last_number (told here).greatest (number_in e)
      → Keeps (told here).taken (told between).taken → Keeps (told here).closed (told between).closed → (told between).faults ≡ (told here).faults
      → Attends serves told now between kept e after there kept_now → Going after there kept_now
  Going-more now here between kept e after there kept_now g m runs given last greatest untaken unclosed calm a =
      let on_time : kept.last ≤ moment e = omega (arith, g.later, m.later) in
      let same : completed_now e kept.connections ≡ completed_now e (opens [] g.happened) =
      now_timely e kept.last on_time kept.connections
      ∙ ap (completed_now e) g.alike
      ∙ sym (now_timely e kept.last on_time (opens [] g.happened))
      in
      let open_now : timely (moment e) kept_now.connections ≡ timely (moment e) (opens [] (g.happened ++ e ∷ [])) =
      a.alike
      ∙ next_timely e kept.last on_time kept.connections
      ∙ ap (λ (ks : List Connection). timely (moment e) (open_next e ks)) g.alike
      ∙ sym (next_timely e kept.last on_time (opens [] g.happened))
      ∙ ap (timely (moment e)) (sym (opens_push [] g.happened e))
      in
      let known : List ℕ = flat_map number_in g.happened in
      let rises : Rises kept.greatest (number_in e) = rises_from (told here).greatest kept.greatest (number_in e) g.above m.rises in
      let behind : List Connection = timely (moment e) (opens [] (g.happened ++ e ∷ [])) in
      let from_timely : behind ≡ timely (moment e) (open_next e (timely kept.last (opens [] g.happened))) =
      ap (timely (moment e)) (opens_push [] g.happened e) ∙ next_timely e kept.last on_time (opens [] g.happened)
      in
      let earlier : (n : ℕ) → IsShut known (timely kept.last (opens [] g.happened)) n → IsShut (known ++ number_in e) behind n =
      λ n s. record {
        among = Contains-append_left known (number_in e) n s.among;
        gone = subst (AllByRecursion (λ (k : Connection). k.number ≢ n)) (sym from_timely)
            (all_timely (λ k. k.number ≢ n) (moment e) (open_next e (timely kept.last (opens [] g.happened)))
            (gone_next kept.greatest e (timely kept.last (opens [] g.happened)) n (of_contained (IsUpTo kept.greatest) known n g.up s.among) rises s.gone));
      }
      in
      let newly : (n : ℕ) → IsShut (numbers_of kept.connections ++ number_in e) kept_now.connections n → IsShut (known ++ number_in e) behind n =
      λ n s. record {
        among = known_with known (number_in e) kept.connections n g.known s.among;
        gone = subst (AllByRecursion (λ (k : Connection). k.number ≢ n)) open_now (all_timely (λ k. k.number ≢ n) (moment e) kept_now.connections s.gone);
      }
      in
      let shut : Shuts (told crowd).closed (told there).closed (known ++ number_in e) behind =
      shuts_more (told crowd).closed (told here).closed (told there).closed (known ++ number_in e) behind
      (shuts_weaker (told crowd).closed (told here).closed known (known ++ number_in e) (timely kept.last (opens [] g.happened)) behind earlier g.closed)
      (kept_shuts (told here).closed (told between).closed (told there).closed (known ++ number_in e) behind unclosed
      (shuts_weaker (told between).closed (told there).closed (numbers_of kept.connections ++ number_in e) (known ++ number_in e) kept_now.connections behind newly a.closed))
      in
      record {
        happened = g.happened ++ e ∷ [];
        came = Takes-more (told crowd).left (told here).left (told there).left g.happened (e ∷ []) g.came
            (Takes-Keeps (told here).left (told between).left (told there).left (e ∷ []) given a.unread);
        outs = g.outs ++ a.outs;
        run = subst (λ (l : List Completed). Run serves before l (g.outs ++ a.outs) after)
            (ap (λ (l : List Completed). through [] g.happened ++ l) same ∙ sym (through_push [] g.happened e))
            (Run-append serves before now after (through [] g.happened) (completed_now e kept.connections) g.outs a.outs g.run a.run);
        sent = subst (Grows (told crowd).taken (told there).taken) (sym (sent_append g.outs a.outs))
            (Grows-more (told crowd).taken (told here).taken (told there).taken (sent_bytes g.outs) (sent_bytes a.outs) g.sent
            (Keeps-Grows (told here).taken (told between).taken (told there).taken (sent_bytes a.outs) untaken a.sent));
        alike = subst (λ (t : ℕ). timely t kept_now.connections ≡ timely t (opens [] (g.happened ++ e ∷ []))) (sym a.at) open_now;
        running = stop_push g.happened e g.running runs;
        moment = a.at ∙ sym (moment_push 0 g.happened e);
        up = subst (λ (o : Option ℕ). AllByRecursion (IsUpTo o) (flat_map number_in (g.happened ++ e ∷ []))) (sym a.accepted)
            (subst (AllByRecursion (IsUpTo (last_number kept.greatest (number_in e)))) (sym (numbers_push g.happened e)) (up_next kept.greatest e known rises g.up));
        known = subst (λ (ns : List ℕ). AllByRecursion (λ (k : Connection). Contains ns k.number) kept_now.connections) (sym (numbers_push g.happened e))
            (all_left (λ k. Contains (known ++ number_in e) k.number) (moment e) (open_next e kept.connections) kept_now.connections a.part (known_next known e kept.connections g.known));
        closed = shuts_same (told crowd).closed (told there).closed (known ++ number_in e) (flat_map number_in (g.happened ++ e ∷ [])) behind (timely kept_now.last (opens [] (g.happened ++ e ∷ [])))
            (sym (numbers_push g.happened e)) (ap (λ (t : ℕ). timely t (opens [] (g.happened ++ e ∷ []))) (sym a.at)) shut;
        table = a.stands ∙ ap (stands_behind e) g.table ∙ sym (stood_push [] g.happened e);
        closings = closes_more (told crowd).closed (told here).closed (told between).closed (told there).closed g.happened e kept.connections g.table g.closings unclosed a.shuts;
        later = omega (arith, a.at, a.last, last);
        above = λ n h. subst (λ (o : Option ℕ). IsAbove o n) (sym a.accepted)
            (leads_next (told here).greatest kept.greatest (number_in e) g.above n (subst (λ (o : Option ℕ). IsAbove o n) (a.greatest ∙ greatest) h));
        calm = a.calm ∙ calm ∙ g.calm;
      }

  -- nothing is left
  pub Going-done : (now : H) (here last : C) (kept : Kept) → Going now here kept → GivesNext (told here).left (told last).left None
      → Keeps (told here).taken (told last).taken → Keeps (told here).closed (told last).closed → (told last).faults ≡ (told here).faults → Works serves told before crowd now last
  Going-done now here last kept g ended untaken unclosed calm = record {
    happened = g.happened;
    came = subst (Takes (told crowd).left (told last).left) (append-nil g.happened)
        (Takes-more (told crowd).left (told here).left (told last).left g.happened [] g.came (ended_takes (told here).left (told last).left ended));
    outs = g.outs;
    run = subst (λ (l : List Completed). Run serves before l g.outs now) (sym (done_through [] [] g.happened)) g.run;
    sent = Grows-Keeps (told crowd).taken (told here).taken (told last).taken (sent_bytes g.outs) g.sent untaken;
    closed = shuts_same (told crowd).closed (told last).closed (flat_map number_in g.happened) (flat_map number_in g.happened) (timely kept.last (opens [] g.happened)) (kept_after new_kept g.happened).connections
        refl (ap (λ (t : ℕ). timely t (opens [] g.happened)) g.moment ∙ sym (open_behind g.happened g.running))
        (shuts_kept (told crowd).closed (told here).closed (told last).closed (flat_map number_in g.happened) (timely kept.last (opens [] g.happened)) g.closed unclosed);
    closings = closes_kept (told crowd).closed (told here).closed (told last).closed g.happened g.closings unclosed;
    end = at_end (told here).left (told last).left ended;
    calm = calm ∙ g.calm;
  }

  -- a call of the crowd failed, or memory ran out
  pub ends_failed : (fault : IoFault) (after : H) (here there : C) → (told here).faults ≡ (told crowd).faults
      → CountsBy {T = Unit {0}} (told here).faults (told there).faults (Err fault) → EndsBy serves told before crowd after there (Err fault)
  ends_failed Failed after here there calm counts = subst (λ (n : ℕ). Rose n (told there).faults) calm counts
  ends_failed OutOfMemory after here there calm counts = counts ∙ calm

  -- how the worker stands, whether memory was found so far or not
  pub record Stands (here : C) (kept : Kept) : Type 0 where
    pub later : kept.last ≤ (told here).last
    pub above : Leads (told here).greatest kept.greatest
    pub calm : (told here).faults ≡ (told crowd).faults

  pub Stands-begun : Stands crowd new_kept
  Stands-begun = record { later = omega arith; above = λ n a. tt; calm = refl }

  pub Stands-comes : (here : C) (kept : Kept) (e : Event) → Stands here kept → MayCome (told here).last (told here).greatest e → MayCome kept.last kept.greatest e
  Stands-comes here kept e g m = record { fit = m.fit; later = omega (arith, g.later, m.later); rises = rises_from (told here).greatest kept.greatest (number_in e) g.above m.rises }

  pub Stands-more : (here between : C) (kept : Kept) (e : Event) (there : C) (kept_now : Kept) → Stands here kept → (told between).last ≡ moment e
      → (told between).greatest ≡ last_number (told here).greatest (number_in e) → (told between).faults ≡ (told here).faults → GoesOn told between kept e there kept_now → Stands there kept_now
  Stands-more here between kept e there kept_now g last greatest calm a = record {
    later = omega (arith, a.at, a.last, last);
    above = λ n h. subst (λ (o : Option ℕ). IsAbove o n) (sym a.accepted)
        (leads_next (told here).greatest kept.greatest (number_in e) g.above n (subst (λ (o : Option ℕ). IsAbove o n) (a.greatest ∙ greatest) h));
    calm = a.calm ∙ calm ∙ g.calm;
  }

  -- nothing is left
  pub ends_short : (is_short : Bool) (after : H) (here : C) (result : Result (Unit {0}) IoFault) → result ≡ cond is_short (Err OutOfMemory) (Ok tt)
      → (is_short ≡ false → Works serves told before crowd after here) → (told here).faults ≡ (told crowd).faults → EndsBy serves told before crowd after here result
  ends_short true after here result e works calm = subst (EndsBy serves told before crowd after here) (sym e) calm
  ends_short false after here result e works calm = subst (EndsBy serves told before crowd after here) (sym e) (works refl)
