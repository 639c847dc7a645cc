-- A worker of a crowd, from event to event, where memory may be wanting.
use Rattle.std.proofs.Common.{◌≡◌, ◌≤◌, ◌∙◌, ℕ, List, [], ◌∷◌, ◌++◌, map, Option, Some, refl, sym, ap, subst, append_assoc, append-nil, arith}
use Rattle.std.specs.List.{filter_map}
use Rattle.std.proofs.lemmas.List.{map-append}
use Rattle.dns_io.specs.Told.{Grows, Keeps, Takes}
use Rattle.dns_io.proofs.ToldContents.{Grows-Keeps, Grows-more, Grows-nothing, Keeps-Grows, Takes-Keeps, Takes-more, Told-same}
use Rattle.dns_book.specs.declared.ask.Ask.{Ask}
use Rattle.dns_book.specs.declared.ask.Settled.{Settled}
use Rattle.dns_ports.specs.Ports.{GivesNext}
use Rattle.dns_server_core.specs.declared.event.Event.{Event}
use Rattle.dns_server_core.specs.declared.event.Event.TheVariants.{Accepted, Bytes, Ended, Datagram, Tick, Stop}
use Rattle.dns_server_core.specs.declared.event.Out.{Out}
use Rattle.dns_server_core.specs.Connections.{Connection, Kept, new_kept}
use Rattle.dns_server_core.specs.Events.{moment}
use Rattle.dns_server_core.specs.Runs.{Completed, Run}
use Rattle.dns_server_core.specs.Steps.{completed_now, open_next, step}
use Rattle.dns_server_core.proofs.ConnectionTurns.{idle_next}
use Rattle.dns_laws.proofs.InTurn.{next_timely, now_timely}
use Rattle.dns_crowd.specs.Crowds.{CrowdTold}
use Rattle.dns_crowd.specs.Replies.{Falters, sent_bytes}
use Rattle.dns_crowd.specs.Turns.{Attends, Fate, Served, Unsent, Unsettled, Handled, Holds, SettlesBy, SettlesEach, Treats, Working, lost, open_by, timely}
use Rattle.dns_crowd.proofs.FramedReplies.{sent_append}

-- what the events leave open
abbrev opens_by : List Connection → List Handled → List Connection
opens_by ks [] = ks
opens_by ks (one ∷ others) = opens_by (open_by one.fate one.event ks) others

opens_push : (ks : List Connection) (hs : List Handled) (one : Handled) → opens_by ks (hs ++ one ∷ []) ≡ open_by one.fate one.event (opens_by ks hs)
opens_push ks [] one = refl
opens_push ks (x ∷ hs) one = opens_push (open_by x.fate x.event ks) hs one

-- those whose time is over have no part in it
later_timely : (later at : ℕ) → at ≤ later → (ks : List Connection) → timely later ks ≡ timely later (timely at ks)
later_timely later at l ks =
    ap (timely later) (idle_next (Tick later) (λ n. refl) refl ks)
    ∙ next_timely (Tick later) at l ks
    ∙ ap (timely later) (sym (idle_next (Tick later) (λ n. refl) refl (timely at ks)))

lost_timely : (e : Event) (at : ℕ) → at ≤ moment e → (ks : List Connection) → timely (moment e) (lost e ks) ≡ timely (moment e) (lost e (timely at ks))
lost_timely (Accepted t conn peer limit) at l ks = later_timely t at l ks
lost_timely (Bytes t conn piece) at l ks =
    ap (timely t) (sym (append-nil (filter_map (step (Ended t conn)) ks)))
    ∙ next_timely (Ended t conn) at l ks
    ∙ ap (timely t) (append-nil (filter_map (step (Ended t conn)) (timely at ks)))
lost_timely (Ended t conn) at l ks = later_timely t at l ks
lost_timely (Datagram t peer bytes) at l ks = later_timely t at l ks
lost_timely (Tick t) at l ks = later_timely t at l ks
lost_timely (Stop t) at l ks = later_timely t at l ks

by_timely : (fate : Fate) (e : Event) (at : ℕ) → at ≤ moment e → (ks : List Connection) → timely (moment e) (open_by fate e ks) ≡ timely (moment e) (open_by fate e (timely at ks))
by_timely Served e at l ks = next_timely e at l ks
by_timely Unsent e at l ks =
    let now : moment e ≤ moment e = omega arith in
    lost_timely e (moment e) now (open_next e ks)
    ∙ ap (λ (ls : List Connection). timely (moment e) (lost e ls)) (next_timely e at l ks)
    ∙ sym (lost_timely e (moment e) now (open_next e (timely at ks)))
by_timely Unsettled e at l ks = lost_timely e at l ks

pub grows_none : {A : Type 0} (a b : Option (List A)) → Keeps a b → Grows a b []
grows_none a b k = Keeps-Grows a b b [] k (Grows-nothing b)

event_push : (hs : List Handled) (one : Handled) → map (λ h. h.event) (hs ++ one ∷ []) ≡ map (λ h. h.event) hs ++ one.event ∷ []
event_push hs one = map-append (λ (h : Handled). h.event) hs (one ∷ [])

module _ {H : Type 0} (serves : H → Ask → Settled → H → Type 0) (skips : H → H → Type 0) where
  settles_push : (before between after : H) (ks : List Connection) (hs : List Handled) (outs more : List Out) (one : Handled) → SettlesEach serves skips before ks hs outs between
      → SettlesBy serves skips one.fate between (completed_now one.event (opens_by ks hs)) more after → SettlesEach serves skips before ks (hs ++ one ∷ []) (outs ++ more) after
  settles_push before between after ks [] outs more one s t = (
    after,
    more,
    [],
    subst (λ (h : H). SettlesBy serves skips one.fate h (completed_now one.event ks) more after) s.0 t,
    ap (λ (l : List Out). l ++ more) s.1 ∙ sym (append-nil more),
    (refl, refl),
  )
  settles_push before between after ks (x ∷ hs) outs more one s t = (
    s.0,
    s.1,
    s.2 ++ more,
    s.3,
    ap (λ (l : List Out). l ++ more) s.4 ∙ append_assoc s.1 s.2 more,
    settles_push s.0 between after (open_by x.fate x.event ks) hs s.2 more one s.5 t,
  )

module _ {H C : Type 0} (serves : H → Ask → Settled → H → Type 0) (skips : H → H → Type 0) (told : C → CrowdTold) where
  -- memory was wanting
  pub treats_none : (before : H) (crowd : C) (kept : Kept) (e : Event) (after : H) (crowd_now : C) → Falters serves skips before (completed_now e kept.connections) after
      → Holds (told crowd) (told crowd_now) → Treats serves skips told before crowd kept e Unsettled after crowd_now
  treats_none before crowd kept e after crowd_now f h =
      record { outs = []; settled = (f, refl); sent = grows_none (told crowd).taken (told crowd_now).taken h.untaken; unread = h.unread }

  pub treats_unsent : (before : H) (crowd : C) (kept : Kept) (e : Event) (outs : List Out) (after : H) (crowd_now : C) → Run serves before (completed_now e kept.connections) outs after
      → Holds (told crowd) (told crowd_now) → Treats serves skips told before crowd kept e Unsent after crowd_now
  treats_unsent before crowd kept e outs after crowd_now r h =
      record { outs = []; settled = ((outs, r), refl); sent = grows_none (told crowd).taken (told crowd_now).taken h.untaken; unread = h.unread }

  pub treats_all : (before : H) (crowd : C) (kept : Kept) (e : Event) (after : H) (crowd_now : C) (kept_now : Kept) → Attends serves told before crowd kept e after crowd_now kept_now
      → Treats serves skips told before crowd kept e Served after crowd_now
  treats_all before crowd kept e after crowd_now kept_now a = record { outs = a.outs; settled = a.run; sent = a.sent; unread = a.unread }

module _ {H C : Type 0} (serves : H → Ask → Settled → H → Type 0) (skips : H → H → Type 0) (told : C → CrowdTold) (before : H) (crowd : C) where
  -- what was done so far
  pub record Keeping (now : H) (here : C) (kept : Kept) : Type 0 where
    pub handled : List Handled
    pub came : Takes (told crowd).left (told here).left (map (λ one. one.event) handled)
    pub outs : List Out
    pub settled : SettlesEach serves skips before [] handled outs now
    pub sent : Grows (told crowd).taken (told here).taken (sent_bytes outs)
    pub alike : timely kept.last kept.connections ≡ timely kept.last (opens_by [] handled)

  pub Keeping-begun : Keeping before crowd new_kept
  Keeping-begun = record {
    handled = [];
    came = Told-same (λ l r. l ≡ [] ++ r) (λ x. refl) (told crowd).left;
    outs = [];
    settled = (refl, refl);
    sent = Grows-nothing (told crowd).taken;
    alike = refl;
  }

  pub Working-none : Working serves skips told before crowd before crowd
  Working-none = record {
    handled = [];
    came = Told-same (λ l r. l ≡ [] ++ r) (λ x. refl) (told crowd).left;
    outs = [];
    settled = (refl, refl);
    sent = Grows-nothing (told crowd).taken;
  }

  -- one event more
  pub Working-more : (now : H) (here between : C) (kept : Kept) (e : Event) (fate : Fate) (after : H) (there : C) (g : Keeping now here kept) → kept.last ≤ moment e
      → GivesNext (told here).left (told between).left (Some e) → Keeps (told here).taken (told between).taken
      → (t : Treats serves skips told now between kept e fate after there) → Takes (told crowd).left (told there).left (map (λ one. one.event) (g.handled ++ record { event = e; fate = fate } ∷ []))
      × SettlesEach serves skips before [] (g.handled ++ record { event = e; fate = fate } ∷ []) (g.outs ++ t.outs) after
      × Grows (told crowd).taken (told there).taken (sent_bytes (g.outs ++ t.outs))
  Working-more now here between kept e fate after there g on_time given untaken t =
      let one : Handled = record { event = e; fate = fate } in
      let same : completed_now e kept.connections ≡ completed_now e (opens_by [] g.handled) =
      now_timely e kept.last on_time kept.connections
      ∙ ap (completed_now e) g.alike
      ∙ sym (now_timely e kept.last on_time (opens_by [] g.handled))
      in (
        subst (Takes (told crowd).left (told there).left) (sym (event_push g.handled one))
            (Takes-more (told crowd).left (told here).left (told there).left (map (λ h. h.event) g.handled) (e ∷ []) g.came
            (Takes-Keeps (told here).left (told between).left (told there).left (e ∷ []) given t.unread)),
        settles_push serves skips before now after [] g.handled g.outs t.outs one g.settled
            (subst (λ (l : List Completed). SettlesBy serves skips fate now l t.outs after) same t.settled),
        subst (Grows (told crowd).taken (told there).taken) (sym (sent_append g.outs t.outs))
            (Grows-more (told crowd).taken (told here).taken (told there).taken (sent_bytes g.outs) (sent_bytes t.outs) g.sent
            (Keeps-Grows (told here).taken (told between).taken (told there).taken (sent_bytes t.outs) untaken t.sent)),
      )

  pub Keeping-more : (now : H) (here between : C) (kept : Kept) (e : Event) (fate : Fate) (after : H) (there : C) (kept_now : Kept) (g : Keeping now here kept) → kept.last ≤ moment e
      → GivesNext (told here).left (told between).left (Some e) → Keeps (told here).taken (told between).taken
      → (t : Treats serves skips told now between kept e fate after there) → kept_now.last ≡ moment e
      → timely (moment e) kept_now.connections ≡ timely (moment e) (open_by fate e kept.connections) → Keeping after there kept_now
  Keeping-more now here between kept e fate after there kept_now g on_time given untaken t at alike =
      let one : Handled = record { event = e; fate = fate } in
      let w = Working-more now here between kept e fate after there g on_time given untaken t in
      let open_now : timely (moment e) kept_now.connections ≡ timely (moment e) (opens_by [] (g.handled ++ one ∷ [])) =
      alike
      ∙ by_timely fate e kept.last on_time kept.connections
      ∙ ap (λ (ks : List Connection). timely (moment e) (open_by fate e ks)) g.alike
      ∙ sym (by_timely fate e kept.last on_time (opens_by [] g.handled))
      ∙ ap (timely (moment e)) (sym (opens_push [] g.handled one))
      in
      record {
        handled = g.handled ++ one ∷ [];
        came = w.0;
        outs = g.outs ++ t.outs;
        settled = w.1;
        sent = w.2;
        alike = subst (λ (m : ℕ). timely m kept_now.connections ≡ timely m (opens_by [] (g.handled ++ one ∷ []))) (sym at) open_now;
      }

  pub Working-broken : (now : H) (here between : C) (kept : Kept) (e : Event) (after : H) (there : C) (g : Keeping now here kept) → kept.last ≤ moment e
      → GivesNext (told here).left (told between).left (Some e) → Keeps (told here).taken (told between).taken
      → ((fate : Fate) × Treats serves skips told now between kept e fate after there) → Working serves skips told before crowd after there
  Working-broken now here between kept e after there g on_time given untaken p =
      let w = Working-more now here between kept e p.0 after there g on_time given untaken p.1 in
      record { handled = g.handled ++ record { event = e; fate = p.0 } ∷ []; came = w.0; outs = g.outs ++ p.1.outs; settled = w.1; sent = w.2 }

  -- nothing more was given
  pub Working-done : (now : H) (here there : C) (kept : Kept) → Keeping now here kept → Takes (told here).left (told there).left [] → Keeps (told here).taken (told there).taken
      → Working serves skips told before crowd now there
  Working-done now here there kept g none untaken = record {
    handled = g.handled;
    came = subst (Takes (told crowd).left (told there).left) (append-nil (map (λ h. h.event) g.handled))
        (Takes-more (told crowd).left (told here).left (told there).left (map (λ h. h.event) g.handled) [] g.came none);
    outs = g.outs;
    settled = g.settled;
    sent = Grows-Keeps (told crowd).taken (told here).taken (told there).taken (sent_bytes g.outs) g.sent untaken;
  }

-- nothing was taken
pub takes_none : {A : Type 0} (a b : Option (List A)) → Keeps a b → Takes a b []
takes_none a b k = Takes-Keeps a a b [] (Told-same (λ l r. l ≡ [] ++ r) (λ x. refl) a) k
