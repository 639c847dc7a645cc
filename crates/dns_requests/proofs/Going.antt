-- A connection that is served, from read to read, and how it ends.
use Rattle.std.proofs.Common.{◌≡◌, ◌≢◌, ◌≤◌, ◌<◌, ◌+◌, ◌-◌, ◌∙◌, min, ℕ, List, [], ◌∷◌, ◌++◌, length, map, true, false, Option, Some, None, Ok, Err, refl, sym, ap, subst, inl, inr, arith, length-append}
use Rattle.std.proofs.lemmas.Bool.{leb-false, leb-true, lt-ltb}
use Rattle.std.proofs.lemmas.List.{append-nil, append_assoc, length-map}
use Rattle.dns_io.specs.Told.{EndsAt, Grows, GrowsByPrefix, Keeps, Rose, Takes}
use Rattle.dns_io.proofs.ToldContents.{Keeps-same, Grows-more, Grows-nothing, Grows-GrowsByPrefix}
use Rattle.dns_edges.specs.Edges.{SourceOf, SinkOf, ClockOf}
use Rattle.dns_book.specs.declared.ask.Ask.{Ask}
use Rattle.dns_book.specs.declared.ask.Settled.{Settled}
use Rattle.dns_frames.specs.Frames.{frames}
use Rattle.dns_server_core.specs.declared.session.Heard.TheVariants.{InTime, Late}
use Rattle.dns_server_core.specs.Connections.{Connection, is_within, left_by, may_go_on, messages_left, whole}
use Rattle.dns_server_core.specs.Steps.{HearsPiece, fed_by, is_over, messages_in, with_piece}
use Rattle.dns_server_core.proofs.FirstFrames.{first_count}
use Rattle.dns_requests.specs.declared.serve_fault.ServeFault.{ServeFault}
use Rattle.dns_requests.specs.declared.serve_fault.ServeFault.TheVariants.{Read, Write, Turns, TimedOut, OutOfMemory}
use Rattle.dns_server_core.specs.FrameRuns.{Adds, Halts, Run}
use Rattle.dns_requests.specs.Runs.{Answers, AnswersPartly, BreaksOff}
use Rattle.dns_edges.specs.Listening.{IsPiece, room}
use Rattle.dns_requests.specs.Arrivals.{Hears, Receives, ReceivesNot, ask_at, heard, opened}
use Rattle.dns_requests.specs.Ends.{CountsWriting, Ends, IsAtEnd, Parts, Terms}
use Rattle.dns_server_core.proofs.LongerRuns.{Run-append}
use Rattle.dns_requests.proofs.MoreArrivals.{Hears-more, Hears-none, asks_of-none, asks_of-push, left_by-push, left_by_none, one_longer}

-- a source that gave nothing is at its end
at_end : (a b : Option (List ℕ)) (piece : List ℕ) → length piece ≡ 0 → Takes a b piece → EndsAt a b 0 → IsAtEnd b
at_end a None piece size t e = tt
at_end None (Some y) piece size t e = absurd t
at_end (Some x) (Some y) [] size t e = sym t ∙ e.0 refl
at_end (Some x) (Some y) (b ∷ piece) size t e = absurd (omega (arith, size))

none_of : (piece : List ℕ) → length piece ≡ 0 → piece ≡ []
none_of [] size = refl
none_of (b ∷ piece) size = absurd (omega (arith, size))

is_some_piece : (piece : List ℕ) → length piece ≤ 4096 → length piece ≢ 0 → IsPiece piece
is_some_piece piece most some = (omega (arith, some), most)

rose_on : (a b c : ℕ) → b ≡ a → Rose b c → Rose a c
rose_on a b c e r = subst (λ (n : ℕ). Rose n c) e r

-- what took nothing
Keeps-taken : (a b : Option (List ℕ)) → Takes a b [] → Keeps a b
Keeps-taken a None k = tt
Keeps-taken None (Some y) k = absurd k
Keeps-taken (Some x) (Some y) k = sym k

-- what it is to be late
late_by : (limit base at : ℕ) → is_within limit base at ≡ false → (0 < limit) × (base + limit < at)
late_by limit base at h = grind (arith, h)

module _ {H S W C : Type 0} (serves : H → Ask → Settled → H → Type 0) (skips : H → H → Type 0) (source : SourceOf S) (sink : SinkOf W) (clock : ClockOf C)
    (terms : Terms) (before : Parts H S W C) where
  -- the connection as it stands then
  abbrev pub standing : {s : S} {c : C} → Hears source clock terms.peer terms.limit before.source before.clock s c → Connection
  standing h = left_by (opened terms.peer terms.limit h.began) h.arrivals

  -- between two reads: all messages so far were settled, and their replies written, and there may be more
  pub record Going (now : Parts H S W C) (turn : ℕ) (session : Connection) : Type 0 where
    pub hears : Hears source clock terms.peer terms.limit before.source before.clock now.source now.clock
    pub turns : length hears.arrivals ≡ turn
    pub answers : Answers serves before.handler (heard hears) now.handler (sink.told before.sink).taken (sink.told now.sink).taken
    pub stands : session ≡ standing hears
    pub count : session.taken ≡ length (heard hears)
    pub more : session.taken < 100
    pub calm : (sink.told now.sink).faults ≡ (sink.told before.sink).faults

  pub Going-begun : (c : C) (began : ℕ) → clock.ticks before.clock began c → Going (record before { clock = c }) 0 (opened terms.peer terms.limit began)
  Going-begun c began t = record {
    hears = Hears-none source clock terms.peer terms.limit before.source before.clock c began t;
    turns = refl;
    answers = record { bytes = []; run = subst (λ (l : List Ask). Run serves before.handler l [] before.handler) (sym (asks_of-none (opened terms.peer terms.limit began))) (refl, refl); sent = Grows-nothing _ };
    stands = sym (left_by_none terms.peer terms.limit began);
    count = sym (ap length (asks_of-none (opened terms.peer terms.limit began)));
    more = omega arith;
    calm = refl;
  }

  -- fewer messages came so far than a connection may have
  fewer : (now : Parts H S W C) (turn : ℕ) (session : Connection) → (g : Going now turn session) → length (heard g.hears) < 100
  fewer now turn session g = omega (arith, g.count, g.more)

  -- the messages of a read
  abbrev pub asks_now : ℕ → Connection → List Ask
  asks_now at new = map (ask_at terms.peer at) (messages_in new new.rest)

  -- a read in time, whose messages are not settled yet
  pub record Heard (now : Parts H S W C) (turn : ℕ) (session : Connection) (s : S) (c : C) (at : ℕ) (new : Connection) : Type 0 where
    pub going : Going now turn session
    pub hears : Hears source clock terms.peer terms.limit before.source before.clock s c
    pub turns : length hears.arrivals ≡ turn + 1
    pub asks : heard hears ≡ heard going.hears ++ asks_now at new
    pub stands : is_over (fed_by new at new.rest) ≡ false → standing hears ≡ fed_by new at new.rest
    pub taken : new.taken ≡ session.taken

  pub Heard-more : (now : Parts H S W C) (turn : ℕ) (session : Connection) (s : S) (c : C) (at : ℕ) (piece : List ℕ) (new : Connection) → Going now turn session
      → Receives source now.source s piece → length piece ≢ 0 → clock.ticks now.clock at c → HearsPiece session at piece InTime new → Heard now turn session s c at new
  Heard-more now turn session s c at piece new g r some t w =
      let conn : Connection = opened terms.peer terms.limit g.hears.began in
      let ps = g.hears.arrivals in
      let within : is_within conn.limit (left_by conn ps).base at ≡ true = subst (λ (k : Connection). is_within k.limit k.base at ≡ true) g.stands w.0 in
      let goes : may_go_on conn ps (length ps) ≡ true = lt-ltb (whole conn ps (length ps)) 100 (omega (arith, g.more, ap (λ (k : Connection). k.taken) g.stands)) in
      let stood : new ≡ with_piece (left_by conn ps) piece = w.1 ∙ ap (λ (k : Connection). with_piece k piece) g.stands in
      record {
        going = g;
        hears = Hears-more source clock terms.peer terms.limit before.source now.source s before.clock now.clock c at piece g.hears (is_some_piece piece r.most some) goes within r.made r.taken r.calm t;
        turns = one_longer ps (record { at = at; piece = piece }) ∙ omega (arith, g.turns);
        asks = asks_of-push conn ps (record { at = at; piece = piece }) g.hears.in_time goes within ∙ ap (λ (k : Connection). heard g.hears ++ asks_now at k) (sym stood);
        stands = λ more. left_by-push conn ps (record { at = at; piece = piece }) goes (ap (λ (k : Connection). is_over (fed_by k at k.rest)) (sym stood) ∙ more)
            ∙ ap (λ (k : Connection). fed_by k at k.rest) (sym stood);
        taken = ap (λ (k : Connection). k.taken) w.1;
      }

  -- how many there are then
  counted : (now : Parts H S W C) (turn : ℕ) (session : Connection) (s : S) (c : C) (at : ℕ) (new fed : Connection) → (h : Heard now turn session s c at new) → fed ≡ fed_by new at new.rest
      → fed.taken ≡ length (heard h.hears)
  counted now turn session s c at new fed h is =
      omega (
        arith,
        ap (λ (k : Connection). k.taken) is,
        h.taken,
        h.going.count,
        ap length h.asks,
        length-append (heard h.going.hears) (asks_now at new),
        length-map (messages_in new new.rest) (ask_at terms.peer at),
      )

  -- all its messages were settled
  all_settled : (now : Parts H S W C) (turn : ℕ) (session : Connection) (s : S) (c : C) (at : ℕ) (new : Connection) (handler : H) (out : W) (replies : List ℕ) → (h : Heard now turn session s c at new)
      → Adds serves now.handler (asks_now at new) handler [] replies → Grows (sink.told now.sink).taken (sink.told out).taken replies
      → Answers serves before.handler (heard h.hears) handler (sink.told before.sink).taken (sink.told out).taken
  all_settled now turn session s c at new handler out replies h a w = record {
    bytes = h.going.answers.bytes ++ a.bytes;
    run = subst (λ (l : List Ask). Run serves before.handler l (h.going.answers.bytes ++ a.bytes) handler) (sym h.asks)
        (Run-append serves before.handler now.handler handler (heard h.going.hears) (asks_now at new) h.going.answers.bytes a.bytes h.going.answers.run a.run);
    sent = Grows-more _ _ _ _ _ h.going.answers.sent (subst (Grows (sink.told now.sink).taken (sink.told out).taken) a.added w);
  }

  -- and their replies written, and there may be more
  pub Heard-answered : (now : Parts H S W C) (turn : ℕ) (session : Connection) (s : S) (c : C) (at : ℕ) (new fed : Connection) (handler : H) (out : W) (replies : List ℕ)
      → Heard now turn session s c at new → Adds serves now.handler (asks_now at new) handler [] replies → Grows (sink.told now.sink).taken (sink.told out).taken replies
      → (sink.told out).faults ≡ (sink.told now.sink).faults → fed ≡ fed_by new at new.rest → is_over fed ≡ false
      → Going (record { handler = handler; source = s; sink = out; clock = c }) (turn + 1) fed
  Heard-answered now turn session s c at new fed handler out replies h a w quiet is more = record {
    hears = h.hears;
    turns = h.turns;
    answers = all_settled now turn session s c at new handler out replies h a w;
    stands = is ∙ sym (h.stands (ap is_over (sym is) ∙ more));
    count = counted now turn session s c at new fed h is;
    more = leb-false 100 fed.taken more;
    calm = quiet ∙ h.going.calm;
  }

  -- or it was the last that a connection may have
  last_one : (taken most count : ℕ) → taken < 100 → count ≡ min (100 - taken) most → 100 ≤ taken + count → taken + count ≡ 100
  last_one taken most count few is over = omega (arith, few, is, over)

  pub ends_full : (now : Parts H S W C) (turn : ℕ) (session : Connection) (s : S) (c : C) (at : ℕ) (new fed : Connection) (handler : H) (out : W) (replies : List ℕ)
      → Heard now turn session s c at new → turn < terms.reads → Adds serves now.handler (asks_now at new) handler [] replies → Grows (sink.told now.sink).taken (sink.told out).taken replies
      → (sink.told out).faults ≡ (sink.told now.sink).faults → fed ≡ fed_by new at new.rest → is_over fed ≡ true
      → Ends serves skips source sink clock terms before (record { handler = handler; source = s; sink = out; clock = c }) (Ok fed.taken)
  ends_full now turn session s c at new fed handler out replies h l a w quiet is over =
      let taken : fed.taken ≡ new.taken + length (messages_in new new.rest) = ap (λ (k : Connection). k.taken) is in
      let most : fed.taken ≡ 100 =
      taken
      ∙ last_one new.taken (length (frames new.rest).messages) (length (messages_in new new.rest)) (omega (arith, h.taken, h.going.more)) (first_count (messages_left new) new.rest)
      (omega (arith, taken, leb-true 100 fed.taken over))
      in
      record {
        source_heard = s;
        hears = h.hears;
        all = inr (most, record { within = omega (arith, h.turns, l); same = refl });
        answers = all_settled now turn session s c at new handler out replies h a w;
        count = counted now turn session s c at new fed h is;
        source_calm = h.hears.calm;
        sink_calm = quiet ∙ h.going.calm;
      }

  -- the end of the source
  pub ends_served : (now : Parts H S W C) (turn : ℕ) (session : Connection) (s : S) (piece : List ℕ) → Going now turn session → turn < terms.reads
      → Receives source now.source s piece → length piece ≡ 0
      → Ends serves skips source sink clock terms before (record now { source = s }) (Ok session.taken)
  ends_served now turn session s piece g l r none =
      let no_piece : piece ≡ [] = none_of piece none in
      record {
        source_heard = now.source;
        hears = g.hears;
        all = inl (
          g.more,
          record {
            within = omega (arith, g.turns, l);
            ended = subst (λ (p : List ℕ). source.reads now.source room (Ok p) s) no_piece r.made;
            kept = Keeps-taken _ _ (subst (Takes (source.told now.source).left (source.told s).left) no_piece r.taken);
            end = at_end (source.told now.source).left (source.told s).left piece none r.taken (subst (EndsAt (source.told now.source).left (source.told s).left) none r.end);
          },
        );
        answers = g.answers;
        count = g.count;
        source_calm = r.calm ∙ g.hears.calm;
        sink_calm = g.calm;
      }

  -- all messages so far, whatever then wants memory
  all_answered : (now : Parts H S W C) (asks : List Ask) → Answers serves before.handler asks now.handler (sink.told before.sink).taken (sink.told now.sink).taken
      → BreaksOff serves skips before.handler asks now.handler (sink.told before.sink).taken (sink.told now.sink).taken
  all_answered now asks a = record {
    first = asks;
    others = [];
    parts = sym (append-nil asks);
    last = now.handler;
    answered = record { bytes = a.bytes; run = a.run; unsent = []; sent = record { front = a.bytes; parts = sym (append-nil a.bytes); grown = a.sent } };
    end = inl refl;
  }

  -- a read that gave nothing
  pub ends_reading : (now : Parts H S W C) (turn : ℕ) (session : Connection) (s : S) (fault : ServeFault) → Going now turn session → turn < terms.reads
      → Keeps (source.told now.source).left (source.told s).left → ReceivesNot source now.source s fault
      → Ends serves skips source sink clock terms before (record now { source = s }) (Err fault)
  ends_reading now turn session s Read g l k r = record {
    source_heard = now.source;
    hears = g.hears;
    within = omega (arith, g.turns, l);
    more = fewer now turn session g;
    failed = r.0;
    kept = k;
    answers = g.answers;
    rose = rose_on _ _ _ g.hears.calm r.1;
    sink_calm = g.calm;
  }
  ends_reading now turn session s OutOfMemory g l k r = record {
    source_heard = now.source;
    hears = g.hears;
    within = omega (arith, g.turns, l);
    refused = r.0;
    kept = k;
    answers = all_answered now (heard g.hears) g.answers;
    source_calm = r.1 ∙ g.hears.calm;
    sink_calm = g.calm;
  }
  ends_reading now turn session s Write g l k r = absurd r
  ends_reading now turn session s (Turns reads) g l k r = absurd r
  ends_reading now turn session s (TimedOut since limit at) g l k r = absurd r

  -- a read that came late
  pub ends_late : (now : Parts H S W C) (turn : ℕ) (session new : Connection) (s : S) (c : C) (at since : ℕ) (piece : List ℕ) → Going now turn session → turn < terms.reads
      → Receives source now.source s piece → length piece ≢ 0 → clock.ticks now.clock at c → HearsPiece session at piece (Late since) new
      → Ends serves skips source sink clock terms before (record now { source = s; clock = c }) (Err (TimedOut since terms.limit at))
  ends_late now turn session new s c at since piece g l r some t late =
      let by : is_within terms.limit (standing g.hears).base at ≡ false = subst (λ (k : Connection). is_within k.limit k.base at ≡ false) g.stands late.0 in
      let base : since ≡ (standing g.hears).base = late.1 ∙ ap (λ (k : Connection). k.base) g.stands in
      let past = late_by terms.limit (standing g.hears).base at by in
      record {
        source_heard = now.source;
        clock_ticked = now.clock;
        hears = g.hears;
        within = omega (arith, g.turns, l);
        more = fewer now turn session g;
        piece = piece;
        is_piece = is_some_piece piece r.most some;
        made = r.made;
        dropped = r.taken;
        reading = t;
        since_is = base;
        limit_is = refl;
        limited = past.0;
        late = subst (λ (b : ℕ). b + terms.limit < at) (sym base) past.1;
        answers = g.answers;
        source_calm = r.calm ∙ g.hears.calm;
        sink_calm = g.calm;
      }

  -- memory ran out among the messages of a read
  pub ends_answering : (now : Parts H S W C) (turn : ℕ) (session : Connection) (s : S) (c : C) (at : ℕ) (new : Connection) (handler : H) (had has : List ℕ)
      → Heard now turn session s c at new → turn < terms.reads → Halts serves skips now.handler (asks_now at new) handler had has
      → Ends serves skips source sink clock terms before (record { handler = handler; source = s; sink = now.sink; clock = c }) (Err OutOfMemory)
  ends_answering now turn session s c at new handler had has h l a = record {
    source_heard = s;
    hears = h.hears;
    within = omega (arith, h.turns, l);
    refused = inl refl;
    kept = Keeps-same _;
    answers = record {
      first = heard h.going.hears ++ a.first;
      others = a.others;
      parts = h.asks ∙ ap (λ (l : List Ask). heard h.going.hears ++ l) a.parts ∙ sym (append_assoc (heard h.going.hears) a.first a.others);
      last = a.last;
      answered = record {
        bytes = h.going.answers.bytes ++ a.bytes;
        run = Run-append serves before.handler now.handler a.last (heard h.going.hears) a.first h.going.answers.bytes a.bytes h.going.answers.run a.run;
        unsent = a.bytes;
        sent = record { front = h.going.answers.bytes; parts = refl; grown = h.going.answers.sent };
      };
      end = a.end;
    };
    source_calm = h.hears.calm;
    sink_calm = h.going.calm;
  }

  -- a write that failed
  partly : (now : Parts H S W C) (turn : ℕ) (session : Connection) (s : S) (c : C) (at : ℕ) (new : Connection) (handler : H) (out : W) (replies : List ℕ)
      → (h : Heard now turn session s c at new) → Adds serves now.handler (asks_now at new) handler [] replies
      → (rest : List ℕ) → GrowsByPrefix (sink.told now.sink).taken (sink.told out).taken replies rest
      → AnswersPartly serves before.handler (heard h.hears) handler (sink.told before.sink).taken (sink.told out).taken
  partly now turn session s c at new handler out replies h a rest w = record {
    bytes = h.going.answers.bytes ++ replies;
    run = subst (λ (l : List Ask). Run serves before.handler l (h.going.answers.bytes ++ replies) handler) (sym h.asks)
        (Run-append serves before.handler now.handler handler (heard h.going.hears) (asks_now at new) h.going.answers.bytes replies h.going.answers.run
        (subst (λ (l : List ℕ). Run serves now.handler (asks_now at new) l handler) (sym a.added) a.run));
    unsent = rest;
    sent = Grows-GrowsByPrefix _ _ _ _ _ _ h.going.answers.sent w;
  }

  pub ends_writing : (now : Parts H S W C) (turn : ℕ) (session : Connection) (s : S) (c : C) (at : ℕ) (new : Connection) (handler : H) (out : W) (replies : List ℕ) (fault : ServeFault)
      → Heard now turn session s c at new → turn < terms.reads → Adds serves now.handler (asks_now at new) handler [] replies
      → ((rest : List ℕ) × GrowsByPrefix (sink.told now.sink).taken (sink.told out).taken replies rest)
      → CountsWriting (sink.told now.sink).faults (sink.told out).faults (Err fault)
      → Ends serves skips source sink clock terms before (record { handler = handler; source = s; sink = out; clock = c }) (Err fault)
  ends_writing now turn session s c at new handler out replies Write h l a w r = record {
    hears = h.hears;
    within = omega (arith, h.turns, l);
    answers = partly now turn session s c at new handler out replies h a w.0 w.1;
    rose = rose_on _ _ _ h.going.calm r;
    source_calm = h.hears.calm;
  }
  ends_writing now turn session s c at new handler out replies OutOfMemory h l a w r = record {
    source_heard = s;
    hears = h.hears;
    within = omega (arith, h.turns, l);
    refused = inl refl;
    kept = Keeps-same _;
    answers = record {
      first = heard h.hears;
      others = [];
      parts = sym (append-nil (heard h.hears));
      last = handler;
      answered = partly now turn session s c at new handler out replies h a w.0 w.1;
      end = inl refl;
    };
    source_calm = h.hears.calm;
    sink_calm = r ∙ h.going.calm;
  }
  ends_writing now turn session s c at new handler out replies Read h l a w r = absurd r
  ends_writing now turn session s c at new handler out replies (Turns reads) h l a w r = absurd r
  ends_writing now turn session s c at new handler out replies (TimedOut since limit at2) h l a w r = absurd r

  -- as many reads as there may be
  pub ends_cut_off : (now : Parts H S W C) (turn : ℕ) (session : Connection) → Going now turn session → turn ≡ terms.reads
      → Ends serves skips source sink clock terms before now (Err (Turns terms.reads))
  ends_cut_off now turn session g all = record { hears = g.hears; all = g.turns ∙ all; more = fewer now turn session g; answers = g.answers; count = refl; source_calm = g.hears.calm; sink_calm = g.calm }
