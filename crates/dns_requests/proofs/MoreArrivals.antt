-- One read more.
use Rattle.std.proofs.Common.{◌≡◌, ◌≤◌, ◌<◌, ◌∙◌, ℕ, List, [], ◌∷◌, ◌++◌, length, map, zero, suc, true, false, cond, ◌&&◌, Option, Some, None, Ok, refl, sym, ap, subst, arith, length-append}
use Rattle.std.proofs.lemmas.List.{map-append}
use Rattle.std.proofs.lemmas.Bool.{cond-true}
use Rattle.std.specs.List.{AllByRecursion}
use Rattle.dns_io.specs.declared.peer.Peer.{Peer}
use Rattle.dns_book.specs.declared.ask.Ask.{Ask}
use Rattle.dns_io.specs.Told.{Takes}
use Rattle.dns_edges.specs.Listening.{Arrival, IsPiece, bytes_of, room}
use Rattle.dns_edges.specs.Edges.{SourceOf, ClockOf}
use Rattle.dns_edges.proofs.Listened.{Listens-more, bytes_of-push}
use Rattle.dns_io.proofs.ToldContents.{Told-same, Takes-more}
use Rattle.dns_frames.specs.Frames.{frames, frames_by}
use Rattle.dns_frames.proofs.Cutting.{frames-nil}
use Rattle.std.proofs.Math.Seq.{take-length}
use Rattle.dns_server_core.specs.Connections.{Connection, Piece, base, completed, in_time, is_within, left_by, may_go_on, moment_at, total, whole}
use Rattle.dns_server_core.specs.FrameRuns.{first_messages}
use Rattle.dns_server_core.specs.Steps.{fed_by, is_over}
use Rattle.dns_server_core.proofs.FirstFrames.{first_all, first_none}
use Rattle.dns_server_core.proofs.Pieces.{completed-push, few_so_far, heard_by, in_time-last, in_time-push, left_by-last, messages-last, moment_at-last, moment_at-push, next_messages, total-push, whole-push}
use Rattle.dns_requests.specs.Arrivals.{Hears, ask_at, asks_of, asks_through, opened}

pub one_longer : (ps : List Arrival) (a : Arrival) → length (ps ++ a ∷ []) ≡ suc (length ps)
one_longer ps a = omega (arith, length-append ps (a ∷ []))

-- what earlier reads completed does not change
pub completed-before : (c : Connection) (ps : List Arrival) (a : Arrival) (i : ℕ) → i < length ps → completed c (ps ++ a ∷ []) i ≡ completed c ps i
unfolding completed
completed-before c ps a i l = rw (in_time-push c ps a (suc i) (omega arith), whole-push c ps a i (omega arith), whole-push c ps a (suc i) (omega arith), total-push c ps a (suc i) (omega arith)) refl

pub asks_through-push : (c : Connection) (ps : List Arrival) (a : Arrival) (i : ℕ) → i ≤ length ps → asks_through c (ps ++ a ∷ []) i ≡ asks_through c ps i
unfolding asks_through
asks_through-push c ps a zero l = refl
asks_through-push c ps a (suc i) l = rw (asks_through-push c ps a i (omega arith), moment_at-push ps a i (omega arith), completed-before c ps a i (omega arith)) refl

-- what this one completes, in time, where the connection may have more messages
completed-here : (c : Connection) (ps : List Arrival) (a : Arrival) → in_time c ps (length ps) ≡ true → may_go_on c ps (length ps) ≡ true → is_within c.limit (base c ps (length ps)) a.at ≡ true
    → completed c (ps ++ a ∷ []) (length ps) ≡ next_messages c ps a
completed-here c ps a t m w =
    completed-push c ps a
    ∙ ap (λ b. heard_by (cond (b && may_go_on c ps (length ps)) (Some (left_by c ps)) None) (Piece a)) t
    ∙ ap (λ b. heard_by (cond b (Some (left_by c ps)) None) (Piece a)) m
    ∙ cond-true _ _ _ w

pub asks_next : (c : Connection) (ps : List Arrival) (i : ℕ) → asks_through c ps (suc i) ≡ asks_through c ps i ++ map (ask_at c.peer (moment_at ps i)) (completed c ps i)
unfolding asks_through
asks_next c ps i = refl

-- at the beginning
pub left_by_none : (peer : Peer) (limit began : ℕ) → left_by (opened peer limit began) [] ≡ opened peer limit began
unfolding base total whole frames frames_by
left_by_none peer limit began = refl

pub asks_of-none : (c : Connection) → asks_of c [] ≡ []
unfolding asks_through
asks_of-none c = refl

pub asks_of-push : (c : Connection) (ps : List Arrival) (a : Arrival) → in_time c ps (length ps) ≡ true → may_go_on c ps (length ps) ≡ true → is_within c.limit (base c ps (length ps)) a.at ≡ true
    → asks_of c (ps ++ a ∷ []) ≡ asks_of c ps ++ map (ask_at c.peer a.at) (next_messages c ps a)
asks_of-push c ps a t m w =
    ap (asks_through c (ps ++ a ∷ [])) (one_longer ps a) ∙ asks_next c (ps ++ a ∷ []) (length ps)
    ∙ rw (asks_through-push c ps a (length ps) (omega arith), moment_at-last ps a, completed-here c ps a t m w) refl

pub in_time-more : (c : Connection) (ps : List Arrival) (a : Arrival) → in_time c ps (length ps) ≡ true → may_go_on c ps (length ps) ≡ true → is_within c.limit (base c ps (length ps)) a.at ≡ true
    → in_time c (ps ++ a ∷ []) (length (ps ++ a ∷ [])) ≡ true
in_time-more c ps a t m w = ap (in_time c (ps ++ a ∷ [])) (one_longer ps a) ∙ in_time-last c ps a ∙ rw (t, m, w) refl

-- how it leaves the connection, where it may have more messages
pub left_by-push : (c : Connection) (ps : List Arrival) (a : Arrival) → may_go_on c ps (length ps) ≡ true → is_over (fed_by (left_by c ps) a.at ((left_by c ps).rest ++ a.piece)) ≡ false
    → left_by c (ps ++ a ∷ []) ≡ fed_by (left_by c ps) a.at ((left_by c ps).rest ++ a.piece)
left_by-push c ps a m o = rw (one_longer ps a) (left_by-last c ps a m o)

pub in_time-none : (c : Connection) → in_time c [] 0 ≡ true
unfolding in_time
in_time-none c = refl

pub all_more : {X : Type 0} (P : X → Type 0) (xs : List X) (x : X) → AllByRecursion P xs → P x → AllByRecursion P (xs ++ x ∷ [])
all_more P [] x h p = (p, tt)
all_more P (y ∷ xs) x h p = (h.0, all_more P xs x h.1 p)

pub Takes-none : (a : Option (List ℕ)) → Takes a a []
Takes-none a = Told-same (λ l r. l ≡ [] ++ r) (λ x. refl) a

-- their messages are the first frames of all bytes
total_all : (peer : Peer) (limit began : ℕ) (ps : List Arrival) → total (opened peer limit began) ps (length ps) ≡ bytes_of ps
unfolding total
total_all peer limit began ps = ap bytes_of (take-length ps)

bytes_back : (peer : Peer) (at : ℕ) (ms : List (List ℕ)) → map (λ (a : Ask). a.bytes) (map (ask_at peer at) ms) ≡ ms
bytes_back peer at [] = refl
bytes_back peer at (m ∷ ms) = ap (λ (l : List (List ℕ)). m ∷ l) (bytes_back peer at ms)

pub messages_none : (c : Connection) → map (λ (a : Ask). a.bytes) (asks_of c []) ≡ first_messages 100 (bytes_of [])
messages_none c = rw (asks_of-none c) (sym (first_none 100 [] frames-nil))

pub messages_more : (peer : Peer) (limit began : ℕ) (ps : List Arrival) (a : Arrival) → in_time (opened peer limit began) ps (length ps) ≡ true → may_go_on (opened peer limit began) ps (length ps) ≡ true
    → is_within limit (base (opened peer limit began) ps (length ps)) a.at ≡ true
    → map (λ (k : Ask). k.bytes) (asks_of (opened peer limit began) ps) ≡ first_messages 100 (bytes_of ps)
    → map (λ (k : Ask). k.bytes) (asks_of (opened peer limit began) (ps ++ a ∷ [])) ≡ first_messages 100 (bytes_of (ps ++ a ∷ []))
messages_more peer limit began ps a t m w h =
    let c : Connection = opened peer limit began in
    let ms : List (List ℕ) = next_messages c ps a in
    let few : length (frames (total c ps (length ps))).messages ≤ 100 = omega (arith, few_so_far c ps m) in
    ap (map (λ (k : Ask). k.bytes)) (asks_of-push c ps a t m w)
    ∙ map-append (λ (k : Ask). k.bytes) (asks_of c ps) (map (ask_at peer a.at) ms)
    ∙ ap (λ (l : List (List ℕ)). l ++ map (λ (k : Ask). k.bytes) (map (ask_at peer a.at) ms)) (h ∙ ap (first_messages 100) (sym (total_all peer limit began ps)) ∙ first_all 100 (total c ps (length ps)) few)
    ∙ ap (λ (l : List (List ℕ)). (frames (total c ps (length ps))).messages ++ l) (bytes_back peer a.at ms)
    ∙ sym (messages-last c ps a m)
    ∙ ap (first_messages 100) (ap (total c (ps ++ a ∷ [])) (sym (one_longer ps a)) ∙ total_all peer limit began (ps ++ a ∷ []))

module _ {S C : Type 0} (source : SourceOf S) (clock : ClockOf C) where
  abbrev pub Hears-none : (peer : Peer) (limit : ℕ) (s : S) (a b : C) (began : ℕ) → clock.ticks a began b → Hears source clock peer limit s a s b
  Hears-none peer limit s a b began t = record {
    began = began;
    arrivals = [];
    pieces = tt;
    in_time = in_time-none (opened peer limit began);
    started = b;
    first = t;
    made = (refl, refl);
    taken = Takes-none (source.told s).left;
    calm = refl;
    messages = messages_none (opened peer limit began);
  }

  abbrev pub Hears-more : (peer : Peer) (limit : ℕ) (s0 s1 s2 : S) (c0 c1 c2 : C) (at : ℕ) (piece : List ℕ) → (h : Hears source clock peer limit s0 c0 s1 c1) → IsPiece piece
      → may_go_on (opened peer limit h.began) h.arrivals (length h.arrivals) ≡ true → is_within limit (base (opened peer limit h.began) h.arrivals (length h.arrivals)) at ≡ true → source.reads s1 room (Ok piece) s2 → Takes (source.told s1).left (source.told s2).left piece
      → (source.told s2).faults ≡ (source.told s1).faults → clock.ticks c1 at c2 → Hears source clock peer limit s0 c0 s2 c2
  Hears-more peer limit s0 s1 s2 c0 c1 c2 at piece h p o w m t f r = record {
    began = h.began;
    arrivals = h.arrivals ++ record { at = at; piece = piece } ∷ [];
    pieces = all_more (λ (a : Arrival). IsPiece a.piece) h.arrivals (record { at = at; piece = piece }) h.pieces p;
    in_time = in_time-more (opened peer limit h.began) h.arrivals (record { at = at; piece = piece }) h.in_time o w;
    started = h.started;
    first = h.first;
    made = Listens-more source clock s0 s1 s2 h.started c1 c2 h.arrivals (record { at = at; piece = piece }) h.made m r;
    taken = subst (Takes (source.told s0).left (source.told s2).left) (bytes_of-push h.arrivals (record { at = at; piece = piece })) (Takes-more _ _ _ _ _ h.taken t);
    calm = f ∙ h.calm;
    messages = messages_more peer limit h.began h.arrivals (record { at = at; piece = piece }) h.in_time o w h.messages;
  }
