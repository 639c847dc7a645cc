-- One piece of a connection in two of the same moment.
use Rattle.std.proofs.Common.{◌≡◌, ◌≢◌, ◌<◌, ◌≤◌, ℕ, ◌+◌, ◌-◌, length, length-append, leb, List, [], ◌∷◌, ◌++◌, map, refl, sym, ap, ◌∙◌, subst, Bool, true, false, Option, Some, None, ◌||◌, eqb, arith, append_assoc, append-nil}
use Rattle.std.specs.List.{cons_option, filter_map, flat_map, AllByRecursion}
use Rattle.std.proofs.lemmas.Bool.{le-leb, leb-true, eqb-true, eqb-false, cond-true, cond-false}
use Rattle.std.proofs.lemmas.Grind.{flat_map-append}
use Rattle.dns_frames.specs.Frames.{frames}
use Rattle.dns_server_core.specs.declared.event.Event.{Event}
use Rattle.dns_server_core.specs.declared.event.Event.TheVariants.{Bytes}
use Rattle.dns_server_core.specs.Events.{number_in, last_number}
use Rattle.dns_server_core.specs.Runs.{Completed}
use Rattle.dns_server_core.specs.Connections.{Connection, Kept, is_within, message_of, done, done_from, messages_left}
use Rattle.dns_server_core.specs.FrameRuns.{behind_first, first_messages}
use Rattle.dns_server_core.specs.Steps.{base_by, fed_by, moved, heard, is_over, messages_in, step, completed_now, open_next, unless_over}
use Rattle.dns_server_core.specs.Order.{Climbs, IsKept, next}
use Rattle.dns_server_core.specs.Valid.{Rises, Valid}
use Rattle.dns_server_core.proofs.FirstFrames.{behind_all, behind_more, changed, fed_few, first_all, first_count, first_enough, first_more}
use Rattle.dns_server_core.proofs.OnePiece.{base_again}
use Rattle.dns_server_core.proofs.KeptOrder.{all_weaker, bytes_others, IsKept-next}
use Rattle.dns_server_core.proofs.ConnectionTurns.{hears, hears_others, own_turn, piece_none, others_silent}
use Rattle.dns_server_core.proofs.AllConnections.{pendings, pendings-nil, pendings-push}
use Rattle.dns_server_core.proofs.ListsKept.{done-next}

-- one connection

or_true : (b : Bool) → (b || true) ≡ true
or_true true = refl
or_true false = refl

still : (limit base at : ℕ) (ms : List (List ℕ)) → is_within limit base at ≡ true → is_within limit (base_by base at ms) at ≡ true
still limit base at [] h = h
still limit base at (m ∷ ms) h = ap (λ (b : Bool). eqb limit 0 || b) (le-leb at (at + limit) (omega arith)) ∙ or_true (eqb limit 0)

base_twice : (base at : ℕ) (ms ns : List (List ℕ)) → base_by base at (ms ++ ns) ≡ base_by (base_by base at ms) at ns
base_twice base at [] ns = refl
base_twice base at (m ∷ ms) ns = sym (base_again at ns)

-- the connection behind a piece, and the messages that the piece completes
abbrev fed : Connection → ℕ → List ℕ → Connection
fed k at p = fed_by k at (k.rest ++ p)

abbrev said : Connection → List ℕ → List (List ℕ)
said k p = messages_in k (k.rest ++ p)

-- where it may have more behind the first piece, the second one completes what it still completes
few : (k : Connection) (at : ℕ) (p : List ℕ) → is_over (fed k at p) ≡ false → length (frames (k.rest ++ p)).messages ≤ messages_left k
few k at p more = fed_few k at (k.rest ++ p) more

all_said : (k : Connection) (at : ℕ) (p : List ℕ) → is_over (fed k at p) ≡ false → said k p ≡ (frames (k.rest ++ p)).messages
all_said k at p more = first_all (messages_left k) (k.rest ++ p) (few k at p more)

rest_of : (k : Connection) (at : ℕ) (p : List ℕ) → is_over (fed k at p) ≡ false → (frames (k.rest ++ p)).rest ≡ (fed k at p).rest
rest_of k at p more = sym (behind_all (messages_left k) (k.rest ++ p) (few k at p more))

left_of : (k : Connection) (at : ℕ) (p : List ℕ) → is_over (fed k at p) ≡ false → messages_left k - length (frames (k.rest ++ p)).messages ≡ messages_left (fed k at p)
left_of k at p more = omega (arith, ap length (all_said k at p more))

said_twice : (k : Connection) (at : ℕ) (p q : List ℕ) → is_over (fed k at p) ≡ false → said k (p ++ q) ≡ said k p ++ said (fed k at p) q
said_twice k at p q more =
    ap (first_messages (messages_left k)) (sym (append_assoc k.rest p q))
    ∙ first_more (messages_left k) (k.rest ++ p) q (few k at p more)
    ∙ ap (λ (n : ℕ). (frames (k.rest ++ p)).messages ++ first_messages n ((frames (k.rest ++ p)).rest ++ q)) (left_of k at p more)
    ∙ ap (λ (l : List ℕ). (frames (k.rest ++ p)).messages ++ first_messages (messages_left (fed k at p)) (l ++ q)) (rest_of k at p more)
    ∙ ap (λ (ms : List (List ℕ)). ms ++ said (fed k at p) q) (sym (all_said k at p more))

behind_twice : (k : Connection) (at : ℕ) (p q : List ℕ) → is_over (fed k at p) ≡ false → (fed k at (p ++ q)).rest ≡ (fed (fed k at p) at q).rest
behind_twice k at p q more =
    ap (behind_first (messages_left k)) (sym (append_assoc k.rest p q))
    ∙ behind_more (messages_left k) (k.rest ++ p) q (few k at p more)
    ∙ ap (λ (n : ℕ). behind_first n ((frames (k.rest ++ p)).rest ++ q)) (left_of k at p more)
    ∙ ap (λ (l : List ℕ). behind_first (messages_left (fed k at p)) (l ++ q)) (rest_of k at p more)

fed_twice : (k : Connection) (at : ℕ) (p q : List ℕ) → is_over (fed k at p) ≡ false → fed k at (p ++ q) ≡ fed (fed k at p) at q
fed_twice k at p q more =
    changed k (base_by k.base at (said k (p ++ q))) (base_by (base_by k.base at (said k p)) at (said (fed k at p) q)) (fed k at (p ++ q)).rest (fed (fed k at p) at q).rest
    (k.taken + length (said k (p ++ q))) (k.taken + length (said k p) + length (said (fed k at p) q))
    (ap (base_by k.base at) (said_twice k at p q more) ∙ base_twice k.base at (said k p) (said (fed k at p) q))
    (behind_twice k at p q more)
    (omega (arith, ap length (said_twice k at p q more), length-append (said k p) (said (fed k at p) q)))

-- where it had its last message in the first piece, the second one completes nothing
said_enough : (k : Connection) (at : ℕ) (p q : List ℕ) → is_over (fed k at p) ≡ true → said k (p ++ q) ≡ said k p
said_enough k at p q over =
    let enough : messages_left k ≤ length (frames (k.rest ++ p)).messages = omega (arith, leb-true _ _ over, first_count (messages_left k) (k.rest ++ p)) in
    ap (first_messages (messages_left k)) (sym (append_assoc k.rest p q)) ∙ first_enough (messages_left k) (k.rest ++ p) q enough

over_still : (k : Connection) (at : ℕ) (p q : List ℕ) → is_over (fed k at p) ≡ true → is_over (fed k at (p ++ q)) ≡ true
over_still k at p q over = ap (λ (ms : List (List ℕ)). leb 100 (k.taken + length ms)) (said_enough k at p q over) ∙ over

-- a piece of its number, in time
step_in : (k : Connection) (at n : ℕ) (p : List ℕ) → k.number ≡ n → is_within k.limit k.base at ≡ true → step (Bytes at n p) k ≡ unless_over (fed k at p)
step_in k at n p e w = ap (moved k) (own_turn at n p k e) ∙ cond-true (is_within k.limit k.base at) _ _ w

hears_in : (k : Connection) (at n : ℕ) (p : List ℕ) → k.number ≡ n → is_within k.limit k.base at ≡ true → hears at n p k ≡ map (message_of at k) (said k p)
hears_in k at n p e w = ap (λ t. map (message_of at k) (heard k t)) (own_turn at n p k e) ∙ ap (map (message_of at k)) (cond-true (is_within k.limit k.base at) _ _ w)

-- a piece of its number, late
step_late : (k : Connection) (at n : ℕ) (p : List ℕ) → k.number ≡ n → is_within k.limit k.base at ≡ false → step (Bytes at n p) k ≡ None
step_late k at n p e w = ap (moved k) (own_turn at n p k e) ∙ cond-false (is_within k.limit k.base at) _ _ w

hears_late : (k : Connection) (at n : ℕ) (p : List ℕ) → k.number ≡ n → is_within k.limit k.base at ≡ false → hears at n p k ≡ []
hears_late k at n p e w = ap (λ t. map (message_of at k) (heard k t)) (own_turn at n p k e) ∙ ap (map (message_of at k)) (cond-false (is_within k.limit k.base at) _ _ w)

map-append : (f : List ℕ → Completed) (xs ys : List (List ℕ)) → map f (xs ++ ys) ≡ map f xs ++ map f ys
map-append f [] ys = refl
map-append f (x ∷ xs) ys = ap (λ (zs : List Completed). f x ∷ zs) (map-append f xs ys)

-- all connections

-- those behind a piece, and what they hear of it
abbrev behind : ℕ → ℕ → List ℕ → List Connection → List Connection
behind at n p ks = filter_map (step (Bytes at n p)) ks

abbrev asks : ℕ → ℕ → List ℕ → List Connection → List Completed
asks at n p ks = flat_map (hears at n p) ks

none : (k : Connection) (n : ℕ) (ks : List Connection) → k.number ≡ n → AllByRecursion (λ j. k.number < j.number) ks → AllByRecursion (λ j. j.number ≢ n) ks
none k n ks e a = all_weaker (λ j. k.number < j.number) (λ j. j.number ≢ n) (λ j p q. omega (arith, p, q, e)) ks a

behind_other : (at n : ℕ) (p : List ℕ) (k : Connection) (ks : List Connection) → k.number ≢ n → behind at n p (k ∷ ks) ≡ k ∷ behind at n p ks
behind_other at n p k ks h = rw (bytes_others at n p k h) refl

behind_own : (at n : ℕ) (p : List ℕ) (k : Connection) (ks : List Connection) → k.number ≡ n → is_within k.limit k.base at ≡ true → AllByRecursion (λ j. j.number ≢ n) ks → behind at n p (k ∷ ks) ≡ cons_option (unless_over (fed k at p)) ks
behind_own at n p k ks e w a = rw (step_in k at n p e w, ← piece_none at n p ks a) refl

behind_open : (at n : ℕ) (p : List ℕ) (k : Connection) (ks : List Connection) → k.number ≡ n → is_within k.limit k.base at ≡ true → AllByRecursion (λ j. j.number ≢ n) ks → is_over (fed k at p) ≡ false
    → behind at n p (k ∷ ks) ≡ fed k at p ∷ ks
behind_open at n p k ks e w a more = behind_own at n p k ks e w a ∙ ap (λ o. cons_option o ks) (cond-false (is_over (fed k at p)) None (Some (fed k at p)) more)

behind_over : (at n : ℕ) (p : List ℕ) (k : Connection) (ks : List Connection) → k.number ≡ n → is_within k.limit k.base at ≡ true → AllByRecursion (λ j. j.number ≢ n) ks → is_over (fed k at p) ≡ true
    → behind at n p (k ∷ ks) ≡ ks
behind_over at n p k ks e w a over = behind_own at n p k ks e w a ∙ ap (λ o. cons_option o ks) (cond-true (is_over (fed k at p)) None (Some (fed k at p)) over)

behind_late : (at n : ℕ) (p : List ℕ) (k : Connection) (ks : List Connection) → k.number ≡ n → is_within k.limit k.base at ≡ false → AllByRecursion (λ j. j.number ≢ n) ks → behind at n p (k ∷ ks) ≡ ks
behind_late at n p k ks e w a = rw (step_late k at n p e w, ← piece_none at n p ks a) refl

silent : (at n : ℕ) (p : List ℕ) (ks : List Connection) → AllByRecursion (λ j. j.number ≢ n) ks → asks at n p ks ≡ []
silent at n p ks a = others_silent (hears at n p) n (hears_others at n p) ks a

asks_other : (at n : ℕ) (p : List ℕ) (k : Connection) (ks : List Connection) → k.number ≢ n → asks at n p (k ∷ ks) ≡ asks at n p ks
asks_other at n p k ks h = rw (hears_others at n p k h) refl

asks_own : (at n : ℕ) (p : List ℕ) (k : Connection) (ks : List Connection) → k.number ≡ n → is_within k.limit k.base at ≡ true → AllByRecursion (λ j. j.number ≢ n) ks → asks at n p (k ∷ ks) ≡ map (message_of at k) (said k p)
asks_own at n p k ks e w a = rw (hears_in k at n p e w, silent at n p ks a) (append-nil _)

asks_late : (at n : ℕ) (p : List ℕ) (k : Connection) (ks : List Connection) → k.number ≡ n → is_within k.limit k.base at ≡ false → AllByRecursion (λ j. j.number ≢ n) ks → asks at n p (k ∷ ks) ≡ []
asks_late at n p k ks e w a = rw (hears_late k at n p e w, silent at n p ks a) refl

-- the connections behind two pieces
abbrev Twice : ℕ → ℕ → List ℕ → List ℕ → List Connection → Type 0
Twice at n p q ks = (behind at n (p ++ q) ks ≡ behind at n q (behind at n p ks)) × (asks at n (p ++ q) ks ≡ asks at n p ks ++ asks at n q (behind at n p ks))

twice_in : (at n : ℕ) (p q : List ℕ) (k : Connection) (ks : List Connection) → k.number ≡ n → AllByRecursion (λ j. j.number ≢ n) ks → is_within k.limit k.base at ≡ true
    → (b : Bool) → is_over (fed k at p) ≡ b → Twice at n p q (k ∷ ks)
twice_in at n p q k ks e a w true over = (
  rw (behind_over at n (p ++ q) k ks e w a (over_still k at p q over), behind_over at n p k ks e w a over, ← piece_none at n q ks a) refl,
  rw (asks_own at n (p ++ q) k ks e w a, asks_own at n p k ks e w a, behind_over at n p k ks e w a over, silent at n q ks a, said_enough k at p q over) (sym (append-nil (map (message_of at k) (said k p)))),
)
twice_in at n p q k ks e a w false more =
    let v : is_within k.limit (fed k at p).base at ≡ true = still k.limit k.base at (said k p) w in (
      behind_own at n (p ++ q) k ks e w a
          ∙ ap (λ (c : Connection). cons_option (unless_over c) ks) (fed_twice k at p q more)
          ∙ sym (ap (behind at n q) (behind_open at n p k ks e w a more) ∙ behind_own at n q (fed k at p) ks e v a),
      rw (asks_own at n (p ++ q) k ks e w a, asks_own at n p k ks e w a, behind_open at n p k ks e w a more, asks_own at n q (fed k at p) ks e v a, said_twice k at p q more)
          (map-append (message_of at k) (said k p) (said (fed k at p) q)),
    )

twice_own : (at n : ℕ) (p q : List ℕ) (k : Connection) (ks : List Connection) → k.number ≡ n → AllByRecursion (λ j. j.number ≢ n) ks → (b : Bool) → is_within k.limit k.base at ≡ b → Twice at n p q (k ∷ ks)
twice_own at n p q k ks e a true w = twice_in at n p q k ks e a w (is_over (fed k at p)) refl
twice_own at n p q k ks e a false w = (
  rw (behind_late at n (p ++ q) k ks e w a, behind_late at n p k ks e w a, ← piece_none at n q ks a) refl,
  rw (asks_late at n (p ++ q) k ks e w a, asks_late at n p k ks e w a, behind_late at n p k ks e w a, silent at n q ks a) refl,
)

twice : (at n : ℕ) (p q : List ℕ) (ks : List Connection) → Climbs ks → Twice at n p q ks
twice at n p q [] c = (refl, refl)
twice at n p q (k ∷ ks) c = go (eqb k.number n) refl (twice at n p q ks c.1)
  where
    go : (b : Bool) → eqb k.number n ≡ b → Twice at n p q ks → Twice at n p q (k ∷ ks)
    go true t r =
        let e : k.number ≡ n = eqb-true k.number n t in
        twice_own at n p q k ks e (none k n ks e c.0) (is_within k.limit k.base at) refl
    go false t r =
        let h : k.number ≢ n = eqb-false k.number n t in (
          rw (behind_other at n (p ++ q) k ks h, behind_other at n p k ks h, behind_other at n q k (behind at n p ks) h, r.0) refl,
          rw (asks_other at n (p ++ q) k ks h, asks_other at n p k ks h, behind_other at n p k ks h, asks_other at n q k (behind at n p ks) h) r.1,
        )

-- a whole list

-- what events complete, from these connections on
abbrev through : List Connection → List Event → List Completed
through ks [] = []
through ks (e ∷ es) = completed_now e ks ++ through (open_next e ks) es

done_through : (connections : List Connection) (seen rest : List Event) → done_from connections seen rest ≡ through (pendings connections seen) rest
done_through connections seen [] = refl
done_through connections seen (e ∷ rest) =
    done-next connections seen rest e
    ∙ ap (λ (l : List Completed). completed_now e (pendings connections seen) ++ l)
    (done_through connections (seen ++ e ∷ []) rest ∙ ap (λ (ks : List Connection). through ks rest) (pendings-push connections seen e))

cut_here : (at n : ℕ) (p q : List ℕ) (ks : List Connection) (back : List Event) → Climbs ks → through ks (Bytes at n (p ++ q) ∷ back) ≡ through ks (Bytes at n p ∷ Bytes at n q ∷ back)
cut_here at n p q ks back c =
    let r = twice at n p q ks c in
    rw (append-nil (behind at n (p ++ q) ks), append-nil (behind at n p ks), append-nil (behind at n q (behind at n p ks)), r.0, r.1)
    (append_assoc (asks at n p ks) (asks at n q (behind at n p ks)) (through (behind at n q (behind at n p ks)) back))

rises_split : (greatest : Option ℕ) (xs ys : List ℕ) → Rises greatest (xs ++ ys) → Rises greatest xs × Rises (last_number greatest xs) ys
rises_split greatest [] ys r = (tt, r)
rises_split greatest (x ∷ xs) ys r = let s = rises_split (Some x) xs ys r.1 in ((r.0, s.0), s.1)

cut_there : (kept : Kept) (front back : List Event) (at n : ℕ) (p q : List ℕ) → IsKept kept → Rises kept.greatest (flat_map number_in front)
    → through kept.connections (front ++ Bytes at n (p ++ q) ∷ back) ≡ through kept.connections (front ++ Bytes at n p ∷ Bytes at n q ∷ back)
cut_there kept [] back at n p q k r = cut_here at n p q kept.connections back k.climbs
cut_there kept (e ∷ front) back at n p q k r =
    let s = rises_split kept.greatest (number_in e) (flat_map number_in front) r in
    ap (λ (l : List Completed). completed_now e kept.connections ++ l) (cut_there (next kept e) front back at n p q (IsKept-next kept e s.0 k) s.1)

pub cut_piece : (kept : Kept) (front back : List Event) (at n : ℕ) (p q : List ℕ) → IsKept kept → Valid kept (front ++ Bytes at n (p ++ q) ∷ back)
    → done kept (front ++ Bytes at n (p ++ q) ∷ back) ≡ done kept (front ++ Bytes at n p ∷ Bytes at n q ∷ back)
cut_piece kept front back at n p q k v =
    let r : Rises kept.greatest (flat_map number_in front) = (rises_split kept.greatest (flat_map number_in front) (flat_map number_in (Bytes at n (p ++ q) ∷ back)) (subst (Rises kept.greatest) (flat_map-append number_in front (Bytes at n (p ++ q) ∷ back)) v.numbers)).0 in
    let begin : pendings kept.connections [] ≡ kept.connections = pendings-nil kept.connections k.rests k.going in
    done_through kept.connections [] (front ++ Bytes at n (p ++ q) ∷ back)
    ∙ ap (λ (ks : List Connection). through ks (front ++ Bytes at n (p ++ q) ∷ back)) begin
    ∙ cut_there kept front back at n p q k r
    ∙ sym (ap (λ (ks : List Connection). through ks (front ++ Bytes at n p ∷ Bytes at n q ∷ back)) begin)
    ∙ sym (done_through kept.connections [] (front ++ Bytes at n p ∷ Bytes at n q ∷ back))
