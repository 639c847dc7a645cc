-- How an exchange goes on from message to message.
use Rattle.std.proofs.Common.{◌≡◌, ℕ, ◌+◌, ◌≤◌, ◌<◌, List, [], ◌∷◌, ◌++◌, length, take, drop, get_or, Option, Some, None, refl, sym, ap, ◌∙◌}
use Rattle.std.proofs.lemmas.List.{append_assoc, append-nil, take-append-drop, drop_more}
use Rattle.std.specs.Prelude.{Result, Ok, Err, IfErr}
use Rattle.std.specs.List.{flat_map}
use Rattle.dns_io.specs.Told.{Takes, Grows}
use Rattle.dns_io.proofs.ToldContents.{Takes-more, Grows-more, Grows-nothing}
use Rattle.dns_wire.specs.declared.message.Message.{Message}
use Rattle.dns_update_client.specs.declared.submit_fault.SubmitFault.{SubmitFault}
use Rattle.dns_update_client.specs.declared.submit_fault.SubmitFault.TheVariants as fault
use Rattle.dns_update_client.specs.Exchange.{message_frame, message_frames, Answers, Exchanges, IsSendable, Leaves, Replies, Stops, StopsAt, StopsReading, StopsReceiving, StopsSending, TakesUntil, sending, receiving, reading}
use Rattle.dns_update_client.specs.Exchange as exchange
use Rattle.dns_update_client.specs.Framed.{frame, frames_of}
use Rattle.dns_update_client.proofs.Pieces.{Takes-nothing}

flat_map-one : {A : Type 0} (f : A → List ℕ) (xs : List A) (x : A) → flat_map f (xs ++ x ∷ []) ≡ flat_map f xs ++ f x
flat_map-one f [] x = append-nil (f x)
flat_map-one f (y ∷ ys) x = ap (λ (l : List ℕ). f y ++ l) (flat_map-one f ys x) ∙ sym (append_assoc (f y) (flat_map f ys) (f x))

Exchanges-more : (messages : List Message) (replies : List (List ℕ)) (codes : List ℕ) (m : Message) (b : List ℕ) (c : ℕ) → Exchanges messages replies codes → IsSendable m → Replies m.header.id b c
    → Exchanges (messages ++ m ∷ []) (replies ++ b ∷ []) (codes ++ c ∷ [])
Exchanges-more [] [] [] m b c done sendable replied = (sendable, replied, tt)
Exchanges-more [] [] (d ∷ codes) m b c done sendable replied = absurd done
Exchanges-more [] (a ∷ replies) codes m b c done sendable replied = absurd done
Exchanges-more (n ∷ messages) [] codes m b c done sendable replied = absurd done
Exchanges-more (n ∷ messages) (a ∷ replies) [] m b c done sendable replied = absurd done
Exchanges-more (n ∷ messages) (a ∷ replies) (d ∷ codes) m b c done sendable replied = (done.0, done.1, Exchanges-more messages replies codes m b c done.2 sendable replied)

pub Answers-begun : (left taken : Option (List ℕ)) → Answers [] [] left left taken taken
Answers-begun left taken = record { replies = []; answered = tt; received = Takes-nothing left; sent = Grows-nothing taken }

-- one message more
pub Answers-more : (messages : List Message) (codes : List ℕ) (left rest next taken now then : Option (List ℕ)) (m : Message) (b : List ℕ) (c : ℕ) → Answers messages codes left rest taken now
    → IsSendable m → Replies m.header.id b c → Takes rest next (frame b) → Grows now then (message_frame m) → Answers (messages ++ m ∷ []) (codes ++ c ∷ []) left next taken then
Answers-more messages codes left rest next taken now then m b c done sendable replied took grew = record {
  replies = done.replies ++ b ∷ [];
  answered = Exchanges-more messages done.replies codes m b c done.answered sendable replied;
  received = rw (flat_map-one frame done.replies b) (Takes-more left rest next (frames_of done.replies) (frame b) done.received took);
  sent = rw (flat_map-one message_frame messages m) (Grows-more taken now then (message_frames messages) (message_frame m) done.sent grew);
}

Takes-until : (f : SubmitFault) (a b c : Option (List ℕ)) (xs ys : List ℕ) → Takes a b xs → TakesUntil f b c ys → TakesUntil f a c (xs ++ ys)
Takes-until f a b None xs ys took until = tt
Takes-until f a None (Some z) xs ys took until = absurd until
Takes-until f None (Some y) (Some z) xs ys took until = absurd took
Takes-until f (Some x) (Some y) (Some z) xs ys took until = (took ∙ ap (λ (l : List ℕ). xs ++ l) until.0 ∙ sym (append_assoc xs ys z), until.1)

-- the list, at one of its messages
pub parted : (messages : List Message) (i : ℕ) (m : Message) → i < length messages → m ≡ get_or messages i m → messages ≡ take i messages ++ m ∷ drop (i + 1) messages
parted messages i m inside is =
    sym (take-append-drop i messages) ∙ ap (λ (ys : List Message). take i messages ++ ys) (drop_more messages i m inside ∙ ap (λ (x : Message). x ∷ drop (i + 1) messages) (sym is))

-- a fault that says nothing of what is left
leaves-sending : (m : Message) (sent : List ℕ) (f : SubmitFault) (rest : List ℕ) → StopsSending m sent f → Leaves f rest
leaves-sending m sent _ rest (exchange.StopsSending.unwritable tells other none) = tt
leaves-sending m sent _ rest (exchange.StopsSending.unsent left is) = tt
leaves-sending m sent _ rest (exchange.StopsSending.no_memory left is) = tt

leaves-reading : (id : ℕ) (bytes : List ℕ) (f : SubmitFault) (rest : List ℕ) → StopsReading id bytes f → Leaves f rest
leaves-reading id bytes _ rest (exchange.StopsReading.unreadable tells other) = tt
leaves-reading id bytes _ rest (exchange.StopsReading.mismatched reply stands other) = tt
leaves-reading id bytes _ rest (exchange.StopsReading.no_reply reply stands same other) = tt
leaves-reading id bytes _ rest exchange.StopsReading.no_memory = tt

until : (f : SubmitFault) (a b : Option (List ℕ)) (bytes : List ℕ) → ((rest : List ℕ) → Leaves f rest) → Takes a b bytes → TakesUntil f a b bytes
until f a None bytes leaves took = tt
until f None (Some rest) bytes leaves took = absurd took
until f (Some left) (Some rest) bytes leaves took = (took, leaves rest)

-- how the exchange of one message ends without an answer
abbrev pub Unanswered : Message → ℕ → SubmitFault → Option (List ℕ) → Option (List ℕ) → Option (List ℕ) → Option (List ℕ) → Type 0
Unanswered m number f left rest taken now = (sent got : List ℕ) × Stops m number sent got f × TakesUntil f left rest got × Grows taken now sent

pub stops-sending : (m : Message) (number : ℕ) (f : SubmitFault) (left taken now : Option (List ℕ)) → ((sent : List ℕ) × StopsSending m sent f × Grows taken now sent) → Unanswered m number f left left taken now
stops-sending m number f left taken now stops =
    (stops.0, [], sending stops.1 refl, until f left left [] (λ rest. leaves-sending m stops.0 f rest stops.1) (Takes-nothing left), stops.2)

pub stops-receiving : (m : Message) (number : ℕ) (f : SubmitFault) (left rest taken now : Option (List ℕ)) → IsSendable m → Grows taken now (message_frame m)
    → ((got : List ℕ) × StopsReceiving number got f × TakesUntil f left rest got) → Unanswered m number f left rest taken now
stops-receiving m number f left rest taken now sendable grew stops = (message_frame m, stops.0, receiving sendable refl stops.1, stops.2, grew)

pub stops-reading : (m : Message) (number : ℕ) (f : SubmitFault) (left rest taken now : Option (List ℕ)) (bytes : List ℕ) → IsSendable m → Grows taken now (message_frame m) → Takes left rest (frame bytes) → length bytes ≤ 65535
    → StopsReading m.header.id bytes f → Unanswered m number f left rest taken now
stops-reading m number f left rest taken now bytes sendable grew took short stops =
    (message_frame m, frame bytes, reading sendable refl bytes short refl stops, until f left rest (frame bytes) (λ r. leaves-reading m.header.id bytes f r stops) took, grew)

-- memory ran out for the code of a reply
pub stops-noting : (m : Message) (number : ℕ) (left rest taken now : Option (List ℕ)) (bytes : List ℕ) (code : ℕ) → IsSendable m → Replies m.header.id bytes code → Takes left rest (frame bytes) → Grows taken now (message_frame m)
    → Unanswered m number fault.OutOfMemory left rest taken now
stops-noting m number left rest taken now bytes code sendable replied took grew =
    stops-reading m number fault.OutOfMemory left rest taken now bytes sendable grew took replied.short exchange.StopsReading.no_memory

-- a message that is not answered, behind others that are
pub StopsAt-behind : (messages front : List Message) (m : Message) (behind : List Message) (codes : List ℕ) (f : SubmitFault) (number : ℕ) (left rest next taken now then : Option (List ℕ))
    → messages ≡ front ++ m ∷ behind → number ≡ length front + 1 → Answers front codes left rest taken now → Unanswered m number f rest next now then
    → StopsAt messages f left next taken then
StopsAt-behind messages front m behind codes f number left rest next taken now then parts count done stops = record {
  front = front;
  message = m;
  behind = behind;
  parts = parts;
  replies = done.replies;
  codes = codes;
  answered = done.answered;
  sent_part = stops.0;
  got_part = stops.1;
  cause = rw count at stops.2;
  received = Takes-until f left rest next (frames_of done.replies) stops.1 done.received stops.3;
  sent = Grows-more taken now then (message_frames front) stops.0 done.sent stops.4;
}

-- what stands of a fault, by what else does
pub if-err : {T E : Type 0} (P Q : E → Type 0) (result : Result T E) → ((e : E) → P e → Q e) → IfErr result P → IfErr result Q
if-err P Q (Ok done) f holds = tt
if-err P Q (Err e) f holds = f e holds
