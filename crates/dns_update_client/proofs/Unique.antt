-- Messages and what an input has decide how an exchange ends.
use Rattle.std.proofs.Common.{◌≡◌, ℕ, ◌+◌, ◌≤◌, ◌<◌, List, [], ◌∷◌, ◌++◌, length, Option, Some, refl, sym, ap, ◌∙◌, subst, arith}
use Rattle.std.proofs.lemmas.List.{append_assoc, append-nil}
use Rattle.dns_name.specs.declared.fault.ProtoError.{ProtoError}
use Rattle.dns_name.specs.declared.fault.ProtoError.TheVariants as proto
use Rattle.dns_wire.specs.declared.message.Message.{Message}
use Rattle.dns_wire.specs.Messages.{MessageAt, TellsWhere}
use Rattle.dns_wire.specs.MessageBytes.{message_bytes, TellsTooLong}
use Rattle.dns_wire.proofs.MessageDetermined.{messages_one, place_one}
use Rattle.dns_update_client.specs.declared.submit_fault.SubmitFault.{SubmitFault}
use Rattle.dns_update_client.specs.declared.submit_fault.SubmitFault.TheVariants as fault
use Rattle.dns_update_client.specs.Exchange.{Answers, Exchanges, IsDecided, IsSendable, IsUpdateReply, Leaves, Replies, Stops, StopsAt, StopsReading, StopsReceiving, StopsSending}
use Rattle.dns_update_client.specs.Exchange as exchange
use Rattle.dns_update_client.specs.Framed.{frame, frames_of, IsUnfinished}
use Rattle.dns_update_client.proofs.FrameParts.{same-frame, not-unfinished}
use Rattle.dns_update_client.proofs.TooLong.{same-tells, tells-long}

not-sendable : (m : Message) (e : ProtoError) → IsSendable m → TellsTooLong m e → (e ≡ proto.OutOfMemory → ⊥) → ⊥
not-sendable m e sendable tells other = let long : 65535 < length (message_bytes m) = tells-long m e tells other in absurd (omega (arith, long, sendable.short))

-- bytes that are no message are none at one place
same-place : (bytes : List ℕ) (d e : ProtoError) → TellsWhere bytes d → TellsWhere bytes e → (d ≡ proto.OutOfMemory → ⊥) → (e ≡ proto.OutOfMemory → ⊥) → d ≡ e
same-place bytes proto.OutOfMemory e a b other more = absurd (other refl)
same-place bytes (proto.DataTooLong n) e a b other more = absurd a
same-place bytes (proto.MessageTooLong n) e a b other more = absurd a
same-place bytes proto.LabelEmpty e a b other more = absurd a
same-place bytes proto.LabelLong e a b other more = absurd a
same-place bytes proto.BadEscape e a b other more = absurd a
same-place bytes proto.NameLong e a b other more = absurd a
same-place bytes (proto.OutsideGrammar at) proto.OutOfMemory a b other more = absurd (more refl)
same-place bytes (proto.OutsideGrammar at) (proto.DataTooLong n) a b other more = absurd b
same-place bytes (proto.OutsideGrammar at) (proto.MessageTooLong n) a b other more = absurd b
same-place bytes (proto.OutsideGrammar at) proto.LabelEmpty a b other more = absurd b
same-place bytes (proto.OutsideGrammar at) proto.LabelLong a b other more = absurd b
same-place bytes (proto.OutsideGrammar at) proto.BadEscape a b other more = absurd b
same-place bytes (proto.OutsideGrammar at) proto.NameLong a b other more = absurd b
same-place bytes (proto.OutsideGrammar at) (proto.OutsideGrammar place) a b other more = ap proto.OutsideGrammar (place_one bytes at place a.0 b.0)

-- a message stands, so reading does not fail
stands-not : (bytes : List ℕ) (m : Message) (e : ProtoError) → MessageAt bytes m → TellsWhere bytes e → (e ≡ proto.OutOfMemory → ⊥) → ⊥
stands-not bytes m proto.OutOfMemory stands tells other = absurd (other refl)
stands-not bytes m (proto.OutsideGrammar at) stands tells other = tells.1 m stands
stands-not bytes m (proto.DataTooLong n) stands tells other = absurd tells
stands-not bytes m (proto.MessageTooLong n) stands tells other = absurd tells
stands-not bytes m proto.LabelEmpty stands tells other = absurd tells
stands-not bytes m proto.LabelLong stands tells other = absurd tells
stands-not bytes m proto.BadEscape stands tells other = absurd tells
stands-not bytes m proto.NameLong stands tells other = absurd tells

same-id : (bytes : List ℕ) (a b : Message) → MessageAt bytes a → MessageAt bytes b → a.header.id ≡ b.header.id
same-id bytes a b p q = ap (λ (m : Message). m.header.id) (messages_one bytes a b p q)

same-kind : (bytes : List ℕ) (a b : Message) → MessageAt bytes a → MessageAt bytes b → IsUpdateReply a → IsUpdateReply b
same-kind bytes a b p q is = let P : Message → Type 0 = λ (m : Message). IsUpdateReply m in subst P (messages_one bytes a b p q) is

-- a reply is not refused
reply-taken : (id : ℕ) (bytes : List ℕ) (code : ℕ) (f : SubmitFault) → Replies id bytes code → StopsReading id bytes f → IsDecided f → ⊥
reply-taken id bytes code _ r (exchange.StopsReading.unreadable {error = e} tells other) decided = stands-not bytes r.reply e r.stands tells other
reply-taken id bytes code _ r (exchange.StopsReading.mismatched reply stands other) decided = other (same-id bytes reply r.reply stands r.stands ∙ r.same)
reply-taken id bytes code _ r (exchange.StopsReading.no_reply reply stands same other) decided = other (same-kind bytes r.reply reply r.stands stands r.kind)
reply-taken id bytes code _ r exchange.StopsReading.no_memory decided = absurd decided

-- bytes are refused for one cause
same-reading : (id : ℕ) (bytes : List ℕ) (f g : SubmitFault) → StopsReading id bytes f → StopsReading id bytes g → IsDecided f → IsDecided g → f ≡ g
same-reading id bytes _ g exchange.StopsReading.no_memory b p q = absurd p
same-reading id bytes _ _ (exchange.StopsReading.unreadable {error = d} tells other) exchange.StopsReading.no_memory p q = absurd q
same-reading id bytes _ _ (exchange.StopsReading.unreadable {error = d} tells other) (exchange.StopsReading.unreadable {error = e} more others) p q = ap fault.Proto (same-place bytes d e tells more other others)
same-reading id bytes _ _ (exchange.StopsReading.unreadable {error = d} tells other) (exchange.StopsReading.mismatched reply stands differs) p q = absurd (stands-not bytes reply d stands tells other)
same-reading id bytes _ _ (exchange.StopsReading.unreadable {error = d} tells other) (exchange.StopsReading.no_reply reply stands same differs) p q = absurd (stands-not bytes reply d stands tells other)
same-reading id bytes _ _ (exchange.StopsReading.mismatched reply stands differs) exchange.StopsReading.no_memory p q = absurd q
same-reading id bytes _ _ (exchange.StopsReading.mismatched reply stands differs) (exchange.StopsReading.unreadable {error = e} tells other) p q = absurd (stands-not bytes reply e stands tells other)
same-reading id bytes _ _ (exchange.StopsReading.mismatched reply stands differs) (exchange.StopsReading.mismatched again also others) p q = ap (fault.Mismatch id) (same-id bytes reply again stands also)
same-reading id bytes _ _ (exchange.StopsReading.mismatched reply stands differs) (exchange.StopsReading.no_reply again also same others) p q = absurd (differs (same-id bytes reply again stands also ∙ same))
same-reading id bytes _ _ (exchange.StopsReading.no_reply reply stands same differs) exchange.StopsReading.no_memory p q = absurd q
same-reading id bytes _ _ (exchange.StopsReading.no_reply reply stands same differs) (exchange.StopsReading.unreadable {error = e} tells other) p q = absurd (stands-not bytes reply e stands tells other)
same-reading id bytes _ _ (exchange.StopsReading.no_reply reply stands same differs) (exchange.StopsReading.mismatched again also others) p q = absurd (others (same-id bytes again reply also stands ∙ same))
same-reading id bytes _ _ (exchange.StopsReading.no_reply reply stands same differs) (exchange.StopsReading.no_reply again also then others) p q = refl

cut-off : (number : ℕ) (got y : List ℕ) (f : SubmitFault) → StopsReceiving number got f → IsDecided f → Leaves f y → IsUnfinished got × (f ≡ fault.Ended number) × (got ++ y ≡ got)
cut-off number got y _ (exchange.StopsReceiving.unreceived part) p left = absurd p
cut-off number got y _ (exchange.StopsReceiving.ended unfinished) p left = (unfinished, refl, ap (λ (l : List ℕ). got ++ l) left ∙ append-nil got)
cut-off number got y _ (exchange.StopsReceiving.no_memory part) p left = absurd p

-- a frame that is there is not cut off
frame-there : (number : ℕ) (got y bytes x : List ℕ) (f : SubmitFault) → StopsReceiving number got f → IsDecided f → Leaves f y → length bytes ≤ 65535 → frame bytes ++ x ≡ got ++ y → ⊥
frame-there number got y bytes x f stops p left short is = let cut = cut-off number got y f stops p left in not-unfinished bytes x got short (is ∙ cut.2) cut.0

unsendable : (m : Message) (sent : List ℕ) (f : SubmitFault) → IsSendable m → StopsSending m sent f → IsDecided f → ⊥
unsendable m sent _ sendable (exchange.StopsSending.unwritable {error = e} tells other none) p = not-sendable m e sendable tells other
unsendable m sent _ sendable (exchange.StopsSending.unsent left is) p = absurd p
unsendable m sent _ sendable (exchange.StopsSending.no_memory left is) p = absurd p

same-sending : (m : Message) (sent again : List ℕ) (f g : SubmitFault) → StopsSending m sent f → StopsSending m again g → IsDecided f → IsDecided g → f ≡ g
same-sending m sent again _ g (exchange.StopsSending.unsent left is) b p q = absurd p
same-sending m sent again _ g (exchange.StopsSending.no_memory left is) b p q = absurd p
same-sending m sent again _ _ (exchange.StopsSending.unwritable {error = d} tells other none) (exchange.StopsSending.unsent left is) p q = absurd q
same-sending m sent again _ _ (exchange.StopsSending.unwritable {error = d} tells other none) (exchange.StopsSending.no_memory left is) p q = absurd q
same-sending m sent again _ _ (exchange.StopsSending.unwritable {error = d} tells other none) (exchange.StopsSending.unwritable {error = e} more others also) p q = ap fault.Proto (same-tells m d e tells more other others)

-- a message that is answered is not one that is not
answered-not : (m : Message) (number : ℕ) (sent got x y b : List ℕ) (c : ℕ) (f : SubmitFault) → IsSendable m → Replies m.header.id b c → Stops m number sent got f → IsDecided f → frame b ++ x ≡ got ++ y → Leaves f y → ⊥
answered-not m number sent got x y b c f sendable r (exchange.Stops.sending stops none) p is left = unsendable m sent f sendable stops p
answered-not m number sent got x y b c f sendable r (exchange.Stops.receiving able whole stops) p is left = frame-there number got y b x f stops p left r.short is
answered-not m number sent got x y b c f sendable r (exchange.Stops.reading able whole bytes short given stops) p is left =
    let same : b ≡ bytes = (same-frame b x bytes y r.short short (is ∙ ap (λ (l : List ℕ). l ++ y) given)).0 in
    let P : List ℕ → Type 0 = λ (l : List ℕ). Replies m.header.id l c in
    reply-taken m.header.id bytes c f (subst P same r) stops p

-- a message is not answered for one cause
same-stop : (m : Message) (number : ℕ) (sent got again have x y : List ℕ) (f g : SubmitFault) → Stops m number sent got f → Stops m number again have g → IsDecided f → IsDecided g → got ++ x ≡ have ++ y → Leaves f x → Leaves g y → f ≡ g
same-stop m number sent got again have x y f g (exchange.Stops.sending a none) (exchange.Stops.sending b also) p q is left rest = same-sending m sent again f g a b p q
same-stop m number sent got again have x y f g (exchange.Stops.sending a none) (exchange.Stops.receiving able whole b) p q is left rest = absurd (unsendable m sent f able a p)
same-stop m number sent got again have x y f g (exchange.Stops.sending a none) (exchange.Stops.reading able whole bytes short given b) p q is left rest = absurd (unsendable m sent f able a p)
same-stop m number sent got again have x y f g (exchange.Stops.receiving able whole a) (exchange.Stops.sending b also) p q is left rest = absurd (unsendable m again g able b q)
same-stop m number sent got again have x y f g (exchange.Stops.receiving able whole a) (exchange.Stops.receiving can all b) p q is left rest =
    (cut-off number got x f a p left).1 ∙ sym (cut-off number have y g b q rest).1
same-stop m number sent got again have x y f g (exchange.Stops.receiving able whole a) (exchange.Stops.reading can all bytes short given b) p q is left rest =
    absurd (frame-there number got x bytes y f a p left short (ap (λ (l : List ℕ). l ++ y) (sym given) ∙ sym is))
same-stop m number sent got again have x y f g (exchange.Stops.reading able whole bytes short given a) (exchange.Stops.sending b also) p q is left rest = absurd (unsendable m again g able b q)
same-stop m number sent got again have x y f g (exchange.Stops.reading able whole bytes short given a) (exchange.Stops.receiving can all b) p q is left rest =
    absurd (frame-there number have y bytes x g b q rest short (ap (λ (l : List ℕ). l ++ x) (sym given) ∙ is))
same-stop m number sent got again have x y f g (exchange.Stops.reading able whole bytes short given a) (exchange.Stops.reading can all more fits had b) p q is left rest =
    let same : bytes ≡ more = (same-frame bytes x more y short fits (ap (λ (l : List ℕ). l ++ x) (sym given) ∙ is ∙ ap (λ (l : List ℕ). l ++ y) had)).0 in
    let P : List ℕ → Type 0 = λ (l : List ℕ). StopsReading m.header.id l f in
    same-reading m.header.id more f g (subst P same a) b p q

-- the first frame, and what follows it
first-frame : (b : List ℕ) (replies : List (List ℕ)) (x : List ℕ) → frames_of (b ∷ replies) ++ x ≡ frame b ++ (frames_of replies ++ x)
first-frame b replies x = append_assoc (frame b) (frames_of replies) x

-- two first frames are one
drop-frames : (id other : ℕ) (a b : List ℕ) (c d : ℕ) (r s : List (List ℕ)) (x y : List ℕ) → Replies id a c → Replies other b d → frames_of (a ∷ r) ++ x ≡ frames_of (b ∷ s) ++ y → (a ≡ b) × (frames_of r ++ x ≡ frames_of s ++ y)
drop-frames id other a b c d r s x y p q is = same-frame a (frames_of r ++ x) b (frames_of s ++ y) p.short q.short (sym (first-frame a r x) ∙ is ∙ first-frame b s y)

same-code : (id : ℕ) (a b : List ℕ) (c d : ℕ) → a ≡ b → Replies id a c → Replies id b d → c ≡ d
same-code id a b c d same p q =
    let P : List ℕ → Type 0 = λ (l : List ℕ). MessageAt l p.reply in
    let one : p.reply ≡ q.reply = messages_one b p.reply q.reply (subst P same p.stands) q.stands in
    p.says ∙ ap exchange.full_code one ∙ sym q.says

-- the codes are those of the frames
pub same-codes : (messages : List Message) (r s : List (List ℕ)) (c d : List ℕ) (x y : List ℕ) → Exchanges messages r c → Exchanges messages s d → frames_of r ++ x ≡ frames_of s ++ y → c ≡ d
same-codes [] [] [] [] [] x y p q is = refl
same-codes [] [] [] [] (k ∷ d) x y p q is = absurd q
same-codes [] [] (b ∷ s) [] d x y p q is = absurd q
same-codes [] [] s (k ∷ c) d x y p q is = absurd p
same-codes [] (a ∷ r) s c d x y p q is = absurd p
same-codes (m ∷ messages) [] s c d x y p q is = absurd p
same-codes (m ∷ messages) (a ∷ r) s [] d x y p q is = absurd p
same-codes (m ∷ messages) (a ∷ r) [] (k ∷ c) d x y p q is = absurd q
same-codes (m ∷ messages) (a ∷ r) (b ∷ s) (k ∷ c) [] x y p q is = absurd q
same-codes (m ∷ messages) (a ∷ r) (b ∷ s) (k ∷ c) (l ∷ d) x y p q is =
    let parts = drop-frames m.header.id m.header.id a b k l r s x y p.1 q.1 is in
    let head : k ≡ l = same-code m.header.id a b k l parts.0 p.1 q.1 in
    let rest : c ≡ d = same-codes messages r s c d x y p.2 q.2 parts.1 in
    ap (λ (n : ℕ). n ∷ c) head ∙ ap (λ (ns : List ℕ). l ∷ ns) rest

-- all messages are answered, or one is not
pub not-both-ends : (front : List Message) (m : Message) (behind : List Message) (r s : List (List ℕ)) (c d : List ℕ) (number : ℕ) (sent got x y : List ℕ) (f : SubmitFault)
    → Exchanges (front ++ m ∷ behind) r c → Exchanges front s d → Stops m number sent got f → IsDecided f → frames_of r ++ x ≡ frames_of s ++ (got ++ y) → Leaves f y → ⊥
not-both-ends [] m behind [] s c d number sent got x y f p q stops decided is left = absurd p
not-both-ends [] m behind (a ∷ r) s [] d number sent got x y f p q stops decided is left = absurd p
not-both-ends [] m behind (a ∷ r) (b ∷ s) (k ∷ c) d number sent got x y f p q stops decided is left = absurd q
not-both-ends [] m behind (a ∷ r) [] (k ∷ c) d number sent got x y f p q stops decided is left =
    answered-not m number sent got (frames_of r ++ x) y a k f p.0 p.1 stops decided (sym (first-frame a r x) ∙ is) left
not-both-ends (n ∷ front) m behind [] s c d number sent got x y f p q stops decided is left = absurd p
not-both-ends (n ∷ front) m behind (a ∷ r) s [] d number sent got x y f p q stops decided is left = absurd p
not-both-ends (n ∷ front) m behind (a ∷ r) [] (k ∷ c) d number sent got x y f p q stops decided is left = absurd q
not-both-ends (n ∷ front) m behind (a ∷ r) (b ∷ s) (k ∷ c) [] number sent got x y f p q stops decided is left = absurd q
not-both-ends (n ∷ front) m behind (a ∷ r) (b ∷ s) (k ∷ c) (l ∷ d) number sent got x y f p q stops decided is left =
    not-both-ends front m behind r s c d number sent got x y f p.2 q.2 stops decided (drop-frames n.header.id n.header.id a b k l r s x (got ++ y) p.1 q.1 is).1 left

head-or : Message → List Message → Message
head-or d [] = d
head-or d (r ∷ rs) = r

tail-of : List Message → List Message
tail-of [] = []
tail-of (r ∷ rs) = rs

-- where two exchanges stop they stop at one message, for one cause
pub same-stops : (e h : List Message) (m n : Message) (behind rest : List Message) (r s : List (List ℕ)) (c d : List ℕ) (i j : ℕ) (sent got again have x y : List ℕ) (f g : SubmitFault)
    → e ++ m ∷ behind ≡ h ++ n ∷ rest → i + length h ≡ j + length e → Exchanges e r c → Exchanges h s d → Stops m i sent got f → Stops n j again have g → IsDecided f → IsDecided g
    → frames_of r ++ (got ++ x) ≡ frames_of s ++ (have ++ y) → Leaves f x → Leaves g y → f ≡ g
unfolding head-or tail-of
same-stops [] [] m n behind rest [] [] c d i j sent got again have x y f g one count p q a b u v is left over =
    let same : m ≡ n = ap (head-or m) one in
    let number : i ≡ j = omega (arith, count) in
    let P : Message → Type 0 = λ (z : Message). Stops z i sent got f in
    let Q : ℕ → Type 0 = λ (k : ℕ). Stops n k sent got f in
    same-stop n j sent got again have x y f g (subst Q number (subst P same a)) b u v is left over
same-stops [] [] m n behind rest (w ∷ r) s c d i j sent got again have x y f g one count p q a b u v is left over = absurd p
same-stops [] [] m n behind rest [] (z ∷ s) c d i j sent got again have x y f g one count p q a b u v is left over = absurd q
same-stops [] (o ∷ h) m n behind rest r [] c d i j sent got again have x y f g one count p q a b u v is left over = absurd q
same-stops [] (o ∷ h) m n behind rest r (z ∷ s) c [] i j sent got again have x y f g one count p q a b u v is left over = absurd q
same-stops [] (o ∷ h) m n behind rest (w ∷ r) (z ∷ s) c (l ∷ d) i j sent got again have x y f g one count p q a b u v is left over = absurd p
same-stops [] (o ∷ h) m n behind rest [] (z ∷ s) c (l ∷ d) i j sent got again have x y f g one count p q a b u v is left over =
    let same : m ≡ o = ap (head-or m) one in
    let P : Message → Type 0 = λ (t : Message). Stops t i sent got f in
    absurd (answered-not o i sent got (frames_of s ++ (have ++ y)) x z l f q.0 q.1 (subst P same a) u (sym (first-frame z s (have ++ y)) ∙ sym is) left)
same-stops (o ∷ e) [] m n behind rest [] s c d i j sent got again have x y f g one count p q a b u v is left over = absurd p
same-stops (o ∷ e) [] m n behind rest (w ∷ r) s [] d i j sent got again have x y f g one count p q a b u v is left over = absurd p
same-stops (o ∷ e) [] m n behind rest (w ∷ r) (z ∷ s) (k ∷ c) d i j sent got again have x y f g one count p q a b u v is left over = absurd q
same-stops (o ∷ e) [] m n behind rest (w ∷ r) [] (k ∷ c) d i j sent got again have x y f g one count p q a b u v is left over =
    let same : n ≡ o = sym (ap (head-or n) one) in
    let P : Message → Type 0 = λ (t : Message). Stops t j again have g in
    absurd (answered-not o j again have (frames_of r ++ (got ++ x)) y w k g p.0 p.1 (subst P same b) v (sym (first-frame w r (got ++ x)) ∙ is) over)
same-stops (o ∷ e) (t ∷ h) m n behind rest [] s c d i j sent got again have x y f g one count p q a b u v is left over = absurd p
same-stops (o ∷ e) (t ∷ h) m n behind rest (w ∷ r) s [] d i j sent got again have x y f g one count p q a b u v is left over = absurd p
same-stops (o ∷ e) (t ∷ h) m n behind rest (w ∷ r) [] (k ∷ c) d i j sent got again have x y f g one count p q a b u v is left over = absurd q
same-stops (o ∷ e) (t ∷ h) m n behind rest (w ∷ r) (z ∷ s) (k ∷ c) [] i j sent got again have x y f g one count p q a b u v is left over = absurd q
same-stops (o ∷ e) (t ∷ h) m n behind rest (w ∷ r) (z ∷ s) (k ∷ c) (l ∷ d) i j sent got again have x y f g one count p q a b u v is left over =
    same-stops e h m n behind rest r s c d i j sent got again have x y f g (ap tail-of one) (omega (arith, count)) p.2 q.2 a b u v
    (drop-frames o.header.id t.header.id w z k l r s (got ++ x) (have ++ y) p.1 q.1 is).1 left over

pub Answers-codes : (messages : List Message) (a b left x y : List ℕ) (p q r s : Option (List ℕ)) → Answers messages a (Some left) (Some x) p q → Answers messages b (Some left) (Some y) r s → a ≡ b
Answers-codes messages a b left x y p q r s u v = same-codes messages u.replies v.replies a b x y u.answered v.answered (sym u.received ∙ v.received)

pub Answers-not : (messages : List Message) (codes left x y : List ℕ) (f : SubmitFault) (p q r s : Option (List ℕ)) → Answers messages codes (Some left) (Some x) p q → StopsAt messages f (Some left) (Some y) r s → IsDecided f → ⊥
Answers-not messages codes left x y f p q r s u v decided =
    let P : List Message → Type 0 = λ (ms : List Message). Exchanges ms u.replies codes in
    not-both-ends v.front v.message v.behind u.replies v.replies codes v.codes (length v.front + 1) v.sent_part v.got_part x y f (subst P v.parts u.answered) v.answered v.cause decided
    (sym u.received ∙ v.received.0 ∙ append_assoc (frames_of v.replies) v.got_part y) v.received.1

pub StopsAt-one : (messages : List Message) (left x y : List ℕ) (f g : SubmitFault) (p q r s : Option (List ℕ)) → StopsAt messages f (Some left) (Some x) p q → StopsAt messages g (Some left) (Some y) r s → IsDecided f → IsDecided g → f ≡ g
StopsAt-one messages left x y f g p q r s u v decided also =
    same-stops u.front v.front u.message v.message u.behind v.behind u.replies v.replies u.codes v.codes (length u.front + 1) (length v.front + 1) u.sent_part u.got_part v.sent_part v.got_part x y f g
    (sym u.parts ∙ v.parts) (omega arith) u.answered v.answered u.cause v.cause decided also
    (sym (append_assoc (frames_of u.replies) u.got_part x) ∙ sym u.received.0 ∙ v.received.0 ∙ append_assoc (frames_of v.replies) v.got_part y) u.received.1 v.received.1
