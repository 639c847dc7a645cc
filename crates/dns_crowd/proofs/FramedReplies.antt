-- The bytes of replies, each behind its length, are those that are sent for the messages of a connection.
use Rattle.std.proofs.Common.{◌≡◌, ℕ, List, [], ◌∷◌, ◌++◌, map, inl, refl, sym, ap, subst, ◌∙◌, append-nil, Option, Some, None, Result, Ok, Err}
use Rattle.std.proofs.lemmas.Grind.{flat_map-append}
use Rattle.std.proofs.lemmas.List.{map-append}
use Rattle.std.specs.Result.{OnOk}
use Rattle.dns_io.specs.declared.peer.Peer.{Peer}
use Rattle.dns_book.specs.declared.ask.Ask.{Ask}
use Rattle.dns_book.specs.declared.ask.Settled.{Settled}
use Rattle.dns_server_core.specs.declared.event.Out.{Out}
use Rattle.dns_server_core.specs.declared.event.Receiver.TheVariants.{Conn}
use Rattle.dns_server_core.specs.Connections.{Connection, message_on}
use Rattle.dns_server_core.specs.FrameRuns.{Adds, Halts, frame_for}
use Rattle.dns_server_core.specs.FrameRuns as frame
use Rattle.dns_server_core.specs.Runs.{Completed, Run, outs_of}
use Rattle.dns_server_core.specs.Steps.{messages_in, unread_messages}
use Rattle.dns_requests.specs.Arrivals.{ask_at}
use Rattle.dns_crowd.specs.Crowds.{bytes_for}
use Rattle.dns_crowd.specs.Replies.{Falters, RepliesTo, bytes_to, sent_bytes}

pub sent_append : (outs more : List Out) → sent_bytes (outs ++ more) ≡ sent_bytes outs ++ sent_bytes more
sent_append outs more = flat_map-append (λ (o : Out). bytes_to o.to o.bytes) outs more

reply_bytes : (number : ℕ) (reply : Option (List ℕ)) → sent_bytes (outs_of (Conn number) reply) ≡ bytes_for number (frame_for reply)
reply_bytes number None = refl
reply_bytes number (Some bytes) = append-nil _

-- a front of what is made of messages is made of a front of them
split_asks : (peer : Peer) (at : ℕ) (ms : List (List ℕ)) (xs ys : List Ask) → map (ask_at peer at) ms ≡ xs ++ ys
    → (front : List (List ℕ)) × (back : List (List ℕ)) × (ms ≡ front ++ back) × (map (ask_at peer at) front ≡ xs)
split_asks peer at ms [] ys e = ([], ms, refl, refl)
split_asks peer at [] (x ∷ xs) ys e = absurd cc
split_asks peer at (m ∷ ms) (x ∷ xs) ys e =
    let head : ask_at peer at m ≡ x = cc in
    let tail : map (ask_at peer at) ms ≡ xs ++ ys = cc in
    let s = split_asks peer at ms xs ys tail in
    (m ∷ s.0, s.1, ap (λ (l : List (List ℕ)). m ∷ l) s.2, ap (λ (a : Ask). a ∷ map (ask_at peer at) s.0) head ∙ ap (λ (l : List Ask). x ∷ l) s.3)

module _ {H : Type 0} (serves : H → Ask → Settled → H → Type 0) where
  -- the same run, reply by reply
  abbrev RunsAs : H → ℕ → Peer → ℕ → List (List ℕ) → List ℕ → H → Type 0
  RunsAs before number peer at ms bytes after = (outs : List Out) × Run serves before (map (message_on number peer at) ms) outs after × (sent_bytes outs ≡ bytes_for number bytes)

  by_replies : (number : ℕ) (peer : Peer) (at : ℕ) (ms : List (List ℕ)) (before after : H) (bytes : List ℕ)
      → frame.Run serves before (map (ask_at peer at) ms) bytes after → RunsAs before number peer at ms bytes after
  by_replies number peer at [] before after bytes r = ([], (r.0, refl), sym (ap (bytes_for number) r.1))
  by_replies number peer at (m ∷ ms) before after bytes r =
      let rest = by_replies number peer at ms r.1 after r.2 r.5 in (
        outs_of (Conn number) r.0.reply ++ rest.0,
        (r.0, r.1, rest.0, r.3, refl, rest.1),
        sent_append (outs_of (Conn number) r.0.reply) rest.0
            ∙ ap (λ (l : List (ℕ × ℕ)). l ++ sent_bytes rest.0) (reply_bytes number r.0.reply)
            ∙ ap (λ (l : List (ℕ × ℕ)). bytes_for number (frame_for r.0.reply) ++ l) rest.2
            ∙ sym (map-append (λ (b : ℕ). (number, b)) (frame_for r.0.reply) r.2)
            ∙ ap (bytes_for number) (sym r.4),
      )

  pub replies_settled : (k : Connection) (at : ℕ) (before after : H) (old new : List ℕ)
      → Adds serves before (map (ask_at k.peer at) (messages_in k k.rest)) after old new
      → RepliesTo serves before (unread_messages at k) after k.number old new
  replies_settled k at before after old new a =
      let r = by_replies k.number k.peer at (messages_in k k.rest) before after a.bytes a.run in
      record { outs = r.0; run = r.1; bytes = a.bytes; added = a.added; sent = r.2 }

  pub replies_none : (number : ℕ) (h : H) (old : List ℕ) → RepliesTo serves h [] h number old old
  replies_none number h old = record { outs = []; run = (refl, refl); bytes = []; added = sym (append-nil old); sent = refl }

  pub replies_same : (number : ℕ) (before after : H) (xs ys : List Completed) (old new : List ℕ) → ys ≡ xs → RepliesTo serves before xs after number old new → RepliesTo serves before ys after number old new
  replies_same number before after xs ys old new e r = subst (λ (l : List Completed). RepliesTo serves before l after number old new) (sym e) r

  pub ok_replies : {T E : Type 0} (res : Result T E) (number : ℕ) (before after : H) (xs ys : List Completed) (old new : List ℕ) → ys ≡ xs
      → OnOk res (RepliesTo serves before xs after number old new) → OnOk res (RepliesTo serves before ys after number old new)
  ok_replies (Ok x) number before after xs ys old new e r = replies_same number before after xs ys old new e r
  ok_replies (Err x) number before after xs ys old new e r = tt

  -- no memory was found
  pub falters_none : (skips : H → H → Type 0) (h : H) (asks : List Completed) → Falters serves skips h asks h
  falters_none skips h asks = record { first = []; others = asks; parts = refl; outs = []; last = h; run = (refl, refl); end = inl refl }

  pub falters_same : (skips : H → H → Type 0) (before after : H) (xs ys : List Completed) → ys ≡ xs → Falters serves skips before xs after → Falters serves skips before ys after
  falters_same skips before after xs ys e f = subst (λ (l : List Completed). Falters serves skips before l after) (sym e) f

  pub falters_settled : (skips : H → H → Type 0) (k : Connection) (at : ℕ) (before after : H) (had has : List ℕ)
      → Halts serves skips before (map (ask_at k.peer at) (messages_in k k.rest)) after had has
      → Falters serves skips before (unread_messages at k) after
  falters_settled skips k at before after had has h =
      let s = split_asks k.peer at (messages_in k k.rest) h.first h.others h.parts in
      let r = by_replies k.number k.peer at s.0 before h.last h.bytes (subst (λ (l : List Ask). frame.Run serves before l h.bytes h.last) (sym s.3) h.run) in
      record {
        first = map (message_on k.number k.peer at) s.0;
        others = map (message_on k.number k.peer at) s.1;
        parts = ap (map (message_on k.number k.peer at)) s.2 ∙ map-append (message_on k.number k.peer at) s.0 s.1;
        outs = r.0;
        last = h.last;
        run = r.1;
        end = h.end;
      }
