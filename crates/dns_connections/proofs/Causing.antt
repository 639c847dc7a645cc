-- Why a connection may be closed, and that it is watched where it goes on.
use Rattle.std.proofs.Common.{◌≡◌, ◌<◌, ◌+◌, ◌-◌, ℕ, zero, suc, List, [], ◌∷◌, ◌++◌, length, Bool, true, false, ◌||◌, nat_eq, nat_lt, if◌then◌else◌, Option, Some, None, IfSome, is_some, Result, Ok, Err, refl, sym, ap, subst, ◌∙◌, true≢false, arith}
use Rattle.std.proofs.lemmas.Bool.{lt-ltb, ltb-true, ne_eqb}
use Rattle.dns_network.specs.Calls.{Noted, read, wrote}
use Rattle.dns_network.specs.Words.{IsCause, moved_at, now_of, owing_since, was_shut}
use Rattle.dns_network.specs.declared.call.Watch.{Watch}
use Rattle.dns_network.specs.declared.call.Why.{Why}
use Rattle.dns_network.specs.declared.call.Why.TheVariants.{Ended, Finished, Gone, Late, Slow}
use Rattle.dns_network.specs.declared.refused.Refused.{Refused}
use Rattle.dns_network.specs.declared.refused.Refused.TheVariants as refusal
use Rattle.dns_network.proofs.Causes.{ended, gone_read, gone_written, nothing_taken}
use Rattle.dns_connections.specs.declared.stage.Fate.{Fate}
use Rattle.dns_connections.specs.declared.stage.Fate.TheVariants.{Stays, Watches, Ends}
use Rattle.dns_connections.specs.declared.stage.Stage.{Stage}
use Rattle.dns_connections.specs.declared.stage.Stage.TheVariants.{Open, Closing, Draining}
use Rattle.dns_connections.specs.Links.{LinkSeen, OwedSeen, after_read, after_send, after_write, closed_link, count_of, is_draining, is_over, left_of, mark_of, owed_behind}
use Rattle.dns_connections.specs.Links.{read_link, sent_link, time_for, watch_for, why_in, why_over, why_silent, written_link}
use Rattle.dns_connections.specs.Kept.{HasEnd, IsTimed, IsWatched, Line, StaysRight, is_finish, line_of}
use Rattle.dns_connections.proofs.Steps.{own_read, own_wrote}

-- it is watched again, or stays
calm : (calls : List Noted) (n : ℕ) (b : Bool) → HasEnd calls n (if b then Watches else Stays)
calm calls n true = tt
calm calls n false = tt

nonzero : (count : ℕ) → nat_eq (suc count) 0 ≡ false
nonzero count = ne_eqb (suc count) 0 (λ e. omega (arith, e))

read_end : (calls : List Noted) (n : ℕ) (room : List ℕ) (last : Bool) (size : ℕ) (given : Result ℕ Refused) → 0 < length room
    → HasEnd (calls ++ read n room given ∷ []) n (after_read last size given)
read_end calls n room last size (Ok zero) l = (ended n calls room l, refl)
read_end calls n room last size (Ok (suc count)) l =
    let after = calls ++ read n room (Ok (suc count)) ∷ [] in
    subst (λ (b : Bool). HasEnd after n (if b then Ends Ended else (if last || nat_eq (suc count) size then Watches else Stays))) (sym (nonzero count))
    (calm after n (last || nat_eq (suc count) size))
read_end calls n room last size (Err refusal.NotYet) l = tt
read_end calls n room last size (Err refusal.Interrupted) l = tt
read_end calls n room last size (Err refusal.Gone) l = (gone_read n calls room, refl)
read_end calls n room last size (Err refusal.Wanting) l = tt
read_end calls n room last size (Err refusal.TooLong) l = tt
read_end calls n room last size (Err refusal.Useless) l = tt

pub cause_read : (calls after : List Noted) (n : ℕ) (room : List ℕ) (last : Bool) (size : ℕ) (given : Result ℕ Refused) → after ≡ calls ++ read n room given ∷ [] → 0 < length room
    → HasEnd after n (after_read last size given)
cause_read calls after n room last size given t l = rw t (read_end calls n room last size given l)

write_end : (calls : List Noted) (n : ℕ) (bytes : List ℕ) (given : Result ℕ Refused) → 0 < length bytes → HasEnd (calls ++ wrote n bytes given ∷ []) n (after_write given)
write_end calls n bytes (Ok zero) l = (nothing_taken n calls bytes l, refl)
write_end calls n bytes (Ok (suc count)) l =
    subst (λ (b : Bool). HasEnd (calls ++ wrote n bytes (Ok (suc count)) ∷ []) n (if b then Ends Gone else Watches)) (sym (nonzero count)) tt
write_end calls n bytes (Err refusal.NotYet) l = tt
write_end calls n bytes (Err refusal.Interrupted) l = tt
write_end calls n bytes (Err refusal.Gone) l = (gone_written n calls bytes, refl)
write_end calls n bytes (Err refusal.Wanting) l = tt
write_end calls n bytes (Err refusal.TooLong) l = tt
write_end calls n bytes (Err refusal.Useless) l = tt

pub cause_write : (calls after : List Noted) (n : ℕ) (bytes : List ℕ) (given : Result ℕ Refused) → after ≡ calls ++ wrote n bytes given ∷ [] → 0 < length bytes
    → HasEnd after n (after_write given)
cause_write calls after n bytes given t l = rw t (write_end calls n bytes given l)

send_end : (calls : List Noted) (n : ℕ) (bytes : List ℕ) (size : ℕ) (given : Result ℕ Refused) → 0 < length bytes → HasEnd (calls ++ wrote n bytes given ∷ []) n (after_send size given)
send_end calls n bytes size (Ok zero) l = (nothing_taken n calls bytes l, refl)
send_end calls n bytes size (Ok (suc count)) l =
    let after = calls ++ wrote n bytes (Ok (suc count)) ∷ [] in
    subst (λ (b : Bool). HasEnd after n (if b then Ends Gone else (if nat_lt (suc count) size then Watches else Stays))) (sym (nonzero count))
    (calm after n (nat_lt (suc count) size))
send_end calls n bytes size (Err refusal.NotYet) l = tt
send_end calls n bytes size (Err refusal.Interrupted) l = tt
send_end calls n bytes size (Err refusal.Gone) l = (gone_written n calls bytes, refl)
send_end calls n bytes size (Err refusal.Wanting) l = tt
send_end calls n bytes size (Err refusal.TooLong) l = tt
send_end calls n bytes size (Err refusal.Useless) l = tt

pub cause_send : (calls after : List Noted) (n : ℕ) (bytes : List ℕ) (size : ℕ) (given : Result ℕ Refused) → after ≡ calls ++ wrote n bytes given ∷ [] → 0 < length bytes
    → HasEnd after n (after_send size given)
cause_send calls after n bytes size given t l = rw t (send_end calls n bytes size given l)

-- a connection that goes on as it is watched, whatever becomes of it
stays_any : (calls : List Noted) (fate : Fate) (one : LinkSeen) → IsWatched (line_of one.number calls) one → StaysRight calls fate one
stays_any calls Stays one w = w
stays_any calls Watches one w = tt
stays_any calls (Ends cause) one w = tt

pub stays_read : (calls after : List Noted) (now : ℕ) (room : List ℕ) (given : Result ℕ Refused) (fate : Fate) (one later : LinkSeen)
    → after ≡ calls ++ read one.number room given ∷ [] → later ≡ read_link now given one → IsWatched (line_of one.number calls) one → StaysRight after fate later
stays_read calls after now room given fate one later t i w =
    rw (t, i) (stays_any (calls ++ read one.number room given ∷ []) fate (read_link now given one) (λ s. ap (λ (l : Line). l.watch) (own_read one.number calls room given) ∙ w s))

still_owed : (owed : Option OwedSeen) → 0 < length (left_of owed) → watch_for owed ≡ watch_for (owed_behind 0 owed)
still_owed None l = absurd (omega (arith, l))
still_owed (Some o) l = rw (lt-ltb 0 (length o.left) l) refl

write_stays : (calls : List Noted) (now : ℕ) (given : Result ℕ Refused) (one : LinkSeen) → IsWatched (line_of one.number calls) one → 0 < length (left_of one.owed)
    → StaysRight (calls ++ wrote one.number (left_of one.owed) given ∷ []) (after_write given) (written_link now given one)
write_stays calls now (Ok zero) one w l = tt
write_stays calls now (Ok (suc count)) one w l =
    subst (λ (b : Bool). StaysRight (calls ++ wrote one.number (left_of one.owed) (Ok (suc count)) ∷ []) (if b then Ends Gone else Watches) (written_link now (Ok (suc count)) one)) (sym (nonzero count)) tt
write_stays calls now (Err refusal.Interrupted) one w l = tt
write_stays calls now (Err refusal.Gone) one w l = tt
write_stays calls now (Err refusal.NotYet) one w l = λ s.
    ap (λ (x : Line). x.watch) (own_wrote one.number calls (left_of one.owed) (Err refusal.NotYet)) ∙ w s ∙ ap (λ (x : Watch). Some x) (still_owed one.owed l)
write_stays calls now (Err refusal.Wanting) one w l = λ s.
    ap (λ (x : Line). x.watch) (own_wrote one.number calls (left_of one.owed) (Err refusal.Wanting)) ∙ w s ∙ ap (λ (x : Watch). Some x) (still_owed one.owed l)
write_stays calls now (Err refusal.TooLong) one w l = λ s.
    ap (λ (x : Line). x.watch) (own_wrote one.number calls (left_of one.owed) (Err refusal.TooLong)) ∙ w s ∙ ap (λ (x : Watch). Some x) (still_owed one.owed l)
write_stays calls now (Err refusal.Useless) one w l = λ s.
    ap (λ (x : Line). x.watch) (own_wrote one.number calls (left_of one.owed) (Err refusal.Useless)) ∙ w s ∙ ap (λ (x : Watch). Some x) (still_owed one.owed l)

pub stays_write : (calls after : List Noted) (now : ℕ) (given : Result ℕ Refused) (one later : LinkSeen)
    → after ≡ calls ++ wrote one.number (left_of one.owed) given ∷ [] → later ≡ written_link now given one → IsWatched (line_of one.number calls) one → 0 < length (left_of one.owed)
    → StaysRight after (after_write given) later
stays_write calls after now given one later t i w l = rw (t, i) (write_stays calls now given one w l)

send_stays : (calls : List Noted) (now : ℕ) (bytes : List ℕ) (given : Result ℕ Refused) (one : LinkSeen) (b : Bool) (count : ℕ) → nat_lt count (length bytes) ≡ b → count ≡ count_of given
    → IsWatched (line_of one.number calls) one → one.owed ≡ None
    → StaysRight (calls ++ wrote one.number bytes given ∷ []) (if b then Watches else Stays) (sent_link now bytes given one)
send_stays calls now bytes given one true count e c w f = tt
send_stays calls now bytes given one false count e c w f = λ s.
    rw (← c, e) (ap (λ (x : Line). x.watch) (own_wrote one.number calls bytes given) ∙ w s ∙ ap (λ (x : Option OwedSeen). Some (watch_for x)) f)

sent_stays : (calls : List Noted) (now : ℕ) (bytes : List ℕ) (given : Result ℕ Refused) (one : LinkSeen) → IsWatched (line_of one.number calls) one → one.owed ≡ None
    → StaysRight (calls ++ wrote one.number bytes given ∷ []) (after_send (length bytes) given) (sent_link now bytes given one)
sent_stays calls now bytes (Ok zero) one w f = tt
sent_stays calls now bytes (Ok (suc count)) one w f =
    subst (λ (b : Bool). StaysRight (calls ++ wrote one.number bytes (Ok (suc count)) ∷ []) (if b then Ends Gone else (if nat_lt (suc count) (length bytes) then Watches else Stays)) (sent_link now bytes (Ok (suc count)) one))
    (sym (nonzero count)) (send_stays calls now bytes (Ok (suc count)) one (nat_lt (suc count) (length bytes)) (suc count) refl refl w f)
sent_stays calls now bytes (Err refusal.Gone) one w f = tt
sent_stays calls now bytes (Err refusal.NotYet) one w f = tt
sent_stays calls now bytes (Err refusal.Interrupted) one w f = tt
sent_stays calls now bytes (Err refusal.Wanting) one w f = tt
sent_stays calls now bytes (Err refusal.TooLong) one w f = tt
sent_stays calls now bytes (Err refusal.Useless) one w f = tt

pub stays_sent : (calls after : List Noted) (now size : ℕ) (bytes : List ℕ) (given : Result ℕ Refused) (one later : LinkSeen)
    → after ≡ calls ++ wrote one.number bytes given ∷ [] → later ≡ sent_link now bytes given one → size ≡ length bytes → IsWatched (line_of one.number calls) one → one.owed ≡ None
    → StaysRight after (after_send size given) later
stays_sent calls after now size bytes given one later t i e w f = rw (t, i, e) (sent_stays calls now bytes given one w f)

-- one that is over by its silence is late or slow by the calls
slow_by : (calls : List Noted) (n now time marked : ℕ) (b : Bool) → nat_lt time (now - marked) ≡ b → owing_since n calls ≡ Some marked → now ≡ now_of calls
    → IfSome (if b then Some (Slow time) else None) (IsCause calls n)
slow_by calls n now time marked true e o w =
    let l : time < now - marked = ltb-true time (now - marked) e in
    rw o (let r : marked + time < now_of calls = omega (arith, l, w) in r)
slow_by calls n now time marked false e o w = tt

late_by : (calls : List Noted) (n now patience heard time marked : ℕ) (b : Bool) → nat_lt patience (now - heard) ≡ b → moved_at n calls ≡ heard → owing_since n calls ≡ Some marked → now ≡ now_of calls
    → IfSome (if b then Some (Late patience) else (if nat_lt time (now - marked) then Some (Slow time) else None)) (IsCause calls n)
late_by calls n now patience heard time marked true e m o w =
    let l : patience < now - heard = ltb-true patience (now - heard) e in
    omega (arith, l, m, w)
late_by calls n now patience heard time marked false e m o w = slow_by calls n now time marked (nat_lt time (now - marked)) refl o w

silent_cause : (calls : List Noted) (n patience now heard : ℕ) (owed : Option OwedSeen) → moved_at n calls ≡ heard → owing_since n calls ≡ mark_of owed → now ≡ now_of calls
    → IfSome (why_silent patience now heard owed) (IsCause calls n)
silent_cause calls n patience now heard None m o w = tt
silent_cause calls n patience now heard (Some owed) m o w =
    late_by calls n now patience heard (time_for patience owed.whole) owed.marked (nat_lt patience (now - heard)) refl m o w

drained_by : (calls : List Noted) (n : ℕ) (b : Bool) → was_shut n calls ≡ true → IfSome (if b then Some Finished else None) (IsCause calls n)
drained_by calls n true s = s
drained_by calls n false s = tt

in_cause : (calls : List Noted) (n patience now heard : ℕ) (stage : Stage) (owed : Option OwedSeen) → moved_at n calls ≡ heard → owing_since n calls ≡ mark_of owed
    → (is_draining stage ≡ true → was_shut n calls ≡ true) → now ≡ now_of calls → IfSome (why_in stage patience now heard owed) (IsCause calls n)
in_cause calls n patience now heard Open owed m o d w = silent_cause calls n patience now heard owed m o w
in_cause calls n patience now heard Closing owed m o d w = silent_cause calls n patience now heard owed m o w
in_cause calls n patience now heard (Draining since) owed m o d w = drained_by calls n (nat_lt 1000 (now - since)) (d refl)

over_by : (calls : List Noted) (patience now : ℕ) (one : LinkSeen) (b : Bool) → one.stands ≡ b → IsTimed calls one → now ≡ now_of calls
    → IfSome (if b then why_in one.stage patience now one.heard one.owed else None) (IsCause calls one.number)
over_by calls patience now one true s k w = in_cause calls one.number patience now one.heard one.stage one.owed (k.heard s) (k.owing s) k.shut w
over_by calls patience now one false s k w = tt

pub over_cause : (calls : List Noted) (patience now : ℕ) (one : LinkSeen) (found : Option Why) (cause : Why) → IsTimed calls one → now ≡ now_of calls
    → found ≡ why_over patience now one → found ≡ Some cause → IsCause calls one.number cause
over_cause calls patience now one found cause k w f e =
    subst (λ (o : Option Why). IfSome o (IsCause calls one.number)) (sym f ∙ e) (over_by calls patience now one one.stands refl k w)

-- it stands, and one that is finished was shut
pub record IsOver (one : LinkSeen) (cause : Why) : Type 0 where
  pub stands : one.stands ≡ true
  pub finished : is_finish cause ≡ true → is_draining one.stage ≡ true

unfinished : (one : LinkSeen) (cause : Why) → one.stands ≡ true → is_finish cause ≡ false → IsOver one cause
unfinished one cause s f = record { stands = s; finished = λ e. absurd (true≢false (sym e ∙ f)) }

late_over : (one : LinkSeen) (b c : Bool) (patience time : ℕ) → one.stands ≡ true → IfSome (if b then Some (Late patience) else (if c then Some (Slow time) else None)) (IsOver one)
late_over one true c patience time s = unfinished one (Late patience) s refl
late_over one false true patience time s = unfinished one (Slow time) s refl
late_over one false false patience time s = tt

silent_over : (one : LinkSeen) (patience now heard : ℕ) (owed : Option OwedSeen) → one.stands ≡ true → IfSome (why_silent patience now heard owed) (IsOver one)
silent_over one patience now heard None s = tt
silent_over one patience now heard (Some owed) s =
    late_over one (nat_lt patience (now - heard)) (nat_lt (time_for patience owed.whole) (now - owed.marked)) patience (time_for patience owed.whole) s

finished_over : (one : LinkSeen) (b : Bool) → one.stands ≡ true → is_draining one.stage ≡ true → IfSome (if b then Some Finished else None) (IsOver one)
finished_over one true s d = record { stands = s; finished = λ e. d }
finished_over one false s d = tt

in_over : (one : LinkSeen) (patience now heard : ℕ) (stage : Stage) (owed : Option OwedSeen) → one.stands ≡ true → one.stage ≡ stage → IfSome (why_in stage patience now heard owed) (IsOver one)
in_over one patience now heard Open owed s e = silent_over one patience now heard owed s
in_over one patience now heard Closing owed s e = silent_over one patience now heard owed s
in_over one patience now heard (Draining since) owed s e = finished_over one (nat_lt 1000 (now - since)) s (ap is_draining e)

why_by : (one : LinkSeen) (patience now : ℕ) (b : Bool) → one.stands ≡ b → IfSome (if b then why_in one.stage patience now one.heard one.owed else None) (IsOver one)
why_by one patience now true s = in_over one patience now one.heard one.stage one.owed s refl
why_by one patience now false s = tt

pub over_stands : (patience now : ℕ) (one : LinkSeen) (found : Option Why) (cause : Why) → found ≡ why_over patience now one → found ≡ Some cause → IsOver one cause
over_stands patience now one found cause f e = subst (λ (o : Option Why). IfSome o (IsOver one)) (sym f ∙ e) (why_by one patience now one.stands refl)

-- one that was closed is not over, and neither is one of which no cause was found
pub closed_not_over : (patience now : ℕ) (one later : LinkSeen) → later ≡ closed_link one → is_over patience now later ≡ false
closed_not_over patience now one later i = ap (λ (o : LinkSeen). is_over patience now o) i

pub not_over : (patience now : ℕ) (one : LinkSeen) (found : Option Why) → found ≡ why_over patience now one → found ≡ None → is_over patience now one ≡ false
not_over patience now one found f e = ap (λ (o : Option Why). is_some o) (sym f ∙ e)
