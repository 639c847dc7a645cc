-- What one call more shows of a number.
use Rattle.std.proofs.Common.{◌≡◌, ℕ, List, [], ◌∷◌, ◌++◌, length, Bool, true, false, ◌||◌, if◌then◌else◌, Option, Some, None, Result, Ok, Err, refl, sym, ap, ◌∙◌, append-nil}
use Rattle.std.proofs.lemmas.Bool.{eq-eqb, ne_eqb}
use Rattle.dns_network.specs.Calls.{Noted, accepted, clock, closed, looked, moved, read, rested, shut, waited, watched, wrote}
use Rattle.dns_network.specs.Words.{has_some, leaves, moment_by, moved_at, moves, no_moment, no_owing}
use Rattle.dns_network.specs.Words.{now_of, owing_by, owing_since, read_by, read_in, shuts, since_by, since_or, was_shut, written_by}
use Rattle.dns_network.specs.Words.{written_in}
use Rattle.dns_network.specs.declared.call.Call.TheVariants as call
use Rattle.dns_network.specs.declared.call.Watch.{Watch}
use Rattle.dns_network.specs.declared.call.Reading.{Reading}
use Rattle.dns_network.specs.declared.call.Why.{Why}
use Rattle.dns_network.specs.declared.refused.Refused.{Refused}
use Rattle.std.specs.declared.net.socket_addr.SocketAddr.{SocketAddr}
use Rattle.dns_network.proofs.Words.{any_more, found_one, moment_clock, moved_one, owing_clock}
use Rattle.dns_connections.specs.Kept.{Line, closing_in, closings_by, line_of, watch_by}

abbrev pub line : List ℕ → List ℕ → ℕ → Option ℕ → Bool → List Why → Option Watch → Line
line w r m o s c t = record { written = w; read = r; moved = m; owing = o; shut = s; closings = c; watch = t }

-- two lines are the same where all of them is
line_path : {w w' r r' : List ℕ} {m m' : ℕ} {o o' : Option ℕ} {s s' : Bool} {c c' : List Why} {t t' : Option Watch}
    → w ≡ w' → r ≡ r' → m ≡ m' → o ≡ o' → s ≡ s' → c ≡ c' → t ≡ t' → line w r m o s c t ≡ line w' r' m' o' s' c' t'
line_path {w} {w'} {r} {r'} {m} {m'} {o} {o'} {s} {s'} {c} {c'} {t} {t'} ew er em eo es ec et =
    ap (λ x. line x r m o s c t) ew ∙ ap (λ x. line w' x m o s c t) er ∙ ap (λ x. line w' r' x o s c t) em ∙ ap (λ x. line w' r' m' x s c t) eo
    ∙ ap (λ x. line w' r' m' o' x c t) es ∙ ap (λ x. line w' r' m' o' s' x t) ec ∙ ap (λ x. line w' r' m' o' s' c' x) et

-- a line behind one call more, which was made at a reading of the clock
abbrev pub line_by : ℕ → ℕ → Line → Noted → Line
line_by n now l c = record {
  written = l.written ++ written_in n c.0 c.1;
  read = l.read ++ read_in n c.0 c.1;
  moved = if moves n c.0 then now else l.moved;
  owing = since_by n (record { now = now; since = l.owing }) c.0;
  shut = l.shut || (shuts n c.0 || false);
  closings = l.closings ++ closing_in n c.0;
  watch = watch_by n l.watch c.0;
}

pub line_more : (n : ℕ) (xs : List Noted) (c : Noted) → line_of n (xs ++ c ∷ []) ≡ line_by n (now_of xs) (line_of n xs) c
line_more n xs c = line_path
    (moved_one _ xs c)
    (moved_one _ xs c)
    (ap (λ m. m.moved) (found_one (moment_by n) no_moment xs c) ∙ ap (λ (t : ℕ). if moves n c.0 then t else moved_at n xs) (moment_clock n xs))
    (ap (λ o. o.since) (found_one (owing_by n) no_owing xs c) ∙ ap (λ (t : ℕ). since_by n (record { now = t; since = owing_since n xs }) c.0) (owing_clock n xs))
    (any_more _ xs (c ∷ []))
    (moved_one _ xs c)
    (found_one (watch_by n) None xs c)

or_false : (b : Bool) → (b || false) ≡ b
or_false true = refl
or_false false = refl

-- a call that shows nothing of a number
settle : (l : Line) → line (l.written ++ []) (l.read ++ []) l.moved l.owing (l.shut || false) (l.closings ++ []) l.watch ≡ l
settle l = line_path (append-nil l.written) (append-nil l.read) refl refl (or_false l.shut) (append-nil l.closings) refl

-- what each call shows of its own number
abbrev pub wrote_line : ℕ → Line → List ℕ → Result ℕ Refused → Line
wrote_line now l bytes given = record l {
  written = l.written ++ moved given bytes;
  moved = if has_some given then now else l.moved;
  owing = if leaves (length bytes) given then since_or now l.owing else None;
}

abbrev pub read_line : ℕ → Line → List ℕ → Result ℕ Refused → Line
read_line now l room given = record l {
  read = l.read ++ moved given room;
  moved = if has_some given then now else l.moved;
}

abbrev pub watched_line : Line → Watch → Result (Unit {0}) Refused → Line
watched_line l what (Ok done) = record l { watch = Some what }
watched_line l what (Err refused) = l

abbrev pub shut_line : Line → Line
shut_line l = record l { shut = true }

abbrev pub closed_line : Line → Why → Line
closed_line l cause = record l { closings = l.closings ++ cause ∷ [] }

abbrev pub accepted_line : {S : Type 0} → ℕ → Line → Result (S × SocketAddr) Refused → Line
accepted_line now l (Ok given) = record l { moved = now }
accepted_line now l (Err refused) = l

or_true : (b : Bool) → (b || true) ≡ true
or_true true = refl
or_true false = refl

module _ (n : ℕ) (xs : List Noted) where
  pub own_taken : (size : ℕ) (given : Result ℕ Refused) (bytes : List ℕ) → line_of n (xs ++ (call.Wrote n size given, bytes) ∷ [])
      ≡ record (line_of n xs) {
        written = written_by n xs ++ bytes;
        moved = if has_some given then now_of xs else moved_at n xs;
        owing = if leaves size given then since_or (now_of xs) (owing_since n xs) else None;
      }
  own_taken size given bytes =
      line_more n xs (call.Wrote n size given, bytes) ∙ rw (eq-eqb n n refl)
      (line_path refl (append-nil (read_by n xs)) refl refl (or_false (was_shut n xs)) (append-nil (closings_by n xs)) refl)

  pub own_wrote : (bytes : List ℕ) (given : Result ℕ Refused) → line_of n (xs ++ wrote n bytes given ∷ []) ≡ wrote_line (now_of xs) (line_of n xs) bytes given
  own_wrote bytes given = own_taken (length bytes) given (moved given bytes)

  pub own_piece : (size : ℕ) (given : Result ℕ Refused) (bytes : List ℕ) → line_of n (xs ++ (call.Read n size given, bytes) ∷ [])
      ≡ record (line_of n xs) {
        read = read_by n xs ++ bytes;
        moved = if has_some given then now_of xs else moved_at n xs;
      }
  own_piece size given bytes =
      line_more n xs (call.Read n size given, bytes) ∙ rw (eq-eqb n n refl)
      (line_path (append-nil (written_by n xs)) refl refl refl (or_false (was_shut n xs)) (append-nil (closings_by n xs)) refl)

  pub own_read : (room : List ℕ) (given : Result ℕ Refused) → line_of n (xs ++ read n room given ∷ []) ≡ read_line (now_of xs) (line_of n xs) room given
  own_read room given = own_piece (length room) given (moved given room)

  pub own_watched : (what : Watch) (given : Result (Unit {0}) Refused) → line_of n (xs ++ watched n what given ∷ []) ≡ watched_line (line_of n xs) what given
  own_watched what (Ok done) =
      line_more n xs (watched n what (Ok done)) ∙ rw (eq-eqb n n refl)
      (line_path (append-nil (written_by n xs)) (append-nil (read_by n xs)) refl refl (or_false (was_shut n xs)) (append-nil (closings_by n xs)) refl)
  own_watched what (Err refused) = line_more n xs (watched n what (Err refused)) ∙ settle (line_of n xs)

  pub own_shut : (given : Result (Unit {0}) Refused) → line_of n (xs ++ shut n given ∷ []) ≡ shut_line (line_of n xs)
  own_shut given =
      line_more n xs (shut n given) ∙ rw (eq-eqb n n refl)
      (line_path (append-nil (written_by n xs)) (append-nil (read_by n xs)) refl refl (or_true (was_shut n xs)) (append-nil (closings_by n xs)) refl)

  pub own_closed : (cause : Why) → line_of n (xs ++ closed n cause ∷ []) ≡ closed_line (line_of n xs) cause
  own_closed cause =
      line_more n xs (closed n cause) ∙ rw (eq-eqb n n refl)
      (line_path (append-nil (written_by n xs)) (append-nil (read_by n xs)) refl refl (or_false (was_shut n xs)) refl refl)

  pub own_accepted : {S : Type 0} (given : Result (S × SocketAddr) Refused) → line_of n (xs ++ accepted n given ∷ []) ≡ accepted_line (now_of xs) (line_of n xs) given
  own_accepted (Ok came) =
      line_more n xs (accepted n (Ok came)) ∙ rw (eq-eqb n n refl)
      (line_path (append-nil (written_by n xs)) (append-nil (read_by n xs)) refl refl (or_false (was_shut n xs)) (append-nil (closings_by n xs)) refl)
  own_accepted (Err refused) = line_more n xs (call.Accepted n (Err refused), []) ∙ settle (line_of n xs)

-- and of another
module _ (n : ℕ) (xs : List Noted) (m : ℕ) (other : n ≡ m → ⊥) where
  pub other_taken : (size : ℕ) (given : Result ℕ Refused) (bytes : List ℕ) → line_of n (xs ++ (call.Wrote m size given, bytes) ∷ []) ≡ line_of n xs
  other_taken size given bytes = line_more n xs (call.Wrote m size given, bytes) ∙ rw (ne_eqb m n (λ e. other (sym e))) (settle (line_of n xs))

  pub other_wrote : (bytes : List ℕ) (given : Result ℕ Refused) → line_of n (xs ++ wrote m bytes given ∷ []) ≡ line_of n xs
  other_wrote bytes given = other_taken (length bytes) given (moved given bytes)

  pub other_piece : (size : ℕ) (given : Result ℕ Refused) (bytes : List ℕ) → line_of n (xs ++ (call.Read m size given, bytes) ∷ []) ≡ line_of n xs
  other_piece size given bytes = line_more n xs (call.Read m size given, bytes) ∙ rw (ne_eqb m n (λ e. other (sym e))) (settle (line_of n xs))

  pub other_read : (room : List ℕ) (given : Result ℕ Refused) → line_of n (xs ++ read m room given ∷ []) ≡ line_of n xs
  other_read room given = other_piece (length room) given (moved given room)

  pub other_watched : (what : Watch) (given : Result (Unit {0}) Refused) → line_of n (xs ++ watched m what given ∷ []) ≡ line_of n xs
  other_watched what (Ok done) = line_more n xs (watched m what (Ok done)) ∙ rw (ne_eqb m n (λ e. other (sym e))) (settle (line_of n xs))
  other_watched what (Err refused) = line_more n xs (watched m what (Err refused)) ∙ settle (line_of n xs)

  pub other_shut : (given : Result (Unit {0}) Refused) → line_of n (xs ++ shut m given ∷ []) ≡ line_of n xs
  other_shut given = line_more n xs (shut m given) ∙ rw (ne_eqb m n (λ e. other (sym e))) (settle (line_of n xs))

  pub other_closed : (cause : Why) → line_of n (xs ++ closed m cause ∷ []) ≡ line_of n xs
  other_closed cause = line_more n xs (closed m cause) ∙ rw (ne_eqb m n (λ e. other (sym e))) (settle (line_of n xs))

  pub other_accepted : {S : Type 0} (given : Result (S × SocketAddr) Refused) → line_of n (xs ++ accepted m given ∷ []) ≡ line_of n xs
  other_accepted (Ok came) = line_more n xs (accepted m (Ok came)) ∙ rw (ne_eqb m n (λ e. other (sym e))) (settle (line_of n xs))
  other_accepted (Err refused) = line_more n xs (call.Accepted m (Err refused), []) ∙ settle (line_of n xs)

-- calls that are about no stream
module _ (n : ℕ) (xs : List Noted) where
  pub quiet_looked : (stopped : Bool) → line_of n (xs ++ looked stopped ∷ []) ≡ line_of n xs
  quiet_looked stopped = line_more n xs (looked stopped) ∙ settle (line_of n xs)

  pub quiet_waited : (most : ℕ) (given : Result ℕ Refused) → line_of n (xs ++ waited most given ∷ []) ≡ line_of n xs
  quiet_waited most given = line_more n xs (waited most given) ∙ settle (line_of n xs)

  pub quiet_rested : (millis : ℕ) → line_of n (xs ++ rested millis ∷ []) ≡ line_of n xs
  quiet_rested millis = line_more n xs (rested millis) ∙ settle (line_of n xs)

  pub quiet_clock : (given : Result Reading Refused) → line_of n (xs ++ clock given ∷ []) ≡ line_of n xs
  quiet_clock given = line_more n xs (clock given) ∙ settle (line_of n xs)

  pub quiet_refused : (S : Type 0) (m : ℕ) (refused : Refused) → line_of n (xs ++ accepted {Stream = S} m (Err refused) ∷ []) ≡ line_of n xs
  quiet_refused S m refused = line_more n xs (accepted {Stream = S} m (Err refused)) ∙ settle (line_of n xs)
