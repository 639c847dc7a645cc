-- Frames of a stream that grows.
use Rattle.std.specs.Option.{option_to_list}
use Rattle.std.specs.Result.{OnOk}
use Rattle.std.proofs.Common.{Option, Some, None, Result, Ok, Err, append-nil, ◌≡◌, ◌≤◌, ◌<◌, ℕ, ◌+◌, ◌*◌, List, [], ◌∷◌, ◌++◌, length, take, drop, get_or, ◌-◌, subst, refl, sym, ap, ◌∙◌, append_assoc, arith, zero, suc, length-append, length-drop, ltb, cond, inl, inr}
use Rattle.std.proofs.lemmas.List.{take-append-le, drop-append-le, take_all, take-append-drop}
use Rattle.std.proofs.Math.Seq.{drop-append_seam}
use Rattle.std.proofs.lemmas.Bool.{le-ltb, lt-ltb, cond-true, cond-false, cases_lt}
use Rattle.dns_frames.specs.Frames.{Cut, behind, ahead, frames_by, frames, Accounts, Gives}

-- enough is enough
pub frames_by-enough : (k j : ℕ) (bytes : List ℕ) → length bytes ≤ k → length bytes ≤ j → frames_by k bytes ≡ frames_by j bytes
unfolding frames_by
frames_by-enough zero zero bytes p q = refl
frames_by-enough zero (suc j) [] p q = refl
frames_by-enough zero (suc j) (a ∷ bytes) p q = absurd (omega arith)
frames_by-enough (suc k) zero [] p q = refl
frames_by-enough (suc k) zero (a ∷ bytes) p q = absurd (omega arith)
frames_by-enough (suc k) (suc j) [] p q = refl
frames_by-enough (suc k) (suc j) (a ∷ []) p q = refl
frames_by-enough (suc k) (suc j) (a ∷ b ∷ bytes) p q =
    ap (λ (c : Cut). cond (ltb (length bytes) (a * 256 + b)) (record { messages = []; rest = a ∷ b ∷ bytes }) (behind (take (a * 256 + b) bytes) c))
    (frames_by-enough k j (drop (a * 256 + b) bytes) (omega (arith, length-drop (a * 256 + b) bytes)) (omega (arith, length-drop (a * 256 + b) bytes)))

pub frames_by-is : (k : ℕ) (bytes : List ℕ) → length bytes ≤ k → frames_by k bytes ≡ frames bytes
unfolding frames
frames_by-is k bytes p = frames_by-enough k (length bytes) bytes p (omega arith)

-- one message, and the rest
pub frames-nil : frames [] ≡ record { messages = []; rest = [] }
unfolding frames frames_by
frames-nil = refl

pub frames-one : (a : ℕ) → frames (a ∷ []) ≡ record { messages = []; rest = a ∷ [] }
unfolding frames frames_by
frames-one a = refl

pub frames-partial : (a b : ℕ) (bytes : List ℕ) → length bytes < a * 256 + b → frames (a ∷ b ∷ bytes) ≡ record { messages = []; rest = a ∷ b ∷ bytes }
unfolding frames frames_by
frames-partial a b bytes p = cond-true _ _ _ (lt-ltb _ _ p)

pub frames-whole : (a b : ℕ) (bytes : List ℕ) → a * 256 + b ≤ length bytes → frames (a ∷ b ∷ bytes) ≡ behind (take (a * 256 + b) bytes) (frames (drop (a * 256 + b) bytes))
unfolding frames frames_by
frames-whole a b bytes p = cond-false _ _ _ (le-ltb _ _ p) ∙ ap (behind (take (a * 256 + b) bytes)) (frames_by-enough (suc (length bytes)) (length (drop (a * 256 + b) bytes)) (drop (a * 256 + b) bytes) (omega (arith, length-drop (a * 256 + b) bytes)) (omega arith))

-- the frames of a stream that goes on
pub frames-more_by : (k : ℕ) (xs ys : List ℕ) → length xs ≤ k → frames (xs ++ ys) ≡ ahead (frames xs).messages (frames ((frames xs).rest ++ ys))
frames-more_by k [] ys p = rw frames-nil refl
frames-more_by k (a ∷ []) ys p = rw (frames-one a) refl
frames-more_by zero (a ∷ b ∷ bytes) ys p = absurd (omega arith)
frames-more_by (suc k) (a ∷ b ∷ bytes) ys p =
    let n : ℕ = a * 256 + b in
    elim (cases_lt (length bytes) (a * 256 + b)) [
      | inl l ↦ rw (frames-partial a b bytes l) refl
      | inr g ↦
          frames-whole a b (bytes ++ ys) (omega (arith, length-append bytes ys))
          ∙ rw (
            take-append-le (a * 256 + b) bytes ys g,
            drop-append-le (a * 256 + b) bytes ys g,
            frames-more_by k (drop (a * 256 + b) bytes) ys (omega (arith, length-drop (a * 256 + b) bytes)),
            frames-whole a b bytes g,
          ) refl
    ]

pub frames-more : (xs ys : List ℕ) → frames (xs ++ ys) ≡ ahead (frames xs).messages (frames ((frames xs).rest ++ ys))
frames-more xs ys = frames-more_by (length xs) xs ys (omega arith)

-- what is left holds no message
pub frames-rest_by : (k : ℕ) (xs : List ℕ) → length xs ≤ k → frames (frames xs).rest ≡ record { messages = []; rest = (frames xs).rest }
frames-rest_by k [] p = rw (frames-nil, frames-nil) refl
frames-rest_by k (a ∷ []) p = rw (frames-one a, frames-one a) refl
frames-rest_by zero (a ∷ b ∷ bytes) p = absurd (omega arith)
frames-rest_by (suc k) (a ∷ b ∷ bytes) p =
    elim (cases_lt (length bytes) (a * 256 + b)) [
      | inl l ↦ rw (frames-partial a b bytes l, frames-partial a b bytes l) refl
      | inr g ↦ rw (frames-whole a b bytes g) (frames-rest_by k (drop (a * 256 + b) bytes) (omega (arith, length-drop (a * 256 + b) bytes)))
    ]

pub frames-rest : (xs : List ℕ) → frames (frames xs).rest ≡ record { messages = []; rest = (frames xs).rest }
frames-rest xs = frames-rest_by (length xs) xs (omega arith)

-- the same by places
pub frames-short : (bytes : List ℕ) → length bytes < 2 → frames bytes ≡ record { messages = []; rest = bytes }
frames-short [] p = frames-nil
frames-short (a ∷ []) p = frames-one a
frames-short (a ∷ b ∷ bytes) p = absurd (omega arith)

-- what a slice pattern `[a, b, more @ ..]` calls more
abbrev pub past_two : List ℕ → List ℕ
past_two bytes = take (length bytes - 2) (drop 2 bytes)

past_two-is : (bytes : List ℕ) → past_two bytes ≡ drop 2 bytes
past_two-is bytes = take_all (length bytes - 2) (drop 2 bytes) (omega (arith, length-drop 2 bytes))

by_places : (bytes more : List ℕ) → drop 2 bytes ≡ more → 2 ≤ length bytes
    → (length more < get_or bytes 0 0 * 256 + get_or bytes 1 0 → frames bytes ≡ record { messages = []; rest = bytes })
    × (get_or bytes 0 0 * 256 + get_or bytes 1 0 ≤ length more → frames bytes ≡ behind (take (get_or bytes 0 0 * 256 + get_or bytes 1 0) more) (frames (drop (get_or bytes 0 0 * 256 + get_or bytes 1 0) more)))
by_places [] more e q = absurd (omega arith)
by_places (a ∷ []) more e q = absurd (omega arith)
by_places (a ∷ b ∷ bytes) more e q = subst (λ (m : List ℕ). (length m < a * 256 + b → frames (a ∷ b ∷ bytes) ≡ record { messages = []; rest = a ∷ b ∷ bytes })
    × (a * 256 + b ≤ length m → frames (a ∷ b ∷ bytes) ≡ behind (take (a * 256 + b) m) (frames (drop (a * 256 + b) m)))) e (frames-partial a b bytes, frames-whole a b bytes)

pub frames-partial_at : (bytes : List ℕ) → 2 ≤ length bytes → length (past_two bytes) < get_or bytes 0 0 * 256 + get_or bytes 1 0 → frames bytes ≡ record { messages = []; rest = bytes }
frames-partial_at bytes q = (by_places bytes (past_two bytes) (sym (past_two-is bytes)) q).0

pub frames-whole_at : (bytes : List ℕ) → 2 ≤ length bytes → get_or bytes 0 0 * 256 + get_or bytes 1 0 ≤ length (past_two bytes)
    → frames bytes ≡ behind (take (get_or bytes 0 0 * 256 + get_or bytes 1 0) (past_two bytes)) (frames (drop (get_or bytes 0 0 * 256 + get_or bytes 1 0) (past_two bytes)))
frames-whole_at bytes q = (by_places bytes (past_two bytes) (sym (past_two-is bytes)) q).1

behind_again : (message front : List ℕ) (n : ℕ) (rest bytes : List ℕ) → drop n bytes ≡ front ++ rest → bytes ≡ (take n bytes ++ front) ++ rest
behind_again message front n rest bytes e = sym (append_assoc (take n bytes) front rest ∙ ap (λ (l : List ℕ). take n bytes ++ l) (sym e) ∙ take-append-drop n bytes)

-- the rest is the end of the stream
frames-front_by : (k : ℕ) (bytes : List ℕ) → length bytes ≤ k → (front : List ℕ) × (bytes ≡ front ++ (frames bytes).rest)
frames-front_by k [] p = ([], rw frames-nil refl)
frames-front_by k (a ∷ []) p = ([], rw (frames-one a) refl)
frames-front_by zero (a ∷ b ∷ bytes) p = absurd (omega arith)
frames-front_by (suc k) (a ∷ b ∷ bytes) p = elim (cases_lt (length bytes) (a * 256 + b)) [
  | inl l ↦ ([], rw (frames-partial a b bytes l) refl)
  | inr g ↦
      let h = frames-front_by k (drop (a * 256 + b) bytes) (omega (arith, length-drop (a * 256 + b) bytes)) in (
        a ∷ b ∷ (take (a * 256 + b) bytes ++ h.0),
        rw (frames-whole a b bytes g)
            (ap (λ (l : List ℕ). a ∷ b ∷ l) (behind_again [] h.0 (a * 256 + b) (frames (drop (a * 256 + b) bytes)).rest bytes h.1)),
      )
]

seam : (bytes front rest : List ℕ) → bytes ≡ front ++ rest → drop (length bytes - length rest) bytes ≡ rest
seam bytes front rest e = rw e (ap (λ (n : ℕ). drop n (front ++ rest)) (omega (arith, length-append front rest)) ∙ drop-append_seam front rest)

shorter : (bytes front rest : List ℕ) → bytes ≡ front ++ rest → length rest ≤ length bytes
shorter bytes front rest e = rw e (omega (arith, length-append front rest))

pub frames-at_end : (bytes : List ℕ) → drop (length bytes - length (frames bytes).rest) bytes ≡ (frames bytes).rest
frames-at_end bytes = let h = frames-front_by (length bytes) bytes (omega arith) in seam bytes h.0 (frames bytes).rest h.1

pub frames-at_end_le : (bytes : List ℕ) → length (frames bytes).rest ≤ length bytes
frames-at_end_le bytes = let h = frames-front_by (length bytes) bytes (omega arith) in shorter bytes h.0 (frames bytes).rest h.1

-- what was fed and given goes on
pub Accounts-fed : (fed piece old new : List ℕ) (given : List (List ℕ)) → new ≡ old ++ piece → Accounts fed given old → Accounts (fed ++ piece) given new
Accounts-fed fed piece old new given e a =
    let messages : (frames fed).messages ≡ given ++ (frames old).messages = ap (λ (c : Cut). c.messages) a in
    let rest : (frames fed).rest ≡ (frames old).rest = ap (λ (c : Cut). c.rest) a in
    rw (e, frames-more fed piece, frames-more old piece, messages, rest)
    (ap (λ (ms : List (List ℕ)). record { messages = ms; rest = (frames ((frames old).rest ++ piece)).rest })
    (append_assoc given (frames old).messages (frames ((frames old).rest ++ piece)).messages))

pub Accounts-given : (fed old new : List ℕ) (given : List (List ℕ)) (o : Option (List ℕ)) → Gives old o new → Accounts fed given old → Accounts fed (given ++ option_to_list o) new
Accounts-given fed old new given (Some m) g a =
    a ∙ ap (ahead given) g ∙ ap (λ (ms : List (List ℕ)). record { messages = ms; rest = (frames new).rest }) (sym (append_assoc given (m ∷ []) (frames new).messages))
Accounts-given fed old new given None g a = rw (append-nil given, g.1) a

pub fed_ok : {T E : Type 0} (r : Result T E) (old new piece : List ℕ) → OnOk r (new ≡ old ++ piece)
    → OnOk r ((fed : List ℕ) (given : List (List ℕ)) → Accounts fed given old → Accounts (fed ++ piece) given new)
fed_ok (Ok x) old new piece e = λ fed given a. Accounts-fed fed piece old new given e a
fed_ok (Err x) old new piece e = tt
