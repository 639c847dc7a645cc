-- The first messages of a stream, and what stands behind them.
use Rattle.std.proofs.Common.{◌≡◌, ◌≢◌, ◌≤◌, ◌<◌, ℕ, ◌+◌, ◌-◌, ◌*◌, min, List, [], ◌∷◌, ◌++◌, length, take, drop, refl, sym, ap, ◌∙◌, subst, arith, zero, suc, inl, inr, length-drop, false}
use Rattle.std.proofs.lemmas.Bool.{cases_lt, leb-false}
use Rattle.std.proofs.lemmas.List.{drop-append-le, drop-drop, length-take, length-take-le, take-append-le, take_all}
use Rattle.std.proofs.Math.Seq.{take-append-add, take-nil}
use Rattle.dns_frames.specs.Frames.{Cut, behind, frames}
use Rattle.dns_frames.proofs.Cutting.{frames-nil, frames-one, frames-partial, frames-whole, frames-at_end, frames-more, frames-rest}
use Rattle.dns_server_core.specs.Connections.{Connection, messages_left}
use Rattle.dns_server_core.specs.Order.{IsRest}
use Rattle.dns_server_core.specs.Steps.{base_by, fed_by, is_over, messages_in}
use Rattle.dns_server_core.specs.FrameRuns.{behind_first, first_messages, framed_size}

-- one message, and those behind it
pub first_next : (most : ℕ) (bytes message after : List ℕ) → 0 < most → frames bytes ≡ behind message (frames after) → first_messages most bytes ≡ message ∷ first_messages (most - 1) after
first_next zero bytes message after some is = absurd (omega (arith, some))
first_next (suc more) bytes message after some is =
    let less : suc more - 1 ≡ more = omega arith in
    rw (is, less) refl

pub behind_next : (most : ℕ) (bytes message after : List ℕ) → 0 < most → frames bytes ≡ behind message (frames after) → after ≡ drop (2 + length message) bytes
    → behind_first most bytes ≡ behind_first (most - 1) after
behind_next most bytes message after some is left =
    ap (λ (ms : List (List ℕ)). drop (framed_size ms) bytes) (first_next most bytes message after some is)
    ∙ sym (drop-drop (framed_size (first_messages (most - 1) after)) (2 + length message) bytes)
    ∙ ap (drop (framed_size (first_messages (most - 1) after))) (sym left)

pub first_none : (most : ℕ) (bytes : List ℕ) → frames bytes ≡ record { messages = []; rest = bytes } → first_messages most bytes ≡ []
first_none most bytes is = ap (λ (k : Cut). take most k.messages) is ∙ take-nil most

-- where none is to come, all is behind
pub behind_none : (most : ℕ) (bytes : List ℕ) → first_messages most bytes ≡ [] → behind_first most bytes ≡ bytes
behind_none most bytes is = ap (λ (ms : List (List ℕ)). drop (framed_size ms) bytes) is

-- messages and the rest make up the stream
frames-size_by : (k : ℕ) (xs : List ℕ) → length xs ≤ k → framed_size (frames xs).messages + length (frames xs).rest ≡ length xs
frames-size_by k [] p = rw frames-nil refl
frames-size_by k (a ∷ []) p = rw (frames-one a) refl
frames-size_by zero (a ∷ b ∷ bytes) p = absurd (omega arith)
frames-size_by (suc k) (a ∷ b ∷ bytes) p =
    let n : ℕ = a * 256 + b in
    elim (cases_lt (length bytes) (a * 256 + b)) [
      | inl l ↦ rw (frames-partial a b bytes l) (omega arith)
      | inr g ↦
          let more = frames-size_by k (drop (a * 256 + b) bytes) (omega (arith, length-drop (a * 256 + b) bytes)) in
          rw (frames-whole a b bytes g) (omega (arith, more, length-take-le (a * 256 + b) bytes g, length-drop (a * 256 + b) bytes))
    ]

pub frames-size : (xs : List ℕ) → framed_size (frames xs).messages + length (frames xs).rest ≡ length xs
frames-size xs = frames-size_by (length xs) xs (omega arith)

-- as many as there are, or more, are all
pub first_all : (most : ℕ) (bytes : List ℕ) → length (frames bytes).messages ≤ most → first_messages most bytes ≡ (frames bytes).messages
first_all most bytes few = take_all most (frames bytes).messages few

pub behind_all : (most : ℕ) (bytes : List ℕ) → length (frames bytes).messages ≤ most → behind_first most bytes ≡ (frames bytes).rest
behind_all most bytes few =
    let size : framed_size (frames bytes).messages ≡ length bytes - length (frames bytes).rest = omega (arith, frames-size bytes) in
    ap (λ (ms : List (List ℕ)). drop (framed_size ms) bytes) (first_all most bytes few) ∙ ap (λ (n : ℕ). drop n bytes) size ∙ frames-at_end bytes

-- how many they are
pub first_count : (most : ℕ) (bytes : List ℕ) → length (first_messages most bytes) ≡ min most (length (frames bytes).messages)
first_count most bytes = length-take most (frames bytes).messages

-- what stands behind them is the end of the stream
taken_size : (most : ℕ) (ms : List (List ℕ)) → framed_size (take most ms) ≤ framed_size ms
taken_size zero ms = omega arith
taken_size (suc most) [] = omega arith
taken_size (suc most) (m ∷ ms) = omega (arith, taken_size most ms)

first_size : (most : ℕ) (bytes : List ℕ) → framed_size (first_messages most bytes) ≤ length bytes
first_size most bytes = omega (arith, taken_size most (frames bytes).messages, frames-size bytes)

pub behind_le : (most : ℕ) (bytes : List ℕ) → length (behind_first most bytes) ≤ length bytes
behind_le most bytes = omega (arith, length-drop (framed_size (first_messages most bytes)) bytes)

pub behind_end : (most : ℕ) (bytes : List ℕ) → drop (length bytes - length (behind_first most bytes)) bytes ≡ behind_first most bytes
behind_end most bytes =
    let size : length bytes - length (behind_first most bytes) ≡ framed_size (first_messages most bytes) =
    omega (arith, first_size most bytes, length-drop (framed_size (first_messages most bytes)) bytes)
    in
    ap (λ (n : ℕ). drop n bytes) size

-- a stream that goes on, with no more messages so far than there may be: these, and then the first of those that follow
pub first_more : (most : ℕ) (xs ys : List ℕ) → length (frames xs).messages ≤ most
    → first_messages most (xs ++ ys) ≡ (frames xs).messages ++ first_messages (most - length (frames xs).messages) ((frames xs).rest ++ ys)
first_more most xs ys few =
    let all : most ≡ length (frames xs).messages + (most - length (frames xs).messages) = omega (arith, few) in
    ap (λ (k : Cut). take most k.messages) (frames-more xs ys)
    ∙ ap (λ (n : ℕ). take n ((frames xs).messages ++ (frames ((frames xs).rest ++ ys)).messages)) all
    ∙ take-append-add (frames xs).messages (frames ((frames xs).rest ++ ys)).messages (most - length (frames xs).messages)

sizes : (ms ns : List (List ℕ)) → framed_size (ms ++ ns) ≡ framed_size ms + framed_size ns
sizes [] ns = omega arith
sizes (m ∷ ms) ns = omega (arith, sizes ms ns)

all_size : (bytes : List ℕ) → drop (framed_size (frames bytes).messages) bytes ≡ (frames bytes).rest
all_size bytes =
    let size : framed_size (frames bytes).messages ≡ length bytes - length (frames bytes).rest = omega (arith, frames-size bytes) in
    ap (λ (n : ℕ). drop n bytes) size ∙ frames-at_end bytes

pub behind_more : (most : ℕ) (xs ys : List ℕ) → length (frames xs).messages ≤ most
    → behind_first most (xs ++ ys) ≡ behind_first (most - length (frames xs).messages) ((frames xs).rest ++ ys)
behind_more most xs ys few =
    let later = first_messages (most - length (frames xs).messages) ((frames xs).rest ++ ys) in
    let within : framed_size (frames xs).messages ≤ length xs = omega (arith, frames-size xs) in
    ap (λ (n : ℕ). drop n (xs ++ ys)) (ap framed_size (first_more most xs ys few) ∙ sizes (frames xs).messages later)
    ∙ sym (drop-drop (framed_size later) (framed_size (frames xs).messages) (xs ++ ys))
    ∙ ap (drop (framed_size later)) (drop-append-le (framed_size (frames xs).messages) xs ys within ∙ ap (λ (l : List ℕ). l ++ ys) (all_size xs))

-- and with as many as there may be: those that follow are no matter
pub first_enough : (most : ℕ) (xs ys : List ℕ) → most ≤ length (frames xs).messages → first_messages most (xs ++ ys) ≡ first_messages most xs
first_enough most xs ys enough =
    ap (λ (k : Cut). take most k.messages) (frames-more xs ys) ∙ take-append-le most (frames xs).messages (frames ((frames xs).rest ++ ys)).messages enough

nil_of : (ms : List (List ℕ)) → length ms ≡ 0 → ms ≡ []
nil_of [] e = refl
nil_of (m ∷ ms) e = absurd (omega (arith, e))

base_some : (base at : ℕ) (ms : List (List ℕ)) → length ms ≢ 0 → base_by base at ms ≡ at
base_some base at [] some = absurd (some refl)
base_some base at (m ∷ ms) some = refl

-- a connection with another base, another rest and another count
abbrev pub with_these : Connection → ℕ → List ℕ → ℕ → Connection
with_these k base rest taken = record { number = k.number; peer = k.peer; limit = k.limit; base = base; rest = rest; taken = taken }

pub changed : (k : Connection) (base base_now : ℕ) (rest rest_now : List ℕ) (taken taken_now : ℕ) → base ≡ base_now → rest ≡ rest_now → taken ≡ taken_now
    → with_these k base rest taken ≡ with_these k base_now rest_now taken_now
changed k base base_now rest rest_now taken taken_now b r t =
    ap (λ (n : ℕ). with_these k n rest taken) b ∙ ap (λ (l : List ℕ). with_these k base_now l taken) r ∙ ap (λ (n : ℕ). with_these k base_now rest_now n) t

-- what a connection is whose messages were settled: there was none, or one or more
pub fed_none : (k : Connection) (at : ℕ) → length (messages_in k k.rest) ≡ 0 → k ≡ fed_by k at k.rest
fed_none k at none =
    let no : messages_in k k.rest ≡ [] = nil_of (messages_in k k.rest) none in
    changed k k.base (base_by k.base at (messages_in k k.rest)) k.rest (behind_first (messages_left k) k.rest) k.taken (k.taken + length (messages_in k k.rest))
    (sym (ap (λ (ms : List (List ℕ)). base_by k.base at ms) no)) (sym (behind_none (messages_left k) k.rest no)) (omega (arith, none))

pub fed_some : (k new : Connection) (at messages rest : ℕ) → messages ≡ length (messages_in k k.rest) → messages ≢ 0 → rest ≡ length (behind_first (messages_left k) k.rest)
    → new ≡ record { number = k.number; peer = k.peer; limit = k.limit; base = at; rest = drop (length k.rest - rest) k.rest; taken = k.taken + messages } → new ≡ fed_by k at k.rest
fed_some k new at messages rest count some size is =
    let base : base_by k.base at (messages_in k k.rest) ≡ at = base_some k.base at (messages_in k k.rest) (subst (λ (n : ℕ). n ≢ 0) count some) in
    let left : drop (length k.rest - rest) k.rest ≡ behind_first (messages_left k) k.rest =
    ap (λ (n : ℕ). drop (length k.rest - n) k.rest) size ∙ behind_end (messages_left k) k.rest
    in
    is ∙ changed k at (base_by k.base at (messages_in k k.rest)) (drop (length k.rest - rest) k.rest) (behind_first (messages_left k) k.rest) (k.taken + messages) (k.taken + length (messages_in k k.rest))
    (sym base) left (ap (λ (n : ℕ). k.taken + n) count)

-- one that may have more has no whole message left
pub fed_few : (k : Connection) (at : ℕ) (bytes : List ℕ) → is_over (fed_by k at bytes) ≡ false → length (frames bytes).messages ≤ messages_left k
fed_few k at bytes more = omega (arith, leb-false _ _ more, first_count (messages_left k) bytes)

pub fed_rest : (k : Connection) (at : ℕ) (bytes : List ℕ) → is_over (fed_by k at bytes) ≡ false → IsRest (fed_by k at bytes)
fed_rest k at bytes more =
    subst (λ (l : List ℕ). frames l ≡ record { messages = []; rest = l }) (sym (behind_all (messages_left k) bytes (fed_few k at bytes more))) (frames-rest bytes)
