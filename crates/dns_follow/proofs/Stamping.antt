-- The whole messages of reads, and of one read more.
use Rattle.std.proofs.Common.{◌≡◌, ◌≤◌, ◌∙◌, ℕ, ◌-◌, List, [], ◌∷◌, ◌++◌, length, map, take, zero, suc, refl, sym, ap, arith, length-append, append-nil, append_assoc}
use Rattle.std.specs.List.{AllByRecursion}
use Rattle.std.proofs.Math.Seq.{take-append_seam}
use Rattle.dns_edges.specs.Listening.{Arrival, bytes_of}
use Rattle.dns_frames.specs.Frames.{Cut, frames, Accounts}
use Rattle.dns_frames.proofs.Cutting.{frames-more, frames-nil, frames-rest}
use Rattle.dns_follow.specs.Following.{Step}
use Rattle.dns_follow.specs.Followed.{Came, before_last, came_at, came_of, stamped}

-- behind bytes that are no whole message those of one read more are of these bytes and of what it brings
stamped_more : (rest : List ℕ) (ps : List Arrival) (a : Arrival) → frames rest ≡ record { messages = []; rest = rest }
    → stamped rest (ps ++ a ∷ []) ≡ stamped rest ps ++ map (came_at a.at) (frames ((frames (rest ++ bytes_of ps)).rest ++ a.piece)).messages
unfolding stamped
stamped_more rest [] a clean =
    let same : rest ≡ (frames (rest ++ [])).rest = sym (ap (λ (l : List ℕ). (frames l).rest) (append-nil rest) ∙ ap (λ (cut : Cut). cut.rest) clean) in
    append-nil (map (came_at a.at) (frames (rest ++ a.piece)).messages) ∙ ap (λ (l : List ℕ). map (came_at a.at) (frames (l ++ a.piece)).messages) same
stamped_more rest (p ∷ ps) a clean =
    let next : List ℕ = (frames (rest ++ p.piece)).rest in
    let here : List Came = map (came_at p.at) (frames (rest ++ p.piece)).messages in
    let same : (frames (next ++ bytes_of ps)).rest ≡ (frames (rest ++ (p.piece ++ bytes_of ps))).rest =
    sym (ap (λ (cut : Cut). cut.rest) (frames-more (rest ++ p.piece) (bytes_of ps))) ∙ ap (λ (l : List ℕ). (frames l).rest) (append_assoc rest p.piece (bytes_of ps)) in
    ap (λ (l : List Came). here ++ l) (stamped_more next ps a (frames-rest (rest ++ p.piece)))
    ∙ sym (append_assoc here (stamped next ps) (map (came_at a.at) (frames ((frames (next ++ bytes_of ps)).rest ++ a.piece)).messages))
    ∙ ap (λ (l : List ℕ). (here ++ stamped next ps) ++ map (came_at a.at) (frames (l ++ a.piece)).messages) same

-- where all so far were given, those of one read more are of the bytes that are left and of what it brings
pub stamped-push : (ps : List Arrival) (a : Arrival) (left : List ℕ) (given : List (List ℕ)) → Accounts (bytes_of ps) given left → (frames left).messages ≡ []
    → stamped [] (ps ++ a ∷ []) ≡ stamped [] ps ++ map (came_at a.at) (frames (left ++ a.piece)).messages
stamped-push ps a left given all none =
    let rest : (frames (bytes_of ps)).rest ≡ (frames left).rest = ap (λ (cut : Cut). cut.rest) all in
    let more : (frames (left ++ a.piece)).messages ≡ (frames ((frames left).rest ++ a.piece)).messages =
    ap (λ (cut : Cut). cut.messages) (frames-more left a.piece) ∙ ap (λ (ms : List (List ℕ)). ms ++ (frames ((frames left).rest ++ a.piece)).messages) none in
    stamped_more [] ps a frames-nil
    ∙ ap (λ (l : List ℕ). stamped [] ps ++ map (came_at a.at) (frames (l ++ a.piece)).messages) rest
    ∙ ap (λ (ms : List (List ℕ)). stamped [] ps ++ map (came_at a.at) ms) (sym more)

pub stamped-none : stamped [] [] ≡ []
unfolding stamped
stamped-none = refl

-- the first reads bring no more than all
pub stamped-front : (n : ℕ) (rest : List ℕ) (ps : List Arrival) → length (stamped rest (take n ps)) ≤ length (stamped rest ps)
unfolding stamped
stamped-front zero rest ps = omega arith
stamped-front (suc n) rest [] = omega arith
stamped-front (suc n) rest (p ∷ ps) =
    let next : List ℕ = (frames (rest ++ p.piece)).rest in
    let here : List Came = map (came_at p.at) (frames (rest ++ p.piece)).messages in
    omega (arith, length-append here (stamped next (take n ps)), length-append here (stamped next ps), stamped-front n next ps)

pub before_last-push : (ps : List Arrival) (a : Arrival) → before_last (ps ++ a ∷ []) ≡ ps
before_last-push ps a =
    let size : length (ps ++ a ∷ []) - 1 ≡ length ps = omega (arith, length-append ps (a ∷ [])) in
    ap (λ (n : ℕ). take n (ps ++ a ∷ [])) size ∙ take-append_seam ps (a ∷ [])

-- payloads that were taken at a moment came at it
pub came-taken : (moment : ℕ) (steps : List Step) → AllByRecursion (λ (s : Step). s.moment ≡ moment) steps
    → map (came_at moment) (map (λ (s : Step). s.payload) steps) ≡ map came_of steps
came-taken moment [] h = refl
came-taken moment (step ∷ steps) h =
    ap (λ (m : ℕ). came_at m step.payload ∷ map (came_at moment) (map (λ (s : Step). s.payload) steps)) (sym h.0)
    ∙ ap (λ (l : List Came). came_of step ∷ l) (came-taken moment steps h.1)

pub payloads-back : (moment : ℕ) (ms : List (List ℕ)) → map (λ (c : Came). c.payload) (map (came_at moment) ms) ≡ ms
payloads-back moment [] = refl
payloads-back moment (m ∷ ms) = ap (λ (l : List (List ℕ)). m ∷ l) (payloads-back moment ms)
