-- Loops over ports that are handed over one by one.
use Rattle.std.proofs.Common.{◌≡◌, ◌⊎◌, ℕ, ◌+◌, ◌≤◌, ◌<◌, List, [], ◌∷◌, ◌++◌, inl, inr, length, refl, sym, ap, subst, ◌∙◌, append_assoc, append-nil, length-append, arith}
use Rattle.std.specs.List.{All, slice_index_or}
use Rattle.dns_io.specs.Told.{Rose}
use Rattle.dns_ports.specs.Ports.{CountsPort}
use Rattle.dns_listeners.specs.Hubs.{AnyFault}
use Rattle.dns_command.proofs.Counting.{zero_or_more}

-- an item moved from what is left to what was handed over
pub one_more : {X : Type 0} (done left rest all : List X) (x : X) → done ++ left ≡ all → left ≡ x ∷ rest → (done ++ x ∷ []) ++ rest ≡ all
one_more done left rest all x e is = append_assoc done (x ∷ []) rest ∙ ap (λ (l : List _). done ++ l) (sym is) ∙ e

nothing_left : {X : Type 0} (l : List X) → length l ≡ 0 → l ≡ []
nothing_left [] h = refl
nothing_left (x ∷ xs) h = absurd cc

-- none is left
pub all_done : {X : Type 0} (done left all : List X) → done ++ left ≡ all → length left ≡ 0 → done ≡ all
all_done done left all e none = sym (append-nil done) ∙ ap (λ (l : List _). done ++ l) (sym (nothing_left left none)) ∙ e

-- there was one more
pub some_left : {X : Type 0} (done left rest all : List X) (x : X) → done ++ left ≡ all → left ≡ x ∷ rest → length done + 1 ≤ length all
some_left done left rest all x e is =
    let a = ap length e in
    let b = length-append done left in
    let c = ap length is in
    omega (arith, a, b, c)

nth_of : {X : Type 0} (done rest : List X) (x d : X) → slice_index_or (done ++ x ∷ rest) (length done) d ≡ x
nth_of [] rest x d = refl
nth_of (y ∷ ys) rest x d = nth_of ys rest x d

-- what holds of all holds of the next
pub holds_of_next : {X : Type 0} (P : X → Type 0) (done left rest all : List X) (x : X) → done ++ left ≡ all → left ≡ x ∷ rest → All P all → P x
holds_of_next P done left rest all x e is every =
    let whole : done ++ x ∷ rest ≡ all = ap (λ (l : List _). done ++ l) (sym is) ∙ e in
    let n = length-append done (x ∷ rest) in
    subst P (nth_of done rest x x) ((subst (λ (l : List _). All P l) (sym whole) every) (length done) x (omega (arith, n)))

pub any_more : {P : Type 0} (faults : P → ℕ) (ports : List P) (port : P) → AnyFault faults (ports ++ port ∷ []) → AnyFault faults ports ⊎ (0 < faults port)
any_more faults [] port (inl h) = inr h
any_more faults [] port (inr h) = absurd h
any_more faults (x ∷ xs) port (inl h) = inl (inl h)
any_more faults (x ∷ xs) port (inr h) = elim (any_more faults xs port h) [ inl a ↦ inl (inr a) | inr b ↦ inr b ]

pub rose_more : {P : Type 0} (faults : P → ℕ) (ports : List P) (port : P) (first before after : ℕ) → (AnyFault faults ports → Rose first before) → first ≤ before → before ≤ after → (0 < faults port → Rose before after)
    → AnyFault faults (ports ++ port ∷ []) → Rose first after
rose_more faults ports port first before after so_far h k raised any = elim (any_more faults ports port any) [
  | inl a ↦ let r = so_far a in omega (arith, r, k)
  | inr b ↦ let r = raised b in omega (arith, r, h)
]

any_before : {P : Type 0} (faults : P → ℕ) (ports : List P) (port : P) → AnyFault faults ports → AnyFault faults (ports ++ port ∷ [])
any_before faults [] port any = absurd any
any_before faults (x ∷ xs) port (inl h) = inl h
any_before faults (x ∷ xs) port (inr any) = inr (any_before faults xs port any)

any_last : {P : Type 0} (faults : P → ℕ) (ports : List P) (port : P) → 0 < faults port → AnyFault faults (ports ++ port ∷ [])
any_last faults [] port h = inl h
any_last faults (x ∷ xs) port h = inr (any_last faults xs port h)

-- the hub's count is what it was at first, or one of the ports so far has a fault
pub calm_more : {P : Type 0} (faults : P → ℕ) (ports : List P) (port : P) (first before after : ℕ) → (before ≡ first) ⊎ AnyFault faults ports → CountsPort (faults port) before after
    → (after ≡ first) ⊎ AnyFault faults (ports ++ port ∷ [])
calm_more faults ports port first before after (inr any) counts = inr (any_before faults ports port any)
calm_more faults ports port first before after (inl calm) counts = elim (zero_or_more (faults port)) [
  | inl none ↦ inl (counts.calm none ∙ calm)
  | inr some ↦ inr (any_last faults ports port some)
]
