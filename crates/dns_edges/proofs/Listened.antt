-- One more read behind those that were made.
use Rattle.std.proofs.Common.{◌≡◌, ◌∙◌, ℕ, List, [], ◌∷◌, ◌++◌, Ok, refl, sym, ap, subst}
use Rattle.std.proofs.lemmas.List.{append-nil}
use Rattle.std.proofs.lemmas.Grind.{flat_map-append}
use Rattle.dns_edges.specs.Edges.{SourceOf, ClockOf}
use Rattle.dns_edges.specs.Listening.{Arrival, Listens, bytes_of, room}

pub bytes_of-push : (ps : List Arrival) (a : Arrival) → bytes_of ps ++ a.piece ≡ bytes_of (ps ++ a ∷ [])
bytes_of-push ps a = sym (flat_map-append (λ (p : Arrival). p.piece) ps (a ∷ []) ∙ ap (λ (l : List ℕ). bytes_of ps ++ l) (append-nil a.piece))

module _ {S C : Type 0} (source : SourceOf S) (clock : ClockOf C) where
  pub Listens-more : (s0 s1 s2 : S) (c0 c1 c2 : C) (ps : List Arrival) (a : Arrival) → Listens source clock s0 c0 ps s1 c1 → source.reads s1 room (Ok a.piece) s2 → clock.ticks c1 a.at c2
      → Listens source clock s0 c0 (ps ++ a ∷ []) s2 c2
  Listens-more s0 s1 s2 c0 c1 c2 [] a h r t =
      let P : S → Type 0 = λ x. source.reads x room (Ok a.piece) s2 in
      let Q : C → Type 0 = λ x. clock.ticks x a.at c2 in
      (s2, c2, subst P h.0 r, subst Q h.1 t, (refl, refl))
  Listens-more s0 s1 s2 c0 c1 c2 (x ∷ ps) a h r t = (h.0, h.1, h.2, h.3, Listens-more h.0 s1 s2 h.1 c1 c2 ps a h.4 r t)
