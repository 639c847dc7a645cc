-- The test is exact.
use Rattle.std.proofs.Common.{◌≡◌, ◌<◌, ◌^◌, ℕ, List, [], ◌∷◌, ◌++◌, length, map, refl, Bool, true, false, Option, Some, None, ◌↔◌}
use Rattle.std.proofs.lemmas.Bool.{and_parts, and_from, ltb-true, lt-ltb, leb-true, le-leb, not-true, not_from_false, false_from_ne_true}
use Rattle.std.specs.List.{flat_map, AllByRecursion}
use Rattle.dns_server_core.specs.declared.event.Event.{Event}
use Rattle.dns_server_core.specs.declared.event.Event.TheVariants.{Accepted, Bytes, Ended, Datagram, Tick, Stop}
use Rattle.dns_server_core.specs.Events.{moment, number_in, last_number, is_stop}
use Rattle.dns_server_core.specs.Valid.{Valid, Fits, NeverFalls, IsAbove, Rises, StopIsLast}
use Rattle.dns_server_core.specs.Connections.{Kept}
use Rattle.dns_server_core.specs.ValidTest.{fits, is_above, are_above, is_next, are_valid}

Fits-from : (e : Event) → fits e ≡ true → Fits e
Fits-from (Accepted at conn peer limit) h = let p = and_parts _ _ h in (ltb-true _ _ p.0, ltb-true _ _ p.1)
Fits-from (Bytes at conn piece) h = let p = and_parts _ _ h in (ltb-true _ _ p.0, leb-true _ _ p.1)
Fits-from (Ended at conn) h = ltb-true _ _ h
Fits-from (Datagram at peer bytes) h = let p = and_parts _ _ h in (ltb-true _ _ p.0, leb-true _ _ p.1)
Fits-from (Tick at) h = ltb-true _ _ h
Fits-from (Stop at) h = ltb-true _ _ h

fits-from : (e : Event) → Fits e → fits e ≡ true
fits-from (Accepted at conn peer limit) h = and_from _ _ (lt-ltb _ _ h.0) (lt-ltb _ _ h.1)
fits-from (Bytes at conn piece) h = and_from _ _ (lt-ltb _ _ h.0) (le-leb _ _ h.1)
fits-from (Ended at conn) h = lt-ltb _ _ h
fits-from (Datagram at peer bytes) h = and_from _ _ (lt-ltb _ _ h.0) (le-leb _ _ h.1)
fits-from (Tick at) h = lt-ltb _ _ h
fits-from (Stop at) h = lt-ltb _ _ h

above : (g : Option ℕ) (n : ℕ) → is_above g n ≡ true → IsAbove g n
above None n h = tt
above (Some g) n h = ltb-true g n h

above-from : (g : Option ℕ) (n : ℕ) → IsAbove g n → is_above g n ≡ true
above-from None n h = refl
above-from (Some g) n h = lt-ltb g n h

rises : (g : Option ℕ) (ns ms : List ℕ) → are_above g ns ≡ true → Rises (last_number g ns) ms → Rises g (ns ++ ms)
rises g [] ms h r = r
rises g (n ∷ ns) ms h r = let p = and_parts _ _ h in (above g n p.0, rises (Some n) ns ms p.1 r)

rises-parts : (g : Option ℕ) (ns ms : List ℕ) → Rises g (ns ++ ms) → (are_above g ns ≡ true) × Rises (last_number g ns) ms
rises-parts g [] ms r = (refl, r)
rises-parts g (n ∷ ns) ms r = let p = rises-parts (Some n) ns ms r.1 in (and_from _ _ (above-from g n r.0) p.0, p.1)

-- what the test says of a list behind a last moment and a greatest number
pub record IsGood (last : ℕ) (greatest : Option ℕ) (stopped : Bool) (events : List Event) : Type 0 where
  pub fit : AllByRecursion Fits events
  pub moments : NeverFalls last (map moment events)
  pub numbers : Rises greatest (flat_map number_in events)
  pub stop : StopIsLast events
  pub over : stopped ≡ true → events ≡ []

pub good : (last : ℕ) (greatest : Option ℕ) (stopped : Bool) (events : List Event) → are_valid last greatest stopped events ≡ true → IsGood last greatest stopped events
unfolding is_next
good last greatest stopped [] h = record { fit = tt; moments = tt; numbers = tt; stop = tt; over = λ s. refl }
good last greatest stopped (e ∷ es) h =
    let p = and_parts _ _ h in
    let q = and_parts _ _ p.0 in
    let r = and_parts _ _ q.1 in
    let s = and_parts _ _ r.1 in
    let g = good (moment e) (last_number greatest (number_in e)) (is_stop e) es p.1 in
    record {
      fit = (Fits-from e r.0, g.fit);
      moments = (leb-true _ _ s.0, g.moments);
      numbers = rises greatest (number_in e) (flat_map number_in es) s.1 g.numbers;
      stop = (g.over, g.stop);
      over = λ t. absurd (let n = not-true stopped q.0 in cc);
    }

pub good-from : (last : ℕ) (greatest : Option ℕ) (stopped : Bool) (events : List Event) → IsGood last greatest stopped events → are_valid last greatest stopped events ≡ true
unfolding is_next
good-from last greatest stopped [] h = refl
good-from last greatest stopped (e ∷ es) h =
    let p = rises-parts greatest (number_in e) (flat_map number_in es) h.numbers in
    and_from _ _
    (and_from _ _ (not_from_false stopped (false_from_ne_true stopped (λ t. absurd (let n = h.over t in cc))))
    (and_from _ _ (fits-from e h.fit.0) (and_from _ _ (le-leb _ _ h.moments.0) p.0)))
    (good-from (moment e) (last_number greatest (number_in e)) (is_stop e) es (record { fit = h.fit.1; moments = h.moments.1; numbers = p.1; stop = h.stop.1; over = h.stop.0 }))

pub valid-is : (kept : Kept) (events : List Event) → length events < 2 ^ 32 → (are_valid kept.last kept.greatest false events ≡ true) ↔ Valid kept events
valid-is kept events few = (
  λ h. let g = good kept.last kept.greatest false events h in record { few = few; fit = g.fit; moments = g.moments; numbers = g.numbers; stop = g.stop },
  λ v. good-from kept.last kept.greatest false events (record { fit = v.fit; moments = v.moments; numbers = v.numbers; stop = v.stop; over = λ t. absurd cc }),
)
