use Rattle.std.proofs.Common.{◌≡◌, ◌≤◌, ◌<◌, ◌+◌, ℕ, List, [], ◌∷◌, map, drop, length, get_or, true, false, ◌||◌, if◌then◌else◌, Some, None, is_some, refl, sym, ap, ◌∙◌, arith}
use Rattle.std.specs.List.{list_any}
use Rattle.std.specs.Str.{bytes_eq}
use Rattle.std.proofs.lemmas.List.{drop_more, drop_all, length-map}
use Rattle.dns_counts.specs.Counters.{count_at}
use Rattle.dns_counts.proofs.labels.count_of_label.Goals as goal

-- a label that is not the one sought is passed over
past-other : {X : Type 0} (text : X → List ℕ) (labels : List X) (counts : List ℕ) (label : List ℕ) (i : ℕ) (d : X)
    → i < length labels → length labels ≤ length counts → bytes_eq label (text (get_or labels i d)) ≡ false
    → count_at (map text (drop i labels)) (drop i counts) label ≡ count_at (map text (drop (i + 1) labels)) (drop (i + 1) counts) label
past-other text labels counts label i d within room other =
    let shorter : i < length counts = omega arith in
    rw (drop_more labels i d within, drop_more counts i 0 shorter, other)

-- a label that is the one sought has its count
found-here : {X : Type 0} (text : X → List ℕ) (labels : List X) (counts : List ℕ) (label : List ℕ) (i : ℕ) (d : X)
    → i < length labels → length labels ≤ length counts → bytes_eq label (text (get_or labels i d)) ≡ true
    → count_at (map text (drop i labels)) (drop i counts) label ≡ Some (get_or counts i 0)
found-here text labels counts label i d within room same =
    let shorter : i < length counts = omega arith in
    rw (drop_more labels i d within, drop_more counts i 0 shorter, same) refl

-- past the last label none is found
none-past : {X : Type 0} (text : X → List ℕ) (labels : List X) (counts : List ℕ) (label : List ℕ) (i : ℕ)
    → length labels ≤ i → count_at (map text (drop i labels)) (drop i counts) label ≡ None
none-past text labels counts label i past = rw (drop_all i labels past) refl

-- a label has a count where it is one of the labels
found-among : (labels : List (List ℕ)) (counts : List ℕ) (label : List ℕ) → length labels ≤ length counts
    → is_some (count_at labels counts label) ≡ list_any (λ known. bytes_eq label known) labels
found-among [] counts label room = refl
found-among (known ∷ labels) [] label room = absurd (omega arith)
found-among (known ∷ labels) (count ∷ counts) label room =
    elim (bytes_eq label known) as (λ b. is_some (if b then Some count else count_at labels counts label) ≡ (b || list_any (λ other. bytes_eq label other) labels))
    [ true ↦ refl | false ↦ found-among labels counts label (omega arith) ]

-- so it is for the texts of labels
found-texts : {X : Type 0} (text : X → List ℕ) (labels : List X) (counts : List ℕ) (label : List ℕ) → length labels ≤ length counts
    → is_some (count_at (map text labels) counts label) ≡ list_any (λ known. bytes_eq label known) (map text labels)
found-texts text labels counts label room = found-among (map text labels) counts label (omega (arith, length-map labels text))

pub returns-then-eq-clause-found : goal.returns-then-eq-clause-found
returns-then-eq-clause-found c =
    ap is_some (sym (found-here (λ known. known.now) c.args.labels.now c.args.counts.now c.args.label.now c.loop-place.place _ c.loop-place-test.true c.requires (sym c.if-eq.ensures)) ∙ c.loop-place.invariant)
    ∙ found-texts (λ known. known.now) c.args.labels.now c.args.counts.now c.args.label.now c.requires

pub returns-clause-found : goal.returns-clause-found
returns-clause-found c =
    ap is_some (sym (none-past (λ known. known.now) c.args.labels.now c.args.counts.now c.args.label.now c.loop-place.place (omega (arith, c.loop-place-test.false))) ∙ c.loop-place.invariant)
    ∙ found-texts (λ known. known.now) c.args.labels.now c.args.counts.now c.args.label.now c.requires

pub loop-place-preserved : goal.loop-place-preserved
loop-place-preserved c =
    sym (past-other (λ known. known.now) c.args.labels.now c.args.counts.now c.args.label.now c.loop-place.place _ c.loop-place-test.true c.requires (sym c.if-eq.ensures))
    ∙ c.loop-place.invariant
