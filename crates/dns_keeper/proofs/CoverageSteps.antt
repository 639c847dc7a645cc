-- How far batches cover rows, as a state over the runs of the rows that are left goes on by a batch.
use Rattle.std.proofs.Common.{◌≡◌, ◌+ℤ◌, ◌++◌, ℤ, nat_abs, List, [], ◌∷◌, drop, reverse, Bool, true, false, Some, refl, sym, ap, subst, ◌∙◌}
use Rattle.std.proofs.lemmas.List.{reverse-append}
use Rattle.dns_keeper.specs.declared.row.Row.{Row}
use Rattle.dns_keeper.specs.declared.batch_row.BatchRow.{BatchRow}
use Rattle.dns_keeper.specs.Batches.{runs_of, is_batch, uncovered, AreNumbered}
use Rattle.dns_keeper.specs.Cutting.{Reached, is_front, cut, Reaches, Passes}
use Rattle.dns_keeper.proofs.Fronts.{front_is, cut_is}

-- a state whose runs stand in a list, the last one first
abbrev pub state_of : ℤ → List BatchRow → Reached
state_of place items = record { place = place; runs = reverse items }

module _ (state : Reached) (place : ℤ) (items front : List BatchRow) (run b : BatchRow) (fits : Bool) (rows : List Row)
    (is : state_of place items ≡ state) (parts : items ≡ front ++ run ∷ []) (test : (runs : List BatchRow) → fits ≡ is_front place (run ∷ runs) b)
    (reaches : Reaches rows state) where
  -- the run that was taken off is the first
  runs_are : state.runs ≡ run ∷ reverse front
  runs_are = ap (λ (s : Reached). s.runs) (sym is) ∙ ap reverse parts ∙ reverse-append front (run ∷ [])

  place_is : place ≡ state.place
  place_is = ap (λ (s : Reached). s.place) is

  front_fits : is_front state.place (runs_of rows) b ≡ fits
  front_fits =
      ap (λ bs. is_front state.place bs b) (sym reaches.runs ∙ runs_are) ∙ ap (λ n. is_front n (run ∷ reverse front) b) (sym place_is)
      ∙ sym (test (reverse front))

  batch_fits : is_batch state.place rows b ≡ fits
  batch_fits = front_is state.place rows b ∙ front_fits

  pub ends_here : (more : List BatchRow) → fits ≡ false → uncovered state.place rows (b ∷ more) ≡ Some state.place
  ends_here more out = let other : is_batch state.place rows b ≡ false = batch_fits ∙ out in rw other refl

  pub passes_on : (next : ℤ) (left : List BatchRow) → fits ≡ true → reverse left ≡ cut b.count (run ∷ reverse front) → next ≡ place +ℤ b.count
      → Passes rows b state (state_of next left)
  passes_on next left there is_cut behind =
      let same : is_batch state.place rows b ≡ true = batch_fits ∙ there in
      let step = cut_is state.place rows b.first b.count reaches.numbered (front_fits ∙ there) in
      let at : state.place +ℤ b.count ≡ next = ap (λ n. n +ℤ b.count) (sym place_is) ∙ sym behind in
      record {
        left = drop (nat_abs b.count) rows;
        reaches = record {
          numbered = subst (λ n. AreNumbered n (drop (nat_abs b.count) rows)) at step.numbered;
          runs = is_cut ∙ ap (cut b.count) (sym runs_are ∙ reaches.runs) ∙ sym step.runs;
        };
        same = λ more. rw (same, ← at) refl;
      }
