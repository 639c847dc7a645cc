-- The lines of batches, written one after another.
use Rattle.std.proofs.Common.{◌≡◌, ℕ, ◌+◌, ◌<◌, List, [], ◌∷◌, ◌++◌, length, take, drop, get_or, sym, ap, ◌∙◌}
use Rattle.std.proofs.lemmas.List.{take_more, append-nil, take-append-drop}
use Rattle.std.proofs.lemmas.Grind.{flat_map-append}
use Rattle.dns_store.specs.declared.listing.ListedBatch.{ListedBatch}
use Rattle.dns_audit.specs.Lines.{batch_line, batch_lines}

-- one more
pub lines_more : (i : ℕ) (batches : List ListedBatch) (d : ListedBatch) → i < length batches → batch_lines (take (i + 1) batches) ≡ batch_lines (take i batches) ++ batch_line (get_or batches i d)
lines_more i batches d inside =
    ap batch_lines (take_more batches i d inside) ∙ flat_map-append batch_line (take i batches) (get_or batches i d ∷ [])
    ∙ ap (λ (l : List ℕ). batch_lines (take i batches) ++ l) (append-nil (batch_line (get_or batches i d)))

-- all lines: those of the batches before one, its own, and those of the batches behind it
pub lines_round : (i : ℕ) (batches : List ListedBatch) (d : ListedBatch) → i < length batches
    → batch_lines batches ≡ (batch_lines (take i batches) ++ batch_line (get_or batches i d)) ++ batch_lines (drop (i + 1) batches)
lines_round i batches d inside =
    ap batch_lines (sym (take-append-drop (i + 1) batches)) ∙ flat_map-append batch_line (take (i + 1) batches) (drop (i + 1) batches)
    ∙ ap (λ (l : List ℕ). l ++ batch_lines (drop (i + 1) batches)) (lines_more i batches d inside)
