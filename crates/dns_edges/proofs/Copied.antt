-- What a read of a source in memory gives.
use Rattle.std.proofs.Common.{◌≡◌, ℕ, ◌+◌, ◌≤◌, List, ◌++◌, length, take, drop, sym, ap, ◌∙◌}
use Rattle.std.proofs.lemmas.List.{take-append-drop, take_at, drop-drop, length-take-le}

-- what was copied is the front of what was left, and what is left now is behind it
pub given : (bytes slice left new rest : List ℕ) (place count : ℕ) → slice ≡ bytes → left ≡ drop place slice → count ≤ length left → new ≡ take count left → drop place bytes ≡ take count (new ++ rest) ++ drop (place + count) bytes
given bytes slice left new rest place count same is fits copied =
    let size : length new ≡ count = ap length copied ∙ length-take-le count left fits in
    let front : take count (new ++ rest) ≡ take count left = take_at new rest count size ∙ copied in
    let whole : left ≡ drop place bytes = is ∙ ap (drop place) same in
    let back : drop count left ≡ drop (place + count) bytes = ap (drop count) whole ∙ drop-drop count place bytes in
    sym whole ∙ sym (take-append-drop count left) ∙ ap (λ (l : List ℕ). l ++ drop count left) (sym front) ∙ ap (λ (l : List ℕ). take count (new ++ rest) ++ l) back
