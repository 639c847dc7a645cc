-- Lines that are written one after another.
use Rattle.std.proofs.Common.{◌≡◌, ℕ, ◌+◌, ◌%◌, ◌<◌, List, [], ◌∷◌, ◌++◌, length, take, drop, get_or, sym, ap, ◌∙◌, append_assoc, append-nil, arith}
use Rattle.std.proofs.lemmas.List.{take-append-drop, take_more, length-take-le}
use Rattle.dns_update_client.specs.Lines.{code_line, code_lines}

-- the lines of codes, and then of others
pub code_lines-append : (id : ℕ) (xs ys : List ℕ) → code_lines id (xs ++ ys) ≡ code_lines id xs ++ code_lines (id + length xs) ys
code_lines-append id [] ys = ap (λ (n : ℕ). code_lines n ys) (omega arith)
code_lines-append id (x ∷ xs) ys =
    let behind : code_lines (id + 1) (xs ++ ys) ≡ code_lines (id + 1) xs ++ code_lines (id + 1 + length xs) ys = code_lines-append (id + 1) xs ys in
    let place : id + 1 + length xs ≡ id + length (x ∷ xs) = omega arith in
    ap (λ (more : List ℕ). code_line (id % 65536) x ++ more) (behind ∙ ap (λ (n : ℕ). code_lines (id + 1) xs ++ code_lines n ys) place)
    ∙ sym (append_assoc (code_line (id % 65536) x) (code_lines (id + 1) xs) (code_lines (id + length (x ∷ xs)) ys))

-- the lines of the codes up to one more, whose id is this one
pub lines_more : (id i n : ℕ) (codes : List ℕ) → i < length codes → n ≡ (id + i) % 65536 → code_lines id (take (i + 1) codes) ≡ code_lines id (take i codes) ++ code_line n (get_or codes i 0)
lines_more id i n codes h is =
    let size : length (take i codes) ≡ i = length-take-le i codes (omega arith) in
    ap (code_lines id) (take_more codes i 0 h) ∙ code_lines-append id (take i codes) (get_or codes i 0 ∷ [])
    ∙ ap (λ (xs : List ℕ). code_lines id (take i codes) ++ xs) (append-nil (code_line ((id + length (take i codes)) % 65536) (get_or codes i 0))
    ∙ ap (λ (k : ℕ). code_line ((id + k) % 65536) (get_or codes i 0)) size ∙ ap (λ (k : ℕ). code_line k (get_or codes i 0)) (sym is))

-- all lines: those of the codes before one, its own, and those of the codes behind it
pub lines_round : (id i n : ℕ) (codes : List ℕ) → i < length codes → n ≡ (id + i) % 65536
    → code_lines id codes ≡ (code_lines id (take i codes) ++ code_line n (get_or codes i 0)) ++ code_lines (id + length (take (i + 1) codes)) (drop (i + 1) codes)
lines_round id i n codes h is =
    ap (code_lines id) (sym (take-append-drop (i + 1) codes)) ∙ code_lines-append id (take (i + 1) codes) (drop (i + 1) codes)
    ∙ ap (λ (xs : List ℕ). xs ++ code_lines (id + length (take (i + 1) codes)) (drop (i + 1) codes)) (lines_more id i n codes h is)
