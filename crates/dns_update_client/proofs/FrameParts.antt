-- Bytes begin with one frame at most.
use Rattle.std.proofs.Common.{◌≡◌, ℕ, ◌+◌, ◌*◌, ◌/◌, ◌%◌, ◌≤◌, List, ◌++◌, length, get_or, take, drop, refl, sym, ap, ◌∙◌, arith, length-append}
use Rattle.std.proofs.lemmas.List.{take_at, drop_at}
use Rattle.dns_update_client.specs.Framed.{frame, IsUnfinished}

pub said : (n : ℕ) → n ≤ 65535 → n / 256 % 256 * 256 + n % 256 ≡ n
said n short = omega (arith, short)

same-length : (m n : ℕ) → m ≤ 65535 → n ≤ 65535 → m / 256 % 256 ≡ n / 256 % 256 → m % 256 ≡ n % 256 → m ≡ n
same-length m n short other high low = omega (arith, short, other, high, low)

same-parts : (message more bytes rest : List ℕ) → length message ≡ length bytes → message ++ more ≡ bytes ++ rest → (message ≡ bytes) × (more ≡ rest)
same-parts message more bytes rest size same = (
  sym (take_at message more (length bytes) size) ∙ ap (take (length bytes)) same ∙ take_at bytes rest (length bytes) refl,
  sym (drop_at message more (length bytes) size) ∙ ap (drop (length bytes)) same ∙ drop_at bytes rest (length bytes) refl,
)

-- two frames at the front are one, and so is what stands behind them
pub same-frame : (message more bytes rest : List ℕ) → length message ≤ 65535 → length bytes ≤ 65535 → frame message ++ more ≡ frame bytes ++ rest → (message ≡ bytes) × (more ≡ rest)
unfolding frame
same-frame message more bytes rest short other is =
    let high : length message / 256 % 256 ≡ length bytes / 256 % 256 = ap (λ (l : List ℕ). get_or l 0 0) is in
    let low : length message % 256 ≡ length bytes % 256 = ap (λ (l : List ℕ). get_or l 1 0) is in
    let behind : message ++ more ≡ bytes ++ rest = ap (drop 2) is in
    same-parts message more bytes rest (same-length (length message) (length bytes) short other high low) behind

whole : (message more : List ℕ) → length message ≤ 65535 → IsUnfinished (frame message ++ more) → ⊥
unfolding frame
whole message more short unfinished = absurd (omega (arith, unfinished, said (length message) short, length-append message more))

-- bytes that begin with a frame are not unfinished
pub not-unfinished : (message more got : List ℕ) → length message ≤ 65535 → frame message ++ more ≡ got → IsUnfinished got → ⊥
not-unfinished message more got short is unfinished = whole message more short (rw is unfinished)
