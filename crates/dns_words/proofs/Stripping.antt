-- A key at the beginning of a word.
use Rattle.std.proofs.Common.{◌≡◌, ℕ, List, ◌++◌, length, take, drop, Option, Some, None, Bool, true, false, if◌then◌else◌, MatchOption, Bor, refl, sym, ap, ◌∙◌}
use Rattle.std.specs.Option.{option_map}
use Rattle.std.specs.Str.{bytes_eq}
use Rattle.std.specs.Str.Pattern.{FindsTextPrefix, LacksTextAt, StripsPrefix}
use Rattle.std.proofs.Math.Seq.{take-append_seam}
use Rattle.std.proofs.lemmas.List.{take-append-drop}
use Rattle.std.proofs.lemmas.Slice.Eq.{bytes_eq-Decides}
use Rattle.dns_words.specs.Keys.{behind}

-- a word that is a key and a rest has that rest behind the key
behind-stripped : (key word rest : List ℕ) (n : ℕ) → n ≡ length key → word ≡ key ++ drop n word → rest ≡ drop n word → behind key word ≡ Some rest
behind-stripped key word rest n size split is =
    let front : take (length key) word ≡ key = ap (take (length key)) split ∙ take-append_seam key (drop n word) in
    let test : bytes_eq (take (length key) word) key ≡ true = (bytes_eq-Decides _ _).1 front in
    rw test (ap Some (ap (λ (k : ℕ). drop k word) (sym size) ∙ sym is))

-- a choice whose test can't hold
never : {A : Type 0} (test : Bool) (some : A) → (test ≡ true → ⊥) → (if test then Some some else None) ≡ None
never true some fails = absurd (fails refl)
never false some fails = refl

-- a word that doesn't begin with the key has nothing behind it
behind-lacking : (key word : List ℕ) → LacksTextAt key word 0 → behind key word ≡ None
behind-lacking key word lacks =
    never _ _ (λ test. lacks (drop (length key) word) (sym (take-append-drop (length key) word) ∙ ap (λ (front : List ℕ). front ++ drop (length key) word) ((bytes_eq-Decides _ _).0 test)))

-- what stripping a key answers is what follows it
pub behind-answer : (key word : List ℕ) (answer : Option (Bor (List ℕ)))
    → MatchOption answer (FindsTextPrefix key word None) (λ rest. StripsPrefix (FindsTextPrefix key) word rest.now)
    → option_map (λ (rest : Bor (List ℕ)). rest.now) answer ≡ behind key word
behind-answer key word None lacks = sym (behind-lacking key word lacks)
behind-answer key word (Some rest) strips =
    sym (behind-stripped key word rest.now strips.0 strips.1.0 strips.1.1 strips.2)
