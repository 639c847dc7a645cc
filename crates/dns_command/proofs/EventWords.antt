-- The first word of a line, up to its first space.
use Rattle.std.proofs.Common.{◌≡◌, ◌==◌, ℕ, ◌+◌, ◌<◌, List, [], ◌∷◌, length, take, drop, Some, None, Bool, true, false, cond, not, nat_lt, if◌then◌else◌, position, codes, refl, arith}
use Rattle.std.specs.List.{position_or_len, onto_first}
use Rattle.std.specs.Str.{bytes_eq}
use Rattle.std.proofs.lemmas.Bool.{not-true, ltb-false}
use Rattle.std.proofs.lemmas.Bool.Decides.{Decides-ltb}
use Rattle.std.proofs.lemmas.Option.{cond_some}
use Rattle.std.proofs.lemmas.List.Elements.{All-from_get_or}
use Rattle.std.proofs.lemmas.List.Splits.{slice_split_first, slice_split_none}
use Rattle.std.proofs.lemmas.List.Sums.{prefix_len_passes}
use Rattle.dns_command.specs.EventText.{words_in, datagram_of, piece_of, accepted_of, end_of, tick_of, stop_of, plain_of, event_of}

-- the byte that parts words
abbrev is_space : ℕ → Bool
is_space b = b == 32

-- a line with a space is a word, and the words behind the space
pub words_in-split : (line : List ℕ) (place : ℕ) → position is_space line ≡ Some place → words_in line ≡ take place line ∷ words_in (drop (place + 1) line)
words_in-split line place found =
    let at = cond_some _ _ _ found in
    let inside : position_or_len is_space line < length line = (Decides-ltb _ _).0 at.0 in
    rw (at.1) at (slice_split_first is_space line 0 inside)

-- a place that isn't told isn't inside
none_inside : (inside : Bool) (place : ℕ) → (if inside then Some place else None) ≡ None → inside ≡ false
none_inside true place none = cc
none_inside false place none = refl

-- a line without a space is one word
pub words_in-whole : (line : List ℕ) → position is_space line ≡ None → words_in line ≡ line ∷ []
words_in-whole line none =
    let past = none_inside (nat_lt (position_or_len is_space line) (length line)) _ none in
    slice_split_none is_space line (All-from_get_or (λ b. is_space b ≡ false) line 0 (λ i h. not-true _ (prefix_len_passes (λ b. not (is_space b)) line i 0 (omega (arith, ltb-false _ _ past, h)))))

-- parts that go on with one byte more are some
onto_some : (test : Bool) (b : ℕ) (parts : List (List ℕ)) → (word : List ℕ) × (words : List (List ℕ)) × (cond test ([] ∷ parts) (onto_first b parts) ≡ word ∷ words)
onto_some true b parts = ([], parts, refl)
onto_some false b [] = (b ∷ [], [], refl)
onto_some false b (part ∷ parts) = (b ∷ part, parts, refl)

-- each line has a word
words_in-some : (line : List ℕ) → (word : List ℕ) × (words : List (List ℕ)) × (words_in line ≡ word ∷ words)
words_in-some [] = ([], [], refl)
words_in-some (b ∷ bs) = onto_some (is_space b) b (words_in bs)

-- a word behind the last one is no part of an event
pub no_datagram : (at ip port hex line : List ℕ) → datagram_of (at ∷ ip ∷ port ∷ hex ∷ words_in line) ≡ None
unfolding datagram_of
no_datagram at ip port hex line = let some = words_in-some line in rw (some.2) refl

pub no_piece : (at conn hex line : List ℕ) → piece_of (at ∷ conn ∷ hex ∷ words_in line) ≡ None
unfolding piece_of
no_piece at conn hex line = let some = words_in-some line in rw (some.2) refl

pub no_accepted : (at conn ip port limit line : List ℕ) → accepted_of (at ∷ conn ∷ ip ∷ port ∷ limit ∷ words_in line) ≡ None
unfolding accepted_of
no_accepted at conn ip port limit line = let some = words_in-some line in rw (some.2) refl

pub no_end : (at conn line : List ℕ) → end_of (at ∷ conn ∷ words_in line) ≡ None
unfolding end_of
no_end at conn line = let some = words_in-some line in rw (some.2) refl

pub no_tick : (at line : List ℕ) → tick_of (at ∷ words_in line) ≡ None
unfolding tick_of
no_tick at line = let some = words_in-some line in rw (some.2) refl

pub no_stop : (at line : List ℕ) → stop_of (at ∷ words_in line) ≡ None
unfolding stop_of
no_stop at line = let some = words_in-some line in rw (some.2) refl

-- the words behind a letter are some
pub event_behind : (letter line : List ℕ) → event_of (letter ∷ words_in line) ≡ (if bytes_eq letter (codes "D") then datagram_of (words_in line)
    else if bytes_eq letter (codes "B") then piece_of (words_in line) else plain_of letter (words_in line))
unfolding event_of
event_behind letter line = let some = words_in-some line in rw (some.2) refl
