-- The call that shows a cause.
use Rattle.std.proofs.Common.{◌≡◌, ◌<◌, ℕ, List, [], ◌∷◌, ◌++◌, length, Bool, true, false, ◌||◌, Result, Ok, Err, refl, ap, ◌∙◌}
use Rattle.std.specs.List.{list_any}
use Rattle.std.proofs.lemmas.Bool.{eq-eqb, lt-ltb}
use Rattle.dns_network.specs.Calls.{Noted, ceased, looked, read, shut, watched, wrote}
use Rattle.dns_network.specs.Words.{IsLookedSince, HasWork, has_ceased, has_ended, has_gone, worked_by, is_stopped, is_unwatched, looked_by, stopped_by, unwatched_by, was_shut}
use Rattle.dns_network.specs.declared.call.Watch.{Watch}
use Rattle.dns_network.specs.declared.refused.Refused.{Refused}
use Rattle.dns_network.specs.declared.refused.Refused.TheVariants as refusal
use Rattle.dns_network.proofs.Words.{any_more, found_one}

or_true : (b : Bool) → (b || true) ≡ true
or_true true = refl
or_true false = refl

-- the last call was such
any_last : (f : Noted → Bool) (xs : List Noted) (c : Noted) → f c ≡ true → list_any f (xs ++ c ∷ []) ≡ true
any_last f xs c e = any_more f xs (c ∷ []) ∙ ap (λ (b : Bool). list_any f xs || (b || false)) e ∙ or_true (list_any f xs)

pub ended : (n : ℕ) (xs : List Noted) (room : List ℕ) → 0 < length room → has_ended n (xs ++ read n room (Ok 0) ∷ []) ≡ true
ended n xs room h = any_last _ xs (read n room (Ok 0)) (rw (eq-eqb n n refl, lt-ltb 0 (length room) h) refl)

pub gone_read : (n : ℕ) (xs : List Noted) (room : List ℕ) → has_gone n (xs ++ read n room (Err refusal.Gone) ∷ []) ≡ true
gone_read n xs room = any_last _ xs (read n room (Err refusal.Gone)) (rw (eq-eqb n n refl) refl)

pub gone_written : (n : ℕ) (xs : List Noted) (bytes : List ℕ) → has_gone n (xs ++ wrote n bytes (Err refusal.Gone) ∷ []) ≡ true
gone_written n xs bytes = any_last _ xs (wrote n bytes (Err refusal.Gone)) (rw (eq-eqb n n refl) refl)

pub nothing_taken : (n : ℕ) (xs : List Noted) (bytes : List ℕ) → 0 < length bytes → has_gone n (xs ++ wrote n bytes (Ok 0) ∷ []) ≡ true
nothing_taken n xs bytes h = any_last _ xs (wrote n bytes (Ok 0)) (rw (eq-eqb n n refl, lt-ltb 0 (length bytes) h) refl)

pub unwatched : (n : ℕ) (xs : List Noted) (what : Watch) (refused : Refused) → is_unwatched n (xs ++ watched n what (Err refused) ∷ []) ≡ true
unwatched n xs what refused = found_one (unwatched_by n) false xs (watched n what (Err refused)) ∙ rw (eq-eqb n n refl) refl

pub was_shut_now : (n : ℕ) (xs : List Noted) (given : Result (Unit {0}) Refused) → was_shut n (xs ++ shut n given ∷ []) ≡ true
was_shut_now n xs given = any_last _ xs (shut n given) (rw (eq-eqb n n refl) refl)

pub ceased_now : (xs : List Noted) → has_ceased (xs ++ ceased ∷ []) ≡ true
ceased_now xs = any_last _ xs ceased refl

pub stopped : (xs : List Noted) → is_stopped (xs ++ looked true ∷ []) ≡ true
stopped xs = found_one stopped_by false xs (looked true)

-- the same as they stand behind calls: what was called before, what was then, and a call's number and answer
pub looked_behind : (before after : List Noted) (is_stopped : Bool) → after ≡ before ++ looked is_stopped ∷ [] → IsLookedSince after
looked_behind before after b e = rw e (found_one looked_by false before (looked b))

pub stopped_behind : (before after : List Noted) (b : Bool) → after ≡ before ++ looked b ∷ [] → b ≡ true → is_stopped after ≡ true
stopped_behind before after b e s = rw (e, s) (stopped before)

pub ended_behind : (before after : List Noted) (n m : ℕ) (room : List ℕ) (given : Result ℕ Refused) → after ≡ before ++ read n room given ∷ [] → given ≡ Ok 0 → m ≡ n → 0 < length room
    → has_ended m after ≡ true
ended_behind before after n m room given e g s h = rw (e, g, s) (ended n before room h)

pub gone_behind : (before after : List Noted) (n m : ℕ) (room : List ℕ) (given : Result ℕ Refused) → after ≡ before ++ read n room given ∷ [] → given ≡ Err refusal.Gone → m ≡ n
    → has_gone m after ≡ true
gone_behind before after n m room given e g s = rw (e, g, s) (gone_read n before room)

-- a look is no wait
pub worked_behind : (before after : List Noted) (b : Bool) → after ≡ before ++ looked b ∷ [] → HasWork before → HasWork after
worked_behind before after b e w = rw e (found_one worked_by false before (looked b) ∙ w)
