-- What the words find that are read off calls.
use Rattle.std.proofs.Common.{◌≡◌, ℕ, List, [], ◌∷◌, ◌++◌, Bool, true, ◌||◌, refl, ap, ◌∙◌, append-nil}
use Rattle.std.specs.List.{flat_map, list_any}
use Rattle.std.proofs.lemmas.Grind.{flat_map-append}
use Rattle.std.proofs.lemmas.List.Folds.{list_any-append}
use Rattle.dns_network.specs.Calls.{Noted}
use Rattle.dns_network.specs.Words.{found, moment_by, moment_of, no_moment, no_owing, now_by, now_of, owing_by, owing_of, Moment, Owing}
use Rattle.dns_network.specs.declared.call.Call.{Call}

-- a word goes on behind the calls that it went over
pub found_more : {S : Type 0} (step : S → Call → S) (s : S) (xs ys : List Noted) → found step s (xs ++ ys) ≡ found step (found step s xs) ys
found_more step s [] ys = refl
found_more step s (x ∷ xs) ys = found_more step (step s x.0) xs ys

pub found_one : {S : Type 0} (step : S → Call → S) (s : S) (xs : List Noted) (c : Noted) → found step s (xs ++ c ∷ []) ≡ step (found step s xs) c.0
found_one step s xs c = found_more step s xs (c ∷ [])

-- one call was such, whatever was called later
pub any_more : (f : Noted → Bool) (xs ys : List Noted) → list_any f (xs ++ ys) ≡ (list_any f xs || list_any f ys)
any_more f xs ys = list_any-append f xs ys

pub any_stays : (f : Noted → Bool) (xs ys : List Noted) → list_any f xs ≡ true → list_any f (xs ++ ys) ≡ true
any_stays f xs ys e = any_more f xs ys ∙ ap (λ (b : Bool). b || list_any f ys) e

-- what one call more moved
pub moved_one : {A : Type 0} (f : Noted → List A) (xs : List Noted) (c : Noted) → flat_map f (xs ++ c ∷ []) ≡ flat_map f xs ++ f c
moved_one f xs c = flat_map-append f xs (c ∷ []) ∙ ap (λ l. flat_map f xs ++ l) (append-nil (f c))

pub moved_none : {A : Type 0} (f : Noted → List A) (xs : List Noted) (c : Noted) → f c ≡ [] → flat_map f (xs ++ c ∷ []) ≡ flat_map f xs
moved_none f xs c e = moved_one f xs c ∙ ap (λ l. flat_map f xs ++ l) e ∙ append-nil (flat_map f xs)

-- the moment has the clock that is read alone
moment_now : (n : ℕ) (m : Moment) (xs : List Noted) → (found (moment_by n) m xs).now ≡ found now_by m.now xs
moment_now n m [] = refl
moment_now n m (x ∷ xs) = moment_now n (moment_by n m x.0) xs

pub moment_clock : (n : ℕ) (xs : List Noted) → (moment_of n xs).now ≡ now_of xs
moment_clock n xs = moment_now n no_moment xs

-- so has what is owed
owing_now : (n : ℕ) (o : Owing) (xs : List Noted) → (found (owing_by n) o xs).now ≡ found now_by o.now xs
owing_now n o [] = refl
owing_now n o (x ∷ xs) = owing_now n (owing_by n o x.0) xs

pub owing_clock : (n : ℕ) (xs : List Noted) → (owing_of n xs).now ≡ now_of xs
owing_clock n xs = owing_now n no_owing xs
