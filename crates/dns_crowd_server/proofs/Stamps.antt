-- What was settled at one moment was settled at some moment, whatever moment it was asked with.
use Rattle.std.proofs.Common.{◌≡◌, ◌<◌, ◌^◌, ◌∙◌, ℕ, List, [], ◌∷◌, ◌++◌, map, Result, Ok, Err, OnOk, OnErr, refl, sym, ap, subst}
use Rattle.std.specs.List.{AllByRecursion}
use Rattle.dns_book.specs.declared.ask.Ask.{Ask}
use Rattle.dns_book.specs.declared.ask.Settled.{Settled}
use Rattle.dns_server_core.specs.FrameRuns.{Adds, Halts, Run, first_asks, first_messages}
use Rattle.dns_crowd_server.specs.Stamps.{AtSomeMoment}
use Rattle.dns_crowd_server.proofs.AllPasses.{both_all}

-- the same messages, asked with another moment
abbrev retimed : ℕ → List Ask → List Ask
retimed at asks = map (λ (a : Ask). record a { at = at }) asks

retimed_both : (at : ℕ) (xs ys : List Ask) → retimed at (xs ++ ys) ≡ retimed at xs ++ retimed at ys
retimed_both at [] ys = refl
retimed_both at (x ∷ xs) ys = ap (λ (l : List Ask). record x { at = at } ∷ l) (retimed_both at xs ys)

-- those of a stream
asks_retimed : (ask : Ask) (t : ℕ) (messages : List (List ℕ))
    → retimed ask.at (map (λ (m : List ℕ). record ask { bytes = m; at = t }) messages) ≡ map (λ (m : List ℕ). record ask { bytes = m }) messages
asks_retimed ask t [] = refl
asks_retimed ask t (m ∷ messages) = ap (λ (l : List Ask). record ask { bytes = m } ∷ l) (asks_retimed ask t messages)

-- each of them has a moment
abbrev HasMoment : Ask → Type 0
HasMoment ask = ask.at < 2 ^ 47

all_timed : (ask : Ask) → ask.at < 2 ^ 47 → (messages : List (List ℕ)) → AllByRecursion HasMoment (map (λ (m : List ℕ). record ask { bytes = m }) messages)
all_timed ask small [] = tt
all_timed ask small (m ∷ messages) = (small, all_timed ask small messages)

-- the meaning of a handler
module _ {H : Type 0} (serves : H → Ask → Settled → H → Type 0) where
  run_retimed : (at : ℕ) (before : H) (asks : List Ask) (bytes : List ℕ) (after : H) → AllByRecursion HasMoment asks
      → Run serves before asks bytes after → Run (AtSomeMoment serves) before (retimed at asks) bytes after
  run_retimed at before [] bytes after timed run = run
  run_retimed at before (a ∷ asks) bytes after timed run =
      (run.0, run.1, run.2, (a.at, timed.0, run.3), run.4, run_retimed at run.1 asks run.2 after timed.1 run.5)

  -- all of a stream
  pub adds_at : (before : H) (ask asked : Ask) (at most : ℕ) (after : H) (old new : List ℕ) → asked ≡ record ask { at = at } → at < 2 ^ 47
      → Adds serves before (first_asks asked most asked.bytes) after old new → Adds (AtSomeMoment serves) before (first_asks ask most ask.bytes) after old new
  adds_at before ask asked at most after old new is small a =
      let given : Adds serves before (first_asks (record ask { at = at }) most ask.bytes) after old new =
      subst (λ (b : Ask). Adds serves before (first_asks b most b.bytes) after old new) is a in
      record {
        bytes = given.bytes;
        run = subst (λ (asks : List Ask). Run (AtSomeMoment serves) before asks given.bytes after) (asks_retimed ask at (first_messages most ask.bytes))
            (run_retimed ask.at before (first_asks (record ask { at = at }) most ask.bytes) given.bytes after
            (all_timed (record ask { at = at }) small (first_messages most ask.bytes)) given.run);
        added = given.added;
      }

  -- or the first of them
  pub halts_at : (skips : H → H → Type 0) (before : H) (ask asked : Ask) (at most : ℕ) (after : H) (old new : List ℕ) → asked ≡ record ask { at = at } → at < 2 ^ 47
      → Halts serves skips before (first_asks asked most asked.bytes) after old new → Halts (AtSomeMoment serves) skips before (first_asks ask most ask.bytes) after old new
  halts_at skips before ask asked at most after old new is small h =
      let given : Halts serves skips before (first_asks (record ask { at = at }) most ask.bytes) after old new =
      subst (λ (b : Ask). Halts serves skips before (first_asks b most b.bytes) after old new) is h in
      let timed = subst (AllByRecursion HasMoment) given.parts (all_timed (record ask { at = at }) small (first_messages most ask.bytes)) in
      record {
        first = retimed ask.at given.first;
        others = retimed ask.at given.others;
        parts = sym (asks_retimed ask at (first_messages most ask.bytes)) ∙ ap (retimed ask.at) given.parts ∙ retimed_both ask.at given.first given.others;
        last = given.last;
        bytes = given.bytes;
        run = run_retimed ask.at before given.first given.bytes given.last (both_all HasMoment given.first given.others timed).0 given.run;
        added = given.added;
        end = given.end;
      }

-- what follows from an answer of a call follows from it
pub on_ok : {A E P Q : Type 0} (r : Result A E) → (P → Q) → OnOk r P → OnOk r Q
on_ok (Ok a) f p = f p
on_ok (Err e) f p = p

pub on_err : {A E P Q : Type 0} (r : Result A E) → (P → Q) → OnErr r P → OnErr r Q
on_err (Ok a) f p = p
on_err (Err e) f p = f p
