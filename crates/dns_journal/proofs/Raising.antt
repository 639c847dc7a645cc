-- How the current version is made of a database that was only read before.
use Rattle.std.proofs.Common.{◌≡◌, false, List, Result, Ok, Err, OnOk, OnErr, IsErr, IsTrue, inl, inr, sym, subst, ◌∙◌, arith}
use Rattle.sqlite.specs.declared.error.Error.{Error}
use Rattle.sqlite.specs.Store.{Ghosts}
use Rattle.sqlite.specs.Held.{Held, state}
use Rattle.sqlite.specs.State.{State, HasCleanDisk}
use Rattle.dns_sqlite.specs.declared.schema.Start.{Start}
use Rattle.dns_sqlite.specs.Reads.{WasAsked}
use Rattle.dns_sqlite.specs.Migration.{IsBefore, IsRaised, BecomesCurrent, RaisesVersion}
use Rattle.dns_keeper.specs.declared.batch_row.BatchRow.{BatchRow}
use Rattle.dns_journal.specs.Migrating.{AreBatchesFor, BecomesWith, Raises}

on_ok : {T E : Type 0} (r : Result T E) (P Q : Type 0) → OnOk r P → (P → Q) → OnOk r Q
on_ok (Ok x) P Q p f = f p
on_ok (Err e) P Q p f = tt

on_err : {T E A B : Type 0} (r : Result T E) (P Q : Type 0) → (A → B → OnErr r P) → (A → B → P → Q) → OnErr r (A → B → Q)
on_err (Ok x) P Q p f = tt
on_err (Err e) P Q p f = λ a b. f a b (p a b)

-- the same of a database that is the same
becomes_of : (start : Start) (batches : List BatchRow) (old mid new : State) → mid.now ≡ old.now → BecomesCurrent start batches mid new → BecomesCurrent start batches old new
becomes_of start batches old mid new same it = record { made = subst (λ d. IsRaised start batches d new.now) same it.made; sound = it.sound; is_open = it.is_open; committed = it.committed }

module _ {S : Type 0} (g : Ghosts S) (start : Start) (batches : List BatchRow) (old mid new : Held S) (alone : (state g old).in_transaction ≡ false) (asked : WasAsked g old mid) where
  -- what was only read, and then raised with the batches that come with it
  pub raises_after : (r : Result (Unit {0}) Error) → (HasCleanDisk (state g new) → IsBefore start (state g old).now → AreBatchesFor start (state g old).now batches) → RaisesVersion g start batches mid new r → Raises g start old new r
  raises_after r runs done =
      let early = λ (clean : HasCleanDisk (state g new)). let it : HasCleanDisk (state g mid) = omega (arith, done.falls, clean) in it in
      record {
        alone = done.alone;
        falls = let a = asked.falls in omega (arith, a, done.falls);
        opened = λ clean. on_ok r _ _ (done.opened clean) (λ live. (asked.kept alone (early clean) live).0);
        made = λ clean from. both r (done.opened clean) (λ same. done.made clean (subst (IsBefore start) (sym same) from)) (early clean) (λ live same it. record { batches = batches; runs = runs clean from; becomes = becomes_of start batches (state g old) (state g mid) (state g new) same it });
        kept = on_err r _ _ done.kept (λ clean live k. let late = asked.kept alone (early clean) k.0 in (late.0, k.1 ∙ late.1));
        crash = done.crash;
        left = λ clean db may. elim (done.survives.crash clean db may) [
          | inl before ↦ inl (asked.left (early clean) db before)
          | inr became ↦
              let late = asked.kept alone (early clean) became.0 in
              inr (
                late.0,
                λ from.
                    let it = became.1 (subst (IsBefore start) (sym late.1) from) in
                    record { batches = batches; runs = runs clean from; d = it.0; made = subst (λ d. IsRaised start batches d it.0) late.1 it.1; sound = it.2; is = it.3 },
              )
        ];
      }
    where
      both : (r : Result (Unit {0}) Error) → OnOk r (IsTrue (state g mid).is_open) → ((state g mid).now ≡ (state g old).now → OnOk r (BecomesCurrent start batches (state g mid) (state g new))) → HasCleanDisk (state g mid)
          → (IsTrue (state g mid).is_open → (state g mid).now ≡ (state g old).now → BecomesCurrent start batches (state g mid) (state g new) → BecomesWith start (state g old) (state g new)) → OnOk r (BecomesWith start (state g old) (state g new))
      both (Ok x) live made clean f = let late = asked.kept alone clean live in f live late.1 (made late.1)
      both (Err e) live made clean f = tt

  -- what could not be read was not raised
  pub raises_not : (e : Error) (r : Result (Unit {0}) Error) → IsErr r → Raises g start old mid r
  raises_not e (Ok x) bad = absurd (cc)
  raises_not e (Err f) bad = record {
    alone = asked.alone alone;
    falls = asked.falls;
    opened = λ _. tt;
    made = λ _ _. tt;
    kept = asked.kept alone;
    crash = λ _. tt;
    left = λ clean db may. inl (asked.left clean db may);
  }
