use Rattle.std.proofs.Common.{◌⊎◌, arith, inl, inr, sym, subst}
use Rattle.sqlite.specs.Held.{state}
use Rattle.sqlite.specs.State.{HasCleanDisk}
use Rattle.dns_journal.specs.Crash.{LeftRaised, LeavesTrees}
use Rattle.dns_journal.proofs.Opening.{before, runs_for, raised_journal, tells_journal, ready_raised, fits_raised, ready_kept, fits_kept}
use Rattle.dns_journal.proofs.Pages.{holds_none}
use Rattle.dns_journal.proofs.BatchPages.{holds_no_batch}
use Rattle.dns_journal.proofs.journal.Journal.schema_up.Goals as goal

pub invariant_of-self : goal.invariant_of-self
invariant_of-self g c =
    let old = state g.S.Store c.self.inside.conn in
    let new = state g.S.Store c.raise.new.conn in
    let done = c.in-Ok.ensures.done in
    let start = rw (← c.self.view_is) at c.in-Some.ensures.start in
    let made = λ (clean : HasCleanDisk new). done.made clean (before c.self.inside.version old.now c.in-Some.start start (c.self.invariant.fits (omega (arith, done.falls, clean)) (done.opened clean))) in
    record {
      ready = ready_raised c.in-Some.start old new done.alone made;
      page = λ clean. holds_none c.empty.result _ c.empty.ensures;
      batches = λ clean. holds_no_batch c.none.result _ c.none.ensures;
      fits = fits_raised c.in-Some.start old new made;
    }

pub invariant_of-self-in-Err : goal.invariant_of-self-in-Err
invariant_of-self-in-Err g c =
    let old = state g.S.Store c.self.inside.conn in
    let new = state g.S.Store c.raise.new.conn in
    let failed = c.in-Err.ensures.done in
    let early : HasCleanDisk new → HasCleanDisk old = λ clean. omega (arith, failed.falls, clean) in
    record {
      ready = ready_kept c.self.inside.ready c.self.inside.version old new failed.alone early failed.kept c.self.invariant.ready;
      page = λ clean. holds_none c.empty.result _ c.empty.ensures;
      batches = λ clean. holds_no_batch c.none.result _ c.none.ensures;
      fits = fits_kept c.self.inside.version old new early failed.kept c.self.invariant.fits;
    }

pub returns-in-Ok-clause-stored : goal.returns-in-Ok-clause-stored
returns-in-Ok-clause-stored g c other clean =
    let old = state g.S.Store c.self.inside.conn in
    let done = c.in-Ok.ensures.done in
    let start = rw (← c.self.view_is) at c.in-Some.ensures.start in
    let made = done.made clean (before c.self.inside.version old.now c.in-Some.start start (c.self.invariant.fits (omega (arith, done.falls, clean)) (done.opened clean))) in
    rw (← c.self.view_is) (record {
      start = c.in-Some.start;
      batches = made.batches;
      from = start;
      becomes = made.becomes;
      runs = λ rows below. runs_for c.in-Some.start c.self.inside.version old made.batches rows start made.runs below;
    })

pub returns-in-Ok-clause-made : goal.returns-in-Ok-clause-made
returns-in-Ok-clause-made g c other clean rows below =
    let old = state g.S.Store c.self.inside.conn in
    let new = state g.S.Store c.raise.new.conn in
    let done = c.in-Ok.ensures.done in
    let start = rw (← c.self.view_is) at c.in-Some.ensures.start in
    let made = done.made clean (before c.self.inside.version old.now c.in-Some.start start (c.self.invariant.fits (omega (arith, done.falls, clean)) (done.opened clean))) in
    let is = raised_journal c.in-Some.start c.self.inside.version old made.batches new.now rows start made.runs (rw (← c.self.view_is) at below) made.becomes.made made.becomes.sound in
    let told = tells_journal new _ clean made.becomes.is_open is in
    record { rows = told.0; batches = told.1 }

pub returns-in-Ok-clause-alone : goal.returns-in-Ok-clause-alone
returns-in-Ok-clause-alone g c other clean db may rows below =
    let old = state g.S.Store c.self.inside.conn in
    let new = state g.S.Store c.raise.new.conn in
    let done = c.in-Ok.ensures.done in
    let start = rw (← c.self.view_is) at c.in-Some.ensures.start in
    let made = done.made clean (before c.self.inside.version old.now c.in-Some.start start (c.self.invariant.fits (omega (arith, done.falls, clean)) (done.opened clean))) in
    (new.now, raised_journal c.in-Some.start c.self.inside.version old made.batches new.now rows start made.runs (rw (← c.self.view_is) at below) made.becomes.made made.becomes.sound, done.crash clean db may)

pub returns-in-Ok-clause-left : goal.returns-in-Ok-clause-left
returns-in-Ok-clause-left g c clean db may =
    let old = state g.S.Store c.self.inside.conn in
    let new = state g.S.Store c.raise.new.conn in
    let done = c.in-Ok.ensures.done in
    let start = rw (← c.self.view_is) at c.in-Some.ensures.start in
    let made = done.made clean (before c.self.inside.version old.now c.in-Some.start start (c.self.invariant.fits (omega (arith, done.falls, clean)) (done.opened clean))) in
    let it : LeftRaised old db = λ rows below. (new.now, raised_journal c.in-Some.start c.self.inside.version old made.batches new.now rows start made.runs below made.becomes.made made.becomes.sound, done.crash clean db may) in
    rw (← c.self.view_is) (inr it)

pub returns-in-Err-clause-left : goal.returns-in-Err-clause-left
returns-in-Err-clause-left g c =
    let old = state g.S.Store c.self.inside.conn in
    let new = state g.S.Store c.raise.new.conn in
    let failed = c.in-Err.ensures.done in
    let start = rw (← c.self.view_is) at c.in-Some.ensures.start in
    let it : LeavesTrees new (λ db. old.may_leave db ⊎ LeftRaised old db) = λ clean db may. elim (failed.left clean db may) [
      | inl left ↦ inl left
      | inr became ↦
          let made = became.1 (before c.self.inside.version old.now c.in-Some.start start (c.self.invariant.fits (omega (arith, failed.falls, clean)) became.0)) in
          inr (λ rows below. (made.d, raised_journal c.in-Some.start c.self.inside.version old made.batches made.d rows start made.runs below made.made made.sound, made.is))
    ] in
    rw (← c.self.view_is) (subst (λ h. LeavesTrees (state g.S.Store h) (λ db. old.may_leave db ⊎ LeftRaised old db)) (sym c.blame.ensures.kept.conn) it)
