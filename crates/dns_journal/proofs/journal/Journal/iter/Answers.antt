use Rattle.std.proofs.Common.{◌≡◌, ◌+ℤ◌, ◌++◌, ◌∷◌, [], pos, true, Err, ap, sym, subst, ◌∙◌, to_z, w64, rules}
use Rattle.std.proofs.lemmas.Int.{to_z-of_z}
use Rattle.sqlite.specs.Held.{state}
use Rattle.dns_journal.specs.declared.error.PersistenceError.TheVariants.{OutOfMemory}
use Rattle.dns_sqlite.specs.Versions.{current_version}
use Rattle.dns_journal.specs.Selects.{SelectsAll}
use Rattle.dns_journal.proofs.Iterating.{begins, goes_on, ends, ends_full, breaks, wants}
use Rattle.dns_journal.proofs.Asking.{is_current}
use Rattle.dns_journal.proofs.journal.Journal.iter.Goals as goal

pub loop-init : goal.loop-init
loop-init g c = rw (← c.self.view_is, c.new-records.ensures.items) (begins g.S.Store (record { conn = c.self.inside.conn; version = c.self.inside.version; is_ready = c.self.inside.ready; faults = c.self.inside.faults }))

pub loop-preserved : goal.loop-preserved
loop-preserved g c =
    let one = rw c.in-Ok-Some.field-0-is at c.in-Ok-Some.ensures.selected in
    let step = goes_on g.S.Store _ c.loop.self c.select_record.new.self (to_z w64 c.loop.from-bits) c.in-Ok-Some.found.0 c.loop.records.items c.in-Ok-Some.found.1 c.loop.invariant one in
    let z = to_z-of_z w64 c.in-Ok-Some.found.0 one.fits in
    rw (c.in_ok-push.ensures.items, to_z-of_z w64 c.in-Some.next c.in-Some.ensures.fits, c.in-Some.ensures.some, z) step

pub returns-in-Ok-None : goal.returns-in-Ok-None
returns-in-Ok-None g c =
    let is : c.self.inside.ready ≡ true = search rules in
    let ready : c.args.self.now.is_ready ≡ true = rw (← c.self.view_is) is in
    let current : c.args.self.now.version ≡ current_version = rw (← c.self.view_is) (is_current c.self.inside.ready c.self.inside.version (state g.S.Store c.self.inside.conn) is c.self.invariant.ready) in
    let last = rw c.in-Ok-None.field-0-is at c.in-Ok-None.ensures.selected in
    record { selected = rw c.new.ensures (ends g.S.Store c.args.self.now c.loop.self c.select_record.new.self (to_z w64 c.loop.from-bits) c.loop.records.items c.loop.invariant current ready last) }

pub returns-in-Err : goal.returns-in-Err
returns-in-Err g c =
    let is : c.self.inside.ready ≡ true = search rules in
    let ready : c.args.self.now.is_ready ≡ true = rw (← c.self.view_is) is in
    let current : c.args.self.now.version ≡ current_version = rw (← c.self.view_is) (is_current c.self.inside.ready c.self.inside.version (state g.S.Store c.self.inside.conn) is c.self.invariant.ready) in
    record { selected = breaks g.S.Store c.args.self.now c.loop.self c.select_record.new.self (to_z w64 c.loop.from-bits) c.loop.records.items c.loop.invariant current ready c.in-Err.error c.in-Err.ensures.selected }

pub returns-in-None : goal.returns-in-None
returns-in-None g c =
    let is : c.self.inside.ready ≡ true = search rules in
    let ready : c.args.self.now.is_ready ≡ true = rw (← c.self.view_is) is in
    let current : c.args.self.now.version ≡ current_version = rw (← c.self.view_is) (is_current c.self.inside.ready c.self.inside.version (state g.S.Store c.self.inside.conn) is c.self.invariant.ready) in
    let one = rw c.in-Ok-Some.field-0-is at c.in-Ok-Some.ensures.selected in
    let now = c.select_record.new.self in
    let step = goes_on g.S.Store _ c.loop.self now (to_z w64 c.loop.from-bits) c.in-Ok-Some.found.0 c.loop.records.items c.in-Ok-Some.found.1 c.loop.invariant one in
    let z = to_z-of_z w64 c.in-Ok-Some.found.0 one.fits in
    let last = ap (λ n. n +ℤ pos 1) (sym z ∙ c.in-None.ensures.none) in
    record { selected = rw (c.new-in-None.ensures, c.in_ok-push.ensures.items) (ends_full g.S.Store c.args.self.now now now (c.in-Ok-Some.found.0 +ℤ pos 1) (c.loop.records.items ++ c.in-Ok-Some.found.1 ∷ []) step current ready last) }

pub returns-in_err-push : goal.returns-in_err-push
returns-in_err-push g c =
    let is : c.self.inside.ready ≡ true = search rules in
    let ready : c.args.self.now.is_ready ≡ true = rw (← c.self.view_is) is in
    let current : c.args.self.now.version ≡ current_version = rw (← c.self.view_is) (is_current c.self.inside.ready c.self.inside.version (state g.S.Store c.self.inside.conn) is c.self.invariant.ready) in
    let one = rw c.in-Ok-Some.field-0-is at c.in-Ok-Some.ensures.selected in
    let now = c.select_record.new.self in
    let step = goes_on g.S.Store _ c.loop.self now (to_z w64 c.loop.from-bits) c.in-Ok-Some.found.0 c.loop.records.items c.in-Ok-Some.found.1 c.loop.invariant one in
    let bad : c.from_residual.result ≡ Err OutOfMemory = search rules in
    record { selected = subst (SelectsAll g.S.Store c.args.self.now now) (sym bad) (wants g.S.Store c.args.self.now now now (c.in-Ok-Some.found.0 +ℤ pos 1) (c.loop.records.items ++ c.in-Ok-Some.found.1 ∷ []) step current ready) }

pub returns : goal.returns
returns g c =
    let is : c.self.inside.ready ≡ true = search rules in
    let ready : c.args.self.now.is_ready ≡ true = rw (← c.self.view_is) is in
    let current : c.args.self.now.version ≡ current_version = rw (← c.self.view_is) (is_current c.self.inside.ready c.self.inside.version (state g.S.Store c.self.inside.conn) is c.self.invariant.ready) in
    record { selected = wants g.S.Store c.args.self.now c.loop.self c.loop.self (to_z w64 c.loop.from-bits) c.loop.records.items c.loop.invariant current ready }
