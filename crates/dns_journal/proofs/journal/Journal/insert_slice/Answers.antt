use Rattle.std.proofs.Common.{◌≡◌, ◌∙◌, ◌<◌, [], length, map, true, Ok, Err, refl, sym, ap, subst, rules, arith}
use Rattle.std.proofs.lemmas.Bool.{eqb-true}
use Rattle.sqlite.specs.Held.{state}
use Rattle.sqlite.specs.State.{HasCleanDisk}
use Rattle.dns_wire.specs.WireFormat.{record_bytes}
use Rattle.dns_sqlite.specs.Statements.{HasTables}
use Rattle.dns_sqlite.proofs.Streams.{not_none}
use Rattle.dns_keeper.specs.Keeping.{IsStampFor}
use Rattle.dns_journal.specs.Told.{View, IsReady}
use Rattle.dns_journal.specs.Inserts.{Inserts}
use Rattle.dns_journal.proofs.Telling.{stamp_for, ready_grown, fits_grown, ready_kept, fits_kept}
use Rattle.dns_journal.proofs.Pages.{holds_none}
use Rattle.dns_journal.proofs.BatchPages.{holds_no_batch}
use Rattle.dns_sqlite.specs.Versions.{current_version}
use Rattle.dns_journal.proofs.Asking.{stays_is, is_current}
use Rattle.dns_journal.proofs.Inserting.{inserts_batch, inserts_no_batch, inserts_none, some_records, no_records, refuses_by}
use Rattle.dns_journal.proofs.journal.Journal.insert_slice.Goals as goal

pub invariant_of-self : goal.invariant_of-self
invariant_of-self g c =
    let old = state g.S.Store c.self.inside.conn in
    let new = state g.S.Store c.insert_batch.new.conn in
    let version = c.self.inside.version in
    let done = c.in-Ok.ensures.done in
    let is : c.self.inside.ready ≡ true = search rules in
    let ready : IsReady true version old = subst (λ b. IsReady b version old) is c.self.invariant.ready in
    let has : HasCleanDisk new → HasTables old.now = λ clean. ready.2 (omega (arith, done.falls, clean)) (done.opened clean) in
    record {
      ready = subst (λ b. IsReady b version new) (sym is) (ready_grown version old new ready done.alone (λ clean live. (done.made clean (has clean)).grown.schema));
      page = λ clean. holds_none c.empty.result _ c.empty.ensures;
      batches = λ clean. holds_no_batch c.none.result _ c.none.ensures;
      fits = λ clean live.
          fits_grown version c.args.client c.args.soa_serial c.as_str.result.now c.as_slice.result.now old.now new.now (has clean) (c.self.invariant.fits (omega (arith, done.falls, clean)) (done.opened clean)) (done.made clean (has clean)).grown;
    }

pub invariant_of-self-in-Err : goal.invariant_of-self-in-Err
invariant_of-self-in-Err g c =
    let old = state g.S.Store c.self.inside.conn in
    let new = state g.S.Store c.insert_batch.new.conn in
    let failed = c.in-Err.ensures.done in
    record {
      ready = ready_kept c.self.inside.ready c.self.inside.version old new c.self.invariant.ready (λ _. failed.alone) failed.falls (λ clean live. let k = failed.kept clean live in (k.0, k.1));
      page = λ clean. holds_none c.empty.result _ c.empty.ensures;
      batches = λ clean. holds_no_batch c.none.result _ c.none.ensures;
      fits = fits_kept c.self.inside.version old new c.self.invariant.fits failed.falls (λ clean live. let k = failed.kept clean live in (k.0, k.1));
    }

pub returns-then-is_empty : goal.returns-then-is_empty
returns-then-is_empty g c =
    let records = c.args.records.now in
    let is : c.self.inside.ready ≡ true = search rules in
    let items = c.in_ok-all.ensures.ok.0 in
    let none : records ≡ [] = no_records records (omega (arith, c.in_ok-all.all.ok, ap length items, eqb-true c.in_ok-all.all.len 0 (sym c.is_empty.ensures ∙ c.if-is_empty.true))) in
    let current : c.args.self.now.version ≡ current_version = rw (← c.self.view_is) (is_current c.self.inside.ready c.self.inside.version (state g.S.Store c.self.inside.conn) is c.self.invariant.ready) in
    let ready : c.args.self.now.is_ready ≡ true = rw (← c.self.view_is) is in
    record {
      inserted = subst (λ rs. Inserts g.S.Store c.args.self.now c.args.self.now c.args.client c.args.soa_serial c.args.moment rs (Ok tt)) (sym none)
          (inserts_none g.S.Store c.args.client c.args.soa_serial c.args.moment c.args.self.now current ready);
    }

pub returns-in-Ok : goal.returns-in-Ok
returns-in-Ok g c =
    let records = c.args.records.now in
    let is : c.self.inside.ready ≡ true = search rules in
    let ready : IsReady true c.self.inside.version (state g.S.Store c.self.inside.conn) = subst (λ b. IsReady b c.self.inside.version (state g.S.Store c.self.inside.conn)) is c.self.invariant.ready in
    let stamped : IsStampFor c.args.moment records c.as_str.result.now = stamp_for c.args.moment records c.as_str.result.now (rw c.as_str.ensures.value c.in_ok-stamp.ensures) in
    let encoded = c.in_ok-all.ensures.ok in
    let items : c.as_slice.result.now ≡ map record_bytes records = c.as_slice.ensures.value ∙ encoded.0 in
    let some : 0 < length c.in_ok-all.all.items = omega (arith, c.in_ok-all.all.ok, not_none c.in_ok-all.all.len (sym c.is_empty.ensures ∙ c.if-is_empty.false)) in
    let it =
    inserts_batch g.S.Store c.args.client c.args.soa_serial c.args.moment records (some_records records (rw encoded.0 at some)) c.as_str.result.now stamped c.self.inside.conn c.insert_batch.new.conn c.self.inside.version c.self.inside.faults c.self.inside.faults ready _ encoded.1
    (rw items at c.in-Ok.ensures.done) refl in
    record { inserted = rw (← c.self.view_is, is) it }

pub returns : goal.returns
returns g c =
    let records = c.args.records.now in
    let is : c.self.inside.ready ≡ true = search rules in
    let ready : IsReady true c.self.inside.version (state g.S.Store c.self.inside.conn) = subst (λ b. IsReady b c.self.inside.version (state g.S.Store c.self.inside.conn)) is c.self.invariant.ready in
    let stamped : IsStampFor c.args.moment records c.as_str.result.now = stamp_for c.args.moment records c.as_str.result.now (rw c.as_str.ensures.value c.in_ok-stamp.ensures) in
    let encoded = c.in_ok-all.ensures.ok in
    let items : c.as_slice.result.now ≡ map record_bytes records = c.as_slice.ensures.value ∙ encoded.0 in
    let some : 0 < length c.in_ok-all.all.items = omega (arith, c.in_ok-all.all.ok, not_none c.in_ok-all.all.len (sym c.is_empty.ensures ∙ c.if-is_empty.false)) in
    let old : View g.row.S.Denot = record { conn = c.self.inside.conn; version = c.self.inside.version; is_ready = c.self.inside.ready; faults = c.self.inside.faults } in
    let mid : View g.row.S.Denot = record { conn = c.insert_batch.new.conn; version = c.self.inside.version; is_ready = c.self.inside.ready; faults = c.self.inside.faults } in
    let made =
    inserts_no_batch g.S.Store c.args.client c.args.soa_serial c.args.moment records (some_records records (rw encoded.0 at some)) c.as_str.result.now stamped c.self.inside.conn c.insert_batch.new.conn c.self.inside.version c.self.inside.faults c.blame.new.self.faults ready c.in-Err.error c.blame.result encoded.1
    (rw items at c.in-Err.ensures.done) (refuses_by records c.blame.result c.blame.ensures.named) c.blame.ensures.later c.blame.ensures.counts in
    let it : Inserts g.S.Store old (record mid { faults = c.blame.new.self.faults }) c.args.client c.args.soa_serial c.args.moment records (Err c.blame.result) = rw is made in
    record {
      inserted = rw (← c.self.view_is) (subst (λ j. Inserts g.S.Store old j c.args.client c.args.soa_serial c.args.moment records (Err c.blame.result)) (sym (stays_is g.S.Store mid c.blame.new.self c.blame.ensures.kept)) it);
    }
