use Rattle.std.proofs.Common.{◌≡◌, false, Some, None, rules}
use Rattle.sqlite.specs.Held.{state}
use Rattle.dns_sqlite.specs.Versions.{has_versions, version_of}
use Rattle.dns_sqlite.proofs.Versions.{not_there, version_hides, fits_table, lacks}
use Rattle.dns_sqlite.proofs.version.select_schema_version.Goals as goal

pub returns-then-not-has_versions-clause-fits : goal.returns-then-not-has_versions-clause-fits
returns-then-not-has_versions-clause-fits g c clean has =
    let none : has_versions c.args.conn.now.schema ≡ false = search rules in
    absurd (not_there c.args.conn.now.schema none has)

pub returns-in-Some-clause-fits : goal.returns-in-Some-clause-fits
returns-in-Some-clause-fits g c clean has =
    let rows = c.in_ok-rows.rows.items in
    let shown : version_of rows ≡ Some c.in-Some.version = search rules in
    fits_table ((state g.S.Store c.args.conn.now).now.trees 0) rows c.in-Some.version ((c.in_ok-rows.ensures.rows clean).1 has) shown

pub returns-clause-none : goal.returns-clause-none
returns-clause-none g c clean is =
    let rows = c.in_ok-rows.rows.items in
    let tree = (state g.S.Store c.args.conn.now).now.trees 0 in
    let tells = c.in_ok-rows.ensures.rows clean in
    let none : version_of rows ≡ None = search rules in
    record {
      there = search rules;
      shown = (rows, tells.0, none);
      apart = λ has n known. lacks tree rows n (tells.1 has) (version_hides rows n none known);
    }
