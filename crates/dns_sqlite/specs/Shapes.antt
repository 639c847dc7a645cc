-- The shapes of a database that a journal may have.
use Rattle.std.specs.Prelude.{◌≡◌, ◌≢◌, ℕ, ℤ, Bool, true, false, List, [], codes}
use Rattle.sqlite.specs.Collation.TheVariants.{Binary}
use Rattle.sqlite.specs.declared.types.Value.TheVariants.{Null}
use Rattle.sqlite_schema.specs.declared.schema.Column.{Column}
use Rattle.sqlite_schema.specs.declared.schema.Kind.{Kind}
use Rattle.sqlite_schema.specs.declared.schema.Kind.TheVariants.{Integer}
use Rattle.sqlite.specs.Table.{Table}
use Rattle.sqlite.specs.Schema.{Schema}
use Rattle.dns_sqlite.specs.Tables.{empty_schema, version_schema, row_schema, batch_schema}
use Rattle.dns_sqlite.specs.Versions.{version_alone, version_rows}
use Rattle.dns_sqlite.specs.declared.schema.Start.{Start}
use Rattle.dns_sqlite.specs.declared.schema.Start.TheVariants as start
use Rattle.dns_sqlite.specs.declared.shape.Shape.{Shape}
use Rattle.dns_sqlite.specs.declared.shape.Shape.TheVariants.{Empty, VersionAlone, Rows, Batches, Foreign}

-- a column of this name and kind, with no default
abbrev pub column_of : List ℕ → Kind → Bool → Column
column_of name kind not_null = record {
  name = name;
  kind = kind;
  is_strict = false;
  not_null = not_null;
  default = Null;
  collation = Binary;
}

-- the first three columns of a row
abbrev pub AreNumbers : Column → Column → Column → Type 0
AreNumbers id client serial =
    (id ≡ column_of (codes "id") Integer false) × (client ≡ column_of (codes "client_id") Integer true)
    × (serial ≡ column_of (codes "soa_serial") Integer true)

-- no constraint but those of its columns
pub record IsPlainTable (t : Table) : Type 0 where
  pub uniques : t.uniques ≡ []
  pub orders : t.orders ≡ []
  pub checks : t.checks ≡ []
  pub references : t.references ≡ []
  pub computed : t.computed ≡ []
  pub places : t.stamps.places ≡ []
  pub terms : t.stamps.terms ≡ []
  pub formats : t.stamps.formats ≡ []
  pub counted : t.is_counted ≡ false

-- none of the schemas of a journal
pub record IsForeign (schema : Schema) : Type 0 where
  pub empty : schema ≢ empty_schema
  pub version_alone : schema ≢ version_schema
  pub rows : schema ≢ row_schema
  pub batches : schema ≢ batch_schema

abbrev pub IsShape : Schema → Shape → Type 0
IsShape schema Empty = schema ≡ empty_schema
IsShape schema VersionAlone = schema ≡ version_schema
IsShape schema Rows = schema ≡ row_schema
IsShape schema Batches = schema ≡ batch_schema
IsShape schema Foreign = IsForeign schema

-- from what the tables of the current version are made: no table, or those of an earlier version, where that is the version which is known
abbrev pub IsStart : Start → ℤ → Schema → Type 0
IsStart start.NoTable version schema = schema ≡ empty_schema
IsStart start.VersionAlone version schema = (schema ≡ version_schema) × (version ≡ version_alone)
IsStart start.Rows version schema = (schema ≡ row_schema) × (version ≡ version_rows)
