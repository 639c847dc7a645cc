-- What the texts of the statements mean.
use Rattle.std.proofs.Common.{◌≡◌, ℕ, pos, negsuc, List, [], ◌∷◌, codes, false, None, Ok, refl}
use Rattle.sqlite.specs.declared.types.Value.TheVariants.{Null, Int}
use Rattle.sqlite.specs.Term.{Term, lit, col, op2}
use Rattle.sqlite_sql.specs.declared.ops.BinaryOp.TheVariants as op
use Rattle.sqlite_sql.specs.declared.ops.CompareOp.TheVariants as cmp
use Rattle.sqlite.specs.Collation.TheVariants.{Binary}
use Rattle.sqlite.specs.Query.{Query, inner, end}
use Rattle.sqlite.specs.Source.TheVariants.{Values}
use Rattle.sqlite.specs.Command.TheVariants.{Insert, Select, Update, CreateTable}
use Rattle.sqlite.specs.Compile.{table_defined_by}
use Rattle.sqlite_tied.specs.Compute.{everything}
use Rattle.sqlite.specs.Listing.{understood, reads_listing}
use Rattle.sqlite.proofs.Callers.{IsPlain, command_of, statement_of}
use Rattle.dns_sqlite.specs.Versions.{version_text}
use Rattle.dns_sqlite.specs.Tables.{versions, records, row_schema, batch_schema, version_schema, empty_schema}
pub use Rattle.dns_sqlite.specs.Tables.{from_text}

abbrev pub create_version_table : List ℕ
create_version_table = codes "CREATE TABLE tdns_schema(version INTEGER NOT NULL)"

abbrev pub create_record_table : List ℕ
create_record_table = codes "CREATE TABLE records(id INTEGER PRIMARY KEY, client_id INTEGER NOT NULL, soa_serial INTEGER NOT NULL, timestamp TEXT NOT NULL, record BLOB NOT NULL)"

abbrev pub insert_text : List ℕ
insert_text = codes "INSERT INTO records(client_id, soa_serial, timestamp, record) VALUES (?1, ?2, ?3, ?4)"

pub versions_is : (command_of (understood empty_schema create_version_table) ≡ CreateTable) × (statement_of create_version_table (understood empty_schema create_version_table) ≡ create_version_table) × (table_defined_by create_version_table ≡ Ok (record versions { tree = 0 }))
unfolding understood everything
versions_is = (refl, refl, refl)

pub records_is : (command_of (understood version_schema create_record_table) ≡ CreateTable) × (statement_of create_record_table (understood version_schema create_record_table) ≡ create_record_table) × (table_defined_by create_record_table ≡ Ok (record records { tree = 0 }))
unfolding understood everything
records_is = (refl, refl, refl)

abbrev pub terms : List Term
terms = lit Null ∷ lit Null ∷ col 0 0 ∷ col 0 1 ∷ col 0 2 ∷ col 0 3 ∷ []

pub insert_is : command_of (understood batch_schema insert_text) ≡ Insert 1 (Values terms 6)
unfolding understood everything
insert_is = refl

abbrev pub query : Query
query = record {
  from = inner 1 end;
  filter = op2 (op.Compare cmp.Ge Binary) (col 1 0) (col 0 0) ∷ [];
  group = None;
  project = col 1 0 ∷ col 1 2 ∷ col 1 3 ∷ col 1 4 ∷ col 1 5 ∷ [];
  distinct = false;
  collations = [];
  order = (col 1 0, record { collation = Binary; descending = false }) ∷ [];
  limit = lit (Int (pos 128));
  offset = lit (Int (pos 0));
}

pub from_is : (command_of (understood row_schema from_text) ≡ Select (record { lets = []; body = query }) (codes "id" ∷ codes "client_id" ∷ codes "soa_serial" ∷ codes "timestamp" ∷ codes "record" ∷ [])) × (reads_listing row_schema from_text ≡ false)
unfolding understood everything
from_is = (refl, refl)

pub insert_plain : IsPlain (understood batch_schema insert_text)
unfolding understood everything
insert_plain = (refl, refl)

pub from_plain : IsPlain (understood row_schema from_text)
unfolding understood everything
from_plain = (refl, refl)

pub versions_plain : IsPlain (understood empty_schema create_version_table)
unfolding understood everything
versions_plain = (refl, refl)

pub records_plain : IsPlain (understood version_schema create_record_table)
unfolding understood everything
records_plain = (refl, refl)

abbrev pub fill_text : List ℕ
fill_text = codes "INSERT INTO tdns_schema VALUES (0)"

abbrev pub fill_terms : List Term
fill_terms = lit Null ∷ lit (Int (pos 0)) ∷ []

pub fill_is : command_of (understood version_schema fill_text) ≡ Insert 0 (Values fill_terms 2)
unfolding understood everything
fill_is = refl

pub fill_plain : IsPlain (understood version_schema fill_text)
unfolding understood everything
fill_plain = (refl, refl)

abbrev pub raise_text : List ℕ
raise_text = codes "UPDATE tdns_schema SET version = 1"

abbrev pub raise_query : Query
raise_query = record {
  from = inner 0 end;
  filter = [];
  group = None;
  project = col 1 0 ∷ col 1 0 ∷ lit (Int (pos 1)) ∷ [];
  distinct = false;
  collations = [];
  order = [];
  limit = lit (Int (negsuc 0));
  offset = lit (Int (pos 0));
}

pub raise_is : command_of (understood row_schema raise_text) ≡ Update 0 (record { lets = []; body = raise_query })
unfolding understood everything
raise_is = refl

pub raise_plain : IsPlain (understood row_schema raise_text)
unfolding understood everything
raise_plain = (refl, refl)

abbrev pub version_query : Query
version_query = record {
  from = inner 0 end;
  filter = [];
  group = None;
  project = col 1 0 ∷ col 1 1 ∷ [];
  distinct = false;
  collations = [];
  order = [];
  limit = lit (Int (negsuc 0));
  offset = lit (Int (pos 0));
}

pub half_version_is : (command_of (understood version_schema version_text) ≡ Select (record { lets = []; body = version_query }) (codes "rowid" ∷ codes "version" ∷ [])) × (reads_listing version_schema version_text ≡ false)
unfolding understood everything
half_version_is = (refl, refl)

pub whole_version_is : (command_of (understood row_schema version_text) ≡ Select (record { lets = []; body = version_query }) (codes "rowid" ∷ codes "version" ∷ [])) × (reads_listing row_schema version_text ≡ false)
unfolding understood everything
whole_version_is = (refl, refl)

pub half_version_plain : IsPlain (understood version_schema version_text)
unfolding understood everything
half_version_plain = (refl, refl)

pub whole_version_plain : IsPlain (understood row_schema version_text)
unfolding understood everything
whole_version_plain = (refl, refl)
