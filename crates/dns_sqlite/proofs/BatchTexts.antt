-- What the texts of version 2 mean.
use Rattle.std.proofs.Common.{◌≡◌, ℕ, pos, negsuc, List, [], ◌∷◌, codes, true, false, None, Ok, refl}
use Rattle.sqlite.specs.declared.types.Value.TheVariants.{Null, Int}
use Rattle.sqlite.specs.Term.{Term, lit, col, op2}
use Rattle.sqlite_sql.specs.declared.ops.BinaryOp.TheVariants as op
use Rattle.sqlite_sql.specs.declared.ops.CompareOp.TheVariants as cmp
use Rattle.sqlite.specs.Collation.TheVariants.{Binary}
use Rattle.sqlite.specs.Query.{Query, inner, end}
use Rattle.sqlite.specs.Source.TheVariants.{Values}
use Rattle.sqlite.specs.Command.TheVariants.{Insert, Select, Update, CreateTable}
use Rattle.sqlite.specs.Compile.{table_defined_by}
use Rattle.sqlite_tied.specs.Compute.{everything}
use Rattle.sqlite.specs.Listing.{understood, reads_listing}
use Rattle.sqlite.proofs.Callers.{IsPlain, command_of, statement_of}
use Rattle.dns_sqlite.specs.Versions.{version_text}
use Rattle.dns_sqlite.specs.Tables.{batches, row_schema, batch_schema, from_text, batch_text}
use Rattle.sqlite_resolve.specs.Compile.{first}
use Rattle.dns_sqlite.proofs.Selects.{bare_of}
use Rattle.dns_sqlite.proofs.Texts.{query, version_query}

abbrev pub create_batch_table : List ℕ
create_batch_table = codes "CREATE TABLE batches(first INTEGER PRIMARY KEY, count INTEGER NOT NULL)"

pub batches_is : (command_of (understood row_schema create_batch_table) ≡ CreateTable) × (statement_of create_batch_table (understood row_schema create_batch_table) ≡ create_batch_table) × (table_defined_by create_batch_table ≡ Ok (record batches { tree = 0 }))
unfolding understood everything
batches_is = (refl, refl, refl)

pub batches_plain : IsPlain (understood row_schema create_batch_table)
unfolding understood everything
batches_plain = (refl, refl)

abbrev pub put_text : List ℕ
put_text = codes "INSERT INTO batches(first, count) VALUES (?1, ?2)"

abbrev pub put_terms : List Term
put_terms = col 0 0 ∷ lit Null ∷ col 0 1 ∷ []

pub put_is : command_of (understood batch_schema put_text) ≡ Insert 2 (Values put_terms 3)
unfolding understood everything
put_is = refl

pub put_plain : IsPlain (understood batch_schema put_text)
unfolding understood everything
put_plain = (refl, refl)

abbrev pub two_text : List ℕ
two_text = codes "UPDATE tdns_schema SET version = 2"

abbrev pub two_query : Query
two_query = record {
  from = inner 0 end;
  filter = [];
  group = None;
  project = col 1 0 ∷ col 1 0 ∷ lit (Int (pos 2)) ∷ [];
  distinct = false;
  collations = [];
  order = [];
  limit = lit (Int (negsuc 0));
  offset = lit (Int (pos 0));
}

pub two_is : command_of (understood batch_schema two_text) ≡ Update 0 (record { lets = []; body = two_query })
unfolding understood everything
two_is = refl

pub two_plain : IsPlain (understood batch_schema two_text)
unfolding understood everything
two_plain = (refl, refl)

abbrev pub batches_query : Query
batches_query = record {
  from = inner 2 end;
  filter = op2 (op.Compare cmp.Ge Binary) (col 1 0) (col 0 0) ∷ [];
  group = None;
  project = col 1 0 ∷ col 1 2 ∷ [];
  distinct = false;
  collations = [];
  order = (col 1 0, record { collation = Binary; descending = false }) ∷ [];
  limit = lit (Int (pos 128));
  offset = lit (Int (pos 0));
}

pub batches_from_is : (command_of (understood batch_schema batch_text) ≡ Select (record { lets = []; body = batches_query }) (codes "first" ∷ codes "count" ∷ [])) × (reads_listing batch_schema batch_text ≡ false)
unfolding understood everything
batches_from_is = (refl, refl)

pub batches_from_plain : IsPlain (understood batch_schema batch_text)
unfolding understood everything
batches_from_plain = (refl, refl)

-- a query, so it returns nothing that is written
pub batch_bare : bare_of (first batch_text) ≡ true
unfolding everything
batch_bare = refl

-- texts of earlier versions, under the schema of version 2

pub from_is2 : (command_of (understood batch_schema from_text) ≡ Select (record { lets = []; body = query }) (codes "id" ∷ codes "client_id" ∷ codes "soa_serial" ∷ codes "timestamp" ∷ codes "record" ∷ [])) × (reads_listing batch_schema from_text ≡ false)
unfolding understood everything
from_is2 = (refl, refl)

pub from_plain2 : IsPlain (understood batch_schema from_text)
unfolding understood everything
from_plain2 = (refl, refl)

pub version_is2 : (command_of (understood batch_schema version_text) ≡ Select (record { lets = []; body = version_query }) (codes "rowid" ∷ codes "version" ∷ [])) × (reads_listing batch_schema version_text ≡ false)
unfolding understood everything
version_is2 = (refl, refl)

pub version_plain2 : IsPlain (understood batch_schema version_text)
unfolding understood everything
version_plain2 = (refl, refl)
