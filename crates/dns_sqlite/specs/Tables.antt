-- The tables of a journal.
use Rattle.std.specs.Prelude.{◌≡◌, Bool, filter, map, take, true, false, [], ◌∷◌, None, Some, codes, List, ℕ, ℤ}
use Rattle.sqlite.specs.Collation.TheVariants.{Binary}
use Rattle.sqlite.specs.declared.types.Value.TheVariants.{Null, Int, Text as Words, Blob as Octets}
use Rattle.sqlite.specs.Order.{Row, column}
use Rattle.std.specs.List.Sorted.{IsPermutation, IsSorted}
use Rattle.std.specs.Ordering.{on}
use Rattle.std.specs.declared.cmp.Ordering.{Ordering}
use Rattle.sqlite.specs.Ops.{binary, is_true}
use Rattle.sqlite.specs.Query.{key_cmp}
use Rattle.sqlite_sql.specs.declared.ops.BinaryOp.TheVariants as op
use Rattle.sqlite_sql.specs.declared.ops.CompareOp.TheVariants as cmp
use Rattle.sqlite.specs.Table.{Table}
use Rattle.sqlite.specs.Schema.{Schema}
use Rattle.sqlite.specs.Kind.TheVariants.{Integer, Text, Any}
use Rattle.dns_keeper.specs.declared.batch_row.BatchRow.{BatchRow}

-- tdns_schema(version INTEGER NOT NULL)
abbrev pub versions : Table
versions = record {
  name = codes "tdns_schema";
  tree = 0;
  columns = (record {
    name = codes "version";
    kind = Integer;
    is_strict = false;
    not_null = true;
    default = Null;
    collation = Binary;
  }) ∷ [];
  key = None;
  primary = [];
  uniques = [];
  orders = [];
  checks = [];
  references = [];
  computed = [];
  stamps = record { places = []; terms = []; formats = [] };
  is_counted = false;
}

-- records(id INTEGER PRIMARY KEY, client_id INTEGER NOT NULL, soa_serial INTEGER NOT NULL, timestamp TEXT NOT NULL,
-- record BLOB NOT NULL)
abbrev pub records : Table
records = record {
  name = codes "records";
  tree = 1;
  columns = (record { name = codes "id"; kind = Integer; is_strict = false; not_null = false; default = Null; collation = Binary })
      ∷ (record { name = codes "client_id"; kind = Integer; is_strict = false; not_null = true; default = Null; collation = Binary })
      ∷ (record { name = codes "soa_serial"; kind = Integer; is_strict = false; not_null = true; default = Null; collation = Binary })
      ∷ (record { name = codes "timestamp"; kind = Text; is_strict = false; not_null = true; default = Null; collation = Binary })
      ∷ (record { name = codes "record"; kind = Any; is_strict = false; not_null = true; default = Null; collation = Binary }) ∷ [];
  key = Some 0;
  primary = 0 ∷ [];
  uniques = [];
  orders = [];
  checks = [];
  references = [];
  computed = [];
  stamps = record { places = []; terms = []; formats = [] };
  is_counted = false;
}

-- batches(first INTEGER PRIMARY KEY, count INTEGER NOT NULL)
abbrev pub batches : Table
batches = record {
  name = codes "batches";
  tree = 2;
  columns = (record { name = codes "first"; kind = Integer; is_strict = false; not_null = false; default = Null; collation = Binary })
      ∷ (record { name = codes "count"; kind = Integer; is_strict = false; not_null = true; default = Null; collation = Binary }) ∷ [];
  key = Some 0;
  primary = 0 ∷ [];
  uniques = [];
  orders = [];
  checks = [];
  references = [];
  computed = [];
  stamps = record { places = []; terms = []; formats = [] };
  is_counted = false;
}

-- no table
abbrev pub empty_schema : Schema
empty_schema = record { tables = []; indexes = []; views = [] }

-- the table of the version alone
abbrev pub version_schema : Schema
version_schema = record { tables = versions ∷ []; indexes = []; views = [] }

-- the tables of the version and of the rows
abbrev pub row_schema : Schema
row_schema = record { tables = versions ∷ records ∷ []; indexes = []; views = [] }

-- the tables of the version, of the rows and of the batches
abbrev pub batch_schema : Schema
batch_schema = record { tables = versions ∷ records ∷ batches ∷ []; indexes = []; views = [] }

-- a row as it is stored: its rowid, and then its columns, of which the key is kept as NULL
abbrev pub stored : ℤ → ℤ → ℤ → List ℕ → List ℕ → Row
stored id client serial stamp bytes = Int id ∷ Null ∷ Int client ∷ Int serial ∷ Words stamp ∷ Octets bytes ∷ []

-- as a query shows it
abbrev pub shown : ℤ → ℤ → ℤ → List ℕ → List ℕ → Row
shown id client serial stamp bytes = Int id ∷ Int client ∷ Int serial ∷ Words stamp ∷ Octets bytes ∷ []

-- the id of the row is not below this one, as the query tests it
abbrev pub not_below : ℤ → Row → Bool
not_below id row = is_true (binary (op.Compare cmp.Ge Binary) (column row 0) (Int id))

-- what a row is sorted by, and what is shown of it: its rowid, and all but the key
abbrev pub seen : Row → Row × Row
seen row = (column row 0 ∷ [], column row 0 ∷ column row 2 ∷ column row 3 ∷ column row 4 ∷ column row 5 ∷ [])

-- the order of what was found, by rowid
abbrev pub by_key : Row × Row → Row × Row → Ordering
by_key = on (λ (o : Row × Row). o.0) (key_cmp 0 ((record { collation = Binary; descending = false }) ∷ []))

-- so many of the rows that are not below, or as many as there are, in the order of their ids
abbrev pub HasRows : ℕ → ℤ → List Row → List Row → Type 0
HasRows count id rows found =
    (ordered : List (Row × Row)) × IsPermutation (map seen (filter (not_below id) rows)) ordered
    × IsSorted by_key ordered × (found ≡ take count (map (λ (o : Row × Row). o.1) ordered))

-- the first of them
abbrev pub HasRow : ℤ → List Row → List Row → Type 0
HasRow = HasRows 1

-- the query for the rows from an id on
abbrev pub from_text : List ℕ
from_text = codes "SELECT id, client_id, soa_serial, timestamp, record FROM records WHERE id >= ?1 ORDER BY id LIMIT 128"

-- ---- batches

-- a batch as it is stored: its first id is the rowid, and the key is kept as NULL
abbrev pub stored_batch : BatchRow → Row
stored_batch b = Int b.first ∷ Null ∷ Int b.count ∷ []

-- what a batch is sorted by, and what is shown of it
abbrev pub batch_seen : Row → Row × Row
batch_seen r = (column r 0 ∷ [], column r 0 ∷ column r 2 ∷ [])

-- 128 of the batches whose firsts are not below this id, or as many as there are, in the order of their firsts
abbrev pub HasBatchesFrom : ℤ → List Row → List Row → Type 0
HasBatchesFrom id rows found =
    (ordered : List (Row × Row)) × IsPermutation (map batch_seen (filter (not_below id) rows)) ordered
    × IsSorted by_key ordered × (found ≡ take 128 (map (λ (o : Row × Row). o.1) ordered))

-- what a query shows of a batch
abbrev pub shown_batch : BatchRow → Row
shown_batch b = Int b.first ∷ Int b.count ∷ []

-- the query for the batches from an id on
abbrev pub batch_text : List ℕ
batch_text = codes "SELECT first, count FROM batches WHERE first >= ?1 ORDER BY first LIMIT 128"
