-- What a table shows of a query.
use Rattle.std.specs.Prelude.{ℕ}
use Rattle.std.specs.FinMap.Entries.{where_key}
use Rattle.grid_types.specs.declared.query.Query.{Query}
use Rattle.grid_types.specs.Keys.{key_cmp}
use Rattle.grid_types.specs.Queries.{matches}
use Rattle.grid_model.specs.Tables.{Table}

-- the records that match, in the order of their keys
unfoldable pub rows : {K : ℕ} → Table → Query K → Table
rows t q = where_key key_cmp (matches q.sides) t
