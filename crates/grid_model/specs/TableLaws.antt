-- What the definitions of tables, listings and states promise.
use Rattle.std.specs.Prelude.{◌≡◌, ◌≢◌, ◌+◌, ◌≤◌, ℕ, List, ◌∷◌, [], ◌++◌, if◌then◌else◌, Some, None}
use Rattle.grid_types.specs.declared.key.Key.{Key}
use Rattle.grid_types.specs.declared.update.Record.{Record}
use Rattle.grid_types.specs.declared.update.Update.{Update}
use Rattle.grid_types.specs.declared.update.Update.TheVariants.{Put, Remove}
use Rattle.grid_types.specs.declared.update.Entry.{Entry}
use Rattle.grid_types.specs.declared.query.Query.{Query}
use Rattle.grid_types.specs.Queries.{matches}
use Rattle.grid_model.specs.Tables.{Table, IsTable, IsTableOf, get, with_data, without, effect}
use Rattle.grid_model.specs.Listings.{rows}
use Rattle.grid_model.specs.Histories.{History, IsHistory, front, state_at, GoesOn}

-- a table is a finite map: two tables with the same answers are one, and an update changes the answer at its key alone
pub record IsFiniteMap (K : ℕ) : Type 0 where
  pub same : (s t : Table) → IsTable s → IsTable t → ((k : List ℕ) → get s k ≡ get t k) → s ≡ t
  pub kept : (t : Table) (u : Update K) → IsTable t → IsTable (effect t u)
  pub put_there : (t : Table) (k d : List ℕ) → get (with_data t k d) k ≡ Some d
  pub put_elsewhere : (t : Table) (k d q : List ℕ) → q ≢ k → get (with_data t k d) q ≡ get t q
  pub gone_there : (t : Table) (k : List ℕ) → get (without t k) k ≡ None
  pub gone_elsewhere : (t : Table) (k q : List ℕ) → k ≢ q → get (without t k) q ≡ get t q
  pub update_there : (t : Table) (r : Record K) → get (effect t (Put r)) r.key.numbers ≡ Some r.value
  pub update_elsewhere : (t : Table) (r : Record K) (q : List ℕ) → q ≢ r.key.numbers → get (effect t (Put r)) q ≡ get t q
  pub removal_there : (t : Table) (k : Key K) → get (effect t (Remove k)) k.numbers ≡ None
  pub removal_elsewhere : (t : Table) (k : Key K) (q : List ℕ) → k.numbers ≢ q → get (effect t (Remove k)) q ≡ get t q

-- a listing ascends, so that each record stands in it once, and has exactly the records that match
pub record Lists (K : ℕ) : Type 0 where
  pub ascends : (t : Table) (q : Query K) → IsTable t → IsTable (rows t q)
  pub matching : (t : Table) (q : Query K) (k : List ℕ) → get (rows t q) k ≡ (if matches q.sides k then get t k else None)

-- a history with one more entry
abbrev pub extended : {K : ℕ} → History K → Entry K → History K
extended h e = record h { entries = h.entries ++ e ∷ [] }

-- a history's table is the base table where it begins, each entry changes it by its update, what comes later changes no earlier table, and a history of tables has a table of K attributes at each place
pub record MakesStates (K : ℕ) : Type 0 where
  pub start : (h : History K) → state_at h h.from ≡ h.base
  pub next : (h : History K) (e : Entry K) → state_at (extended h e) (front h + 1) ≡ effect (state_at h (front h)) e.update
  pub put_there : (h : History K) (caller : ℕ) (r : Record K) → get (state_at (extended h (record { caller = caller; update = Put r })) (front h + 1)) r.key.numbers ≡ Some r.value
  pub removal_there : (h : History K) (caller : ℕ) (k : Key K) → get (state_at (extended h (record { caller = caller; update = Remove k })) (front h + 1)) k.numbers ≡ None
  pub before : (h later : History K) (n : ℕ) → GoesOn h later → n ≤ front h → state_at later n ≡ state_at h n
  pub tables : (h : History K) (n : ℕ) → IsHistory h → IsTableOf K (state_at h n)
