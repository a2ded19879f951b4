-- A listing has exactly the matching records, and a history makes its tables one entry after the other.
use Rattle.std.proofs.Common.{◌≡◌, ◌≤◌, ◌+◌, ◌-◌, ℕ, cond, List, [], ◌∷◌, ◌++◌, take, fold, length, None, refl, sym, ap, ◌∙◌, arith, All, length-append, take_all, take-take}
use Rattle.std.proofs.lemmas.List.Elements.{All-head, All-tail, All-take}
use Rattle.std.specs.FinMap.Entries.{is_sorted-where_key, find-where_key}
use Rattle.grid_types.specs.declared.update.Update.TheVariants.{Put, Remove}
use Rattle.grid_types.specs.declared.update.Entry.{Entry}
use Rattle.grid_types.specs.declared.query.Query.{Query}
use Rattle.grid_types.specs.Keys.{key_cmp}
use Rattle.grid_types.specs.Queries.{matches}
use Rattle.grid_model.specs.Tables.{Table, IsTable, IsTableOf, get, effect}
use Rattle.grid_model.specs.Lawful.{IsUpdateOf}
use Rattle.grid_model.specs.Listings.{rows}
use Rattle.grid_model.specs.Histories.{History, IsHistory, front, state_at, entry_effect, GoesOn}
use Rattle.grid_model.specs.TableLaws.{extended, MakesStates}
use Rattle.grid_model.proofs.TableLaws.{alike, update-there, removal-there}
use Rattle.grid_model.proofs.LayoutKept.{table-after}

pub rows-table : {K : ℕ} (t : Table) (q : Query K) → IsTable t → IsTable (rows t q)
unfolding rows
rows-table t q h = is_sorted-where_key key_cmp (matches q.sides) t h

pub rows-are : {K : ℕ} (t : Table) (q : Query K) (k : List ℕ) → get (rows t q) k ≡ cond (matches q.sides k) (get t k) None
unfolding rows
rows-are t q k = find-where_key key_cmp (matches q.sides) k (alike (matches q.sides) k) t

module _ {X Y : Type 0} (f : Y → X → Y) where
  -- a fold over one item more
  fold-one : (y : Y) (xs : List X) (x : X) → fold f y (xs ++ x ∷ []) ≡ f (fold f y xs) x
  fold-one y [] x = refl
  fold-one y (z ∷ xs) x = fold-one (f y z) xs x

one-longer : {X : Type 0} (xs : List X) (x : X) (a : ℕ) → length (xs ++ x ∷ []) ≤ a + length xs + 1 - a
one-longer xs x a = omega (arith, length-append xs (x ∷ []))

module _ {K : ℕ} where
  start : (h : History K) → state_at h h.from ≡ h.base
  unfolding state_at
  start h = let none : h.from - h.from ≡ 0 = omega arith in ap (λ n. fold entry_effect h.base (take n h.entries)) none

  next : (h : History K) (e : Entry K) → state_at (extended h e) (front h + 1) ≡ effect (state_at h (front h)) e.update
  unfolding state_at
  next h e =
      ap (fold entry_effect h.base) (take_all (h.from + length h.entries + 1 - h.from) (h.entries ++ e ∷ []) (one-longer h.entries e h.from))
      ∙ fold-one entry_effect h.base h.entries e
      ∙ ap (λ xs. effect (fold entry_effect h.base xs) e.update) (sym (take_all (h.from + length h.entries - h.from) h.entries (omega arith)))

  before : (h later : History K) (n : ℕ) → GoesOn h later → n ≤ front h → state_at later n ≡ state_at h n
  unfolding state_at
  before h later n g l =
      ap (λ b. fold entry_effect b (take (n - later.from) later.entries)) g.base
      ∙ ap (λ m. fold entry_effect h.base (take (n - m) later.entries)) g.from
      ∙ ap (fold entry_effect h.base) (sym (take-take (n - h.from) (length h.entries) later.entries (omega (arith, l))) ∙ ap (take (n - h.from)) g.beginning)

  -- the tables are of K attributes, from such a table on, where each update is one
  tables-from : (t : Table) (es : List (Entry K)) → IsTableOf K t → All (λ e. IsUpdateOf K e.update) es → IsTableOf K (fold entry_effect t es)
  tables-from t [] h is = h
  tables-from t (e ∷ es) h is = tables-from (effect t e.update) es (table-after t e.update h (All-head (λ (x : Entry K). IsUpdateOf K x.update) e es is)) (All-tail (λ (x : Entry K). IsUpdateOf K x.update) e es is)

  tables : (h : History K) (n : ℕ) → IsHistory h → IsTableOf K (state_at h n)
  unfolding state_at
  tables h n is = tables-from h.base (take (n - h.from) h.entries) is.base (All-take (λ (e : Entry K). IsUpdateOf K e.update) (n - h.from) h.entries is.updates)

  -- a history makes its tables one entry after the other
  pub makes-states : MakesStates K
  makes-states = record {
    start = start;
    next = next;
    put_there = λ h caller r. ap (λ t. get t r.key.numbers) (next h (record { caller = caller; update = Put r })) ∙ update-there (state_at h (front h)) r;
    removal_there = λ h caller k. ap (λ t. get t k.numbers) (next h (record { caller = caller; update = Remove k })) ∙ removal-there (state_at h (front h)) k;
    before = before;
    tables = tables;
  }
